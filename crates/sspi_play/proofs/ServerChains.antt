-- A server's context, after its turns: once it made or verified a MIC, it keeps a list that it
-- was given, and has selected the mechanism that it picks from that.
use Rattle.std.proofs.Common.{◌≡◌, ℕ, Bool, true, false, List, [], ◌∷◌, map, Option, None, Some, Result, Err}
use Rattle.std.proofs.Common.{refl, sym, ◌∙◌, ap, subst}
use Rattle.sspi_types.specs.declared.credential_use.CredentialUse.TheVariants.{Inbound}
use Rattle.sspi_types.specs.declared.error.Error.{Error}
use Rattle.sspi_types.specs.declared.security_status.SecurityStatus.{SecurityStatus}
use Rattle.sspi_types.specs.declared.security_status.SecurityStatus.TheVariants as statuses
use Rattle.sspi_names.specs.declared.credentials.Credentials.TheVariants as credentials
use Rattle.sspi_names.specs.declared.credentials.CredentialsBuffers.{CredentialsBuffers}
use Rattle.sspi_mech.specs.declared.step.Step.{Step}
use Rattle.sspi_mech.specs.Laws.{IsMechanism}
use Rattle.sspi_mech.specs.Meaning.{Meaning}
use Rattle.sspi_mech.specs.Settings.{Setting}
use Rattle.sspi_credssp.specs.declared.context.SspiContext.{SspiContext}
use Rattle.sspi_credssp.specs.declared.turn.Outcome.{Outcome}
use Rattle.sspi_credssp.specs.declared.turn.Outcome.TheVariants as outcome
use Rattle.sspi_credssp.specs.declared.turn.Turn.{Turn}
use Rattle.sspi_credssp.specs.Context.{Begun, IfContext, either}
use Rattle.sspi_credssp.specs.Proxy.{ProxyMeaning}
use Rattle.sspi_credssp.specs.Requests.{token_of}
use Rattle.sspi_credssp.specs.Ends.{ServerView}
use Rattle.sspi_credssp.specs.ServerTurn as accept
use Rattle.sspi_credssp.specs.ServerTurn.{UnlessMade}
use Rattle.sspi_delegate.specs.Chain.{ServerStage, server_at, ServerMovedBy, ServerChain}
use Rattle.sspi_delegate.specs.Turns.{OthersUnrefused, IsUnrefused, NoneRefused}
use Rattle.sspi_play.proofs.Contexts.{holds_map, holds_cleared}
use Rattle.sspi_play.proofs.ServerPicks.{KeepsPick, keeps_of_mics, keeps_more, Keeps, Shows, After, full_shows, stepped, after_recounted}
use Rattle.sspi_play.proofs.ServerPicks.{after_identified, begun_keeps}

module _ {N K P : Type 0} (r q : ℕ) (n : Meaning Setting N) (k : Meaning Setting K) (ln : IsMechanism r n) (lk : IsMechanism q k)
    (p : ProxyMeaning P) (first : ServerView (SspiContext N K) P) where
  accepts_keep : (stage : ServerStage (SspiContext N K)) (t : Turn) (past : List Turn) (handle : Option CredentialsBuffers)
      (token : Option (List ℕ)) (known : accept.Knowing) (x : Result Step Error) (m : SspiContext N K) →
      token ≡ t.delivered.nego_tokens → Keeps r q n k ln lk first.settings.mode past stage.context →
      accept.Accepted (either r n k) p (server_at (either r n k) p first stage) handle token known x m →
      After r q n k ln lk first.settings.mode x (t ∷ past) m
  accepts_keep stage t past handle token known x m is h (accept.accepted m0 m1 y begun accepts) =
      stepped r q n k ln lk first.settings.mode t past m0 m _ x (ap token_of is) accepts
      (begun_keeps r q n k ln lk first.settings.mode stage.context stage.handle handle _ past m0 h begun)
  accepts_keep stage t past handle token known x m is h
      (accept.identified m1 m2 y step (accept.is_identified name ids named found some peer)) =
      after_identified r q n k ln lk first.settings.mode (t ∷ past) m1 m (map credentials.AuthIdentity ids) x
      (accepts_keep stage t past handle token accept.Unknown x m1 is h step) peer
  accepts_keep stage t past handle token known x m is h (accept.completed m1 y step permits) =
      accepts_keep stage t past handle token accept.Identified x m is h step
  accepts_keep stage t past handle token known x m is h (accept.recounted m1 m2 i so y step counted quiet) =
      subst (λ (z : SspiContext N K). After r q n k ln lk first.settings.mode x (t ∷ past) z) (sym counted)
      (after_recounted r q n k ln lk first.settings.mode (t ∷ past) m1 i x
      (accepts_keep stage t past handle token known x m1 is h step) quiet)

  -- a turn that was refused after its step had come to a status
  refused_keeps : (status : SecurityStatus) (stage : ServerStage (SspiContext N K)) (t : Turn) (past : List Turn)
      (handle : Option CredentialsBuffers) (token : Option (List ℕ)) (x : Result Step Error) (m : SspiContext N K) →
      token ≡ t.delivered.nego_tokens → Keeps r q n k ln lk first.settings.mode past stage.context →
      accept.RefusedAt (either r n k) p (Some status) (server_at (either r n k) p first stage) handle token x m →
      After r q n k ln lk first.settings.mode x (t ∷ past) m
  refused_keeps statuses.Ok stage t past handle token x m is h (accept.so_far known step) =
      accepts_keep stage t past handle token known x m is h step
  refused_keeps statuses.CompleteNeeded stage t past handle token x m is h (accept.so_far known step) =
      accepts_keep stage t past handle token known x m is h step
  refused_keeps statuses.ContinueNeeded stage t past handle token x m is h step =
      accepts_keep stage t past handle token accept.Unknown x m is h step
  refused_keeps statuses.CompleteAndContinue stage t past handle token x m is h step =
      accepts_keep stage t past handle token accept.Unknown x m is h step
  refused_keeps statuses.LocalLogon stage t past handle token x m is h step =
      accepts_keep stage t past handle token accept.Unknown x m is h step
  refused_keeps statuses.ContextExpired stage t past handle token x m is h step =
      accepts_keep stage t past handle token accept.Unknown x m is h step
  refused_keeps statuses.IncompleteCredentials stage t past handle token x m is h step =
      accepts_keep stage t past handle token accept.Unknown x m is h step
  refused_keeps statuses.Renegotiate stage t past handle token x m is h step =
      accepts_keep stage t past handle token accept.Unknown x m is h step
  refused_keeps statuses.NoLsaContext stage t past handle token x m is h step =
      accepts_keep stage t past handle token accept.Unknown x m is h step

  -- what a turn leaves, by its outcome
  abbrev Leaves : Outcome → List Turn → Option (SspiContext N K) → Type 0
  Leaves (outcome.Reply reply) turns context = Keeps r q n k ln lk first.settings.mode turns context
  Leaves (outcome.Final reply) turns context = Keeps r q n k ln lk first.settings.mode turns context
  Leaves outcome.Finished turns context = Keeps r q n k ln lk first.settings.mode turns context
  Leaves (outcome.Refused kind reply) turns context = Shows r q n k ln lk first.settings.mode turns context

  keeps_leave : (came : Outcome) (turns : List Turn) (context : Option (SspiContext N K)) →
      Keeps r q n k ln lk first.settings.mode turns context →
      Leaves came turns context
  keeps_leave (outcome.Reply reply) turns context h = h
  keeps_leave (outcome.Final reply) turns context h = h
  keeps_leave outcome.Finished turns context h = h
  keeps_leave (outcome.Refused kind reply) turns context h = full_shows r q n k ln lk first.settings.mode turns context h

  on_context : (context : Option (SspiContext N K)) (turns : List Turn) (Q : SspiContext N K → Type 0) →
      ((m : SspiContext N K) → Q m → Keeps r q n k ln lk first.settings.mode turns (Some m)) → IfContext context Q →
      Keeps r q n k ln lk first.settings.mode turns context
  on_context None turns Q step h = absurd h
  on_context (Some m) turns Q step h = step m h

  on_refusal : (context : Option (SspiContext N K)) (turns : List Turn) (Q : SspiContext N K → Type 0) →
      ((m : SspiContext N K) → Q m → Shows r q n k ln lk first.settings.mode turns (Some m)) → IfContext context Q →
      Shows r q n k ln lk first.settings.mode turns context
  on_refusal None turns Q step h = absurd h
  on_refusal (Some m) turns Q step h = step m h

  rested : (t : Turn) (past : List Turn) (stage next : ServerStage (SspiContext N K)) (x y : Option (SspiContext N K)) →
      Keeps r q n k ln lk first.settings.mode past x →
      UnlessMade (either r n k) x y
      (Begun (either r n k) stage.context stage.handle (accept.server_setting p first) Inbound None next.handle) →
      stage.context ≡ x → Keeps r q n k ln lk first.settings.mode past y
  rested t past stage next None None h made is = tt
  rested t past stage next None (Some m) h made is =
      begun_keeps r q n k ln lk first.settings.mode stage.context stage.handle next.handle _ past m
      (subst (λ (o : Option (SspiContext N K)). Keeps r q n k ln lk first.settings.mode past o) (sym is) h) made
  rested t past stage next (Some m) None h made is = absurd made
  rested t past stage next (Some m) (Some m2) h made is =
      holds_cleared r q n k ln lk (KeepsPick n k first.settings.mode past) (keeps_of_mics n k first.settings.mode past) m m2 made h

  all_more : (t : Turn) (past : List Turn) (context : Option (SspiContext N K)) → Keeps r q n k ln lk first.settings.mode past context →
      Keeps r q n k ln lk first.settings.mode (t ∷ past) context
  all_more t past context h = holds_map n k (KeepsPick n k first.settings.mode past) (KeepsPick n k first.settings.mode (t ∷ past))
      (keeps_more n k first.settings.mode t past) context h

  moved : (t : Turn) (past : List Turn) (stage next : ServerStage (SspiContext N K)) (negotiated : Bool) (status : Option SecurityStatus)
      (came : Outcome) → Keeps r q n k ln lk first.settings.mode past stage.context →
      ServerMovedBy (either r n k) p first negotiated status came t.delivered.nego_tokens t.output stage next →
      Leaves came (t ∷ past) next.context
  moved t past stage next false status came h by = keeps_leave came (t ∷ past) next.context
      (all_more t past next.context (rested t past stage next stage.context next.context h by.context refl))
  moved t past stage next true (Some status) (outcome.Refused kind reply) h by =
      full_shows r q n k ln lk first.settings.mode (t ∷ past) next.context (on_context next.context (t ∷ past) _
      (λ m at. refused_keeps status stage t past next.handle t.delivered.nego_tokens _ m refl h at) by)
  moved t past stage next true (Some status) (outcome.Reply reply) h by = on_context next.context (t ∷ past) _
      (λ m at. accepts_keep stage t past next.handle t.delivered.nego_tokens _ _ m refl h at) by
  moved t past stage next true (Some status) (outcome.Final reply) h by = on_context next.context (t ∷ past) _
      (λ m at. accepts_keep stage t past next.handle t.delivered.nego_tokens _ _ m refl h at) by
  moved t past stage next true (Some status) outcome.Finished h by = on_context next.context (t ∷ past) _
      (λ m at. accepts_keep stage t past next.handle t.delivered.nego_tokens _ _ m refl h at) by
  moved t past stage next true None (outcome.Refused kind reply) h by = on_refusal next.context (t ∷ past) _
      (λ m at. accepts_keep stage t past next.handle t.delivered.nego_tokens accept.Unknown (Err by.0) m refl h at) by.2
  moved t past stage next true None (outcome.Reply reply) h by = absurd by
  moved t past stage next true None (outcome.Final reply) h by = absurd by
  moved t past stage next true None outcome.Finished h by = absurd by

  unrefused : (came : Outcome) (turns : List Turn) (context : Option (SspiContext N K)) → IsUnrefused came → Leaves came turns context →
      Keeps r q n k ln lk first.settings.mode turns context
  unrefused (outcome.Reply reply) turns context un h = h
  unrefused (outcome.Final reply) turns context un h = h
  unrefused outcome.Finished turns context un h = h
  unrefused (outcome.Refused kind reply) turns context un h = absurd un

  left_shows : (came : Outcome) (turns : List Turn) (context : Option (SspiContext N K)) → Leaves came turns context →
      Shows r q n k ln lk first.settings.mode turns context
  left_shows (outcome.Reply reply) turns context h = full_shows r q n k ln lk first.settings.mode turns context h
  left_shows (outcome.Final reply) turns context h = full_shows r q n k ln lk first.settings.mode turns context h
  left_shows outcome.Finished turns context h = full_shows r q n k ln lk first.settings.mode turns context h
  left_shows (outcome.Refused kind reply) turns context h = h

  chain_keeps : (turns : List Turn) (stage : ServerStage (SspiContext N K)) → first.context ≡ None → NoneRefused turns →
      ServerChain (either r n k) p first turns stage → Keeps r q n k ln lk first.settings.mode turns stage.context
  chain_keeps [] stage none un chain =
      subst (λ (o : Option (SspiContext N K)). Keeps r q n k ln lk first.settings.mode [] o)
      (sym (ap (λ (x : ServerStage (SspiContext N K)). x.context) chain ∙ none)) tt
  chain_keeps (t ∷ past) stage none un chain = unrefused t.outcome (t ∷ past) stage.context un.0
      (moved t past chain.0 stage t.acts.negotiated t.acts.status t.outcome (chain_keeps past chain.0 none un.1 chain.1) chain.2.moved)

  pub chain_shows : (turns : List Turn) (stage : ServerStage (SspiContext N K)) → first.context ≡ None → OthersUnrefused turns →
      ServerChain (either r n k) p first turns stage → Shows r q n k ln lk first.settings.mode turns stage.context
  chain_shows [] stage none un chain = full_shows r q n k ln lk first.settings.mode [] stage.context (chain_keeps [] stage none tt chain)
  chain_shows (t ∷ past) stage none un chain = left_shows t.outcome (t ∷ past) stage.context
      (moved t past chain.0 stage t.acts.negotiated t.acts.status t.outcome (chain_keeps past chain.0 none un chain.1) chain.2.moved)

-- The authentication of matching ends by plain NTLM, evaluated: two messages of the client and two steps of the server.
use Rattle.std.proofs.Common.{◌≡◌, ◌≢◌, ℕ, zero, suc, ◌-◌, ◌≤◌, ◌<◌, ◌^◌, List, [], length, map, filter, false, Option, None}
use Rattle.std.proofs.Common.{Some, Ok, Err, refl, ap, sym, ◌∙◌, subst, arith}
use Rattle.sspi_types.specs.declared.credential_use.CredentialUse.TheVariants.{Inbound, Outbound}
use Rattle.sspi_types.specs.declared.error.Error.{Error}
use Rattle.sspi_types.specs.declared.error_kind.ErrorKind.{ErrorKind}
use Rattle.sspi_types.specs.declared.error_kind.ErrorKind.TheVariants.{InsufficientMemory}
use Rattle.sspi_types.specs.declared.security_status.SecurityStatus.TheVariants as statuses
use Rattle.sspi_names.specs.declared.credentials.Credentials.{Credentials}
use Rattle.sspi_names.specs.declared.credentials.Credentials.TheVariants as credentials
use Rattle.sspi_names.specs.declared.credentials.CredentialsBuffers.{CredentialsBuffers}
use Rattle.sspi_names.specs.declared.credentials.CredentialsBuffers.TheVariants as buffers
use Rattle.sspi_names.specs.declared.identity.AuthIdentity.{AuthIdentity}
use Rattle.sspi_names.specs.Identity.{buffers_of}
use Rattle.sspi_names.specs.declared.network.NetworkRequest.{NetworkRequest}
use Rattle.sspi_names.specs.Name.{Name, inner_of}
use Rattle.sspi_mech.specs.declared.config.NtlmConfig.{NtlmConfig}
use Rattle.sspi_mech.specs.declared.ntlm.stage.Stage.TheVariants.{NegotiateSent, ChallengeSent, Claimed}
use Rattle.sspi_mech.specs.declared.protection.Direction.TheVariants.{FromClient, FromServer}
use Rattle.sspi_mech.specs.declared.step.Answer.TheVariants.{Done, Refused}
use Rattle.sspi_mech.specs.declared.step.Reply.{Reply}
use Rattle.sspi_mech.specs.declared.step.Step.{Step}
use Rattle.sspi_mech.specs.Calls.{ToComplete}
use Rattle.sspi_mech.specs.Context.{IsContext}
use Rattle.sspi_mech.specs.Meaning.{Meaning}
use Rattle.sspi_mech.specs.Ntlm.{ntlm_meaning, ntlm_of}
use Rattle.sspi_mech.specs.NtlmAcquire.{acquired}
use Rattle.sspi_mech.specs.NtlmIdentities.{has_password, identified}
use Rattle.sspi_mech.specs.NtlmMessages.{negotiate_message, challenge_message}
use Rattle.sspi_mech.specs.NtlmStage.{NtlmState, name_at}
use Rattle.sspi_mech.specs.NtlmSteps.{Goes, client_step, server_step}
use Rattle.sspi_mech.specs.Settings.{Setting}
use Rattle.sspi_credssp.specs.declared.context.SspiContext.{SspiContext}
use Rattle.sspi_credssp.specs.declared.context.SspiContext.TheVariants.{Negotiate, Ntlm, Kerberos}
use Rattle.sspi_credssp.specs.declared.mode.ClientMode.{ClientMode}
use Rattle.sspi_credssp.specs.declared.mode.ClientMode.TheVariants as client_mode
use Rattle.sspi_credssp.specs.declared.mode.ServerMode.{ServerMode}
use Rattle.sspi_credssp.specs.declared.mode.ServerMode.TheVariants as server_mode
use Rattle.sspi_credssp.specs.Context.{Begun, BeginCause, unmade, unacquired, ContextSetting, ForClient, ForServer, either}
use Rattle.sspi_credssp.specs.Ends.{ClientSettings, ClientView, ServerSettings, ServerView}
use Rattle.sspi_credssp.specs.Acts.{cleared}
use Rattle.sspi_credssp.specs.Proxy.{ProxyMeaning, AreFound}
use Rattle.sspi_credssp.specs.Requests.{token_of}
use Rattle.sspi_credssp.specs.ServerCause.{MakeCause, unlisted, unbegun, ListRefused, LookUpRefused, IdentifyCause}
use Rattle.sspi_credssp.specs.ServerCause.{nameless, looked, unset}
use Rattle.sspi_credssp.specs.ServerTurn.{IsIdentified, is_identified, server_args, server_setting}
use Rattle.sspi_delegate.specs.Chain.{KdcCalls}
use Rattle.sspi_completeness.specs.Matching.{AreMatching}
use Rattle.sspi_completeness.proofs.Accepting.{IsPeer, Takes}
use Rattle.sspi_completeness.proofs.Blobs.{blob_of, blob_length}
use Rattle.sspi_completeness.proofs.ClientTurns.{Walks}
use Rattle.sspi_completeness.proofs.Negotiation.{IsNegotiation}
use Rattle.sspi_completeness.proofs.NtlmEnds.{at_rest, as_ntlm, IfNtlm, client_first, server_first, goes_on_as, stepped_once, maker, taker}
use Rattle.sspi_completeness.proofs.NtlmOutcomes.{claim_by, key_for, keyed_by, logged_on, client_outcome, server_outcome, acquires_buffers}
use Rattle.sspi_completeness.proofs.NtlmOutcomes as outcomes
use Rattle.sspi_completeness.proofs.NtlmRound.{last_token, token_length}
use Rattle.sspi_completeness.proofs.Shortness.{short_name}

module _ {K D P : Type 0} (k : Meaning Setting K) (laws : IsContext (either 0 ntlm_meaning k)) (calls : KdcCalls D)
    (p : ProxyMeaning P) where
  abbrev C : Type 0
  C = SspiContext NtlmState K

  abbrev c : Meaning ContextSetting C
  c = either 0 ntlm_meaning k

  abbrev NoKdc : D → Type 0
  NoKdc kdc = Unit {0}

  -- a walk that begins at an object whose outcome is known
  walks_by : (old : ClientView C) (kdc : D) (token : Option (List ℕ)) (begun : Option CredentialsBuffers → NtlmState → Type 0)
      (y : NtlmState) (step : Step)
      (handle : Option CredentialsBuffers) →
      ((h : Option CredentialsBuffers) (m0 : C) → Begun c old.context old.handle (ForClient old.settings.mode) Outbound
      (Some old.settings.credentials) h m0 → IfNtlm k m0 (begun h)) →
      ((h : Option CredentialsBuffers) (m : NtlmState) → begun h m → client_step m.stage m h (token_of token) ≡ Goes y step) →
      ((h : Option CredentialsBuffers) (m : NtlmState) → begun h m → h ≡ handle) →
      Walks c laws calls old kdc token step (Ntlm (at_rest y)) handle NoKdc
  walks_by old kdc token begun y step handle begins outcome had = record {
    done = λ h log kdc2 s m replied walked.
        let w = stepped_once k laws (begun h) old h token 0 log (Done s) m (begins h) walked in
        let same : Goes w.after s ≡ Goes y step = sym w.steps ∙ outcome h w.before w.begins in
        let after_is : w.after ≡ y = cc in
        let step_is : s ≡ step = cc in
        (step_is, w.same ∙ ap (λ (x : NtlmState). Ntlm (at_rest x)) after_is, had h w.before w.begins, tt);
    never = λ h log kdc2 error m replied others walked.
        let w = stepped_once k laws (begun h) old h token 0 log (Refused error) m (begins h) walked in
        let goes = outcome h w.before w.begins in
        let stops = w.steps.0 others in cc;
  }

  took : (begun : NtlmState → Type 0) (h : Option CredentialsBuffers) (token : Option (List ℕ)) (y : NtlmState) (step s : Step)
      (m0 m : C) → IfNtlm k m0 begun →
      ((x : NtlmState) → begun x → server_step x.stage x (token_of token) ≡ Goes y step) → c.accepts m0 (server_args h token) (Ok s) m →
      (s ≡ step) × (cleared c m ≡ Ntlm (at_rest y))
  took begun h token y step s (Ntlm x) (Ntlm z) begins outcome accepts =
      let same : Goes z s ≡ Goes y step = sym accepts ∙ outcome x begins in
      let after_is : z ≡ y = cc in
      let step_is : s ≡ step = cc in
      (step_is, ap (λ (v : NtlmState). Ntlm (at_rest v)) after_is)
  took begun h token y step s (Ntlm x) (Kerberos z) begins outcome accepts = absurd accepts
  took begun h token y step s (Ntlm x) (Negotiate z) begins outcome accepts = absurd accepts
  took begun h token y step s (Kerberos x) m begins outcome accepts = absurd begins
  took begun h token y step s (Negotiate x) m begins outcome accepts = absurd begins

  took_never : (begun : NtlmState → Type 0) (h : Option CredentialsBuffers) (token : Option (List ℕ)) (y : NtlmState) (step : Step)
      (error : Error) (m0 m : C) → IfNtlm k m0 begun →
      ((x : NtlmState) → begun x → server_step x.stage x (token_of token) ≡ Goes y step) → error.error_type ≢ InsufficientMemory →
      c.accepts m0 (server_args h token) (Err error) m → ⊥
  took_never begun h token y step error (Ntlm x) (Ntlm z) begins outcome others accepts = let goes = outcome x begins in let stops =
      accepts.0 others in cc
  took_never begun h token y step error (Ntlm x) (Kerberos z) begins outcome others accepts = accepts
  took_never begun h token y step error (Ntlm x) (Negotiate z) begins outcome others accepts = accepts
  took_never begun h token y step error (Kerberos x) m begins outcome others accepts = begins
  took_never begun h token y step error (Negotiate x) m begins outcome others accepts = begins

  in_both : (m0 : C) (Q : NtlmState → Type 0) (R : Type 0) → ((x : NtlmState) → Q x → R) → IfNtlm k m0 Q → R
  in_both (Ntlm x) Q R more h = more x h
  in_both (Kerberos x) Q R more h = absurd h
  in_both (Negotiate x) Q R more h = absurd h

  takes_by : (old : ServerView C P) (token : Option (List ℕ)) (begun : Option CredentialsBuffers → NtlmState → Type 0) (y : NtlmState)
      (step : Step)
      (handle : Option CredentialsBuffers) →
      ((h : Option CredentialsBuffers) (m0 : C) → Begun c old.context old.handle (server_setting p old) Inbound None h m0 →
      IfNtlm k m0 (begun h)) →
      ((h : Option CredentialsBuffers) (m : NtlmState) → begun h m → server_step m.stage m (token_of token) ≡ Goes y step) →
      ((h : Option CredentialsBuffers) (m : NtlmState) → begun h m → h ≡ handle) → Takes c laws p old token step (Ntlm (at_rest y)) handle
  takes_by old token begun y step handle begins outcome had = record {
    done = λ h m0 m s start accepts.
        let t = took (begun h) h token y step s m0 m (begins h m0 start) (outcome h) accepts in
        (t.0, t.1, in_both m0 (begun h) (h ≡ handle) (had h) (begins h m0 start));
    never = λ h m0 m error others start accepts. took_never (begun h) h token y step error m0 m (begins h m0 start)
        (outcome h) others accepts;
  }

  module _ (told : Option (ℕ → NetworkRequest → Reply)) (call : ℕ) (a : ClientView C) (b : ServerView C P) (kdc_first : D)
      (matching : AreMatching p told call a b) (client_config server_config : NtlmConfig)
      (client_is : a.settings.mode ≡ client_mode.Ntlm client_config) (server_is : b.settings.mode ≡ server_mode.Ntlm server_config)
      (challenge_length : length server_config.challenge ≡ 8) where
    abbrev i : AuthIdentity
    i = matching.identity

    abbrev challenge : List ℕ
    challenge = server_config.challenge

    abbrev key : List ℕ
    key = key_for i challenge

    short : length (inner_of i.username) ≤ 49153
    short = short_name i matching.identity_is matching.short

    -- ---- the objects of both ends

    abbrev client_new : NtlmState
    client_new = ntlm_of client_config

    abbrev client_sent : NtlmState
    client_sent = record client_new { stage = NegotiateSent }

    abbrev client_on : NtlmState
    client_on = logged_on i challenge client_sent

    abbrev server_new : NtlmState
    server_new = ntlm_of server_config

    abbrev server_sent : NtlmState
    server_sent = record server_new { stage = ChallengeSent }

    abbrev server_claimed : NtlmState
    server_claimed = record server_sent { stage = Claimed (claim_by i challenge) }

    abbrev server_keyed : NtlmState
    server_keyed = keyed_by key server_claimed

    abbrev client_context : ℕ → C
    client_context zero = Ntlm client_new
    client_context (suc zero) = Ntlm client_sent
    client_context (suc (suc n)) = Ntlm client_on

    abbrev server_context : ℕ → C
    server_context zero = Ntlm server_new
    server_context (suc zero) = Ntlm server_sent
    server_context (suc (suc n)) = Ntlm server_claimed

    abbrev client_steps : ℕ → Step
    client_steps zero = record { status = statuses.ContinueNeeded; output = negotiate_message }
    client_steps (suc n) = record { status = statuses.Ok; output = last_token i challenge }

    abbrev server_steps : ℕ → Step
    server_steps zero = record { status = statuses.ContinueNeeded; output = challenge_message challenge }
    server_steps (suc n) = record { status = statuses.CompleteNeeded; output = [] }

    abbrev handle : Option CredentialsBuffers
    handle = Some (buffers.AuthIdentity (buffers_of i))

    -- ---- the client's steps

    never_begins : (config : NtlmConfig) (cr : Credentials) (kind : ErrorKind) → cr ≡ credentials.AuthIdentity i →
        BeginCause c (ForClient (client_mode.Ntlm config)) Outbound (Some cr) kind → ⊥
    never_begins config cr kind is (unmade h) = h
    never_begins config cr kind is (unacquired (Ntlm m) made refuses) = let e = rw is at refuses in cc
    never_begins config cr kind is (unacquired (Kerberos m) made refuses) = made
    never_begins config cr kind is (unacquired (Negotiate m) made refuses) = made

    walks_first : (old : ClientView C) (kdc : D) → old.settings ≡ a.settings → old.context ≡ None → NoKdc kdc →
        Walks c laws calls old kdc None (client_steps 0) (client_context 1) handle NoKdc
    walks_first old kdc same none at =
        walks_by old kdc None (λ h m. (m ≡ client_new) × (acquired Outbound (Some a.settings.credentials) ≡ Ok h)) client_sent
        (client_steps 0) handle
        (λ h m0 start. client_first k client_config a.settings.credentials old.context old.handle h m0 none
        (subst (λ (mode : ClientMode). Begun c old.context old.handle (ForClient mode) Outbound (Some a.settings.credentials) h m0)
        client_is
        (subst (λ (s : ClientSettings). Begun c old.context old.handle (ForClient s.mode) Outbound (Some s.credentials) h m0) same start)))
        (λ h m begun. subst (λ (x : NtlmState). client_step x.stage x h [] ≡ Goes client_sent (client_steps 0)) (sym begun.0) refl)
        (λ h m begun. acquires_buffers a.settings.credentials i h matching.credentials_are begun.1)

    walks : (n : ℕ) (old : ClientView C) (kdc : D) → n ≤ 0 → old.settings ≡ a.settings → old.context ≡ Some (client_context (suc n)) →
        old.handle ≡ handle → NoKdc kdc →
        Walks c laws calls old kdc (Some (server_steps n).output) (client_steps (suc n)) (client_context (suc (suc n))) handle NoKdc
    walks zero old kdc less same there had at =
        walks_by old kdc (Some (challenge_message challenge)) (λ h m. (m ≡ client_sent) × (h ≡ old.handle)) client_on
        (client_steps 1) handle
        (λ h m0 start. goes_on_as k (ForClient old.settings.mode) old.context
        (Some old.settings.credentials) old.handle h m0 client_sent Outbound there start)
        (λ h m begun. subst (λ (x : NtlmState). client_step x.stage x h (challenge_message challenge) ≡ Goes client_on (client_steps 1))
        (sym begun.0)
        (client_outcome client_sent NegotiateSent h (challenge_message challenge) challenge i matching.identity_is
        (omega (arith, short)) challenge_length refl refl (begun.1 ∙ had)))
        (λ h m begun. begun.1 ∙ had)
    walks (suc n) old kdc less same there had at = absurd (omega (arith, less))

    -- ---- the server's

    never_acquires : (config : NtlmConfig) (told : Option (List AuthIdentity)) (kind : ErrorKind) →
        BeginCause c (ForServer (server_mode.Ntlm config) told) Inbound None kind → ⊥
    never_acquires config told kind (unmade h) = h
    never_acquires config told kind (unacquired (Ntlm m) made refuses) = let e : None ≡ Some kind = refuses in cc
    never_acquires config told kind (unacquired (Kerberos m) made refuses) = made
    never_acquires config told kind (unacquired (Negotiate m) made refuses) = made

    server_never : (mode : ServerMode) (before now : P) (kind : ErrorKind) → mode ≡ server_mode.Ntlm server_config →
        MakeCause c p mode before now kind → ⊥
    server_never mode before now kind is (unlisted h) = subst (λ (x : ServerMode). ListRefused x (p.faults before) (p.faults now) kind) is h
    server_never mode before now kind is (unbegun h) = never_acquires server_config _ kind
        (subst (λ (x : ServerMode). BeginCause c (ForServer x (p.told before).entries) Inbound None kind) is h)

    takes_first : (old : ServerView C P) → old.settings ≡ b.settings → p.told old.proxy ≡ p.told b.proxy → old.context ≡ None →
        Takes c laws p old (Some negotiate_message) (server_steps 0) (server_context 1) None
    takes_first old same tells none =
        takes_by old (Some negotiate_message) (λ h m. (m ≡ server_new) × (h ≡ None)) server_sent (server_steps 0) None
        (λ h m0 start. server_first k server_config _ old.context old.handle h m0 none
        (subst (λ (mode : ServerMode). Begun c old.context old.handle (ForServer mode (p.told old.proxy).entries) Inbound None h m0)
        (ap (λ (s : ServerSettings). s.mode) same ∙ server_is) start))
        (λ h m begun. subst (λ (x : NtlmState). server_step x.stage x negotiate_message ≡ Goes server_sent (server_steps 0))
        (sym begun.0) refl)
        (λ h m begun. begun.1)

    takes : (n : ℕ) (old : ServerView C P) → suc n ≤ 1 → old.settings ≡ b.settings → old.context ≡ Some (server_context (suc n)) →
        old.handle ≡ None →
        Takes c laws p old (Some (client_steps (suc n)).output) (server_steps (suc n)) (server_context (suc (suc n))) None
    takes zero old less same there had =
        takes_by old (Some (last_token i challenge)) (λ h m. (m ≡ server_sent) × (h ≡ old.handle)) server_claimed (server_steps 1) None
        (λ h m0 start. goes_on_as k (server_setting p old) old.context None old.handle h m0 server_sent Inbound there start)
        (λ h m begun. subst (λ (x : NtlmState). server_step x.stage x (last_token i challenge) ≡ Goes server_claimed (server_steps 1))
        (sym begun.0)
        (server_outcome server_sent ChallengeSent (last_token i challenge) challenge i matching.identity_is
        (omega (arith, short)) refl refl))
        (λ h m begun. begun.1 ∙ had)
    takes (suc n) old less same there had = absurd (omega (arith, less))

    -- ---- the peer

    claim_of : (y : NtlmState) → at_rest y ≡ server_claimed → y.stage ≡ Claimed (claim_by i challenge)
    claim_of y rest = ap (λ (x : NtlmState). x.stage) rest

    sent_of : (y : NtlmState) → at_rest y ≡ server_claimed → y.challenge ≡ challenge
    sent_of y rest = ap (λ (x : NtlmState). x.challenge) rest

    name_is : (y : NtlmState) (name : Name) → at_rest y ≡ server_claimed → name_at y.stage ≡ Some name → name ≡ i.username
    name_is y name rest named =
        outcomes.name_is (p.told b.proxy) matching.entries i challenge matching.tells matching.entry y (claim_of y rest)
        (sent_of y rest) name named

    takes_key : (y : NtlmState) (name : Name) (identities : List AuthIdentity) → at_rest y ≡ server_claimed → name_at y.stage ≡ Some name →
        AreFound (p.told b.proxy) name identities →
        identified y (filter has_password (map credentials.AuthIdentity identities)) ≡ Ok (keyed_by key y)
    takes_key y name identities rest named candidates =
        let tells = p.told b.proxy in
        outcomes.takes_key tells matching.entries i challenge matching.tells matching.entry y (claim_of y rest) (sent_of y rest) identities
        (outcomes.found tells matching.entries i challenge matching.tells matching.entry y (claim_of y rest)
        (sent_of y rest) name identities
        (name_is y name rest named) candidates)

    named_as : (y : NtlmState) (m2 : C) → at_rest y ≡ server_claimed → IsIdentified c (p.told b.proxy) (Ntlm y) m2 →
        cleared c m2 ≡ Ntlm server_keyed
    named_as y (Ntlm z) rest (is_identified name identities named candidates some sets) =
        let takes_it = takes_key y name identities rest named candidates in
        let both : Ok z ≡ Ok (keyed_by key y) = sym sets ∙ takes_it in
        let last : z ≡ keyed_by key y = cc in
        ap (λ (x : NtlmState). Ntlm (at_rest x)) last ∙ ap (λ (x : NtlmState). Ntlm (keyed_by key x)) rest
    named_as y (Kerberos z) rest (is_identified name identities named candidates some sets) = absurd sets
    named_as y (Negotiate z) rest (is_identified name identities named candidates some sets) = absurd sets

    identify_never : (y : NtlmState) (before now : ℕ) (kind : ErrorKind) → at_rest y ≡ server_claimed → now ≡ before → before < 2 ^ 64 - 1 →
        IdentifyCause c (Ntlm y) (p.told b.proxy) before now kind → ⊥
    identify_never y before now kind rest still few (nameless refuses) =
        let stage : y.stage ≡ Claimed (claim_by i challenge) = ap (λ (x : NtlmState). x.stage) rest in
        let never : None ≡ Some kind = rw stage at refuses in cc
    identify_never y before now kind rest still few (looked name named refused) =
        outcomes.look_never (p.told b.proxy) matching.entries i challenge matching.tells matching.entry y (claim_of y rest)
        (sent_of y rest) before now kind still few
        (subst (λ (n : Name). LookUpRefused (p.told b.proxy) n before now kind) (name_is y name rest named) refused)
    identify_never y before now kind rest still few (unset name identities named candidates some refuses) =
        let sets = takes_key y name identities rest named candidates in
        let never : None ≡ Some kind = rw sets at refuses in cc

    complete_never : (y : NtlmState) (kind : ErrorKind) → at_rest y ≡ server_keyed → c.refuses (Ntlm y) ToComplete kind → ⊥
    complete_never y kind rest refuses =
        let has : y.protection.key ≡ Some key = ap (λ (x : NtlmState). x.protection.key) rest in
        let never : None ≡ Some kind = rw has at refuses in cc

    peer : IsPeer c laws (p.told b.proxy) (Ntlm server_claimed) (Ntlm server_keyed)
    peer = record {
      identified = λ m m2 same names.
          let at = as_ntlm k m server_claimed same in named_as at.0 m2 at.2
          (subst (λ (x : C). IsIdentified c (p.told b.proxy) x m2) at.1 names);
      never = λ m before now kind same still few cause.
          let at = as_ntlm k m server_claimed same in
          identify_never at.0 before now kind at.2 still few
          (subst (λ (x : C). IdentifyCause c x (p.told b.proxy) before now kind) at.1 cause);
      completes = λ m kind same refuses.
          let at = as_ntlm k m server_keyed same in complete_never at.0 kind at.2
          (subst (λ (x : C). c.refuses x ToComplete kind) at.1 refuses);
    }

    -- ---- all of it

    client_short : (n : ℕ) → n ≤ 1 → length (client_steps n).output ≤ 65536
    client_short zero less = omega arith
    client_short (suc n) less = let e = token_length i challenge short in omega (arith, e)

    server_short : (n : ℕ) → n ≤ 0 → length (server_steps n).output ≤ 65536
    server_short zero less = omega (arith, challenge_length)
    server_short (suc n) less = omega arith

    client_goes : (n : ℕ) → n ≤ 0 → (client_steps n).status ≡ statuses.ContinueNeeded
    client_goes zero less = refl
    client_goes (suc n) less = absurd (omega (arith, less))

    server_goes : (n : ℕ) → n < 1 → (server_steps n).status ≡ statuses.ContinueNeeded
    server_goes zero less = refl
    server_goes (suc n) less = absurd (omega (arith, less))

    pub negotiation : IsNegotiation c laws calls p a b kdc_first 0 false
    negotiation = record {
      client_step = client_steps;
      server_step = server_steps;
      client_context = client_context;
      server_context = server_context;
      client_handle = handle;
      server_handle = None;
      KdcAt = λ n. NoKdc;
      peer_context = Ntlm server_keyed;
      ups = blob_of key FromClient;
      downs = blob_of key FromServer;
      client_begins = λ kind cause. never_begins client_config a.settings.credentials kind matching.credentials_are
          (subst (λ (mode : ClientMode). BeginCause c (ForClient mode) Outbound (Some a.settings.credentials) kind) client_is cause);
      server_begins = λ before now kind still calm. server_never b.settings.mode before now kind server_is;
      kdc_start = tt;
      walks_first = walks_first;
      walks = walks;
      takes_first = takes_first;
      takes = takes;
      client_goes = client_goes;
      client_ends = refl;
      server_goes = server_goes;
      server_ends = tt;
      server_speaks = λ early. absurd cc;
      peer = peer;
      client_maker = maker k client_on key FromClient FromServer refl refl refl;
      client_taker = taker k client_on key FromClient FromServer refl refl refl;
      server_maker = maker k server_keyed key FromServer FromClient refl refl refl;
      server_taker = taker k server_keyed key FromServer FromClient refl refl refl;
      client_short = client_short;
      server_short = server_short;
      ups_short = λ n text. let e = blob_length key FromClient n text in omega (arith, e);
      downs_short = λ n text. let e = blob_length key FromServer n text in omega (arith, e);
    }

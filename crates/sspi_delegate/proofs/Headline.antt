-- What follows from the runs of both ends.
use Rattle.std.proofs.Common.{◌≡◌, ◌≤◌, ℕ, ◌+◌, Bool, true, false, ◌||◌, ◌&&◌, ◌⊎◌, inl, inr, List, [], ◌∷◌, sym, ◌∙◌, ap, refl, arith}
use Rattle.std.proofs.Common.{Result, Ok, Err, OnOk, if◌then◌else◌}
use Rattle.std.proofs.lemmas.Bool.{true≢false}
use Rattle.sspi_mech.specs.Meaning.{Meaning}
use Rattle.sspi_credssp.specs.declared.state.CredSspState.TheVariants.{NegoToken, PubKeyInfo, AuthInfo, Final}
use Rattle.sspi_credssp.specs.declared.acts.Acts.{Acts}
use Rattle.sspi_credssp.specs.Acts.{count_of}
use Rattle.sspi_credssp.specs.Context.{ContextSetting}
use Rattle.sspi_credssp.specs.Requests.{is_code}
use Rattle.sspi_credssp.specs.Turn.{ClientFrame, ServerFrame, ShowsAnswer, ShowsClientActs, ShowsReply, client_shown, server_shown}
use Rattle.sspi_delegate.specs.declared.answer.Delegation.{Delegation}
use Rattle.sspi_delegate.specs.declared.answer.DelegateError.{DelegateError}
use Rattle.sspi_delegate.specs.declared.answer.DelegateError.TheVariants as errors
use Rattle.sspi_delegate.specs.declared.carried.Carried.{Carried}
use Rattle.sspi_credssp.specs.declared.turn.End.{End}
use Rattle.sspi_credssp.specs.declared.turn.End.TheVariants.{Client, Server}
use Rattle.sspi_credssp.specs.declared.turn.Outcome.{Outcome}
use Rattle.sspi_credssp.specs.declared.turn.Outcome.TheVariants as outcome
use Rattle.sspi_credssp.specs.declared.turn.Turn.{Turn}
use Rattle.sspi_delegate.specs.Log.{NewestIs, IsFinished, RunEnds}
use Rattle.sspi_delegate.specs.Turns.{ClientEnd, ServerEnd, client_frame_at, EachClientTurn, server_state, any_over, server_frame_at}
use Rattle.sspi_delegate.specs.Turns.{EachServerTurn}
use Rattle.sspi_delegate.specs.Turns.{onto_client, onto_server, client_turns, server_turns, is_replied, is_ended, any_ended, any_proved}
use Rattle.sspi_delegate.specs.Turns.{any_finished, OthersGoOn, GoesOn, AllGoOn, Alternates}
use Rattle.sspi_delegate.specs.Headline.{EachHeedsServer, sealed_turns, SealsAfterProof, any_exchange, HasExchanged}
use Rattle.sspi_delegate.specs.Log.{HasLog}
use Rattle.sspi_delegate.proofs.Alternating.{others_go}
use Rattle.sspi_delegate.proofs.ClientSteps.{state_auth, reply_state}
use Rattle.sspi_delegate.proofs.EndSteps.{or_false, is_false}
use Rattle.sspi_delegate.proofs.LogSteps.{given_log, lacking_log}

-- ---- how often the credentials were sealed

sealed_of : List Turn → ℕ
sealed_of [] = 0
sealed_of (t ∷ past) = sealed_of past + count_of t.acts.sealed

split_by : (e : End) (t : Turn) (clients servers : List Turn) →
    sealed_of (onto_client e t clients) + sealed_of (onto_server e t servers) ≡ sealed_of clients + sealed_of servers + count_of
    t.acts.sealed
unfolding sealed_of
split_by Client t clients servers = omega arith
split_by Server t clients servers = omega arith

sealed_split : (turns : List Turn) → sealed_turns turns ≡ sealed_of (client_turns turns) + sealed_of (server_turns turns)
unfolding sealed_of
sealed_split [] = omega arith
sealed_split (t ∷ past) =
    ap (λ (n : ℕ). n + count_of t.acts.sealed) (sealed_split past)
    ∙ sym (split_by t.end t (client_turns past) (server_turns past))

sealed_same : (turns : List Turn) → sealed_turns turns ≡ sealed_of turns
unfolding sealed_of
sealed_same [] = refl
sealed_same (t ∷ past) = ap (λ (n : ℕ). n + count_of t.acts.sealed) (sealed_same past)

abbrev NeverSeals : List Turn → Type 0
NeverSeals [] = Unit {0}
NeverSeals (t ∷ past) = (t.acts.sealed ≡ false) × NeverSeals past

never_seals : (past : List Turn) → NeverSeals past → sealed_of past ≡ 0
unfolding sealed_of
never_seals [] never = refl
never_seals (t ∷ past) never = rw (never_seals past never.1, never.0) refl

module _ {C : Type 0} (c : Meaning ContextSetting C) where
  reply_unsealed : (f : ClientFrame C) (t : Turn) (out : Outcome) → ShowsClientActs (client_shown f) t →
      ShowsReply (client_shown f) t out → GoesOn out → is_ended out ≡ false → t.acts.sealed ≡ false
  reply_unsealed f t (outcome.Reply reply) acts h went ended = is_false t.acts.sealed (λ was.
      let auth = (acts.checked (acts.sealed was)).0 in let nego = reply_state c f t t.acts.status reply h in absurd (cc (auth, nego)))
  reply_unsealed f t (outcome.Final reply) acts h went ended = absurd (cc (ended))
  reply_unsealed f t outcome.Finished acts h went ended = absurd went
  reply_unsealed f t (outcome.Refused kind reply) acts h went ended = absurd went

  unsealed_before : (e : ClientEnd C) (past : List Turn) → EachClientTurn c e past → AllGoOn past → any_ended past ≡ false → NeverSeals past
  unsealed_before e [] each went unended = tt
  unsealed_before e (t ∷ past) each went unended =
      let s = or_false (is_ended t.outcome) (any_ended past) unended in (
        reply_unsealed (client_frame_at e past t) t t.outcome each.0.shown.acts each.0.shown.reply went.0 s.0,
        unsealed_before e past each.1 went.1 s.1,
      )

  server_unsealed : (e : ServerEnd C) (past : List Turn) → EachServerTurn c e past → NeverSeals past
  server_unsealed e [] each = tt
  server_unsealed e (t ∷ past) each = (each.0.shown.acts.sealed, server_unsealed e past each.1)

  pub server_never_seals : (e : ServerEnd C) (past : List Turn) → EachServerTurn c e past → sealed_turns past ≡ 0
  server_never_seals e [] each = refl
  server_never_seals e (t ∷ past) each = rw (server_never_seals e past each.1, each.0.shown.acts.sealed) refl

  sealed_last : (e : ClientEnd C) (t : Turn) (past : List Turn) (sealed : Bool) → t.acts.sealed ≡ sealed → EachClientTurn c e (t ∷ past) →
      AllGoOn past →
      sealed_of past ≤ 1 → sealed_of past + count_of t.acts.sealed ≤ 1
  sealed_last e t past true was each went before =
      let s = state_auth (any_ended past) (any_proved past) (each.0.shown.acts.checked (each.0.shown.acts.sealed was)).0 in
      let none : sealed_of past ≡ 0 = never_seals past (unsealed_before e past each.1 went s.0) in
      rw (none, was) (omega arith)
  sealed_last e t past false was each went before = rw was (omega arith)

  client_once : (e : ClientEnd C) (past : List Turn) → EachClientTurn c e past → OthersGoOn past → sealed_of past ≤ 1
  unfolding sealed_of
  client_once e [] each went = omega arith
  client_once e (t ∷ past) each went =
      sealed_last e t past t.acts.sealed refl each went (client_once e past each.1 (others_go past went))

  -- the same for the turns of a client alone
  pub client_sealed_once : (e : ClientEnd C) (past : List Turn) → EachClientTurn c e past → OthersGoOn past → sealed_turns past ≤ 1
  client_sealed_once e past each went = rw (sealed_same past) (client_once e past each went)

  pub sealed_once : (e : ClientEnd C) (e2 : ServerEnd C) (turns : List Turn) → EachClientTurn c e (client_turns turns) →
      OthersGoOn (client_turns turns) →
      EachServerTurn c e2 (server_turns turns) → sealed_turns turns ≤ 1
  sealed_once e e2 turns client went server =
      rw (sealed_split turns, never_seals (server_turns turns) (server_unsealed e2 (server_turns turns) server))
      (omega (arith, client_once e (client_turns turns) client went))

  pub seals_after_proof : (e : ClientEnd C) (least : ℕ) (past : List Turn) → EachClientTurn c e past → EachHeedsServer c least past →
      SealsAfterProof c e past
  seals_after_proof e least [] each heeds = tt
  seals_after_proof e least (t ∷ past) each heeds = (
    (λ was. (
      (each.0.shown.acts.checked (each.0.shown.acts.sealed was)).0,
      is_false (is_code t.delivered.error_code) (λ told.
          true≢false (sym was ∙ ap (λ (a : Acts). a.sealed) (heeds.0.told told))),
      each.0.held.sealed was,
    )),
    seals_after_proof e least past each.1 heeds.1,
  )

  -- ---- the exchange before the credentials

  or_true : (a b : Bool) → a || b ≡ true → (a ≡ true) ⊎ (b ≡ true)
  or_true true b h = inl refl
  or_true false b h = inr h

  and_second : (a b : Bool) → a && b ≡ true → b ≡ true
  and_second true b h = h
  and_second false b h = absurd (cc (h))

  or_left : (a b : Bool) → a ≡ true → a || b ≡ true
  or_left a b h = rw h refl

  or_right : (a b : Bool) → b ≡ true → a || b ≡ true
  or_right true b h = refl
  or_right false b h = h

  both_true : (a b : Bool) → a ≡ true → b ≡ true → a && b ≡ true
  both_true a b h k = rw (h, k) refl

  proved_exchange : (e : ServerEnd C) (past : List Turn) → EachServerTurn c e past → any_proved past ≡ true → any_exchange past ≡ true
  proved_exchange e [] each was = absurd (cc (was))
  proved_exchange e (t ∷ past) each was = elim (or_true (is_replied t.outcome && t.acts.proved) (any_proved past) was) [
    | inl here ↦ or_left (t.acts.checked && t.acts.proved) (any_exchange past)
        (both_true t.acts.checked t.acts.proved (each.0.shown.acts.proved (and_second (is_replied t.outcome) t.acts.proved here)).0
        (and_second (is_replied t.outcome) t.acts.proved here))
    | inr before ↦ or_right (t.acts.checked && t.acts.proved) (any_exchange past) (proved_exchange e past each.1 before)
  ]

  state_proved : (finished proved over : Bool) →
      (if finished then Final else (if proved then AuthInfo else (if over then PubKeyInfo else NegoToken))) ≡ AuthInfo → proved ≡ true
  state_proved true proved over h = absurd (cc (h))
  state_proved false true over h = refl
  state_proved false false true h = absurd (cc (h))
  state_proved false false false h = absurd (cc (h))

  finished_exchanged : (e : ServerEnd C) (f : ServerFrame C) (t : Turn) (past : List Turn) (out : Outcome) → f.state ≡ server_state past →
      EachServerTurn c e past →
      out ≡ outcome.Finished → ShowsAnswer (server_shown f) t out → any_exchange past ≡ true
  finished_exchanged e f t past (outcome.Reply reply) is each out h = absurd (cc (out))
  finished_exchanged e f t past (outcome.Final reply) is each out h = absurd (cc (out))
  finished_exchanged e f t past outcome.Finished is each out h =
      proved_exchange e past each (state_proved (any_finished past) (any_proved past) (any_over past) (sym is ∙ h.0))
  finished_exchanged e f t past (outcome.Refused kind reply) is each out h = absurd (cc (out))

  as_finished : (out : Outcome) → IsFinished out → out ≡ outcome.Finished
  as_finished (outcome.Reply reply) h = absurd h
  as_finished (outcome.Final reply) h = absurd h
  as_finished outcome.Finished h = refl
  as_finished (outcome.Refused kind reply) h = absurd h

  newest_exchanged : (e : ServerEnd C) (n : End) (t : Turn) (past : List Turn) → n ≡ Server → t.outcome ≡ outcome.Finished →
      EachServerTurn c e (onto_server n t past) →
      HasExchanged (onto_server n t past)
  newest_exchanged e Client t past is out each = absurd (cc (is))
  newest_exchanged e Server t past is out each = finished_exchanged e
      (server_frame_at e past t) t past t.outcome refl each.1 out each.0.shown.reply

  pub exchanged : (e : ServerEnd C) (turns : List Turn) → NewestIs Server IsFinished turns → EachServerTurn c e (server_turns turns) →
      HasExchanged (server_turns turns)
  exchanged e [] newest each = absurd newest
  exchanged e (t ∷ past) newest each = newest_exchanged e t.end t (server_turns past) newest.0 (as_finished t.outcome newest.1) each

-- ---- the log at every answer

module _ (base : List Carried) (start limit : ℕ) where
  pub run_log : (result : Result Delegation DelegateError) (turns : List Turn) (log : List Carried) (now : ℕ) →
      RunEnds base start limit result turns log now → HasLog base turns log
  run_log (Ok delegation) turns log now ends = inr ends.0.entries
  run_log (Err (errors.Client error)) turns log now ends = inr ends.cause.2
  run_log (Err (errors.Server error)) turns log now ends = given_log base start turns log now ends.cause.2
  run_log (Err (errors.Read to kind)) turns log now ends = inl ends.cause.3
  run_log (Err (errors.Write from)) turns log now ends = inr ends.cause.2
  run_log (Err errors.LinkFault) turns log now ends = elim ends.cause.2 [ inl part ↦ inl part.0 | inr unsent ↦ inr unsent.0 ]
  run_log (Err errors.TurnsSpent) turns log now ends = inl ends.cause.3
  run_log (Err errors.InsufficientMemory) turns log now ends = lacking_log base start limit turns log now ends.cause

  pub run_order : (result : Result Delegation DelegateError) (turns : List Turn) (log : List Carried) (now : ℕ) →
      RunEnds base start limit result turns log now → Alternates turns
  run_order (Ok delegation) turns log now ends = ends.0.order
  run_order (Err error) turns log now ends = ends.order

pub exchanged_ok : {C : Type 0} (c : Meaning ContextSetting C) (base : List Carried) (start limit : ℕ)
    (result : Result Delegation DelegateError) (turns : List Turn)
    (log : List Carried) (now : ℕ) → RunEnds base start limit result turns log now → (e : ServerEnd C) →
    EachServerTurn c e (server_turns turns) →
    OnOk result (HasExchanged (server_turns turns))
exchanged_ok c base start limit (Ok delegation) turns log now ends e each = exchanged c e turns ends.0.newest each
exchanged_ok c base start limit (Err error) turns log now ends e each = tt

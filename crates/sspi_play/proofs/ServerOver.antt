-- Which of a server's turns ended the authentication, by what its turns show.
use Rattle.std.proofs.Common.{◌≡◌, Bool, true, false, List, [], ◌∷◌, ◌++◌, Option, None, Some, IsSome, refl, sym, ◌∙◌, ap, subst}
use Rattle.std.proofs.Common.{◌&&◌, ◌||◌, inl, inr, if◌then◌else◌}
use Rattle.std.proofs.lemmas.Bool.{false≢true, and_parts, or_cases, or_right}
use Rattle.sspi_types.specs.declared.security_status.SecurityStatus.{SecurityStatus}
use Rattle.sspi_types.specs.declared.security_status.SecurityStatus.TheVariants as statuses
use Rattle.sspi_mech.specs.Meaning.{Meaning}
use Rattle.sspi_negotiate.specs.Rows.{is_over as is_over_status}
use Rattle.sspi_credssp.specs.declared.state.CredSspState.{CredSspState}
use Rattle.sspi_credssp.specs.declared.state.CredSspState.TheVariants.{NegoToken, PubKeyInfo, AuthInfo, Final}
use Rattle.sspi_credssp.specs.declared.turn.Outcome.{Outcome}
use Rattle.sspi_credssp.specs.declared.turn.Outcome.TheVariants as outcome
use Rattle.sspi_credssp.specs.declared.turn.Turn.{Turn}
use Rattle.sspi_credssp.specs.Context.{ContextSetting}
use Rattle.sspi_credssp.specs.Turn.{ShowsServerActs, ShowsAnswer, server_shown, MayCheck, IsOver}
use Rattle.sspi_delegate.specs.Turns.{ServerEnd, EachServerTurn, server_frame_at, server_state, is_over, is_replied, any_over, any_proved}
use Rattle.sspi_delegate.specs.Turns.{any_finished, IsUnrefused}
use Rattle.sspi_play.specs.Agreement.{TurnOf}

in_nego : (finished proved over : Bool) →
    (if finished then Final else (if proved then AuthInfo else (if over then PubKeyInfo else NegoToken))) ≡ NegoToken → over ≡ true → ⊥
in_nego true proved over at is = absurd (cc (at))
in_nego false true over at is = absurd (cc (at))
in_nego false false true at is = absurd (cc (at))
in_nego false false false at is = false≢true is

in_key : (finished proved over : Bool) →
    (if finished then Final else (if proved then AuthInfo else (if over then PubKeyInfo else NegoToken))) ≡ PubKeyInfo → over ≡ true
in_key true proved over at = absurd (cc (at))
in_key false true over at = absurd (cc (at))
in_key false false true at = refl
in_key false false false at = absurd (cc (at))

in_auth : (finished proved over : Bool) →
    (if finished then Final else (if proved then AuthInfo else (if over then PubKeyInfo else NegoToken))) ≡ AuthInfo → proved ≡ true
in_auth true proved over at = absurd (cc (at))
in_auth false true over at = refl
in_auth false false true at = absurd (cc (at))
in_auth false false false at = absurd (cc (at))

pub not_over : (past : List Turn) → server_state past ≡ NegoToken → any_over past ≡ true → ⊥
not_over past at is = in_nego (any_finished past) (any_proved past) (any_over past) at is

over_status : (status : Option SecurityStatus) → IsOver status → is_over status ≡ true
over_status None h = absurd h
over_status (Some statuses.Ok) h = refl
over_status (Some statuses.CompleteNeeded) h = refl
over_status (Some statuses.ContinueNeeded) h = absurd h
over_status (Some statuses.CompleteAndContinue) h = absurd h
over_status (Some statuses.LocalLogon) h = absurd h
over_status (Some statuses.ContextExpired) h = absurd h
over_status (Some statuses.IncompleteCredentials) h = absurd h
over_status (Some statuses.Renegotiate) h = absurd h
over_status (Some statuses.NoLsaContext) h = absurd h

pub some_status : (status : Option SecurityStatus) → is_over status ≡ true → IsSome status
some_status None is = absurd (false≢true is)
some_status (Some status) is = refl

pub over_some : (status : SecurityStatus) → is_over (Some status) ≡ true → is_over_status status ≡ true
over_some statuses.Ok is = refl
over_some statuses.CompleteNeeded is = refl
over_some statuses.ContinueNeeded is = is
over_some statuses.CompleteAndContinue is = is
over_some statuses.LocalLogon is = is
over_some statuses.ContextExpired is = is
over_some statuses.IncompleteCredentials is = is
over_some statuses.Renegotiate is = is
over_some statuses.NoLsaContext is = is

pub replied_unrefused : (came : Outcome) → is_replied came ≡ true → IsUnrefused came
replied_unrefused (outcome.Reply reply) is = tt
replied_unrefused (outcome.Final reply) is = tt
replied_unrefused outcome.Finished is = tt
replied_unrefused (outcome.Refused kind reply) is = absurd (false≢true is)

-- a turn that proved has ended it, or one before it has
checked_over : (past : List Turn) (state : CredSspState) (status : Option SecurityStatus) (replied : Bool) → state ≡ server_state past →
    replied ≡ true → MayCheck state status → (replied && is_over status) || any_over past ≡ true
checked_over past NegoToken status replied at is may =
    ap (λ (x : Bool). (x && is_over status) || any_over past) is ∙ ap (λ (x : Bool). x || any_over past) (over_status status may)
checked_over past PubKeyInfo status replied at is may = or_right (replied && is_over status) (any_over past)
    (in_key (any_finished past) (any_proved past) (any_over past) (sym at))
checked_over past AuthInfo status replied at is may = absurd may
checked_over past Final status replied at is may = absurd may

module _ {C : Type 0} (c : Meaning ContextSetting C) (end : ServerEnd C) where
  acts_at : (t : Turn) (past : List Turn) → EachServerTurn c end (t ∷ past) → ShowsServerActs (server_shown (server_frame_at end past t)) t
  acts_at t past each = each.0.shown.acts

  proved_over : (turns : List Turn) → EachServerTurn c end turns → any_proved turns ≡ true → any_over turns ≡ true
  proved_over [] each is = is
  proved_over (t ∷ past) each is = elim (or_cases (is_replied t.outcome && t.acts.proved) (any_proved past) is) [
    | inl here ↦ let both = and_parts (is_replied t.outcome) t.acts.proved here in
        let acts = acts_at t past each in
        checked_over past (server_state past) t.acts.status (is_replied t.outcome) refl both.0 (acts.checked (acts.proved both.1).0).0
    | inr before ↦ or_right (is_replied t.outcome && is_over t.acts.status) (any_over past) (proved_over past each.1 before)
  ]

  any_later : (later before : List Turn) → any_proved before ≡ true → any_proved (later ++ before) ≡ true
  any_later [] before is = is
  any_later (t ∷ later) before is =
      or_right (is_replied t.outcome && t.acts.proved) (any_proved (later ++ before)) (any_later later before is)

  each_before : (later : List Turn) (t : Turn) (before : List Turn) → EachServerTurn c end (later ++ (t ∷ before)) →
      EachServerTurn c end (t ∷ before)
  each_before [] t before each = each
  each_before (u ∷ later) t before each = each_before later t before each.1

  -- a turn that opened credentials came after one that proved
  opened_before : (t : Turn) (before : List Turn) → EachServerTurn c end (t ∷ before) → t.acts.opened ≡ true →
      any_proved (t ∷ before) ≡ true
  opened_before t before each opened = or_right (is_replied t.outcome && t.acts.proved) (any_proved before)
      (in_auth (any_finished before) (any_proved before) (any_over before) ((acts_at t before each).opened opened).0)

  -- a turn that proved and was not refused replied, or came after one that did
  proved_here : (came : Outcome) (t : Turn) (before : List Turn) → t.outcome ≡ came → EachServerTurn c end (t ∷ before) →
      t.acts.proved ≡ true → IsUnrefused came → any_proved (t ∷ before) ≡ true
  proved_here (outcome.Reply reply) t before is each proved un = rw (is, proved) refl
  proved_here (outcome.Final reply) t before is each proved un =
      absurd (subst (λ (x : Outcome). ShowsAnswer (server_shown (server_frame_at end before t)) t x) is each.0.shown.reply)
  proved_here outcome.Finished t before is each proved un =
      or_right (is_replied t.outcome && t.acts.proved) (any_proved before)
      (in_auth (any_finished before) (any_proved before) (any_over before)
      (subst (λ (x : Outcome). ShowsAnswer (server_shown (server_frame_at end before t)) t x) is each.0.shown.reply).0)
  proved_here (outcome.Refused kind reply) t before is each proved un = absurd un

  module _ (turns : List Turn) (each : EachServerTurn c end turns) (at : TurnOf turns) where
    each_at : EachServerTurn c end (at.turn ∷ at.before)
    each_at = each_before at.later at.turn at.before (subst (λ (l : List Turn). EachServerTurn c end l) at.parts each)

    over_since : any_proved (at.turn ∷ at.before) ≡ true → any_over turns ≡ true
    over_since is = proved_over turns each
        (subst (λ (l : List Turn). any_proved l ≡ true) (sym at.parts) (any_later at.later (at.turn ∷ at.before) is))

    pub over_once_proved : at.turn.acts.proved ≡ true → IsUnrefused at.turn.outcome → any_over turns ≡ true
    over_once_proved proved un = over_since (proved_here at.turn.outcome at.turn at.before refl each_at proved un)

    pub over_once_opened : at.turn.acts.opened ≡ true → any_over turns ≡ true
    over_once_opened opened = over_since (opened_before at.turn at.before each_at opened)

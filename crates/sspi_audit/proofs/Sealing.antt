-- At most one turn of an exchange that is shown right sealed the credentials.
use Rattle.std.proofs.Common.{◌≡◌, ◌<◌, ◌≤◌, ◌+◌, ℕ, inl, inr, List, [], ◌∷◌, length, take, reverse, slice_get, Option, None, Some, Bool}
use Rattle.std.proofs.Common.{true, false, ◌||◌, ◌∙◌, ap, subst, refl, arith}
use Rattle.std.proofs.lemmas.Option.{slice_get_within}
use Rattle.sspi_types.specs.declared.security_status.SecurityStatus.{SecurityStatus}
use Rattle.sspi_types.specs.declared.security_status.SecurityStatus.TheVariants as statuses
use Rattle.sspi_credssp.specs.declared.state.CredSspState.TheVariants.{AuthInfo, Final}
use Rattle.sspi_credssp.specs.declared.turn.End.{End}
use Rattle.sspi_credssp.specs.declared.turn.End.TheVariants.{Client, Server}
use Rattle.sspi_credssp.specs.declared.turn.Outcome.{Outcome}
use Rattle.sspi_credssp.specs.declared.turn.Outcome.TheVariants as outcome
use Rattle.sspi_credssp.specs.declared.turn.Turn.{Turn}
use Rattle.sspi_credssp.specs.Turn.{ShownFrame, ShowsNego, ShowsReply}
use Rattle.sspi_tsreq.specs.declared.request.TsRequest.{TsRequest}
use Rattle.sspi_delegate.specs.declared.carried.Carried.{Carried}
use Rattle.sspi_delegate.specs.Turns.{client_state}
use Rattle.sspi_delegate.specs.Turns.{client_turns, onto_client, is_ended, any_ended, GoesOn, AllGoOn}
use Rattle.sspi_audit.specs.Shown.{ShowsTurn, ShownTurn, EachShown}
use Rattle.sspi_audit.specs.Standings.{sealing_after}
use Rattle.sspi_audit.specs.Verdicts.{SealsOnlyIn}
use Rattle.sspi_audit.proofs.Fronts.{next_past, same_item, within_or_last}

-- ---- a turn that sealed is the client's, and its last

-- a client that waits for the server's proof goes on only with its last message
nego_is_early : (f : ShownFrame) (t : Turn) (status : Option SecurityStatus) (r : TsRequest) → f.state ≡ AuthInfo →
    ShowsNego f t status r → ⊥
nego_is_early f t None r late shows = shows
nego_is_early f t (Some statuses.Ok) r late shows = absurd (cc (late, shows.state))
nego_is_early f t (Some statuses.ContinueNeeded) r late shows = absurd (cc (late, shows.state))
nego_is_early f t (Some statuses.CompleteNeeded) r late shows = absurd (cc (late, shows.state))
nego_is_early f t (Some statuses.CompleteAndContinue) r late shows = absurd (cc (late, shows.state))
nego_is_early f t (Some statuses.LocalLogon) r late shows = absurd (cc (late, shows.state))
nego_is_early f t (Some statuses.ContextExpired) r late shows = absurd (cc (late, shows.state))
nego_is_early f t (Some statuses.IncompleteCredentials) r late shows = absurd (cc (late, shows.state))
nego_is_early f t (Some statuses.Renegotiate) r late shows = absurd (cc (late, shows.state))
nego_is_early f t (Some statuses.NoLsaContext) r late shows = absurd (cc (late, shows.state))

ends_late : (f : ShownFrame) (t : Turn) (out : Outcome) → f.state ≡ AuthInfo → ShowsReply f t out → GoesOn out → is_ended out ≡ true
ends_late f t (outcome.Reply r) late shows goes = absurd (nego_is_early f t t.acts.status r late shows)
ends_late f t (outcome.Final r) late shows goes = refl
ends_late f t outcome.Finished late shows goes = absurd goes
ends_late f t (outcome.Refused kind reply) late shows goes = absurd goes

-- what holds of a turn that sealed
pub record Sealed (past : List Turn) (t : Turn) : Type 0 where
  pub end : t.end ≡ Client
  pub state : client_state (client_turns past) ≡ AuthInfo
  pub ends : GoesOn t.outcome → is_ended t.outcome ≡ true

seals : (end : End) (past : List Turn) (t : Turn) → t.end ≡ end → ShowsTurn end past t → t.acts.sealed ≡ true → Sealed past t
seals Client past t is shows sealed =
    let late = (shows.acts.checked (shows.acts.sealed sealed)).0 in
    record { end = is; state = late; ends = ends_late _ t t.outcome late shows.reply }
seals Server past t is shows sealed = absurd (cc (sealed, shows.acts.sealed))

pub turn_seals : (log : List Carried) (past : List Turn) (t : Turn) → ShownTurn log past t → t.acts.sealed ≡ true → Sealed past t
turn_seals log past t shown sealed = seals t.end past t refl shown.shows sealed

-- ---- no turn after it seals

abbrev pub any_sealed : List Turn → Bool
any_sealed [] = false
any_sealed (t ∷ past) = t.acts.sealed || any_sealed past

or_true : (b : Bool) → (b || true) ≡ true
or_true true = refl
or_true false = refl

ended_onto : (end : End) (t : Turn) (past : List Turn) → any_ended past ≡ true → any_ended (onto_client end t past) ≡ true
ended_onto Client t past ended = rw ended (or_true (is_ended t.outcome))
ended_onto Server t past ended = ended

ended_first : (t : Turn) (past : List Turn) → t.end ≡ Client → is_ended t.outcome ≡ true → any_ended (onto_client t.end t past) ≡ true
ended_first t past is ended = rw (is, ended) refl

ended_by : (log : List Carried) (t : Turn) (past : List Turn) → ShownTurn log past t → GoesOn t.outcome →
    (any_sealed past ≡ true → any_ended (client_turns past) ≡ true) → (sealed : Bool) → t.acts.sealed ≡ sealed →
    (sealed || any_sealed past) ≡ true → any_ended (onto_client t.end t (client_turns past)) ≡ true
ended_by log t past shown goes before true is any =
    let s = turn_seals log past t shown is in ended_first t (client_turns past) s.end (s.ends goes)
ended_by log t past shown goes before false is any = ended_onto t.end t (client_turns past) (before any)

sealed_has_ended : (log : List Carried) (past : List Turn) → EachShown log past → AllGoOn past → any_sealed past ≡ true →
    any_ended (client_turns past) ≡ true
sealed_has_ended log [] each going any = absurd (cc (any))
sealed_has_ended log (t ∷ past) each going any =
    ended_by log t past each.0 going.0 (sealed_has_ended log past each.1 going.1) t.acts.sealed refl any

final_is_late : (past : List Turn) → any_ended past ≡ true → client_state past ≡ AuthInfo → ⊥
final_is_late past ended late =
    let is : client_state past ≡ Final = rw ended refl in absurd (cc (is, late))

pub seals_once : (log : List Carried) (past : List Turn) (t : Turn) → EachShown log past → ShownTurn log past t →
    any_sealed past ≡ true → t.acts.sealed ≡ true → ⊥
seals_once log past t each shown any sealed =
    final_is_late (client_turns past) (sealed_has_ended log past each shown.going any) (turn_seals log past t shown sealed).state

-- ---- which turn sealed, of the first n

pub record SealsAt (turns : List Turn) (n place : ℕ) : Type 0 where
  pub turn : Turn
  pub there : slice_get turns place ≡ Some turn
  pub sealed : turn.acts.sealed ≡ true
  pub any : any_sealed (reverse (take n turns)) ≡ true
  pub only : (i : ℕ) (u : Turn) → i < n → slice_get turns i ≡ Some u → u.acts.sealed ≡ true → i ≡ place

abbrev pub SealsBefore : List Turn → ℕ → Option ℕ → Type 0
SealsBefore turns n None = (i : ℕ) (u : Turn) → i < n → slice_get turns i ≡ Some u → u.acts.sealed ≡ false
SealsBefore turns n (Some place) = SealsAt turns n place

any_first : (turns : List Turn) (n : ℕ) (t : Turn) (sealed : Bool) → slice_get turns n ≡ Some t → t.acts.sealed ≡ sealed →
    any_sealed (reverse (take (n + 1) turns)) ≡ (sealed || any_sealed (reverse (take n turns)))
any_first turns n t sealed there is =
    ap any_sealed (next_past turns n t there) ∙ ap (λ (b : Bool). b || any_sealed (reverse (take n turns))) is

none_more : (turns : List Turn) (n : ℕ) (t : Turn) → slice_get turns n ≡ Some t → t.acts.sealed ≡ false → SealsBefore turns n None →
    SealsBefore turns (n + 1) None
none_more turns n t there is before i u within at =
    elim (within_or_last i n within) [
      | inl less ↦ before i u less at
      | inr last ↦ subst (λ (v : Turn). v.acts.sealed ≡ false) (same_item turns n i t u last there at) is
    ]

one_more : (turns : List Turn) (n place : ℕ) (t : Turn) → slice_get turns n ≡ Some t → t.acts.sealed ≡ false → SealsAt turns n place →
    SealsAt turns (n + 1) place
one_more turns n place t there is before = record {
  turn = before.turn;
  there = before.there;
  sealed = before.sealed;
  any = any_first turns n t false there is ∙ before.any;
  only = λ i u within at sealed. elim (within_or_last i n within) [
    | inl less ↦ before.only i u less at sealed
    | inr last ↦
        let not : u.acts.sealed ≡ false = subst (λ (v : Turn). v.acts.sealed ≡ false) (same_item turns n i t u last there at) is in
        absurd (cc (not, sealed))
  ];
}

first_one : (turns : List Turn) (n : ℕ) (t : Turn) → slice_get turns n ≡ Some t → t.acts.sealed ≡ true → SealsBefore turns n None →
    SealsAt turns (n + 1) n
first_one turns n t there is before = record {
  turn = t;
  there = there;
  sealed = is;
  any = any_first turns n t true there is;
  only = λ i u within at sealed. elim (within_or_last i n within) [
    | inl less ↦ let not = before i u less at in absurd (cc (not, sealed))
    | inr last ↦ last
  ];
}

seals_next_by : (log : List Carried) (turns : List Turn) (n : ℕ) (t : Turn) (sealing : Option ℕ) (sealed : Bool) →
    slice_get turns n ≡ Some t → t.acts.sealed ≡ sealed → EachShown log (reverse (take n turns)) →
    ShownTurn log (reverse (take n turns)) t → SealsBefore turns n sealing → SealsBefore turns (n + 1) (sealing_after sealed n sealing)
seals_next_by log turns n t None false there is each shown before = none_more turns n t there is before
seals_next_by log turns n t (Some place) false there is each shown before = one_more turns n place t there is before
seals_next_by log turns n t None true there is each shown before = first_one turns n t there is before
seals_next_by log turns n t (Some place) true there is each shown before =
    absurd (seals_once log (reverse (take n turns)) t each shown before.any is)

pub seals_next : (log : List Carried) (turns : List Turn) (n : ℕ) (t : Turn) (sealing : Option ℕ) → slice_get turns n ≡ Some t →
    EachShown log (reverse (take n turns)) → ShownTurn log (reverse (take n turns)) t → SealsBefore turns n sealing →
    SealsBefore turns (n + 1) (sealing_after t.acts.sealed n sealing)
seals_next log turns n t sealing there each shown before = seals_next_by log turns n t sealing t.acts.sealed there refl each shown before

pub seals_in_all : (turns : List Turn) (n : ℕ) (sealing : Option ℕ) → length turns ≤ n → SealsBefore turns n sealing →
    SealsOnlyIn turns sealing
seals_in_all turns n None all before = λ i t at.
    let within = slice_get_within turns i t at in before i t (omega (arith, within, all)) at
seals_in_all turns n (Some place) all before = (
  before.turn,
  before.there,
  before.sealed,
  λ i u at sealed. let within = slice_get_within turns i u at in before.only i u (omega (arith, within, all)) at sealed,
)

-- The log of a shown run, read from its last entry.
use Rattle.std.proofs.Common.{◌≡◌, suc, ℕ, inl, inr, List, [], ◌∷◌, ◌++◌, length, reverse, slice_get, Option, Some, IfSome}
use Rattle.std.proofs.Common.{sym, subst, refl, arith, append_assoc}
use Rattle.std.proofs.lemmas.Bool.{cases_lt}
use Rattle.std.proofs.lemmas.List.{length-reverse, reverse-reverse}
use Rattle.sspi_tsreq.specs.declared.request.TsRequest.{TsRequest}
use Rattle.sspi_credssp.specs.declared.turn.Turn.{Turn}
use Rattle.sspi_delegate.specs.declared.carried.Carried.{Carried}
use Rattle.sspi_delegate.specs.Log.{IsDelivered, Logged, HasLog}
use Rattle.sspi_delegate.specs.Turns.{Alternates}
use Rattle.sspi_audit.specs.Run.{IsShownRun}
use Rattle.sspi_audit.specs.Shown.{EachShown, IsCounted, IsGiven}
use Rattle.sspi_audit.proofs.InRuns.{each_is_shown}
use Rattle.sspi_audit.proofs.Logs.{at_place}

some_of : {A : Type 0} (o : Option A) (x : A) (P : A → Type 0) → o ≡ Some x → IfSome o P → P x
some_of o x P is some = subst (λ (q : Option _). IfSome q P) is some

-- what a turn was given is what the entry before it delivered
given_back : (past : List Turn) (later log : List Carried) (d : TsRequest) → length log ≡ length past →
    IsGiven past (reverse (later ++ log)) d → IsDelivered past log d
given_back [] later log d long given = given
given_back (t ∷ past) later [] d long given = absurd (omega (arith, long))
given_back (t ∷ past) later (e ∷ log) d long given =
    let same : length log ≡ length past = omega (arith, long) in
    some_of _ e _ (subst (λ (n : ℕ). slice_get (reverse (later ++ (e ∷ log))) n ≡ Some e) same (at_place later e log)) given

logged_back : (turns : List Turn) (later log : List Carried) → length log ≡ length turns → EachShown (reverse (later ++ log)) turns →
    Logged [] turns log
logged_back [] later [] long each = refl
logged_back [] later (e ∷ log) long each = absurd (omega (arith, long))
logged_back (t ∷ past) later [] long each = absurd (omega (arith, long))
logged_back (t ∷ past) later (e ∷ log) long each =
    let same : length log ≡ length past = omega (arith, long) in
    let more : later ++ (e ∷ log) ≡ (later ++ (e ∷ [])) ++ log = sym (append_assoc later (e ∷ []) log) in (
      some_of _ e _ (subst (λ (n : ℕ). slice_get (reverse (later ++ (e ∷ log))) n ≡ Some e) same (at_place later e log)) each.0.entry,
      given_back past (later ++ (e ∷ [])) log t.delivered same
          (subst (λ (l : List Carried). IsGiven past (reverse l) t.delivered) more each.0.given),
      logged_back past (later ++ (e ∷ [])) log same (subst (λ (l : List Carried). EachShown (reverse l) past) more each.1),
    )

log_back : (turns : List Turn) (log : List Carried) → IsCounted turns (reverse log) → EachShown (reverse log) turns → HasLog [] turns log
log_back [] log counted each =
    let long = length-reverse log in
    let most = counted.most in inl (logged_back [] [] log (omega (arith, long, most)) each)
log_back (t ∷ past) log counted each =
    let long = length-reverse log in
    let most = counted.most in
    let least = counted.least in
    elim (cases_lt (length log) (suc (length past))) [
      | inl less ↦
          let same : length log ≡ length past = omega (arith, long, least, less) in
          inr (given_back past [] log t.delivered same each.0.given, logged_back past [] log same each.1)
      | inr more ↦ inl (logged_back (t ∷ past) [] log (omega (arith, long, most, more)) each)
    ]

order_back : (turns : List Turn) (log : List Carried) → EachShown log turns → Alternates turns
order_back [] log each = tt
order_back (t ∷ past) log each = (each.0.order, each.0.going, order_back past log each.1)

pub shown_back : (turns : List Turn) (log : List Carried) → IsShownRun turns log → Alternates turns × HasLog [] turns (reverse log)
shown_back turns log run =
    let each = each_is_shown log turns run.each in
    let is : log ≡ reverse (reverse log) = sym (reverse-reverse log) in (
      order_back turns log each,
      log_back turns (reverse log) (subst (λ (l : List Carried). IsCounted turns l) is run.ends.counted)
          (subst (λ (l : List Carried). EachShown l turns) is each),
    )

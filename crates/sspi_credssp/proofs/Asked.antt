-- How one call of a proxy counts among the calls of a turn.
use Rattle.std.proofs.Common.{◌≡◌, ◌∙◌, ◌+◌, ◌-◌, ◌<◌, ◌≤◌, ◌⊎◌, inl, inr, ℕ, zero, suc, add-zero, add-suc, List, [], Option, None}
use Rattle.std.proofs.Common.{Some, IsSome, Result, Ok, Err, OnOk, refl, sym, ap, subst, arith}
use Rattle.sspi_credssp.specs.declared.proxy.ProxyError.{ProxyError}
use Rattle.sspi_credssp.specs.declared.proxy.ProxyError.TheVariants.{NotFound, Failed, InsufficientMemory}
use Rattle.sspi_credssp.specs.Proxy.{ProxyMeaning, ProxyTells, HasAnswered, HasAsked, IsAsked, FailsAfter, TellsFailure}
use Rattle.sspi_credssp.specs.ServerStage.{IsLater}
use Rattle.sspi_types.specs.Counting.{counted_on}
use Rattle.sspi_credssp.specs.Proxy.{FailsAsTold, LookUpCause, counted_after}

rises : {X : Type 0} (before now : ℕ) (r : Result X ProxyError) → LookUpCause before now r → before ≤ now
rises before now (Ok x) h = h
rises before now (Err NotFound) h = h
rises before now (Err Failed) h = h.0
rises before now (Err InsufficientMemory) h = h

none_told : (call : ℕ) → TellsFailure (Some []) call → ⊥
none_told call fails = absurd (cc (fails))

-- if the failing calls are exposed: a call with this answer counted no fault, or is one of them
failed_once : {X : Type 0} (failing : Option (List ℕ)) (call before now : ℕ) (r : Result X ProxyError) → IsSome failing →
    FailsAsTold failing call before now r → (now ≡ before) ⊎ TellsFailure failing call
failed_once None call before now r told h = absurd (cc (told))
failed_once (Some numbers) call before now (Ok x) told h = inl h.1
failed_once (Some numbers) call before now (Err NotFound) told h = inl h.1
failed_once (Some numbers) call before now (Err Failed) told h = inr h
failed_once (Some numbers) call before now (Err InsufficientMemory) told h = inl h

told_failure : {X : Type 0} (failing : Option (List ℕ)) (call before now : ℕ) (x : X) → FailsAsTold failing call before now (Ok x) →
    TellsFailure failing call → ⊥
told_failure None call before now x told fails = fails
told_failure (Some numbers) call before now x told fails = absurd cc

in_first : (i n : ℕ) → (i < n) ⊎ (n ≤ i)
in_first zero zero = inr (omega arith)
in_first zero (suc n) = inl (omega arith)
in_first (suc i) zero = inr (omega arith)
in_first (suc i) (suc n) = elim (in_first i n) [
  | inl less ↦ inl (omega (arith, less))
  | inr more ↦ inr (omega (arith, more))
]

counted_on_after : (n more count : ℕ) → counted_after (n + more) count ≡ counted_after more (counted_after n count)
counted_on_after n zero count = rw (add-zero n) refl
counted_on_after n (suc more) count = rw (add-suc n more) (ap counted_on (counted_on_after n more count))

module _ {P : Type 0} (p : ProxyMeaning P) where
  pub asked_once : {X : Type 0} (before : P) (r : Result X ProxyError) (now : P) → HasAnswered p before r now → IsAsked p 1 before now
  asked_once before r now h = record {
    told_same = h.told_same;
    asked = 1;
    at_most = omega arith;
    counted = h.counted;
    unasked = λ none. absurd (omega (arith, none));
    faults_stay = rises _ _ r h.cause;
    failed = λ told. elim (failed_once (p.told before).failing (p.calls before) (p.faults before) (p.faults now) r told h.fails) [
      | inl same ↦ inl same
      | inr fails ↦ inr (0, omega arith, fails)
    ];
  }

  pub not_asked : (limit : ℕ) (before now : P) → now ≡ before → IsAsked p limit before now
  not_asked limit before now same = record {
    told_same = ap p.told same;
    asked = 0;
    at_most = omega arith;
    counted = ap p.calls same;
    unasked = λ none. same;
    faults_stay = rw same (omega arith);
    failed = λ told. inl (ap p.faults same);
  }

  pub asked_on : (limit more : ℕ) (before mid now : P) → IsAsked p limit before mid → IsAsked p more mid now →
      IsAsked p (limit + more) before now
  asked_on limit more before mid now first then = record {
    told_same = then.told_same ∙ first.told_same;
    asked = first.asked + then.asked;
    at_most = omega (arith, first.at_most, then.at_most);
    counted = then.counted ∙ ap (counted_after then.asked) first.counted ∙ sym (counted_on_after first.asked then.asked (p.calls before));
    unasked = λ none. then.unasked (omega (arith, none)) ∙ first.unasked (omega (arith, none));
    faults_stay = omega (arith, first.faults_stay, then.faults_stay);
    failed = λ told. elim (first.failed told) [
      | inr fails ↦ inr (fails.0, omega (arith, fails.1), fails.2)
      | inl same ↦ elim (then.failed (subst (λ (t : ProxyTells). IsSome t.failing) (sym first.told_same) told)) [
        | inl still ↦ inl (still ∙ same)
        | inr fails ↦ inr (first.asked + fails.0, omega (arith, fails.1), fails_from fails.0 fails.2)
      ]
    ];
  } where
    fails_from : (j : ℕ) → FailsAfter p j mid → FailsAfter p (first.asked + j) before
    fails_from j fails =
        subst (λ n. TellsFailure (p.told before).failing n) (sym (counted_on_after first.asked j (p.calls before)))
        (subst (λ x. TellsFailure (p.told before).failing (counted_after j x)) first.counted
        (subst (λ (t : ProxyTells). TellsFailure t.failing (counted_after j (p.calls mid))) first.told_same fails))

  -- if it exposes that no call fails, none does
  pub calm_by : (limit : ℕ) (before now : P) → IsAsked p limit before now → (p.told before).failing ≡ Some [] →
      p.faults now ≡ p.faults before
  calm_by limit before now asked calm = elim (asked.failed (rw calm refl)) [
    | inl same ↦ same
    | inr fails ↦ absurd (none_told (counted_after fails.0 (p.calls before))
        (subst (λ (f : Option (List ℕ)). TellsFailure f (counted_after fails.0 (p.calls before))) calm fails.2))
  ]

  pub later : (limit : ℕ) (before now : P) → IsAsked p limit before now → IsLater p before now
  later limit before now asked = record { told_same = asked.told_same; faults_stay = asked.faults_stay }

  pub later_on : (before mid now : P) → IsLater p before mid → IsLater p mid now → IsLater p before now
  later_on before mid now first then = record {
    told_same = then.told_same ∙ first.told_same;
    faults_stay = omega (arith, first.faults_stay, then.faults_stay);
  }

  -- exactly one call, which was not exposed as failing
  pub has_asked_once : {X : Type 0} (before : P) (r : Result X ProxyError) (now : P) → HasAnswered p before r now →
      OnOk r (HasAsked p 1 before now)
  has_asked_once before (Ok x) now h = record {
    counted = h.counted;
    unfailing = λ i first fails. told_failure _ _ _ _ x h.fails
        (subst (λ n. FailsAfter p n before) (let e : i ≡ 0 = omega (arith, first) in e) fails);
  }
  has_asked_once before (Err e) now h = tt

  pub has_not_asked : (n : ℕ) (before now : P) → n ≡ 0 → now ≡ before → HasAsked p n before now
  has_not_asked n before now none same = record {
    counted = rw (none, same) refl;
    unfailing = λ i less. absurd (omega (arith, less, none));
  }

  pub has_asked_as : (n m : ℕ) (before now : P) → n ≡ m → HasAsked p n before now → HasAsked p m before now
  has_asked_as n m before now same h = subst (λ i. HasAsked p i before now) same h

  pub has_asked_on : (n more : ℕ) (before mid now : P) → p.told mid ≡ p.told before → HasAsked p n before mid → HasAsked p more mid now →
      HasAsked p (n + more) before now
  has_asked_on n more before mid now same first then = record {
    counted = then.counted ∙ ap (counted_after more) first.counted ∙ sym (counted_on_after n more (p.calls before));
    unfailing = λ i less fails. elim (in_first i n) [
      | inl before ↦ first.unfailing i before fails
      | inr after ↦ let e : i ≡ n + (i - n) = omega (arith, after) in
          then.unfailing (i - n) (omega (arith, less, after)) (later_fails (i - n) (subst (λ x. FailsAfter p x before) e fails))
    ];
  } where
    later_fails : (j : ℕ) → FailsAfter p (n + j) before → FailsAfter p j mid
    later_fails j fails =
        subst (λ (t : ProxyTells). TellsFailure t.failing (counted_after j (p.calls mid))) (sym same)
        (subst (λ x. TellsFailure (p.told before).failing (counted_after j x)) (sym first.counted)
        (subst (λ x. TellsFailure (p.told before).failing x) (counted_on_after n j (p.calls before)) fails))

  pub turn_asked : {T E : Type 0} (before mid now : P) (n more : ℕ) (r : Result T E) → p.told mid ≡ p.told before →
      HasAsked p n before mid →
      OnOk r (HasAsked p more mid now) → OnOk r (HasAsked p (n + more) before now)
  turn_asked before mid now n more (Ok x) same first then = has_asked_on n more before mid now same first then
  turn_asked before mid now n more (Err e) same first then = tt

  pub asked_as : (n m : ℕ) (before now : P) → n ≡ m → IsAsked p n before now → IsAsked p m before now
  asked_as n m before now same h = subst (λ i. IsAsked p i before now) same h

  pub on_ok_asked_as : {T E : Type 0} (n m : ℕ) (before now : P) (r : Result T E) → n ≡ m → OnOk r (HasAsked p n before now) →
      OnOk r (HasAsked p m before now)
  on_ok_asked_as n m before now (Ok x) same h = has_asked_as n m before now same h
  on_ok_asked_as n m before now (Err e) same h = tt

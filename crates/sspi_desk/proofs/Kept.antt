-- How a change of the map changes a desk.
use Rattle.std.proofs.Common.{◌≡◌, ℕ, ◌+◌, ◌<◌, List, [], length, Option, None, Some, Result, refl, sym, ap, ◌∙◌, subst, arith}
use Rattle.std.specs.Prelude.{IsSome, nat_eq, Bool, true, false, cond}
use Rattle.std.specs.Map.{lookup}
use Rattle.std.proofs.lemmas.Bool.{eqb-true, eq-eqb, ne_eqb}
use Rattle.sspi_mech.specs.Meaning.{Meaning}
use Rattle.sspi_credssp.specs.Context.{ContextSetting}
use Rattle.sspi_credssp.specs.Proxy.{ProxyMeaning}
use Rattle.sspi_credssp.specs.Ends.{ServerView}
use Rattle.sspi_desk.specs.declared.answer.DeskError.{DeskError}
use Rattle.sspi_desk.specs.declared.answer.Served.{Served}
use Rattle.sspi_desk.specs.Call.{IsServed}
use Rattle.sspi_desk.specs.Desk.{IsOrderly, IsAdmitted, Serves, ServesAt}

not_some : (X : Type 0) → IsSome {T = X} None → ⊥
not_some X some = absurd cc

module _ {X : Type 0} where
  is_none : (o : Option X) → (IsSome o → ⊥) → o ≡ None
  is_none None not = refl
  is_none (Some x) not = absurd (not refl)

  pub orderly_none : (limit : ℕ) (kept : List (ℕ × X)) → kept ≡ [] → IsOrderly limit 0 kept
  orderly_none limit kept none = record {
    below = λ s some. absurd (not_some X (subst (λ (k : List (ℕ × X)). IsSome (lookup (nat_eq s) k)) none some));
    within = omega (arith, ap length none);
  }

  one_below : (s number : ℕ) (v : X) (old : Option X) (admitted : ℕ) (same : Bool) → nat_eq number s ≡ same → number ≡ admitted →
      (IsSome old → s < admitted) → IsSome (cond same (Some v) old) → s < admitted + 1
  one_below s number v old admitted true is numbered below some = let e : number ≡ s = eqb-true number s is in omega arith
  one_below s number v old admitted false is numbered below some = let lt : s < admitted = below some in omega arith

  pub orderly_more : (limit admitted : ℕ) (old new : List (ℕ × X)) (v : X) → IsOrderly limit admitted old → length old < limit →
      length new ≡ length old + 1 →
      ((q : ℕ) → lookup (nat_eq q) new ≡ cond (nat_eq admitted q) (Some v) (lookup (nat_eq q) old)) → IsOrderly limit (admitted + 1) new
  orderly_more limit admitted old new v is room many at = record {
    below = λ s some. one_below s admitted v (lookup (nat_eq s) old) admitted (nat_eq admitted s) refl refl (is.below s)
        (subst IsSome (at s) some);
    within = omega (arith, room, many);
  }

  -- a value was written where there was one
  still_below : (s number admitted : ℕ) (v : X) (old : Option X) (same : Bool) → nat_eq number s ≡ same → number < admitted →
      (IsSome old → s < admitted) → IsSome (cond same (Some v) old) → s < admitted
  still_below s number admitted v old true is here below some = let e : number ≡ s = eqb-true number s is in omega arith
  still_below s number admitted v old false is here below some = below some

  pub orderly_put : (limit admitted number : ℕ) (old new : List (ℕ × X)) (v : X) → IsOrderly limit admitted old →
      IsSome (lookup (nat_eq number) old) → length new ≡ length old →
      ((q : ℕ) → lookup (nat_eq q) new ≡ cond (nat_eq number q) (Some v) (lookup (nat_eq q) old)) → IsOrderly limit admitted new
  orderly_put limit admitted number old new v is here many at = record {
    below = λ s some. still_below s number admitted v (lookup (nat_eq s) old) (nat_eq number s) refl (is.below number here) (is.below s)
        (subst IsSome (at s) some);
    within = omega (arith, is.within, many);
  }

module _ {C P : Type 0} where
  -- one more session
  pub admitted_more : (server : ServerView C P) (limit admitted : ℕ) (old new : List (ℕ × ServerView C P)) → IsOrderly limit admitted old →
      length old < limit → length new ≡ length old + 1 →
      ((q : ℕ) → lookup (nat_eq q) new ≡ cond (nat_eq admitted q) (Some server) (lookup (nat_eq q) old)) →
      IsAdmitted server admitted (record { limit = limit; admitted = admitted; kept = old })
      (record { limit = limit; admitted = admitted + 1; kept = new })
  admitted_more server limit admitted old new is room many at = record {
    room = room;
    numbered = refl;
    unused = is_none (lookup (nat_eq admitted) old) (λ some. let lt = is.below admitted some in omega arith);
    changes = record {
      limit = refl;
      here = at admitted ∙ ap (λ (b : Bool). cond b (Some server) (lookup (nat_eq admitted) old)) (eq-eqb admitted admitted refl);
      others = λ other apart. at other ∙
          ap (λ (b : Bool). cond b (Some server) (lookup (nat_eq other) old)) (ne_eqb admitted other (λ same. apart (sym same)));
    };
    counts = record { admitted_is = refl; kept_is = many };
  }

  module _ (c : Meaning ContextSetting C) (p : ProxyMeaning P) where
    pub serves_one : (server after : ServerView C P) (s : ℕ) (bytes : List ℕ) (answer : Result Served DeskError) (limit admitted : ℕ)
        (old new : List (ℕ × ServerView C P)) → lookup (nat_eq s) old ≡ Some server → IsServed c p server bytes answer after →
        length new ≡ length old →
        ((q : ℕ) → lookup (nat_eq q) new ≡ cond (nat_eq s q) (Some after) (lookup (nat_eq q) old)) →
        Serves c p s bytes answer (record { limit = limit; admitted = admitted; kept = old })
        (record { limit = limit; admitted = admitted; kept = new })
    serves_one server after s bytes answer limit admitted old new found served many at =
        subst (λ (o : Option (ServerView C P)). ServesAt c p o s bytes answer (record { limit = limit; admitted = admitted; kept = old })
        (record { limit = limit; admitted = admitted; kept = new })) (sym found)
        (record {
          after = after;
          answers = served;
          changes = record {
            limit = refl;
            here = at s ∙ ap (λ (b : Bool). cond b (Some after) (lookup (nat_eq s) old)) (eq-eqb s s refl);
            others = λ other apart. at other ∙
                ap (λ (b : Bool). cond b (Some after) (lookup (nat_eq other) old)) (ne_eqb s other (λ same. apart (sym same)));
          };
          counts = record { admitted_is = refl; kept_is = many };
        })

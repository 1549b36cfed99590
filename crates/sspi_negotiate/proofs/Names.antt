-- What a list of package names says, name by name.
use Rattle.std.proofs.Common.{◌≡◌, ℕ, Bool, true, false, not, ◌&&◌, List, [], ◌∷◌, ◌++◌, Option, Some, None, refl}
use Rattle.std.proofs.Common.{sym, ◌∙◌, ap, cond, reverse, IsTrue, codes, map, unwrap_or, MatchOption, Bor, ◌≢◌}
use lib.Pointwise.{bytes_decides}
use Rattle.std.specs.Char.{to_ascii_lowercase}
use Rattle.std.specs.Str.{bytes_eq}
use Rattle.std.proofs.lemmas.Bool.{ne_eqb}
use Rattle.std.specs.List.{list_all, find}
use Rattle.std.specs.Option.{option_map}
use Rattle.std.proofs.lemmas.List.{reverse-append}
use Rattle.std.proofs.lemmas.List.Folds.{list_all-append}
use Rattle.sspi_negotiate.specs.PackageList.{is_marked, unmarked, is_name_of, last_word, names_of, allows, packages_of}
use Rattle.sspi_negotiate.specs.declared.package_list.PackageListConfig.{PackageListConfig}

-- the names so far, and what they say
pub record Heard (names : List (List ℕ)) (ntlm kerberos : Option Bool) (unnamed : Bool) : Type 0 where
  pub ntlm_is : ntlm ≡ last_word names (codes "ntlm")
  pub kerberos_is : kerberos ≡ last_word names (codes "kerberos")
  pub unnamed_is : unnamed ≡ list_all is_marked names

pub last_word-push : (names : List (List ℕ)) (name expected : List ℕ) →
    last_word (names ++ name ∷ []) expected ≡ cond (is_name_of expected name) (Some (not (is_marked name))) (last_word names expected)
last_word-push names name expected =
    ap (λ back. option_map (λ name. not (is_marked name)) (find (is_name_of expected) back)) (reverse-append names (name ∷ []))
    ∙ (elim (is_name_of expected name)
    as (λ b. option_map (λ name. not (is_marked name)) (cond b (Some name) (find (is_name_of expected) (reverse names))) ≡ cond b
    (Some (not (is_marked name))) (last_word names expected)) [ true ↦ refl | false ↦ refl ])

and_true : (a b : Bool) → (a && (b && true)) ≡ (a && b)
and_true true true = refl
and_true true false = refl
and_true false b = refl

pub Heard-push : (names : List (List ℕ)) (ntlm kerberos : Option Bool) (unnamed : Bool) (name : List ℕ) → Heard names ntlm kerberos unnamed
    → Heard (names ++ name ∷ []) (cond (is_name_of (codes "ntlm") name) (Some (not (is_marked name))) ntlm)
    (cond (is_name_of (codes "kerberos") name) (Some (not (is_marked name))) kerberos) (unnamed && is_marked name)
Heard-push names ntlm kerberos unnamed name heard = record {
  ntlm_is = ap (cond (is_name_of (codes "ntlm") name) (Some (not (is_marked name)))) heard.ntlm_is ∙
      sym (last_word-push names name (codes "ntlm"));
  kerberos_is = ap (cond (is_name_of (codes "kerberos") name) (Some (not (is_marked name)))) heard.kerberos_is ∙
      sym (last_word-push names name (codes "kerberos"));
  unnamed_is = ap (λ b. b && is_marked name) heard.unnamed_is ∙ sym (and_true (list_all is_marked names) (is_marked name)) ∙
      sym (list_all-append is_marked names (name ∷ []));
}

unmarked_none : (name : List ℕ) → ((rest : List ℕ) → name ≢ 33 ∷ rest) → unmarked name ≡ name
unmarked_none [] lacks = refl
unmarked_none (byte ∷ rest) lacks = ap (λ b. cond b rest (byte ∷ rest)) (ne_eqb byte 33 (λ e. lacks rest (ap (λ b. b ∷ rest) e)))

-- a name without its mark, as `strip_prefix` finds it
pub unmarked_is : (name : Bor (List ℕ)) (r : Option (Bor (List ℕ))) →
    MatchOption r ((rest : List ℕ) → name.now ≢ 33 ∷ rest) (λ x. name.now ≡ 33 ∷ x.now) → (unwrap_or r name).now ≡ unmarked name.now
unmarked_is name None lacks = sym (unmarked_none name.now lacks)
unmarked_is name (Some x) parts = sym (ap unmarked parts)

same_test : (a b : Bool) → (a ≡ true → b ≡ true) → (b ≡ true → a ≡ true) → a ≡ b
same_test true b to back = sym (to refl)
same_test false true to back = back refl
same_test false false to back = refl

pub name_test : (r : Bool) (name expected : List ℕ) →
    (IsTrue r → map to_ascii_lowercase (unmarked name) ≡ map to_ascii_lowercase expected) ×
    (map to_ascii_lowercase (unmarked name) ≡ map to_ascii_lowercase expected → IsTrue r) → r ≡ is_name_of expected name
unfolding is_name_of
name_test r name expected test =
    let same = bytes_decides (map to_ascii_lowercase (unmarked name)) (map to_ascii_lowercase expected) in
    same_test r (bytes_eq (map to_ascii_lowercase (unmarked name)) (map to_ascii_lowercase expected)) (λ e. same.1 (test.0 e))
    (λ e. test.1 (same.0 e))

-- what the whole list says
pub packages_heard : (list : List ℕ) (ntlm kerberos : Option Bool) (unnamed : Bool) → Heard (names_of list) ntlm kerberos unnamed →
    (a b : Bool) → a ≡ unwrap_or ntlm unnamed → b ≡ unwrap_or kerberos unnamed
    → let packages : PackageListConfig = record { ntlm = a; kerberos = b } in packages ≡ packages_of (Some list)
packages_heard list ntlm kerberos unnamed heard a b a_is b_is =
    let first : a ≡ allows (names_of list) (codes "ntlm") = a_is ∙ (λ i. unwrap_or (heard.ntlm_is i) (heard.unnamed_is i)) in
    let second : b ≡ allows (names_of list) (codes "kerberos") = b_is ∙ (λ i. unwrap_or (heard.kerberos_is i) (heard.unnamed_is i)) in
    λ i. record { ntlm = first i; kerberos = second i }

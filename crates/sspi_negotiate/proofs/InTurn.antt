-- A list of package names says the same whether its last word counts or its names are applied in turn.
use Rattle.std.proofs.Common.{◌≡◌, ℕ, Bool, true, false, not, ◌&&◌, List, [], ◌∷◌, ◌++◌, Option}
use Rattle.std.proofs.Common.{Some, refl, sym, ◌∙◌, ap, cond, codes, append_assoc, unwrap_or}
use Rattle.std.specs.Prelude.{◌||◌}
use Rattle.std.specs.List.{list_all}
use Rattle.std.proofs.lemmas.List.{append-nil}
use Rattle.std.proofs.lemmas.List.Folds.{list_all-append}
use Rattle.sspi_negotiate.specs.PackageList.{is_marked, is_name_of, last_word, names_of, allows, packages_of, applied, in_turn}
use Rattle.sspi_negotiate.specs.declared.package_list.PackageListConfig.{PackageListConfig}
use Rattle.sspi_negotiate.proofs.Names.{last_word-push}

abbrev allowed : List (List ℕ) → PackageListConfig
allowed names = record { ntlm = allows names (codes "ntlm"); kerberos = allows names (codes "kerberos") }

-- if each name only disallows, so does the last word
record Disallows (names : List (List ℕ)) (expected : List ℕ) : Type 0 where
  so : list_all is_marked names ≡ true → unwrap_or (last_word names expected) false ≡ false

all_push : (names : List (List ℕ)) (name : List ℕ) →
    list_all is_marked (names ++ name ∷ []) ≡ (list_all is_marked names && (is_marked name && true))
all_push names name = list_all-append is_marked names (name ∷ [])

both_true : (a m : Bool) → (a && (m && true)) ≡ true → (a ≡ true) × (m ≡ true)
both_true true true e = (refl, refl)
both_true true false e = absurd cc
both_true false m e = absurd cc

disallows_push : (names : List (List ℕ)) (name expected : List ℕ) → Disallows names expected → Disallows (names ++ name ∷ []) expected
disallows_push names name expected before = record {
  so = λ all.
      let parts = both_true (list_all is_marked names) (is_marked name) (sym (all_push names name) ∙ all) in
      ap (λ word. unwrap_or word false) (last_word-push names name expected)
      ∙ by_name (is_name_of expected name) (is_marked name) (last_word names expected) parts.1 (before.so parts.0);
}
  where
    by_name : (is m : Bool) (word : Option Bool) → m ≡ true → unwrap_or word false ≡ false →
        unwrap_or (cond is (Some (not m)) word) false ≡ false
    by_name true m word marked rest = ap not marked
    by_name false m word marked rest = rest

-- one package, by one more name
word_step : (is a m : Bool) (word : Option Bool) → (a ≡ true → unwrap_or word false ≡ false)
    → cond is (not m) (cond (not a || m) (unwrap_or word a) false) ≡ unwrap_or (cond is (Some (not m)) word) (a && (m && true))
word_step true a m word only = refl
word_step false false m word only = refl
word_step false true true word only = refl
word_step false true false word only = sym (only refl)

chosen_step : (a m : Bool) → (not a || not m) ≡ not (a && (m && true))
chosen_step true true = refl
chosen_step true false = refl
chosen_step false m = refl

package_step : (names : List (List ℕ)) (name expected : List ℕ) → Disallows names expected
    → cond (is_name_of expected name) (not (is_marked name))
    (cond (not (list_all is_marked names) || is_marked name) (allows names expected) false) ≡ allows (names ++ name ∷ []) expected
package_step names name expected before =
    word_step (is_name_of expected name) (list_all is_marked names) (is_marked name) (last_word names expected) before.so
    ∙ sym (λ i. unwrap_or (last_word-push names name expected i) (all_push names name i))

field_of : (b : Bool) (f : PackageListConfig → Bool) (p q : PackageListConfig) → f (cond b p q) ≡ cond b (f p) (f q)
field_of true f p q = refl
field_of false f p q = refl

abbrev neither : PackageListConfig
neither = record { ntlm = false; kerberos = false }

state_step : (names : List (List ℕ)) (name : List ℕ) → Disallows names (codes "ntlm") → Disallows names (codes "kerberos")
    → applied name (cond (not (list_all is_marked names) || is_marked name) (allowed names) neither) ≡ allowed (names ++ name ∷ [])
state_step names name no_ntlm no_kerberos =
    let kept = not (list_all is_marked names) || is_marked name in
    let first = ap (cond (is_name_of (codes "ntlm") name) (not (is_marked name))) (field_of kept (λ p. p.ntlm) (allowed names) neither) ∙
    package_step names name (codes "ntlm") no_ntlm in
    let second = ap (cond (is_name_of (codes "kerberos") name) (not (is_marked name)))
    (field_of kept (λ p. p.kerberos) (allowed names) neither) ∙ package_step names name (codes "kerberos") no_kerberos in
    λ i. record { ntlm = first i; kerberos = second i }

turns : (seen rest : List (List ℕ)) → Disallows seen (codes "ntlm") → Disallows seen (codes "kerberos") →
    in_turn (not (list_all is_marked seen)) (allowed seen) rest ≡ allowed (seen ++ rest)
turns seen [] no_ntlm no_kerberos = ap allowed (sym (append-nil seen))
turns seen (name ∷ rest) no_ntlm no_kerberos =
    let chosen : (not (list_all is_marked seen) || not (is_marked name)) ≡ not (list_all is_marked (seen ++ name ∷ [])) =
    chosen_step (list_all is_marked seen) (is_marked name) ∙ ap not (sym (all_push seen name)) in
    (λ i. in_turn (chosen i) (state_step seen name no_ntlm no_kerberos i) rest)
    ∙ turns (seen ++ name ∷ []) rest (disallows_push seen name (codes "ntlm") no_ntlm)
    (disallows_push seen name (codes "kerberos") no_kerberos)
    ∙ ap allowed (append_assoc seen (name ∷ []) rest)

pub in_turn_is : (list : List ℕ) → packages_of (Some list) ≡ in_turn false (record { ntlm = true; kerberos = true }) (names_of list)
in_turn_is list = sym (turns [] (names_of list) (record { so = λ e. refl }) (record { so = λ e. refl }))

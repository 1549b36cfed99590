-- `parse_name` reads exactly the grammar of names.
use Rattle.std.proofs.Common.{◌≡◌, ◌⊎◌, inl, inr, ℕ, ◌+◌, List, [], ◌∷◌, Bool, true, false, ◌||◌}
use Rattle.std.proofs.Common.{cond, Option, Some, None, take, drop, refl, sym, ap, ◌∙◌, subst}
use Rattle.std.specs.Str.{IsUtf8}
use Rattle.std.proofs.lemmas.Bool.{cases_Bool, or_from, or_parts}
use Rattle.sspi_names.specs.Name.{Name, IsName, IsAllowed, principal, down_level, parse_name, new_name}
use Rattle.sspi_names.specs.Name.{has_at_sign, has_backslash, has_separator, at_sign, backslash}
use Rattle.sspi_names.specs.Grammar.{IsForm, IsSpelled}
use Rattle.sspi_names.specs.Places.{IsLast, IsFirst}
use Rattle.sspi_names.specs.declared.format.UserNameFormat.{UserNameFormat}
use Rattle.sspi_names.specs.declared.format.UserNameFormat.TheVariants.{UserPrincipalName, DownLevelLogonName}
use Rattle.sspi_names.proofs.Places.{last_place, first_place}
use Rattle.sspi_names.proofs.Parse.{mixed, bare_parsed, principal_parsed, qualified_parsed, twice_parsed, none-take}
use Rattle.sspi_names.proofs.Parse.{none-drop, none-before, none-after, principal_split, qualified_name_at, bare_split}
use Rattle.sspi_names.proofs.Shown.{around}
use Rattle.sspi_names.proofs.Joined.{principal_back, qualified_back}

-- a text is not a name, or is by the grammar the name that is read
abbrev Outcome : List ℕ → Type 0
Outcome t = (parse_name t ≡ None) ⊎ ((n : Name) × (parse_name t ≡ Some n) × IsSpelled t n × (IsUtf8 t → IsName n))

with_at_sign : (t : List ℕ) → has_backslash t ≡ false → (k : ℕ) × IsLast at_sign t k → Outcome t
with_at_sign t bs place =
    let k = place.0 in
    let p = place.1 in
    inr (
      principal (take k t) (drop (k + 1) t),
      principal_parsed t k p bs,
      record {
        form = sym (around t k at_sign p.0 p.1);
        allowed = (none-take t backslash k bs, or_from _ _ (none-after t at_sign k p) (none-drop t backslash (k + 1) bs));
      },
      λ utf8. (principal_split t utf8 k p bs).held.name,
    )

with_backslash : (t : List ℕ) → has_at_sign t ≡ false → (k : ℕ) × IsFirst backslash t k → Outcome t
with_backslash t at place =
    let k = place.0 in
    let p = place.1 in
    elim (cases_Bool (has_backslash (drop (k + 1) t))) [
      | inl twice ↦ inl (twice_parsed t k p at twice)
      | inr once ↦
          inr (
            down_level (drop (k + 1) t) (take k t),
            qualified_parsed t k p at once,
            record {
              form = inl (sym (around t k backslash p.0 p.1));
              allowed = (
                or_from _ _ (none-drop t at_sign (k + 1) at) once,
                or_from _ _ (none-take t at_sign k at)
                    (none-before t backslash k p),
              );
            },
            λ utf8. qualified_name_at t utf8 k p at once,
          )
    ]

outcome : (t : List ℕ) → Outcome t
outcome t =
    elim (cases_Bool (has_at_sign t)) [
      | inl at ↦ elim (cases_Bool (has_backslash t)) [ inl bs ↦ inl (mixed t at bs) | inr bs ↦ with_at_sign t bs (last_place at_sign t at) ]
      | inr at ↦ elim (cases_Bool (has_backslash t)) [
        | inl bs ↦ with_backslash t at (first_place backslash t bs)
        | inr bs ↦ inr (
          down_level t [],
          bare_parsed t at bs,
          record { form = inr (refl, refl); allowed = (or_from _ _ at bs, refl) },
          λ utf8. (bare_split t utf8 at bs).held.name,
        )
      ]
    ]

same : (m n : Name) (o : Option Name) → o ≡ Some m → o ≡ Some n → m ≡ n
same m n o p q = cc

no_name : (n : Name) (o : Option Name) → o ≡ None → o ≡ Some n → ⊥
no_name n o p q = cc

pub spelled : (t : List ℕ) (n : Name) → parse_name t ≡ Some n → IsSpelled t n
spelled t n e =
    elim (outcome t) [
      | inl none ↦ absurd (no_name n (parse_name t) none e)
      | inr found ↦ subst (IsSpelled t) (same found.0 n (parse_name t) found.1 e) found.2
    ]

pub parsed_name : (t : List ℕ) (n : Name) → parse_name t ≡ Some n → IsUtf8 t → IsName n
parsed_name t n e utf8 =
    elim (outcome t) [
      | inl none ↦ absurd (no_name n (parse_name t) none e)
      | inr found ↦ subst IsName (same found.0 n (parse_name t) found.1 e) (found.3 utf8)
    ]

made_apart : (account domain : List ℕ) (n : Name) (s t : Bool) → has_separator account ≡ s → has_separator domain ≡ t
    → cond (s || t) None (Some (down_level account domain)) ≡ Some n → IsUtf8 account → IsUtf8 domain → IsName n
made_apart account domain n true t p q e a d = absurd (no_name n None refl e)
made_apart account domain n false true p q e a d = absurd (no_name n None refl e)
made_apart account domain n false false p q e a d =
    subst IsName (same (down_level account domain) n (Some (down_level account domain)) refl e)
    (record { allowed = (p, q); account_text = a; domain_text = d })

pub made_name : (account domain : List ℕ) (n : Name) → new_name account domain ≡ Some n → IsUtf8 account → IsUtf8 domain → IsName n
unfolding new_name
made_name account [] n e a d = parsed_name account n e a
made_name account (b ∷ domain) n e a d = made_apart account (b ∷ domain) n (has_separator account) (has_separator (b ∷ domain))
    refl refl e a d

by_form : (t : List ℕ) (format : UserNameFormat) (account domain : List ℕ) → IsForm format account domain t →
    IsAllowed format account domain
    → parse_name t ≡ Some (record { format = format; account = account; domain = domain })
by_form t UserPrincipalName account domain form allowed = ap parse_name form ∙ principal_back account domain allowed.0 allowed.1
by_form t DownLevelLogonName account domain (inl form) allowed = ap parse_name form ∙ qualified_back account domain allowed.0 allowed.1
by_form t DownLevelLogonName account domain (inr form) allowed =
    let none = or_parts _ _ allowed.0 in
    ap parse_name form.1 ∙ bare_parsed account none.0 none.1 ∙ ap (λ d. Some (down_level account d)) (sym form.0)

pub spelled_read : (t : List ℕ) (n : Name) → IsSpelled t n → parse_name t ≡ Some n
spelled_read t n h = by_form t n.format n.account n.domain h.form h.allowed

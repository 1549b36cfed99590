-- A name and the text that shows it: each determines the other.
use Rattle.std.proofs.Common.{◌≡◌, ◌≢◌, ℕ, suc, ◌+◌, ◌-◌, ◌<◌, List, [], ◌∷◌, ◌++◌, false, Some}
use Rattle.std.proofs.Common.{length, get_or, take, drop, refl, sym, ap, ◌∙◌, subst, arith}
use Rattle.std.specs.List.{list_any}
use Rattle.std.proofs.lemmas.Bool.{or_from, or_parts}
use Rattle.std.proofs.lemmas.List.{take_at, drop_at, get_or_at, get_or_append_left, get_or-append-add, length-append, append_assoc}
use Rattle.std.proofs.lemmas.List.Folds.{list_any-append}
use Rattle.sspi_names.specs.Places.{IsLast, IsFirst}
use Rattle.sspi_names.specs.Name.{Name, IsName, IsAllowed, principal, down_level, parse_name, new_name}
use Rattle.sspi_names.specs.Name.{inner_of, shown, has_backslash, has_separator, at_sign, backslash}
use Rattle.sspi_names.specs.declared.format.UserNameFormat.{UserNameFormat}
use Rattle.sspi_names.specs.declared.format.UserNameFormat.TheVariants.{UserPrincipalName, DownLevelLogonName}
use Rattle.sspi_names.proofs.Places.{is, any-nowhere}
use Rattle.sspi_names.proofs.Parse.{principal_parsed, qualified_parsed, bare_parsed}
use Rattle.sspi_names.proofs.New.{qualified_name}

module _ (c : ℕ) (xs ys : List ℕ) where
  within : length xs < length (xs ++ c ∷ ys)
  within = omega (arith, length-append xs (c ∷ ys))

  here : get_or (xs ++ c ∷ ys) (length xs) 0 ≡ c
  here = get_or_at xs c ys 0 (length xs) refl

  behind : (i : ℕ) → length xs < i → get_or (xs ++ c ∷ ys) i 0 ≡ get_or ys (i - length xs - 1) 0
  behind i above =
      ap (λ k. get_or (xs ++ c ∷ ys) k 0) {x = i} {y = length xs + suc (i - length xs - 1)} (omega arith)
      ∙ get_or-append-add xs (c ∷ ys) (suc (i - length xs - 1)) 0

  pub last_joined : list_any (is c) ys ≡ false → IsLast c (xs ++ c ∷ ys) (length xs)
  last_joined none = (
    within,
    here,
    λ i above below.
        subst (λ b. b ≢ c) (sym (behind i above))
        (any-nowhere c ys none (i - length xs - 1) (omega (arith, below, length-append xs (c ∷ ys)))),
  )

  pub first_joined : list_any (is c) xs ≡ false → IsFirst c (xs ++ c ∷ ys) (length xs)
  first_joined none = (
    within,
    here,
    λ i before.
        subst (λ b. b ≢ c) (sym (get_or_append_left xs (c ∷ ys) 0 i before)) (any-nowhere c xs none i before),
  )

  pub take_joined : take (length xs) (xs ++ c ∷ ys) ≡ xs
  take_joined = take_at xs (c ∷ ys) (length xs) refl

  pub drop_joined : drop (length xs + 1) (xs ++ c ∷ ys) ≡ ys
  drop_joined =
      ap (drop (length xs + 1)) (sym (append_assoc xs (c ∷ []) ys))
      ∙ drop_at (xs ++ c ∷ []) ys (length xs + 1) (length-append xs (c ∷ []))

  pub none_joined : (d : ℕ) → list_any (is d) xs ≡ false → list_any (is d) (c ∷ []) ≡ false → list_any (is d) ys ≡ false →
      list_any (is d) (xs ++ c ∷ ys) ≡ false
  none_joined d first one last =
      list_any-append (is d) xs (c ∷ ys) ∙ or_from _ _ first (list_any-append (is d) (c ∷ []) ys ∙ or_from _ _ one last)

pub principal_back : (account domain : List ℕ) → has_backslash account ≡ false → has_separator domain ≡ false
    → parse_name (account ++ at_sign ∷ domain) ≡ Some (principal account domain)
principal_back account domain a d =
    let parts = or_parts _ _ d in
    principal_parsed (account ++ at_sign ∷ domain) (length account) (last_joined at_sign account domain parts.0)
    (none_joined at_sign account domain backslash a refl parts.1)
    ∙ rw (take_joined at_sign account domain, drop_joined at_sign account domain)

pub qualified_back : (account domain : List ℕ) → has_separator account ≡ false → has_separator domain ≡ false
    → parse_name (domain ++ backslash ∷ account) ≡ Some (down_level account domain)
qualified_back account domain a d =
    let none = or_parts _ _ a in
    let parts = or_parts _ _ d in
    qualified_parsed (domain ++ backslash ∷ account) (length domain) (first_joined backslash domain account parts.1)
    (none_joined backslash domain account at_sign parts.0 refl none.0)
    (ap has_backslash (drop_joined backslash domain account) ∙ none.1)
    ∙ rw (take_joined backslash domain account, drop_joined backslash domain account)

-- the text that shows a name is read as that name
shown_back : (format : UserNameFormat) (account domain : List ℕ) → IsAllowed format account domain
    → parse_name (shown format account domain) ≡ Some (record { format = format; account = account; domain = domain })
shown_back UserPrincipalName account domain h = principal_back account domain h.0 h.1
shown_back DownLevelLogonName account [] h = let none = or_parts _ _ h.0 in bare_parsed account none.0 none.1
shown_back DownLevelLogonName account (b ∷ domain) h = qualified_back account (b ∷ domain) h.0 h.1

pub inner_back : (n : Name) → IsName n → parse_name (inner_of n) ≡ Some n
unfolding inner_of
inner_back n h = shown_back n.format n.account n.domain h.allowed

-- a down-level name whose parts are given separately
pub parts_back : (account domain : List ℕ) → has_separator account ≡ false → has_separator domain ≡ false →
    new_name account domain ≡ Some (down_level account domain)
unfolding new_name
parts_back account [] a d = let none = or_parts _ _ a in bare_parsed account none.0 none.1
parts_back account (b ∷ domain) a d = qualified_name account (b ∷ domain) (omega arith) a d

-- What `parse_name` gives, from where the separators are.
use Rattle.std.proofs.Common.{◌≡◌, ◌≢◌, ℕ, ◌+◌, ◌<◌, List, [], true, false, Some, None}
use Rattle.std.proofs.Common.{length, get_or, take, drop, refl, sym, ap, ◌∙◌, subst, arith}
use Rattle.std.specs.List.{list_any}
use Rattle.std.specs.Str.{IsUtf8}
use Rattle.std.proofs.lemmas.Bool.{or_from, eq-eqb}
use Rattle.std.proofs.lemmas.List.{get_or-take, get_or-drop, length-take, length-drop}
use Rattle.std.proofs.lemmas.List.Folds.{list_any_at}
use Rattle.std.proofs.lemmas.Str.{IsUtf8-nil, IsUtf8-take, IsUtf8-drop, IsCharBoundary-before_ascii, IsCharBoundary-after_ascii}
use Rattle.sspi_names.specs.Places.{IsLast, IsFirst}
use Rattle.sspi_names.specs.Name.{IsName, principal, down_level, parse_name, has_at_sign, has_backslash, at_sign, backslash}
use Rattle.sspi_names.specs.Splits.{IsSplit}
use Rattle.sspi_names.specs.declared.shape.Shape.TheVariants.{Principal, Qualified, Bare}
use Rattle.sspi_names.proofs.Places.{is, nowhere-any, any-nowhere, last_at, first_at}

module _ (t : List ℕ) where
  pub mixed : has_at_sign t ≡ true → has_backslash t ≡ true → parse_name t ≡ None
  unfolding parse_name
  mixed at bs = rw (at, bs)

  pub bare_parsed : has_at_sign t ≡ false → has_backslash t ≡ false → parse_name t ≡ Some (down_level t [])
  unfolding parse_name
  bare_parsed at bs = rw (at, bs)

  pub last_any : (c k : ℕ) → IsLast c t k → list_any (is c) t ≡ true
  last_any c k p = list_any_at (is c) t k 0 p.0 (eq-eqb (get_or t k 0) c p.1)

  pub first_any : (c k : ℕ) → IsFirst c t k → list_any (is c) t ≡ true
  first_any c k p = list_any_at (is c) t k 0 p.0 (eq-eqb (get_or t k 0) c p.1)

  pub principal_parsed : (k : ℕ) → IsLast at_sign t k → has_backslash t ≡ false →
      parse_name t ≡ Some (principal (take k t) (drop (k + 1) t))
  unfolding parse_name
  principal_parsed k p bs =
      let parts = last_at at_sign k t p.0 p.1 p.2 in
      rw (last_any at_sign k p, bs, parts.0, parts.1)

  pub qualified_parsed : (k : ℕ) → IsFirst backslash t k → has_at_sign t ≡ false → has_backslash (drop (k + 1) t) ≡ false
      → parse_name t ≡ Some (down_level (drop (k + 1) t) (take k t))
  unfolding parse_name
  qualified_parsed k p at bs =
      let parts = first_at backslash k t p.0 p.1 p.2 in
      rw (at, first_any backslash k p, parts.1, parts.0, bs)

  pub twice_parsed : (k : ℕ) → IsFirst backslash t k → has_at_sign t ≡ false → has_backslash (drop (k + 1) t) ≡ true → parse_name t ≡ None
  unfolding parse_name
  twice_parsed k p at bs =
      let parts = first_at backslash k t p.0 p.1 p.2 in
      rw (at, first_any backslash k p, parts.1, bs)

  -- if a byte does not occur in a text, it does not occur in a part of it
  pub none-take : (c k : ℕ) → list_any (is c) t ≡ false → list_any (is c) (take k t) ≡ false
  none-take c k e = nowhere-any c (take k t) (λ i h.
      let within : i < k = omega (arith, h, length-take k t) in
      subst (λ b. b ≢ c) (sym (get_or-take k t i 0 within)) (any-nowhere c t e i (omega (arith, h, length-take k t))))

  pub none-drop : (c k : ℕ) → list_any (is c) t ≡ false → list_any (is c) (drop k t) ≡ false
  none-drop c k e = nowhere-any c (drop k t) (λ i h.
      subst (λ b. b ≢ c) (sym (get_or-drop k t i 0)) (any-nowhere c t e (k + i) (omega (arith, h, length-drop k t))))

  pub none-before : (c k : ℕ) → IsFirst c t k → list_any (is c) (take k t) ≡ false
  none-before c k p = nowhere-any c (take k t) (λ i h.
      let within : i < k = omega (arith, h, length-take k t) in
      subst (λ b. b ≢ c) (sym (get_or-take k t i 0 within)) (p.2 i within))

  pub none-after : (c k : ℕ) → IsLast c t k → list_any (is c) (drop (k + 1) t) ≡ false
  none-after c k p = nowhere-any c (drop (k + 1) t) (λ i h.
      subst (λ b. b ≢ c) (sym (get_or-drop (k + 1) t i 0)) (p.2 (k + 1 + i) (omega arith) (omega (arith, h, length-drop (k + 1) t))))

  module _ (utf8 : IsUtf8 t) where
    utf8-take : (k c : ℕ) → c < 128 → k < length t → get_or t k 0 ≡ c → IsUtf8 (take k t)
    utf8-take k c ascii within here = IsUtf8-take t k utf8 (IsCharBoundary-before_ascii t k within (omega arith))

    utf8-drop : (k c : ℕ) → c < 128 → k < length t → get_or t k 0 ≡ c → IsUtf8 (drop (k + 1) t)
    utf8-drop k c ascii within here = IsUtf8-drop t (k + 1) utf8 (IsCharBoundary-after_ascii t k utf8 within (omega arith))

    pub principal_split : (k : ℕ) → IsLast at_sign t k → has_backslash t ≡ false → IsSplit t t (Principal k)
    principal_split k p bs = record {
      named = principal_parsed k p bs;
      held = record {
        placed = (p.0, p.1);
        name = record {
          allowed = (none-take backslash k bs, or_from _ _ (none-after at_sign k p) (none-drop backslash (k + 1) bs));
          account_text = utf8-take k at_sign (omega arith) p.0 p.1;
          domain_text = utf8-drop k at_sign (omega arith) p.0 p.1;
        };
      };
    }

    pub qualified_name_at : (k : ℕ) → IsFirst backslash t k → has_at_sign t ≡ false → has_backslash (drop (k + 1) t) ≡ false →
        IsName (down_level (drop (k + 1) t) (take k t))
    qualified_name_at k p at bs = record {
      allowed = (or_from _ _ (none-drop at_sign (k + 1) at) bs, or_from _ _ (none-take at_sign k at) (none-before backslash k p));
      account_text = utf8-drop k backslash (omega arith) p.0 p.1;
      domain_text = utf8-take k backslash (omega arith) p.0 p.1;
    }

    pub qualified_split : (k : ℕ) → 0 < k → IsFirst backslash t k → has_at_sign t ≡ false →
        has_backslash (drop (k + 1) t) ≡ false → IsSplit t t (Qualified k)
    qualified_split k some p at bs = record {
      named = qualified_parsed k p at bs;
      held = record { placed = (some, p.0, p.1); name = qualified_name_at k p at bs };
    }

    -- a text that begins with its `\` has an empty domain
    pub account_split : (k : ℕ) → k ≡ 0 → IsFirst backslash t k → has_at_sign t ≡ false → has_backslash (drop (k + 1) t) ≡ false →
        IsSplit t (drop (k + 1) t) Bare
    account_split k none p at bs = record {
      named = qualified_parsed k p at bs ∙ ap (λ n. Some (down_level (drop (k + 1) t) (take n t))) none;
      held = record {
        placed = tt;
        name = record {
          allowed = (or_from _ _ (none-drop at_sign (k + 1) at) bs, refl);
          account_text = utf8-drop k backslash (omega arith) p.0 p.1;
          domain_text = IsUtf8-nil;
        };
      };
    }

    pub bare_split : has_at_sign t ≡ false → has_backslash t ≡ false → IsSplit t t Bare
    bare_split at bs = record {
      named = bare_parsed at bs;
      held = record {
        placed = tt;
        name = record { allowed = (or_from _ _ at bs, refl); account_text = utf8; domain_text = IsUtf8-nil };
      };
    }

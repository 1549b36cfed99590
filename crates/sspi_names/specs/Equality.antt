-- The two equalities of names are equivalences.
use Rattle.std.proofs.Common.{◌≡◌, ℕ, List, Bool, true, ◌&&◌, refl, ap, ◌∙◌}
use Rattle.std.proofs.lemmas.Bool.{and_parts, and_from, false≢true}
use Rattle.std.specs.Cmp.{IsEquivalence, IsPartialEquivalence, partial_equiv_from_equiv}
use Rattle.std.specs.Cmp.Lexicographic.{nat_list_eq_equiv}
use Rattle.std.specs.Str.{bytes_eq}
use Rattle.sspi_names.specs.Name.{same_format, folded, same_text, by_parts, name_eq}
use Rattle.sspi_names.specs.Name.{equals_ignoring_case}
use Rattle.sspi_names.specs.declared.format.UserNameFormat.{UserNameFormat}
use Rattle.sspi_names.specs.declared.format.UserNameFormat.TheVariants.{UserPrincipalName}
use Rattle.sspi_names.specs.declared.format.UserNameFormat.TheVariants.{DownLevelLogonName}

format_refl : (a : UserNameFormat) → same_format a a ≡ true
format_refl UserPrincipalName = refl
format_refl DownLevelLogonName = refl

format_symm : (a b : UserNameFormat) → same_format a b ≡ same_format b a
format_symm UserPrincipalName UserPrincipalName = refl
format_symm UserPrincipalName DownLevelLogonName = refl
format_symm DownLevelLogonName UserPrincipalName = refl
format_symm DownLevelLogonName DownLevelLogonName = refl

format_congr : (a b c : UserNameFormat) → same_format a b ≡ true → same_format a c ≡ same_format b c
format_congr UserPrincipalName UserPrincipalName c e = refl
format_congr UserPrincipalName DownLevelLogonName c e = absurd (false≢true e)
format_congr DownLevelLogonName UserPrincipalName c e = absurd (false≢true e)
format_congr DownLevelLogonName DownLevelLogonName c e = refl

both : (a b c d : Bool) → a ≡ b → c ≡ d → (a && c) ≡ (b && d)
both a b c d p q = ap (λ x. x && c) p ∙ ap (λ x. b && x) q

parts_equiv : (same : List ℕ → List ℕ → Bool) → IsEquivalence same → IsEquivalence (by_parts same)
parts_equiv same e = record {
  refl = λ a. and_from _ _ (format_refl a.format)
      (and_from _ _ (e.refl a.account) (e.refl a.domain));
  symm = λ a b. both _ _ _ _ (format_symm a.format b.format)
      (both _ _ _ _ (e.symm a.account b.account) (e.symm a.domain b.domain));
  congr = λ a b c h.
      let outer = and_parts _ _ h in
      let inner = and_parts _ _ outer.1 in
      both _ _ _ _ (format_congr a.format b.format c.format outer.0)
      (both _ _ _ _ (e.congr a.account b.account c.account inner.0)
      (e.congr a.domain b.domain c.domain inner.1));
}

folded_equiv : IsEquivalence same_text
folded_equiv = record {
  refl = λ a. nat_list_eq_equiv.refl (folded a);
  symm = λ a b. nat_list_eq_equiv.symm (folded a) (folded b);
  congr = λ a b c. nat_list_eq_equiv.congr (folded a) (folded b) (folded c);
}

pub name_eq-equiv : IsEquivalence name_eq
unfolding name_eq
name_eq-equiv = parts_equiv bytes_eq nat_list_eq_equiv

pub name_eq-partial_equiv : IsPartialEquivalence name_eq
name_eq-partial_equiv = partial_equiv_from_equiv name_eq-equiv

pub ignoring_case-equiv : IsEquivalence equals_ignoring_case
unfolding equals_ignoring_case
ignoring_case-equiv = parts_equiv same_text folded_equiv

-- What it means that two names are equal ignoring case.
use Rattle.std.proofs.Common.{◌≡◌, true, false, refl, sym, ap, ◌∙◌}
use Rattle.std.proofs.lemmas.Bool.{and_parts, and_from, false≢true}
use Rattle.std.proofs.lemmas.Slice.Eq.{bytes_eq-Decides}
use Rattle.sspi_names.specs.Name.{same_format, Name, folded, equals_ignoring_case, name_eq}
use Rattle.sspi_names.specs.Grammar.{IsSameName}
use Rattle.sspi_names.specs.declared.format.UserNameFormat.{UserNameFormat}
use Rattle.sspi_names.specs.declared.format.UserNameFormat.TheVariants.{UserPrincipalName, DownLevelLogonName}

format_true : (a b : UserNameFormat) → same_format a b ≡ true → a ≡ b
format_true UserPrincipalName UserPrincipalName e = refl
format_true UserPrincipalName DownLevelLogonName e = absurd (false≢true e)
format_true DownLevelLogonName UserPrincipalName e = absurd (false≢true e)
format_true DownLevelLogonName DownLevelLogonName e = refl

format_self : (a : UserNameFormat) → same_format a a ≡ true
format_self UserPrincipalName = refl
format_self DownLevelLogonName = refl

true_format : (a b : UserNameFormat) → a ≡ b → same_format a b ≡ true
true_format a b e = ap (same_format a) (sym e) ∙ format_self a

pub same_names : (a b : Name) → equals_ignoring_case a b ≡ true → IsSameName a b
unfolding equals_ignoring_case
same_names a b e =
    let outer = and_parts _ _ e in
    let inner = and_parts _ _ outer.1 in
    record {
      format = format_true a.format b.format outer.0;
      account = (bytes_eq-Decides (folded a.account) (folded b.account)).0 inner.0;
      domain = (bytes_eq-Decides (folded a.domain) (folded b.domain)).0 inner.1;
    }

pub names_same : (a b : Name) → IsSameName a b → equals_ignoring_case a b ≡ true
unfolding equals_ignoring_case
names_same a b h =
    and_from _ _ (true_format a.format b.format h.format)
    (and_from _ _ ((bytes_eq-Decides (folded a.account) (folded b.account)).1 h.account)
    ((bytes_eq-Decides (folded a.domain) (folded b.domain)).1 h.domain))

forms_differ : (a b : UserNameFormat) → a ≡ UserPrincipalName → b ≡ DownLevelLogonName → same_format a b ≡ false
forms_differ a b p q = ap (λ f. same_format f b) p ∙ ap (same_format UserPrincipalName) q

pub never_same : (a b : Name) → a.format ≡ UserPrincipalName → b.format ≡ DownLevelLogonName → equals_ignoring_case a b ≡ false
unfolding equals_ignoring_case
never_same a b p q = rw (forms_differ a.format b.format p q)

-- names that are equal are the same
pub equal_names : (a b : Name) → name_eq a b ≡ true → a ≡ b
unfolding name_eq
equal_names a b e =
    let outer = and_parts _ _ e in
    let inner = and_parts _ _ outer.1 in
    let format = format_true a.format b.format outer.0 in
    let account = (bytes_eq-Decides a.account b.account).0 inner.0 in
    let domain = (bytes_eq-Decides a.domain b.domain).0 inner.1 in
    ap (λ f. record { format = f; account = a.account; domain = a.domain }) format
    ∙ ap (λ t. record { format = b.format; account = t; domain = a.domain }) account
    ∙ ap (λ t. record { format = b.format; account = b.account; domain = t }) domain

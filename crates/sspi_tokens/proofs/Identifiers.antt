-- Each known kind of mechanism has exactly one identifier.
use Rattle.std.proofs.Common.{◌≡◌, ℕ, Bool, true, false, cond, List, Some, refl, sym, ap}
use lib.Pointwise.{bytes_decides}
use Rattle.std.specs.Str.{bytes_eq}
use Rattle.sspi_tokens.specs.Oids.{ms_krb5, krb5, ntlm_ssp, kind_of, identifier_of}
use Rattle.sspi_tokens.specs.declared.oid.MechKind.{MechKind}
use Rattle.sspi_tokens.specs.declared.oid.MechKind.TheVariants.{MsKerberos, Kerberos, Ntlm, Other}

abbrev first_of : Bool → Bool → Bool → MechKind
first_of a b c = cond a MsKerberos (cond b Kerberos (cond c Ntlm Other))

first_is : (a b c : Bool) → first_of a b c ≡ MsKerberos → a ≡ true
first_is true b c e = refl
first_is false true c e = absurd cc
first_is false false true e = absurd cc
first_is false false false e = absurd cc

second_is : (a b c : Bool) → first_of a b c ≡ Kerberos → b ≡ true
second_is true b c e = absurd cc
second_is false true c e = refl
second_is false false true e = absurd cc
second_is false false false e = absurd cc

third_is : (a b c : Bool) → first_of a b c ≡ Ntlm → c ≡ true
third_is true b c e = absurd cc
third_is false true c e = absurd cc
third_is false false true e = refl
third_is false false false e = absurd cc

pub ms_kerberos_is : (oid : List ℕ) → (kind_of oid ≡ MsKerberos → oid ≡ ms_krb5) × (oid ≡ ms_krb5 → kind_of oid ≡ MsKerberos)
unfolding kind_of
ms_kerberos_is
    oid = (
      λ e. (bytes_decides oid ms_krb5).0 (first_is (bytes_eq oid ms_krb5) (bytes_eq oid krb5) (bytes_eq oid ntlm_ssp) e),
      λ e. ap kind_of e,
    )

pub kerberos_is : (oid : List ℕ) → (kind_of oid ≡ Kerberos → oid ≡ krb5) × (oid ≡ krb5 → kind_of oid ≡ Kerberos)
unfolding kind_of
kerberos_is oid = (
  λ e. (bytes_decides oid krb5).0 (second_is (bytes_eq oid ms_krb5) (bytes_eq oid krb5) (bytes_eq oid ntlm_ssp)
      e),
  λ e. ap kind_of e,
)

pub ntlm_is : (oid : List ℕ) → (kind_of oid ≡ Ntlm → oid ≡ ntlm_ssp) × (oid ≡ ntlm_ssp → kind_of oid ≡ Ntlm)
unfolding kind_of
ntlm_is oid = (
  λ e. (bytes_decides oid ntlm_ssp).0 (third_is (bytes_eq oid ms_krb5) (bytes_eq oid krb5) (bytes_eq oid ntlm_ssp)
      e),
  λ e. ap kind_of e,
)

pub known_is : (kind : MechKind) (oid : List ℕ) → identifier_of kind ≡ Some oid → kind_of oid ≡ kind
known_is MsKerberos oid e = let same : ms_krb5 ≡ oid = cc in (ms_kerberos_is oid).1 (sym same)
known_is Kerberos oid e = let same : krb5 ≡ oid = cc in (kerberos_is oid).1 (sym same)
known_is Ntlm oid e = let same : ntlm_ssp ≡ oid = cc in (ntlm_is oid).1 (sym same)
known_is Other oid e = absurd cc

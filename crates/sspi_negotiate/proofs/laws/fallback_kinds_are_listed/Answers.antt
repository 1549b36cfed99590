use Rattle.std.proofs.Common.{◌≡◌, ℕ, ◌<◌, zero, suc, length, slice_index_or, Contains, IsTrue, refl, subst, arith}
use Rattle.sspi_types.specs.declared.error_kind.ErrorKind.{ErrorKind}
use Rattle.sspi_types.specs.declared.error_kind.ErrorKind.TheVariants as kinds
use Rattle.sspi_negotiate.specs.declared.fallback.TheConstants.{FALLBACK_ERROR_KINDS}
use Rattle.sspi_negotiate.specs.Fallback.{is_fallback}
use Rattle.sspi_negotiate.proofs.laws.fallback_kinds_are_listed.Goals as goal

listed : (kind : ErrorKind) → IsTrue (is_fallback kind) → Contains FALLBACK_ERROR_KINDS kind
unfolding is_fallback
listed kinds.TimeSkew h = (0, omega arith, refl)
listed kinds.NoAuthenticatingAuthority h = (1, omega arith, refl)
listed kinds.CertificateUnknown h = (2, omega arith, refl)
listed kinds.UnknownCredentials h = (3, omega arith, refl)
listed kind h = absurd cc

named : (k : ℕ) (kind : ErrorKind) → k < length FALLBACK_ERROR_KINDS → slice_index_or FALLBACK_ERROR_KINDS k kind ≡ kind →
    IsTrue (is_fallback kind)
unfolding is_fallback
named zero kind less is = subst (λ q. IsTrue (is_fallback q)) is refl
named (suc zero) kind less is = subst (λ q. IsTrue (is_fallback q)) is refl
named (suc (suc zero)) kind less is = subst (λ q. IsTrue (is_fallback q)) is refl
named (suc (suc (suc zero))) kind less is = subst (λ q. IsTrue (is_fallback q)) is refl
named (suc (suc (suc (suc k)))) kind less is = absurd (omega (arith, less))

pub returns : goal.returns
returns c kind = (listed kind, λ found. named found.0 kind found.1 found.2)

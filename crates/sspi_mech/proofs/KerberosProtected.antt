-- What one end of plain Kerberos protects, the other takes.
use Rattle.std.proofs.Common.{◌≡◌, ℕ, ◌-◌, ◌<◌, ◌^◌, List, Option, None, Some, drop, sym, subst, ◌∙◌}
use Rattle.sspi_types.specs.declared.error_kind.ErrorKind.{ErrorKind}
use Rattle.sspi_mech.specs.declared.protection.Direction.{Direction}
use Rattle.sspi_mech.specs.Calls.{Call, ToUnseal, ToVerify}
use Rattle.sspi_mech.specs.Kerberos.{kerberos_meaning}
use Rattle.sspi_mech.specs.KerberosPeers.{IsPeer}
use Rattle.sspi_mech.specs.KerberosStage.{KerberosState, own_direction, peer_direction}
use Rattle.sspi_mech.specs.Protection.{SealsBy, SignsBy}
use Rattle.sspi_mech.proofs.Opened as opened

-- of what opens, the text is all that follows the tag
pub opened_is_body : (m : KerberosState) (n : ℕ) (blob text : List ℕ) → kerberos_meaning.opens m n blob text → text ≡ drop 16 blob
opened_is_body m n blob text opens = opened.opened_is_body m.protection.key (peer_direction m.stage) n blob text opens

pub sealed_opens : (m p : KerberosState) (n : ℕ) (text blob : List ℕ) →
    IsPeer m p → kerberos_meaning.seals m n text blob → kerberos_meaning.opens p n blob text
sealed_opens m p n text blob peer sealed =
    opened.sealed_opens p.protection.key (peer_direction p.stage) n text blob
    (subst (λ (d : Direction). SealsBy p.protection.key d n text blob) peer.direction
    (subst (λ (k : Option (List ℕ)). SealsBy k (own_direction m.stage) n text blob) peer.key sealed))

pub signed_verifies : (m p : KerberosState) (n : ℕ) (text mic : List ℕ) →
    IsPeer m p → kerberos_meaning.signs m n text mic → kerberos_meaning.verifies p n mic text
signed_verifies m p n text mic peer signed =
    opened.signed_verifies p.protection.key (peer_direction p.stage) n text mic
    (subst (λ (d : Direction). SignsBy p.protection.key d n text mic) peer.direction
    (subst (λ (k : Option (List ℕ)). SignsBy k (own_direction m.stage) n text mic) peer.key signed))

-- what opens at the next number is not refused, except at the last number
pub opened_is_taken : (m : KerberosState) (blob text : List ℕ) →
    kerberos_meaning.opens m m.protection.unsealings blob text → m.protection.unsealings < 2 ^ 64 - 1 →
    kerberos_meaning.permits m (ToUnseal blob)
opened_is_taken m blob text opens below =
    opened.opened_is_taken m.protection.key (peer_direction m.stage) m.protection.unsealings blob text opens below

pub verified_is_taken : (m : KerberosState) (mic text : List ℕ) →
    kerberos_meaning.verifies m m.protection.verifications mic text → m.protection.verifications < 2 ^ 64 - 1 →
    kerberos_meaning.permits m (ToVerify mic text)
verified_is_taken m mic text verified below =
    opened.verified_is_taken m.protection.key (peer_direction m.stage) m.protection.verifications mic text verified below

-- no call is both permitted and refused
pub one_refusal : (m : KerberosState) (call : Call) (kind : ErrorKind) →
    kerberos_meaning.permits m call → kerberos_meaning.refuses m call kind → ⊥
one_refusal m call kind permitted refused = let never : None ≡ Some kind = sym permitted ∙ refused in cc

-- What a plain mechanism seals, and what another opens, follows the tag; so each reads the other.
use Rattle.std.proofs.Common.{◌≡◌, ℕ, List, drop, Option, None, Some, sym, ◌∙◌}
use Rattle.sspi_mech.specs.declared.protection.Direction.{Direction}
use Rattle.sspi_mech.specs.Kerberos.{kerberos_meaning}
use Rattle.sspi_mech.specs.KerberosStage.{KerberosState}
use Rattle.sspi_mech.specs.Ntlm.{ntlm_meaning}
use Rattle.sspi_mech.specs.NtlmStage.{NtlmState}
use Rattle.sspi_mech.specs.Protection.{SealsBy}
use Rattle.sspi_mech.proofs.Opened.{opened_is_body, sealed_opens}
use Rattle.sspi_negotiate.specs.declared.protocol.NegotiatedProtocol.{NegotiatedProtocol}
use Rattle.sspi_negotiate.specs.declared.protocol.NegotiatedProtocol.TheVariants as hands
use Rattle.sspi_negotiate.specs.Hand.{hand}
use Rattle.sspi_credssp.specs.declared.context.SspiContext.{SspiContext}
use Rattle.sspi_credssp.specs.declared.context.SspiContext.TheVariants as contexts
use Rattle.sspi_credssp.specs.Context.{either}
use Rattle.sspi_play.specs.Undisturbed.{ReadsSeals}
use Rattle.sspi_play.proofs.BehindTags.{plain_opens}

sealed_behind : (key : Option (List ℕ)) (direction : Direction) (n : ℕ) (text blob : List ℕ) → SealsBy key direction n text blob →
    text ≡ drop 16 blob
sealed_behind key direction n text blob sealed =
    opened_is_body key direction n blob text (sealed_opens key direction n text blob sealed)

hand_seals : (m : NegotiatedProtocol NtlmState KerberosState) (n : ℕ) (text blob : List ℕ) →
    (hand ntlm_meaning kerberos_meaning).seals m n text blob → text ≡ drop 16 blob
hand_seals (hands.Ntlm m) n text blob sealed = sealed_behind m.protection.key _ n text blob sealed
hand_seals (hands.Kerberos m) n text blob sealed = sealed_behind m.protection.key _ n text blob sealed

plain_seals : (requests : ℕ) (m : SspiContext NtlmState KerberosState) (n : ℕ) (text blob : List ℕ) →
    (either requests ntlm_meaning kerberos_meaning).seals m n text blob → text ≡ drop 16 blob
plain_seals requests (contexts.Negotiate s) n text blob sealed = hand_seals s.mech n text blob sealed
plain_seals requests (contexts.Ntlm m) n text blob sealed = sealed_behind m.protection.key _ n text blob sealed
plain_seals requests (contexts.Kerberos m) n text blob sealed = sealed_behind m.protection.key _ n text blob sealed

pub plain_reads : (requests : ℕ) (own peer : Option (SspiContext NtlmState KerberosState)) →
    ReadsSeals (either requests ntlm_meaning kerberos_meaning) own peer
plain_reads requests own None n text opened blob seals opens = absurd seals
plain_reads requests own (Some p) n text opened None seals opens = absurd seals
plain_reads requests None (Some p) n text opened (Some blob) seals opens = absurd opens
plain_reads requests (Some m) (Some p) n text opened (Some blob) seals opens =
    plain_opens requests m n blob opened opens ∙ sym (plain_seals requests p n text blob seals)

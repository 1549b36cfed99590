-- The outcome of acquiring, once the mechanism that acquires is selected.
use Rattle.std.proofs.Common.{◌≡◌, ◌≢◌, ◌&&◌, false, Option, option_map, Result, Ok, Err, IfOk, IfErr, OnOk, sym, ap, ◌∙◌, subst}
use Rattle.sspi_types.specs.declared.credential_use.CredentialUse.{CredentialUse}
use Rattle.sspi_types.specs.declared.error.Error.{Error}
use Rattle.sspi_types.specs.declared.error_kind.ErrorKind.TheVariants.{InsufficientMemory}
use Rattle.sspi_names.specs.Identity.{credentials_buffers_of}
use Rattle.sspi_names.specs.declared.credentials.Credentials.{Credentials}
use Rattle.sspi_names.specs.declared.credentials.CredentialsBuffers.{CredentialsBuffers}
use Rattle.sspi_mech.specs.Calls.{ToAcquire}
use Rattle.sspi_mech.specs.Meaning.{Meaning}
use Rattle.sspi_mech.specs.Settings.{Setting}
use Rattle.sspi_negotiate.specs.declared.protocol.NegotiatedProtocol.{NegotiatedProtocol}
use Rattle.sspi_negotiate.specs.Acquire.{is_outbound, lacks, acquired_url, Acquires, RefusedBy, RefusesToAcquire}
use Rattle.sspi_negotiate.specs.Hand.{hand, hand_of}
use Rattle.sspi_negotiate.specs.Rule.{TakenBy}
use Rattle.sspi_negotiate.specs.Values.{Negotiation, values_of}

moved : {M : Type 0} (asked : Option Credentials) (m2 : M) (s mid : Negotiation M) → mid ≡ record s { mech = mid.mech } →
    record mid { kept = option_map credentials_buffers_of asked; mech = m2 }
    ≡ record s { kept = option_map credentials_buffers_of asked; mech = m2 }
moved {M = M} asked m2 s mid rest =
    let change : Negotiation M → Negotiation M = λ x. record x { kept = option_map credentials_buffers_of asked; mech = m2 } in
    ap change rest

module _ {N K : Type 0} (n : Meaning Setting N) (k : Meaning Setting K) where
  pub acquired_in_hand : (s mid s2 : Negotiation (NegotiatedProtocol N K)) (use_ : CredentialUse) (asked : Option Credentials)
      (result : Result (Option CredentialsBuffers) Error) → is_outbound use_ && lacks (hand_of s.mech) asked ≡ false →
      TakenBy (hand n k) (acquired_url s.role (values_of s) asked) s.kdcs s.computer s.mech mid.mech → mid ≡ record s { mech = mid.mech } →
      IfOk result (λ buffers. (hand n k).acquires mid.mech use_ asked buffers s2.mech) →
      OnOk result (s2 ≡ record mid { kept = option_map credentials_buffers_of asked; mech = s2.mech }) →
      IfOk result (λ buffers. Acquires n k s use_ asked buffers s2)
  acquired_in_hand s mid s2 use_ asked (Ok buffers) allowed taken rest acquired kept = record {
    allowed = allowed;
    mech = mid.mech;
    taken = taken;
    acquired = acquired;
    kept = kept ∙ moved asked s2.mech s mid rest;
  }
  acquired_in_hand s mid s2 use_ asked (Err error) allowed taken rest acquired kept = tt

  pub refused_in_hand : (s mid : Negotiation (NegotiatedProtocol N K)) (use_ : CredentialUse) (asked : Option Credentials)
      (result : Result (Option CredentialsBuffers) Error) → is_outbound use_ && lacks (hand_of s.mech) asked ≡ false →
      TakenBy (hand n k) (acquired_url s.role (values_of s) asked) s.kdcs s.computer s.mech mid.mech →
      IfErr result (λ error. error.error_type ≢ InsufficientMemory → (hand n k).refuses mid.mech (ToAcquire use_ asked) error.error_type) →
      IfErr result (λ error. error.error_type ≢ InsufficientMemory → RefusesToAcquire n k s use_ asked error.error_type)
  refused_in_hand s mid use_ asked (Ok buffers) allowed taken cause = tt
  refused_in_hand s mid use_ asked (Err error) allowed taken cause = λ other.
      subst (λ b. RefusedBy n k b s use_ asked error.error_type) (sym allowed) (mid.mech, taken, cause other)

-- The kinds with which a text that delegates no identity is refused.
use Rattle.std.proofs.Common.{◌≡◌, inl, inr, ℕ, List, Option, None, Some, Result, Ok, Err, subst, refl}
use Rattle.sspi_types.specs.declared.error.Error.{Error}
use Rattle.sspi_ber.specs.Pieces.{Read, element_at}
use Rattle.sspi_names.specs.Identity.{identity_of}
use Rattle.sspi_names.specs.Name.{bad_name}
use Rattle.sspi_names.specs.declared.credentials.CredentialsBuffers.{CredentialsBuffers}
use Rattle.sspi_names.specs.declared.credentials.CredentialsBuffers.TheVariants as buffered
use Rattle.sspi_names.specs.declared.identity.AuthIdentity.{AuthIdentity}
use Rattle.sspi_tsreq.specs.Creds.{◌and_then◌, creds_in, creds_of, malformed, spelled_or_malformed}
use Rattle.sspi_tsreq.proofs.Refused.{each_refusal}
use Rattle.sspi_credssp.specs.Exchange.{delegated_identity, identity_in, named_or_refused}
use Rattle.sspi_credssp.specs.Noted.{OrMemory}
use Rattle.sspi_audit.specs.Refusals.{AreUnreadable}

abbrev IsRefusal : Error → Type 0
IsRefusal error = OrMemory error.error_type (AreUnreadable error.error_type)

body_refused : (body : List ℕ) (error : Error) → creds_in body ≡ Err error → IsRefusal error
body_refused = each_refusal IsRefusal (λ memory. inl refl) (λ memory. inl refl) (λ memory. inr (inl refl)) (λ memory. inr (inr refl))
    (λ memory. absurd (memory refl))

text_refused : (read : Read (List ℕ)) (error : Error) → (spelled_or_malformed read and_then creds_in) ≡ Err error → IsRefusal error
text_refused (Ok body) error is = body_refused body.0 error is
text_refused (Err fault) error is =
    let same : malformed ≡ error = cc (is) in subst IsRefusal same (λ memory. inl refl)

named_refused : (found : Option AuthIdentity) (error : Error) → named_or_refused found ≡ Err error → IsRefusal error
named_refused (Some identity) error is = absurd (cc (is))
named_refused None error is = let same : bad_name ≡ error = cc (is) in subst IsRefusal same (λ memory. inr (inr refl))

identity_refused : (read : Result CredentialsBuffers Error) (error : Error) →
    ((fault : Error) → read ≡ Err fault → IsRefusal fault) → identity_in read ≡ Err error → IsRefusal error
identity_refused (Ok (buffered.AuthIdentity buffers)) error refused is = named_refused (identity_of buffers) error is
identity_refused (Ok (buffered.Keytab identity)) error refused is =
    let same : malformed ≡ error = cc (is) in subst IsRefusal same (λ memory. inl refl)
identity_refused (Err fault) error refused is = let same : fault ≡ error = cc (is) in subst IsRefusal same (refused fault refl)

pub unreadable : (text : List ℕ) (error : Error) → delegated_identity text ≡ Err error → IsRefusal error
unfolding delegated_identity creds_of
unreadable text error is =
    identity_refused (spelled_or_malformed (element_at 0x30 text) and_then creds_in) error (text_refused (element_at 0x30 text)) is

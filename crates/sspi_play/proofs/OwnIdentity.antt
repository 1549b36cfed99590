-- The identity read from a delegated text: the client's, or empty if it keeps its credentials.
use Rattle.std.proofs.Common.{◌≡◌, ℕ, List, [], Some, Ok, refl, ap, sym, ◌∙◌}
use Rattle.std.proofs.lemmas.Str.{IsUtf8-nil, chars-nil}
use Rattle.sspi_names.specs.declared.credentials.Credentials.{Credentials}
use Rattle.sspi_names.specs.declared.credentials.Credentials.TheVariants as credentials
use Rattle.sspi_names.specs.declared.credentials.CredentialsBuffers.TheVariants as buffers
use Rattle.sspi_names.specs.declared.identity.AuthIdentity.{AuthIdentity}
use Rattle.sspi_names.specs.Identity.{IsIdentity, buffers_of, identity_of}
use Rattle.sspi_names.specs.Utf16.{units_of}
use Rattle.sspi_names.proofs.Identities.{buffers_back, identity_by, buffers_of-AreBuffers}
use Rattle.sspi_tsreq.specs.declared.mode.CredSspMode.{CredSspMode}
use Rattle.sspi_tsreq.specs.declared.mode.CredSspMode.TheVariants.{WithCredentials, CredentialLess}
use Rattle.sspi_tsreq.specs.Creds.{creds_of, delegated, delegated_credentials}
use Rattle.sspi_tsreq.proofs.CredsBack.{credentials_back_alone}
use Rattle.sspi_credssp.specs.Exchange.{delegated_text, delegated_identity, identity_in, named_or_refused, delegated_as, no_identity}

no_identity_is : IsIdentity no_identity
no_identity_is = record {
  name = record { allowed = (refl, refl); account_text = IsUtf8-nil; domain_text = IsUtf8-nil };
  password_text = IsUtf8-nil;
}

no_units : [] ≡ units_of []
unfolding units_of
no_units = rw chars-nil refl

-- the identity of the buffers that are delegated
delegated_back : (mode : CredSspMode) (own : AuthIdentity) → IsIdentity own →
    identity_of (delegated mode (buffers_of own)) ≡ Some (delegated_as mode own)
delegated_back WithCredentials own is = buffers_back own is
delegated_back CredentialLess own is = identity_by no_identity [] [] [] no_identity_is no_units no_units no_units

-- a keytab has no text to delegate
pub has_password : (of : Credentials) (mode : CredSspMode) (text : List ℕ) → delegated_text of mode ≡ Ok text →
    (own : AuthIdentity) × (of ≡ credentials.AuthIdentity own)
unfolding delegated_text
has_password (credentials.AuthIdentity own) mode text is = (own, refl)
has_password (credentials.Keytab identity) mode text is = absurd (cc (is))

read_back : (mode : CredSspMode) (own : AuthIdentity) (text : List ℕ) → IsIdentity own →
    delegated_text (credentials.AuthIdentity own) mode ≡ Ok text → delegated_identity text ≡ Ok (delegated_as mode own)
unfolding delegated_text delegated_identity
read_back mode own text is spelled =
    let back : creds_of text ≡ Ok (delegated_credentials mode (buffers.AuthIdentity (buffers_of own))) =
    credentials_back_alone (buffers.AuthIdentity (buffers_of own)) mode text (buffers_of-AreBuffers own is) spelled in
    ap identity_in back ∙ ap named_or_refused (delegated_back mode own is)

pub own_identity : (of : Credentials) (mode : CredSspMode) (own identity : AuthIdentity) (text : List ℕ) →
    of ≡ credentials.AuthIdentity own → delegated_text of mode ≡ Ok text → delegated_identity text ≡ Ok identity → IsIdentity own →
    identity ≡ delegated_as mode own
own_identity of mode own identity text same spelled read is =
    let both : Ok identity ≡ Ok (delegated_as mode own) =
    sym read ∙ read_back mode own text is (ap (λ (x : Credentials). delegated_text x mode) (sym same) ∙ spelled) in cc (both)

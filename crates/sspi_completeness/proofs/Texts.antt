-- The text that a client delegates for short credentials, and the identity that is read from it.
use Rattle.std.proofs.Common.{◌≡◌, ℕ, ◌+◌, ◌≤◌, List, [], length, Some, Ok, refl, ap, ◌∙◌, arith}
use Rattle.std.proofs.lemmas.Str.{IsUtf8-nil, chars-nil}
use Rattle.sspi_names.specs.declared.credentials.Credentials.TheVariants as credentials
use Rattle.sspi_names.specs.declared.credentials.CredentialsBuffers.TheVariants as buffers
use Rattle.sspi_names.specs.declared.identity.AuthIdentity.{AuthIdentity}
use Rattle.sspi_names.specs.Identity.{IsIdentity, buffers_of, identity_of}
use Rattle.sspi_names.specs.Name.{down_level}
use Rattle.sspi_names.specs.Utf16.{units_of}
use Rattle.sspi_names.proofs.Identities.{buffers_back, identity_by, buffers_of-AreBuffers}
use Rattle.sspi_tsreq.specs.declared.mode.CredSspMode.{CredSspMode}
use Rattle.sspi_tsreq.specs.declared.mode.CredSspMode.TheVariants.{WithCredentials, CredentialLess}
use Rattle.sspi_tsreq.specs.Creds.{buffers_text, creds_of, delegated, delegated_credentials}
use Rattle.sspi_tsreq.proofs.CredsBack.{credentials_back_alone}
use Rattle.sspi_credssp.specs.Exchange.{delegated_text, delegated_identity, identity_in, named_or_refused, delegated_as}
use Rattle.sspi_completeness.specs.Matching.{IsShort}
use Rattle.sspi_completeness.proofs.Lengths.{HasText, short_credentials}

abbrev empty_identity : AuthIdentity
empty_identity = record { username = down_level [] []; password = record { value = [] } }

empty_is : IsIdentity empty_identity
empty_is = record {
  name = record { allowed = (refl, refl); account_text = IsUtf8-nil; domain_text = IsUtf8-nil };
  password_text = IsUtf8-nil;
}

no_units : [] ≡ units_of []
unfolding units_of
no_units = rw chars-nil refl

empty_back : identity_of (record { user = []; domain = []; password = record { value = [] } }) ≡ Some empty_identity
empty_back = identity_by empty_identity [] [] [] empty_is no_units no_units no_units

identity_back : (mode : CredSspMode) (i : AuthIdentity) → IsIdentity i →
    identity_of (delegated mode (buffers_of i)) ≡ Some (delegated_as mode i)
identity_back WithCredentials i is = buffers_back i is
identity_back CredentialLess i is = empty_back

text_of_mode : (mode : CredSspMode) (i : AuthIdentity) → IsShort i → HasText (delegated mode (buffers_of i))
text_of_mode WithCredentials i short = short_credentials (buffers_of i) short.user_units short.domain_units short.password_units
text_of_mode CredentialLess i short = short_credentials (record { user = []; domain = []; password = record { value = [] } })
    (omega arith) (omega arith) (omega arith)

mode_bound : (mode : CredSspMode) (i : AuthIdentity) → IsShort i →
    length (delegated mode (buffers_of i)).user + length (delegated mode (buffers_of i)).domain + length
    (delegated mode (buffers_of i)).password.value ≤ 147456
mode_bound WithCredentials i short = omega (arith, short.user_units, short.domain_units, short.password_units)
mode_bound CredentialLess i short = omega arith

-- short credentials have a text, which is read as the identity that they delegate
pub record HasDelegated (mode : CredSspMode) (i : AuthIdentity) : Type 0 where
  pub text : List ℕ
  pub is : delegated_text (credentials.AuthIdentity i) mode ≡ Ok text
  pub short : length text ≤ 294972
  pub holds : delegated_identity text ≡ Ok (delegated_as mode i)

text_is : (mode : CredSspMode) (i : AuthIdentity) (text : List ℕ) → buffers_text (delegated mode (buffers_of i)) ≡ Ok text →
    delegated_text (credentials.AuthIdentity i) mode ≡ Ok text
unfolding delegated_text
text_is mode i text is = is

text_holds : (mode : CredSspMode) (i : AuthIdentity) (text : List ℕ) → IsIdentity i →
    buffers_text (delegated mode (buffers_of i)) ≡ Ok text →
    delegated_identity text ≡ Ok (delegated_as mode i)
unfolding delegated_identity
text_holds mode i text is spelled =
    let back : creds_of text ≡ Ok (delegated_credentials mode (buffers.AuthIdentity (buffers_of i))) =
    credentials_back_alone (buffers.AuthIdentity (buffers_of i)) mode text (buffers_of-AreBuffers i is) spelled in
    ap identity_in back ∙ ap named_or_refused (identity_back mode i is)

pub delegates : (mode : CredSspMode) (i : AuthIdentity) → IsIdentity i → IsShort i → HasDelegated mode i
delegates mode i is short =
    let t = text_of_mode mode i short in
    let bound = mode_bound mode i short in
    record {
      text = t.text;
      is = text_is mode i t.text t.is;
      short = omega (arith, t.short, bound);
      holds = text_holds mode i t.text is t.is;
    }

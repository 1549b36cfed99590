-- What credentials and their texts mean to the two ends; no refusal of them has an NTSTATUS code.
use Rattle.std.proofs.Common.{◌≡◌, ◌≢◌, ◌⊎◌, inl, inr, ◌∙◌, ℕ, List, Option, None, Some, Result, Ok, Err, IfOk, IfErr, refl, sym, ap}
use Rattle.sspi_types.specs.declared.error.Error.{Error}
use Rattle.sspi_types.specs.declared.error_kind.ErrorKind.TheVariants.{InsufficientMemory}
use Rattle.sspi_types.specs.Errors.{memory_error}
use Rattle.sspi_names.specs.Identity.{identity_of, IsIdentified, credentials_buffers_of}
use Rattle.sspi_names.specs.declared.credentials.Credentials.{Credentials}
use Rattle.sspi_names.specs.declared.credentials.CredentialsBuffers.{CredentialsBuffers}
use Rattle.sspi_names.specs.declared.credentials.CredentialsBuffers.TheVariants as buffered
use Rattle.sspi_names.specs.declared.identity.AuthIdentity.{AuthIdentity}
use Rattle.sspi_names.specs.declared.identity.AuthIdentityBuffers.{AuthIdentityBuffers}
use Rattle.sspi_names.specs.declared.identity.KeytabIdentity.{KeytabIdentity}
use Rattle.sspi_tsreq.specs.declared.mode.CredSspMode.{CredSspMode}
use Rattle.sspi_tsreq.specs.CredsAnswers.{IsOrMemory}
use Rattle.sspi_tsreq.specs.Creds.{malformed, creds_of, creds_text}
use Rattle.sspi_credssp.proofs.CredentialRefusals.{OfEach, refused_so, so_creds, so_text_of}
use Rattle.sspi_credssp.specs.Exchange.{delegated_text, delegated_identity, identity_in, named_or_refused}

-- no refusal has an NTSTATUS code
abbrev pub IsCodeless : Error → Type 0
IsCodeless error = error.nstatus ≡ None

each_codeless : OfEach IsCodeless
each_codeless = record {
  of_malformed = refl;
  of_unknown_type = refl;
  of_smart_card = refl;
  of_keytab = refl;
  of_too_long = refl;
  of_bad_text = refl;
  of_bad_name = refl;
  of_memory = refl;
}

-- ---- reading

pub identity_read : (text : List ℕ) (buffers : AuthIdentityBuffers) (r : Result AuthIdentity Error) →
    creds_of text ≡ Ok (buffered.AuthIdentity buffers) → IsIdentified r (identity_of buffers) →
    IfOk r (λ identity. delegated_identity text ≡ Ok identity)
unfolding delegated_identity
identity_read text buffers (Ok identity) e f = ap identity_in e ∙ ap named_or_refused f
identity_read text buffers (Err error) e f = tt

by_name : (error : Error) (found : Option AuthIdentity) → IsIdentified (Err error) found → error.error_type ≢ InsufficientMemory →
    named_or_refused found ≡ Err error
by_name error None f memory = ap Err (sym f)
by_name error (Some identity) f memory = absurd (memory (ap (λ (x : Error). x.error_type) f))

pub identity_refused : (text : List ℕ) (buffers : AuthIdentityBuffers) (r : Result AuthIdentity Error) →
    creds_of text ≡ Ok (buffered.AuthIdentity buffers) → IsIdentified r (identity_of buffers) →
    IfErr r (λ error. error.error_type ≢ InsufficientMemory → delegated_identity text ≡ Err error)
unfolding delegated_identity
identity_refused text buffers (Ok identity) e f = tt
identity_refused text buffers (Err error) e f = λ memory. ap identity_in e ∙ by_name error (identity_of buffers) f memory

pub identity_codeless : (error : Error) (found : Option AuthIdentity) → IsIdentified (Err error) found → error.nstatus ≡ None
identity_codeless error None f = ap (λ (x : Error). x.nstatus) f
identity_codeless error (Some identity) f = ap (λ (x : Error). x.nstatus) f

pub keytab_read : (text : List ℕ) (keytab : KeytabIdentity) (error : Error) →
    creds_of text ≡ Ok (buffered.Keytab keytab) → error ≡ malformed → delegated_identity text ≡ Err error
unfolding delegated_identity
keytab_read text keytab error e f = ap identity_in e ∙ ap Err (sym f)

pub text_refused : (text : List ℕ) (error : Error) → (creds_of text ≡ Err error) ⊎ (error ≡ memory_error) →
    error.error_type ≢ InsufficientMemory → delegated_identity text ≡ Err error
unfolding delegated_identity
text_refused text error (inl w) memory = ap identity_in w
text_refused text error (inr w) memory = absurd (memory (ap (λ (x : Error). x.error_type) w))

pub refusal_codeless : (text : List ℕ) (error : Error) → (creds_of text ≡ Err error) ⊎ (error ≡ memory_error) → error.nstatus ≡ None
refusal_codeless text error (inl w) = refused_so IsCodeless (creds_of text) error (so_creds IsCodeless each_codeless text) w
refusal_codeless text error (inr w) = ap (λ (x : Error). x.nstatus) w

-- ---- writing

module _ {X : Type 0} (view : X → List ℕ) (credentials : Credentials) (mode : CredSspMode) (buffers : CredentialsBuffers) where
  pub text_written : (r : Result X Error) → buffers ≡ credentials_buffers_of credentials →
      IsOrMemory view r (creds_text buffers mode) → IfOk r (λ text. delegated_text credentials mode ≡ Ok (view text))
  unfolding delegated_text
  text_written (Ok text) same e = ap (λ b. creds_text b mode) (sym same) ∙ e
  text_written (Err error) same e = tt

  pub text_unwritten : (r : Result X Error) → buffers ≡ credentials_buffers_of credentials →
      IsOrMemory view r (creds_text buffers mode) →
      IfErr r (λ error. error.error_type ≢ InsufficientMemory → delegated_text credentials mode ≡ Err error)
  unfolding delegated_text
  text_unwritten (Ok text) same e = tt
  text_unwritten (Err error) same (inl w) = λ memory. ap (λ b. creds_text b mode) (sym same) ∙ w
  text_unwritten (Err error) same (inr w) = λ memory. absurd (memory (ap (λ (x : Error). x.error_type) w))

  pub unwritten_codeless : (r : Result X Error) → IsOrMemory view r (creds_text buffers mode) → IfErr r (λ error. error.nstatus ≡ None)
  unwritten_codeless (Ok text) e = tt
  unwritten_codeless (Err error) (inl w) =
      refused_so IsCodeless (creds_text buffers mode) error (so_text_of IsCodeless each_codeless buffers mode) w
  unwritten_codeless (Err error) (inr w) = ap (λ (x : Error). x.nstatus) w

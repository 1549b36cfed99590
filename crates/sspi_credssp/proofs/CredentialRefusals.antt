-- What holds of every refusal of credentials and of their texts.
use Rattle.std.proofs.Common.{◌≡◌, ℕ, ◌==◌, List, [], ◌∷◌, None, Some, Result, Ok, Err, Option, Bool, true, false, if◌then◌else◌, subst}
use Rattle.sspi_types.specs.declared.error.Error.{Error}
use Rattle.sspi_types.specs.Errors.{memory_error}
use Rattle.sspi_names.specs.Utf16.{decode_le}
use Rattle.sspi_names.specs.Identity.{identity_of, credentials_buffers_of}
use Rattle.sspi_names.specs.Utf16.{bad_text}
use Rattle.sspi_names.specs.Name.{bad_name}
use Rattle.sspi_names.specs.declared.credentials.Credentials.{Credentials}
use Rattle.sspi_names.specs.declared.credentials.CredentialsBuffers.{CredentialsBuffers}
use Rattle.sspi_names.specs.declared.credentials.CredentialsBuffers.TheVariants as buffered
use Rattle.sspi_names.specs.declared.error.Utf16Error.{Utf16Error}
use Rattle.sspi_names.specs.declared.error.Utf16Error.TheVariants as utf16
use Rattle.sspi_names.specs.declared.identity.AuthIdentity.{AuthIdentity}
use Rattle.sspi_names.specs.declared.identity.AuthIdentityBuffers.{AuthIdentityBuffers}
use Rattle.sspi_tsreq.specs.declared.mode.CredSspMode.{CredSspMode}
use Rattle.sspi_tsreq.specs.Creds.{Fields, Passwords, fields_at, passwords_at, malformed, unknown_type, smart_card, keytab_refused}
use Rattle.sspi_tsreq.specs.Creds.{too_long, ◌and_then◌, spelled_or_malformed, password_type, text_or_refused, texts_of, creds_in}
use Rattle.sspi_tsreq.specs.Creds.{creds_of, creds_text, buffers_text, spelled_if_fits}
use Rattle.sspi_credssp.specs.Exchange.{delegated_text, delegated_identity, identity_in, named_or_refused}

abbrev pub IfRefused : (Error → Type 0) → {A : Type 0} → Result A Error → Type 0
IfRefused Q (Ok x) = Unit {0}
IfRefused Q (Err error) = Q error

pub refused_so : (Q : Error → Type 0) {A : Type 0} (r : Result A Error) (error : Error) → IfRefused Q r → r ≡ Err error → Q error
refused_so Q {A = A} r error holds e = subst (λ (x : Result A Error). IfRefused Q x) e holds

-- it holds of each of them
pub record OfEach (Q : Error → Type 0) : Type 0 where
  pub of_malformed : Q malformed
  pub of_unknown_type : Q unknown_type
  pub of_smart_card : Q smart_card
  pub of_keytab : Q keytab_refused
  pub of_too_long : Q too_long
  pub of_bad_text : Q bad_text
  pub of_bad_name : Q bad_name
  pub of_memory : Q memory_error

module _ (Q : Error → Type 0) (q : OfEach Q) where
  so_then : {A B : Type 0} (r : Result A Error) (next : A → Result B Error) → IfRefused Q r → ((x : A) → IfRefused Q (next x)) →
      IfRefused Q (r and_then next)
  so_then (Ok x) next h n = n x
  so_then (Err error) next h n = h

  so_if : {A : Type 0} (b : Bool) (x y : Result A Error) → IfRefused Q x → IfRefused Q y → IfRefused Q (if b then x else y)
  so_if true x y h k = h
  so_if false x y h k = k

  so_by_cases : {X F B : Type 0} (f : Result X F → Result B Error) → ((x : X) → IfRefused Q (f (Ok x))) →
      ((e : F) → IfRefused Q (f (Err e))) →
      (r : Result X F) → IfRefused Q (f r)
  so_by_cases f h k (Ok x) = h x
  so_by_cases f h k (Err e) = k e

  so_type : (content : List ℕ) → IfRefused Q (password_type content)
  so_type [] = q.of_unknown_type
  so_type (n ∷ rest) = so_if (n == 1) _ _ tt (so_if (n == 2) _ _ q.of_smart_card q.of_unknown_type)

  so_units : (r : Result (List ℕ) Utf16Error) → IfRefused Q (text_or_refused r)
  so_units (Ok units) = tt
  so_units (Err utf16.OddLength) = q.of_bad_text
  so_units (Err utf16.UnpairedSurrogate) = q.of_bad_text
  so_units (Err utf16.InsufficientMemory) = q.of_memory

  so_texts : (fields : Passwords) → IfRefused Q (texts_of fields)
  unfolding texts_of
  so_texts fields =
      so_then (text_or_refused (decode_le fields.domain)) _ (so_units (decode_le fields.domain)) (λ domain.
      so_then (text_or_refused (decode_le fields.user)) _ (so_units (decode_le fields.user)) (λ user.
      so_then (text_or_refused (decode_le fields.password)) _ (so_units (decode_le fields.password)) (λ password. tt)))

  so_in : (body : List ℕ) → IfRefused Q (creds_in body)
  unfolding creds_in
  so_in body =
      so_then {A = Fields} {B = CredentialsBuffers} (spelled_or_malformed (fields_at body)) _
      (so_by_cases {B = Fields} spelled_or_malformed (λ x. tt) (λ e. q.of_malformed) (fields_at body)) (λ (fields : Fields).
      so_then {B = CredentialsBuffers} (password_type fields.cred_type) _ (so_type fields.cred_type) (λ known.
      so_then {A = Passwords} {B = CredentialsBuffers} (spelled_or_malformed (passwords_at fields.credentials)) _
      (so_by_cases {B = Passwords} spelled_or_malformed (λ x. tt) (λ e. q.of_malformed) (passwords_at fields.credentials))
      (λ (passwords : Passwords). so_texts passwords)))

  pub so_creds : (text : List ℕ) → IfRefused Q (creds_of text)
  unfolding creds_of
  so_creds text = so_then {A = List ℕ} {B = CredentialsBuffers} (spelled_or_malformed _) creds_in
      (so_by_cases {B = List ℕ} spelled_or_malformed (λ x. tt) (λ e. q.of_malformed) _) so_in

  so_fits : (body : List ℕ) → IfRefused Q (spelled_if_fits body)
  so_fits body = so_if {A = List ℕ} _ (Ok _) (Err too_long) tt q.of_too_long

  so_buffers : (b : AuthIdentityBuffers) → IfRefused Q (buffers_text b)
  unfolding buffers_text
  so_buffers b = so_fits _

  pub so_text_of : (b : CredentialsBuffers) (mode : CredSspMode) → IfRefused Q (creds_text b mode)
  so_text_of (buffered.AuthIdentity buffers) mode = so_buffers _
  so_text_of (buffered.Keytab identity) mode = q.of_keytab

  -- ---- of the two ends

  pub so_delegated : (credentials : Credentials) (mode : CredSspMode) → IfRefused Q (delegated_text credentials mode)
  unfolding delegated_text
  so_delegated credentials mode = so_text_of (credentials_buffers_of credentials) mode

  so_named : (named : Option AuthIdentity) → IfRefused Q (named_or_refused named)
  so_named (Some identity) = tt
  so_named None = q.of_bad_name

  so_identity_in : (r : Result CredentialsBuffers Error) → IfRefused Q r → IfRefused Q (identity_in r)
  so_identity_in (Ok (buffered.AuthIdentity buffers)) h = so_named (identity_of buffers)
  so_identity_in (Ok (buffered.Keytab identity)) h = q.of_malformed
  so_identity_in (Err error) h = h

  pub so_read : (text : List ℕ) → IfRefused Q (delegated_identity text)
  unfolding delegated_identity
  so_read text = so_identity_in (creds_of text) (so_creds text)

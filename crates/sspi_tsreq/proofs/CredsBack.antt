-- Written credentials are read back.
use Rattle.std.proofs.Common.{◌≡◌, ℕ, ◌≤◌, List, [], ◌∷◌, ◌++◌, true, false, Bool, cond, leb, Result, Ok, Err, length, refl, sym, ap}
use Rattle.std.proofs.Common.{◌∙◌, subst, arith, lit≤}
use Rattle.std.proofs.lemmas.List.{append-nil}
use Rattle.std.proofs.lemmas.Bool.{leb-true}
use Rattle.sspi_types.specs.declared.error.Error.{Error}
use Rattle.sspi_ber.specs.Forms.{max_content}
use Rattle.sspi_ber.specs.Pieces.{element_at}
use Rattle.sspi_ber.specs.Short.{element, element_size, header, len_short, int_short, int_content}
use Rattle.sspi_ber.proofs.Agreement.{short_element_again}
use Rattle.sspi_ber.proofs.Written.{length-element}
use Rattle.sspi_names.specs.Utf16.{IsUtf16, bytes_le}
use Rattle.sspi_names.specs.Identity.{AreBuffers, AreCredentials}
use Rattle.sspi_names.specs.declared.identity.AuthIdentityBuffers.{AuthIdentityBuffers}
use Rattle.sspi_names.specs.declared.credentials.CredentialsBuffers.{CredentialsBuffers}
use Rattle.sspi_names.specs.declared.credentials.CredentialsBuffers.TheVariants as credentials
use Rattle.sspi_names.proofs.CodeUnits.{decode_le-bytes_le}
use Rattle.sspi_tsreq.specs.declared.mode.CredSspMode.{CredSspMode}
use Rattle.sspi_tsreq.specs.declared.mode.CredSspMode.TheVariants.{WithCredentials, CredentialLess}
use Rattle.sspi_tsreq.specs.Creds.{octets_in, wrapped_octets, fields_at, passwords_at, password_fields, password_type_field}
use Rattle.sspi_tsreq.specs.Creds.{creds_body, creds_in, creds_of, creds_text, buffers_text, spelled_if_fits, too_long, texts_of}
use Rattle.sspi_tsreq.specs.Creds.{delegated, delegated_credentials}
use Rattle.std.specs.Result.{IfOk}
use Rattle.sspi_tsreq.specs.CredsAnswers.{IsOrMemory}
use Rattle.sspi_tsreq.specs.CredsSizes.{FitTexts, password_fields_size}
use Rattle.sspi_tsreq.proofs.Room.{length-password_fields, length-creds_body, texts_fit}

-- an element with nothing after it
alone : (tag : ℕ) (content : List ℕ) → length content ≤ max_content → element_at tag (element tag content) ≡ Ok (content, [])
alone tag content le = ap (element_at tag) (sym (append-nil (element tag content))) ∙ short_element_again tag content [] le

octets_back : (tag : ℕ) (content more : List ℕ) → length content ≤ max_content → element_size (length content) ≤ max_content
    → octets_in tag (wrapped_octets tag content ++ more) ≡ Ok (content, more)
unfolding octets_in wrapped_octets
octets_back tag content more le outer =
    rw (short_element_again tag (element 0x04 content) more (omega (arith, length-element 0x04 content)), alone 0x04 content le)

octets_alone : (tag : ℕ) (content : List ℕ) → length content ≤ max_content → element_size (length content) ≤ max_content
    → octets_in tag (wrapped_octets tag content) ≡ Ok (content, [])
octets_alone tag content le outer = ap (octets_in tag) (sym (append-nil (wrapped_octets tag content))) ∙ octets_back tag content [] le outer

passwords_back : (d u p : List ℕ) → FitTexts (length d) (length u) (length p)
    → passwords_at (element 0x30 (password_fields d u p)) ≡ Ok (record { domain = d; user = u; password = p }, [])
unfolding passwords_at password_fields
passwords_back d u p fit =
    rw (
      alone 0x30 (password_fields d u p) (omega (arith, length-password_fields d u p, fit.fields)),
      octets_back 0xA0 d (wrapped_octets 0xA1 u ++ wrapped_octets 0xA2 p) fit.domain_text fit.domain_octets,
      octets_back 0xA1 u (wrapped_octets 0xA2 p) fit.user_text fit.user_octets,
      octets_alone 0xA2 p fit.password_text fit.password_octets,
    )

number_back : element_at 0x02 (int_short 1) ≡ Ok (1 ∷ [], [])
unfolding int_short int_content
number_back = alone 0x02 (1 ∷ []) (omega arith)

number_length : length (int_short 1) ≤ max_content
unfolding int_short int_content element header len_short
number_length = lit≤ tt

fields_back : (d u p : List ℕ) → FitTexts (length d) (length u) (length p)
    → fields_at (creds_body d u p) ≡ Ok (record { cred_type = 1 ∷ []; credentials = element 0x30 (password_fields d u p) }, [])
unfolding fields_at creds_body password_type_field
fields_back d u p fit =
    let sequence = element 0x30 (password_fields d u p) in
    let size : length sequence ≡ element_size (password_fields_size (length d) (length u) (length p)) =
    length-element 0x30 (password_fields d u p) ∙ ap element_size (length-password_fields d u p) in
    rw (
      short_element_again 0xA0 (int_short 1) (wrapped_octets 0xA1 sequence) number_length,
      number_back,
      octets_alone 0xA1 sequence (omega (arith, size, fit.sequence)) (subst (λ n. element_size n ≤ max_content) (sym size) fit.octets),
    )

texts_back : (b : AuthIdentityBuffers) → AreBuffers b
    → texts_of (record { domain = bytes_le b.domain; user = bytes_le b.user; password = bytes_le b.password.value }) ≡ Ok
    (credentials.AuthIdentity b)
unfolding texts_of
texts_back b h = rw (
  decode_le-bytes_le b.domain h.domain_text,
  decode_le-bytes_le b.user h.user_text,
  decode_le-bytes_le b.password.value h.password_text,
)

creds_back : (b : AuthIdentityBuffers) (more : List ℕ) → AreBuffers b →
    length (creds_body (bytes_le b.domain) (bytes_le b.user) (bytes_le b.password.value)) ≤ max_content
    → creds_of (element 0x30 (creds_body (bytes_le b.domain) (bytes_le b.user) (bytes_le b.password.value)) ++ more) ≡ Ok
    (credentials.AuthIdentity b)
unfolding creds_of creds_in
creds_back b more h le =
    let d = bytes_le b.domain in
    let u = bytes_le b.user in
    let p = bytes_le b.password.value in
    let fit = texts_fit (length d) (length u) (length p) (subst (λ n. n ≤ max_content) (length-creds_body d u p) le) in
    rw (short_element_again 0x30 (creds_body d u p) more le, fields_back d u p fit, passwords_back d u p fit) (texts_back b h)

nothing_is_text : IsUtf16 []
nothing_is_text = record { characters = []; scalars = refl; spelled = refl }

delegated_buffers : (mode : CredSspMode) (b : AuthIdentityBuffers) → AreBuffers b → AreBuffers (delegated mode b)
delegated_buffers WithCredentials b h = h
delegated_buffers CredentialLess b h = record {
  user_text = nothing_is_text;
  domain_text = nothing_is_text;
  password_text = nothing_is_text;
}

abbrev fits_or_long : Bool → List ℕ → Result (List ℕ) Error
fits_or_long fits body = cond fits (Ok (element 0x30 body)) (Err too_long)

whole_if_fits : (body text : List ℕ) (fits : Bool) → leb (length body) max_content ≡ fits → fits_or_long fits body ≡ Ok text →
    (length body ≤ max_content) × (element 0x30 body ≡ text)
whole_if_fits body text true e is = (leb-true (length body) max_content e, cc)
whole_if_fits body text false e is = absurd cc

buffers_back : (b : AuthIdentityBuffers) (text more : List ℕ) → AreBuffers b → buffers_text b ≡ Ok text →
    creds_of (text ++ more) ≡ Ok (credentials.AuthIdentity b)
unfolding buffers_text
buffers_back b text more h e =
    let body = creds_body (bytes_le b.domain) (bytes_le b.user) (bytes_le b.password.value) in
    let whole = whole_if_fits body text (leb (length body) max_content) refl e in
    ap (λ t. creds_of (t ++ more)) (sym whole.1) ∙ creds_back b more h whole.0

-- written credentials are read back, whatever follows
pub credentials_back : (c : CredentialsBuffers) (mode : CredSspMode) (text more : List ℕ) → AreCredentials c →
    creds_text c mode ≡ Ok text → creds_of (text ++ more) ≡ Ok (delegated_credentials mode c)
credentials_back (credentials.AuthIdentity b) mode text more h e = buffers_back (delegated mode b) text more (delegated_buffers mode b h) e
credentials_back (credentials.Keytab identity) mode text more h e = absurd cc

pub credentials_back_alone : (c : CredentialsBuffers) (mode : CredSspMode) (text : List ℕ) → AreCredentials c →
    creds_text c mode ≡ Ok text → creds_of text ≡ Ok (delegated_credentials mode c)
credentials_back_alone c mode text h e = ap creds_of (sym (append-nil text)) ∙ credentials_back c mode text [] h e

-- ---- what a writer answers

pub buffers_answer : {X : Type 0} (view : X → List ℕ) (r : Result X Error) (b : AuthIdentityBuffers) →
    IsOrMemory view r (buffers_text b) → IfOk r (λ x. AreBuffers b)
    → IfOk r (λ x. creds_of (view x) ≡ Ok (credentials.AuthIdentity b))
buffers_answer view (Ok x) b answer h = ap creds_of (sym (append-nil (view x))) ∙ buffers_back b (view x) [] h answer
buffers_answer view (Err e) b answer h = tt

pub empty_answer : {X : Type 0} (view : X → List ℕ) (r : Result X Error) (b : AuthIdentityBuffers) →
    IsOrMemory view r (spelled_if_fits (creds_body [] [] []))
    → IfOk r (λ x. creds_of (view x) ≡ Ok (credentials.AuthIdentity (delegated CredentialLess b)))
unfolding buffers_text bytes_le
empty_answer view (Ok x) b answer =
    ap creds_of (sym (append-nil (view x)))
    ∙ buffers_back (delegated CredentialLess b) (view x) [] (record
    { user_text = nothing_is_text; domain_text = nothing_is_text; password_text = nothing_is_text }) answer
empty_answer view (Err e) b answer = tt

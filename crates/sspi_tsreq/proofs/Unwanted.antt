-- When a reader of credentials needs no memory.
use Rattle.std.proofs.Common.{◌≡◌, inl, inr, ℕ, Bool, true, false, cond, eqb, List, ◌∷◌, [], ◌++◌, Option, None, Some, Result, Ok, Err}
use Rattle.std.proofs.Common.{refl, sym, ap, ◌∙◌, subst}
use Rattle.std.specs.Option.{IfSome}
use Rattle.sspi_types.specs.declared.error.Error.{Error}
use Rattle.sspi_types.specs.Errors.{memory_error}
use Rattle.sspi_ber.specs.declared.wire_kind.WireKind.{WireKind}
use Rattle.sspi_ber.specs.declared.wire_kind.WireKind.TheVariants.{UnexpectedEof, InvalidData, ReadFault, WriteFault, InsufficientMemory}
use Rattle.sspi_ber.specs.Pieces.{Read, header_at}
use Rattle.sspi_ber.specs.Outside.{Answers, Reads, ReadCause}
use Rattle.sspi_ber.proofs.PiecesMatch.{header_match}
use Rattle.sspi_names.specs.Utf16.{bad_text, decode_le}
use Rattle.std.specs.Result.{IfErr, IsErr, IsOk, is_ok}
use Rattle.std.proofs.lemmas.Bool.{and_parts, true≢false}
use Rattle.sspi_names.specs.declared.identity.AuthIdentityBuffers.{AuthIdentityBuffers}
use Rattle.sspi_names.specs.declared.credentials.CredentialsBuffers.{CredentialsBuffers}
use Rattle.sspi_tsreq.specs.Creds.{Fields, Passwords, malformed, unknown_type, smart_card, spelled_or_malformed, password_type}
use Rattle.sspi_tsreq.specs.Creds.{texts_of, fields_at, passwords_at, creds_in, creds_of}
use Rattle.sspi_tsreq.specs.CredsReading.{IsLate, refusal_by, are_texts}
use Rattle.sspi_tsreq.specs.CredsGrammar.{HasPasswords, BeginsSequence, HasBadText, AreTextsOf}
use Rattle.sspi_tsreq.proofs.CredsAre.{Form, malformed_form, unknown_form, smart_card_form, bad_text_form, stands_form, form_of}
use Rattle.sspi_tsreq.proofs.CredsAre.{texts_cases, texts_answer, malformed_refused, unknown_refused, smart_card_refused}

-- ---- the refusals that come before any allocation

-- a refusal of another type is not out of memory
not_wanted : (refusal error : Error) → (refusal.error_type ≡ memory_error.error_type → ⊥) → refusal ≡ error → error ≡ memory_error → ⊥
not_wanted refusal error differ same m = differ (ap (λ (x : Error). x.error_type) (same ∙ m))

pub spelled_unwanted : {A : Type 0} (read : Read A) (error : Error) → spelled_or_malformed read ≡ Err error → error ≡ memory_error → ⊥
spelled_unwanted (Ok x) error e m = cc
spelled_unwanted (Err fault) error e m = not_wanted malformed error (λ f. cc) (cc) m

by_number : (one two : Bool) (error : Error) → cond {A = Result (Unit {0}) Error} one (Ok tt)
    (cond two (Err smart_card) (Err unknown_type)) ≡ Err error → error ≡ memory_error → ⊥
by_number true two error e m = cc
by_number false true error e m = not_wanted smart_card error (λ f. cc) (cc) m
by_number false false error e m = not_wanted unknown_type error (λ f. cc) (cc) m

pub type_unwanted : (content : List ℕ) (error : Error) → password_type content ≡ Err error → error ≡ memory_error → ⊥
type_unwanted [] error e m = not_wanted unknown_type error (λ f. cc) (cc) m
type_unwanted (number ∷ rest) error e m = by_number (eqb number 1) (eqb number 2) error e m

-- ---- only the texts are copied

late_by : (answer given : Result CredentialsBuffers Error) → answer ≡ given → IsLate given → IsLate answer
late_by answer given e late = subst IsLate (sym e) late

pub texts_late : (texts : Passwords) → IsLate (texts_of texts)
texts_late texts =
    elim (texts_cases texts) [
      | inl (buffers, t) ↦ late_by (texts_of texts) _ (texts_answer texts buffers t) tt
      | inr (bad, e) ↦ late_by (texts_of texts) _ e refl
    ]

-- so out of memory comes late
pub late_in : (body : List ℕ) (fields : Fields) (passwords : Passwords) → spelled_or_malformed (fields_at body) ≡ Ok fields →
    password_type fields.cred_type ≡ Ok tt
    → spelled_or_malformed (passwords_at fields.credentials) ≡ Ok passwords → IsLate (creds_in body)
unfolding creds_in
late_in body fields passwords e f g = rw (e, f, g) (texts_late passwords)

-- ---- all three are judged before any of them is copied

all_read : (texts : Passwords) (buffers : AuthIdentityBuffers) → AreTextsOf texts buffers → are_texts texts ≡ true
all_read texts buffers t = rw (t.domain_text, t.user_text, t.password_text) refl

not_both : {A E : Type 0} (r : Result A E) → is_ok r ≡ true → IsErr r → ⊥
not_both (Ok x) ok bad = cc
not_both (Err e) ok bad = cc

not_bad_texts : (texts : Passwords) → are_texts texts ≡ true → HasBadText texts → ⊥
not_bad_texts texts e bad =
    let parts = and_parts _ _ e in
    let others = and_parts _ _ parts.1 in
    elim bad [
      | inl domain ↦ not_both (decode_le texts.domain) parts.0 domain
      | inr more ↦ elim more [
        | inl user ↦ not_both (decode_le texts.user) others.0 user
        | inr password ↦ not_both (decode_le texts.password) others.1 password
      ]
    ]

pub some_bad : (texts : Passwords) → are_texts texts ≡ false → texts_of texts ≡ Err bad_text
some_bad texts e =
    elim (texts_cases texts) [
      | inl (buffers, t) ↦ absurd (true≢false (sym (all_read texts buffers t) ∙ e))
      | inr (bad, f) ↦ f
    ]

pub all_texts : (texts : Passwords) → are_texts texts ≡ true → IsOk (texts_of texts)
all_texts texts e =
    elim (texts_cases texts) [
      | inl (buffers, t) ↦ ap is_ok (texts_answer texts buffers t)
      | inr (bad, f) ↦ absurd (not_bad_texts texts e bad)
    ]

pub bad_unwanted : (error : Error) → error ≡ bad_text → error ≡ memory_error → ⊥
bad_unwanted error e m = not_wanted bad_text error (λ f. cc) (sym e) m

pub ok_in : (body : List ℕ) (fields : Fields) (passwords : Passwords) → spelled_or_malformed (fields_at body) ≡ Ok fields →
    password_type fields.cred_type ≡ Ok tt
    → spelled_or_malformed (passwords_at fields.credentials) ≡ Ok passwords → IsOk (texts_of passwords) → IsOk (creds_in body)
unfolding creds_in
ok_in body fields passwords e f g ok = rw (e, f, g) ok

pub ruleset judged = (some_bad, all_texts, bad_unwanted)

pub late_if : {X : Type 0} (result : Result X Error) (answer : Result CredentialsBuffers Error) → IsLate answer →
    IfErr result (λ error. error ≡ memory_error → IsLate answer)
late_if (Ok x) answer late = tt
late_if (Err error) answer late = λ m. late

not_late : (text : List ℕ) (error : Error) → creds_of text ≡ Err error → (error.description ≡ bad_text.description → ⊥) →
    IsLate (creds_of text) → ⊥
not_late text error e other late = other (ap (λ (x : Error). x.description) (subst IsLate e late))

pub late_has : (text : List ℕ) → IsLate (creds_of text) → HasPasswords text
late_has text late = by_form (form_of text)
  where
    by_form : Form text → HasPasswords text
    by_form (malformed_form h) = absurd (not_late text malformed (malformed_refused text h) (λ e. cc) late)
    by_form (unknown_form h) = absurd (not_late text unknown_type (unknown_refused text h) (λ e. cc) late)
    by_form (smart_card_form h) = absurd (not_late text smart_card (smart_card_refused text h) (λ e. cc) late)
    by_form (bad_text_form h) = (h.0, h.1, h.2, h.3)
    by_form (stands_form buffers t) = (t.credentials, t.texts, t.creds_is, t.passwords_is)

-- ---- the content is copied after its header was read

pub header_unwanted : (X : Type 0) (kind : WireKind) (f g : ℕ) → ReadCause {X = X} f g (Err kind) → refusal_by kind ≡ memory_error → ⊥
header_unwanted X UnexpectedEof f g cause e = not_wanted (refusal_by UnexpectedEof) memory_error (λ f. cc) e refl
header_unwanted X InvalidData f g cause e = not_wanted (refusal_by InvalidData) memory_error (λ f. cc) e refl
header_unwanted X ReadFault f g cause e = not_wanted (refusal_by ReadFault) memory_error (λ f. cc) e refl
header_unwanted X WriteFault f g cause e = cause
header_unwanted X InsufficientMemory f g cause e = cause

header_read : (text : List ℕ) (mid : Option (List ℕ)) (n : ℕ) (read : Read ℕ) → read ≡ header_at 0x30 text →
    Answers (λ k. k) mid (Ok n) read → BeginsSequence text
header_read text mid n (Ok x) e h =
    let t = (header_match 0x30).takes text x.0 x.1 (sym e) in
    (t.1.len, x.1, x.0, t.1.measured, t.2 ∙ ap (λ (l : List ℕ). l ++ x.1) t.1.spelled)
header_read text mid n (Err fault) e h = absurd h

pub header_begins : (before mid : Option (List ℕ)) (n : ℕ) → Reads {X = ℕ} (λ k. k) before mid (Ok n) (header_at 0x30) →
    IfSome before BeginsSequence
header_begins None mid n h = tt
header_begins (Some text) mid n h = header_read text mid n (header_at 0x30 text) refl h

pub ruleset late = (spelled_unwanted, type_unwanted, texts_late)

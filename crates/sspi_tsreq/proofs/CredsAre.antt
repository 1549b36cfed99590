-- The answer to a text of credentials, by the grammar.
use Rattle.std.proofs.Common.{◌≡◌, ◌⊎◌, inl, inr, ◌%◌, ℕ, Bool, true, false, cond, eqb, List, [], ◌∷◌, length, Result, Ok, Err, refl}
use Rattle.std.proofs.Common.{sym, ap, ◌∙◌, subst}
use Rattle.std.proofs.lemmas.Bool.{cases_eq, ne_eqb}
use Rattle.std.specs.Char.Utf16.{has_unpaired_surrogate}
use Rattle.std.specs.Result.{IsErr, is_err}
use Rattle.sspi_types.specs.declared.error.Error.{Error}
use Rattle.sspi_ber.specs.Pieces.{Fault, Read, element_at}
use Rattle.sspi_ber.proofs.Match.{both_are}
use Rattle.sspi_names.specs.Utf16.{bad_text, utf16_refusal}
use Rattle.sspi_names.specs.Utf16.{decode_le, units_le}
use Rattle.sspi_names.specs.declared.error.Utf16Error.{Utf16Error}
use Rattle.sspi_names.specs.declared.error.Utf16Error.TheVariants.{OddLength, UnpairedSurrogate}
use Rattle.sspi_names.specs.declared.identity.AuthIdentityBuffers.{AuthIdentityBuffers}
use Rattle.sspi_names.specs.declared.identity.KeytabIdentity.{KeytabIdentity}
use Rattle.sspi_names.specs.declared.credentials.CredentialsBuffers.{CredentialsBuffers}
use Rattle.sspi_names.specs.declared.credentials.CredentialsBuffers.TheVariants as buffered
use Rattle.sspi_tsreq.specs.Creds.{Fields, Passwords, ◌and_then◌, malformed, unknown_type, smart_card, spelled_or_malformed}
use Rattle.sspi_tsreq.specs.Creds.{password_type, texts_of, fields_at, passwords_at, creds_in, creds_of}
use Rattle.sspi_tsreq.specs.CredsGrammar.{IsPasswordCreds, IsCreds, IsCredsOfType, IsOtherType, AreTextsOf, HasBadText, StandsFor}
use Rattle.sspi_tsreq.specs.CredsGrammar.{IsNoCreds, LacksPasswords}
use Rattle.sspi_tsreq.proofs.CredsMatch.{passwords_take, passwords_again, fields_take, whole_again, fields_again}

-- ---- what follows the structure of TSCredentials

abbrev by_passwords : List ℕ → Result CredentialsBuffers Error
by_passwords credentials = spelled_or_malformed (passwords_at credentials) and_then λ passwords. texts_of passwords

abbrev by_type : List ℕ → List ℕ → Result CredentialsBuffers Error
by_type cred_type credentials = password_type cred_type and_then λ known. by_passwords credentials

abbrev by_fields : Fields → Result CredentialsBuffers Error
by_fields fields = by_type fields.cred_type fields.credentials

creds_answer : (text cred_type credentials : List ℕ) → IsCreds text cred_type credentials → creds_of text ≡ by_type cred_type credentials
unfolding creds_of creds_in
creds_answer text cred_type credentials t =
    ap (λ (r : Read (List ℕ)). spelled_or_malformed r and_then creds_in) (whole_again text cred_type credentials t)
    ∙ ap (λ (r : Read Fields). spelled_or_malformed r and_then by_fields) (fields_again text cred_type credentials t)

-- ---- whether TSCredentials are there

no_whole : (text : List ℕ) (fault : Fault) → element_at 0x30 text ≡ Err fault → IsNoCreds text
no_whole text fault e cred_type credentials t = let f = whole_again text cred_type credentials t in cc

no_fields : (text body behind : List ℕ) (fault : Fault) → element_at 0x30 text ≡ Ok (body, behind) → fields_at body ≡ Err fault →
    IsNoCreds text
no_fields text body behind fault whole e cred_type credentials t =
    let same = both_are t.content body t.behind behind (sym (whole_again text cred_type credentials t) ∙ whole) in
    let f = ap fields_at (sym same.0) ∙ fields_again text cred_type credentials t in
    cc

whole_refused : (text : List ℕ) (fault : Fault) → element_at 0x30 text ≡ Err fault → creds_of text ≡ Err malformed
unfolding creds_of
whole_refused text fault e = ap (λ (r : Read (List ℕ)). spelled_or_malformed r and_then creds_in) e

fields_refused : (text body behind : List ℕ) (fault : Fault) → element_at 0x30 text ≡ Ok (body, behind) → fields_at body ≡ Err fault →
    creds_of text ≡ Err malformed
unfolding creds_of creds_in
fields_refused text body behind fault whole e =
    ap (λ (r : Read (List ℕ)). spelled_or_malformed r and_then creds_in) whole ∙ ap
    (λ (r : Read Fields). spelled_or_malformed r and_then by_fields) e

abbrev Found : List ℕ → Type 0
Found text = ((cred_type credentials : List ℕ) × IsCreds text cred_type credentials) ⊎ (IsNoCreds text × (creds_of text ≡ Err malformed))

by_inside : (text body behind : List ℕ) (r : Read Fields) → element_at 0x30 text ≡ Ok (body, behind) → fields_at body ≡ r → Found text
by_inside text body behind (Ok (f, left)) whole e = inl (f.cred_type, f.credentials, fields_take text body behind f left whole e)
by_inside text body behind (Err fault) whole e = inr (
  no_fields text body behind fault whole e,
  fields_refused text body behind fault whole e,
)

by_whole : (text : List ℕ) (r : Read (List ℕ)) → element_at 0x30 text ≡ r → Found text
by_whole text (Ok (body, behind)) whole = by_inside text body behind (fields_at body) whole refl
by_whole text (Err fault) e = inr (no_whole text fault e, whole_refused text fault e)

found : (text : List ℕ) → Found text
found text = by_whole text (element_at 0x30 text) refl

-- ---- whether TSPasswordCreds are there

abbrev FoundPasswords : List ℕ → Type 0
FoundPasswords credentials = ((texts : Passwords) × IsPasswordCreds credentials texts) ⊎
    (((texts : Passwords) → ¬ IsPasswordCreds credentials texts) × (by_passwords credentials ≡ Err malformed))

no_passwords : (credentials : List ℕ) (fault : Fault) → passwords_at credentials ≡ Err fault → (texts : Passwords) →
    ¬ IsPasswordCreds credentials texts
no_passwords credentials fault e texts t = let f = passwords_again credentials texts t in cc

by_read : (credentials : List ℕ) (r : Read Passwords) → passwords_at credentials ≡ r → FoundPasswords credentials
by_read credentials (Ok (texts, rest)) e = inl (texts, passwords_take credentials texts rest e)
by_read credentials (Err fault) e = inr (
  no_passwords credentials fault e,
  ap (λ (r : Read Passwords). spelled_or_malformed r and_then λ passwords. texts_of passwords) e,
)

found_passwords : (credentials : List ℕ) → FoundPasswords credentials
found_passwords credentials = by_read credentials (passwords_at credentials) refl

passwords_answer : (credentials : List ℕ) (texts : Passwords) → IsPasswordCreds credentials texts →
    by_passwords credentials ≡ texts_of texts
passwords_answer credentials texts t = ap (λ (r : Read Passwords). spelled_or_malformed r and_then λ passwords. texts_of passwords)
    (passwords_again credentials texts t)

-- ---- the type

type_cases : (cred_type : List ℕ) → ((more : List ℕ) × (cred_type ≡ 1 ∷ more)) ⊎
    (((more : List ℕ) × (cred_type ≡ 2 ∷ more)) ⊎ IsOtherType cred_type)
type_cases [] = inr (inr tt)
type_cases (number ∷ more) =
    elim (cases_eq number 1) [
      | inl e ↦ inl (more, ap (λ (n : ℕ). n ∷ more) e)
      | inr not_one ↦ elim (cases_eq number 2) [
        | inl e ↦ inr (inl (more, ap (λ (n : ℕ). n ∷ more) e))
        | inr not_two ↦ inr (inr (not_one, not_two))
      ]
    ]

other_refused : (cred_type : List ℕ) → IsOtherType cred_type → password_type cred_type ≡ Err unknown_type
other_refused [] h = refl
other_refused (number ∷ more) h = rw (ne_eqb number 1 h.0, ne_eqb number 2 h.1) refl

-- ---- the texts

abbrev Decoded : List ℕ → Result (List ℕ) Utf16Error → Type 0
Decoded bytes r = ((units : List ℕ) × (r ≡ Ok units)) ⊎ ((error : Utf16Error) × (r ≡ Err error) × (utf16_refusal error ≡ bad_text))

by_tests : (bytes units : List ℕ) (even bad : Bool) → Decoded bytes
    (cond even (cond bad (Err UnpairedSurrogate) (Ok units)) (Err OddLength))
by_tests bytes units true true = inr (UnpairedSurrogate, refl, refl)
by_tests bytes units true false = inl (units, refl)
by_tests bytes units false bad = inr (OddLength, refl, refl)

decoded : (bytes : List ℕ) → Decoded bytes (decode_le bytes)
unfolding decode_le
decoded bytes = by_tests bytes (units_le bytes) (eqb (length bytes % 2) 0) (has_unpaired_surrogate (units_le bytes))

abbrev buffers_with : List ℕ → List ℕ → List ℕ → AuthIdentityBuffers
buffers_with domain user password = record { user = user; domain = domain; password = record { value = password } }

pub texts_answer : (texts : Passwords) (buffers : AuthIdentityBuffers) → AreTextsOf texts buffers →
    texts_of texts ≡ Ok (buffered.AuthIdentity buffers)
unfolding texts_of
texts_answer texts buffers t = rw (t.domain_text, t.user_text, t.password_text) refl

domain_refused : (texts : Passwords) (error : Utf16Error) → decode_le texts.domain ≡ Err error → utf16_refusal error ≡ bad_text →
    texts_of texts ≡ Err bad_text
unfolding texts_of
domain_refused texts error e f = rw (e, f) refl

user_refused : (texts : Passwords) (domain : List ℕ) (error : Utf16Error) → decode_le texts.domain ≡ Ok domain →
    decode_le texts.user ≡ Err error → utf16_refusal error ≡ bad_text
    → texts_of texts ≡ Err bad_text
unfolding texts_of
user_refused texts domain error d e f = rw (d, e, f) refl

password_refused : (texts : Passwords) (domain user : List ℕ) (error : Utf16Error) → decode_le texts.domain ≡ Ok domain →
    decode_le texts.user ≡ Ok user → decode_le texts.password ≡ Err error
    → utf16_refusal error ≡ bad_text → texts_of texts ≡ Err bad_text
unfolding texts_of
password_refused texts domain user error d u e f = rw (d, u, e, f) refl

pub texts_cases : (texts : Passwords) → ((buffers : AuthIdentityBuffers) × AreTextsOf texts buffers) ⊎
    (HasBadText texts × (texts_of texts ≡ Err bad_text))
texts_cases texts =
    elim (decoded texts.domain) [
      | inr (error, e, f) ↦ inr (inl (ap is_err e), domain_refused texts error e f)
      | inl (domain, d) ↦ elim (decoded texts.user) [
        | inr (error, e, f) ↦ inr (inr (inl (ap is_err e)), user_refused texts domain error d e f)
        | inl (user, u) ↦ elim (decoded texts.password) [
          | inr (error, e, f) ↦ inr (inr (inr (ap is_err e)), password_refused texts domain user error d u e f)
          | inl (password, p) ↦ inl (buffers_with domain user password, record { domain_text = d; user_text = u; password_text = p })
        ]
      ]
    ]

no_error : {A E : Type 0} (r : Result A E) (x : A) → r ≡ Ok x → IsErr r → ⊥
no_error (Ok y) x e f = cc
no_error (Err error) x e f = cc

not_bad : (texts : Passwords) (buffers : AuthIdentityBuffers) → AreTextsOf texts buffers → HasBadText texts → ⊥
not_bad texts buffers t (inl e) = no_error (decode_le texts.domain) buffers.domain t.domain_text e
not_bad texts buffers t (inr (inl e)) = no_error (decode_le texts.user) buffers.user t.user_text e
not_bad texts buffers t (inr (inr e)) = no_error (decode_le texts.password) buffers.password.value t.password_text e

bad_answer : (texts : Passwords) → HasBadText texts → texts_of texts ≡ Err bad_text
bad_answer texts h =
    elim (texts_cases texts) [
      | inl (buffers, t) ↦ absurd (not_bad texts buffers t h)
      | inr (bad, e) ↦ e
    ]

-- ---- the answer of each form

abbrev IsSmartCard : List ℕ → Type 0
IsSmartCard text = (credentials : List ℕ) × IsCredsOfType 2 text credentials

abbrev IsUnknown : List ℕ → Type 0
IsUnknown text = (cred_type credentials : List ℕ) × IsCreds text cred_type credentials × IsOtherType cred_type

abbrev IsBadText : List ℕ → Type 0
IsBadText text = (credentials : List ℕ) × (texts : Passwords) × IsCredsOfType 1 text credentials × IsPasswordCreds credentials texts ×
    HasBadText texts

password_answer : (text credentials : List ℕ) → IsCredsOfType 1 text credentials → creds_of text ≡ by_passwords credentials
password_answer text credentials (more, t) = creds_answer text (1 ∷ more) credentials t

pub password_read : (text : List ℕ) (buffers : AuthIdentityBuffers) → StandsFor text buffers →
    creds_of text ≡ Ok (buffered.AuthIdentity buffers)
password_read text buffers t =
    password_answer text t.credentials t.creds_is ∙ passwords_answer t.credentials t.texts t.passwords_is ∙ texts_answer t.texts buffers
    t.texts_are

pub smart_card_refused : (text : List ℕ) → IsSmartCard text → creds_of text ≡ Err smart_card
smart_card_refused text (credentials, (more, t)) = creds_answer text (2 ∷ more) credentials t

pub unknown_refused : (text : List ℕ) → IsUnknown text → creds_of text ≡ Err unknown_type
unknown_refused text (cred_type, credentials, t, h) =
    creds_answer text cred_type credentials t ∙ ap (λ (r : Result (Unit {0}) Error). r and_then λ known. by_passwords credentials)
    (other_refused cred_type h)

no_creds_refused : (text : List ℕ) → IsNoCreds text → creds_of text ≡ Err malformed
no_creds_refused text none =
    elim (found text) [
      | inl (cred_type, credentials, t) ↦ absurd (none cred_type credentials t)
      | inr (lacks, e) ↦ e
    ]

lacking_refused : (text credentials : List ℕ) → IsCredsOfType 1 text credentials →
    ((texts : Passwords) → ¬ IsPasswordCreds credentials texts) → creds_of text ≡ Err malformed
lacking_refused text credentials t none =
    elim (found_passwords credentials) [
      | inl (texts, p) ↦ absurd (none texts p)
      | inr (lacks, e) ↦ password_answer text credentials t ∙ e
    ]

pub malformed_refused : (text : List ℕ) → (IsNoCreds text ⊎ LacksPasswords text) → creds_of text ≡ Err malformed
malformed_refused text (inl none) = no_creds_refused text none
malformed_refused text (inr (credentials, t, none)) = lacking_refused text credentials t none

pub bad_text_refused : (text : List ℕ) → IsBadText text → creds_of text ≡ Err bad_text
bad_text_refused text (credentials, texts, t, p, h) = password_answer text credentials t ∙ passwords_answer credentials texts p ∙
    bad_answer texts h

-- ---- each text has one of these forms

pub data Form (text : List ℕ) : Type 0 where
  malformed_form : (IsNoCreds text ⊎ LacksPasswords text) → Form text
  unknown_form : IsUnknown text → Form text
  smart_card_form : IsSmartCard text → Form text
  bad_text_form : IsBadText text → Form text
  stands_form : (buffers : AuthIdentityBuffers) → StandsFor text buffers → Form text

with_texts : (text credentials : List ℕ) (texts : Passwords) → IsCredsOfType 1 text credentials → IsPasswordCreds credentials texts →
    Form text
with_texts text credentials texts t p =
    elim (texts_cases texts) [
      | inl (buffers, u) ↦ stands_form buffers (record {
        credentials = credentials;
        texts = texts;
        creds_is = t;
        passwords_is = p;
        texts_are = u;
      })
      | inr (bad, e) ↦ bad_text_form (credentials, texts, t, p, bad)
    ]

with_creds : (text credentials : List ℕ) → IsCredsOfType 1 text credentials → Form text
with_creds text credentials t =
    elim (found_passwords credentials) [
      | inl (texts, p) ↦ with_texts text credentials texts t p
      | inr (none, e) ↦ malformed_form (inr (credentials, t, none))
    ]

with_type : (text cred_type credentials : List ℕ) → IsCreds text cred_type credentials → Form text
with_type text cred_type credentials t =
    elim (type_cases cred_type) [
      | inl (more, e) ↦ with_creds text credentials (more, subst (λ (l : List ℕ). IsCreds text l credentials) e t)
      | inr (inl (more, e)) ↦ smart_card_form (credentials, (more, subst (λ (l : List ℕ). IsCreds text l credentials) e t))
      | inr (inr other) ↦ unknown_form (cred_type, credentials, t, other)
    ]

pub form_of : (text : List ℕ) → Form text
form_of text =
    elim (found text) [
      | inl (cred_type, credentials, t) ↦ with_type text cred_type credentials t
      | inr (none, e) ↦ malformed_form (inl none)
    ]

-- ---- so each answer has its form

-- two refusals of a text are the same
one_refusal : (text : List ℕ) (d e : Error) → creds_of text ≡ Err d → creds_of text ≡ Err e → d ≡ e
one_refusal text d e f g = cc

-- so they have the same description
descriptions : (text : List ℕ) (d e : Error) → creds_of text ≡ Err d → creds_of text ≡ Err e → d.description ≡ e.description
descriptions text d e f g = ap (λ (x : Error). x.description) (one_refusal text d e f g)

pub password_stands : (text : List ℕ) (buffers : AuthIdentityBuffers) → creds_of text ≡ Ok (buffered.AuthIdentity buffers) →
    StandsFor text buffers
password_stands text buffers e = by_form (form_of text)
  where
    by_form : Form text → StandsFor text buffers
    by_form (malformed_form h) = let f = malformed_refused text h in absurd cc
    by_form (unknown_form h) = let f = unknown_refused text h in absurd cc
    by_form (smart_card_form h) = let f = smart_card_refused text h in absurd cc
    by_form (bad_text_form h) = let f = bad_text_refused text h in absurd cc
    by_form (stands_form others h) = let f = password_read text others h in let same : others ≡ buffers =
        cc in subst (StandsFor text) same h

pub keytab_never : (text : List ℕ) (keytab : KeytabIdentity) → ¬ (creds_of text ≡ Ok (buffered.Keytab keytab))
keytab_never text keytab e = by_form (form_of text)
  where
    by_form : Form text → ⊥
    by_form (malformed_form h) = let f = malformed_refused text h in cc
    by_form (unknown_form h) = let f = unknown_refused text h in cc
    by_form (smart_card_form h) = let f = smart_card_refused text h in cc
    by_form (bad_text_form h) = let f = bad_text_refused text h in cc
    by_form (stands_form others h) = let f = password_read text others h in cc

pub smart_card_is : (text : List ℕ) → creds_of text ≡ Err smart_card → IsSmartCard text
smart_card_is text e = by_form (form_of text)
  where
    by_form : Form text → IsSmartCard text
    by_form (malformed_form h) = let d = descriptions text malformed smart_card (malformed_refused text h) e in absurd cc
    by_form (unknown_form h) = let d = descriptions text unknown_type smart_card (unknown_refused text h) e in absurd cc
    by_form (smart_card_form h) = h
    by_form (bad_text_form h) = let d = descriptions text bad_text smart_card (bad_text_refused text h) e in absurd cc
    by_form (stands_form others h) = let f = password_read text others h in absurd cc

pub unknown_is : (text : List ℕ) → creds_of text ≡ Err unknown_type → IsUnknown text
unknown_is text e = by_form (form_of text)
  where
    by_form : Form text → IsUnknown text
    by_form (malformed_form h) = let d = descriptions text malformed unknown_type (malformed_refused text h) e in absurd cc
    by_form (unknown_form h) = h
    by_form (smart_card_form h) = let d = descriptions text smart_card unknown_type (smart_card_refused text h) e in absurd cc
    by_form (bad_text_form h) = let d = descriptions text bad_text unknown_type (bad_text_refused text h) e in absurd cc
    by_form (stands_form others h) = let f = password_read text others h in absurd cc

pub malformed_is : (text : List ℕ) → creds_of text ≡ Err malformed → IsNoCreds text ⊎ LacksPasswords text
malformed_is text e = by_form (form_of text)
  where
    by_form : Form text → IsNoCreds text ⊎ LacksPasswords text
    by_form (malformed_form h) = h
    by_form (unknown_form h) = let d = descriptions text unknown_type malformed (unknown_refused text h) e in absurd cc
    by_form (smart_card_form h) = let d = descriptions text smart_card malformed (smart_card_refused text h) e in absurd cc
    by_form (bad_text_form h) = let d = descriptions text bad_text malformed (bad_text_refused text h) e in absurd cc
    by_form (stands_form others h) = let f = password_read text others h in absurd cc

pub bad_text_is : (text : List ℕ) → creds_of text ≡ Err bad_text → IsBadText text
bad_text_is text e = by_form (form_of text)
  where
    by_form : Form text → IsBadText text
    by_form (malformed_form h) = let d = descriptions text malformed bad_text (malformed_refused text h) e in absurd cc
    by_form (unknown_form h) = let d = descriptions text unknown_type bad_text (unknown_refused text h) e in absurd cc
    by_form (smart_card_form h) = let d = descriptions text smart_card bad_text (smart_card_refused text h) e in absurd cc
    by_form (bad_text_form h) = h
    by_form (stands_form others h) = let f = password_read text others h in absurd cc

abbrev IsListed : Error → Type 0
IsListed error = (error ≡ malformed) ⊎ (error ≡ unknown_type) ⊎ (error ≡ smart_card) ⊎ (error ≡ bad_text)

pub refusal_listed : (text : List ℕ) (error : Error) → creds_of text ≡ Err error → IsListed error
refusal_listed text error e = by_form (form_of text)
  where
    by_form : Form text → IsListed error
    by_form (malformed_form h) = inl (one_refusal text error malformed e (malformed_refused text h))
    by_form (unknown_form h) = inr (inl (one_refusal text error unknown_type e (unknown_refused text h)))
    by_form (smart_card_form h) = inr (inr (inl (one_refusal text error smart_card e (smart_card_refused text h))))
    by_form (bad_text_form h) = inr (inr (inr (one_refusal text error bad_text e (bad_text_refused text h))))
    by_form (stands_form others h) = let f = password_read text others h in absurd cc

-- ---- at most one

pub one_creds : (text cred_type credentials other_type other : List ℕ) → IsCreds text cred_type credentials → IsCreds text other_type other
    → (cred_type ≡ other_type) × (credentials ≡ other)
one_creds text cred_type credentials other_type other t u =
    let outer = both_are t.content u.content t.behind u.behind
    (sym (whole_again text cred_type credentials t) ∙ whole_again text other_type other u) in
    let first : Fields = record { cred_type = cred_type; credentials = credentials } in
    let second : Fields = record { cred_type = other_type; credentials = other } in
    let same = both_are first second t.left u.left (sym (fields_again text cred_type credentials t) ∙ ap fields_at outer.0 ∙ fields_again
    text other_type other u) in
    (ap (λ (f : Fields). f.cred_type) same.0, ap (λ (f : Fields). f.credentials) same.0)

pub one_passwords : (text : List ℕ) (texts other : Passwords) → IsPasswordCreds text texts → IsPasswordCreds text other → texts ≡ other
one_passwords text texts other t u = (both_are texts other t.behind u.behind
    (sym (passwords_again text texts t) ∙ passwords_again text other u)).0

pub one_identity : (text : List ℕ) (buffers other : AuthIdentityBuffers) → StandsFor text buffers → StandsFor text other → buffers ≡ other
one_identity text buffers other t u = let e = password_read text buffers t in let f = password_read text other u in cc

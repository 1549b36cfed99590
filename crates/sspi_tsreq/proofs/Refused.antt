-- What a fault of reading means to a reader of credentials.
use Rattle.std.proofs.Common.{◌≡◌, inl, inr, ℕ, [], ◌∷◌, Bool, true, false, cond, eqb, List, Option, None, Some, Result, Ok, Err}
use Rattle.std.proofs.Common.{refl, sym, ap, ◌∙◌, subst, Vec, Global}
use Rattle.sspi_types.specs.declared.error.Error.{Error}
use Rattle.sspi_types.specs.Errors.{memory_error}
use Rattle.sspi_ber.specs.declared.wire_kind.WireKind.{WireKind}
use Rattle.sspi_ber.specs.declared.wire_kind.WireKind.TheVariants.{UnexpectedEof, InvalidData, ReadFault, WriteFault, InsufficientMemory}
use Rattle.sspi_ber.specs.Pieces.{Fault, Ended, Invalid, Read, ◌>>=◌, header_at, bytes_at, element_at}
use Rattle.sspi_ber.specs.Outside.{Answers, CopyCause, Gives, NeedsNoMemory, Reads, ReadCause}
use Rattle.sspi_types.specs.declared.error_kind.ErrorKind.TheVariants.{InternalError}
use Rattle.std.specs.Result.{IfErr}
use Rattle.sspi_names.specs.Utf16.{bad_text, utf16_refusal}
use Rattle.sspi_names.specs.Utf16.{decode_le}
use Rattle.sspi_names.specs.declared.error.Utf16Error.{Utf16Error}
use Rattle.sspi_names.specs.declared.error.Utf16Error.TheVariants as utf16
use Rattle.sspi_ber.proofs.Match.{both_are}
use Rattle.sspi_names.specs.declared.identity.AuthIdentityBuffers.{AuthIdentityBuffers}
use Rattle.sspi_names.specs.declared.credentials.CredentialsBuffers.{CredentialsBuffers}
use Rattle.sspi_names.specs.declared.credentials.CredentialsBuffers.TheVariants as buffered
use Rattle.sspi_tsreq.specs.Creds.{Passwords, malformed, unknown_type, smart_card, spelled_or_malformed, ◌and_then◌, creds_of}
use Rattle.sspi_tsreq.specs.Creds.{creds_in, fields_at, passwords_at, password_type, texts_of, text_or_refused}
use Rattle.sspi_tsreq.specs.CredsAnswers.{IsCredsRefusal, IsOrMemory, ReadsCreds, CredsCause}
use Rattle.sspi_tsreq.specs.CredsReading.{refusal_by}
use Rattle.sspi_tsreq.specs.CredsGrammar.{IsCreds}
use Rattle.sspi_tsreq.proofs.CredsAre.{password_stands, keytab_never}
use Rattle.sspi_tsreq.proofs.CredsMatch.{whole_again}

refused_at : {A : Type 0} (read : Read A) (fault : Fault) → read ≡ Err fault → spelled_or_malformed read ≡ Err malformed
refused_at read fault e = ap spelled_or_malformed e

-- over a slice, each fault is that of a malformed structure
pub refused : {X A : Type 0} (view : X → A) (after : List ℕ) (kind : WireKind) (read : Read A)
    → Gives view after (Err kind) read → NeedsNoMemory {X = X} (Err kind) → spelled_or_malformed read ≡ Err malformed
refused view after UnexpectedEof read g m = refused_at read Ended g
refused view after InvalidData read g m = refused_at read Invalid g
refused view after ReadFault read g m = absurd g
refused view after WriteFault read g m = absurd g
refused view after InsufficientMemory read g m = absurd m

-- the cause of a refusal by a fault of copying
pub copy_cause : (X : Type 0) (kind : WireKind) (f g : ℕ) → CopyCause {X = X} f g (Err kind) →
    CredsCause {X = CredentialsBuffers} f g (Err (refusal_by kind))
copy_cause X UnexpectedEof f g c = (λ e. absurd cc, λ other. c)
copy_cause X InvalidData f g c = (λ e. absurd cc, λ other. c)
copy_cause X ReadFault f g c = (λ e. c.1, λ other. absurd (other refl))
copy_cause X WriteFault f g c = absurd c
copy_cause X InsufficientMemory f g c = (λ e. absurd cc, λ other. c)

-- ---- the whole text

not_element : (text : List ℕ) (fault : Fault) → element_at 0x30 text ≡ Err fault → creds_of text ≡ Err malformed
unfolding creds_of
not_element text fault e = ap (λ r. spelled_or_malformed r and_then creds_in) e

-- the header is bad
header_faulty : (text : List ℕ) (fault : Fault) → header_at 0x30 text ≡ Err fault → creds_of text ≡ Err malformed
unfolding element_at
header_faulty text fault e = not_element text fault (ap (λ r. r >>= λ n. bytes_at n.0 n.1) e)

-- the content is not whole
content_faulty : (text rest : List ℕ) (n : ℕ) (fault : Fault) → header_at 0x30 text ≡ Ok (n, rest) → bytes_at n rest ≡ Err fault →
    creds_of text ≡ Err malformed
unfolding element_at
content_faulty text rest n fault e f = not_element text fault (ap (λ r. r >>= λ n. bytes_at n.0 n.1) e ∙ f)

element_read : (text rest body after : List ℕ) (n : ℕ) → header_at 0x30 text ≡ Ok (n, rest) → bytes_at n rest ≡ Ok (body, after) →
    element_at 0x30 text ≡ Ok (body, after)
unfolding element_at
element_read text rest body after n e f = ap (λ r. r >>= λ n. bytes_at n.0 n.1) e ∙ f

body_read : (text body after : List ℕ) → element_at 0x30 text ≡ Ok (body, after) → creds_of text ≡ creds_in body
unfolding creds_of
body_read text body after e = ap (λ r. spelled_or_malformed r and_then creds_in) e

header_kind : (text : List ℕ) (mid : Option (List ℕ)) (kind : WireKind) (f g : ℕ) →
    Reads {X = ℕ} (λ n. n) (Some text) mid (Err kind) (header_at 0x30)
    → ReadCause {X = ℕ} f g (Err kind) → ReadsCreds (Some text) mid (Err (refusal_by kind))
header_kind text mid UnexpectedEof f g r c = inl (header_faulty text Ended r)
header_kind text mid InvalidData f g r c = inl (header_faulty text Invalid r)
header_kind text mid ReadFault f g r c = inr (inr refl)
header_kind text mid WriteFault f g r c = absurd c
header_kind text mid InsufficientMemory f g r c = absurd c

pub header_refused : (before mid : Option (List ℕ)) (kind : WireKind) (f g : ℕ) →
    Reads {X = ℕ} (λ n. n) before mid (Err kind) (header_at 0x30)
    → ReadCause {X = ℕ} f g (Err kind) → ReadsCreds before mid (Err (refusal_by kind))
header_refused None mid kind f g r c = tt
header_refused (Some text) mid kind f g r c = header_kind text mid kind f g r c

-- the cause of a refusal by a fault of reading
pub refusal_cause : (X : Type 0) (kind : WireKind) (f g : ℕ) → ReadCause {X = X} f g (Err kind) →
    CredsCause {X = CredentialsBuffers} f g (Err (refusal_by kind))
refusal_cause X UnexpectedEof f g c = (λ e. absurd cc, λ other. c)
refusal_cause X InvalidData f g c = (λ e. absurd cc, λ other. c)
refusal_cause X ReadFault f g c = (λ e. c.1, λ other. absurd (other refl))
refusal_cause X WriteFault f g c = absurd c
refusal_cause X InsufficientMemory f g c = absurd c

content_kind : (text rest : List ℕ) (n : ℕ) (after : Option (List ℕ)) (kind : WireKind) (f g : ℕ) → header_at 0x30 text ≡ Ok (n, rest)
    → Reads {X = Vec ℕ Global} (λ b. b.items) (Some rest) after (Err kind) (bytes_at n) → CopyCause {X = Vec ℕ Global} f g (Err kind) →
    ReadsCreds (Some text) after (Err (refusal_by kind))
content_kind text rest n after UnexpectedEof f g e r c = inl (content_faulty text rest n Ended e r)
content_kind text rest n after InvalidData f g e r c = inl (content_faulty text rest n Invalid e r)
content_kind text rest n after ReadFault f g e r c = inr (inr refl)
content_kind text rest n after WriteFault f g e r c = absurd c
content_kind text rest n after InsufficientMemory f g e r c = inr (inl refl)

abbrev number_then : ℕ → List ℕ → Read ℕ
number_then n rest = Ok (n, rest)

abbrev block_then : List ℕ → List ℕ → Read (List ℕ)
block_then block rest = Ok (block, rest)

header_length : (read : Read ℕ) (mid : Option (List ℕ)) (n : ℕ) → (Answers (λ k. k) mid (Ok n) read) → (rest : List ℕ) ×
    (read ≡ Ok (n, rest)) × (mid ≡ Some rest)
header_length (Ok x) mid n h = (x.1, ap (λ k. number_then k x.1) (sym h.0), h.1)
header_length (Err fault) mid n h = absurd h

block_content : (read : Read (List ℕ)) (after : Option (List ℕ)) (body : Vec ℕ Global) →
    Answers (λ (b : Vec ℕ Global). b.items) after (Ok body) read → (rest : List ℕ) × (read ≡ Ok (body.items, rest)) × (after ≡ Some rest)
block_content (Ok x) after body h = (x.1, ap (λ b. block_then b x.1) (sym h.0), h.1)
block_content (Err fault) after body h = absurd h

-- the content after a header is not whole
pub content_refused : (before mid after : Option (List ℕ)) (n size : ℕ) (kind : WireKind) (f g : ℕ) → size ≡ n →
    Reads {X = ℕ} (λ k. k) before mid (Ok n) (header_at 0x30)
    → Reads {X = Vec ℕ Global} (λ b. b.items) mid after (Err kind) (bytes_at size) → CopyCause {X = Vec ℕ Global} f g (Err kind) →
    ReadsCreds before after (Err (refusal_by kind))
content_refused None mid after n size kind f g same h r c = tt
content_refused (Some text) mid after n size kind f g same h r c =
    let t = header_length (header_at 0x30 text) mid n h in
    content_kind text t.0 n after kind f g t.1
    (subst (λ k. Reads {X = Vec ℕ Global} (λ b. b.items) (Some t.0) after (Err kind) (bytes_at k)) same
    (subst (λ m. Reads {X = Vec ℕ Global} (λ b. b.items) m after (Err kind) (bytes_at size)) t.2 r)) c

-- what follows the SEQUENCE
behind_is : (text body rest cred_type credentials : List ℕ) → element_at 0x30 text ≡ Ok (body, rest) →
    (t : IsCreds text cred_type credentials) → t.behind ≡ rest
behind_is text body rest cred_type credentials e t = (both_are t.content body t.behind rest
    (sym (whole_again text cred_type credentials t) ∙ e)).1

buffers_stand : (text body rest : List ℕ) (after : Option (List ℕ)) (buffers : AuthIdentityBuffers) →
    element_at 0x30 text ≡ Ok (body, rest) → after ≡ Some rest → creds_of text ≡ Ok (buffered.AuthIdentity buffers)
    → ReadsCreds (Some text) after (Ok (buffered.AuthIdentity buffers))
buffers_stand text body rest after buffers e left is =
    let t = password_stands text buffers is in
    let creds = t.creds_is in
    (rest, (t, behind_is text body rest (1 ∷ creds.0) t.credentials e creds.1), left)

whole_answer : (text body rest : List ℕ) (after : Option (List ℕ)) (result : Result CredentialsBuffers Error) →
    element_at 0x30 text ≡ Ok (body, rest) → after ≡ Some rest
    → IsOrMemory (λ b. b) result (creds_in body) → ReadsCreds (Some text) after result
whole_answer text body rest after (Ok (buffered.AuthIdentity buffers)) e left h =
    buffers_stand text body rest after buffers e left (body_read text body rest e ∙ h)
whole_answer text body rest after (Ok (buffered.Keytab identity)) e left h = keytab_never text identity (body_read text body rest e ∙ h)
whole_answer text body rest after (Err error) e left (inl h) = inl (body_read text body rest e ∙ h)
whole_answer text body rest after (Err error) e left (inr h) = inr (inl h)

-- the content after a header is whole
pub content_answer : (before mid after : Option (List ℕ)) (n size : ℕ) (body : Vec ℕ Global) (result : Result CredentialsBuffers Error) →
    size ≡ n
    → Reads {X = ℕ} (λ k. k) before mid (Ok n) (header_at 0x30) →
    Reads {X = Vec ℕ Global} (λ b. b.items) mid after (Ok body) (bytes_at size)
    → IsOrMemory (λ b. b) result (creds_in body.items) → ReadsCreds before after result
content_answer None mid after n size body result same h r answer = tt
content_answer (Some text) mid after n size body result same h r answer =
    let t = header_length (header_at 0x30 text) mid n h in
    let s : Reads {X = Vec ℕ Global} (λ b. b.items) (Some t.0) after (Ok body) (bytes_at n) =
    subst (λ k. Reads {X = Vec ℕ Global} (λ b. b.items) (Some t.0) after (Ok body) (bytes_at k)) same
    (subst (λ m. Reads {X = Vec ℕ Global} (λ b. b.items) m after (Ok body) (bytes_at size)) t.2 r) in
    let u = block_content (bytes_at n t.0) after body s in
    whole_answer text body.items u.0 after result (element_read text t.0 body.items u.0 n t.1 u.1) u.2 answer

-- ---- what is true of each refusal is true of what reading answers

module _ (P : Error → Type 0) (of_malformed : P malformed) (of_type : P unknown_type) (of_card : P smart_card) (of_text : P bad_text)
    (of_memory : P memory_error) where
  then_refused : {A B : Type 0} (r : Result A Error) (next : A → Result B Error) (e : Error) → ((d : Error) → r ≡ Err d → P d)
      → ((x : A) → next x ≡ Err e → P e) → (r and_then next) ≡ Err e → P e
  then_refused (Ok x) next e first second is = second x is
  then_refused (Err d) next e first second is = let same : d ≡ e = cc in subst P same (first d refl)

  spelled_refused : {A : Type 0} (read : Read A) (d : Error) → spelled_or_malformed read ≡ Err d → P d
  spelled_refused (Ok x) d is = absurd cc
  spelled_refused (Err fault) d is = let same : malformed ≡ d = cc in subst P same of_malformed

  by_number : (one two : Bool) (d : Error) → cond {A = Result (Unit {0}) Error} one (Ok tt)
      (cond two (Err smart_card) (Err unknown_type)) ≡ Err d → P d
  by_number true two d is = absurd cc
  by_number false true d is = let same : smart_card ≡ d = cc in subst P same of_card
  by_number false false d is = let same : unknown_type ≡ d = cc in subst P same of_type

  type_refused : (content : List ℕ) (d : Error) → password_type content ≡ Err d → P d
  type_refused [] d is = let same : unknown_type ≡ d = cc in subst P same of_type
  type_refused (number ∷ rest) d is = by_number (eqb number 1) (eqb number 2) d is

  text_refused : (r : Result (List ℕ) Utf16Error) (d : Error) → text_or_refused r ≡ Err d → P d
  text_refused (Ok units) d is = absurd cc
  text_refused (Err utf16.OddLength) d is = let same : utf16_refusal utf16.OddLength ≡ d = cc in subst P same of_text
  text_refused (Err utf16.UnpairedSurrogate) d is = let same : utf16_refusal utf16.UnpairedSurrogate ≡ d = cc in subst P same of_text
  text_refused (Err utf16.InsufficientMemory) d is = let same : utf16_refusal utf16.InsufficientMemory ≡ d = cc in subst P same of_memory

  texts_refused : (p : Passwords) (d : Error) → texts_of p ≡ Err d → P d
  unfolding texts_of
  texts_refused p d is =
      then_refused (text_or_refused (decode_le p.domain)) _ d (text_refused (decode_le p.domain))
      (λ domain. then_refused (text_or_refused (decode_le p.user)) _ d (text_refused (decode_le p.user))
      (λ user. then_refused (text_or_refused (decode_le p.password)) _ d (text_refused (decode_le p.password)) (λ password e. absurd cc)))
      is

  pub each_refusal : (body : List ℕ) (d : Error) → creds_in body ≡ Err d → P d
  unfolding creds_in
  each_refusal body d is =
      then_refused (spelled_or_malformed (fields_at body)) _ d (spelled_refused (fields_at body))
      (λ fields. then_refused (password_type fields.cred_type) _ d (type_refused fields.cred_type)
      (λ known. then_refused (spelled_or_malformed (passwords_at fields.credentials)) _ d
      (spelled_refused (passwords_at fields.credentials)) (λ passwords. texts_refused passwords d))) is

-- ---- no refusal of what was read is an internal error

abbrev NotInternal : Error → Type 0
NotInternal e = e.error_type ≡ InternalError → ⊥

creds_external : (body : List ℕ) (d : Error) → creds_in body ≡ Err d → NotInternal d
creds_external = each_refusal NotInternal (λ e. cc) (λ e. cc) (λ e. cc) (λ e. cc) (λ e. cc)

memory_external : NotInternal memory_error
memory_external e = cc

-- what was read whole was read with no fault
pub content_cause : (f g h : ℕ) (body : List ℕ) (result : Result CredentialsBuffers Error) → g ≡ f → h ≡ g →
    IsOrMemory (λ b. b) result (creds_in body) → CredsCause f h result
content_cause f g h body (Ok b) p q answer = q ∙ p
content_cause f g h body (Err error) p q (inl answer) = (λ e. absurd (creds_external body error answer e), λ other. q ∙ p)
content_cause f g h body (Err error) p q (inr answer) =
    (λ e. absurd (subst NotInternal (sym answer) memory_external e), λ other. q ∙ p)

-- ---- the refusals are those of the list

memory_listed : IsCredsRefusal memory_error
memory_listed = inr (inr (inr (inr (inl refl))))

-- a fault of reading
pub fault_listed : (kind : WireKind) → IsCredsRefusal (refusal_by kind)
fault_listed UnexpectedEof = inl refl
fault_listed InvalidData = inl refl
fault_listed ReadFault = inr (inr (inr (inr (inr refl))))
fault_listed WriteFault = inr (inr (inr (inr (inr refl))))
fault_listed InsufficientMemory = memory_listed

creds_listed : (body : List ℕ) (d : Error) → creds_in body ≡ Err d → IsCredsRefusal d
creds_listed = each_refusal IsCredsRefusal (inl refl) (inr (inl refl)) (inr (inr (inl refl))) (inr (inr (inr (inl refl)))) memory_listed

-- what was read whole
pub content_listed : (body : List ℕ) (result : Result CredentialsBuffers Error) → IsOrMemory (λ b. b) result (creds_in body) →
    IfErr result IsCredsRefusal
content_listed body (Ok b) answer = tt
content_listed body (Err error) (inl answer) = creds_listed body error answer
content_listed body (Err error) (inr answer) = subst IsCredsRefusal (sym answer) memory_listed

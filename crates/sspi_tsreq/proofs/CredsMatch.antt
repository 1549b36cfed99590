-- Each reader of credentials agrees with its form.
use Rattle.std.proofs.Common.{◌≡◌, ℕ, List, ◌++◌, Ok, ap, ◌∙◌, subst}
use Rattle.sspi_ber.specs.Pieces.{Read, ◌>>=◌, element_at}
use Rattle.sspi_ber.specs.Forms.{IsElement}
use Rattle.sspi_ber.proofs.Match.{Matches, bind_ok, both_are}
use Rattle.sspi_ber.proofs.PiecesMatch.{element_match}
use Rattle.sspi_tsreq.specs.Creds.{Fields, Passwords, octets_in, fields_at, passwords_at}
use Rattle.sspi_tsreq.specs.CredsGrammar.{IsFieldOf, IsOctetsIn, IsPasswordCreds, IsCreds}
use Rattle.sspi_tsreq.proofs.FieldsMatch.{Bare}

-- ---- a field with an OCTET STRING

abbrev inside : List ℕ → List ℕ × List ℕ → Read (List ℕ)
inside after content = Ok (content.0, after)

abbrev in_field : ℕ → List ℕ × List ℕ → Read (List ℕ)
in_field inner field = element_at inner field.0 >>= inside field.1

octets_takes : (tag : ℕ) (bytes x rest : List ℕ) → octets_in tag bytes ≡ Ok (x, rest) → (text : List ℕ) × IsOctetsIn tag text x ×
    (bytes ≡ text ++ rest)
unfolding octets_in
octets_takes tag bytes x rest e =
    let outer = bind_ok (element_at tag bytes) (in_field 0x04) (x, rest) e in
    let within = bind_ok (element_at 0x04 outer.0.0) (inside outer.0.1) (x, rest) outer.2 in
    let same = both_are within.0.0 x outer.0.1 rest within.2 in
    let t = (element_match tag).takes bytes outer.0.0 outer.0.1 outer.1 in
    let u = (element_match 0x04).takes outer.0.0 within.0.0 within.0.1 within.1 in (
      t.0,
      record {
        field = outer.0.0;
        element = u.0;
        left = within.0.1;
        field_is = t.1;
        parts = u.2;
        element_is = subst (IsElement 0x04 u.0) same.0 u.1;
      },
      t.2 ∙ ap (λ (l : List ℕ). t.0 ++ l) same.1,
    )

-- the element inside a field
within_again : (tag inner : ℕ) (text content : List ℕ) (t : IsFieldOf tag inner text content) →
    element_at inner t.field ≡ Ok (content, t.left)
within_again tag inner text content t = ap (element_at inner) t.parts ∙ (element_match inner).again t.element content t.left t.element_is

octets_again : (tag : ℕ) (text x rest : List ℕ) → IsOctetsIn tag text x → octets_in tag (text ++ rest) ≡ Ok (x, rest)
unfolding octets_in
octets_again tag text x rest t =
    ap (λ (r : Read (List ℕ)). r >>= in_field 0x04) ((element_match tag).again text t.field rest t.field_is)
    ∙ ap (λ (r : Read (List ℕ)). r >>= inside rest) (within_again tag 0x04 text x t)

octets_match : (tag : ℕ) → Matches (octets_in tag) (Bare (IsOctetsIn tag))
octets_match tag = record { takes = octets_takes tag; again = octets_again tag }

-- ---- TSPasswordCreds

abbrev three_texts : List ℕ → List ℕ → List ℕ → Passwords
three_texts domain user password = record { domain = domain; user = user; password = password }

abbrev with_password : List ℕ → List ℕ → List ℕ → List ℕ × List ℕ → Read Passwords
with_password after domain user password = Ok (three_texts domain user password.0, after)

abbrev with_user : List ℕ → List ℕ → List ℕ × List ℕ → Read Passwords
with_user after domain user = octets_in 0xA2 user.1 >>= with_password after domain user.0

abbrev with_domain : List ℕ → List ℕ × List ℕ → Read Passwords
with_domain after domain = octets_in 0xA1 domain.1 >>= with_user after domain.0

abbrev in_sequence : List ℕ × List ℕ → Read Passwords
in_sequence body = octets_in 0xA0 body.0 >>= with_domain body.1

pub passwords_take : (bytes : List ℕ) (texts : Passwords) (rest : List ℕ) → passwords_at bytes ≡ Ok (texts, rest) →
    IsPasswordCreds bytes texts
unfolding passwords_at
passwords_take bytes texts rest e =
    let body = bind_ok (element_at 0x30 bytes) in_sequence (texts, rest) e in
    let d = bind_ok (octets_in 0xA0 body.0.0) (with_domain body.0.1) (texts, rest) body.2 in
    let u = bind_ok (octets_in 0xA1 d.0.1) (with_user body.0.1 d.0.0) (texts, rest) d.2 in
    let p = bind_ok (octets_in 0xA2 u.0.1) (with_password body.0.1 d.0.0 u.0.0) (texts, rest) u.2 in
    let same = both_are (three_texts d.0.0 u.0.0 p.0.0) texts body.0.1 rest p.2 in
    let outer = (element_match 0x30).takes bytes body.0.0 body.0.1 body.1 in
    let domain = (octets_match 0xA0).takes body.0.0 d.0.0 d.0.1 d.1 in
    let user = (octets_match 0xA1).takes d.0.1 u.0.0 u.0.1 u.1 in
    let password = (octets_match 0xA2).takes u.0.1 p.0.0 p.0.1 p.1 in
    subst (IsPasswordCreds bytes) same.0 (record {
      sequence = outer.0;
      behind = body.0.1;
      content = body.0.0;
      domain = domain.0;
      user = user.0;
      password = password.0;
      left = p.0.1;
      parts = outer.2;
      sequence_is = outer.1;
      fields = domain.2 ∙ ap (λ (l : List ℕ). domain.0 ++ l) (user.2 ∙ ap (λ (l : List ℕ). user.0 ++ l) password.2);
      domain_is = domain.1;
      user_is = user.1;
      password_is = password.1;
    })

pub passwords_again : (bytes : List ℕ) (texts : Passwords) (t : IsPasswordCreds bytes texts) → passwords_at bytes ≡ Ok (texts, t.behind)
unfolding passwords_at
passwords_again bytes texts t =
    ap (λ (l : List ℕ). element_at 0x30 l >>= in_sequence) t.parts
    ∙ ap (λ (r : Read (List ℕ)). r >>= in_sequence) ((element_match 0x30).again t.sequence t.content t.behind t.sequence_is)
    ∙ ap (λ (l : List ℕ). octets_in 0xA0 l >>= with_domain t.behind) t.fields
    ∙ ap (λ (r : Read (List ℕ)). r >>= with_domain t.behind)
    (octets_again 0xA0 t.domain texts.domain (t.user ++ (t.password ++ t.left)) t.domain_is)
    ∙ ap (λ (r : Read (List ℕ)). r >>= with_user t.behind texts.domain)
    (octets_again 0xA1 t.user texts.user (t.password ++ t.left) t.user_is)
    ∙ ap (λ (r : Read (List ℕ)). r >>= with_password t.behind texts.domain texts.user)
    (octets_again 0xA2 t.password texts.password t.left t.password_is)

-- ---- TSCredentials

abbrev two_fields : List ℕ → List ℕ → Fields
two_fields cred_type credentials = record { cred_type = cred_type; credentials = credentials }

abbrev with_octets : List ℕ → List ℕ × List ℕ → Read Fields
with_octets cred_type octets = Ok (two_fields cred_type octets.0, octets.1)

abbrev with_number : List ℕ → List ℕ × List ℕ → Read Fields
with_number after number = octets_in 0xA1 after >>= with_octets number.0

abbrev with_field : List ℕ × List ℕ → Read Fields
with_field field = element_at 0x02 field.0 >>= with_number field.1

pub fields_take : (text body behind : List ℕ) (f : Fields) (left : List ℕ) → element_at 0x30 text ≡ Ok (body, behind) →
    fields_at body ≡ Ok (f, left) → IsCreds text f.cred_type f.credentials
unfolding fields_at
fields_take text body behind f left whole e =
    let a = bind_ok (element_at 0xA0 body) with_field (f, left) e in
    let b = bind_ok (element_at 0x02 a.0.0) (with_number a.0.1) (f, left) a.2 in
    let c = bind_ok (octets_in 0xA1 a.0.1) (with_octets b.0.0) (f, left) b.2 in
    let same = both_are (two_fields b.0.0 c.0.0) f c.0.1 left c.2 in
    let outer = (element_match 0x30).takes text body behind whole in
    let field = (element_match 0xA0).takes body a.0.0 a.0.1 a.1 in
    let number = (element_match 0x02).takes a.0.0 b.0.0 b.0.1 b.1 in
    let octets = (octets_match 0xA1).takes a.0.1 c.0.0 c.0.1 c.1 in
    subst (λ (g : Fields). IsCreds text g.cred_type g.credentials) same.0 (record {
      sequence = outer.0;
      behind = behind;
      content = body;
      number = field.0;
      octets = octets.0;
      left = c.0.1;
      parts = outer.2;
      sequence_is = outer.1;
      fields = field.2 ∙ ap (λ (l : List ℕ). field.0 ++ l) octets.2;
      type_is = record { field = a.0.0; element = number.0; left = b.0.1; field_is = field.1; parts = number.2; element_is = number.1 };
      credentials_is = octets.1;
    })

pub whole_again : (text cred_type credentials : List ℕ) (t : IsCreds text cred_type credentials) →
    element_at 0x30 text ≡ Ok (t.content, t.behind)
whole_again text cred_type credentials t = ap (element_at 0x30) t.parts ∙
    (element_match 0x30).again t.sequence t.content t.behind t.sequence_is

pub fields_again : (text cred_type credentials : List ℕ) (t : IsCreds text cred_type credentials) →
    fields_at t.content ≡ Ok (two_fields cred_type credentials, t.left)
unfolding fields_at
fields_again text cred_type credentials t =
    ap (λ (l : List ℕ). element_at 0xA0 l >>= with_field) t.fields
    ∙ ap (λ (r : Read (List ℕ)). r >>= with_field) ((element_match 0xA0).again t.number t.type_is.field
    (t.octets ++ t.left) t.type_is.field_is)
    ∙ ap (λ (r : Read (List ℕ)). r >>= with_number (t.octets ++ t.left)) (within_again 0xA0 0x02 t.number cred_type t.type_is)
    ∙ ap (λ (r : Read (List ℕ)). r >>= with_octets cred_type) (octets_again 0xA1 t.octets credentials t.left t.credentials_is)

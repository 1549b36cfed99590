-- The readers of the tokens agree with the grammar.
use Rattle.std.proofs.Common.{◌≡◌, ℕ, true, cond, List, ◌++◌, Option, Some, Ok, Err, refl, sym, ap, ◌∙◌, subst, append_assoc}
use lib.Pointwise.{bytes_decides}
use Rattle.std.specs.Str.{bytes_eq}
use Rattle.sspi_ber.specs.Pieces.{Invalid, Read, ◌>>=◌, element_at}
use Rattle.sspi_ber.specs.Forms.{IsElement}
use Rattle.sspi_ber.proofs.Match.{Matches, Matches-then, Matches-map, Matches-if, Matches-same, Then, Mapped, read_of, changed}
use Rattle.sspi_ber.proofs.PiecesMatch.{element_match}
use Rattle.sspi_tokens.specs.Oids.{spnego}
use Rattle.sspi_tokens.specs.Nested.{Begins, IsAround, IsWhole, IsOptional, InOrder}
use Rattle.sspi_tokens.specs.Grammar.{IsOids, IsMechTypes, IsOctets, IsInitFields, IsInitContent}
use Rattle.sspi_tokens.specs.Grammar.{IsInit, result_of, IsResult, IsTargFields, IsTarg}
use Rattle.sspi_tokens.specs.Reading.{around_at, optional_at, oids_at, mech_types_at, octets_at, init_fields_at}
use Rattle.sspi_tokens.specs.Reading.{init_content_at, init_at, result_at, targ_fields_at, targ_at, value_of}
use Rattle.sspi_tokens.specs.declared.neg_result.NegResult.{NegResult}
use Rattle.sspi_tokens.specs.declared.neg_token_init.NegTokenInit.{NegTokenInit}
use Rattle.sspi_tokens.specs.declared.neg_token_targ.NegTokenTarg.{NegTokenTarg}
use Rattle.sspi_tokens.proofs.NestedMatch.{around_match, optional_match, element_begins, around_begins, oids_match}

-- ---- four readers in a row, whose values make up one value

module _ {A B C D T : Type 0} (f : Option A → Option B → Option C → Option D → T)
    (p : List ℕ → Read (Option A)) (q : List ℕ → Read (Option B)) (r : List ℕ → Read (Option C)) (s : List ℕ → Read (Option D))
    (F : List ℕ → Option A → List ℕ → Type 0) (G : List ℕ → Option B → List ℕ → Type 0) (H : List ℕ → Option C → List ℕ → Type 0)
    (K : List ℕ → Option D → List ℕ → Type 0) where
  abbrev last_at : Option A → Option B → Option C → List ℕ → Read T
  last_at a b c bytes = s bytes >>= changed (f a b c)

  abbrev third_at : Option A → Option B → List ℕ → Read T
  third_at a b bytes = r bytes >>= λ c. last_at a b c.0 c.1

  abbrev second_at : Option A → List ℕ → Read T
  second_at a bytes = q bytes >>= λ b. third_at a b.0 b.1

  abbrev row_at : List ℕ → Read T
  row_at bytes = p bytes >>= λ a. second_at a.0 a.1

  abbrev Last : Option A → Option B → Option C → List ℕ → T → List ℕ → Type 0
  Last a b c = Mapped (f a b c) K

  abbrev Third : Option A → Option B → List ℕ → T → List ℕ → Type 0
  Third a b = Then H (Last a b)

  abbrev Second : Option A → List ℕ → T → List ℕ → Type 0
  Second a = Then G (Third a)

  abbrev Row : List ℕ → T → List ℕ → Type 0
  Row = Then F Second

  -- the four in order, and the value that they make up
  abbrev pub Made : List ℕ → T → List ℕ → Type 0
  Made text x following = (a : Option A) × (b : Option B) × (c : Option C) × (d : Option D)
      × InOrder F G H K text a b c d following × (x ≡ f a b c d)

  made_to : (text : List ℕ) (x : T) (rest : List ℕ) → Row text x rest → Made text x rest
  made_to text x rest t =
      let u = t.second_is in
      let v = u.second_is in
      let w = v.second_is in
      let behind_third : v.second ++ rest ≡ v.second ++ rest = refl in
      let behind_second : u.second ++ rest ≡ v.first ++ (v.second ++ rest) = ap (λ (l : List ℕ). l ++ rest) v.parts
      ∙ append_assoc v.first v.second rest in
      let behind_first : t.second ++ rest ≡ u.first ++ (v.first ++ (v.second ++ rest)) =
      ap (λ (l : List ℕ). l ++ rest) u.parts ∙ append_assoc u.first u.second rest ∙ ap (λ (l : List ℕ). u.first ++ l) behind_second in (
        t.x,
        u.x,
        v.x,
        w.0,
        record {
          first = t.first;
          second = u.first;
          third = v.first;
          fourth = v.second;
          parts = t.parts ∙ ap (λ (l : List ℕ). t.first ++ l) (u.parts ∙ ap (λ (l : List ℕ). u.first ++ l) v.parts);
          first_is = subst (F t.first t.x) behind_first t.first_is;
          second_is = subst (G u.first u.x) behind_second u.first_is;
          third_is = v.first_is;
          fourth_is = w.1;
        },
        w.2,
      )

  made_from : (text : List ℕ) (x : T) (rest : List ℕ) → Made text x rest → Row text x rest
  made_from text x rest (a, b, c, d, t, e) =
      let behind_second : t.third ++ (t.fourth ++ rest) ≡ (t.third ++ t.fourth) ++ rest = sym (append_assoc t.third t.fourth rest) in
      let behind_first : t.second ++ (t.third ++ (t.fourth ++ rest)) ≡ (t.second ++ (t.third ++ t.fourth)) ++ rest =
      ap (λ (l : List ℕ). t.second ++ l) behind_second ∙ sym (append_assoc t.second (t.third ++ t.fourth) rest) in
      record {
        x = a;
        first = t.first;
        second = t.second ++ (t.third ++ t.fourth);
        parts = t.parts;
        first_is = subst (F t.first a) behind_first t.first_is;
        second_is = record {
          x = b;
          first = t.second;
          second = t.third ++ t.fourth;
          parts = refl;
          first_is = subst (G t.second b) behind_second t.second_is;
          second_is = record {
            x = c;
            first = t.third;
            second = t.fourth;
            parts = refl;
            first_is = t.third_is;
            second_is = (d, t.fourth_is, e);
          };
        };
      }

  pub row_match : Matches p F → Matches q G → Matches r H → Matches s K → Matches row_at Made
  row_match mp mq mr ms =
      Matches-same row_at Row Made made_to made_from
      (Matches-then p second_at F Second mp
      (λ a. Matches-then q (third_at a) G (Third a) mq
      (λ b. Matches-then r (last_at a b) H (Last a b) mr (λ c. Matches-map (f a b c) s K ms))))

-- ---- NegTokenInit

abbrev init_made : Option (List (List ℕ)) → Option (List ℕ) → Option (List ℕ) → Option (List ℕ) → NegTokenInit
init_made mech_types flags mech_token hints = record { mech_types = mech_types; mech_token = mech_token }

pub mech_types_match : Matches mech_types_at IsMechTypes
mech_types_match = around_match 0x30 oids_at IsOids oids_match

octets_match : (tag : ℕ) → Matches (octets_at tag) (IsOptional tag (IsOctets tag))
octets_match tag = optional_match tag (around_at tag (element_at 0x04)) (IsOctets tag) (around_begins tag (IsWhole 0x04))
    (around_match tag (element_at 0x04) (IsWhole 0x04) (element_match 0x04))

skipped_match : (tag : ℕ) → Matches (optional_at tag (element_at tag)) (IsOptional tag (IsWhole tag))
skipped_match tag = optional_match tag (element_at tag) (IsWhole tag) (element_begins tag) (element_match tag)

abbrev InitMade : List ℕ → NegTokenInit → List ℕ → Type 0
InitMade = Made init_made (optional_at 0xA0 (around_at 0xA0 mech_types_at)) (optional_at 0xA1 (element_at 0xA1)) (octets_at 0xA2)
    (optional_at 0xA3 (element_at 0xA3))
    (IsOptional 0xA0 (IsAround 0xA0 IsMechTypes)) (IsOptional 0xA1 (IsWhole 0xA1)) (IsOptional 0xA2 (IsOctets 0xA2))
    (IsOptional 0xA3 (IsWhole 0xA3))

init_to : (text : List ℕ) (token : NegTokenInit) (rest : List ℕ) → InitMade text token rest → IsInitFields text token rest
init_to text token rest (mech_types, flags, mech_token, hints, t, e) = subst (λ z. IsInitFields text z rest) (sym e) (flags, hints, t)

init_from : (text : List ℕ) (token : NegTokenInit) (rest : List ℕ) → IsInitFields text token rest → InitMade text token rest
init_from text token rest (flags, hints, t) = (token.mech_types, flags, token.mech_token, hints, t, refl)

init_fields_match : Matches init_fields_at IsInitFields
unfolding init_fields_at
init_fields_match =
    Matches-same init_fields_at InitMade IsInitFields init_to init_from
    (row_match init_made (optional_at 0xA0 (around_at 0xA0 mech_types_at)) (optional_at 0xA1 (element_at 0xA1)) (octets_at 0xA2)
    (optional_at 0xA3 (element_at 0xA3))
    (IsOptional 0xA0 (IsAround 0xA0 IsMechTypes)) (IsOptional 0xA1 (IsWhole 0xA1)) (IsOptional 0xA2 (IsOctets 0xA2))
    (IsOptional 0xA3 (IsWhole 0xA3))
    (optional_match 0xA0 (around_at 0xA0 mech_types_at) (IsAround 0xA0 IsMechTypes) (around_begins 0xA0 IsMechTypes)
    (around_match 0xA0 mech_types_at IsMechTypes mech_types_match))
    (skipped_match 0xA1) (octets_match 0xA2) (skipped_match 0xA3))

abbrev init_body_at : List ℕ → Read NegTokenInit
init_body_at = around_at 0xA0 (around_at 0x30 init_fields_at)

abbrev IsInitBody : List ℕ → NegTokenInit → List ℕ → Type 0
IsInitBody = IsAround 0xA0 (IsAround 0x30 IsInitFields)

init_body_match : Matches init_body_at IsInitBody
init_body_match = around_match 0xA0 (around_at 0x30 init_fields_at) (IsAround 0x30 IsInitFields)
    (around_match 0x30 init_fields_at IsInitFields init_fields_match)

abbrev tested_at : List ℕ → List ℕ → Read NegTokenInit
tested_at mech bytes = cond (bytes_eq mech spnego) (init_body_at bytes) (Err Invalid)

abbrev IsTested : List ℕ → List ℕ → NegTokenInit → List ℕ → Type 0
IsTested mech text token rest = (bytes_eq mech spnego ≡ true) × IsInitBody text token rest

content_to : (text : List ℕ) (token : NegTokenInit) (rest : List ℕ) → Then (IsWhole 0x06) IsTested text token rest →
    IsInitContent text token rest
content_to text token rest t = record {
  mech = t.first;
  body = t.second;
  parts = t.parts;
  mech_is = subst (IsElement 0x06 t.first) ((bytes_decides t.x spnego).0 t.second_is.0) t.first_is;
  body_is = t.second_is.1;
}

content_from : (text : List ℕ) (token : NegTokenInit) (rest : List ℕ) → IsInitContent text token rest →
    Then (IsWhole 0x06) IsTested text token rest
content_from text token rest t = record {
  x = spnego;
  first = t.mech;
  second = t.body;
  parts = t.parts;
  first_is = t.mech_is;
  second_is = ((bytes_decides spnego spnego).1 refl, t.body_is);
}

init_content_match : Matches init_content_at IsInitContent
unfolding init_content_at
init_content_match =
    Matches-same init_content_at (Then (IsWhole 0x06) IsTested) IsInitContent content_to content_from
    (Matches-then (element_at 0x06) tested_at (IsWhole 0x06) IsTested (element_match 0x06)
    (λ mech. Matches-if (bytes_eq mech spnego) Invalid init_body_at IsInitBody init_body_match))

pub init_match : Matches init_at IsInit
unfolding init_at
init_match = around_match 0x60 init_content_at IsInitContent init_content_match

-- ---- NegTokenTarg

abbrev targ_made : Option NegResult → Option (List ℕ) → Option (List ℕ) → Option (List ℕ) → NegTokenTarg
targ_made neg_result supported_mech response_token mech_list_mic =
    record { neg_result = neg_result; supported_mech = supported_mech; response_token = response_token; mech_list_mic = mech_list_mic }

result_match : Matches result_at IsResult
unfolding result_at
result_match = Matches-map result_of (element_at 0x0A) (IsWhole 0x0A) (element_match 0x0A)

abbrev TargMade : List ℕ → NegTokenTarg → List ℕ → Type 0
TargMade = Made targ_made (optional_at 0xA0 (around_at 0xA0 result_at)) (optional_at 0xA1 (around_at 0xA1 (element_at 0x06)))
    (octets_at 0xA2) (octets_at 0xA3)
    (IsOptional 0xA0 (IsAround 0xA0 IsResult)) (IsOptional 0xA1 (IsAround 0xA1 (IsWhole 0x06))) (IsOptional 0xA2 (IsOctets 0xA2))
    (IsOptional 0xA3 (IsOctets 0xA3))

targ_to : (text : List ℕ) (token : NegTokenTarg) (rest : List ℕ) → TargMade text token rest → IsTargFields text token rest
targ_to text token rest (neg_result, supported_mech, response_token, mech_list_mic, t, e) = subst (λ z. IsTargFields text z rest) (sym e) t

targ_from : (text : List ℕ) (token : NegTokenTarg) (rest : List ℕ) → IsTargFields text token rest → TargMade text token rest
targ_from text token rest t = (token.neg_result, token.supported_mech, token.response_token, token.mech_list_mic, t, refl)

targ_fields_match : Matches targ_fields_at IsTargFields
unfolding targ_fields_at
targ_fields_match =
    Matches-same targ_fields_at TargMade IsTargFields targ_to targ_from
    (row_match targ_made (optional_at 0xA0 (around_at 0xA0 result_at)) (optional_at 0xA1 (around_at 0xA1 (element_at 0x06)))
    (octets_at 0xA2) (octets_at 0xA3)
    (IsOptional 0xA0 (IsAround 0xA0 IsResult)) (IsOptional 0xA1 (IsAround 0xA1 (IsWhole 0x06))) (IsOptional 0xA2 (IsOctets 0xA2))
    (IsOptional 0xA3 (IsOctets 0xA3))
    (optional_match 0xA0 (around_at 0xA0 result_at) (IsAround 0xA0 IsResult) (around_begins 0xA0 IsResult)
    (around_match 0xA0 result_at IsResult result_match))
    (optional_match 0xA1 (around_at 0xA1 (element_at 0x06)) (IsAround 0xA1 (IsWhole 0x06)) (around_begins 0xA1 (IsWhole 0x06))
    (around_match 0xA1 (element_at 0x06) (IsWhole 0x06) (element_match 0x06)))
    (octets_match 0xA2) (octets_match 0xA3))

pub targ_match : Matches targ_at IsTarg
unfolding targ_at
targ_match = around_match 0xA1 (around_at 0x30 targ_fields_at) (IsAround 0x30 IsTargFields)
    (around_match 0x30 targ_fields_at IsTargFields targ_fields_match)

-- ---- the token that bytes begin with

value_some : {A : Type 0} (read : Read A) (x : A) → value_of read ≡ Some x → (rest : List ℕ) × (read ≡ Ok (x, rest))
value_some (Ok (y, rest)) x e = (rest, let same : y ≡ x = cc in ap (λ z. read_of z rest) same)
value_some (Err fault) x e = absurd cc

pub begins_of : {A : Type 0} (read : List ℕ → Read A) (Form : List ℕ → A → List ℕ → Type 0) → Matches read Form →
    (bytes : List ℕ) (x : A) → value_of (read bytes) ≡ Some x → Begins Form bytes x
begins_of read Form m bytes x e =
    let r = value_some (read bytes) x e in
    let t = m.takes bytes x r.0 r.1 in
    record { text = t.0; rest = r.0; parts = t.2; form = t.1 }

pub of_begins : {A : Type 0} (read : List ℕ → Read A) (Form : List ℕ → A → List ℕ → Type 0) → Matches read Form →
    (bytes : List ℕ) (x : A) → Begins Form bytes x → value_of (read bytes) ≡ Some x
of_begins {A} read Form m bytes x t =
    ap (λ (l : List ℕ). value_of (read l)) t.parts ∙ ap (λ (r : Read A). value_of r) (m.again t.text x t.rest t.form)

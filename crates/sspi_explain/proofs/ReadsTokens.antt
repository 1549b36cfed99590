-- A token is explained exactly as it is read.
use Rattle.std.proofs.Common.{◌≡◌, ℕ, Bool, true, false, cond, List, [], ◌∷◌, length, Option, None}
use Rattle.std.proofs.Common.{Some, Ok, Err, refl, ap, ◌∙◌}
use Prim.Native.Nat.{zero, suc}
use Rattle.std.specs.Str.{bytes_eq}
use Rattle.sspi_ber.specs.Pieces.{Read, Invalid, element_at}
use Rattle.sspi_tokens.specs.Grammar.{result_of}
use Rattle.sspi_tokens.specs.Oids.{spnego}
use Rattle.sspi_tokens.specs.Reading.{is_next, around_at, optional_at, oids_up_to, oids_at}
use Rattle.sspi_tokens.specs.Reading.{mech_types_at, octets_at, init_fields_at, init_content_at}
use Rattle.sspi_tokens.specs.Reading.{init_at, result_at, targ_fields_at, targ_at}
use Rattle.sspi_tokens.specs.declared.neg_result.NegResult.{NegResult}
use Rattle.sspi_tokens.specs.declared.neg_token_init.NegTokenInit.{NegTokenInit}
use Rattle.sspi_tokens.specs.declared.neg_token_targ.NegTokenTarg.{NegTokenTarg}
use Rattle.sspi_explain.specs.declared.field.Field.{Field}
use Rattle.sspi_explain.specs.declared.field.Field.TheVariants.{Header, MechTypes, ReqFlags}
use Rattle.sspi_explain.specs.declared.field.Field.TheVariants.{MechToken, MechListMic, NegState}
use Rattle.sspi_explain.specs.declared.field.Field.TheVariants.{SupportedMech, ResponseToken}
use Rattle.sspi_explain.specs.Page.{Sheet, with_line, field_name}
use Rattle.sspi_explain.specs.Pieces.{element_told, inside_told}
use Rattle.sspi_explain.specs.Identifier.{identifier_text}
use Rattle.sspi_explain.specs.Texts.{content_text}
use Rattle.sspi_explain.specs.Token.{if_next, mech_told, mechs_up_to, mechs_told, mech_types_field}
use Rattle.sspi_explain.specs.Token.{whole_field, inner_field, octets_field, state_text}
use Rattle.sspi_explain.specs.Token.{neg_state_field, frame_checked, frame_told, init_fields_told}
use Rattle.sspi_explain.specs.Token.{init_told, resp_fields_told, resp_told}
use Rattle.sspi_explain.specs.Told.{Spot, spot, offset, At, Told, Goes, Ends, read_of, ◌>>=◌}
use Rattle.sspi_explain.proofs.ReadThen.{read_then}
use Rattle.sspi_explain.proofs.ReadsPieces.{bind_read, element_read}
use Rattle.sspi_explain.proofs.ReadsFields.{kept_read, cond_read}
use Rattle.sspi_explain.proofs.Mechs.{mech_read, then_told, one_more, none_told}

-- ---- what is read inside an element, and then what follows it

then_ok : {A : Type 0} (r : Read A) → read_then r (λ x. Ok (x.0, x.1)) ≡ r
then_ok (Ok x) = refl
then_ok (Err fault) = refl

behind_then : {A B : Type 0} (r : Read A) (rest : List ℕ) (last : A × List ℕ → Read B)
    → read_then r (λ x. last (x.0, rest)) ≡ read_then (read_then r (λ x. Ok (x.0, rest))) last
behind_then (Ok x) rest last = refl
behind_then (Err fault) rest last = refl

abbrev content_spot : At (List ℕ) → Told Spot
content_spot content =
    Goes (record {
      page = content.page;
      value = spot content.value (offset content.place);
      place =
          content.place;
    })

module _ {A B : Type 0} (next : At Spot → Told B) (inner : List ℕ → Read A) (last : A × List ℕ →
    Read B)
    (same : (at : At Spot) →
    read_of (next at) ≡ read_then (inner at.value.rest) (λ x. last (x.0, at.place.rest))) where
  inside_cases : (t : Told (List ℕ)) → read_of ((t >>= content_spot) >>= next)
      ≡ read_then (read_then (read_of t)
      (λ content. read_then (inner content.0) (λ x. Ok (x.0, content.1)))) last
  inside_cases (Goes content) =
      same (record {
        page = content.page;
        value = spot content.value (offset content.place);
        place =
            content.place;
      })
      ∙ behind_then (inner content.value) content.place.rest last
  inside_cases (Ends page fault) = refl

  around_then : (tag : ℕ) (field : Field) (page : Sheet) (place : Spot)
      → read_of (inside_told tag field page place >>= next) ≡ read_then
      (around_at tag inner place.rest) last
  unfolding around_at inside_told
  around_then tag field page place =
      inside_cases (element_told tag field page place)
      ∙ ap (λ (r : Read (List ℕ)). read_then
      (read_then r (λ content. read_then (inner content.0) (λ x. Ok (x.0, content.1)))) last)
      (element_read tag field page place)

-- ---- the fields

next_read : {A : Type 0} (tag : ℕ) (field : Sheet → Spot → Told A) (element : List ℕ → Read A)
    → ((page : Sheet) (place : Spot) → read_of (field page place) ≡ element place.rest) →
    (page : Sheet) (place : Spot)
    → read_of (if_next tag field page place) ≡ optional_at tag element place.rest
unfolding optional_at
next_read tag field element same page place =
    cond_read (is_next tag place.rest)
    (field page place >>= λ x. Goes
    (record { page = x.page; value = Some x.value; place = x.place }))
    (Goes (record { page = page; value = None; place = place }))
    (read_then (element place.rest) (λ x. Ok (Some x.0, x.1))) (Ok (None, place.rest))
    (bind_read (field page place) _ (λ x. Ok (Some x.0, x.1)) (λ x. refl)
    ∙ ap (λ r. read_then r (λ x. Ok (Some x.0, x.1))) (same page place)) refl

whole_read : (tag : ℕ) (field : Field) (page : Sheet) (place : Spot) →
    read_of (whole_field tag field page place) ≡ element_at tag place.rest
unfolding whole_field
whole_read tag field page place = kept_read (element_told tag field page place) _ ∙
    element_read tag field page place

inner_read : (tag inner : ℕ) (field : Field) (text : List ℕ → List ℕ) (page : Sheet) (place : Spot)
    → read_of (inner_field tag inner field text page place) ≡ around_at tag
    (element_at inner) place.rest
unfolding inner_field
inner_read tag inner field text page place =
    around_then _ (element_at inner) (λ x. Ok (x.0, x.1)) (λ inside.
    bind_read (element_told inner field inside.page inside.value) _
    (λ x. Ok (x.0, inside.place.rest)) (λ x. refl)
    ∙ ap (λ (r : Read (List ℕ)). read_then r (λ x. Ok (x.0, inside.place.rest)))
    (element_read inner field inside.page inside.value))
    tag field page place
    ∙ then_ok (around_at tag (element_at inner) place.rest)

octets_read : (tag : ℕ) (field : Field) (page : Sheet) (place : Spot)
    → read_of (if_next tag (octets_field tag field) page place) ≡ octets_at tag place.rest
octets_read tag field page place =
    next_read tag (octets_field tag field) (around_at tag (element_at 0x04))
    (inner_read tag 0x04 field content_text) page place

result_inside : (r : Read (List ℕ)) (rest : List ℕ)
    → read_then (read_then r (λ x. Ok (x.0, rest))) (λ c. Ok (result_of c.0, c.1))
    ≡ read_then (read_then r (λ c. Ok (result_of c.0, c.1))) (λ x. Ok (x.0, rest))
result_inside (Ok x) rest = refl
result_inside (Err fault) rest = refl

result_around : (r : Read (List ℕ)) →
    read_then (read_then r
    (λ content. read_then (element_at 0x0A content.0) (λ x. Ok (x.0, content.1))))
    (λ c. Ok (result_of c.0, c.1)) ≡ read_then r
    (λ content. read_then (result_at content.0) (λ x. Ok (x.0, content.1)))
unfolding result_at
result_around (Ok content) = result_inside (element_at 0x0A content.0) content.1
result_around (Err fault) = refl

state_around : (bytes : List ℕ) →
    read_then (around_at 0xA0 (element_at 0x0A) bytes)
    (λ c. Ok (result_of c.0, c.1)) ≡ around_at 0xA0 result_at bytes
unfolding around_at
state_around bytes = result_around (element_at 0xA0 bytes)

state_read : (page : Sheet) (place : Spot) →
    read_of (neg_state_field page place) ≡ around_at 0xA0 result_at place.rest
unfolding neg_state_field
state_read page place =
    bind_read (inner_field 0xA0 0x0A NegState state_text page place) _
    (λ c. Ok (result_of c.0, c.1)) (λ x. refl)
    ∙ ap (λ (r : Read (List ℕ)). read_then r (λ c. Ok (result_of c.0, c.1)))
    (inner_read 0xA0 0x0A NegState state_text page place)
    ∙ state_around place.rest

-- ---- the mechanisms

up_to_read : (most : ℕ) (page : Sheet) (rest : List ℕ) (end : ℕ) →
    read_of (mechs_up_to most page (spot rest end)) ≡ oids_up_to most rest
up_to_read zero page rest end = refl
up_to_read (suc most) page rest end =
    cond_read (is_next 0x06 rest) (mech_told page (spot rest end) >>= then_told most)
    (none_told page (spot rest end))
    (read_then (element_at 0x06 rest)
    (λ oid. read_then (oids_up_to most oid.1) (λ oids. Ok (oid.0 ∷ oids.0, oids.1))))
    (Ok ([], rest))
    (bind_read (mech_told page (spot rest end)) (then_told most)
    (λ oid. read_then (oids_up_to most oid.1) (λ oids. Ok (oid.0 ∷ oids.0, oids.1))) (λ at.
    bind_read (mechs_up_to most at.page at.place) (one_more at.value)
    (λ oids. Ok (at.value ∷ oids.0, oids.1)) (λ x. refl)
    ∙ ap (λ (r : Read (List (List ℕ))). read_then r (λ oids. Ok (at.value ∷ oids.0, oids.1)))
    (up_to_read most at.page at.place.rest at.place.end))
    ∙ ap (λ (r : Read (List ℕ)). read_then r
    (λ oid. read_then (oids_up_to most oid.1) (λ oids. Ok (oid.0 ∷ oids.0, oids.1))))
    (mech_read page (spot rest end))) refl

mechs_read : (page : Sheet) (list : Spot) → read_of (mechs_told page list) ≡ oids_at list.rest
unfolding mechs_told oids_at
mechs_read page list = up_to_read (length list.rest) page list.rest list.end

types_read : (page : Sheet) (place : Spot) →
    read_of (mech_types_field page place) ≡ around_at 0xA0 mech_types_at place.rest
unfolding mech_types_field
types_read page place =
    around_then _ mech_types_at (λ x. Ok (x.0, x.1)) (λ field.
    around_then _ oids_at (λ x. Ok (x.0, field.place.rest)) (λ list.
    let there = with_line list.page.depth (offset place) (field_name MechTypes) list.page in
    bind_read (mechs_told there list.value) _ (λ x. Ok (x.0, field.place.rest)) (λ x. refl)
    ∙ ap (λ (r : Read (List (List ℕ))). read_then r (λ x. Ok (x.0, field.place.rest)))
    (mechs_read there list.value))
    0x30 MechTypes field.page field.value)
    0xA0 MechTypes page place
    ∙ then_ok (around_at 0xA0 mech_types_at place.rest)

-- ---- the tokens

init_fields_read : (page : Sheet) (place : Spot) →
    read_of (init_fields_told page place) ≡ init_fields_at place.rest
unfolding init_fields_told init_fields_at
init_fields_read page place =
    let last : Option (List (List ℕ)) → Option (List ℕ) → Option (List ℕ) × List ℕ →
    Read NegTokenInit =
    λ types token hints. Ok (record { mech_types = types; mech_token = token }, hints.1) in
    let third : Option (List (List ℕ)) → Option (List ℕ) × List ℕ → Read NegTokenInit =
    λ types token. read_then (optional_at 0xA3 (element_at 0xA3) token.1) (last types token.0) in
    let second : Option (List (List ℕ)) → Option (List ℕ) × List ℕ → Read NegTokenInit =
    λ types flags. read_then (octets_at 0xA2 flags.1) (third types) in
    let first : Option (List (List ℕ)) × List ℕ → Read NegTokenInit =
    λ types. read_then (optional_at 0xA1 (element_at 0xA1) types.1) (second types.0) in
    bind_read (if_next 0xA0 mech_types_field page place) _ first (λ types.
    bind_read (if_next 0xA1 (whole_field 0xA1 ReqFlags) types.page types.place) _
    (second types.value) (λ flags.
    bind_read (if_next 0xA2 (octets_field 0xA2 MechToken) flags.page flags.place) _
    (third types.value) (λ token.
    bind_read (if_next 0xA3 (whole_field 0xA3 MechListMic) token.page token.place) _
    (last types.value token.value) (λ x. refl)
    ∙ ap (λ (r : Read (Option (List ℕ))). read_then r (last types.value token.value))
    (next_read 0xA3 (whole_field 0xA3 MechListMic) (element_at 0xA3)
    (whole_read 0xA3 MechListMic) token.page token.place))
    ∙ ap (λ (r : Read (Option (List ℕ))). read_then r (third types.value))
    (octets_read 0xA2 MechToken flags.page flags.place))
    ∙ ap (λ (r : Read (Option (List ℕ))). read_then r (second types.value))
    (next_read 0xA1 (whole_field 0xA1 ReqFlags) (element_at 0xA1)
    (whole_read 0xA1 ReqFlags) types.page types.place))
    ∙ ap (λ (r : Read (Option (List (List ℕ)))). read_then r first)
    (next_read 0xA0 mech_types_field (around_at 0xA0 mech_types_at) types_read page place)

checked_read : (b : Bool) (mech : At (List ℕ)) (refused : Sheet) (next : At (List ℕ) →
    Told NegTokenInit) (content : Read NegTokenInit)
    (last : NegTokenInit × List ℕ → Read NegTokenInit) →
    read_of (next mech) ≡ read_then content last
    → read_of (cond b (Goes mech) (Ends refused Invalid) >>= next) ≡ read_then
    (cond b content (Err Invalid)) last
checked_read true mech refused next content last same = same
checked_read false mech refused next content last same = refl

frame_read : (at : ℕ) (next : At (List ℕ) → Told NegTokenInit) (content : List ℕ →
    Read NegTokenInit)
    (last : NegTokenInit × List ℕ → Read NegTokenInit)
    → ((mech : At (List ℕ)) → read_of (next mech) ≡ read_then (content mech.place.rest) last) →
    (t : Told (List ℕ))
    → read_of ((t >>= frame_checked at) >>= next)
    ≡ read_then (read_then (read_of t)
    (λ mech. cond (bytes_eq mech.0 spnego) (content mech.1) (Err Invalid))) last
frame_read at next content last same (Goes mech) =
    checked_read (bytes_eq mech.value spnego) mech _ next (content mech.place.rest) last (same mech)
frame_read at next content last same (Ends page fault) = refl

pub init_read : (page : Sheet) (place : Spot) → read_of (init_told page place) ≡ init_at place.rest
unfolding init_told init_at frame_told init_content_at
init_read page place =
    around_then _ init_content_at (λ x. Ok (x.0, x.1)) (λ frame.
    frame_read (offset frame.value) _ (around_at 0xA0 (around_at 0x30 init_fields_at))
    (λ x. Ok (x.0, frame.place.rest)) (λ mech.
    around_then _ (around_at 0x30 init_fields_at) (λ x. Ok (x.0, frame.place.rest)) (λ body.
    around_then _ init_fields_at (λ x. Ok (x.0, frame.place.rest)) (λ list.
    bind_read (init_fields_told list.page list.value) _ (λ x. Ok (x.0, frame.place.rest))
    (λ x. refl)
    ∙ ap (λ (r : Read NegTokenInit). read_then r (λ x. Ok (x.0, frame.place.rest)))
    (init_fields_read list.page list.value))
    0x30 Header body.page body.value)
    0xA0 Header mech.page mech.place)
    (element_told 0x06 Header frame.page frame.value)
    ∙ ap (λ (r : Read (List ℕ)). read_then (read_then r (λ mech.
    cond (bytes_eq mech.0 spnego) (around_at 0xA0 (around_at 0x30 init_fields_at) mech.1)
    (Err Invalid))) (λ x. Ok (x.0, frame.place.rest)))
    (element_read 0x06 Header frame.page frame.value))
    0x60 Header page place
    ∙ then_ok (around_at 0x60 init_content_at place.rest)

resp_fields_read : (page : Sheet) (place : Spot) →
    read_of (resp_fields_told page place) ≡ targ_fields_at place.rest
unfolding resp_fields_told targ_fields_at
resp_fields_read page place =
    let last : Option NegResult → Option (List ℕ) → Option (List ℕ) → Option (List ℕ) × List ℕ →
    Read NegTokenTarg =
    λ result mech token mic. Ok (
      record {
        neg_result = result;
        supported_mech = mech;
        response_token = token;
        mech_list_mic =
            mic.0;
      },
      mic.1,
    ) in
    let third : Option NegResult → Option (List ℕ) → Option (List ℕ) × List ℕ → Read NegTokenTarg =
    λ result mech token. read_then (octets_at 0xA3 token.1) (last result mech token.0) in
    let second : Option NegResult → Option (List ℕ) × List ℕ → Read NegTokenTarg =
    λ result mech. read_then (octets_at 0xA2 mech.1) (third result mech.0) in
    let first : Option NegResult × List ℕ → Read NegTokenTarg =
    λ result. read_then (optional_at 0xA1 (around_at 0xA1 (element_at 0x06)) result.1)
    (second result.0) in
    bind_read (if_next 0xA0 neg_state_field page place) _ first (λ result.
    bind_read (if_next 0xA1
    (inner_field 0xA1 0x06 SupportedMech identifier_text) result.page result.place) _
    (second result.value) (λ mech.
    bind_read (if_next 0xA2 (octets_field 0xA2 ResponseToken) mech.page mech.place) _
    (third result.value mech.value) (λ token.
    bind_read (if_next 0xA3 (octets_field 0xA3 MechListMic) token.page token.place) _
    (last result.value mech.value token.value) (λ x. refl)
    ∙ ap (λ (r : Read (Option (List ℕ))). read_then r (last result.value mech.value token.value))
    (octets_read 0xA3 MechListMic token.page token.place))
    ∙ ap (λ (r : Read (Option (List ℕ))). read_then r (third result.value mech.value))
    (octets_read 0xA2 ResponseToken mech.page mech.place))
    ∙ ap (λ (r : Read (Option (List ℕ))). read_then r (second result.value))
    (next_read 0xA1 (inner_field 0xA1 0x06 SupportedMech identifier_text)
    (around_at 0xA1 (element_at 0x06))
    (inner_read 0xA1 0x06 SupportedMech identifier_text) result.page result.place))
    ∙ ap (λ (r : Read (Option NegResult)). read_then r first)
    (next_read 0xA0 neg_state_field (around_at 0xA0 result_at) state_read page place)

pub resp_read : (page : Sheet) (place : Spot) → read_of (resp_told page place) ≡ targ_at place.rest
unfolding resp_told targ_at
resp_read page place =
    around_then _ (around_at 0x30 targ_fields_at) (λ x. Ok (x.0, x.1)) (λ frame.
    around_then _ targ_fields_at (λ x. Ok (x.0, frame.place.rest)) (λ list.
    bind_read (resp_fields_told list.page list.value) _ (λ x. Ok (x.0, frame.place.rest))
    (λ x. refl)
    ∙ ap (λ (r : Read NegTokenTarg). read_then r (λ x. Ok (x.0, frame.place.rest)))
    (resp_fields_read list.page list.value))
    0x30 Header frame.page frame.value)
    0xA1 Header page place
    ∙ then_ok (around_at 0xA1 (around_at 0x30 targ_fields_at) place.rest)

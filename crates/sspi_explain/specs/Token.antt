-- A token of SPNEGO, field by field (RFC 4178 4.2), with what its reader ignores.
use Rattle.std.specs.Prelude.{ℕ, ◌==◌, List, [], ◌∷◌, ◌++◌, length, Option, None, Some, codes}
use Rattle.std.specs.Prelude.{if◌then◌else◌}
use Rattle.std.specs.Str.{bytes_eq}
use Prim.Native.Nat.{zero, suc}
use Rattle.sspi_ber.specs.Pieces.{Ended, Invalid}
use Rattle.sspi_tokens.specs.Oids.{spnego}
use Rattle.sspi_tokens.specs.Grammar.{result_of}
use Rattle.sspi_tokens.specs.Reading.{is_next}
use Rattle.sspi_tokens.specs.declared.neg_result.NegResult.{NegResult}
use Rattle.sspi_tokens.specs.declared.neg_token_init.NegTokenInit.{NegTokenInit}
use Rattle.sspi_tokens.specs.declared.neg_token_targ.NegTokenTarg.{NegTokenTarg}
use Rattle.sspi_explain.specs.declared.field.Field.{Field}
use Rattle.sspi_explain.specs.declared.field.Field.TheVariants.{Header, MechTypes, ReqFlags}
use Rattle.sspi_explain.specs.declared.field.Field.TheVariants.{MechToken, MechListMic, NegState}
use Rattle.sspi_explain.specs.declared.field.Field.TheVariants.{SupportedMech, ResponseToken}
use Rattle.sspi_explain.specs.declared.token.Kind.{Kind}
use Rattle.sspi_explain.specs.declared.token.Kind.TheVariants.{Init, Resp}
use Rattle.sspi_explain.specs.Identifier.{identifier_text}
use Rattle.sspi_explain.specs.Page.{Sheet, deeper, field_name, with_line, with_field, with_content}
use Rattle.sspi_explain.specs.Page.{with_ignored, refused}
use Rattle.sspi_explain.specs.Pieces.{element_told, inside_told}
use Rattle.sspi_explain.specs.Texts.{content_text}
use Rattle.sspi_explain.specs.Told.{Spot, offset, At, Told, Goes, Ends, ◌>>=◌}

abbrev pub kind_name : Kind → List ℕ
kind_name Init = codes "NegTokenInit"
kind_name Resp = codes "NegTokenResp"

-- the kind of token that these bytes may be, by their first
abbrev pub kind_of : List ℕ → Option Kind
kind_of [] = None
kind_of (byte ∷ rest) = if byte == 0x60 then Some Init else if byte == 0xA1 then Some Resp else None

-- what is ignored after the elements of a content, and inside a field
abbrev pub with_rest : Spot → Sheet → Sheet
with_rest place page = with_ignored page.depth (offset place) place.rest page

abbrev pub with_rest_inside : Spot → Sheet → Sheet
with_rest_inside place page = with_ignored (deeper page.depth) (offset place) place.rest page

-- an optional field, which begins with this tag if it is present
abbrev pub if_next : {A : Type 0} → ℕ → (Sheet → Spot → Told A) → Sheet → Spot → Told (Option A)
if_next tag field page place =
    if is_next tag place.rest
    then (field page place >>= λ x. Goes
    (record { page = x.page; value = Some x.value; place = x.place }))
    else Goes (record { page = page; value = None; place = place })

-- ---- the fields

unfoldable pub mech_told : Sheet → Spot → Told (List ℕ)
mech_told page list = do
  mech ← element_told 0x06 MechTypes page list
  Goes (record {
    page = with_line (deeper mech.page.depth) (offset list) (identifier_text mech.value) mech.page;
    value = mech.value;
    place = mech.place;
  })

-- at most this many object identifiers
abbrev pub mechs_up_to : ℕ → Sheet → Spot → Told (List (List ℕ))
mechs_up_to zero page list = Goes (record { page = page; value = []; place = list })
mechs_up_to (suc most) page list =
    if is_next 0x06 list.rest
    then (
    mech_told page list >>= λ mech.
    mechs_up_to most mech.page mech.place >>= λ more.
    Goes (record { page = more.page; value = mech.value ∷ more.value; place = more.place })
    )
    else Goes (record { page = page; value = []; place = list })

-- each takes at least one byte
unfoldable pub mechs_told : Sheet → Spot → Told (List (List ℕ))
mechs_told page list = mechs_up_to (length list.rest) page list

unfoldable pub mech_types_field : Sheet → Spot → Told (List (List ℕ))
mech_types_field page place = do
  field ← inside_told 0xA0 MechTypes page place
  list ← inside_told 0x30 MechTypes field.page field.value
  mechs ← mechs_told (with_line list.page.depth (offset place)
      (field_name MechTypes) list.page) list.value
  Goes (record {
    page = with_rest_inside list.place (with_rest_inside mechs.place mechs.page);
    value = mechs.value;
    place = field.place;
  })

-- a field that the reader skips
unfoldable pub whole_field : ℕ → Field → Sheet → Spot → Told (List ℕ)
whole_field tag field page place = do
  content ← element_told tag field page place
  Goes (record {
    page = with_content (offset place) field content.value content.page;
    value =
        content.value;
    place = content.place;
  })

-- an element with this tag inside a field, with the text of its value
unfoldable pub inner_field : ℕ → ℕ → Field → (List ℕ → List ℕ) → Sheet → Spot → Told (List ℕ)
inner_field tag inner field value_text page place = do
  inside ← inside_told tag field page place
  content ← element_told inner field inside.page inside.value
  Goes (record {
    page = with_rest_inside content.place
        (with_field (offset place) field (value_text content.value) content.page);
    value = content.value;
    place = inside.place;
  })

abbrev pub octets_field : ℕ → Field → Sheet → Spot → Told (List ℕ)
octets_field tag field = inner_field tag 0x04 field content_text

abbrev pub with_mech : ℕ → List ℕ → Sheet → Sheet
with_mech at mech page = with_field at SupportedMech (identifier_text mech) page

unfoldable pub state_text : List ℕ → List ℕ
state_text content =
    if bytes_eq content (0 ∷ []) then codes "accept-completed"
    else if bytes_eq content (1 ∷ []) then codes "accept-incomplete"
    else if bytes_eq content (2 ∷ []) then codes "reject"
    else if bytes_eq content (3 ∷ []) then codes "request-mic"
    else codes "other " ++ content_text content

unfoldable pub neg_state_field : Sheet → Spot → Told NegResult
neg_state_field page place = do
  content ← inner_field 0xA0 0x0A NegState state_text page place
  Goes (record { page = content.page; value = result_of content.value; place = content.place })

-- ---- the tokens

unfoldable pub unwanted_text : List ℕ → List ℕ
unwanted_text mech = codes "mechanism " ++ identifier_text mech ++ codes ", SPNEGO wanted"

-- the identifier of the frame, which is that of SPNEGO
abbrev pub frame_checked : ℕ → At (List ℕ) → Told (List ℕ)
frame_checked at mech =
    if bytes_eq mech.value spnego
    then Goes mech
    else Ends (refused at Header Invalid (unwanted_text mech.value) mech.page) Invalid

unfoldable pub frame_told : Sheet → Spot → Told (List ℕ)
frame_told page frame = do
  mech ← element_told 0x06 Header page frame
  frame_checked (offset frame) mech

unfoldable pub init_fields_told : Sheet → Spot → Told NegTokenInit
init_fields_told page place = do
  mech_types ← if_next 0xA0 mech_types_field page place
  flags ← if_next 0xA1 (whole_field 0xA1 ReqFlags) mech_types.page mech_types.place
  mech_token ← if_next 0xA2 (octets_field 0xA2 MechToken) flags.page flags.place
  hints ← if_next 0xA3 (whole_field 0xA3 MechListMic) mech_token.page mech_token.place
  Goes (record {
    page = hints.page;
    value = record { mech_types = mech_types.value; mech_token = mech_token.value };
    place = hints.place;
  })

-- NegTokenInit in the frame of an initial token of the GSS-API (RFC 2743 3.1)
unfoldable pub init_told : Sheet → Spot → Told NegTokenInit
init_told page place = do
  frame ← inside_told 0x60 Header page place
  mech ← frame_told frame.page frame.value
  body ← inside_told 0xA0 Header mech.page mech.place
  list ← inside_told 0x30 Header body.page body.value
  fields ← init_fields_told list.page list.value
  Goes (record {
    page = with_rest body.place (with_rest list.place (with_rest fields.place fields.page));
    value = fields.value;
    place = frame.place;
  })

unfoldable pub resp_fields_told : Sheet → Spot → Told NegTokenTarg
resp_fields_told page place = do
  neg_state ← if_next 0xA0 neg_state_field page place
  mech ← if_next 0xA1 (inner_field 0xA1 0x06 SupportedMech identifier_text) neg_state.page
      neg_state.place
  token ← if_next 0xA2 (octets_field 0xA2 ResponseToken) mech.page mech.place
  mic ← if_next 0xA3 (octets_field 0xA3 MechListMic) token.page token.place
  Goes (record {
    page = mic.page;
    value = record {
      neg_result = neg_state.value;
      supported_mech = mech.value;
      response_token = token.value;
      mech_list_mic = mic.value;
    };
    place = mic.place;
  })

unfoldable pub resp_told : Sheet → Spot → Told NegTokenTarg
resp_told page place = do
  frame ← inside_told 0xA1 Header page place
  list ← inside_told 0x30 Header frame.page frame.value
  fields ← resp_fields_told list.page list.value
  Goes (record {
    page = with_rest list.place (with_rest fields.place fields.page);
    value = fields.value;
    place = frame.place;
  })

-- the page that explains a token, with what follows it; or the fault
abbrev pub page_of : {A : Type 0} → Told A → Told (Unit {0})
page_of (Goes at) = Goes
    (record { page = with_rest at.place at.page; value = tt; place = at.place })
page_of (Ends page fault) = Ends page fault

unfoldable pub token_told : Kind → Sheet → Spot → Told (Unit {0})
token_told Init page place = page_of (init_told page place)
token_told Resp page place = page_of (resp_told page place)

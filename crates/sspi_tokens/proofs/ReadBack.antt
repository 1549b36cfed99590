-- What was encoded is in the grammar again.
use Rattle.std.proofs.Common.{◌≡◌, ℕ, ◌+◌, ◌≤◌, List, [], ◌∷◌, ◌++◌, length, Option, None, Some, Ok, refl, sym, ap, subst, lit≤, arith}
use Rattle.std.specs.Option.{option_map}
use Rattle.std.proofs.lemmas.List.{append-nil, length-append}
use Rattle.sspi_ber.specs.Forms.{max_content, IsNotNext}
use Rattle.sspi_ber.specs.Short.{header, element}
use Rattle.sspi_ber.proofs.Short.{short_element}
use Rattle.sspi_ber.proofs.Written.{length-element}
use Rattle.sspi_tokens.specs.Oids.{spnego}
use Rattle.sspi_tokens.specs.Nested.{IsAround, IsWhole, IsOptional}
use Rattle.sspi_tokens.specs.Grammar.{IsOids, IsMechTypes, IsOctets, IsInitFields, IsInitContent}
use Rattle.sspi_tokens.specs.Grammar.{IsInit, result_of, IsResult, IsTargFields, IsTarg}
use Rattle.sspi_tokens.specs.Spelling.{spelled_list, field, oids_text, mech_types_text, init_fields, init_content}
use Rattle.sspi_tokens.specs.Spelling.{result_code, result_text, octet_fields, last_fields, targ_fields, targ_content}
use Rattle.sspi_tokens.specs.declared.neg_result.NegResult.{NegResult}
use Rattle.sspi_tokens.specs.declared.neg_result.NegResult.TheVariants.{AcceptComplete, AcceptIncomplete, Other}
use Rattle.sspi_tokens.specs.declared.neg_token_init.NegTokenInit.{NegTokenInit}
use Rattle.sspi_tokens.specs.declared.neg_token_targ.NegTokenTarg.{NegTokenTarg}
use Rattle.sspi_tokens.specs.Reading.{mech_types_at}
use Rattle.sspi_tokens.proofs.Encode.{whole_is}
use Rattle.sspi_tokens.proofs.GrammarMatch.{mech_types_match}
use Rattle.sspi_tokens.proofs.Lengths.{element_size_more}

-- an element whose content has a form, with nothing left over
around_short : {A : Type 0} (tag : ℕ) (Form : List ℕ → A → List ℕ → Type 0) (content : List ℕ) (x : A) (following : List ℕ) →
    length content ≤ max_content → Form content x [] → IsAround tag Form (element tag content) x following
around_short tag Form content x following le form = record {
  content = content;
  element = short_element tag content le;
  inside = record { text = content; rest = []; parts = sym (append-nil content); form = form };
}

-- a content fits if an element around it does
inner_fits : (tag : ℕ) (content : List ℕ) → length (element tag content) ≤ max_content → length content ≤ max_content
inner_fits tag content le = omega (arith, length-element tag content, element_size_more (length content))

-- ---- object identifiers

not_next_element : (tag other : ℕ) (content rest : List ℕ) → (other ≡ tag → ⊥) → IsNotNext tag (element other content ++ rest)
unfolding element header
not_next_element tag other content rest differ = differ

oids_short : (oids : List (List ℕ)) → length (oids_text oids) ≤ max_content → IsOids (oids_text oids) oids []
unfolding oids_text
oids_short [] le = (refl, tt)
oids_short (oid ∷ oids) le =
    let whole : length (element 0x06 oid) + length (oids_text oids) ≤ max_content = omega
    (arith, length-append (element 0x06 oid) (oids_text oids)) in
    (element 0x06 oid, oids_text oids, refl, short_element 0x06 oid (inner_fits 0x06 oid (omega arith)), oids_short oids (omega arith))

pub mech_types_short : (oids : List (List ℕ)) (following : List ℕ) → length (oids_text oids) ≤ max_content →
    IsMechTypes (mech_types_text oids) oids following
unfolding mech_types_text
mech_types_short oids following le = around_short 0x30 IsOids (oids_text oids) oids following le (oids_short oids le)

list_fits : (oids : List (List ℕ)) → length (mech_types_text oids) ≤ max_content → length (oids_text oids) ≤ max_content
unfolding mech_types_text
list_fits oids le = inner_fits 0x30 (oids_text oids) le

-- ---- optional fields

-- a field that is present, or is absent and whose tag is not next
field_short : {A : Type 0} (tag : ℕ) (Form : List ℕ → A → List ℕ → Type 0) (spell : A → List ℕ) (x : Option A)
    (following : List ℕ) → IsNotNext tag following
    → ((y : A) → length (spell y) ≤ max_content → Form (spell y) y []) → length (field tag (option_map spell x)) ≤ max_content →
    IsOptional tag (IsAround tag Form) (field tag (option_map spell x)) x following
unfolding field
field_short tag Form spell None following other form le = (refl, other)
field_short tag Form spell (Some y) following other form le = let fits = inner_fits tag (spell y) le in
    around_short tag Form (spell y) y following fits (form y fits)

-- if a tag is not next after a field with another tag, it is not next before that field either
behind_field : {A : Type 0} (tag other : ℕ) (spell : A → List ℕ) (x : Option A) (following : List ℕ) → (other ≡ tag → ⊥) →
    IsNotNext tag following → IsNotNext tag (field other (option_map spell x) ++ following)
unfolding field
behind_field tag other spell None following differ next = next
behind_field tag other spell (Some y) following differ next = not_next_element tag other (spell y) following differ

octets_short : (tag : ℕ) (octets : Option (List ℕ)) (following : List ℕ) → IsNotNext tag following →
    length (field tag (option_map (element 0x04) octets)) ≤ max_content
    → IsOptional tag (IsOctets tag) (field tag (option_map (element 0x04) octets)) octets following
octets_short tag octets following next le =
    field_short tag (IsWhole 0x04) (element 0x04) octets following next (λ y fits. short_element 0x04 y (inner_fits 0x04 y fits)) le

-- ---- NegTokenInit

init_fields_short : (token : NegTokenInit) → length (init_fields token) ≤ max_content → IsInitFields (init_fields token) token []
unfolding init_fields
init_fields_short token le =
    let list = field 0xA0 (option_map mech_types_text token.mech_types) in
    let octets = field 0xA2 (option_map (element 0x04) token.mech_token) in
    let sum : length list + length octets ≤ max_content = omega (arith, length-append list octets) in
    let last : octets ++ [] ≡ octets = append-nil octets in (
      None,
      None,
      record {
        first = list;
        second = [];
        third = octets;
        fourth = [];
        parts = ap (λ (l : List ℕ). list ++ l) (sym last);
        first_is = field_short 0xA0 IsMechTypes mech_types_text token.mech_types (octets ++ [])
            (behind_field 0xA0 0xA2 (element 0x04) token.mech_token [] (λ e. omega arith) tt)
            (λ oids fits. mech_types_short oids [] (list_fits oids fits)) (omega arith);
        second_is = (refl, behind_field 0xA1 0xA2 (element 0x04) token.mech_token [] (λ e. omega arith) tt);
        third_is = octets_short 0xA2 token.mech_token [] tt (omega arith);
        fourth_is = (refl, tt);
      },
    )

init_sequence_short : (token : NegTokenInit) (following : List ℕ) → length (element 0x30 (init_fields token)) ≤ max_content →
    IsAround 0x30 IsInitFields (element 0x30 (init_fields token)) token following
init_sequence_short token following le =
    let fits = inner_fits 0x30 (init_fields token) le in
    around_short 0x30 IsInitFields (init_fields token) token following fits (init_fields_short token fits)

init_content_short : (token : NegTokenInit) → length (init_content token) ≤ max_content → IsInitContent (init_content token) token []
unfolding init_content
init_content_short token le =
    let body = element 0xA0 (element 0x30 (init_fields token)) in
    let fits : length body ≤ max_content = omega (arith, length-append (element 0x06 spnego) body) in
    let inner = inner_fits 0xA0 (element 0x30 (init_fields token)) fits in
    record {
      mech = element 0x06 spnego;
      body = body;
      parts = refl;
      mech_is = short_element 0x06 spnego (lit≤ tt);
      body_is = around_short 0xA0 (IsAround 0x30 IsInitFields) (element 0x30 (init_fields token)) token [] inner
          (init_sequence_short token [] inner);
    }

pub init_short : (token : NegTokenInit) (following : List ℕ) → length (init_content token) ≤ max_content →
    IsInit (element 0x60 (init_content token)) token following
init_short token following le = around_short 0x60 IsInitContent (init_content token) token following le (init_content_short token le)

-- ---- NegTokenTarg

code_is : (result : NegResult) → result ≡ result_of (result_code result ∷ [])
code_is AcceptComplete = refl
code_is AcceptIncomplete = refl
code_is Other = refl

result_short : (result : NegResult) → IsResult (result_text result) result []
unfolding result_text
result_short result = (result_code result ∷ [], short_element 0x0A (result_code result ∷ []) (lit≤ tt), code_is result)

targ_fields_short : (token : NegTokenTarg) → length (targ_fields token) ≤ max_content → IsTargFields (targ_fields token) token []
unfolding targ_fields last_fields octet_fields
targ_fields_short token le =
    let result = field 0xA0 (option_map result_text token.neg_result) in
    let mech = field 0xA1 (option_map (element 0x06) token.supported_mech) in
    let response = field 0xA2 (option_map (element 0x04) token.response_token) in
    let mic = field 0xA3 (option_map (element 0x04) token.mech_list_mic) in
    let sum : length result + (length mech + (length response + length mic)) ≤ max_content = omega
    (arith, length-append result (mech ++ (response ++ mic)), length-append mech (response ++ mic), length-append response mic) in
    record {
      first = result;
      second = mech;
      third = response;
      fourth = mic;
      parts = refl;
      first_is = field_short 0xA0 IsResult result_text token.neg_result (mech ++ (response ++ (mic ++ [])))
          (behind_field 0xA0 0xA1 (element 0x06) token.supported_mech (response ++ (mic ++ [])) (λ e. omega arith)
          (behind_field 0xA0 0xA2 (element 0x04) token.response_token (mic ++ []) (λ e. omega arith)
          (behind_field 0xA0 0xA3 (element 0x04) token.mech_list_mic [] (λ e. omega arith) tt)))
          (λ y fits. result_short y) (omega arith);
      second_is = field_short 0xA1 (IsWhole 0x06) (element 0x06) token.supported_mech (response ++ (mic ++ []))
          (behind_field 0xA1 0xA2 (element 0x04) token.response_token (mic ++ []) (λ e. omega arith)
          (behind_field 0xA1 0xA3 (element 0x04) token.mech_list_mic [] (λ e. omega arith) tt))
          (λ y fits. short_element 0x06 y (inner_fits 0x06 y fits)) (omega arith);
      third_is = octets_short 0xA2 token.response_token (mic ++ []) (behind_field 0xA2 0xA3 (element 0x04) token.mech_list_mic []
          (λ e. omega arith) tt) (omega arith);
      fourth_is = octets_short 0xA3 token.mech_list_mic [] tt (omega arith);
    }

targ_content_short : (token : NegTokenTarg) → length (targ_content token) ≤ max_content →
    IsAround 0x30 IsTargFields (targ_content token) token []
unfolding targ_content
targ_content_short token le =
    let fits = inner_fits 0x30 (targ_fields token) le in
    around_short 0x30 IsTargFields (targ_fields token) token [] fits (targ_fields_short token fits)

pub targ_short : (token : NegTokenTarg) (following : List ℕ) → length (targ_content token) ≤ max_content →
    IsTarg (element 0xA1 (targ_content token)) token following
targ_short token following le = around_short 0xA1 (IsAround 0x30 IsTargFields) (targ_content token) token following le
    (targ_content_short token le)

-- ---- a list alone

pub list_read : (list : List (List ℕ)) (text : List ℕ) → spelled_list list ≡ Some text → mech_types_at (text ++ []) ≡ Ok (list, [])
unfolding mech_types_text
list_read list text spelled =
    let is = whole_is 0x30 (oids_text list) text spelled in
    mech_types_match.again text list [] (subst (λ (l : List ℕ). IsMechTypes l list []) (sym is.1) (mech_types_short list [] is.0))

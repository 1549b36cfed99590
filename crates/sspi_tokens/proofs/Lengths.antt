-- The lengths of the parts of a token.
use Rattle.std.proofs.Common.{◌≡◌, ℕ, ◌+◌, ◌<◌, ◌≤◌, List, [], ◌∷◌, ◌++◌, length, get_or, take}
use Rattle.std.proofs.Common.{drop, append_assoc, Option, None, Some, refl, sym, ap, ◌∙◌, arith}
use Rattle.std.specs.Option.{option_map, option_map_or}
use Rattle.std.proofs.lemmas.List.{append-nil, length-append, take_more, take-append-drop}
use Rattle.sspi_ber.specs.Short.{len_short, header, element, element_size}
use Rattle.sspi_ber.proofs.Written.{length-element}
use Rattle.sspi_tokens.specs.Oids.{spnego}
use Rattle.sspi_tokens.specs.Spelling.{field, oids_text, mech_types_text, init_fields, init_content}
use Rattle.sspi_tokens.specs.Spelling.{result_text, octet_fields, last_fields, targ_fields, targ_content}
use Rattle.sspi_tokens.specs.declared.neg_result.NegResult.{NegResult}
use Rattle.sspi_tokens.specs.declared.neg_token_init.NegTokenInit.{NegTokenInit}
use Rattle.sspi_tokens.specs.declared.neg_token_targ.NegTokenTarg.{NegTokenTarg}

-- an element is longer than its content
pub element_size_more : (n : ℕ) → n < element_size n
unfolding element_size
element_size_more n = omega arith

-- ---- fields

length-field : (tag inner : ℕ) (content : Option (List ℕ)) → length (field tag (option_map (element inner) content))
    ≡ option_map_or (λ bytes. element_size (element_size (length bytes))) content 0
unfolding field
length-field tag inner None = refl
length-field tag inner (Some content) = length-element tag (element inner content) ∙ ap element_size (length-element inner content)

pub length-octets : (tag : ℕ) (octets : Option (List ℕ)) → length (field tag (option_map (element 0x04) octets)) ≡ option_map_or
    (λ bytes. element_size (element_size (length bytes))) octets 0
length-octets tag octets = length-field tag 0x04 octets

pub length-oid : (oid : Option (List ℕ)) → length (field 0xA1 (option_map (element 0x06) oid)) ≡ option_map_or
    (λ bytes. element_size (element_size (length bytes))) oid 0
length-oid oid = length-field 0xA1 0x06 oid

pub length-mech_types : (list : Option (List (List ℕ))) → length (field 0xA0 (option_map mech_types_text list)) ≡ option_map_or
    (λ oids. element_size (element_size (length (oids_text oids)))) list 0
unfolding field mech_types_text
length-mech_types None = refl
length-mech_types (Some list) = length-element 0xA0 (element 0x30 (oids_text list)) ∙ ap element_size (length-element 0x30 (oids_text list))

pub length-result : (result : Option NegResult) → length (field 0xA0 (option_map result_text result)) ≡ option_map_or (λ _. 5) result 0
unfolding field result_text element header len_short
length-result None = refl
length-result (Some result) = refl

pub result_field : (code : ℕ) → length (element 0xA0 (element 0x0A (code ∷ []))) ≡ 5
unfolding element header len_short
result_field code = refl

-- ---- object identifiers one after the other

oids_text-append : (xs ys : List (List ℕ)) → oids_text (xs ++ ys) ≡ oids_text xs ++ oids_text ys
unfolding oids_text
oids_text-append [] ys = refl
oids_text-append (x ∷ xs) ys = ap (λ (l : List ℕ). element 0x06 x ++ l) (oids_text-append xs ys)
    ∙ sym (append_assoc (element 0x06 x) (oids_text xs) (oids_text ys))

oids_text-one : (oid : List ℕ) → oids_text (oid ∷ []) ≡ element 0x06 oid
unfolding oids_text
oids_text-one oid = append-nil (element 0x06 oid)

-- the text so far, and the next identifier
pub oids_text-take : (oids : List (List ℕ)) (k : ℕ) (oid : List ℕ) → k < length oids → oid ≡ get_or oids k oid →
    oids_text (take (k + 1) oids) ≡ oids_text (take k oids) ++ element 0x06 oid
oids_text-take oids k oid lt is =
    ap oids_text (take_more oids k oid lt ∙ ap (λ (x : List ℕ). take k oids ++ x ∷ []) (sym is))
    ∙ oids_text-append (take k oids) (oid ∷ [])
    ∙ ap (λ (l : List ℕ). oids_text (take k oids) ++ l) (oids_text-one oid)

pub oids_more : (oids : List (List ℕ)) (k : ℕ) (oid : List ℕ) → k < length oids → oid ≡ get_or oids k oid →
    length (oids_text (take (k + 1) oids)) ≡ length (oids_text (take k oids)) + element_size (length oid)
oids_more oids k oid lt is =
    ap length (oids_text-take oids k oid lt is)
    ∙ length-append (oids_text (take k oids)) (element 0x06 oid)
    ∙ ap (λ (n : ℕ). length (oids_text (take k oids)) + n) (length-element 0x06 oid)

-- a prefix of the list is no longer than the whole
pub oids_front : (oids : List (List ℕ)) (k : ℕ) → length (oids_text (take k oids)) ≤ length (oids_text oids)
oids_front oids k =
    omega (
      arith,
      ap (λ (l : List (List ℕ)). length (oids_text l)) (sym (take-append-drop k oids))
          ∙ ap length (oids_text-append (take k oids) (drop k oids)) ∙ length-append (oids_text (take k oids)) (oids_text (drop k oids)),
    )

pub oids_text-nil : oids_text [] ≡ []
unfolding oids_text
oids_text-nil = refl

pub oids_none : length (oids_text []) ≡ 0
oids_none = ap length oids_text-nil

-- ---- whole tokens

pub length-init_fields : (token : NegTokenInit) → length (init_fields token) ≡ length
    (field 0xA0 (option_map mech_types_text token.mech_types)) + length (field 0xA2 (option_map (element 0x04) token.mech_token))
unfolding init_fields
length-init_fields token = length-append (field 0xA0 (option_map mech_types_text token.mech_types))
    (field 0xA2 (option_map (element 0x04) token.mech_token))

length-spnego : length (element 0x06 spnego) ≡ 8
unfolding element header len_short
length-spnego = refl

pub length-init_content : (token : NegTokenInit) → length (init_content token) ≡ 8 + element_size
    (element_size (length (init_fields token)))
unfolding init_content
length-init_content token =
    length-append (element 0x06 spnego) (element 0xA0 (element 0x30 (init_fields token)))
    ∙ ap (λ (n : ℕ). n + length (element 0xA0 (element 0x30 (init_fields token)))) length-spnego
    ∙ ap (λ (n : ℕ). 8 + n) (length-element 0xA0 (element 0x30 (init_fields token))
    ∙ ap element_size (length-element 0x30 (init_fields token)))

pub length-targ_fields : (token : NegTokenTarg) → length (targ_fields token) ≡ length
    (field 0xA0 (option_map result_text token.neg_result)) + (length (field 0xA1 (option_map (element 0x06) token.supported_mech))
    + (length (field 0xA2 (option_map (element 0x04) token.response_token)) + length
    (field 0xA3 (option_map (element 0x04) token.mech_list_mic))))
unfolding targ_fields last_fields octet_fields
length-targ_fields token = simp length-append

pub length-targ_content : (token : NegTokenTarg) → length (targ_content token) ≡ element_size (length (targ_fields token))
unfolding targ_content
length-targ_content token = length-element 0x30 (targ_fields token)

pub ruleset sizing = (
  element_size_more,
  length-octets,
  length-oid,
  length-mech_types,
  length-result,
  length-init_fields,
  length-init_content,
  length-targ_fields,
  length-targ_content,
)

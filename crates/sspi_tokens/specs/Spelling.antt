-- The shortest encoding of the tokens. There is none if a length passes the limit.
use Rattle.std.specs.Prelude.{ℕ, nat_le, List, [], ◌∷◌, ◌++◌, length, Option, None, Some}
use Rattle.std.specs.Prelude.{if◌then◌else◌}
use Rattle.std.specs.Option.{option_map}
use Rattle.sspi_ber.specs.Forms.{max_content}
use Rattle.sspi_ber.specs.Short.{element}
use Rattle.sspi_tokens.specs.Oids.{spnego}
use Rattle.sspi_tokens.specs.declared.neg_result.NegResult.{NegResult}
use Rattle.sspi_tokens.specs.declared.neg_result.NegResult.TheVariants.{AcceptComplete}
use Rattle.sspi_tokens.specs.declared.neg_result.NegResult.TheVariants.{AcceptIncomplete, Other}
use Rattle.sspi_tokens.specs.declared.neg_token_init.NegTokenInit.{NegTokenInit}
use Rattle.sspi_tokens.specs.declared.neg_token_targ.NegTokenTarg.{NegTokenTarg}

-- a tag around an encoded value, or nothing
unfoldable pub field : ℕ → Option (List ℕ) → List ℕ
field tag None = []
field tag (Some inner) = element tag inner

-- an element with this content, if it fits
unfoldable pub whole : ℕ → List ℕ → Option (List ℕ)
whole tag content = if nat_le (length content) max_content then Some (element tag content) else None

unfoldable pub oids_text : List (List ℕ) → List ℕ
oids_text [] = []
oids_text (oid ∷ oids) = element 0x06 oid ++ oids_text oids

-- a mechanism list alone
abbrev pub spelled_list : List (List ℕ) → Option (List ℕ)
spelled_list list = whole 0x30 (oids_text list)

unfoldable pub mech_types_text : List (List ℕ) → List ℕ
mech_types_text list = element 0x30 (oids_text list)

unfoldable pub init_fields : NegTokenInit → List ℕ
init_fields token = field 0xA0 (option_map mech_types_text token.mech_types) ++
    field 0xA2 (option_map (element 0x04) token.mech_token)

unfoldable pub init_content : NegTokenInit → List ℕ
init_content token = element 0x06 spnego ++ element 0xA0 (element 0x30 (init_fields token))

abbrev pub spelled_init : NegTokenInit → Option (List ℕ)
spelled_init token = whole 0x60 (init_content token)

-- accept-completed, accept-incomplete, and reject for any other
abbrev pub result_code : NegResult → ℕ
result_code AcceptComplete = 0
result_code AcceptIncomplete = 1
result_code Other = 2

unfoldable pub result_text : NegResult → List ℕ
result_text result = element 0x0A (result_code result ∷ [])

unfoldable pub octet_fields : NegTokenTarg → List ℕ
octet_fields token =
    field 0xA2 (option_map (element 0x04) token.response_token) ++
    field 0xA3 (option_map (element 0x04) token.mech_list_mic)

unfoldable pub last_fields : NegTokenTarg → List ℕ
last_fields token = field 0xA1 (option_map (element 0x06) token.supported_mech) ++
    octet_fields token

unfoldable pub targ_fields : NegTokenTarg → List ℕ
targ_fields token = field 0xA0 (option_map result_text token.neg_result) ++ last_fields token

unfoldable pub targ_content : NegTokenTarg → List ℕ
targ_content token = element 0x30 (targ_fields token)

abbrev pub spelled_targ : NegTokenTarg → Option (List ℕ)
spelled_targ token = whole 0xA1 (targ_content token)

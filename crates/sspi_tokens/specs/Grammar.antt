-- The tokens of SPNEGO (RFC 4178, section 4.2), as relations between bytes and tokens.
use Rattle.std.specs.Prelude.{◌≡◌, ℕ, List, [], ◌∷◌, ◌++◌, Option, if◌then◌else◌}
use Rattle.std.specs.Str.{bytes_eq}
use Rattle.sspi_ber.specs.Forms.{IsElement, IsNotNext}
use Rattle.sspi_tokens.specs.Oids.{spnego}
use Rattle.sspi_tokens.specs.Nested.{IsAround, IsWhole, IsOptional, InOrder}
use Rattle.sspi_tokens.specs.declared.neg_result.NegResult.{NegResult}
use Rattle.sspi_tokens.specs.declared.neg_result.NegResult.TheVariants.{AcceptComplete}
use Rattle.sspi_tokens.specs.declared.neg_result.NegResult.TheVariants.{AcceptIncomplete, Other}
use Rattle.sspi_tokens.specs.declared.neg_token_init.NegTokenInit.{NegTokenInit}
use Rattle.sspi_tokens.specs.declared.neg_token_targ.NegTokenTarg.{NegTokenTarg}

-- object identifiers one after the other, up to the first other tag
abbrev pub IsOids : List ℕ → List (List ℕ) → List ℕ → Type 0
IsOids text [] following = (text ≡ []) × IsNotNext 0x06 following
IsOids text (oid ∷ oids) following = (first rest : List ℕ) × (text ≡ first ++ rest) ×
    IsElement 0x06 first oid × IsOids rest oids following

-- MechTypeList: SEQUENCE OF OBJECT IDENTIFIER
abbrev pub IsMechTypes : List ℕ → List (List ℕ) → List ℕ → Type 0
IsMechTypes = IsAround 0x30 IsOids

-- an OCTET STRING inside a context-specific tag
abbrev pub IsOctets : ℕ → List ℕ → List ℕ → List ℕ → Type 0
IsOctets tag = IsAround tag (IsWhole 0x04)

-- The fields of NegTokenInit: mechTypes, flags of any content, mechToken, and any [3] (mechListMIC
-- of RFC 4178, negHints of MS-SPNG 2.2.1). What follows them is ignored.
abbrev pub IsInitFields : List ℕ → NegTokenInit → List ℕ → Type 0
IsInitFields text token following = (flags hints : Option (List ℕ))
    × InOrder (IsOptional 0xA0 (IsAround 0xA0 IsMechTypes)) (IsOptional 0xA1 (IsWhole 0xA1))
    (IsOptional 0xA2 (IsOctets 0xA2)) (IsOptional 0xA3 (IsWhole 0xA3))
    text token.mech_types flags token.mech_token hints following

-- the OBJECT IDENTIFIER of SPNEGO, followed by [0] around the SEQUENCE of the fields
pub record IsInitContent (text : List ℕ) (token : NegTokenInit) (following : List ℕ) : Type 0 where
  pub mech : List ℕ
  pub body : List ℕ
  pub parts : text ≡ mech ++ body
  pub mech_is : IsElement 0x06 mech spnego
  pub body_is : IsAround 0xA0 (IsAround 0x30 IsInitFields) body token following

-- NegTokenInit in the GSS-API frame of an initial token (RFC 2743, section 3.1)
abbrev pub IsInit : List ℕ → NegTokenInit → List ℕ → Type 0
IsInit = IsAround 0x60 IsInitContent

-- negState: accept-completed is 0 and accept-incomplete is 1
abbrev pub result_of : List ℕ → NegResult
result_of content = if bytes_eq content (0 ∷ []) then AcceptComplete
    else if bytes_eq content (1 ∷ []) then AcceptIncomplete else Other

abbrev pub IsResult : List ℕ → NegResult → List ℕ → Type 0
IsResult text result following = (content : List ℕ) × IsElement 0x0A text content ×
    (result ≡ result_of content)

-- the fields of NegTokenResp: negState, supportedMech, responseToken, mechListMIC
abbrev pub IsTargFields : List ℕ → NegTokenTarg → List ℕ → Type 0
IsTargFields text token following =
    InOrder (IsOptional 0xA0 (IsAround 0xA0 IsResult))
    (IsOptional 0xA1 (IsAround 0xA1 (IsWhole 0x06)))
    (IsOptional 0xA2 (IsOctets 0xA2)) (IsOptional 0xA3 (IsOctets 0xA3))
    text token.neg_result token.supported_mech token.response_token token.mech_list_mic following

-- [1] around the SEQUENCE of the fields
abbrev pub IsTarg : List ℕ → NegTokenTarg → List ℕ → Type 0
IsTarg = IsAround 0xA1 (IsAround 0x30 IsTargFields)

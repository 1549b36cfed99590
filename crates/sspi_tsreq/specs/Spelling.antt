-- How a TSRequest is written: each field in its shortest encoding (MS-CSSP 2.2.1).
use Rattle.std.specs.Prelude.{ℕ, ◌==◌, nat_le, Bool, not, ◌&&◌, List, [], ◌++◌, length, Option}
use Rattle.std.specs.Prelude.{None, Some, if◌then◌else◌}
use Rattle.sspi_types.specs.declared.nstatus.NStatusCode.{NStatusCode}
use Rattle.sspi_ber.specs.Forms.{max_content}
use Rattle.sspi_ber.specs.Short.{element, int_short}
use Rattle.sspi_tsreq.specs.declared.request.TsRequest.{TsRequest}

-- The code is written from version 3 on, except at version 5.
abbrev pub carries_code : ℕ → Bool
carries_code version = nat_le 3 version && not (version == 5)

-- The nonce is written from version 5 on.
abbrev pub carries_nonce : ℕ → Bool
carries_nonce version = nat_le 5 version

-- the part of a request that is written
abbrev pub carried : TsRequest → TsRequest
carried r = record r {
  error_code = (if carries_code r.version then r.error_code else None);
  client_nonce = (if carries_nonce r.version then r.client_nonce else None);
}

unfoldable pub version_field : ℕ → List ℕ
version_field version = element 0xA0 (int_short version)

-- a SEQUENCE with the token in [0]
unfoldable pub token_item : List ℕ → List ℕ
token_item token = element 0x30 (element 0xA0 (element 0x04 token))

-- the list of this one item
unfoldable pub token_list : List ℕ → List ℕ
token_list token = element 0x30 (token_item token)

unfoldable pub nego_field : Option (List ℕ) → List ℕ
nego_field None = []
nego_field (Some token) = element 0xA1 (token_list token)

unfoldable pub octets_field : ℕ → Option (List ℕ) → List ℕ
octets_field tag None = []
octets_field tag (Some octets) = element tag (element 0x04 octets)

unfoldable pub code_field : Option NStatusCode → List ℕ
code_field None = []
code_field (Some code) = element 0xA4 (int_short code.0)

-- the fields after pubKeyAuth
unfoldable pub last_fields : TsRequest → List ℕ
last_fields r = code_field r.error_code ++ octets_field 0xA5 r.client_nonce

-- the fields after negoTokens
unfoldable pub later_fields : TsRequest → List ℕ
later_fields r = octets_field 0xA2 r.auth_info ++
    (octets_field 0xA3 r.pub_key_auth ++ last_fields r)

-- all fields of a request, in their order
unfoldable pub fields : TsRequest → List ℕ
fields r = version_field r.version ++ (nego_field r.nego_tokens ++ later_fields r)

-- what is written of the request is short enough
abbrev pub fits : TsRequest → Bool
fits r = nat_le (length (fields (carried r))) max_content

unfoldable pub spelled : TsRequest → List ℕ
spelled r = element 0x30 (fields (carried r))

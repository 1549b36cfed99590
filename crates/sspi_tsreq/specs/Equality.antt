-- Equality of requests, field by field.
use Rattle.std.specs.Prelude.{ℕ, nat_eq, Bool, ◌&&◌, List, Option}
use Rattle.std.specs.Option.{option_eq}
use Rattle.std.specs.Cmp.Lexicographic.{pointwise}
use Rattle.sspi_types.specs.declared.nstatus.NStatusCode.{NStatusCode}
use Rattle.sspi_tsreq.specs.declared.request.TsRequest.{TsRequest}

abbrev pub same_octets : Option (List ℕ) → Option (List ℕ) → Bool
same_octets a b = option_eq (pointwise nat_eq) a b

abbrev pub same_code : Option NStatusCode → Option NStatusCode → Bool
same_code a b = option_eq (λ x y. nat_eq x.0 y.0) a b

abbrev pub same_request : TsRequest → TsRequest → Bool
same_request a b =
    nat_eq a.version b.version && (same_octets a.nego_tokens b.nego_tokens &&
    (same_octets a.auth_info b.auth_info
    && (same_octets a.pub_key_auth b.pub_key_auth &&
    (same_code a.error_code b.error_code && same_octets a.client_nonce b.client_nonce))))

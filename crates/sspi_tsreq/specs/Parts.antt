-- The request that the parts of its bytes represent.
use Rattle.std.specs.Option.{option_copied}
use Rattle.sspi_tsreq.specs.declared.parts.Parts.{Parts}
use Rattle.sspi_tsreq.specs.declared.request.TsRequest.{TsRequest}

abbrev pub seen : Parts → TsRequest
seen parts = record {
  version = parts.version;
  nego_tokens = option_copied parts.nego_tokens;
  auth_info = option_copied parts.auth_info;
  pub_key_auth = option_copied parts.pub_key_auth;
  error_code = parts.error_code;
  client_nonce = option_copied parts.client_nonce;
}

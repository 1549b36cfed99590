use Rattle.std.proofs.Common.{rules}
use Rattle.sspi_explain.specs.Request.{body_told}
use Rattle.sspi_explain.proofs.request.tell_body.Goals as goal

pub returns : goal.returns
unfolding body_told
returns c = (
  record {
    version = c.in_ok-version.version;
    nego_tokens = c.in_ok-tell_nego_tokens.ensures.0;
    auth_info = c.in_ok-tell_octets.ensures.0;
    pub_key_auth = c.in_ok-tell_octets-2.ensures.0;
    error_code = c.in_ok-tell_error_code.ensures.0;
    client_nonce = c.in_ok-tell_client_nonce.ensures.0;
  },
  search rules,
)

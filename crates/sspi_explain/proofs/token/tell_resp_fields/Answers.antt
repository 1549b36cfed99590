use Rattle.std.proofs.Common.{rules}
use Rattle.sspi_explain.specs.Token.{resp_fields_told}
use Rattle.sspi_explain.proofs.token.tell_resp_fields.Goals as goal

pub returns : goal.returns
unfolding resp_fields_told
returns c = (
  record {
    neg_result = c.in_ok-tell_neg_state.ensures.0;
    supported_mech = c.in_ok-tell_supported_mech.ensures.0;
    response_token = c.in_ok-tell_octets.ensures.0;
    mech_list_mic = c.in_ok-tell_octets-2.ensures.0;
  },
  search rules,
)

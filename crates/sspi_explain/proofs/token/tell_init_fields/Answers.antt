use Rattle.std.proofs.Common.{rules}
use Rattle.sspi_explain.specs.Token.{init_fields_told}
use Rattle.sspi_explain.proofs.token.tell_init_fields.Goals as goal

pub returns : goal.returns
unfolding init_fields_told
returns c = (
  record {
    mech_types = c.in_ok-tell_mech_types.ensures.0;
    mech_token =
        c.in_ok-tell_octets.ensures.0;
  },
  search rules,
)

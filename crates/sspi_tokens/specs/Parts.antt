-- The token that the parts of its bytes make up.
use Rattle.std.specs.Prelude.{ℕ, List, [], Ok, Err}
use Rattle.std.specs.Option.{option_copied, option_map}
use Rattle.sspi_ber.specs.Pieces.{Read}
use Rattle.sspi_tokens.specs.Reading.{oids_at}
use Rattle.sspi_tokens.specs.declared.neg_token_init.NegTokenInit.{NegTokenInit}
use Rattle.sspi_tokens.specs.declared.neg_token_targ.NegTokenTarg.{NegTokenTarg}
use Rattle.sspi_tokens.specs.declared.parts.InitParts.{InitParts}
use Rattle.sspi_tokens.specs.declared.parts.TargParts.{TargParts}

abbrev pub list_or_none : Read (List (List ℕ)) → List (List ℕ)
list_or_none (Ok oids) = oids.0
list_or_none (Err fault) = []

-- the object identifiers that the content of a list begins with
abbrev pub oids_in : List ℕ → List (List ℕ)
oids_in content = list_or_none (oids_at content)

abbrev pub init_seen : InitParts → NegTokenInit
init_seen parts = record {
  mech_types = option_map oids_in (option_copied parts.mech_types);
  mech_token = option_copied parts.mech_token;
}

abbrev pub targ_seen : TargParts → NegTokenTarg
targ_seen parts = record {
  neg_result = parts.neg_result;
  supported_mech = option_copied parts.supported_mech;
  response_token = option_copied parts.response_token;
  mech_list_mic = option_copied parts.mech_list_mic;
}

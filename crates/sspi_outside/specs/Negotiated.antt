-- A SPNEGO token over a mechanism that the host keeps: what it has in place of the mechanism's
-- token and of a MIC.
use Rattle.std.specs.Prelude.{◌≡◌, ℕ, List, Option, None, Some, option_map}
use Rattle.sspi_tokens.specs.declared.neg_token_init.NegTokenInit.{NegTokenInit}
use Rattle.sspi_tokens.specs.declared.neg_token_targ.NegTokenTarg.{NegTokenTarg}
use Rattle.sspi_credssp.specs.Requests.{unless_empty}
use Rattle.sspi_outside.specs.Hosting.{shown, text_of}
use Rattle.sspi_outside.specs.Outside.{OutsideState, outside_meaning}

-- the offer, with the envelope of the step in place of its token; if it has none, no step of the
-- host's is taken
abbrev pub offered : List ℕ → Option (List ℕ) → Option (List ℕ)
offered step None = None
offered step (Some token) = unless_empty step

abbrev pub handed_offer : NegTokenInit → List ℕ → NegTokenInit
handed_offer token step = record token { mech_token = offered step token.mech_token }

-- a later token, with the envelope of the step, if one was made, and with the list over which the
-- host found the MIC good, if it did
abbrev pub handed_response : NegTokenTarg → List ℕ → Option (List ℕ) → NegTokenTarg
handed_response token step verified = record token {
  response_token = unless_empty step;
  mech_list_mic = shown verified token.mech_list_mic;
}

-- the list over which the end's token needs a MIC
abbrev pub list_to_sign : NegTokenTarg → Option (List ℕ)
list_to_sign token = text_of token.mech_list_mic

-- the token with the host's MIC in place of that list
abbrev pub signed : List ℕ → NegTokenTarg → NegTokenTarg
signed mic token = record token { mech_list_mic = option_map (λ _. mic) token.mech_list_mic }

-- ---- the laws

-- A received MIC verifies over exactly the list over which the host reported it to be good, and
-- over none if it reported none.
abbrev pub MicIsGoodAsReported : Type 0
MicIsGoodAsReported = (m : OutsideState) (n : ℕ) (token : NegTokenTarg) (step : List ℕ)
    (verified : Option (List ℕ)) (mic list : List ℕ) →
    (handed_response token step verified).mech_list_mic ≡ Some mic →
    outside_meaning.verifies m n mic list → verified ≡ Some list

-- What the end signs is what the host is asked to sign.
abbrev pub ListToSignIsTheEnds : Type 0
ListToSignIsTheEnds = (m : OutsideState) (n : ℕ) (token : NegTokenTarg) (mic list : List ℕ) →
    outside_meaning.signs m n list mic → token.mech_list_mic ≡ Some mic →
    list_to_sign token ≡ Some list

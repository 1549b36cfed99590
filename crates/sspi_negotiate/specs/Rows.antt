-- What the client's rows and the server's rows have in common.
use Rattle.std.specs.Prelude.{ℕ, List, [], ◌∷◌, ◌||◌, ◌==◌, length, map, codes, unwrap_or}
use Rattle.std.specs.Prelude.{Option, None, Some, Bool, true, false, if◌then◌else◌}
use Rattle.std.specs.Int.RustNames.{bit_and}
use Rattle.sspi_types.specs.declared.client_request_flags.ClientRequestFlags.{ClientRequestFlags}
use Rattle.sspi_types.specs.declared.error_kind.ErrorKind.TheVariants.{InternalError, NoCredentials}
use Rattle.sspi_types.specs.declared.security_status.SecurityStatus.{SecurityStatus}
use Rattle.sspi_types.specs.declared.security_status.SecurityStatus.TheVariants as statuses
use Rattle.sspi_types.specs.declared.server_request_flags.ServerRequestFlags.{ServerRequestFlags}
use Rattle.sspi_names.specs.Name.{same_text}
use Rattle.sspi_names.specs.declared.credentials.Credentials.{Credentials}
use Rattle.sspi_names.specs.declared.credentials.Credentials.TheVariants.{AuthIdentity}
use Rattle.sspi_tokens.specs.declared.neg_result.NegResult.{NegResult}
use Rattle.sspi_tokens.specs.declared.neg_result.NegResult.TheVariants.{AcceptComplete}
use Rattle.sspi_tokens.specs.declared.neg_result.NegResult.TheVariants.{AcceptIncomplete, Other}
use Rattle.sspi_tokens.specs.declared.neg_token_targ.NegTokenTarg.{NegTokenTarg}
use Rattle.sspi_tokens.specs.Spelling.{spelled_list, spelled_targ}
use Rattle.sspi_negotiate.specs.declared.protocol.Protocol.{Protocol}
use Rattle.sspi_negotiate.specs.declared.protocol.Protocol.TheVariants as protocols
use Rattle.sspi_negotiate.specs.declared.state.NegotiateState.{NegotiateState}
use Rattle.sspi_negotiate.specs.declared.state.NegotiateState.TheVariants as states
use Rattle.sspi_negotiate.specs.Hand.{in_place_of_kerberos}
use Rattle.sspi_negotiate.specs.Known.{named}
use Rattle.sspi_negotiate.specs.Plan.{Plan, Goes, Stops, Takes, Names, Identifies, Signs, Verifies}
use Rattle.sspi_negotiate.specs.Values.{Values}

-- ---- flags, statuses and texts

-- whether a client asks for USE_SESSION_KEY or USE_DCE_STYLE, and a server for USE_DCE_STYLE
abbrev pub client_wants_mic : ClientRequestFlags → Bool
client_wants_mic flags = (bit_and flags.0 0x20 == 0x20) || (bit_and flags.0 0x200 == 0x200)

abbrev pub server_wants_mic : ServerRequestFlags → Bool
server_wants_mic flags = bit_and flags.0 0x200 == 0x200

-- whether an authentication is over
abbrev pub is_over : SecurityStatus → Bool
is_over statuses.Ok = true
is_over statuses.ContinueNeeded = false
is_over statuses.CompleteNeeded = true
is_over statuses.CompleteAndContinue = false
is_over statuses.LocalLogon = false
is_over statuses.ContextExpired = false
is_over statuses.IncompleteCredentials = false
is_over statuses.Renegotiate = false
is_over statuses.NoLsaContext = false

abbrev pub is_complete : Option NegResult → Bool
is_complete None = false
is_complete (Some AcceptComplete) = true
is_complete (Some AcceptIncomplete) = false
is_complete (Some Other) = false

-- the name of a guest, whose negotiation is not protected
abbrev pub is_guest_text : List ℕ → Bool
is_guest_text text = same_text text (codes "/GUEST")

-- ---- tokens

abbrev pub targ : NegResult → Option (List ℕ) → Option (List ℕ) → Option (List ℕ) → NegTokenTarg
targ result mech token mic = record {
  neg_result = Some result;
  supported_mech = mech;
  response_token = token;
  mech_list_mic = mic;
}

-- an empty token is left out, and one that is left out counts as empty
abbrev pub if_some : List ℕ → Option (List ℕ)
if_some [] = None
if_some (byte ∷ bytes) = Some (byte ∷ bytes)

abbrev pub or_empty : Option (List ℕ) → List ℕ
or_empty token = unwrap_or token []

-- The step ends with this text as its token. A token that is too long is not written, and leaves
-- the values from before.
abbrev pub written : Option (List ℕ) → Values → Values → SecurityStatus → Plan
written None v v2 status = Stops v InternalError
written (Some text) v v2 status = Goes v2 (record { status = status; output = text })

unfoldable pub writes : NegTokenTarg → Values → Values → SecurityStatus → Plan
writes token v v2 status = written (spelled_targ token) v v2 status

-- ---- the selected mechanism

-- NTLM is selected for what follows: a new one, if Kerberos was selected
abbrev pub in_ntlm : Protocol → List ℕ → Plan → Plan
in_ntlm protocols.Ntlm computer rest = rest
in_ntlm protocols.Kerberos computer rest = Takes (in_place_of_kerberos computer) rest

-- ---- MICs, which are made over the list as it is kept (RFC 4178, section 5)

abbrev pub signs_text : Option (List ℕ) → Values → (List ℕ → Plan) → Plan
signs_text None v rest = Stops v InternalError
signs_text (Some text) v rest = Signs text v rest

abbrev pub signs : Values → (List ℕ → Plan) → Plan
signs v rest = signs_text (spelled_list v.list) v rest

abbrev pub verifies_text : List ℕ → Option (List ℕ) → Values → Plan → Plan
verifies_text mic None v rest = Stops v InternalError
verifies_text mic (Some text) v rest = Verifies mic text v rest

abbrev pub verifies : List ℕ → Values → Plan → Plan
verifies mic v rest = verifies_text mic (spelled_list v.list) v rest

abbrev pub identifies_among : List Credentials → Values → Plan → Plan
identifies_among found v rest = if length found == 0 then Stops v NoCredentials
    else Identifies found v rest

abbrev pub identifies : Values → Plan → Plan
identifies v rest = Names v (λ name. identifies_among (map AuthIdentity (named name v.known)) v
    rest)

-- a server has its peer's key only once the peer's identity is found among those that it knows
abbrev pub checks : List ℕ → Values → Plan → Plan
checks mic v rest = identifies v (verifies mic v rest)

-- ---- the end of an authentication

-- the negotiation is over, without a MIC, and the need of MICs is set
unfoldable pub completes : Values → List ℕ → Bool → Plan
completes v token need = writes (targ AcceptComplete None (if_some token) None) v
    (record v { need = need; state = states.Ok }) statuses.Ok

-- a step ends with a token that has this end's MIC over the list
unfoldable pub answers_signed : NegResult → NegotiateState → SecurityStatus → Values → List ℕ → Plan
answers_signed result state status v token =
    signs v (λ mic. writes (targ result None (if_some token) (Some mic)) v
    (record v { state = state }) status)

-- the negotiation ends with this end's MIC, once the peer's was verified
abbrev pub completes_signed : Values → List ℕ → Plan
completes_signed v token = answers_signed AcceptComplete states.Ok statuses.Ok v token

-- this end's MIC goes first, and the peer's is still expected
abbrev pub hands_mic : Values → List ℕ → Plan
hands_mic v token = answers_signed AcceptIncomplete states.VerifyMic statuses.ContinueNeeded v token

-- the authentication goes on with this status
unfoldable pub carries_on : Values → List ℕ → SecurityStatus → Plan
carries_on v token status = writes (targ AcceptIncomplete None (Some token) None) v v status

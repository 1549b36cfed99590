-- The client of a negotiation (RFC 4178, section 5; MS-SPNG 3.1.5), one definition for each row of
-- its table.
use Rattle.std.specs.Prelude.{ℕ, List, [], ◌&&◌, not, option_map, Option, None, Some, Bool, true}
use Rattle.std.specs.Prelude.{false, if◌then◌else◌}
use Rattle.sspi_types.specs.declared.error_kind.ErrorKind.{ErrorKind}
use Rattle.sspi_types.specs.declared.error_kind.ErrorKind.TheVariants.{InvalidToken, OutOfSequence}
use Rattle.sspi_types.specs.declared.error_kind.ErrorKind.TheVariants.{InvalidParameter}
use Rattle.sspi_types.specs.declared.error_kind.ErrorKind.TheVariants.{InternalError}
use Rattle.sspi_types.specs.declared.security_status.SecurityStatus.{SecurityStatus}
use Rattle.sspi_types.specs.declared.security_status.SecurityStatus.TheVariants as statuses
use Rattle.sspi_names.specs.Identity.{password_buffers, buffers_of, identity_of}
use Rattle.sspi_names.specs.Utf16.{text_of}
use Rattle.sspi_names.specs.declared.credentials.CredentialsBuffers.{CredentialsBuffers}
use Rattle.sspi_names.specs.declared.credentials.CredentialsBuffers.TheVariants.{AuthIdentity}
use Rattle.sspi_names.specs.declared.credentials.CredentialsBuffers.TheVariants.{Keytab}
use Rattle.sspi_names.specs.declared.identity.AuthIdentity.{AuthIdentity as Identity}
use Rattle.sspi_names.specs.declared.identity.AuthIdentityBuffers.{AuthIdentityBuffers}
use Rattle.sspi_mech.specs.declared.step.Reply.{Reply}
use Rattle.sspi_mech.specs.declared.step.Step.{Step}
use Rattle.sspi_mech.specs.Calls.{StepArgs}
use Rattle.sspi_tokens.specs.declared.neg_token_targ.NegTokenTarg.{NegTokenTarg}
use Rattle.sspi_tokens.specs.declared.oid.MechKind.{MechKind}
use Rattle.sspi_tokens.specs.declared.oid.MechKind.TheVariants as kinds
use Rattle.sspi_tokens.specs.Oids.{kind_of}
use Rattle.sspi_tokens.specs.Reading.{targ_of}
use Rattle.sspi_tokens.specs.Spelling.{spelled_init}
use Rattle.sspi_negotiate.specs.declared.branch.Branch.{Branch}
use Rattle.sspi_negotiate.specs.declared.branch.Branch.TheVariants.{Idle, Opening, Answering}
use Rattle.sspi_negotiate.specs.declared.branch.Opening.{Opening as FirstStep}
use Rattle.sspi_negotiate.specs.declared.protocol.Protocol.{Protocol}
use Rattle.sspi_negotiate.specs.declared.protocol.Protocol.TheVariants as protocols
use Rattle.sspi_negotiate.specs.declared.state.NegotiateState.{NegotiateState}
use Rattle.sspi_negotiate.specs.declared.state.NegotiateState.TheVariants as states
use Rattle.sspi_negotiate.specs.declared.state.Role.{Role}
use Rattle.sspi_negotiate.specs.declared.state.Role.TheVariants.{Client, Server}
use Rattle.sspi_negotiate.specs.Fallback.{is_fallback}
use Rattle.sspi_negotiate.specs.Hand.{InPlaceOfNtlm, in_place_of_kerberos, is_kerberos_hand}
use Rattle.sspi_negotiate.specs.Pick.{offered}
use Rattle.sspi_negotiate.specs.Plan.{Plan, Goes, Stops, Takes, Steps, Resumes}
use Rattle.sspi_negotiate.specs.Rule.{rule_url, by_rule, ruled_values}
use Rattle.sspi_negotiate.specs.Rows.{client_wants_mic, is_complete, is_guest_text, or_empty}
use Rattle.sspi_negotiate.specs.Rows.{written}
use Rattle.sspi_negotiate.specs.Rows.{in_ntlm, verifies, completes, completes_signed, hands_mic}
use Rattle.sspi_negotiate.specs.Rows.{carries_on}
use Rattle.sspi_negotiate.specs.Values.{Values, is_waiting}

-- ---- the credentials of a step

-- the credentials, if they are a name and a password
abbrev pub passwords : Option CredentialsBuffers → Option CredentialsBuffers
passwords None = None
passwords (Some (AuthIdentity buffers)) = Some (AuthIdentity buffers)
passwords (Some (Keytab identity)) = None

-- NTLM steps with the password that the client keeps, Kerberos with what the call passes in
abbrev pub handle_for : Protocol → Option CredentialsBuffers → Option CredentialsBuffers →
    Option CredentialsBuffers
handle_for protocols.Ntlm kept handle = passwords kept
handle_for protocols.Kerberos kept handle = handle

abbrev pub step_of : Values → StepArgs → StepArgs
step_of v args = record args { handle = handle_for v.hand v.kept args.handle }

-- whether the user of these credentials is a guest
abbrev pub is_guest : Option CredentialsBuffers → Bool
is_guest None = false
is_guest (Some (AuthIdentity buffers)) = is_guest_text (text_of buffers.user)
is_guest (Some (Keytab identity)) = false

-- ---- Initial

abbrev pub first_step_of : StepArgs → FirstStep
first_step_of args = record {
  context_requirements = args.requirements;
  data_representation = args.representation;
  target_name = args.target;
  input = args.input;
}

-- the mechanism made its first step: the client offers what it may use, with that step's token
unfoldable pub offers : Values → List ℕ → Plan
offers v token =
    written (spelled_init (record {
      mech_types = Some (offered v.hand v.packages);
      mech_token = Some token;
    })) v
    (record v { state = states.InProgress; list = offered v.hand v.packages })
    statuses.ContinueNeeded

abbrev pub has_begun : SecurityStatus → Bool
has_begun statuses.Ok = true
has_begun statuses.ContinueNeeded = true
has_begun statuses.CompleteNeeded = false
has_begun statuses.CompleteAndContinue = false
has_begun statuses.LocalLogon = false
has_begun statuses.ContextExpired = false
has_begun statuses.IncompleteCredentials = false
has_begun statuses.Renegotiate = false
has_begun statuses.NoLsaContext = false

abbrev pub begun : Values → Step → Plan
begun v step = if has_begun step.status then offers v step.output else Stops v InternalError

-- NTLM makes the first step in place of Kerberos
unfoldable pub steps_again : Values → FirstStep → Plan
steps_again v first =
    Steps (record {
      handle = passwords v.kept;
      requirements = first.context_requirements;
      representation = first.data_representation;
      target = first.target_name;
      input = first.input;
    })
    (record v { branch = Opening first }) (begun v) (λ kind. Stops v kind)

unfoldable pub falls_back : Values → FirstStep → Plan
falls_back v first =
    Takes (in_place_of_kerberos v.computer)
    (steps_again (record v {
      hand = protocols.Ntlm;
      packages = record v.packages { kerberos = false };
    }) first)

-- the first step was refused: after some kinds NTLM replaces Kerberos, if it may be used
abbrev pub falls : Values → Values → FirstStep → ErrorKind → Plan
falls w v first kind = if is_fallback kind && is_kerberos_hand v.hand && v.packages.ntlm
    then falls_back v first else Stops w kind

unfoldable pub first_step : FirstStep → Values → StepArgs → Plan
first_step first v args = Steps (step_of v args) (record v { branch = Opening first }) (begun v)
    (falls v v first)

unfoldable pub at_initial : Values → StepArgs → Plan
at_initial v args = first_step (first_step_of args)
    (record v { need = client_wants_mic args.requirements }) args

-- ---- InProgress

-- the negotiation is over; nothing is left to send if the server said that it is complete
abbrev pub verified : Bool → Values → List ℕ → Plan
verified true v token = Goes (record v { state = states.Ok })
    (record { status = statuses.Ok; output = [] })
verified false v token = completes_signed v token

abbrev pub unprotected : Bool → Values → List ℕ → Plan
unprotected true v token = Goes (record v { state = states.Ok })
    (record { status = statuses.Ok; output = [] })
unprotected false v token = completes v token v.need

-- the authentication is over: what follows depends on the need and on the server's MIC
abbrev pub settles : Bool → Option (List ℕ) → Bool → Values → List ℕ → Plan
settles false mic complete v token = unprotected complete v token
settles true (Some mic) complete v token = verifies mic v (verified complete v token)
settles true None complete v token = hands_mic v token

abbrev pub is_ok : SecurityStatus → Bool
is_ok statuses.Ok = true
is_ok statuses.ContinueNeeded = false
is_ok statuses.CompleteNeeded = false
is_ok statuses.CompleteAndContinue = false
is_ok statuses.LocalLogon = false
is_ok statuses.ContextExpired = false
is_ok statuses.IncompleteCredentials = false
is_ok statuses.Renegotiate = false
is_ok statuses.NoLsaContext = false

abbrev pub stepped : NegTokenTarg → Values → Step → Plan
stepped token v step =
    if is_ok step.status
    then settles v.need token.mech_list_mic (is_complete token.neg_result) v step.output
    else carries_on v step.output step.status

-- the selected mechanism takes the server's token, or an empty one
unfoldable pub answers : NegTokenTarg → Values → StepArgs → Plan
answers token v args =
    Steps (record (step_of v args) { input = or_empty token.response_token })
    (record v { branch = Answering token })
    (stepped token v) (λ kind. Stops v kind)

abbrev pub without_ntlm : Values → Values
without_ntlm v = record v { packages = record v.packages { ntlm = false } }

-- a choice of Kerberos: if NTLM was selected, a new Kerberos replaces it, and MICs are needed
abbrev pub in_kerberos : Protocol → NegTokenTarg → Values → StepArgs → Plan
in_kerberos protocols.Kerberos token v args = answers token v args
in_kerberos protocols.Ntlm token v args =
    Takes (InPlaceOfNtlm None v.kdcs v.computer)
    (answers token (record v { hand = protocols.Kerberos; need = true }) args)

unfoldable pub chooses_kerberos : NegTokenTarg → Values → StepArgs → Plan
chooses_kerberos token v args = if v.packages.kerberos
    then in_kerberos v.hand token (without_ntlm v) args else Stops v InvalidToken

-- a choice of NTLM: MICs are needed, except for a guest
unfoldable pub chooses_ntlm : NegTokenTarg → Values → StepArgs → Plan
chooses_ntlm token v args =
    if v.packages.ntlm
    then in_ntlm v.hand v.computer
    (answers token (record v {
      hand = protocols.Ntlm;
      packages = record v.packages { kerberos = false };
      need = not (is_guest args.handle);
    }) args)
    else Stops v InvalidToken

abbrev pub chooses : MechKind → NegTokenTarg → Values → StepArgs → Plan
chooses kinds.MsKerberos token v args = chooses_kerberos token v args
chooses kinds.Kerberos token v args = chooses_kerberos token v args
chooses kinds.Ntlm token v args = chooses_ntlm token v args
chooses kinds.Other token v args = Stops v InvalidToken

-- a token without a choice changes neither the mechanism, the packages nor the need
abbrev pub chosen : Option MechKind → NegTokenTarg → Values → StepArgs → Plan
chosen None token v args = answers token v args
chosen (Some kind) token v args = chooses kind token v args

abbrev pub at_progress : Option NegTokenTarg → Values → StepArgs → Plan
at_progress None v args = Stops v InvalidToken
at_progress (Some token) v args = chosen (option_map kind_of token.supported_mech) token v args

-- ---- VerifyMic

abbrev pub last_mic : Option (List ℕ) → Values → Plan
last_mic None v = Goes v (record { status = statuses.ContinueNeeded; output = [] })
last_mic (Some mic) v = verifies mic v (Goes (record v { state = states.Ok })
    (record { status = statuses.Ok; output = [] }))

abbrev pub confirmed : NegTokenTarg → Values → Plan
confirmed token v = if is_complete token.neg_result then last_mic token.mech_list_mic v
    else Stops v InvalidToken

abbrev pub at_verify_mic : Option NegTokenTarg → Values → Plan
at_verify_mic None v = Stops v InvalidToken
at_verify_mic (Some token) v = confirmed token v

-- ---- each state

unfoldable pub client_at : NegotiateState → Values → StepArgs → Plan
client_at states.Initial v args = at_initial v args
client_at states.InProgress v args = at_progress (targ_of args.input) v args
client_at states.VerifyMic v args = at_verify_mic (targ_of args.input) v
client_at states.Ok v args = Stops v OutOfSequence

-- ---- what comes before each step

abbrev pub ruled : Option (List ℕ) → Values → StepArgs → Plan
ruled url v args = by_rule url v.kdcs v.computer (client_at v.state (ruled_values url v) args)

-- the credentials are kept
unfoldable pub keeps : Option Identity → Values → StepArgs → Plan
keeps None v args = Stops v InvalidParameter
keeps (Some identity) v args =
    ruled (rule_url v identity.username)
    (record v { kept = Some (AuthIdentity (buffers_of identity)) }) args

abbrev pub converts : Option AuthIdentityBuffers → Values → StepArgs → Plan
converts None v args = client_at v.state v args
converts (Some buffers) v args = keeps (identity_of buffers) v args

abbrev pub passwords_of : Option CredentialsBuffers → Option AuthIdentityBuffers
passwords_of None = None
passwords_of (Some credentials) = password_buffers credentials

unfoldable pub with_handle : Values → StepArgs → Plan
with_handle v args = converts (passwords_of args.handle) v args

-- a target that is named by its IP address is for NTLM alone, if that may be used
abbrev pub by_target : Bool → Values → StepArgs → Plan
by_target ip v args =
    if ip && v.packages.ntlm
    then in_ntlm v.hand v.computer
    (with_handle (record v {
      hand = protocols.Ntlm;
      packages = record v.packages { kerberos = false };
    }) args)
    else with_handle v args

-- whether no step can begin
abbrev pub is_closed : Role → NegotiateState → Branch → Bool
is_closed Server state branch = true
is_closed Client states.Initial branch = is_waiting branch
is_closed Client states.InProgress branch = is_waiting branch
is_closed Client states.VerifyMic branch = is_waiting branch
is_closed Client states.Ok branch = true

-- `ip` is whether the target is named by its IP address
abbrev pub spnego_client : Bool → Values → StepArgs → Plan
spnego_client ip v args = if is_closed v.role v.state v.branch then Stops v OutOfSequence
    else by_target ip v args

-- ---- once a KDC has replied

-- if the mechanism refuses it, the step still waits
unfoldable pub resumes_opening : FirstStep → Values → Reply → Plan
resumes_opening first v reply =
    Resumes reply (record v { branch = Opening first }) (begun v)
    (falls (record v { branch = Opening first }) v first)

unfoldable pub resumes_answering : NegTokenTarg → Values → Reply → Plan
resumes_answering token v reply =
    Resumes reply (record v { branch = Answering token }) (stepped token v)
    (λ kind. Stops (record v { branch = Answering token }) kind)

abbrev pub resumed_at : Branch → Values → Reply → Plan
resumed_at Idle v reply = Stops v OutOfSequence
resumed_at (Opening first) v reply = resumes_opening first (record v { branch = Idle }) reply
resumed_at (Answering token) v reply = resumes_answering token (record v { branch = Idle }) reply

abbrev pub spnego_resumed : Values → Reply → Plan
spnego_resumed v reply = resumed_at v.branch v reply

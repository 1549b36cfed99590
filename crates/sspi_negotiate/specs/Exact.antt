-- Refusals of a step that allocate nothing, and so are never reported as out of memory.
use Rattle.std.specs.Prelude.{ℕ, List, Option, None, Some, Bool, true, false, not}
use Rattle.sspi_types.specs.declared.error_kind.ErrorKind.{ErrorKind}
use Rattle.sspi_types.specs.declared.error_kind.ErrorKind.TheVariants.{InvalidToken, OutOfSequence}
use Rattle.sspi_mech.specs.declared.step.Answer.{Answer}
use Rattle.sspi_tokens.specs.Reading.{init_of, targ_of}
use Rattle.sspi_tokens.specs.declared.oid.MechKind.{MechKind}
use Rattle.sspi_tokens.specs.declared.oid.MechKind.TheVariants as kinds
use Rattle.sspi_negotiate.specs.declared.branch.Branch.{Branch}
use Rattle.sspi_negotiate.specs.declared.package_list.PackageListConfig.{PackageListConfig}
use Rattle.sspi_negotiate.specs.declared.state.NegotiateState.{NegotiateState}
use Rattle.sspi_negotiate.specs.declared.state.NegotiateState.TheVariants as states
use Rattle.sspi_negotiate.specs.declared.state.Role.{Role}
use Rattle.sspi_negotiate.specs.declared.state.Role.TheVariants.{Client, Server}
use Rattle.sspi_negotiate.specs.Client.{is_closed}
use Rattle.sspi_negotiate.specs.Follows.{IsRefusal}
use Rattle.sspi_negotiate.specs.Values.{is_waiting}

-- if there is such a refusal, the answer is a refusal of this kind
abbrev pub TellsKind : Option ErrorKind → Answer → Type 0
TellsKind None r = Unit {0}
TellsKind (Some kind) r = IsRefusal kind r

abbrev pub kind_if : Bool → ErrorKind → Option ErrorKind
kind_if true kind = Some kind
kind_if false kind = None

-- bytes that do not begin with a token of the form that is read
abbrev pub unread_refusal : {T : Type 0} → Option T → Option ErrorKind
unread_refusal None = Some InvalidToken
unread_refusal (Some token) = None

-- a server's step: on a client, after the end, and for bytes that do not begin with a token of the
-- form for the state
abbrev pub server_refusal : Role → NegotiateState → List ℕ → Option ErrorKind
server_refusal Client state input = Some OutOfSequence
server_refusal Server states.Initial input = unread_refusal (init_of input)
server_refusal Server states.InProgress input = unread_refusal (targ_of input)
server_refusal Server states.VerifyMic input = unread_refusal (targ_of input)
server_refusal Server states.Ok input = Some OutOfSequence

-- a client's step, if none can begin
abbrev pub client_refusal : Role → NegotiateState → Branch → Option ErrorKind
client_refusal role state branch = kind_if (is_closed role state branch) OutOfSequence

-- a resumed step, if none waits
abbrev pub resumed_refusal : Branch → Option ErrorKind
resumed_refusal branch = kind_if (not (is_waiting branch)) OutOfSequence

-- a server's choice of a mechanism that the client does not know, or that may not be used
abbrev pub choice_refusal : Option MechKind → PackageListConfig → Option ErrorKind
choice_refusal None packages = None
choice_refusal (Some kinds.MsKerberos) packages = kind_if (not packages.kerberos) InvalidToken
choice_refusal (Some kinds.Kerberos) packages = kind_if (not packages.kerberos) InvalidToken
choice_refusal (Some kinds.Ntlm) packages = kind_if (not packages.ntlm) InvalidToken
choice_refusal (Some kinds.Other) packages = Some InvalidToken

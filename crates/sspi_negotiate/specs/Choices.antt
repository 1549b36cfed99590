-- What a server's choice of a mechanism means to a client: once taken by a step, it stays (RFC
-- 4178, section 4.2.2).
use Rattle.std.specs.Prelude.{ℕ, List, ◌&&◌, Option, None, Some, option_and_then, option_map, Bool}
use Rattle.std.specs.Prelude.{true, false}
use Rattle.sspi_mech.specs.declared.step.Answer.{Answer}
use Rattle.sspi_mech.specs.declared.step.Answer.TheVariants.{Done, Ask, Refused}
use Rattle.sspi_mech.specs.Calls.{StepArgs}
use Rattle.sspi_tokens.specs.declared.neg_token_targ.NegTokenTarg.{NegTokenTarg}
use Rattle.sspi_tokens.specs.declared.oid.MechKind.{MechKind}
use Rattle.sspi_tokens.specs.declared.oid.MechKind.TheVariants as kinds
use Rattle.sspi_tokens.specs.Oids.{kind_of}
use Rattle.sspi_tokens.specs.Reading.{targ_of}
use Rattle.sspi_negotiate.specs.declared.protocol.Protocol.{Protocol}
use Rattle.sspi_negotiate.specs.declared.protocol.Protocol.TheVariants.{Kerberos, Ntlm}
use Rattle.sspi_negotiate.specs.declared.state.NegotiateState.{NegotiateState}
use Rattle.sspi_negotiate.specs.declared.state.NegotiateState.TheVariants.{Initial, InProgress}
use Rattle.sspi_negotiate.specs.declared.state.NegotiateState.TheVariants.{VerifyMic, Ok}
use Rattle.sspi_negotiate.specs.Client.{is_guest}
use Rattle.sspi_negotiate.specs.Values.{Values}

abbrev pub protocol_of : MechKind → Option Protocol
protocol_of kinds.MsKerberos = Some Kerberos
protocol_of kinds.Kerberos = Some Kerberos
protocol_of kinds.Ntlm = Some Ntlm
protocol_of kinds.Other = None

abbrev pub chosen_by : Option NegTokenTarg → Option Protocol
chosen_by None = None
chosen_by (Some token) = option_and_then protocol_of (option_map kind_of token.supported_mech)

-- the mechanism that the server's token chooses, if it is a known one
abbrev pub chosen_in : List ℕ → Option Protocol
chosen_in input = chosen_by (targ_of input)

-- the same for a state: a choice is taken only while the selected mechanism authenticates
abbrev pub chosen_at : NegotiateState → List ℕ → Option Protocol
chosen_at Initial input = None
chosen_at InProgress input = chosen_in input
chosen_at VerifyMic input = None
chosen_at Ok input = None

abbrev pub is_ntlm_choice : Option Protocol → Bool
is_ntlm_choice None = false
is_ntlm_choice (Some Kerberos) = false
is_ntlm_choice (Some Ntlm) = true

-- whether a choice can drop a client's need of MICs: one of NTLM, which may be used, for a guest
abbrev pub excuses_guest : Option Protocol → Values → StepArgs → Bool
excuses_guest choice v args = is_ntlm_choice choice && v.packages.ntlm && is_guest args.handle

abbrev pub other_protocol : Protocol → Protocol
other_protocol Kerberos = Ntlm
other_protocol Ntlm = Kerberos

-- a fact that holds if a step was made, or waits for a KDC
abbrev pub UnlessRefused : Answer → Type 0 → Type 0
UnlessRefused (Done step) P = P
UnlessRefused (Ask request) P = P
UnlessRefused (Refused error) P = Unit {0}

-- The steps of plain Kerberos: for each stage, what is done with the input or with the KDC's reply,
-- or the kind of the refusal.
use Rattle.std.specs.Prelude.{◌≡◌, ◌≢◌, ◌==◌, ℕ, Bool, true, false, List, [], replicate, Option}
use Rattle.std.specs.Prelude.{None, Some, Result, Ok, Err}
use Rattle.std.specs.Prelude.{if◌then◌else◌}
use Rattle.std.specs.Int.RustNames.{bit_and}
use Rattle.std.specs.Str.{bytes_eq, is_utf8}
use Rattle.sspi_types.specs.declared.client_request_flags.ClientRequestFlags.{ClientRequestFlags}
use Rattle.sspi_types.specs.declared.error.Error.{Error}
use Rattle.sspi_types.specs.declared.error_kind.ErrorKind.{ErrorKind}
use Rattle.sspi_types.specs.declared.error_kind.ErrorKind.TheVariants.{InvalidToken}
use Rattle.sspi_types.specs.declared.error_kind.ErrorKind.TheVariants.{UnknownCredentials}
use Rattle.sspi_types.specs.declared.error_kind.ErrorKind.TheVariants.{OutOfSequence}
use Rattle.sspi_types.specs.declared.error_kind.ErrorKind.TheVariants.{MutualAuthFailed}
use Rattle.sspi_types.specs.declared.error_kind.ErrorKind.TheVariants.{InsufficientMemory}
use Rattle.sspi_types.specs.declared.security_status.SecurityStatus.TheVariants as status
use Rattle.sspi_names.specs.Name.{Name, inner_of, parse_name}
use Rattle.sspi_names.specs.declared.credentials.CredentialsBuffers.{CredentialsBuffers}
use Rattle.sspi_names.specs.declared.network.NetworkRequest.{NetworkRequest}
use Rattle.sspi_mech.specs.declared.kerberos.arrival.Arrival.{Arrival}
use Rattle.sspi_mech.specs.declared.kerberos.logon.Logon.{Logon}
use Rattle.sspi_mech.specs.declared.kerberos.stage.Stage.{Stage}
use Rattle.sspi_mech.specs.declared.kerberos.stage.Stage.TheVariants.{Unused, PairingAsked}
use Rattle.sspi_mech.specs.declared.kerberos.stage.Stage.TheVariants.{TicketAsked, LogonAsked}
use Rattle.sspi_mech.specs.declared.kerberos.stage.Stage.TheVariants.{SessionAsked}
use Rattle.sspi_mech.specs.declared.kerberos.stage.Stage.TheVariants.{SessionSent, Ended}
use Rattle.sspi_mech.specs.declared.kerberos.stage.Stage.TheVariants.{TicketSent, Accepted}
use Rattle.sspi_mech.specs.declared.step.Progressing.{Progressing}
use Rattle.sspi_mech.specs.declared.step.Progressing.TheVariants.{Done, Suspended}
use Rattle.sspi_mech.specs.declared.step.Reply.{Reply}
use Rattle.sspi_mech.specs.declared.step.Step.{Step}
use Rattle.sspi_mech.specs.KerberosLogon.{kdc_of, logon_of, request_at, IsLate}
use Rattle.sspi_mech.specs.KerberosMessages.{reply_proof, ticket_request, ticket_reply, ap_request}
use Rattle.sspi_mech.specs.KerberosMessages.{ap_reply, is_ticket_request}
use Rattle.sspi_mech.specs.KerberosMessages.{read_ticket, read_ap_request, read_ap_reply}
use Rattle.sspi_mech.specs.KerberosMessages.{as_request, tgs_request}
use Rattle.sspi_mech.specs.KerberosReplies.{first_key_in, session_key_in}
use Rattle.sspi_mech.specs.KerberosStage.{KerberosState}
use Rattle.sspi_mech.specs.Named.{Named}

pub data Outcome : Type 0 where
  Goes : KerberosState → Step → Outcome
  Asks : KerberosState → NetworkRequest → Outcome
  Stops : ErrorKind → Outcome

abbrev pub keyed_with : KerberosState → List ℕ → Stage → KerberosState
keyed_with m key stage = record m {
  stage = stage;
  protection = record m.protection { key = Some key };
}

-- ---- a client's steps

-- whether a client asks for user-to-user authentication, by USE_SESSION_KEY
abbrev pub wants_pairing : ClientRequestFlags → Bool
wants_pairing flags = bit_and flags.0 0x20 == 0x20

-- the KDC is asked for a first key for the name
abbrev pub begins : KerberosState → Bool → Result Logon ErrorKind → Outcome
begins m true (Ok logon) = Asks (record m { stage = PairingAsked })
    (request_at logon.url (as_request (inner_of logon.name)))
begins m false (Ok logon) = Asks (record m { stage = LogonAsked logon.name })
    (request_at logon.url (as_request (inner_of logon.name)))
begins m pairs (Err kind) = Stops kind

-- the KDC is asked for a session key by the server's ticket
abbrev pub asks_by : KerberosState → List ℕ → List ℕ → Result Logon ErrorKind → Outcome
asks_by m key ticket (Ok logon) = Asks (record m { stage = SessionAsked logon.name })
    (request_at logon.url (tgs_request key ticket))
asks_by m key ticket (Err kind) = Stops kind

abbrev pub takes_ticket : KerberosState → List ℕ → Option (List ℕ) → Option CredentialsBuffers →
    Outcome
takes_ticket m key None handle = Stops InvalidToken
takes_ticket m key (Some ticket) handle = asks_by m key ticket (logon_of m.realms handle)

-- whether the server showed that it has the session key, and if not, why
abbrev pub proof_by : List ℕ → Option (List ℕ) → Result (Unit {0}) ErrorKind
proof_by key None = Err InvalidToken
proof_by key (Some proof) = if bytes_eq proof (reply_proof key) then Ok tt else Err MutualAuthFailed

abbrev pub shown_to : Option (List ℕ) → List ℕ → Result (Unit {0}) ErrorKind
shown_to None input = Err OutOfSequence
shown_to (Some key) input = proof_by key (read_ap_reply input)

abbrev pub ends : KerberosState → Name → Result (Unit {0}) ErrorKind → Outcome
ends m name (Ok shown) = Goes (record m { stage = Ended name })
    (record { status = status.Ok; output = [] })
ends m name (Err kind) = Stops kind

abbrev pub client_step : Stage → KerberosState → Option CredentialsBuffers → ClientRequestFlags →
    List ℕ → Outcome
client_step Unused m handle flags input = begins m (wants_pairing flags) (logon_of m.realms handle)
client_step PairingAsked m handle flags input = Stops OutOfSequence
client_step (TicketAsked key) m handle flags input = takes_ticket m key (read_ticket input) handle
client_step (LogonAsked name) m handle flags input = Stops OutOfSequence
client_step (SessionAsked name) m handle flags input = Stops OutOfSequence
client_step (SessionSent name) m handle flags input = ends m name (shown_to m.protection.key input)
client_step (Ended name) m handle flags input = Stops OutOfSequence
client_step TicketSent m handle flags input = Stops OutOfSequence
client_step (Accepted peer) m handle flags input = Stops OutOfSequence

-- ---- a client's steps once the KDC replied

-- the server is asked for its ticket
abbrev pub pairs : KerberosState → Result (List ℕ) ErrorKind → Outcome
pairs m (Ok key) = Goes (record m { stage = TicketAsked key })
    (record { status = status.ContinueNeeded; output = ticket_request })
pairs m (Err kind) = Stops kind

-- the KDC is asked for a session key without a ticket
abbrev pub asks_again : KerberosState → Name → List ℕ → Result (List ℕ) ErrorKind → Outcome
asks_again m name key (Ok url) = Asks (record m { stage = SessionAsked name })
    (request_at url (tgs_request key (replicate 32 0)))
asks_again m name key (Err kind) = Stops kind

abbrev pub logs_on : KerberosState → Name → Result (List ℕ) ErrorKind → Outcome
logs_on m name (Ok key) = asks_again m name key (kdc_of m.realms name)
logs_on m name (Err kind) = Stops kind

-- the server is sent the session key
abbrev pub sends : KerberosState → Name → Result (List ℕ) ErrorKind → Outcome
sends m name (Ok key) =
    Goes (keyed_with m key (SessionSent name))
    (record { status = status.ContinueNeeded; output = ap_request (inner_of name) key })
sends m name (Err kind) = Stops kind

abbrev pub resumed_step : Stage → KerberosState → Reply → Outcome
resumed_step Unused m reply = Stops OutOfSequence
resumed_step PairingAsked m reply = pairs m (first_key_in reply)
resumed_step (TicketAsked key) m reply = Stops OutOfSequence
resumed_step (LogonAsked name) m reply = logs_on m name (first_key_in reply)
resumed_step (SessionAsked name) m reply = sends m name (session_key_in reply)
resumed_step (SessionSent name) m reply = Stops OutOfSequence
resumed_step (Ended name) m reply = Stops OutOfSequence
resumed_step TicketSent m reply = Stops OutOfSequence
resumed_step (Accepted peer) m reply = Stops OutOfSequence

-- ---- the server

abbrev pub arrival_under : Named → Option Name → Result Arrival ErrorKind
arrival_under read None = Err UnknownCredentials
arrival_under read (Some name) = Ok (record { name = name; key = read.body })

-- who a client is and its session key: the name is UTF-8, and does not mix the forms of a name
abbrev pub arrival_in : Option Named → Result Arrival ErrorKind
arrival_in None = Err InvalidToken
arrival_in (Some read) = if is_utf8 read.name then arrival_under read (parse_name read.name)
    else Err InvalidToken

abbrev pub arrival_of : List ℕ → Result Arrival ErrorKind
arrival_of message = arrival_in (read_ap_request message)

abbrev pub admits : KerberosState → Bool → Result Arrival ErrorKind → Outcome
admits m paired (Ok arrival) =
    Goes (keyed_with m arrival.key
    (Accepted (record { name = arrival.name; user_to_user = paired })))
    (record { status = status.Ok; output = ap_reply arrival.key })
admits m paired (Err kind) = Stops kind

-- without a ticket, a request for it is malformed
abbrev pub sends_ticket : KerberosState → Option (List ℕ) → Outcome
sends_ticket m None = Stops InvalidToken
sends_ticket m (Some ticket) =
    Goes (record m { stage = TicketSent })
    (record { status = status.ContinueNeeded; output = ticket_reply ticket })

abbrev pub takes_first : KerberosState → Bool → List ℕ → Outcome
takes_first m true input = sends_ticket m m.ticket
takes_first m false input = admits m false (arrival_of input)

abbrev pub server_step : Stage → KerberosState → List ℕ → Outcome
server_step Unused m input = takes_first m (is_ticket_request input) input
server_step PairingAsked m input = Stops OutOfSequence
server_step (TicketAsked key) m input = Stops OutOfSequence
server_step (LogonAsked name) m input = Stops OutOfSequence
server_step (SessionAsked name) m input = Stops OutOfSequence
server_step (SessionSent name) m input = Stops OutOfSequence
server_step (Ended name) m input = Stops OutOfSequence
server_step TicketSent m input = admits m true (arrival_of input)
server_step (Accepted peer) m input = Stops OutOfSequence

-- ---- what a call that makes a step answers

-- What a step finds out only after copying a name from the credentials, where memory may run out.
-- No other step copies one.
abbrev pub IsFoundLate : Stage → ErrorKind → Type 0
IsFoundLate Unused kind = IsLate kind
IsFoundLate PairingAsked kind = ⊥
IsFoundLate (TicketAsked key) kind = IsLate kind
IsFoundLate (LogonAsked name) kind = ⊥
IsFoundLate (SessionAsked name) kind = ⊥
IsFoundLate (SessionSent name) kind = ⊥
IsFoundLate (Ended name) kind = ⊥
IsFoundLate TicketSent kind = ⊥
IsFoundLate (Accepted peer) kind = ⊥

-- where memory may run out: the step would be made, a KDC asked, or a refusal found late
abbrev pub MayWant : Stage → Outcome → Type 0
MayWant stage (Goes m step) = Unit {0}
MayWant stage (Asks m request) = Unit {0}
MayWant stage (Stops kind) = IsFoundLate stage kind

-- the refusal of the outcome; out of memory only where `MayWant` allows it
abbrev pub Stopped : Outcome → KerberosState → Error → KerberosState → Type 0
Stopped outcome m error m2 =
    (error.error_type ≢ InsufficientMemory → outcome ≡ Stops error.error_type)
    × (m2 ≡ m)
    × (error.error_type ≡ InsufficientMemory → MayWant m.stage outcome)

abbrev pub Moves : Outcome → KerberosState → Result Progressing Error → KerberosState → Type 0
Moves outcome m (Ok (Done step)) m2 = outcome ≡ Goes m2 step
Moves outcome m (Ok (Suspended request)) m2 = outcome ≡ Asks m2 request
Moves outcome m (Err error) m2 = Stopped outcome m error m2

abbrev pub Steps : Outcome → KerberosState → Result Step Error → KerberosState → Type 0
Steps outcome m (Ok step) m2 = outcome ≡ Goes m2 step
Steps outcome m (Err error) m2 = Stopped outcome m error m2

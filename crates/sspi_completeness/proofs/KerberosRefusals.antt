-- With which kinds a context of plain Kerberos refuses.
use Rattle.std.proofs.Common.{◌≡◌, ◌≢◌, ℕ, ◌==◌, List, [], ◌∷◌, Bool, true, false, Option, None, Some, Result, Ok, Err}
use Rattle.std.proofs.Common.{codes, subst, if◌then◌else◌}
use Rattle.std.specs.Str.{bytes_eq, is_utf8}
use Rattle.sspi_types.specs.declared.client_request_flags.ClientRequestFlags.{ClientRequestFlags}
use Rattle.sspi_types.specs.declared.credential_use.CredentialUse.{CredentialUse}
use Rattle.sspi_types.specs.declared.credential_use.CredentialUse.TheVariants as purposes
use Rattle.sspi_types.specs.declared.error_kind.ErrorKind.{ErrorKind}
use Rattle.sspi_types.specs.declared.error_kind.ErrorKind.TheVariants.{DowngradeDetected, InsufficientMemory}
use Rattle.sspi_types.specs.declared.error_kind.ErrorKind.TheVariants.{MutualAuthFailed, InvalidToken}
use Rattle.sspi_names.specs.Name.{Name, parse_name}
use Rattle.sspi_names.specs.declared.credentials.Credentials.{Credentials}
use Rattle.sspi_names.specs.declared.credentials.CredentialsBuffers.{CredentialsBuffers}
use Rattle.sspi_names.specs.declared.credentials.CredentialsBuffers.TheVariants as buffers
use Rattle.sspi_mech.specs.declared.kerberos.arrival.Arrival.{Arrival}
use Rattle.sspi_mech.specs.declared.kerberos.logon.Logon.{Logon}
use Rattle.sspi_mech.specs.declared.kerberos.realms.Realms.{Realms}
use Rattle.sspi_mech.specs.declared.kerberos.stage.Stage.{Stage}
use Rattle.sspi_mech.specs.declared.kerberos.stage.Stage.TheVariants.{Unused, PairingAsked, TicketAsked, LogonAsked, SessionAsked}
use Rattle.sspi_mech.specs.declared.kerberos.stage.Stage.TheVariants.{SessionSent, Ended, TicketSent, Accepted}
use Rattle.sspi_mech.specs.declared.step.Reply.{Reply}
use Rattle.sspi_mech.specs.declared.step.Reply.TheVariants.{Answered, Failed}
use Rattle.sspi_mech.specs.Calls.{Call, ToAcquire, ToName, ToIdentify, ToComplete, ToSeal, ToUnseal, ToSign, ToVerify, ToDescribe}
use Rattle.sspi_mech.specs.Calls.{ToShowKey}
use Rattle.sspi_mech.specs.Kerberos.{kerberos_meaning, kerberos_refusal, identified, identified_at, takes_any}
use Rattle.sspi_mech.specs.KerberosLogon.{acquired, name_or, name_in, url_or, kdc_of, short_name, logon_by, logon_at, logon_as, logon_of}
use Rattle.sspi_mech.specs.KerberosMessages.{reply_proof, is_ticket_request, read_ap_reply, read_ap_request, read_ticket}
use Rattle.sspi_mech.specs.KerberosReplies.{kind_of_code, kind_in, granted_or, granted, first_key_in, session_key_in}
use Rattle.sspi_mech.specs.KerberosStage.{KerberosState, name_at, peer_direction}
use Rattle.sspi_mech.specs.KerberosSteps.{Outcome, Goes, Asks, Stops, begins, asks_by, takes_ticket, proof_by, shown_to, ends, client_step}
use Rattle.sspi_mech.specs.KerberosSteps.{pairs, asks_again, logs_on, sends, resumed_step, arrival_under, arrival_in, arrival_of, admits}
use Rattle.sspi_mech.specs.KerberosSteps.{sends_ticket, takes_first, server_step, wants_pairing}
use Rattle.sspi_mech.specs.Named.{Named, after_letters, read_block}
use Rattle.sspi_credssp.specs.Context.{NeverRefuses}
use Rattle.sspi_completeness.proofs.NeverRefusing.{IsOther, IfOther, other_making, other_unseal, other_verify, other_absence}
use Rattle.sspi_completeness.proofs.NeverRefusing.{other_result, refused_other}

abbrev StopsOther : Outcome → Type 0
StopsOther (Goes m step) = Unit {0}
StopsOther (Asks m request) = Unit {0}
StopsOther (Stops kind) = kind ≢ DowngradeDetected

-- ---- calls on messages, and those that look

other_acquired : (use_of : CredentialUse) (asked : Option Credentials) → IfOther (acquired use_of asked)
other_acquired use_of (Some credentials) = tt
other_acquired purposes.Inbound None = tt
other_acquired purposes.Outbound None = λ e. absurd (cc (e))
other_acquired purposes.Both None = tt
other_acquired purposes.Default None = tt

other_takes : (m : KerberosState) (identities : List Credentials) → IfOther (takes_any m identities)
other_takes m [] = λ e. absurd (cc (e))
other_takes m (first ∷ rest) = tt

other_identified : (stage : Stage) (m : KerberosState) (identities : List Credentials) → IfOther (identified_at stage m identities)
other_identified Unused m identities = λ e. absurd (cc (e))
other_identified PairingAsked m identities = λ e. absurd (cc (e))
other_identified (TicketAsked key) m identities = λ e. absurd (cc (e))
other_identified (LogonAsked name) m identities = λ e. absurd (cc (e))
other_identified (SessionAsked name) m identities = λ e. absurd (cc (e))
other_identified (SessionSent name) m identities = λ e. absurd (cc (e))
other_identified (Ended name) m identities = λ e. absurd (cc (e))
other_identified TicketSent m identities = λ e. absurd (cc (e))
other_identified (Accepted peer) m identities = other_takes m identities

other_refusal : (m : KerberosState) (call : Call) → IsOther (kerberos_refusal m call)
other_refusal m (ToAcquire use_of asked) = other_result (acquired use_of asked) (other_acquired use_of asked)
other_refusal m ToName = other_absence (name_at m.stage)
other_refusal m (ToIdentify identities) = other_result (identified m identities) (other_identified m.stage m identities)
other_refusal m ToComplete = other_absence m.protection.key
other_refusal m (ToSeal text) = other_making m.protection.key m.protection.sealings
other_refusal m (ToUnseal blob) = other_unseal m.protection.key (peer_direction m.stage) m.protection.unsealings blob
other_refusal m (ToSign text) = other_making m.protection.key m.protection.signings
other_refusal m (ToVerify mic text) = other_verify m.protection.key (peer_direction m.stage) m.protection.verifications mic text
other_refusal m ToDescribe = tt
other_refusal m ToShowKey = other_absence m.protection.key

-- ---- who logs on, and where

other_name_or : (name : Option Name) → IfOther (name_or name)
other_name_or None = λ e. absurd (cc (e))
other_name_or (Some name) = tt

other_name : (handle : Option CredentialsBuffers) → IfOther (name_in handle)
other_name None = λ e. absurd (cc (e))
other_name (Some (buffers.AuthIdentity identity)) = other_name_or _
other_name (Some (buffers.Keytab identity)) = tt

other_url : (url : Option (List ℕ)) → IfOther (url_or url)
other_url None = λ e. absurd (cc (e))
other_url (Some url) = tt

other_logon_by : (name : Option Name) (url : List ℕ) → IfOther (logon_by name url)
other_logon_by None url = λ e. absurd (cc (e))
other_logon_by (Some name) url = tt

other_logon_at : (name : Name) (url : Result (List ℕ) ErrorKind) → IfOther url → IfOther (logon_at name url)
other_logon_at name (Ok url) h = other_logon_by (short_name name) url
other_logon_at name (Err kind) h = h

other_logon_as : (realms : Realms) (name : Result Name ErrorKind) → IfOther name → IfOther (logon_as realms name)
other_logon_as realms (Ok name) h = other_logon_at name (kdc_of realms name) (other_url _)
other_logon_as realms (Err kind) h = h

other_logon : (realms : Realms) (handle : Option CredentialsBuffers) → IfOther (logon_of realms handle)
other_logon realms handle = other_logon_as realms (name_in handle) (other_name handle)

-- ---- a client's steps

stops_begins : (m : KerberosState) (paired : Bool) (logon : Result Logon ErrorKind) → IfOther logon → StopsOther (begins m paired logon)
stops_begins m true (Ok logon) h = tt
stops_begins m false (Ok logon) h = tt
stops_begins m true (Err kind) h = h
stops_begins m false (Err kind) h = h

stops_asks : (m : KerberosState) (key ticket : List ℕ) (logon : Result Logon ErrorKind) → IfOther logon →
    StopsOther (asks_by m key ticket logon)
stops_asks m key ticket (Ok logon) h = tt
stops_asks m key ticket (Err kind) h = h

stops_takes : (m : KerberosState) (key : List ℕ) (ticket : Option (List ℕ)) (handle : Option CredentialsBuffers) →
    StopsOther (takes_ticket m key ticket handle)
stops_takes m key None handle = λ e. absurd (cc (e))
stops_takes m key (Some ticket) handle = stops_asks m key ticket (logon_of m.realms handle) (other_logon m.realms handle)

other_equal : (b : Bool) → IfOther {A = Unit {0}} (if b then Ok tt else Err MutualAuthFailed)
other_equal true = tt
other_equal false = λ e. absurd (cc (e))

other_proof : (key : List ℕ) (proof : Option (List ℕ)) → IfOther (proof_by key proof)
other_proof key None = λ e. absurd (cc (e))
other_proof key (Some proof) = other_equal (bytes_eq proof (reply_proof key))

other_shown : (key : Option (List ℕ)) (input : List ℕ) → IfOther (shown_to key input)
other_shown None input = λ e. absurd (cc (e))
other_shown (Some key) input = other_proof key (read_ap_reply input)

stops_ends : (m : KerberosState) (name : Name) (shown : Result (Unit {0}) ErrorKind) → IfOther shown → StopsOther (ends m name shown)
stops_ends m name (Ok shown) h = tt
stops_ends m name (Err kind) h = h

stops_client : (stage : Stage) (m : KerberosState) (handle : Option CredentialsBuffers) (flags : ClientRequestFlags) (input : List ℕ) →
    StopsOther (client_step stage m handle flags input)
stops_client Unused m handle flags input =
    stops_begins m (wants_pairing flags) (logon_of m.realms handle) (other_logon m.realms handle)
stops_client PairingAsked m handle flags input = λ e. absurd (cc (e))
stops_client (TicketAsked key) m handle flags input = stops_takes m key (read_ticket input) handle
stops_client (LogonAsked name) m handle flags input = λ e. absurd (cc (e))
stops_client (SessionAsked name) m handle flags input = λ e. absurd (cc (e))
stops_client (SessionSent name) m handle flags input =
    stops_ends m name (shown_to m.protection.key input) (other_shown m.protection.key input)
stops_client (Ended name) m handle flags input = λ e. absurd (cc (e))
stops_client TicketSent m handle flags input = λ e. absurd (cc (e))
stops_client (Accepted peer) m handle flags input = λ e. absurd (cc (e))

-- ---- once the KDC replied

apart_if : (b : Bool) (x y : ErrorKind) → x ≢ DowngradeDetected → y ≢ DowngradeDetected → (if b then x else y) ≢ DowngradeDetected
apart_if true x y h k = h
apart_if false x y h k = k

apart_code : (code : ℕ) → kind_of_code code ≢ DowngradeDetected
apart_code code =
    apart_if (code == 1) _ _ (λ e. absurd (cc (e)))
    (apart_if (code == 2) _ _ (λ e. absurd (cc (e)))
    (apart_if (code == 3) _ _ (λ e. absurd (cc (e)))
    (apart_if (code == 4) _ _ (λ e. absurd (cc (e)))
    (apart_if (code == 5) _ _ (λ e. absurd (cc (e))) (λ e. absurd (cc (e)))))))

apart_kind : (error : Option (List ℕ)) → kind_in error ≢ DowngradeDetected
apart_kind None = λ e. absurd (cc (e))
apart_kind (Some []) = λ e. absurd (cc (e))
apart_kind (Some (code ∷ [])) = apart_code code
apart_kind (Some (code ∷ more ∷ rest)) = λ e. absurd (cc (e))

other_granted_or : (key : Option (List ℕ)) (kind : ErrorKind) → kind ≢ DowngradeDetected → IfOther (granted_or key kind)
other_granted_or None kind h = h
other_granted_or (Some key) kind h = tt

other_granted : (letters : List ℕ) (reply : Reply) → IfOther (granted letters reply)
other_granted letters (Answered reply) = other_granted_or (read_block letters reply) _ (apart_kind (after_letters (codes "KE") reply))
other_granted letters Failed = λ e. absurd (cc (e))

stops_pairs : (m : KerberosState) (key : Result (List ℕ) ErrorKind) → IfOther key → StopsOther (pairs m key)
stops_pairs m (Ok key) h = tt
stops_pairs m (Err kind) h = h

stops_again : (m : KerberosState) (name : Name) (key : List ℕ) (url : Result (List ℕ) ErrorKind) → IfOther url →
    StopsOther (asks_again m name key url)
stops_again m name key (Ok url) h = tt
stops_again m name key (Err kind) h = h

stops_logs : (m : KerberosState) (name : Name) (key : Result (List ℕ) ErrorKind) → IfOther key → StopsOther (logs_on m name key)
stops_logs m name (Ok key) h = stops_again m name key (kdc_of m.realms name) (other_url _)
stops_logs m name (Err kind) h = h

stops_sends : (m : KerberosState) (name : Name) (key : Result (List ℕ) ErrorKind) → IfOther key → StopsOther (sends m name key)
stops_sends m name (Ok key) h = tt
stops_sends m name (Err kind) h = h

stops_resumed : (stage : Stage) (m : KerberosState) (reply : Reply) → StopsOther (resumed_step stage m reply)
stops_resumed Unused m reply = λ e. absurd (cc (e))
stops_resumed PairingAsked m reply = stops_pairs m (first_key_in reply) (other_granted (codes "KB") reply)
stops_resumed (TicketAsked key) m reply = λ e. absurd (cc (e))
stops_resumed (LogonAsked name) m reply = stops_logs m name (first_key_in reply) (other_granted (codes "KB") reply)
stops_resumed (SessionAsked name) m reply = stops_sends m name (session_key_in reply) (other_granted (codes "KS") reply)
stops_resumed (SessionSent name) m reply = λ e. absurd (cc (e))
stops_resumed (Ended name) m reply = λ e. absurd (cc (e))
stops_resumed TicketSent m reply = λ e. absurd (cc (e))
stops_resumed (Accepted peer) m reply = λ e. absurd (cc (e))

-- ---- the server

other_under : (read : Named) (name : Option Name) → IfOther (arrival_under read name)
other_under read None = λ e. absurd (cc (e))
other_under read (Some name) = tt

other_utf8 : (b : Bool) (arrival : Result Arrival ErrorKind) → IfOther arrival → IfOther (if b then arrival else Err InvalidToken)
other_utf8 true arrival h = h
other_utf8 false arrival h = λ e. absurd (cc (e))

other_arrival : (read : Option Named) → IfOther (arrival_in read)
other_arrival None = λ e. absurd (cc (e))
other_arrival (Some read) = other_utf8 (is_utf8 read.name) _ (other_under read (parse_name read.name))

stops_admits : (m : KerberosState) (paired : Bool) (arrival : Result Arrival ErrorKind) → IfOther arrival →
    StopsOther (admits m paired arrival)
stops_admits m paired (Ok arrival) h = tt
stops_admits m paired (Err kind) h = h

stops_ticket : (m : KerberosState) (ticket : Option (List ℕ)) → StopsOther (sends_ticket m ticket)
stops_ticket m None = λ e. absurd (cc (e))
stops_ticket m (Some ticket) = tt

stops_first : (m : KerberosState) (asked : Bool) (input : List ℕ) → StopsOther (takes_first m asked input)
stops_first m true input = stops_ticket m m.ticket
stops_first m false input = stops_admits m false (arrival_of input) (other_arrival (read_ap_request input))

stops_server : (stage : Stage) (m : KerberosState) (input : List ℕ) → StopsOther (server_step stage m input)
stops_server Unused m input = stops_first m (is_ticket_request input) input
stops_server PairingAsked m input = λ e. absurd (cc (e))
stops_server (TicketAsked key) m input = λ e. absurd (cc (e))
stops_server (LogonAsked name) m input = λ e. absurd (cc (e))
stops_server (SessionAsked name) m input = λ e. absurd (cc (e))
stops_server (SessionSent name) m input = λ e. absurd (cc (e))
stops_server (Ended name) m input = λ e. absurd (cc (e))
stops_server TicketSent m input = stops_admits m true (arrival_of input) (other_arrival (read_ap_request input))
stops_server (Accepted peer) m input = λ e. absurd (cc (e))

stopped_other : (out : Outcome) (kind : ErrorKind) → StopsOther out → (kind ≢ InsufficientMemory → out ≡ Stops kind) →
    kind ≢ DowngradeDetected
stopped_other out kind other stops = λ is.
    subst StopsOther (stops (λ memory. absurd (cc (is, memory)))) other is

pub kerberos_never : NeverRefuses kerberos_meaning DowngradeDetected
kerberos_never = record {
  makes = λ s never. never;
  calls = λ m call is. refused_other (kerberos_refusal m call) (other_refusal m call) is;
  steps = λ m m2 a error h. stopped_other (client_step m.stage m a.handle a.requirements a.input) error.error_type
      (stops_client m.stage m a.handle a.requirements a.input) h.0;
  resumes = λ m m2 reply error h. stopped_other (resumed_step m.stage m reply) error.error_type (stops_resumed m.stage m reply) h.0;
  accepts = λ m m2 a error h. stopped_other (server_step m.stage m a.input) error.error_type (stops_server m.stage m a.input) h.0;
}

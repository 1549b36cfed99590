-- Plain Kerberos is a mechanism.
use Rattle.std.specs.Prelude.{◌≡◌, ◌<◌, ◌≤◌, ℕ, List, [], ◌∷◌, Bool, true, false, Option, None}
use Rattle.std.specs.Prelude.{Some, Result, Ok, Err, refl}
use Rattle.std.proofs.Common.{ap, subst, arith}
use Rattle.sspi_types.specs.declared.client_request_flags.ClientRequestFlags.{ClientRequestFlags}
use Rattle.sspi_types.specs.declared.error.Error.{Error}
use Rattle.sspi_types.specs.declared.error_kind.ErrorKind.{ErrorKind}
use Rattle.sspi_names.specs.Name.{Name}
use Rattle.sspi_names.specs.declared.credentials.Credentials.{Credentials}
use Rattle.sspi_names.specs.declared.credentials.CredentialsBuffers.{CredentialsBuffers}
use Rattle.sspi_names.specs.declared.network.NetworkRequest.{NetworkRequest}
use Rattle.sspi_mech.specs.declared.kerberos.arrival.Arrival.{Arrival}
use Rattle.sspi_mech.specs.declared.kerberos.logon.Logon.{Logon}
use Rattle.sspi_mech.specs.declared.kerberos.stage.Stage.{Stage}
use Rattle.sspi_mech.specs.declared.kerberos.stage.Stage.TheVariants.{Unused, PairingAsked}
use Rattle.sspi_mech.specs.declared.kerberos.stage.Stage.TheVariants.{TicketAsked, LogonAsked}
use Rattle.sspi_mech.specs.declared.kerberos.stage.Stage.TheVariants.{SessionAsked}
use Rattle.sspi_mech.specs.declared.kerberos.stage.Stage.TheVariants.{SessionSent, Ended}
use Rattle.sspi_mech.specs.declared.kerberos.stage.Stage.TheVariants.{TicketSent, Accepted}
use Rattle.sspi_mech.specs.declared.step.Answer.{Answer}
use Rattle.sspi_mech.specs.declared.step.Answer.TheVariants.{Done, Ask, Refused}
use Rattle.sspi_mech.specs.declared.step.Reply.{Reply}
use Rattle.sspi_mech.specs.declared.step.Step.{Step}
use Rattle.sspi_mech.specs.Calls.{StepArgs, AcceptArgs}
use Rattle.sspi_mech.specs.Kerberos.{kerberos_meaning, kerberos_of, identified_at, Answers}
use Rattle.sspi_mech.specs.KerberosLogon.{kdc_of, logon_of}
use Rattle.sspi_mech.specs.KerberosMessages.{is_ticket_request, read_ticket}
use Rattle.sspi_mech.specs.KerberosReplies.{first_key_in, session_key_in}
use Rattle.sspi_mech.specs.KerberosStage.{KerberosState, own_direction, peer_direction, waits_at}
use Rattle.sspi_mech.specs.KerberosStage.{left_at}
use Rattle.sspi_mech.specs.KerberosSteps.{Outcome, Goes, Asks, Stops, Steps, wants_pairing, begins}
use Rattle.sspi_mech.specs.KerberosSteps.{asks_by, takes_ticket, shown_to}
use Rattle.sspi_mech.specs.KerberosSteps.{ends, client_step, pairs, asks_again, logs_on, sends}
use Rattle.sspi_mech.specs.KerberosSteps.{resumed_step, arrival_of, admits}
use Rattle.sspi_mech.specs.KerberosSteps.{sends_ticket, takes_first, server_step}
use Rattle.sspi_mech.specs.Laws.{IsMechanism}
use Rattle.sspi_mech.specs.Protection.{counts_of}
use Rattle.sspi_mech.specs.Settings.{Setting, OfNtlm, OfKerberos, OfKerberosServer}
use Rattle.sspi_mech.specs.Tags.{one_text, long_blob}

-- what an outcome keeps of its object, which may ask a KDC n times
abbrev pub Keeps : ℕ → KerberosState → Outcome → Type 0
Keeps n m (Goes m2 s) = (left_at m2.stage ≤ n) × (waits_at m2.stage ≡ false) ×
    (counts_of m2.protection ≡ counts_of m.protection)
Keeps n m (Asks m2 q) = (left_at m2.stage < n) × (waits_at m2.stage ≡ true) ×
    (counts_of m2.protection ≡ counts_of m.protection)
Keeps n m (Stops kind) = Unit {0}

begins_keeps : (m : KerberosState) (pairing : Bool) (logon : Result Logon ErrorKind) →
    Keeps 2 m (begins m pairing logon)
begins_keeps m true (Ok logon) = (omega arith, refl, refl)
begins_keeps m false (Ok logon) = (omega arith, refl, refl)
begins_keeps m true (Err kind) = tt
begins_keeps m false (Err kind) = tt

asks_by_keeps : (m : KerberosState) (key ticket : List ℕ) (logon : Result Logon ErrorKind) →
    Keeps 1 m (asks_by m key ticket logon)
asks_by_keeps m key ticket (Ok logon) = (omega arith, refl, refl)
asks_by_keeps m key ticket (Err kind) = tt

takes_ticket_keeps : (m : KerberosState) (key : List ℕ) (ticket : Option (List ℕ))
    (handle : Option CredentialsBuffers) →
    Keeps 1 m (takes_ticket m key ticket handle)
takes_ticket_keeps m key None handle = tt
takes_ticket_keeps m key (Some ticket) handle =
    asks_by_keeps m key ticket (logon_of m.realms handle)

ends_keeps : (m : KerberosState) (name : Name) (shown : Result (Unit {0}) ErrorKind) →
    Keeps 0 m (ends m name shown)
ends_keeps m name (Ok shown) = (omega arith, refl, refl)
ends_keeps m name (Err kind) = tt

client_keeps : (stage : Stage) (m : KerberosState) (handle : Option CredentialsBuffers)
    (flags : ClientRequestFlags) (input : List ℕ) →
    Keeps (left_at stage) m (client_step stage m handle flags input)
client_keeps Unused m handle flags input = begins_keeps m (wants_pairing flags)
    (logon_of m.realms handle)
client_keeps PairingAsked m handle flags input = tt
client_keeps (TicketAsked key) m handle flags input =
    takes_ticket_keeps m key (read_ticket input) handle
client_keeps (LogonAsked name) m handle flags input = tt
client_keeps (SessionAsked name) m handle flags input = tt
client_keeps (SessionSent name) m handle flags input =
    ends_keeps m name (shown_to m.protection.key input)
client_keeps (Ended name) m handle flags input = tt
client_keeps TicketSent m handle flags input = tt
client_keeps (Accepted peer) m handle flags input = tt

pairs_keeps : (m : KerberosState) (key : Result (List ℕ) ErrorKind) → Keeps 1 m (pairs m key)
pairs_keeps m (Ok key) = (omega arith, refl, refl)
pairs_keeps m (Err kind) = tt

asks_again_keeps : (m : KerberosState) (name : Name) (key : List ℕ)
    (url : Result (List ℕ) ErrorKind) →
    Keeps 1 m (asks_again m name key url)
asks_again_keeps m name key (Ok url) = (omega arith, refl, refl)
asks_again_keeps m name key (Err kind) = tt

logs_on_keeps : (m : KerberosState) (name : Name) (key : Result (List ℕ) ErrorKind) →
    Keeps 1 m (logs_on m name key)
logs_on_keeps m name (Ok key) = asks_again_keeps m name key (kdc_of m.realms name)
logs_on_keeps m name (Err kind) = tt

sends_keeps : (m : KerberosState) (name : Name) (key : Result (List ℕ) ErrorKind) →
    Keeps 0 m (sends m name key)
sends_keeps m name (Ok key) = (omega arith, refl, refl)
sends_keeps m name (Err kind) = tt

resumed_keeps : (stage : Stage) (m : KerberosState) (reply : Reply) →
    Keeps (left_at stage) m (resumed_step stage m reply)
resumed_keeps Unused m reply = tt
resumed_keeps PairingAsked m reply = pairs_keeps m (first_key_in reply)
resumed_keeps (TicketAsked key) m reply = tt
resumed_keeps (LogonAsked name) m reply = logs_on_keeps m name (first_key_in reply)
resumed_keeps (SessionAsked name) m reply = sends_keeps m name (session_key_in reply)
resumed_keeps (SessionSent name) m reply = tt
resumed_keeps (Ended name) m reply = tt
resumed_keeps TicketSent m reply = tt
resumed_keeps (Accepted peer) m reply = tt

admits_keeps : (n : ℕ) (m : KerberosState) (paired : Bool) (arrival : Result Arrival ErrorKind) →
    Keeps n m (admits m paired arrival)
admits_keeps n m paired (Ok arrival) = (omega arith, refl, refl)
admits_keeps n m paired (Err kind) = tt

sends_ticket_keeps : (n : ℕ) (m : KerberosState) (ticket : Option (List ℕ)) →
    Keeps n m (sends_ticket m ticket)
sends_ticket_keeps n m (Some ticket) = (omega arith, refl, refl)
sends_ticket_keeps n m None = tt

takes_first_keeps : (n : ℕ) (m : KerberosState) (asked : Bool) (input : List ℕ) →
    Keeps n m (takes_first m asked input)
takes_first_keeps n m true input = sends_ticket_keeps n m m.ticket
takes_first_keeps n m false input = admits_keeps n m false (arrival_of input)

server_keeps : (stage : Stage) (m : KerberosState) (input : List ℕ) →
    Keeps (left_at stage) m (server_step stage m input)
server_keeps Unused m input = takes_first_keeps 2 m (is_ticket_request input) input
server_keeps PairingAsked m input = tt
server_keeps (TicketAsked key) m input = tt
server_keeps (LogonAsked name) m input = tt
server_keeps (SessionAsked name) m input = tt
server_keeps (SessionSent name) m input = tt
server_keeps (Ended name) m input = tt
server_keeps TicketSent m input = admits_keeps 0 m true (arrival_of input)
server_keeps (Accepted peer) m input = tt

-- ---- answers

module _ (o : Outcome) (m m2 : KerberosState) (keeps : Keeps (left_at m.stage) m o) where
  done_keeps : (s : Step) → Answers o m (Done s) m2 → Keeps (left_at m.stage) m (Goes m2 s)
  done_keeps s done = subst (Keeps (left_at m.stage) m) done keeps

  ask_keeps : (q : NetworkRequest) → Answers o m (Ask q) m2 → Keeps (left_at m.stage) m (Asks m2 q)
  ask_keeps q asked = subst (Keeps (left_at m.stage) m) asked keeps

  answer_left : (r : Answer) → Answers o m r m2 → left_at m2.stage ≤ left_at m.stage
  answer_left (Done s) answered = (done_keeps s answered).0
  answer_left (Ask q) answered = omega (arith, (ask_keeps q answered).0)
  answer_left (Refused e) answered = omega (
    arith,
    ap (λ (x : KerberosState). left_at x.stage) answered.1,
  )

  answer_counts : (r : Answer) → Answers o m r m2 → counts_of m2.protection ≡ counts_of m.protection
  answer_counts (Done s) answered = (done_keeps s answered).2
  answer_counts (Ask q) answered = (ask_keeps q answered).2
  answer_counts (Refused e) answered = ap (λ (x : KerberosState). counts_of x.protection) answered.1

  step_keeps : (s : Step) → Steps o m (Ok s) m2 → Keeps (left_at m.stage) m (Goes m2 s)
  step_keeps s done = subst (Keeps (left_at m.stage) m) done keeps

  step_left : (r : Result Step Error) → Steps o m r m2 → left_at m2.stage ≤ left_at m.stage
  step_left (Ok s) stepped = (step_keeps s stepped).0
  step_left (Err e) stepped = omega (arith, ap (λ (x : KerberosState). left_at x.stage) stepped.1)

  step_counts : (r : Result Step Error) → Steps o m r m2 →
      counts_of m2.protection ≡ counts_of m.protection
  step_counts (Ok s) stepped = (step_keeps s stepped).2
  step_counts (Err e) stepped = ap (λ (x : KerberosState). counts_of x.protection) stepped.1

client_lawful : (m : KerberosState) (a : StepArgs) →
    Keeps (left_at m.stage) m (client_step m.stage m a.handle a.requirements a.input)
client_lawful m a = client_keeps m.stage m a.handle a.requirements a.input

resumed_lawful : (m : KerberosState) (b : Reply) →
    Keeps (left_at m.stage) m (resumed_step m.stage m b)
resumed_lawful m b = resumed_keeps m.stage m b

server_lawful : (m : KerberosState) (a : AcceptArgs) →
    Keeps (left_at m.stage) m (server_step m.stage m a.input)
server_lawful m a = server_keeps m.stage m a.input

-- ---- identities and making

identified_same : (stage : Stage) (m m2 : KerberosState) (ids : List Credentials) →
    identified_at stage m ids ≡ Ok m2 → m2 ≡ m
identified_same Unused m m2 ids is = cc
identified_same PairingAsked m m2 ids is = cc
identified_same (TicketAsked key) m m2 ids is = cc
identified_same (LogonAsked name) m m2 ids is = cc
identified_same (SessionAsked name) m m2 ids is = cc
identified_same (SessionSent name) m m2 ids is = cc
identified_same (Ended name) m m2 ids is = cc
identified_same TicketSent m m2 ids is = cc
identified_same (Accepted peer) m m2 [] is = cc
identified_same (Accepted peer) m m2 (first ∷ rest) is = cc

of_fresh : (s : Setting) → counts_of (kerberos_of s).protection ≡ record {
  sealings = 0;
  unsealings = 0;
  signings = 0;
  verifications = 0;
}
of_fresh (OfNtlm config) = refl
of_fresh (OfKerberos config) = refl
of_fresh (OfKerberosServer config server) = refl

of_left : (s : Setting) → left_at (kerberos_of s).stage ≡ 2
of_left (OfNtlm config) = refl
of_left (OfKerberos config) = refl
of_left (OfKerberosServer config server) = refl

pub kerberos_laws : IsMechanism 2 kerberos_meaning
kerberos_laws = record {
  made_fresh = λ s m made. rw made (of_fresh s);
  made_left = λ s m made. rw made (omega (arith, of_left s));
  step_refused = λ m m2 a e stepped. stepped.1;
  resume_refused = λ m m2 b e resumed. resumed.1;
  accept_refused = λ m m2 a e accepted. accepted.1;
  step_asks = λ m m2 a q stepped. (ask_keeps _ m m2 (client_lawful m a) q stepped).0;
  resume_asks = λ m m2 b q resumed. (ask_keeps _ m m2 (resumed_lawful m b) q resumed).0;
  acquire_left = λ m m2 u d b acquired. omega (
    arith,
    ap (λ (x : KerberosState). left_at x.stage) acquired.1,
  );
  step_left = λ m m2 a r stepped. answer_left _ m m2 (client_lawful m a) r stepped;
  resume_left = λ m m2 b r resumed. answer_left _ m m2 (resumed_lawful m b) r resumed;
  accept_left = λ m m2 a r accepted. step_left _ m m2 (server_lawful m a) r accepted;
  identify_left = λ m m2 ids is. omega (
    arith,
    ap (λ (x : KerberosState). left_at x.stage) (identified_same m.stage m m2 ids is),
  );
  step_waits = λ m m2 a q stepped. (ask_keeps _ m m2 (client_lawful m a) q stepped).1;
  resume_waits = λ m m2 b q resumed. (ask_keeps _ m m2 (resumed_lawful m b) q resumed).1;
  step_done = λ m m2 a s stepped. (done_keeps _ m m2 (client_lawful m a) s stepped).1;
  resume_done = λ m m2 b s resumed. (done_keeps _ m m2 (resumed_lawful m b) s resumed).1;
  accept_done = λ m m2 a s accepted. (step_keeps _ m m2 (server_lawful m a) s accepted).1;
  acquire_counts = λ m m2 u d b acquired. ap (λ (x : KerberosState). counts_of x.protection)
      acquired.1;
  step_counts = λ m m2 a r stepped. answer_counts _ m m2 (client_lawful m a) r stepped;
  resume_counts = λ m m2 b r resumed. answer_counts _ m m2 (resumed_lawful m b) r resumed;
  accept_counts = λ m m2 a r accepted. step_counts _ m m2 (server_lawful m a) r accepted;
  identify_counts = λ m m2 ids is. ap (λ (x : KerberosState). counts_of x.protection)
      (identified_same m.stage m m2 ids is);
  counts_counted = λ m n. refl;
  counted_counted = λ m n k. refl;
  counted_counts = λ m. refl;
  names_counted = λ m n. refl;
  keyed_counted = λ m n. refl;
  session_key_counted = λ m n. refl;
  waits_counted = λ m n. refl;
  left_counted = λ m n. refl;
  pairs_counted = λ m n. refl;
  seals_counted = λ m n i text blob sealed. sealed;
  opens_counted = λ m n i blob text opened. opened;
  signs_counted = λ m n i text mic signed. signed;
  verifies_counted = λ m n i mic text verified. verified;
  one_text = λ m i blob text other opened again. one_text m.protection.key (peer_direction m.stage)
      i blob text other opened again;
  long_blob = λ m i text blob sealed. long_blob m.protection.key (own_direction m.stage) i text blob
      sealed;
}

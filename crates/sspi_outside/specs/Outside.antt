-- The meaning of a mechanism whose steps, sealing and opening the host does.
use Rattle.std.specs.Prelude.{◌≡◌, ◌≢◌, ◌++◌, ℕ, List, [], ◌∷◌, Bool, true, false, length, nat_lt}
use Rattle.std.specs.Prelude.{Option, None, Some, is_some}
use Rattle.std.specs.Prelude.{Result, Ok, Err, if◌then◌else◌}
use Rattle.std.specs.Str.{bytes_eq}
use Rattle.sspi_types.specs.declared.error.Error.{Error}
use Rattle.sspi_types.specs.declared.error_kind.ErrorKind.{ErrorKind}
use Rattle.sspi_types.specs.declared.error_kind.ErrorKind.TheVariants.{OutOfSequence, InvalidToken}
use Rattle.sspi_types.specs.declared.error_kind.ErrorKind.TheVariants.{MessageAltered}
use Rattle.sspi_types.specs.declared.error_kind.ErrorKind.TheVariants.{UnsupportedFunction}
use Rattle.sspi_types.specs.declared.error_kind.ErrorKind.TheVariants.{InsufficientMemory}
use Rattle.sspi_types.specs.declared.security_status.SecurityStatus.TheVariants as status
use Rattle.sspi_types.specs.Packages.{ntlm_entry}
use Rattle.sspi_names.specs.declared.credentials.Credentials.{Credentials}
use Rattle.sspi_names.specs.declared.credentials.CredentialsBuffers.{CredentialsBuffers}
use Rattle.sspi_names.specs.Identity.{credentials_buffers_of}
use Rattle.sspi_names.specs.Name.{Name}
use Rattle.sspi_mech.specs.declared.step.Answer.{Answer}
use Rattle.sspi_mech.specs.declared.step.Answer.TheVariants.{Done, Ask, Refused}
use Rattle.sspi_mech.specs.declared.step.Reply.{Reply}
use Rattle.sspi_mech.specs.declared.step.Step.{Step}
use Rattle.sspi_mech.specs.Calls.{StepArgs, Counts, no_counts, Call, ToAcquire, ToName, ToIdentify}
use Rattle.sspi_mech.specs.Calls.{ToComplete, ToSeal, ToUnseal}
use Rattle.sspi_mech.specs.Calls.{ToSign, ToVerify, ToDescribe, ToShowKey}
use Rattle.sspi_mech.specs.Meaning.{Meaning}
use Rattle.sspi_mech.specs.Ntlm.{ntlm_sizes, absence}
use Rattle.sspi_mech.specs.Protection.{unless_spent}
use Rattle.sspi_mech.specs.Settings.{Setting}
use Rattle.sspi_outside.specs.Envelope.{Said, Ended, GoesOn, UserToUser, Denied, Unsaid, said}
use Rattle.sspi_outside.specs.Envelope.{IsKindOf}
use Rattle.sspi_outside.specs.Envelope.{Introduced, introduced, name_of, no_tag, text_in}

pub record OutsideState : Type 0 where
  -- whether the host said that its context has ended
  pub ended : Bool
  -- whether it said that this authenticates user-to-user or in DCE style
  pub pairs : Bool
  -- the peer's name that it gave last
  pub peer : Option Name
  pub counts : Counts

abbrev pub new_outside : OutsideState
new_outside = record { ended = false; pairs = false; peer = None; counts = no_counts }

-- ---- steps

pub data Outcome : Type 0 where
  Goes : OutsideState → Step → Outcome
  Stops : ErrorKind → Outcome
  -- the refusal of the host's context, by its code
  Denies : ℕ → Outcome

abbrev pub latest : Option Name → Option Name → Option Name
latest None before = before
latest (Some name) before = Some name

-- what the host said about a step, and about the peer's name
abbrev pub takes : OutsideState → Option Name → Said → Outcome
takes m heard (Ended token) =
    Goes (record m { ended = true; peer = latest heard m.peer })
    (record { status = status.Ok; output = token })
takes m heard (GoesOn token) = Goes (record m { peer = latest heard m.peer })
    (record { status = status.ContinueNeeded; output = token })
takes m heard (UserToUser token) = Goes (record m { pairs = true; peer = latest heard m.peer })
    (record { status = status.ContinueNeeded; output = token })
takes m heard (Denied code) = Denies code
takes m heard Unsaid = Stops InvalidToken

-- a name is given or left out; anything else is not an envelope
abbrev pub hears_of : OutsideState → Option Name → List ℕ → Outcome
hears_of m None step = Stops InvalidToken
hears_of m (Some name) step = takes m (Some name) (said step)

abbrev pub hears_name : OutsideState → List ℕ → List ℕ → Outcome
hears_name m [] step = takes m None (said step)
hears_name m (b ∷ name) step = hears_of m (name_of (b ∷ name)) step

abbrev pub hears : OutsideState → Option Introduced → Outcome
hears m None = Stops InvalidToken
hears m (Some it) = hears_name m it.name it.step

-- no step follows the one that ended the context
abbrev pub client_step : OutsideState → List ℕ → Outcome
client_step m envelope = if m.ended then Stops OutOfSequence else takes m None (said envelope)

abbrev pub server_step : OutsideState → List ℕ → Outcome
server_step m envelope = if m.ended then Stops OutOfSequence else hears m (introduced envelope)

-- the kinds with which such a step is refused, other than out of memory
abbrev pub IsStopped : Outcome → ErrorKind → Type 0
IsStopped (Goes m step) kind = ⊥
IsStopped (Stops stop) kind = kind ≡ stop
IsStopped (Denies code) kind = IsKindOf code kind

abbrev pub Steps : Outcome → OutsideState → Result Step Error → OutsideState → Type 0
Steps outcome m (Ok step) m2 = outcome ≡ Goes m2 step
Steps outcome m (Err error) m2 = (error.error_type ≢ InsufficientMemory →
    IsStopped outcome error.error_type) × (m2 ≡ m)

abbrev pub OutsideSteps : OutsideState → StepArgs → Answer → OutsideState → Type 0
OutsideSteps m args (Done step) m2 = Steps (client_step m args.input) m (Ok step) m2
OutsideSteps m args (Ask request) m2 = ⊥
OutsideSteps m args (Refused error) m2 = Steps (client_step m args.input) m (Err error) m2

abbrev pub OutsideResumes : OutsideState → Reply → Answer → OutsideState → Type 0
OutsideResumes m reply (Done step) m2 = ⊥
OutsideResumes m reply (Ask request) m2 = ⊥
OutsideResumes m reply (Refused error) m2 = (error.error_type ≡ OutOfSequence) × (m2 ≡ m)

-- ---- other calls

abbrev pub acquired : Option Credentials → Option CredentialsBuffers
acquired None = None
acquired (Some credentials) = Some (credentials_buffers_of credentials)

-- before the end of the context, and past the last number, no message is made or taken
abbrev pub unless_early : OutsideState → ℕ → Option ErrorKind → Option ErrorKind
unless_early m n refusal = if m.ended then unless_spent n refusal else Some OutOfSequence

abbrev pub unopened : List ℕ → Option ErrorKind
unopened blob = if nat_lt (length blob) 16 then Some InvalidToken else if is_some (text_in blob)
    then None else Some MessageAltered

abbrev pub is_text : Option (List ℕ) → List ℕ → Bool
is_text None text = false
is_text (Some signed) text = bytes_eq signed text

abbrev pub unverified : List ℕ → List ℕ → Option ErrorKind
unverified mic text = if is_text (text_in mic) text then None else Some MessageAltered

abbrev pub outside_refusal : OutsideState → Call → Option ErrorKind
outside_refusal m (ToAcquire use_of auth_data) = None
outside_refusal m ToName = absence m.peer
outside_refusal m (ToIdentify identities) = None
outside_refusal m ToComplete = if m.ended then None else Some OutOfSequence
outside_refusal m (ToSeal text) = unless_early m m.counts.sealings None
outside_refusal m (ToUnseal blob) = unless_early m m.counts.unsealings (unopened blob)
outside_refusal m (ToSign text) = unless_early m m.counts.signings None
outside_refusal m (ToVerify mic text) = unless_early m m.counts.verifications (unverified mic text)
outside_refusal m ToDescribe = None
outside_refusal m ToShowKey = Some UnsupportedFunction

abbrev pub outside_meaning : Meaning Setting OutsideState
outside_meaning = record {
  made = λ setting m. m ≡ new_outside;
  unmade = λ setting kind. ⊥;
  acquires = λ m use_of auth_data given m2. (given ≡ acquired auth_data) × (m2 ≡ m);
  steps = OutsideSteps;
  resumes = OutsideResumes;
  accepts = λ m args answer m2. Steps (server_step m args.input) m answer m2;
  identifies = λ m identities m2. m2 ≡ m;
  names = λ m. m.peer;
  keyed = λ m. m.ended;
  session_key = λ m. None;
  waits = λ m. false;
  left = λ m. 0;
  pairs = λ m. m.pairs;
  counts = λ m. m.counts;
  counted = λ m n. record m { counts = n };
  seals = λ m n text blob. blob ≡ no_tag ++ text;
  opens = λ m n blob text. text_in blob ≡ Some text;
  signs = λ m n text mic. mic ≡ no_tag ++ text;
  verifies = λ m n mic text. text_in mic ≡ Some text;
  permits = λ m call. outside_refusal m call ≡ None;
  refuses = λ m call kind. outside_refusal m call ≡ Some kind;
  entry = λ m. ntlm_entry;
  sizes = λ m. ntlm_sizes;
}

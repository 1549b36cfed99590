-- The result of a plan when the plain mechanisms follow it, evaluated.
use Rattle.std.proofs.Common.{◌≡◌, ◌≢◌, ◌==◌, ◌^◌, ◌-◌, ℕ, Bool, true, false, filter, take, List, Option, None, Some, Result, Ok, Err}
use Rattle.std.proofs.Common.{refl, ap, sym, ◌∙◌, subst, if◌then◌else◌}
use Rattle.std.specs.Result.{result_err}
use Rattle.sspi_types.specs.declared.error.Error.{Error}
use Rattle.sspi_types.specs.declared.error_kind.ErrorKind.{ErrorKind}
use Rattle.sspi_types.specs.declared.error_kind.ErrorKind.TheVariants.{InsufficientMemory, ContextExpired}
use Rattle.sspi_names.specs.declared.credentials.Credentials.{Credentials}
use Rattle.sspi_names.specs.declared.network.NetworkRequest.{NetworkRequest}
use Rattle.sspi_names.specs.Name.{Name}
use Rattle.sspi_mech.specs.declared.protection.Direction.{Direction}
use Rattle.sspi_mech.specs.declared.protection.Protection.{Protection}
use Rattle.sspi_mech.specs.declared.step.Answer.{Answer}
use Rattle.sspi_mech.specs.declared.step.Answer.TheVariants.{Done, Ask, Refused}
use Rattle.sspi_mech.specs.declared.step.Reply.{Reply}
use Rattle.sspi_mech.specs.declared.step.Step.{Step}
use Rattle.sspi_mech.specs.Calls.{StepArgs, AcceptArgs, ToSign, ToName, ToIdentify, ToVerify, one_signing, one_verification}
use Rattle.sspi_mech.specs.Kerberos.{kerberos_meaning, kerberos_of, Answers}
use Rattle.sspi_mech.specs.Kerberos as kerberos
use Rattle.sspi_mech.specs.KerberosStage.{KerberosState}
use Rattle.sspi_mech.specs.KerberosStage as kerberos_stage
use Rattle.sspi_mech.specs.KerberosSteps as kerberos_steps
use Rattle.sspi_mech.specs.Meaning.{Meaning}
use Rattle.sspi_mech.specs.Ntlm.{ntlm_meaning, ntlm_of, absence}
use Rattle.sspi_mech.specs.NtlmIdentities as ntlm
use Rattle.sspi_mech.specs.NtlmStage.{NtlmState}
use Rattle.sspi_mech.specs.NtlmStage as ntlm_stage
use Rattle.sspi_mech.specs.NtlmSteps as ntlm_steps
use Rattle.sspi_mech.specs.Protection.{SignsBy, making_refusal, verify_refusal, mic_of}
use Rattle.sspi_mech.specs.Settings.{OfKerberos, OfKerberosServer}
use Rattle.sspi_mech.specs.NtlmIdentities.{has_password}
use Rattle.sspi_negotiate.specs.declared.protocol.NegotiatedProtocol.{NegotiatedProtocol}
use Rattle.sspi_negotiate.specs.declared.protocol.NegotiatedProtocol.TheVariants.{Ntlm, Kerberos}
use Rattle.sspi_negotiate.specs.declared.protocol_config.ProtocolConfig.TheVariants as configs
use Rattle.sspi_negotiate.specs.Does.{told}
use Rattle.sspi_negotiate.specs.Follows.{answered, refused, Went, Follows}
use Rattle.sspi_negotiate.specs.Hand.{Origin, Configured, InPlaceOfNtlm, hand, kerberos_setting}
use Rattle.sspi_negotiate.specs.Plan.{Plan, Goes, Stops, Takes, Steps, Resumes, Accepts, Pairs, Names, Identifies, Signs, Verifies}
use Rattle.sspi_negotiate.specs.Values.{Values}

abbrev pub M : Type 0
M = NegotiatedProtocol NtlmState KerberosState

abbrev pub h : Meaning Origin M
h = hand ntlm_meaning kerberos_meaning

-- ---- what is computed of a mechanism

-- a new one
abbrev pub made_of : Origin → M
made_of (Configured (configs.Ntlm config)) = Ntlm (ntlm_of config)
made_of (Configured (configs.Kerberos config)) = Kerberos (kerberos_of (OfKerberos config))
made_of (Configured (configs.KerberosServer config server)) = Kerberos (kerberos_of (OfKerberosServer config server))
made_of (InPlaceOfNtlm url kdcs computer) = Kerberos (kerberos_of (kerberos_setting url kdcs computer))

-- it makes a step, or asks a KDC; or nothing is said of it
pub data Move : Type 0 where
  Makes : M → Step → Move
  Asks : KerberosState → NetworkRequest → Move
  Unmade : Move

abbrev pub ntlm_move : ntlm_steps.Outcome → Move
ntlm_move (ntlm_steps.Goes m step) = Makes (Ntlm m) step
ntlm_move (ntlm_steps.Stops kind) = Unmade

abbrev pub kerberos_move : kerberos_steps.Outcome → Move
kerberos_move (kerberos_steps.Goes m step) = Makes (Kerberos m) step
kerberos_move (kerberos_steps.Asks m request) = Asks m request
kerberos_move (kerberos_steps.Stops kind) = Unmade

abbrev pub client_move : M → StepArgs → Move
client_move (Ntlm m) args = ntlm_move (ntlm_steps.client_step m.stage m args.handle args.input)
client_move (Kerberos m) args = kerberos_move (kerberos_steps.client_step m.stage m args.handle args.requirements args.input)

abbrev pub resumed_move : M → Reply → Move
resumed_move (Ntlm m) reply = Unmade
resumed_move (Kerberos m) reply = kerberos_move (kerberos_steps.resumed_step m.stage m reply)

abbrev pub server_move : M → AcceptArgs → Move
server_move (Ntlm m) args = ntlm_move (ntlm_steps.server_step m.stage m args.input)
server_move (Kerberos m) args = kerberos_move (kerberos_steps.server_step m.stage m args.input)

abbrev pub with_ntlm : Result NtlmState ErrorKind → Result M ErrorKind
with_ntlm (Ok m) = Ok (Ntlm m)
with_ntlm (Err kind) = Err kind

abbrev pub with_kerberos : Result KerberosState ErrorKind → Result M ErrorKind
with_kerberos (Ok m) = Ok (Kerberos m)
with_kerberos (Err kind) = Err kind

abbrev pub identified : M → List Credentials → Result M ErrorKind
identified (Ntlm m) identities = with_ntlm (ntlm.identified m (filter has_password identities))
identified (Kerberos m) identities = with_kerberos (kerberos.identified m (take 1 identities))

abbrev pub protection_of : M → Protection
protection_of (Ntlm m) = m.protection
protection_of (Kerberos m) = m.protection

abbrev pub own_direction : M → Direction
own_direction (Ntlm m) = ntlm_stage.own_direction m.stage
own_direction (Kerberos m) = kerberos_stage.own_direction m.stage

abbrev pub peer_direction : M → Direction
peer_direction (Ntlm m) = ntlm_stage.peer_direction m.stage
peer_direction (Kerberos m) = kerberos_stage.peer_direction m.stage

-- an object of Kerberos, once it sealed and opened this many messages
abbrev pub used : KerberosState → ℕ → ℕ → KerberosState
used m sealed unsealed = record m { protection = record m.protection { sealings = sealed; unsealings = unsealed } }

abbrev pub signed_once : M → M
signed_once m = h.counted m (one_signing (h.counts m))

abbrev pub verified_once : M → M
verified_once m = h.counted m (one_verification (h.counts m))

-- ---- what is computed of a plan

-- the step is made, or waits for a KDC, with these values and this mechanism; or nothing is said of it
pub data End : Type 0 where
  Ends : Values → Step → M → End
  Waits : Values → NetworkRequest → KerberosState → End
  Unsaid : End

abbrev pub on_move : Move → Values → (M → Step → End) → End
on_move (Makes m step) v go = go m step
on_move (Asks m request) v go = Waits v request m
on_move Unmade v go = Unsaid

abbrev pub on_some : {A : Type 0} → Option A → (A → End) → End
on_some None go = Unsaid
on_some (Some x) go = go x

abbrev pub on_made : Result M ErrorKind → (M → End) → End
on_made (Ok m) go = go m
on_made (Err kind) go = Unsaid

abbrev pub on_key : Option (List ℕ) → Bool → (List ℕ → End) → End
on_key None spent go = Unsaid
on_key (Some key) true go = Unsaid
on_key (Some key) false go = go key

abbrev pub unless_refused : Option ErrorKind → End → End
unless_refused None go = go
unless_refused (Some kind) go = Unsaid

abbrev pub runs : Plan → M → End
runs (Goes v step) m = Ends v step m
runs (Stops v kind) m = Unsaid
runs (Takes origin p) m = runs p (made_of origin)
runs (Steps args v go fall) m = on_move (client_move m args) v (λ m2 step. runs (go step) m2)
runs (Resumes reply v go fall) m = on_move (resumed_move m reply) v (λ m2 step. runs (go step) m2)
runs (Accepts args v go) m = on_move (server_move m args) v (λ m2 step. runs (go step) m2)
runs (Pairs go) m = runs (go (h.pairs m)) m
runs (Names v go) m = on_some (h.names m) (λ name. runs (go name) m)
runs (Identifies identities v p) m = on_made (identified m identities) (λ m2. runs p m2)
runs (Signs text v go) m = on_key (protection_of m).key ((protection_of m).signings == 2 ^ 64 - 1)
    (λ key. runs (go (mic_of key (own_direction m) (protection_of m).signings text)) (signed_once m))
runs (Verifies mic text v p) m =
    unless_refused (verify_refusal (protection_of m).key (peer_direction m) (protection_of m).verifications mic text)
    (runs p (verified_once m))

-- ---- it is the result of the plan

-- out of memory may come in place of any answer
abbrev pub IsDecided : Answer → Type 0
IsDecided r = (error : Error) → r ≡ Refused error → error.error_type ≢ InsufficientMemory

abbrev pub Is : End → Answer → Values → M → Type 0
Is (Ends v step m) r v2 m2 = (r ≡ Done step) × (v2 ≡ v) × (m2 ≡ m)
Is (Waits v request m) r v2 m2 = (r ≡ Ask request) × (v2 ≡ v) × (m2 ≡ Kerberos m)
Is Unsaid r v2 m2 = Unit {0}

abbrev MoveIs : Move → Answer → M → Type 0
MoveIs (Makes m step) x m2 = (x ≡ Done step) × (m2 ≡ m)
MoveIs (Asks m request) x m2 = (x ≡ Ask request) × (m2 ≡ Kerberos m)
MoveIs Unmade x m2 = Unit {0}

pub made_is : (origin : Origin) (m : M) → h.made origin m → m ≡ made_of origin
made_is (Configured (configs.Ntlm config)) (Ntlm m) made = ap Ntlm made
made_is (Configured (configs.Ntlm config)) (Kerberos m) made = absurd made
made_is (Configured (configs.Kerberos config)) (Ntlm m) made = absurd made
made_is (Configured (configs.Kerberos config)) (Kerberos m) made = ap Kerberos made
made_is (Configured (configs.KerberosServer config server)) (Ntlm m) made = absurd made
made_is (Configured (configs.KerberosServer config server)) (Kerberos m) made = ap Kerberos made
made_is (InPlaceOfNtlm url kdcs computer) (Ntlm m) made = absurd made
made_is (InPlaceOfNtlm url kdcs computer) (Kerberos m) made = ap Kerberos made

ntlm_so : (out : ntlm_steps.Outcome) (m m2 : NtlmState) (x : Result Step Error) → IsDecided (told x) → ntlm_steps.Steps out m x m2 →
    MoveIs (ntlm_move out) (told x) (Ntlm m2)
ntlm_so out m m2 (Ok step) decided steps =
    subst (λ (o : ntlm_steps.Outcome). MoveIs (ntlm_move o) (Done step) (Ntlm m2)) (sym steps) (refl, refl)
ntlm_so out m m2 (Err error) decided steps =
    subst (λ (o : ntlm_steps.Outcome). MoveIs (ntlm_move o) (Refused error) (Ntlm m2)) (sym (steps.0 (decided error refl))) tt

kerberos_so : (out : kerberos_steps.Outcome) (m m2 : KerberosState) (x : Answer) → IsDecided x → Answers out m x m2 →
    MoveIs (kerberos_move out) x (Kerberos m2)
kerberos_so out m m2 (Done step) decided steps =
    subst (λ (o : kerberos_steps.Outcome). MoveIs (kerberos_move o) (Done step) (Kerberos m2)) (sym steps) (refl, refl)
kerberos_so out m m2 (Ask request) decided steps =
    subst (λ (o : kerberos_steps.Outcome). MoveIs (kerberos_move o) (Ask request) (Kerberos m2)) (sym steps) (refl, refl)
kerberos_so out m m2 (Refused error) decided steps =
    subst (λ (o : kerberos_steps.Outcome). MoveIs (kerberos_move o) (Refused error) (Kerberos m2)) (sym (steps.0 (decided error refl))) tt

accepted_so : (out : kerberos_steps.Outcome) (m m2 : KerberosState) (x : Result Step Error) → IsDecided (told x) →
    kerberos_steps.Steps out m x m2 → MoveIs (kerberos_move out) (told x) (Kerberos m2)
accepted_so out m m2 (Ok step) decided steps = kerberos_so out m m2 (Done step) decided steps
accepted_so out m m2 (Err error) decided steps = kerberos_so out m m2 (Refused error) decided steps

client_so : (m m2 : M) (args : StepArgs) (x : Answer) → IsDecided x → h.steps m args x m2 → MoveIs (client_move m args) x m2
client_so (Ntlm m) (Ntlm m2) args (Done step) decided steps = ntlm_so _ m m2 (Ok step) decided steps
client_so (Ntlm m) (Ntlm m2) args (Ask request) decided steps = absurd steps
client_so (Ntlm m) (Ntlm m2) args (Refused error) decided steps = ntlm_so _ m m2 (Err error) decided steps
client_so (Kerberos m) (Kerberos m2) args x decided steps = kerberos_so _ m m2 x decided steps
client_so (Ntlm m) (Kerberos m2) args x decided steps = absurd steps
client_so (Kerberos m) (Ntlm m2) args x decided steps = absurd steps

resumed_so : (m m2 : M) (reply : Reply) (x : Answer) → IsDecided x → h.resumes m reply x m2 → MoveIs (resumed_move m reply) x m2
resumed_so (Ntlm m) m2 reply x decided resumes = tt
resumed_so (Kerberos m) (Kerberos m2) reply x decided resumes = kerberos_so _ m m2 x decided resumes
resumed_so (Kerberos m) (Ntlm m2) reply x decided resumes = absurd resumes

server_so : (m m2 : M) (args : AcceptArgs) (x : Result Step Error) → IsDecided (told x) → h.accepts m args x m2 →
    MoveIs (server_move m args) (told x) m2
server_so (Ntlm m) (Ntlm m2) args x decided accepts = ntlm_so _ m m2 x decided accepts
server_so (Kerberos m) (Kerberos m2) args x decided accepts = accepted_so _ m m2 x decided accepts
server_so (Ntlm m) (Kerberos m2) args x decided accepts = absurd accepts
server_so (Kerberos m) (Ntlm m2) args x decided accepts = absurd accepts

pub identified_so : (m m2 : M) (identities : List Credentials) → h.identifies m identities m2 → identified m identities ≡ Ok m2
identified_so (Ntlm m) (Ntlm m2) identities sets = ap with_ntlm sets
identified_so (Kerberos m) (Kerberos m2) identities sets = ap with_kerberos sets
identified_so (Ntlm m) (Kerberos m2) identities sets = absurd sets
identified_so (Kerberos m) (Ntlm m2) identities sets = absurd sets

ntlm_err : (o : Result NtlmState ErrorKind) (kind : ErrorKind) → result_err o ≡ Some kind → result_err (with_ntlm o) ≡ Some kind
ntlm_err (Ok m) kind is = absurd (cc (is))
ntlm_err (Err other) kind is = is

kerberos_err : (o : Result KerberosState ErrorKind) (kind : ErrorKind) → result_err o ≡ Some kind → result_err (with_kerberos o) ≡ Some kind
kerberos_err (Ok m) kind is = absurd (cc (is))
kerberos_err (Err other) kind is = is

-- why it does not take identities
pub unidentified : (m : M) (identities : List Credentials) (kind : ErrorKind) → h.refuses m (ToIdentify identities) kind →
    result_err (identified m identities) ≡ Some kind
unidentified (Ntlm m) identities kind refuses = ntlm_err _ kind refuses
unidentified (Kerberos m) identities kind refuses = kerberos_err _ kind refuses

nameless : (m : M) (kind : ErrorKind) → h.refuses m ToName kind → absence (h.names m) ≡ Some kind
nameless (Ntlm m) kind refuses = refuses
nameless (Kerberos m) kind refuses = refuses

signs_so : (m m2 : M) (n : ℕ) (text mic : List ℕ) → m2 ≡ signed_once m → h.signs m2 n text mic →
    SignsBy (protection_of m).key (own_direction m) n text mic
signs_so (Ntlm m) m2 n text mic is signs = subst (λ (x : M). h.signs x n text mic) is signs
signs_so (Kerberos m) m2 n text mic is signs = subst (λ (x : M). h.signs x n text mic) is signs

counts_so : (m : M) → (protection_of m).signings ≡ (h.counts m).signings
counts_so (Ntlm m) = refl
counts_so (Kerberos m) = refl

permits_so : (m : M) (text : List ℕ) → h.permits m (ToSign text) → making_refusal (protection_of m).key (protection_of m).signings ≡ None
permits_so (Ntlm m) text permits = permits
permits_so (Kerberos m) text permits = permits

unsigned_so : (m : M) (text : List ℕ) (kind : ErrorKind) → h.refuses m (ToSign text) kind →
    making_refusal (protection_of m).key (protection_of m).signings ≡ Some kind
unsigned_so (Ntlm m) text kind refuses = refuses
unsigned_so (Kerberos m) text kind refuses = refuses

verified_so : (m : M) (mic text : List ℕ) → h.permits m (ToVerify mic text) →
    verify_refusal (protection_of m).key (peer_direction m) (protection_of m).verifications mic text ≡ None
verified_so (Ntlm m) mic text permits = permits
verified_so (Kerberos m) mic text permits = permits

unverified_so : (m : M) (mic text : List ℕ) (kind : ErrorKind) → h.refuses m (ToVerify mic text) kind →
    verify_refusal (protection_of m).key (peer_direction m) (protection_of m).verifications mic text ≡ Some kind
unverified_so (Ntlm m) mic text kind refuses = refuses
unverified_so (Kerberos m) mic text kind refuses = refuses

module _ (r : Answer) (v2 : Values) (m2 : M) (decided : IsDecided r) where
  abbrev IsEnd : End → Type 0
  IsEnd e = Is e r v2 m2

  went_decided : (x : Answer) (go : Step → Type 0) (fall : ErrorKind → Type 0) (v : Values) (m1 : M) → Went x go fall r v v2 m1 m2 →
      IsDecided x
  went_decided (Done step) go fall v m1 went error is = absurd (cc (is))
  went_decided (Ask request) go fall v m1 went error is = absurd (cc (is))
  went_decided (Refused error) go fall v m1 went error2 is =
      let same : error ≡ error2 = cc in subst (λ (e : Error). e.error_type ≢ InsufficientMemory) same went.0

  moved : (move : Move) (x : Answer) (m1 : M) (v : Values) (go : Step → Plan) (fall : ErrorKind → Plan) → MoveIs move x m1 →
      Went x (λ step. Follows h (go step) m1 r v2 m2) (λ kind. Follows h (fall kind) m1 r v2 m2) r v v2 m1 m2 →
      ((step : Step) (m : M) → Follows h (go step) m r v2 m2 → IsEnd (runs (go step) m)) →
      IsEnd (on_move move v (λ m step. runs (go step) m))
  moved (Makes m step) x m1 v go fall is went next =
      let done = subst (λ (a : Answer). Went a (λ s. Follows h (go s) m1 r v2 m2) (λ kind. Follows h (fall kind) m1 r v2 m2) r v v2 m1 m2)
      is.0 went in
      next step m (subst (λ (n : M). Follows h (go step) n r v2 m2) is.1 done)
  moved (Asks m request) x m1 v go fall is went next =
      let asked = subst (λ (a : Answer). Went a (λ s. Follows h (go s) m1 r v2 m2) (λ kind. Follows h (fall kind) m1 r v2 m2) r v v2 m1 m2)
      is.0 went in
      (asked.0, asked.1, asked.2 ∙ is.1)
  moved Unmade x m1 v go fall is went next = tt

  took : (move : Move) (step : Step) (m1 : M) (v : Values) (go : Step → Plan) → MoveIs move (Done step) m1 →
      Follows h (go step) m1 r v2 m2 → ((step : Step) (m : M) → Follows h (go step) m r v2 m2 → IsEnd (runs (go step) m)) →
      IsEnd (on_move move v (λ m step. runs (go step) m))
  took move step m1 v go is follows next = moved move (Done step) m1 v go (λ kind. Stops v kind) is follows next

  untaken : (move : Move) (error : Error) (m1 : M) (v : Values) (go : M → Step → End) → MoveIs move (Refused error) m1 →
      IsEnd (on_move move v go)
  untaken (Makes m step) error m1 v go is = absurd (cc (is.0))
  untaken (Asks m request) error m1 v go is = absurd (cc (is.0))
  untaken Unmade error m1 v go is = tt

  found : {A : Type 0} (o : Option A) (go : A → End) (x : A) → o ≡ Some x → IsEnd (go x) → IsEnd (on_some o go)
  found {A = A} o go x is next = subst (λ (y : Option A). IsEnd (on_some y go)) (sym is) next

  unnamed : (o : Option Name) (go : Name → End) (kind : ErrorKind) → absence o ≡ Some kind → IsEnd (on_some o go)
  unnamed None go kind is = tt
  unnamed (Some name) go kind is = absurd (cc (is))

  unmade : (o : Result M ErrorKind) (go : M → End) (kind : ErrorKind) → result_err o ≡ Some kind → IsEnd (on_made o go)
  unmade (Ok m) go kind is = absurd (cc (is))
  unmade (Err other) go kind is = tt

  signed : (o : Option (List ℕ)) (direction : Direction) (n : ℕ) (text mic : List ℕ) (go : List ℕ → End) →
      SignsBy o direction n text mic → making_refusal o n ≡ None → IsEnd (go mic) →
      IsEnd (on_key o (n == 2 ^ 64 - 1) (λ key. go (mic_of key direction n text)))
  signed None direction n text mic go signs permits next = absurd signs
  signed (Some key) direction n text mic go signs permits next = at (n == 2 ^ 64 - 1) permits
    where
      at : (b : Bool) → (if b then Some ContextExpired else None) ≡ None →
          IsEnd (on_key (Some key) b (λ key. go (mic_of key direction n text)))
      at true spent = absurd (cc (spent))
      at false few = subst (λ (x : List ℕ). IsEnd (go x)) signs next

  unsigned : (o : Option (List ℕ)) (n : ℕ) (go : List ℕ → End) (kind : ErrorKind) → making_refusal o n ≡ Some kind →
      IsEnd (on_key o (n == 2 ^ 64 - 1) go)
  unsigned None n go kind is = tt
  unsigned (Some key) n go kind is = at (n == 2 ^ 64 - 1) is
    where
      at : (b : Bool) → (if b then Some ContextExpired else None) ≡ Some kind → IsEnd (on_key (Some key) b go)
      at true spent = tt
      at false few = absurd (cc (few))

  pub planned : (p : Plan) (m : M) → Follows h p m r v2 m2 → IsEnd (runs p m)
  planned (Goes v step) m f = f
  planned (Stops v kind) m f = tt
  planned (Takes origin p) m f =
      planned p (made_of origin) (subst (λ (x : M). Follows h p x r v2 m2) (made_is origin f.0 f.1) f.2)
  planned (Steps args v go fall) m f =
      moved (client_move m args) f.1 f.0 v go fall (client_so m f.0 args f.1 (went_decided f.1 _ _ v f.0 f.3) f.2) f.3
      (λ step n g. planned (go step) n g)
  planned (Resumes reply v go fall) m f =
      moved (resumed_move m reply) f.1 f.0 v go fall (resumed_so m f.0 reply f.1 (went_decided f.1 _ _ v f.0 f.3) f.2) f.3
      (λ step n g. planned (go step) n g)
  planned (Accepts args v go) m (answered step m1 g) =
      took (server_move m args) step m1 v go (server_so m m1 args (Ok step) (λ error is. absurd (cc (is))) g.0) g.1
      (λ step n later. planned (go step) n later)
  planned (Accepts args v go) m (refused error bad is same) =
      untaken (server_move m args) error m2 v _
      (server_so m m2 args (Err error) (subst (λ (x : Answer). IsDecided x) is decided) bad)
  planned (Pairs go) m f = planned (go (h.pairs m)) m f
  planned (Names v go) m (answered name m1 g) =
      found (h.names m) (λ x. runs (go x) m) name g.0 (planned (go name) m (subst (λ (x : M). Follows h (go name) x r v2 m2) g.1 g.2))
  planned (Names v go) m (refused error bad is same) = unnamed (h.names m) (λ x. runs (go x) m) error.error_type
      (nameless m error.error_type bad.0)
  planned (Identifies identities v p) m (answered u m1 g) =
      subst (λ (o : Result M ErrorKind). IsEnd (on_made o (λ n. runs p n))) (sym (identified_so m m1 identities g.0)) (planned p m1 g.1)
  planned (Identifies identities v p) m (refused error bad is same) =
      unmade (identified m identities) (λ n. runs p n) error.error_type (unidentified m identities error.error_type bad.0)
  planned (Signs text v go) m (answered mic m1 g) =
      signed (protection_of m).key (own_direction m) (protection_of m).signings text mic (λ x. runs (go x) (signed_once m))
      (subst (λ (n : ℕ). SignsBy (protection_of m).key (own_direction m) n text mic) (sym (counts_so m))
      (signs_so m m1 (h.counts m).signings text mic g.1 g.0)) (permits_so m text g.2)
      (planned (go mic) (signed_once m) (subst (λ (x : M). Follows h (go mic) x r v2 m2) g.1 g.3))
  planned (Signs text v go) m (refused error bad is same) =
      unsigned (protection_of m).key (protection_of m).signings _ error.error_type (unsigned_so m text error.error_type bad.0)
  planned (Verifies mic text v p) m (answered u m1 g) =
      subst (λ (o : Option ErrorKind). IsEnd (unless_refused o (runs p (verified_once m)))) (sym (verified_so m mic text g.2))
      (planned p (verified_once m) (subst (λ (x : M). Follows h p x r v2 m2) g.1 g.3))
  planned (Verifies mic text v p) m (refused error bad is same) =
      subst (λ (o : Option ErrorKind). IsEnd (unless_refused o (runs p (verified_once m))))
      (sym (unverified_so m mic text error.error_type bad.0)) tt

-- What a negotiation means as a security context.
use Rattle.std.specs.Prelude.{◌≡◌, ◌≢◌, ◌↔◌, ℕ, Option, Bool, false, true, Result, IsTrue, OnErr}
use Rattle.sspi_types.specs.declared.error.Error.{Error}
use Rattle.sspi_types.specs.declared.error_kind.ErrorKind.{ErrorKind}
use Rattle.sspi_types.specs.Packages.{negotiate_entry}
use Rattle.sspi_mech.specs.declared.step.Answer.{Answer}
use Rattle.sspi_mech.specs.declared.step.Reply.{Reply}
use Rattle.sspi_mech.specs.declared.step.Step.{Step}
use Rattle.sspi_mech.specs.Answers.{OnRefused}
use Rattle.sspi_mech.specs.Calls.{StepArgs, AcceptArgs, Call, ToAcquire, ToDescribe}
use Rattle.sspi_mech.specs.Meaning.{Meaning}
use Rattle.sspi_mech.specs.Settings.{Setting}
use Rattle.sspi_negotiate.specs.declared.branch.Branch.TheVariants.{Idle}
use Rattle.sspi_negotiate.specs.declared.protocol.NegotiatedProtocol.{NegotiatedProtocol}
use Rattle.sspi_negotiate.specs.declared.state.NegotiateState.TheVariants.{Initial}
use Rattle.sspi_negotiate.specs.Acquire.{Acquires, RefusesToAcquire}
use Rattle.sspi_negotiate.specs.Beginning.{FallsBy, FallsResumed, MayBegin}
use Rattle.sspi_negotiate.specs.Choices.{chosen_at, excuses_guest}
use Rattle.sspi_negotiate.specs.Client.{spnego_client, spnego_resumed}
use Rattle.sspi_negotiate.specs.Does.{Does, Stays, StaysNeeded, StaysPicked, StaysConfigured}
use Rattle.sspi_negotiate.specs.Does.{StaysResumed, StaysUnmarked}
use Rattle.sspi_negotiate.specs.Does.{StaysSilent, WaitsOn, told}
use Rattle.sspi_negotiate.specs.Exact.{TellsKind, client_refusal, server_refusal, resumed_refusal}
use Rattle.sspi_negotiate.specs.Hand.{hand, asks_left}
use Rattle.sspi_negotiate.specs.Holding.{StaysHeld, MayKeep, MayNeed, user_of, user_url}
use Rattle.sspi_negotiate.specs.Keeps.{is_answering, is_opening}
use Rattle.sspi_negotiate.specs.New.{NegotiateSetting, MadeOf, UnmadeOf}
use Rattle.sspi_negotiate.specs.Plan.{Plan}
use Rattle.sspi_negotiate.specs.Server.{spnego_server}
use Rattle.sspi_negotiate.specs.Target.{IsNamedByIp}
use Rattle.sspi_negotiate.specs.Values.{Negotiation, values_of, is_waiting}

-- A step by a plan. Until there is a list to protect, it makes and verifies no MIC. Kept says what
-- a refused step leaves, and Protected how the need of MICs stays. A refusal that allocates nothing
-- is reported with its own kind (`Exact`). If out of memory breaks a step off, the plan says what
-- is left selected (`Meets`), and the other fields still hold.
pub record Moves {N K : Type 0} (n : Meaning Setting N) (k : Meaning Setting K)
    (IsFirstStep Kept Protected : Type 0)
    (refusal : Option ErrorKind) (p : Plan) (s : Negotiation (NegotiatedProtocol N K)) (r : Answer)
    (s2 : Negotiation (NegotiatedProtocol N K)) : Type 0 where
  pub follows : Does n k p s r s2
  pub stays : OnRefused r Kept
  pub unused : StaysSilent n k s s2
  pub unmarked : IsFirstStep → StaysUnmarked n k s s2
  pub protected : Protected
  pub exact : TellsKind refusal r

-- what a refused resume leaves; in a first step, NTLM replaces Kerberos only if Kerberos refuses
-- the step with such a kind (`is_fallback`)
pub record ResumeStays {N K : Type 0} (n : Meaning Setting N) (k : Meaning Setting K)
    (s : Negotiation (NegotiatedProtocol N K))
    (reply : Reply) (s2 : Negotiation (NegotiatedProtocol N K)) : Type 0 where
  pub waits : WaitsOn s (record s { branch = Idle }) s2
  pub begun : is_opening s.branch ≡ true →
      FallsBy (FallsResumed (hand n k) s.mech reply) (values_of s) (values_of s2)

-- A client's step, whose plan depends on whether the target is named by its IP address. After the
-- first one, MICs stop being needed only if the server chooses NTLM for a guest; the selection and
-- the packages change only as StaysHeld says. If a first one is refused, MayBegin says what is left
-- of those two. A first one keeps the need of MICs, or sets it as the flags say.
pub record ClientMoves {N K : Type 0} (n : Meaning Setting N) (k : Meaning Setting K)
    (s : Negotiation (NegotiatedProtocol N K))
    (args : StepArgs) (r : Answer)
    (s2 : Negotiation (NegotiatedProtocol N K)) : Type 0 where
  pub ip : Bool
  pub ip_is : IsTrue ip ↔ IsNamedByIp args.target
  pub moves : Moves n k (s.state ≡ Initial) (Stays (values_of s) (values_of s2))
      (s.state ≢ Initial → StaysNeeded (excuses_guest (chosen_at s.state args.input) (values_of s)
      args) (values_of s) (values_of s2))
      (client_refusal s.role s.state s.branch) (spnego_client ip (values_of s) args) s r s2
  pub held : s.state ≢ Initial → StaysHeld (values_of s) args (values_of s2)
  pub kept : MayKeep (user_of args.handle) s.kept s2.kept
  pub asked : s.state ≡ Initial → MayNeed args.requirements s.need s2.need
  pub begun : s.state ≡ Initial →
      OnRefused r (MayBegin (hand n k) (IsNamedByIp args.target × (s.packages.ntlm ≡ true))
      (user_url (values_of s) (user_of args.handle)) args s s2)

-- A server's step, which keeps the packages and the kept credentials and, if it is refused, the
-- need of MICs. Once the list was read, it keeps that and the name of the mechanism that was
-- picked, which lives on by its plan (`LivesOn`).
pub record ServerMoves {N K : Type 0} (n : Meaning Setting N) (k : Meaning Setting K)
    (s : Negotiation (NegotiatedProtocol N K))
    (args : AcceptArgs) (result : Result Step Error)
    (s2 : Negotiation (NegotiatedProtocol N K)) : Type 0 where
  pub moves : Moves n k (s.state ≡ Initial) (Stays (values_of s) (values_of s2))
      (OnErr result (s2.need ≡ s.need))
      (server_refusal s.role s.state args.input) (spnego_server (values_of s) args) s
      (told result) s2
  pub picked : s.state ≢ Initial → StaysPicked (values_of s) (values_of s2)
  pub configured : StaysConfigured (values_of s) (values_of s2)

module _ {N K : Type 0} (requests : ℕ) (n : Meaning Setting N) (k : Meaning Setting K) where
  -- the package entry is always available
  abbrev pub Refuses : Negotiation (NegotiatedProtocol N K) → Call → ErrorKind → Type 0
  Refuses s (ToAcquire use_ asked) kind = RefusesToAcquire n k s use_ asked kind
  Refuses s ToDescribe kind = ⊥
  Refuses s call kind = (hand n k).refuses s.mech call kind

  abbrev pub negotiate : Meaning NegotiateSetting (Negotiation (NegotiatedProtocol N K))
  negotiate = record {
    made = MadeOf n k;
    unmade = UnmadeOf;
    acquires = Acquires n k;
    steps = ClientMoves n k;
    resumes = λ s reply r s2.
        Moves n k (is_answering s.branch ≡ false) (ResumeStays n k s reply s2)
        (StaysResumed (values_of s) (values_of s2))
        (resumed_refusal s.branch) (spnego_resumed (values_of s) reply) s r s2;
    accepts = ServerMoves n k;
    identifies = λ s identities s2. (hand n k).identifies s.mech identities s2.mech ×
        (s2 ≡ record s { mech = s2.mech });
    names = λ s. (hand n k).names s.mech;
    keyed = λ s. (hand n k).keyed s.mech;
    session_key = λ s. (hand n k).session_key s.mech;
    waits = λ s. is_waiting s.branch;
    left = λ s. asks_left requests n k s.mech;
    pairs = λ s. (hand n k).pairs s.mech;
    counts = λ s. (hand n k).counts s.mech;
    counted = λ s counts. record s { mech = (hand n k).counted s.mech counts };
    seals = λ s i text blob. (hand n k).seals s.mech i text blob;
    opens = λ s i blob text. (hand n k).opens s.mech i blob text;
    signs = λ s i text mic. (hand n k).signs s.mech i text mic;
    verifies = λ s i mic text. (hand n k).verifies s.mech i mic text;
    permits = λ s call. (hand n k).permits s.mech call;
    refuses = Refuses;
    entry = λ s. negotiate_entry;
    sizes = λ s. (hand n k).sizes s.mech;
  }

-- The steps of a negotiation, with what also holds when out of memory.
use Rattle.std.proofs.Common.{◌≡◌, ◌≢◌, ◌<◌, ◌↔◌, ◌&&◌, ℕ, Bool, true, false, IsTrue, Result, Ok, Err, OnErr, refl}
use Rattle.sspi_types.specs.declared.error.Error.{Error}
use Rattle.sspi_mech.specs.declared.step.Answer.{Answer}
use Rattle.sspi_mech.specs.declared.step.Progressing.{Progressing}
use Rattle.sspi_mech.specs.declared.step.Progressing.TheVariants as progress
use Rattle.sspi_mech.specs.declared.step.Reply.{Reply}
use Rattle.sspi_mech.specs.declared.step.Step.{Step}
use Rattle.sspi_mech.specs.Answers.{answer_of, OnAsk, OnRefused}
use Rattle.sspi_mech.specs.Calls.{StepArgs, AcceptArgs}
use Rattle.sspi_mech.specs.Laws.{IsMechanism}
use Rattle.sspi_mech.specs.Meaning.{Meaning}
use Rattle.sspi_mech.specs.Settings.{Setting}
use Rattle.sspi_negotiate.specs.declared.branch.Branch.TheVariants.{Idle}
use Rattle.sspi_negotiate.specs.declared.protocol.NegotiatedProtocol.{NegotiatedProtocol}
use Rattle.sspi_negotiate.specs.declared.state.NegotiateState.TheVariants as states
use Rattle.sspi_negotiate.specs.Beginning.{FallsBy, FallsResumed, MayBegin}
use Rattle.sspi_negotiate.specs.Choices.{chosen_at, excuses_guest}
use Rattle.sspi_negotiate.specs.Client.{spnego_client, spnego_resumed}
use Rattle.sspi_negotiate.specs.Does.{Does, Stays, StaysNeeded, StaysPicked, StaysConfigured, StaysResumed, StaysUnmarked}
use Rattle.sspi_negotiate.specs.Does.{StaysSilent, WaitsOn, told}
use Rattle.sspi_negotiate.specs.Exact.{TellsKind, client_refusal, server_refusal, resumed_refusal}
use Rattle.sspi_negotiate.specs.Hand.{asks_left, hand}
use Rattle.sspi_negotiate.specs.Holding.{MayHave, MayKeep, MayNeed, user_of, user_url}
use Rattle.sspi_negotiate.specs.Keeps.{is_answering, is_opening}
use Rattle.sspi_negotiate.specs.Negotiate.{Moves, ClientMoves, ResumeStays, ServerMoves}
use Rattle.sspi_negotiate.specs.Plan.{Plan}
use Rattle.sspi_negotiate.specs.Server.{spnego_server}
use Rattle.sspi_negotiate.specs.Target.{IsNamedByIp}
use Rattle.sspi_negotiate.specs.Values.{Negotiation, values_of}
use Rattle.std.proofs.lemmas.Bool.{false≢true}
use Rattle.sspi_negotiate.proofs.Asks.{resumed_falls}
use Rattle.sspi_negotiate.proofs.Beginning.{begun_by, on_err}
use Rattle.sspi_negotiate.proofs.HandLaws.{hand_lawful}
use Rattle.sspi_negotiate.proofs.Holding.{held_by}
use Rattle.sspi_negotiate.proofs.Silent.{reached_silent}
use Rattle.sspi_negotiate.proofs.Unsigned.{IsUnsigned, client_unsigned, resumed_unsigned, server_unsigned, reached_unsigned}

told_stays : (P : Type 0) (result : Result Step Error) → OnErr result P → OnRefused (told result) P
told_stays P (Ok step) stays = tt
told_stays P (Err error) stays = stays

answered_stays : (P : Type 0) (result : Result Progressing Error) → OnErr result P → OnRefused (answer_of result) P
answered_stays P (Ok (progress.Done step)) stays = tt
answered_stays P (Ok (progress.Suspended request)) stays = tt
answered_stays P (Err error) stays = stays

resume_stays : {A F B C : Type 0} (result : Result Progressing Error) → (A → (F → B) → C) → OnErr result A → (F → OnErr result B) →
    OnErr result C
resume_stays (Ok progressing) both waits begun = tt
resume_stays (Err error) both waits begun = both waits begun

addressed : {P : Type 0} (ip : Bool) → (IsTrue ip ↔ P) → (ntlm : Bool) → ip && ntlm ≡ true → P × (ntlm ≡ true)
addressed true is ntlm h = (is.0 refl, h)
addressed false is ntlm h = absurd (false≢true h)

module _ {N K : Type 0} (r q : ℕ) (n : Meaning Setting N) (k : Meaning Setting K) (ln : IsMechanism r n) (lk : IsMechanism q k)
    (s : Negotiation (NegotiatedProtocol N K)) where
  silent : (p : Plan) (a : Answer) (s2 : Negotiation (NegotiatedProtocol N K)) → Does n k p s a s2 → StaysSilent n k s s2
  silent p a s2 follows = reached_silent (hand n k) (hand_lawful r q n k ln lk) p s.mech s2.mech a follows.reached

  unmarked : (p : Plan) → IsUnsigned p → (a : Answer) (s2 : Negotiation (NegotiatedProtocol N K)) → Does n k p s a s2 →
      StaysUnmarked n k s s2
  unmarked p u a s2 follows = reached_unsigned r q n k ln lk p u s.mech s2.mech a follows.reached

  pub accept_moves : (args : AcceptArgs) (result : Result Step Error) (s2 : Negotiation (NegotiatedProtocol N K)) →
      Does n k (spnego_server (values_of s) args) s (told result) s2 → OnErr result (Stays (values_of s) (values_of s2)) →
      OnErr result (s2.need ≡ s.need) →
      (s.state ≢ states.Initial → StaysPicked (values_of s) (values_of s2)) → StaysConfigured (values_of s) (values_of s2) →
      TellsKind (server_refusal s.role s.state args.input) (told result) → ServerMoves n k s args result s2
  accept_moves args result s2 follows stays need picked configured exact = record {
    moves = record {
      follows = follows;
      stays = told_stays _ result stays;
      unused = silent _ (told result) s2 follows;
      unmarked = λ first. unmarked _ (server_unsigned (values_of s) args first) (told result) s2 follows;
      protected = need;
      exact = exact;
    };
    picked = picked;
    configured = configured;
  }

  pub client_moves : (args : StepArgs) (result : Result Progressing Error) (s2 : Negotiation (NegotiatedProtocol N K)) (ip : Bool) →
      (IsTrue ip ↔ IsNamedByIp args.target) → Does n k (spnego_client ip (values_of s) args) s (answer_of result) s2 →
      OnErr result (Stays (values_of s) (values_of s2)) →
      (s.state ≡ states.Initial → MayNeed args.requirements s.need s2.need) →
      (s.state ≢ states.Initial →
      StaysNeeded (excuses_guest (chosen_at s.state args.input) (values_of s) args) (values_of s) (values_of s2)
      × MayHave (ip && s.packages.ntlm ≡ true) (user_url (values_of s) (user_of args.handle))
      (chosen_at s.state args.input) (values_of s) (values_of s2)) → MayKeep (user_of args.handle) s.kept s2.kept →
      (s.state ≡ states.Initial → OnErr result (MayBegin (hand n k) (ip && s.packages.ntlm ≡ true)
      (user_url (values_of s) (user_of args.handle)) args s s2)) →
      TellsKind (client_refusal s.role s.state s.branch) (answer_of result) → ClientMoves n k s args (answer_of result) s2
  client_moves args result s2 ip is follows stays asked later kept begun exact = record {
    begun = λ first. answered_stays _ result (on_err result (begun_by (hand n k) (addressed ip is s.packages.ntlm)) (begun first));
    held = λ late. held_by (addressed ip is s.packages.ntlm) (λ found h. h) (later late).1;
    kept = kept;
    asked = asked;
    ip = ip;
    ip_is = is;
    moves = record {
      follows = follows;
      stays = answered_stays _ result stays;
      unused = silent _ (answer_of result) s2 follows;
      unmarked = λ first. unmarked _ (client_unsigned ip (values_of s) args first) (answer_of result) s2 follows;
      protected = λ late. (later late).0;
      exact = exact;
    };
  }

  pub resume_moves : (reply : Reply) (result : Result Progressing Error) (s2 : Negotiation (NegotiatedProtocol N K)) →
      Does n k (spnego_resumed (values_of s) reply) s (answer_of result) s2 → OnErr result (WaitsOn s (record s { branch = Idle }) s2) →
      StaysResumed (values_of s) (values_of s2) →
      (is_opening s.branch ≡ true → OnErr result (FallsBy (FallsResumed (hand n k) s.mech reply) (values_of s) (values_of s2))) →
      TellsKind (resumed_refusal s.branch) (answer_of result) →
      Moves n k (is_answering s.branch ≡ false) (ResumeStays n k s reply s2) (StaysResumed (values_of s) (values_of s2))
      (resumed_refusal s.branch) (spnego_resumed (values_of s) reply) s (answer_of result) s2
  resume_moves reply result s2 follows stays resumed begun exact = record {
    follows = follows;
    stays = answered_stays _ result (resume_stays result (λ waits begun. record { waits = waits; begun = begun }) stays begun);
    unused = silent _ (answer_of result) s2 follows;
    unmarked = λ first. unmarked _ (resumed_unsigned (values_of s) reply first) (answer_of result) s2 follows;
    protected = resumed;
    exact = exact;
  }

-- each further question to a KDC leaves fewer to come
pub resume_falls : {N K : Type 0} (r q : ℕ) (n : Meaning Setting N) (k : Meaning Setting K) → IsMechanism r n → IsMechanism q k →
    (s : Negotiation (NegotiatedProtocol N K)) (reply : Reply) (result : Result Progressing Error)
    (s2 : Negotiation (NegotiatedProtocol N K)) →
    Does n k (spnego_resumed (values_of s) reply) s (answer_of result) s2 →
    OnAsk (answer_of result) (asks_left r n k s2.mech < asks_left r n k s.mech)
resume_falls r q n k ln lk s reply (Ok (progress.Done step)) s2 follows = tt
resume_falls r q n k ln lk s reply (Ok (progress.Suspended request)) s2 follows =
    resumed_falls r q n k ln lk (values_of s) reply s.mech s2.mech request (values_of s2) refl follows.as_planned
resume_falls r q n k ln lk s reply (Err error) s2 follows = tt

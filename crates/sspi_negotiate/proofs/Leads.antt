-- What holds at the end of a plan however the selected mechanism answers its questions: a calculus of weakest preconditions, with one
-- rule for each constructor of a plan.
use Rattle.std.proofs.Common.{◌≡◌, ℕ, Bool, true, false, cond, List, Some, Err, refl, sym, subst, ap, ◌∙◌}
use Rattle.sspi_types.specs.declared.error.Error.{Error}
use Rattle.sspi_types.specs.declared.error_kind.ErrorKind.{ErrorKind}
use Rattle.sspi_types.specs.declared.error_kind.ErrorKind.TheVariants.{InternalError, InvalidParameter, InvalidToken}
use Rattle.sspi_types.specs.declared.error_kind.ErrorKind.TheVariants.{NoCredentials, OutOfSequence}
use Rattle.sspi_names.specs.Name.{Name}
use Rattle.sspi_names.specs.declared.credentials.Credentials.{Credentials}
use Rattle.sspi_names.specs.declared.network.NetworkRequest.{NetworkRequest}
use Rattle.sspi_mech.specs.declared.step.Answer.{Answer}
use Rattle.sspi_mech.specs.declared.step.Answer.TheVariants.{Done, Ask, Refused}
use Rattle.sspi_mech.specs.declared.step.Reply.{Reply}
use Rattle.sspi_mech.specs.declared.step.Step.{Step}
use Rattle.sspi_mech.specs.Calls.{Call, StepArgs, AcceptArgs, ToName, ToIdentify, ToSign, ToVerify, one_signing, one_verification}
use Rattle.sspi_mech.specs.Meaning.{Meaning}
use Rattle.sspi_negotiate.specs.Follows.{Follows, Asked, answered, refused, Went, IsRefusal}
use Rattle.sspi_negotiate.specs.Hand.{Origin}
use Rattle.sspi_negotiate.specs.Plan.{Plan, Goes, Stops, Takes, Steps, Resumes, Accepts, Pairs, Names, Identifies, Signs, Verifies}
use Rattle.sspi_negotiate.specs.Values.{Values}

-- a kind with which a negotiation refuses a step by itself
pub data IsOwn (kind : ErrorKind) : Type 0 where
  bad_token : kind ≡ InvalidToken → IsOwn kind
  bad_order : kind ≡ OutOfSequence → IsOwn kind
  bad_handle : kind ≡ InvalidParameter → IsOwn kind
  unwritten : kind ≡ InternalError → IsOwn kind
  nobody : kind ≡ NoCredentials → IsOwn kind

-- where the kind of a refusal comes from: the negotiation itself, or the mechanism that was selected
pub data Comes {M : Type 0} (c : Meaning Origin M) (kind : ErrorKind) : Type 0 where
  by_itself : IsOwn kind → Comes c kind
  by_step : (m m2 : M) (args : StepArgs) (error : Error) → c.steps m args (Refused error) m2 → error.error_type ≡ kind → Comes c kind
  by_resume : (m m2 : M) (reply : Reply) (error : Error) → c.resumes m reply (Refused error) m2 → error.error_type ≡ kind → Comes c kind
  by_accept : (m m2 : M) (args : AcceptArgs) (error : Error) → c.accepts m args (Err error) m2 → error.error_type ≡ kind → Comes c kind
  by_call : (m : M) (call : Call) → c.refuses m call kind → Comes c kind

-- R is a fact about the mechanism that is left selected, the answer and the values
module _ {M : Type 0} (c : Meaning Origin M) (R : M → Answer → Values → Type 0) where
  pub record Leads (p : Plan) (m : M) : Type 0 where
    pub ends : (m2 : M) (r : Answer) (v2 : Values) → Follows c p m r v2 m2 → R m2 r v2

  -- at a refusal that leaves these values
  abbrev pub AtRefusal : Values → Type 0
  AtRefusal v = (m : M) (error : Error) → Comes c error.error_type → R m (Refused error) v

  at_end : (r s : Answer) (v v2 : Values) (m m2 : M) → r ≡ s → v2 ≡ v → m2 ≡ m → R m s v → R m2 r v2
  at_end r s v v2 m m2 answer same still h =
      subst (λ x. R m2 x v2) (sym answer) (subst (λ w. R m2 s w) (sym same) (subst (λ x. R x s v) (sym still) h))

  at_stop : (r : Answer) (kind : ErrorKind) (v v2 : Values) (m2 : M) → IsRefusal kind r → v2 ≡ v → Comes c kind → AtRefusal v → R m2 r v2
  at_stop (Done step) kind v v2 m2 is same comes h = absurd is
  at_stop (Ask request) kind v v2 m2 is same comes h = absurd is
  at_stop (Refused error) kind v v2 m2 is same comes h =
      subst (λ w. R m2 (Refused error) w) (sym same) (h m2 error (subst (λ x. Comes c x) (sym is) comes))

  at_step : {go : Step → Type 0} {fall : ErrorKind → Type 0} (x r : Answer) (v v2 : Values) (m1 m2 : M) →
      ((request : NetworkRequest) → R m1 (Ask request) v) → ((step : Step) → go step → R m2 r v2) →
      ((error : Error) → x ≡ Refused error → Comes c error.error_type) → ((kind : ErrorKind) → Comes c kind → fall kind → R m2 r v2) →
      Went x go fall r v v2 m1 m2 → R m2 r v2
  at_step (Done step) r v v2 m1 m2 waits on comes fallen w = on step w
  at_step (Ask request) r v v2 m1 m2 waits on comes fallen w = at_end r (Ask request) v v2 m1 m2 w.0 w.1 w.2 (waits request)
  at_step (Refused error) r v v2 m1 m2 waits on comes fallen w = fallen error.error_type (comes error refl) w.1

  at_question : {T : Type 0} {Good : T → M → Type 0} {Bad : Error → M → Type 0} {r : Answer} {v v2 : Values} {m2 : M} →
      AtRefusal v → ((error : Error) → Bad error m2 → Comes c error.error_type) → ((t : T) (m1 : M) → Good t m1 → R m2 r v2) →
      Asked Good Bad r v v2 m2 → R m2 r v2
  at_question stops comes on (answered t m1 h) = on t m1 h
  at_question {r = r} {v = v} {v2 = v2} {m2 = m2} stops comes on (refused error bad answer same) =
      at_end r (Refused error) v v2 m2 m2 answer same refl (stops m2 error (comes error bad))

  -- ---- each way to go on

  pub goes : (v : Values) (step : Step) (m : M) → R m (Done step) v → Leads (Goes v step) m
  goes v step m h = record { ends = λ m2 r v2 f. at_end r (Done step) v v2 m m2 f.0 f.1 f.2 h }

  pub stops : (v : Values) (kind : ErrorKind) (m : M) → Comes c kind → AtRefusal v → Leads (Stops v kind) m
  stops v kind m comes h = record { ends = λ m2 r v2 f. at_stop r kind v v2 m2 f.0 f.1 comes h }

  pub takes : (origin : Origin) (p : Plan) (m : M) → ((m1 : M) → Leads p m1) → Leads (Takes origin p) m
  takes origin p m h = record { ends = λ m2 r v2 f. (h f.0).ends m2 r v2 f.2 }

  pub steps : (args : StepArgs) (v : Values) (go : Step → Plan) (fall : ErrorKind → Plan) (m : M) →
      ((m1 : M) (request : NetworkRequest) → R m1 (Ask request) v) → ((m1 : M) (step : Step) → Leads (go step) m1) →
      ((m1 : M) (kind : ErrorKind) → Comes c kind → Leads (fall kind) m1) → Leads (Steps args v go fall) m
  steps args v go fall m waits on fallen = record {
    ends = λ m2 r v2 f. at_step f.1 r v v2 f.0 m2 (waits f.0) (λ step g. (on f.0 step).ends m2 r v2 g)
        (λ error is. by_step m f.0 args error (subst (λ x. c.steps m args x f.0) is f.2) refl)
        (λ kind comes g. (fallen f.0 kind comes).ends m2 r v2 g) f.3;
  }

  pub resumes : (reply : Reply) (v : Values) (go : Step → Plan) (fall : ErrorKind → Plan) (m : M) →
      ((m1 : M) (request : NetworkRequest) → R m1 (Ask request) v) → ((m1 : M) (step : Step) → Leads (go step) m1) →
      ((m1 : M) (kind : ErrorKind) → Comes c kind → Leads (fall kind) m1) → Leads (Resumes reply v go fall) m
  resumes reply v go fall m waits on fallen = record {
    ends = λ m2 r v2 f. at_step f.1 r v v2 f.0 m2 (waits f.0) (λ step g. (on f.0 step).ends m2 r v2 g)
        (λ error is. by_resume m f.0 reply error (subst (λ x. c.resumes m reply x f.0) is f.2) refl)
        (λ kind comes g. (fallen f.0 kind comes).ends m2 r v2 g) f.3;
  }

  pub accepts : (args : AcceptArgs) (v : Values) (go : Step → Plan) (m : M) → AtRefusal v → ((m1 : M) (step : Step) → Leads (go step) m1) →
      Leads (Accepts args v go) m
  accepts args v go m stops on = record {
    ends = λ m2 r v2 f. at_question stops (λ error bad. by_accept m m2 args error bad refl) (λ step m1 g. (on m1 step).ends m2 r v2 g.1) f;
  }

  pub pairs : (go : Bool → Plan) (m : M) → ((b : Bool) → Leads (go b) m) → Leads (Pairs go) m
  pairs go m on = record { ends = λ m2 r v2 f. (on (c.pairs m)).ends m2 r v2 f }

  pub names : (v : Values) (go : Name → Plan) (m : M) → AtRefusal v →
      ((m1 : M) (name : Name) → c.names m1 ≡ Some name → Leads (go name) m1) → Leads (Names v go) m
  names v go m stops on = record {
    ends = λ m2 r v2 f. at_question stops (λ error bad. by_call m ToName bad.0)
        (λ name m1 g. (on m1 name (ap c.names g.1 ∙ g.0)).ends m2 r v2 g.2) f;
  }

  pub identifies : (identities : List Credentials) (v : Values) (p : Plan) (m : M) → AtRefusal v → ((m1 : M) → Leads p m1) →
      Leads (Identifies identities v p) m
  identifies identities v p m stops on = record {
    ends = λ m2 r v2 f. at_question stops (λ error bad. by_call m (ToIdentify identities) bad.0) (λ u m1 g. (on m1).ends m2 r v2 g.1) f;
  }

  pub signs : (text : List ℕ) (v : Values) (go : List ℕ → Plan) (m : M) → AtRefusal v →
      ((m1 : M) (mic : List ℕ) → m1 ≡ c.counted m (one_signing (c.counts m)) → Leads (go mic) m1) → Leads (Signs text v go) m
  signs text v go m stops on = record {
    ends = λ m2 r v2 f. at_question stops (λ error bad. by_call m (ToSign text) bad.0)
        (λ mic m1 g. (on m1 mic g.1).ends m2 r v2 g.3) f;
  }

  pub verifies : (mic text : List ℕ) (v : Values) (p : Plan) (m : M) → AtRefusal v →
      ((m1 : M) → c.verifies m1 (c.counts m).verifications mic text → m1 ≡ c.counted m (one_verification (c.counts m)) →
      c.permits m (ToVerify mic text) → Leads p m1) → Leads (Verifies mic text v p) m
  verifies mic text v p m stops on = record {
    ends = λ m2 r v2 f. at_question stops (λ error bad. by_call m (ToVerify mic text) bad.0)
        (λ u m1 g. (on m1 g.0 g.1 g.2).ends m2 r v2 g.3) f;
  }

  pub either : (b : Bool) (p q : Plan) (m : M) → (b ≡ true → Leads p m) → (b ≡ false → Leads q m) → Leads (cond b p q) m
  either true p q m h k = h refl
  either false p q m h k = k refl

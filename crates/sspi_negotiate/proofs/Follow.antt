-- A plan is met one question at a time.
use Rattle.std.proofs.Common.{◌≡◌, ◌≢◌, ℕ, Bool, List, Some, Ok, Err, refl, subst, ◌⊎◌, inl, inr}
use Rattle.sspi_types.specs.declared.error.Error.{Error}
use Rattle.sspi_types.specs.declared.error_kind.ErrorKind.{ErrorKind}
use Rattle.sspi_types.specs.declared.error_kind.ErrorKind.TheVariants.{InsufficientMemory}
use Rattle.sspi_names.specs.Name.{Name}
use Rattle.sspi_names.specs.declared.network.NetworkRequest.{NetworkRequest}
use Rattle.sspi_mech.specs.declared.step.Answer.{Answer}
use Rattle.sspi_mech.specs.declared.step.Answer.TheVariants.{Done, Ask, Refused}
use Rattle.sspi_mech.specs.declared.step.Reply.{Reply}
use Rattle.sspi_mech.specs.declared.step.Step.{Step}
use Rattle.sspi_mech.specs.Calls.{StepArgs, AcceptArgs, ToName, ToSign, one_signing}
use Rattle.sspi_mech.specs.Meaning.{Meaning}
use Rattle.sspi_negotiate.specs.Does.{Meets, UnlessMemory}
use Rattle.sspi_negotiate.specs.Follows.{answered, refused}
use Rattle.sspi_negotiate.specs.Hand.{Origin}
use Rattle.sspi_negotiate.specs.Plan.{Plan, Takes, Steps, Resumes, Accepts, Pairs, Names, Signs}
use Rattle.sspi_negotiate.specs.Values.{Values}

pub unless_map : {P Q : Type 0} (r : Answer) → (P → Q) → UnlessMemory r P → UnlessMemory r Q
unless_map (Done step) f h = f h
unless_map (Ask request) f h = f h
unless_map (Refused error) f h = λ other. f (h other)

pub unless_both : (P Q : Type 0) (r : Answer) → UnlessMemory r P → UnlessMemory r Q → UnlessMemory r (P × Q)
unless_both P Q (Done step) h k = (h, k)
unless_both P Q (Ask request) h k = (h, k)
unless_both P Q (Refused error) h k = λ other. (h other, k other)

pub past : {E A B : Type 0} → (A → B) → E ⊎ A → E ⊎ B
past f (inl same) = inl same
past f (inr moved) = inr (f moved)

module _ {M : Type 0} {c : Meaning Origin M} {m m2 : M} {v2 : Values} where
  pub took : {r : Answer} {origin : Origin} {p : Plan} (m1 : M) → c.made origin m1 → Meets c p m1 r v2 m2 →
      Meets c (Takes origin p) m r v2 m2
  took {r = r} m1 h p = record { as_planned = unless_map r (λ q. (m1, h, q)) p.as_planned; reached = inr (m1, h, p.reached) }

  pub paired : {r : Answer} {go : Bool → Plan} → Meets c (go (c.pairs m)) m r v2 m2 → Meets c (Pairs go) m r v2 m2
  paired p = record { as_planned = p.as_planned; reached = p.reached }

  pub accepted : {r : Answer} {v : Values} {args : AcceptArgs} {go : Step → Plan} (m1 : M) (step : Step) →
      c.accepts m args (Ok step) m1 → Meets c (go step) m1 r v2 m2 → Meets c (Accepts args v go) m r v2 m2
  accepted {r = r} m1 step h p =
      record { as_planned = unless_map r (λ q. answered step m1 (h, q)) p.as_planned; reached = inr (m1, Ok step, h, p.reached) }

  pub not_accepted : {v : Values} {args : AcceptArgs} {go : Step → Plan} (error : Error) →
      c.accepts m args (Err error) m2 → v2 ≡ v → Meets c (Accepts args v go) m (Refused error) v2 m2
  not_accepted error h same = record { as_planned = λ _. refused error h refl same; reached = inr (m2, Err error, h, (refl, refl)) }

  pub named : {r : Answer} {v : Values} {go : Name → Plan} (name : Name) → c.names m ≡ Some name → Meets c (go name) m r v2 m2 →
      Meets c (Names v go) m r v2 m2
  named {r = r} name h p = record {
    as_planned = unless_map r (λ q. answered name m (h, refl, q)) p.as_planned;
    reached = past (λ moved. (name, h, moved)) p.reached;
  }

  pub not_named : {v : Values} {go : Name → Plan} (error : Error) →
      (error.error_type ≢ InsufficientMemory → c.refuses m ToName error.error_type) →
      v2 ≡ v → m2 ≡ m → Meets c (Names v go) m (Refused error) v2 m2
  not_named error h same still = record { as_planned = λ other. refused error (h other, still) refl same; reached = inl still }

  pub signed : {r : Answer} {v : Values} {text : List ℕ} {go : List ℕ → Plan} (m1 : M) (mic : List ℕ) →
      c.signs m1 (c.counts m).signings text mic →
      m1 ≡ c.counted m (one_signing (c.counts m)) → c.permits m (ToSign text) → Meets c (go mic) m1 r v2 m2 →
      Meets c (Signs text v go) m r v2 m2
  signed {r = r} m1 mic h counted permitted p =
      record {
        as_planned = unless_map r (λ q. answered mic m1 (h, counted, permitted, q)) p.as_planned;
        reached = inr (m1, mic, h, counted, permitted, p.reached);
      }

  pub not_signed : {v : Values} {text : List ℕ} {go : List ℕ → Plan} (error : Error) →
      (error.error_type ≢ InsufficientMemory → c.refuses m (ToSign text) error.error_type) →
      v2 ≡ v → m2 ≡ m → Meets c (Signs text v go) m (Refused error) v2 m2
  not_signed error h same still = record { as_planned = λ other. refused error (h other, still) refl same; reached = inl still }

  pub stepped : {r : Answer} {v : Values} {args : StepArgs} {go : Step → Plan} {fall : ErrorKind → Plan} (m1 : M) (step : Step) →
      c.steps m args (Done step) m1 → Meets c (go step) m1 r v2 m2 → Meets c (Steps args v go fall) m r v2 m2
  stepped {r = r} m1 step h p =
      record { as_planned = unless_map r (λ q. (m1, Done step, h, q)) p.as_planned; reached = inr (m1, Done step, h, p.reached) }

  pub asks : {v : Values} {args : StepArgs} {go : Step → Plan} {fall : ErrorKind → Plan} (request : NetworkRequest) →
      c.steps m args (Ask request) m2 → v2 ≡ v → Meets c (Steps args v go fall) m (Ask request) v2 m2
  asks request h same =
      record { as_planned = (m2, Ask request, h, (refl, same, refl)); reached = inr (m2, Ask request, h, (refl, refl)) }

  pub not_stepped : {r : Answer} {v : Values} {args : StepArgs} {go : Step → Plan} {fall : ErrorKind → Plan} (m1 : M) (error : Error) →
      c.steps m args (Refused error) m1 → UnlessMemory r (error.error_type ≢ InsufficientMemory) →
      Meets c (fall error.error_type) m1 r v2 m2 → Meets c (Steps args v go fall) m r v2 m2
  not_stepped {r = r} m1 error h other p =
      record {
        as_planned = unless_map r (λ q. (m1, Refused error, h, q)) (unless_both _ _ r other p.as_planned);
        reached = inr (m1, Refused error, h, p.reached);
      }

  -- the same for the kind with which the refusal goes on
  pub not_stepped_as : {r : Answer} {v : Values} {args : StepArgs} {go : Step → Plan} {fall : ErrorKind → Plan} (m1 : M) (error : Error)
      (kind : ErrorKind) → kind ≡ error.error_type → c.steps m args (Refused error) m1 → UnlessMemory r (kind ≢ InsufficientMemory) →
      Meets c (fall kind) m1 r v2 m2 → Meets c (Steps args v go fall) m r v2 m2
  not_stepped_as {r = r} {fall = fall} m1 error kind same h other p = not_stepped m1 error h
      (subst (λ (k : ErrorKind). UnlessMemory r (k ≢ InsufficientMemory)) same other)
      (subst (λ (k : ErrorKind). Meets c (fall k) m1 r v2 m2) same p)

  pub resumed : {r : Answer} {v : Values} {reply : Reply} {go : Step → Plan} {fall : ErrorKind → Plan} (m1 : M) (step : Step) →
      c.resumes m reply (Done step) m1 → Meets c (go step) m1 r v2 m2 → Meets c (Resumes reply v go fall) m r v2 m2
  resumed {r = r} m1 step h p =
      record { as_planned = unless_map r (λ q. (m1, Done step, h, q)) p.as_planned; reached = inr (m1, Done step, h, p.reached) }

  pub asks_again : {v : Values} {reply : Reply} {go : Step → Plan} {fall : ErrorKind → Plan} (request : NetworkRequest) →
      c.resumes m reply (Ask request) m2 → v2 ≡ v → Meets c (Resumes reply v go fall) m (Ask request) v2 m2
  asks_again request h same =
      record { as_planned = (m2, Ask request, h, (refl, same, refl)); reached = inr (m2, Ask request, h, (refl, refl)) }

  pub not_resumed : {r : Answer} {v : Values} {reply : Reply} {go : Step → Plan} {fall : ErrorKind → Plan} (m1 : M) (error : Error) →
      c.resumes m reply (Refused error) m1 → UnlessMemory r (error.error_type ≢ InsufficientMemory) →
      Meets c (fall error.error_type) m1 r v2 m2 → Meets c (Resumes reply v go fall) m r v2 m2
  not_resumed {r = r} m1 error h other p =
      record {
        as_planned = unless_map r (λ q. (m1, Refused error, h, q)) (unless_both _ _ r other p.as_planned);
        reached = inr (m1, Refused error, h, p.reached);
      }

  pub not_resumed_as : {r : Answer} {v : Values} {reply : Reply} {go : Step → Plan} {fall : ErrorKind → Plan} (m1 : M) (error : Error)
      (kind : ErrorKind) → kind ≡ error.error_type → c.resumes m reply (Refused error) m1 →
      UnlessMemory r (kind ≢ InsufficientMemory) →
      Meets c (fall kind) m1 r v2 m2 → Meets c (Resumes reply v go fall) m r v2 m2
  not_resumed_as {r = r} {fall = fall} m1 error kind same h other p = not_resumed m1 error h
      (subst (λ (k : ErrorKind). UnlessMemory r (k ≢ InsufficientMemory)) same other)
      (subst (λ (k : ErrorKind). Meets c (fall k) m1 r v2 m2) same p)

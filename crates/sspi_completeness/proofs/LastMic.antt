-- A server that waits for the last MIC answers by it: a walk along the plan of that step.
use Rattle.std.proofs.Common.{◌≡◌, ℕ, List, [], ◌∷◌, length, map, Option, Some, None, Bool, true, false, ◌==◌, if◌then◌else◌, refl, sym, subst, arith}
use Rattle.std.proofs.lemmas.Bool.{eqb-true}
use Rattle.std.proofs.lemmas.Option.{none-some}
use Rattle.std.specs.Prelude.{option_and_then}
use Rattle.sspi_types.specs.declared.error_kind.ErrorKind.{ErrorKind}
use Rattle.sspi_types.specs.declared.error_kind.ErrorKind.TheVariants.{NoCredentials, InternalError}
use Rattle.sspi_types.specs.declared.security_status.SecurityStatus.TheVariants as statuses
use Rattle.sspi_names.specs.Name.{Name}
use Rattle.sspi_mech.specs.declared.step.Answer.{Answer}
use Rattle.sspi_mech.specs.declared.step.Answer.TheVariants.{Done, Ask, Refused}
use Rattle.sspi_mech.specs.declared.step.Step.{Step}
use Rattle.sspi_mech.specs.Calls.{AcceptArgs}
use Rattle.sspi_mech.specs.Meaning.{Meaning}
use Rattle.sspi_tokens.specs.declared.neg_token_targ.NegTokenTarg.{NegTokenTarg}
use Rattle.sspi_tokens.specs.Reading.{targ_of}
use Rattle.sspi_tokens.specs.Spelling.{spelled_list}
use Rattle.sspi_negotiate.specs.declared.state.NegotiateState.{NegotiateState}
use Rattle.sspi_negotiate.specs.declared.state.NegotiateState.TheVariants as states
use Rattle.sspi_negotiate.specs.declared.state.Role.{Role}
use Rattle.sspi_negotiate.specs.declared.state.Role.TheVariants.{Server}
use Rattle.sspi_negotiate.specs.Does.{UnlessMemory}
use Rattle.sspi_negotiate.specs.Follows.{Follows, IsRefusal, answered, refused}
use Rattle.sspi_negotiate.specs.Hand.{Origin}
use Rattle.sspi_negotiate.specs.Known.{named}
use Rattle.sspi_negotiate.specs.Plan.{Plan, Goes, Stops, Identifies}
use Rattle.sspi_negotiate.specs.Rows.{checks, identifies_among, verifies, verifies_text}
use Rattle.sspi_negotiate.specs.Server.{at_verify_mic, last_mic, server_at}
use Rattle.sspi_negotiate.specs.Values.{Values}
use Rattle.sspi_completeness.specs.LastMic.{mic_in, found_by, VerifiesLast, RefusesLast, AnswersLast}
use Rattle.sspi_completeness.specs.LastMic.{unnamed, unknown, unidentified, too_long, bad}

none_of : {A B : Type 0} (f : A → B) (xs : List A) → (length (map f xs) == 0) ≡ true → xs ≡ []
none_of f [] is = refl
none_of f (x ∷ xs) is = (let zero : length (map f (x ∷ xs)) ≡ 0 = eqb-true _ _ is in absurd (omega arith))

module _ {M : Type 0} (c : Meaning Origin M) (mic : List ℕ) (v v2 v3 : Values) (last : Step) (m m2 : M) where
  -- what the step answers if there was memory
  Answers : Answer → Type 0
  Answers (Done step) = VerifiesLast c m v.known v.list mic
  Answers (Ask request) = ⊥
  Answers (Refused error) = RefusesLast c m v.known v.list mic error.error_type

  by_kind : (kind : ErrorKind) (r : Answer) → IsRefusal kind r → RefusesLast c m v.known v.list mic kind → Answers r
  unfolding Answers
  by_kind kind (Done step) is why = absurd is
  by_kind kind (Ask request) is why = absurd is
  by_kind kind (Refused error) is why = subst (RefusesLast c m v.known v.list mic) (sym is) why

  module _ (name : Name) (named_so : c.names m ≡ Some name) where
    verified : (text : Option (List ℕ)) (m1 : M) (r : Answer) → spelled_list v.list ≡ text → c.identifies m (found_by name v.known) m1 →
        Follows c (verifies_text mic text v (Goes v3 last)) m1 r v2 m2 → Answers r
    unfolding Answers
    verified None m1 r spelled identified follows = by_kind InternalError r follows.0 (too_long spelled refl)
    verified (Some text) m1 r spelled identified (answered unit m3 good) =
        subst Answers (sym good.3.0)
        (record {
          name = name;
          text = text;
          identified = m1;
          after = m3;
          named_so = named_so;
          identifies = identified;
          spelled = spelled;
          verified = good.0;
        })
    verified (Some text) m1 r spelled identified (refused error why r_is v_is) =
        subst Answers (sym r_is) (bad name text m1 named_so identified spelled why.0)

    identified : (none : Bool) (r : Answer) → (length (found_by name v.known) == 0) ≡ none →
        Follows c (if none then Stops v NoCredentials else Identifies (found_by name v.known) v (verifies mic v (Goes v3 last))) m r
        v2 m2 → Answers r
    unfolding Answers
    identified true r none follows =
        by_kind NoCredentials r follows.0 (unknown name named_so (none_of _ (named name v.known) none) refl)
    identified false r none (answered unit m1 good) = verified (spelled_list v.list) m1 r refl good.0 good.1
    identified false r none (refused error why r_is v_is) = subst Answers (sym r_is) (unidentified name named_so why.0)

  checked : (r : Answer) → Follows c (checks mic v (Goes v3 last)) m r v2 m2 → Answers r
  unfolding Answers
  checked r (answered name m1 good) =
      identified name good.0 (length (found_by name v.known) == 0) r refl
      (subst (λ (k : M). Follows c (identifies_among (found_by name v.known) v (verifies mic v (Goes v3 last))) k r v2 m2) good.1 good.2)
  checked r (refused error why r_is v_is) = subst Answers (sym r_is) (unnamed why.0)

  unless : (r : Answer) → UnlessMemory r (Follows c (checks mic v (Goes v3 last)) m r v2 m2) → AnswersLast c m v.known v.list mic r
  unfolding Answers
  unless (Done step) follows = checked (Done step) follows
  unless (Ask request) follows = checked (Ask request) follows
  unless (Refused error) follows = λ kind. checked (Refused error) (follows kind)

-- a token whose MIC this is
with_mic : (token : Option NegTokenTarg) (mic : List ℕ) (v : Values) (P : Plan → Type 0) →
    option_and_then (λ t. t.mech_list_mic) token ≡ Some mic → P (at_verify_mic token v) → P (last_mic (Some mic) v)
with_mic None mic v P is at = absurd (none-some mic is)
with_mic (Some token) mic v P is at = subst (λ (m : Option (List ℕ)). P (last_mic m v)) is at

module _ {M : Type 0} (c : Meaning Origin M) (mic : List ℕ) (v v2 : Values) (args : AcceptArgs) (m m2 : M) where
  pub last_answered : (role : Role) (state : NegotiateState) (r : Answer) → role ≡ Server → state ≡ states.VerifyMic →
      mic_in args.input ≡ Some mic → UnlessMemory r (Follows c (server_at role state v args) m r v2 m2) →
      AnswersLast c m v.known v.list mic r
  last_answered role state r role_is state_is mic_is follows =
      let P = λ (p : Plan). UnlessMemory r (Follows c p m r v2 m2) in
      unless c mic v v2 (record v { state = states.Ok }) (record { status = statuses.Ok; output = [] }) m m2 r
      (with_mic (targ_of args.input) mic v P mic_is
      (subst (λ (s : NegotiateState). P (server_at Server s v args)) state_is
      (subst (λ (end : Role). P (server_at end state v args)) role_is follows)))

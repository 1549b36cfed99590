-- The calls by which an end made its turns over a channel.
use Rattle.std.proofs.Common.{◌≡◌, ℕ, inl, inr, List, Option, None, Some, Result, Err, sym, subst}
use Rattle.sspi_types.specs.declared.error.Error.{Error}
use Rattle.sspi_mech.specs.Meaning.{Meaning}
use Rattle.sspi_names.specs.declared.identity.AuthIdentity.{AuthIdentity}
use Rattle.sspi_tsreq.specs.declared.request.TsRequest.{TsRequest}
use Rattle.sspi_credssp.specs.declared.turn.End.{End}
use Rattle.sspi_credssp.specs.declared.turn.End.TheVariants.{Client, Server}
use Rattle.sspi_credssp.specs.declared.turn.Turn.{Turn}
use Rattle.sspi_credssp.specs.Context.{ContextSetting}
use Rattle.sspi_credssp.specs.Ends.{ClientView, ServerView}
use Rattle.sspi_credssp.specs.Proxy.{ProxyMeaning}
use Rattle.sspi_delegate.specs.declared.answer.DelegateError.{DelegateError}
use Rattle.sspi_delegate.specs.declared.answer.DelegateError.TheVariants as errors
use Rattle.sspi_delegate.specs.declared.ends.Round.{Round}
use Rattle.sspi_delegate.specs.declared.ends.Round.TheVariants as round
use Rattle.sspi_delegate.specs.Chain.{KdcCalls}
use Rattle.sspi_delegate.specs.Halves.{ClientHalfStops, IsNoRefusal, ServerHalfStops}
use Rattle.sspi_delegate.specs.History.{ClientHistory, ServerHistory, ServerStopped}
use Rattle.sspi_delegate.specs.Rounds.{ClientRoundPast, ServerRoundPast}
use Rattle.sspi_delegate.specs.Turns.{AllGoOn, client_turns, server_turns}
use Rattle.sspi_delegate.proofs.Halves.{server_half_refused}
use Rattle.sspi_delegate.proofs.Histories.{left_due, left_lost, server_stopped_history}
use Rattle.sspi_live.specs.Reading.{Reads}
use Rattle.sspi_live.specs.Answers.{IsDue, IsOwn, SoFar}
use Rattle.sspi_live.specs.Channel.{Carries, Channel}
use Rattle.sspi_live.specs.Sides.{AreOf, read_for}
use Rattle.sspi_live.proofs.Stopping.{is_due}
use Rattle.sspi_live.specs.Steps.{AnswersTold, ReadsDue, WritesNewest}
use Rattle.sspi_live.proofs.Stepping.{own_clients, own_servers}
use Rattle.std.proofs.Common.{[], ◌∷◌}

-- ---- what fails outside an end is not its refusal

pub read_is_no_refusal : (to : End) (left rest : Option (List ℕ)) (before now : ℕ) (error : DelegateError) →
    Reads to left rest before now (Err error) → IsNoRefusal error
read_is_no_refusal to left rest before now (errors.Client error) r = absurd r
read_is_no_refusal to left rest before now (errors.Server error) r = absurd r
read_is_no_refusal to left rest before now (errors.Read end kind) r = tt
read_is_no_refusal to left rest before now (errors.Write end) r = tt
read_is_no_refusal to left rest before now errors.LinkFault r = tt
read_is_no_refusal to left rest before now errors.TurnsSpent r = tt
read_is_no_refusal to left rest before now errors.InsufficientMemory r = tt

pub due_is_no_refusal : (turns : List Turn) (left rest : Option (List ℕ)) (before now : ℕ) (error : DelegateError) →
    ReadsDue Client turns left rest before now (Err error) → IsNoRefusal error
due_is_no_refusal [] left rest before now error r = absurd r
due_is_no_refusal (t ∷ past) left rest before now error r = read_is_no_refusal Client left rest before now error r

pub write_is_no_refusal : (from : End) (message : Option TsRequest) (old new : Option (List ℕ)) (before now : ℕ) (error : DelegateError) →
    WritesNewest from message old new before now (Err error) → IsNoRefusal error
write_is_no_refusal from None old new before now error w = absurd w
write_is_no_refusal from (Some m) old new before now (errors.Client error) w = absurd w
write_is_no_refusal from (Some m) old new before now (errors.Server error) w = absurd w
write_is_no_refusal from (Some m) old new before now (errors.Read end kind) w = tt
write_is_no_refusal from (Some m) old new before now (errors.Write end) w = tt
write_is_no_refusal from (Some m) old new before now errors.LinkFault w = tt
write_is_no_refusal from (Some m) old new before now errors.TurnsSpent w = tt
write_is_no_refusal from (Some m) old new before now errors.InsufficientMemory w = tt

-- ---- the turns of an end alone

module _ {C P : Type 0} (c : Meaning ContextSetting C) (p : ProxyMeaning P) where
  pub server_calls : (first was now : ServerView C P) (old new : List Turn) (result : Round (Option AuthIdentity)) → AreOf Server old →
      AreOf Server new → ServerHistory c p first old was →
      (ServerHistory c p first (server_turns old) was → ServerRoundPast c p first result (server_turns new) now) →
      ServerRoundPast c p first result new now
  server_calls first was now old new result old_whose new_whose history calls =
      subst (λ (l : List Turn). ServerRoundPast c p first result l now) (own_servers new new_whose)
      (calls (subst (λ (l : List Turn). ServerHistory c p first l was) (sym (own_servers old old_whose)) history))

  -- if memory ran out for the message of a refusal, its turn was still made
  pub told_past : (first now : ServerView C P) (turns : List Turn) (error : Error) (told : Result (Unit {0}) DelegateError)
      (answer : DelegateError) → AnswersTold error told answer → ServerStopped c p first error turns now →
      ServerHalfStops c p first answer turns now
  told_past first now turns error told answer (inl memory) s =
      rw memory.1 (server_stopped_history c p first now error turns s)
  told_past first now turns error told answer (inr (had, answers)) s =
      server_half_refused c p first now turns error answer answers s

module _ {C D : Type 0} (c : Meaning ContextSetting C) (k : KdcCalls D) where
  pub client_calls : (request : TsRequest) (first was now : ClientView C) (kdc kdc1 kdc2 : D) (old new : List Turn)
      (result : Round (Unit {0})) → AreOf Client old → AreOf Client new → ClientHistory c k first kdc old was kdc1 →
      (ClientHistory c k first kdc (client_turns old) was kdc1 →
      ClientRoundPast c k request first kdc result (client_turns new) now kdc2) →
      ClientRoundPast c k request first kdc result new now kdc2
  client_calls request first was now kdc kdc1 kdc2 old new result old_whose new_whose history calls =
      subst (λ (l : List Turn). ClientRoundPast c k request first kdc result l now kdc2) (own_clients new new_whose)
      (calls (subst (λ (l : List Turn). ClientHistory c k first kdc l was kdc1) (sym (own_clients old old_whose)) history))

  -- if memory ran out for the turn or for a reply of the KDC
  pub lost_past : (d : TsRequest) (first was now : ClientView C) (kdc kdc1 kdc2 : D) (old new : List Turn) (begun a b : Channel) →
      AreOf Client old → SoFar Client old begun a → Carries a b (read_for Client old d) [] → IsOwn Client old d → new ≡ old →
      ClientHistory c k first kdc old was kdc1 →
      (ClientHistory c k first kdc (client_turns old) was kdc1 →
      ClientRoundPast c k d first kdc round.Lost (client_turns new) now kdc2) →
      ClientHalfStops c k (IsDue Client new begun b) first kdc errors.InsufficientMemory new now kdc2
  lost_past d first was now kdc kdc1 kdc2 old new begun a b whose so read own same history calls =
      left_due c k (λ (x : TsRequest). x ≡ d) (IsDue Client new begun b) first now kdc kdc2 new
      (λ x is. subst (λ (y : TsRequest). IsDue Client new begun b y) (sym is)
      (subst (λ (l : List Turn). IsDue Client l begun b d) (sym same) (is_due Client d old begun a b so read own)))
      (left_lost c k d first now kdc kdc2 new (subst (λ (l : List Turn). AllGoOn l) (sym same) so.going)
      (client_calls d first was now kdc kdc1 kdc2 old new round.Lost whose
      (subst (λ (l : List Turn). AreOf Client l) (sym same) whose) history calls))

-- What holds of an end that was fresh, whoever is at the other end of its channel.
use Rattle.std.specs.Prelude.{◌≡◌, ℕ, ◌≤◌, true, List, [], ◌∷◌, Result, Err, IfOk, OnOk}
use Rattle.sspi_types.specs.declared.error.Error.{Error}
use Rattle.sspi_mech.specs.Meaning.{Meaning}
use Rattle.sspi_tsreq.specs.declared.request.TsRequest.{TsRequest}
use Rattle.sspi_credssp.specs.declared.turn.Turn.{Turn}
use Rattle.sspi_credssp.specs.Context.{ContextSetting}
use Rattle.sspi_credssp.specs.Ends.{ClientView, ServerView}
use Rattle.sspi_credssp.specs.Proxy.{ProxyMeaning}
use Rattle.sspi_delegate.specs.declared.answer.Delegation.{Delegation}
use Rattle.sspi_delegate.specs.declared.answer.DelegateError.{DelegateError}
use Rattle.sspi_delegate.specs.declared.answer.DelegateError.TheVariants as errors
use Rattle.sspi_delegate.specs.Chain.{KdcCalls, ServerChain, client_stage, server_stage}
use Rattle.sspi_delegate.specs.Headline.{EachHeedsClient, EachHeedsServer, HasExchanged}
use Rattle.sspi_delegate.specs.Headline.{SealsAfterProof, sealed_turns}
use Rattle.sspi_delegate.specs.History.{ClientRefused, ServerRefused}
use Rattle.sspi_delegate.specs.Turns.{ClientRan, GivesNewest, ServerRan, client_end, server_end}
use Rattle.sspi_live.specs.Pasts.{ConnectChained}

-- of a server
pub record ServedFresh {C P : Type 0} (c : Meaning ContextSetting C) (p : ProxyMeaning P)
    (first : ServerView C P)
    (result : Result Delegation DelegateError) (turns : List Turn) (now : ServerView C P) : Type 0
  where
    pub the_turns_are_a_run : ServerRan c first now turns
    pub it_heeds_its_client : EachHeedsClient c now.context now.settings.least turns
    pub it_never_seals : sealed_turns turns ≡ 0
    pub the_identity_is_what_was_opened_last : IfOk result
        (λ delegation. GivesNewest c (server_end now) turns delegation.credentials)
    pub both_proofs_came_before_ok : OnOk result (HasExchanged turns)
    pub it_has_the_context_of_its_chain : ServerChain c p first turns (server_stage now)
    pub a_refusal_has_its_cause : (error : Error) → result ≡ Err (errors.Server error) →
        ServerRefused c p first error now turns

-- in the newest of these turns the server's proof was checked, and then the credentials were sealed
abbrev pub HasSealed : List Turn → Type 0
HasSealed [] = ⊥
HasSealed (t ∷ past) = (t.acts.checked ≡ true) × (t.acts.sealed ≡ true)

-- of a client
pub record ConnectedFresh {C D : Type 0} (c : Meaning ContextSetting C) (k : KdcCalls D)
    (due : TsRequest → Type 0)
    (first : ClientView C) (kdc : D) (result : Result ℕ DelegateError) (turns : List Turn)
    (now : ClientView C) (kdc2 : D) : Type 0 where
  pub the_turns_are_a_run : ClientRan c first now turns
  pub it_heeds_its_server : EachHeedsServer c now.settings.least turns
  pub credentials_are_sealed_at_most_once : sealed_turns turns ≤ 1
  pub it_seals_after_the_proof : SealsAfterProof c (client_end now) turns
  pub credentials_are_sealed_before_ok : OnOk result (HasSealed turns)
  pub it_has_the_context_of_its_chain : ConnectChained c k due first kdc result turns
      (client_stage now kdc2)
  pub a_refusal_has_its_cause : (error : Error) → result ≡ Err (errors.Client error) →
      ClientRefused c k first kdc error now kdc2 turns

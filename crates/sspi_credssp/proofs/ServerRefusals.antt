-- The server answers a request with its own version as it answers the delivered one.
use Rattle.std.proofs.Common.{◌≡◌, ℕ, Some, Result, Ok, Err, refl, sym, ◌∙◌, ap, subst}
use Rattle.sspi_types.specs.declared.error.Error.{Error}
use Rattle.sspi_types.specs.declared.error_kind.ErrorKind.{ErrorKind}
use Rattle.sspi_tsreq.specs.declared.request.TsRequest.{TsRequest}
use Rattle.sspi_mech.specs.Meaning.{Meaning}
use Rattle.sspi_credssp.specs.declared.server_negotiation.Answer.{Answer}
use Rattle.sspi_credssp.specs.declared.server_state.ServerError.{ServerError}
use Rattle.sspi_credssp.specs.declared.server_state.ServerState.{ServerState}
use Rattle.sspi_credssp.specs.declared.server_state.ServerState.TheVariants.{ReplyNeeded}
use Rattle.sspi_credssp.specs.declared.state.CredSspState.{CredSspState}
use Rattle.sspi_credssp.specs.declared.state.CredSspState.TheVariants.{NegoToken, PubKeyInfo, AuthInfo, Final}
use Rattle.sspi_credssp.specs.Context.{ContextSetting}
use Rattle.sspi_credssp.specs.Requests.{error_request}
use Rattle.sspi_credssp.specs.Ends.{ServerView}
use Rattle.sspi_credssp.specs.ServerTurn.{ServerTurn, ServerGoes}
use Rattle.sspi_credssp.specs.ServerStage.{HaltedTurn, answered_by}
use Rattle.sspi_credssp.specs.declared.turn.Outcome.TheVariants as outcome

same_request : (state : CredSspState) (version v : ℕ) (kind : ErrorKind) (d : TsRequest) →
    error_request state version kind (record d { version = v }) ≡ error_request state version kind d
same_request NegoToken version v kind d = refl
same_request PubKeyInfo version v kind d = refl
same_request AuthInfo version v kind d = refl
same_request Final version v kind d = refl

module _ {C P : Type 0} (c : Meaning ContextSetting C) where
  halted : (start new : ServerView C P) (d request : TsRequest) (state : CredSspState) (version : ℕ) (error : Error)
      (refusal : ServerError) →
      request ≡ record d { version = version } → version ≡ new.settings.version → state ≡ start.state →
      refusal ≡ record { ts_request = Some (error_request state request.version error.error_type request); error = error } →
      HaltedTurn c start d error.error_type new → ServerTurn c start d (outcome.Refused refusal.error.error_type refusal.ts_request) new
  halted start new d request state version error refusal same own stays given h =
      let told : error_request state request.version error.error_type request
      ≡ error_request start.state new.settings.version error.error_type d =
      ap (λ (r : TsRequest). error_request state r.version error.error_type r) same
      ∙ same_request state version version error.error_type d
      ∙ ap (λ v. error_request state v error.error_type d) own
      ∙ ap (λ s. error_request s new.settings.version error.error_type d) stays in
      subst (λ (r : ServerError). ServerTurn c start d (outcome.Refused r.error.error_type r.ts_request) new) (sym given)
      (subst (λ r. ServerTurn c start d (outcome.Refused error.error_type (Some r)) new) (sym told) h)

  -- as the call returns it
  pub halted_as : (start new : ServerView C P) (d request : TsRequest) (state : CredSspState) (version : ℕ) (error : Error)
      (refusal : ServerError)
      (result : Result ServerState ServerError) → result ≡ Err refusal →
      request ≡ record d { version = version } → version ≡ new.settings.version → state ≡ start.state →
      refusal ≡ record { ts_request = Some (error_request state request.version error.error_type request); error = error } →
      HaltedTurn c start d error.error_type new → ServerGoes c start d result new
  halted_as start new d request state version error refusal result is same own stays given h =
      subst (λ r. ServerGoes c start d r new) (sym is) (halted start new d request state version error refusal same own stays given h)

  pub went_on : (start new : ServerView C P) (d request : TsRequest) (version : ℕ) (answer : Answer) (reply : TsRequest)
      (result : Result ServerState ServerError) → result ≡ Ok (ReplyNeeded reply) →
      request ≡ record d { version = version } → version ≡ new.settings.version → reply ≡ answered_by request answer →
      ServerTurn c start d (outcome.Reply (answered_by (record d { version = new.settings.version }) answer)) new →
      ServerGoes c start d result new
  went_on start new d request version answer reply result is same own given h =
      let told : answered_by (record d { version = new.settings.version }) answer ≡ reply =
      ap (λ v. answered_by (record d { version = v }) answer) (sym own) ∙ ap (λ r. answered_by r answer) (sym same) ∙ sym given in
      subst (λ r. ServerGoes c start d r new) (sym is) (subst (λ r. ServerTurn c start d (outcome.Reply r) new) told h)

-- One call of an end that keeps the call's result.
use Rattle.std.specs.Prelude.{◌≡◌, Result, Ok, Err}
use Rattle.sspi_types.specs.declared.error.Error.{Error}
use Rattle.sspi_mech.specs.Meaning.{Meaning}
use Rattle.sspi_tsreq.specs.declared.request.TsRequest.{TsRequest}
use Rattle.sspi_credssp.specs.ClientCall.{ClientCall}
use Rattle.sspi_credssp.specs.Context.{ContextSetting}
use Rattle.sspi_credssp.specs.Ends.{ClientView, ServerView}
use Rattle.sspi_credssp.specs.Proxy.{ProxyMeaning}
use Rattle.sspi_credssp.specs.ServerCall.{ServerCall}
use Rattle.sspi_credssp.specs.declared.client_state.Progress.{Progress}
use Rattle.sspi_credssp.specs.declared.server_state.ServerError.{ServerError}
use Rattle.sspi_credssp.specs.declared.server_state.ServerState.{ServerState}
use Rattle.sspi_outside.specs.Hosting.{client_last, server_last}
use Rattle.sspi_outside.specs.declared.last.Last.{Last}

-- whether the call was refused, and with what error
abbrev pub client_said : Result Progress Error → Result (Unit {0}) Error
client_said (Ok progress) = Ok tt
client_said (Err error) = Err error

abbrev pub server_said : Result ServerState ServerError → Result (Unit {0}) Error
server_said (Ok state) = Ok tt
server_said (Err refusal) = Err refusal.error

-- one call of `CredSspClient::process`, whose result the end keeps
pub record ClientCalled {C : Type 0} (c : Meaning ContextSetting C) (old : ClientView C)
    (d : TsRequest) (result : Result (Unit {0}) Error)
    (new : ClientView C) (last : Last) : Type 0 where
  pub answer : Result Progress Error
  pub call : ClientCall c old d answer new
  pub kept : last ≡ client_last answer
  pub said : result ≡ client_said answer

-- the same for `CredSspServer::process`
pub record ServerCalled {C P : Type 0} (c : Meaning ContextSetting C) (p : ProxyMeaning P)
    (old : ServerView C P) (d : TsRequest)
    (result : Result (Unit {0}) Error) (new : ServerView C P) (last : Last) : Type 0 where
  pub answer : Result ServerState ServerError
  pub call : ServerCall c p old d answer new
  pub kept : last ≡ server_last answer
  pub said : result ≡ server_said answer

-- What one call of `CredSspServer::process` is, whatever it answers (MS-CSSP 3.1.5.2).
use Rattle.std.specs.Prelude.{◌≡◌, [], None, Result, IsErr, IfErr, true}
use Rattle.sspi_mech.specs.Meaning.{Meaning}
use Rattle.sspi_tsreq.specs.declared.request.TsRequest.{TsRequest}
use Rattle.sspi_credssp.specs.declared.server_state.ServerError.{ServerError}
use Rattle.sspi_credssp.specs.declared.server_state.ServerState.{ServerState}
use Rattle.sspi_credssp.specs.Acts.{no_acts}
use Rattle.sspi_credssp.specs.Proxy.{Asks, ProxyMeaning, calls_in}
use Rattle.sspi_credssp.specs.Context.{ContextSetting}
use Rattle.sspi_credssp.specs.Noted.{ServerHeeds, differs}
use Rattle.sspi_credssp.specs.Refusal.{IsTurnRefusedBy}
use Rattle.sspi_credssp.specs.Ends.{ServerView}
use Rattle.sspi_credssp.specs.ServerCause.{ServerCause, ServerExact}
use Rattle.sspi_credssp.specs.ServerTurn.{HasAcceptedTurn, MakesAlone, ServerGoes}

module _ {C P : Type 0} (c : Meaning ContextSetting C) (p : ProxyMeaning P) where
  -- what a call leaves unchanged: a client that changes its version changes nothing; a call that
  -- takes no step makes at most a context; one that leaves none only asks the proxy
  pub record ServerKeeps (old : ServerView C P) (d : TsRequest)
      (result : Result ServerState ServerError) (new : ServerView C P) :
      Type 0 where
    pub altered : differs old.noted d.version ≡ true → IsErr result ×
        (new ≡ record old { acts = no_acts; output = [] })
    pub made : MakesAlone c p old new
    pub unmade : new.context ≡ None → new ≡ record old {
      proxy = new.proxy;
      acts = no_acts;
      output = [];
    }

  -- The call is one turn, with one step of the context if it authenticates. A refusal has its
  -- cause, and one because the client's version is too old comes exactly then. The proxy is asked
  -- as often as the step's status requires.
  pub record ServerCall (old : ServerView C P) (d : TsRequest)
      (result : Result ServerState ServerError) (new : ServerView C P) :
      Type 0 where
    pub turn : ServerGoes c old d result new
    pub step : HasAcceptedTurn c p old d result new
    pub cause : IsTurnRefusedBy result (ServerCause c p old d new)
    pub exact : IfErr result (λ refusal. ServerExact c old d new refusal.error.error_type)
    pub heeded : ServerHeeds c old d result new
    pub kept : ServerKeeps old d result new
    pub proxy : Asks p (calls_in old new.acts.status) result old.proxy new.proxy

-- What half a round does to the histories of both ends, whatever the error.
use Rattle.std.proofs.Common.{inl, inr, List}
use Rattle.sspi_types.specs.declared.error.Error.{Error}
use Rattle.sspi_mech.specs.Meaning.{Meaning}
use Rattle.sspi_tsreq.specs.declared.request.TsRequest.{TsRequest}
use Rattle.sspi_credssp.specs.Ends.{ClientView, ServerView}
use Rattle.sspi_credssp.specs.Context.{ContextSetting}
use Rattle.sspi_credssp.specs.Proxy.{ProxyMeaning}
use Rattle.sspi_delegate.specs.declared.answer.DelegateError.{DelegateError}
use Rattle.sspi_delegate.specs.declared.answer.DelegateError.TheVariants as errors
use Rattle.sspi_delegate.specs.Chain.{KdcCalls}
use Rattle.sspi_delegate.specs.Halves.{IsAnswerTo, IsNoRefusal, ClientHalfStops, ServerHalfStops}
use Rattle.sspi_delegate.specs.History.{ClientHistory, ClientStopped, between, ClientStops, ServerHistory, ServerStopped, ServerStops}
use Rattle.sspi_delegate.proofs.Histories.{client_stopped_history, server_stopped_history}
use Rattle.sspi_credssp.specs.declared.turn.Turn.{Turn}

module _ {C D : Type 0} (c : Meaning ContextSetting C) (k : KdcCalls D) (due : TsRequest → Type 0) where
  pub client_half_stopped : (first now : ClientView C) (kdc kdc2 : D) (turns : List Turn) (error : DelegateError) → IsNoRefusal error →
      ClientHistory c k first kdc turns now kdc2 → ClientHalfStops c k due first kdc error turns now kdc2
  client_half_stopped first now kdc kdc2 turns (errors.Client error) link h = absurd link
  client_half_stopped first now kdc kdc2 turns (errors.Server error) link h = absurd link
  client_half_stopped first now kdc kdc2 turns (errors.Read to kind) link h = h
  client_half_stopped first now kdc kdc2 turns (errors.Write from) link h = h
  client_half_stopped first now kdc kdc2 turns errors.LinkFault link h = h
  client_half_stopped first now kdc kdc2 turns errors.TurnsSpent link h = h
  client_half_stopped first now kdc kdc2 turns errors.InsufficientMemory link h = between h

  pub client_half_refused : (first now : ClientView C) (kdc kdc2 : D) (turns : List Turn) (error : Error) (answer : DelegateError) →
      IsAnswerTo error.error_type (errors.Client error) answer → ClientStopped c k first kdc error turns now kdc2 →
      ClientHalfStops c k due first kdc answer turns now kdc2
  client_half_refused first now kdc kdc2 turns error answer (inl memory) s =
      rw memory.1 (between (client_stopped_history c k first now kdc kdc2 error turns s))
  client_half_refused first now kdc kdc2 turns error answer (inr refusal) s = rw refusal.1 s

  pub client_half_past : (first now : ClientView C) (kdc kdc2 : D) (turns : List Turn) (error : DelegateError) →
      ClientHalfStops c k due first kdc error turns now kdc2 → ClientStops c k due first kdc error turns now kdc2
  client_half_past first now kdc kdc2 turns (errors.Client error) h = h
  client_half_past first now kdc kdc2 turns (errors.Server error) h = absurd h
  client_half_past first now kdc kdc2 turns (errors.Read to kind) h = h
  client_half_past first now kdc kdc2 turns (errors.Write from) h = h
  client_half_past first now kdc kdc2 turns errors.LinkFault h = h
  client_half_past first now kdc kdc2 turns errors.TurnsSpent h = h
  client_half_past first now kdc kdc2 turns errors.InsufficientMemory h = h

  module _ {P : Type 0} (p : ProxyMeaning P) where
    -- the other end of a half that an error ended
    pub server_beside : (first now : ClientView C) (kdc kdc2 : D) (turns : List Turn) (error : DelegateError)
        (server server2 : ServerView C P)
        (servers : List Turn) → ClientHalfStops c k due first kdc error turns now kdc2 → ServerHistory c p server servers server2 →
        ServerStops c p server error servers server2
    server_beside first now kdc kdc2 turns (errors.Client error) server server2 servers half h = h
    server_beside first now kdc kdc2 turns (errors.Server error) server server2 servers half h = absurd half
    server_beside first now kdc kdc2 turns (errors.Read to kind) server server2 servers half h = h
    server_beside first now kdc kdc2 turns (errors.Write from) server server2 servers half h = h
    server_beside first now kdc kdc2 turns errors.LinkFault server server2 servers half h = h
    server_beside first now kdc kdc2 turns errors.TurnsSpent server server2 servers half h = h
    server_beside first now kdc kdc2 turns errors.InsufficientMemory server server2 servers half h = h

    pub client_beside : (first now : ClientView C) (kdc kdc2 : D) (turns : List Turn) (error : DelegateError)
        (server server2 : ServerView C P)
        (servers : List Turn) → ServerHalfStops c p server error servers server2 → ClientHistory c k first kdc turns now kdc2 →
        ClientStops c k due first kdc error turns now kdc2
    client_beside first now kdc kdc2 turns (errors.Client error) server server2 servers half h = absurd half
    client_beside first now kdc kdc2 turns (errors.Server error) server server2 servers half h = h
    client_beside first now kdc kdc2 turns (errors.Read to kind) server server2 servers half h = h
    client_beside first now kdc kdc2 turns (errors.Write from) server server2 servers half h = h
    client_beside first now kdc kdc2 turns errors.LinkFault server server2 servers half h = h
    client_beside first now kdc kdc2 turns errors.TurnsSpent server server2 servers half h = h
    client_beside first now kdc kdc2 turns errors.InsufficientMemory server server2 servers half h = between h

module _ {C P : Type 0} (c : Meaning ContextSetting C) (p : ProxyMeaning P) where
  pub server_half_stopped : (first now : ServerView C P) (turns : List Turn) (error : DelegateError) → IsNoRefusal error →
      ServerHistory c p first turns now → ServerHalfStops c p first error turns now
  server_half_stopped first now turns (errors.Client error) link h = absurd link
  server_half_stopped first now turns (errors.Server error) link h = absurd link
  server_half_stopped first now turns (errors.Read to kind) link h = h
  server_half_stopped first now turns (errors.Write from) link h = h
  server_half_stopped first now turns errors.LinkFault link h = h
  server_half_stopped first now turns errors.TurnsSpent link h = h
  server_half_stopped first now turns errors.InsufficientMemory link h = h

  pub server_half_refused : (first now : ServerView C P) (turns : List Turn) (error : Error) (answer : DelegateError) →
      IsAnswerTo error.error_type (errors.Server error) answer → ServerStopped c p first error turns now →
      ServerHalfStops c p first answer turns now
  server_half_refused first now turns error answer (inl memory) s = rw memory.1 (server_stopped_history c p first now error turns s)
  server_half_refused first now turns error answer (inr refusal) s = rw refusal.1 s

  pub server_half_past : (first now : ServerView C P) (turns : List Turn) (error : DelegateError) →
      ServerHalfStops c p first error turns now → ServerStops c p first error turns now
  server_half_past first now turns (errors.Client error) h = absurd h
  server_half_past first now turns (errors.Server error) h = h
  server_half_past first now turns (errors.Read to kind) h = h
  server_half_past first now turns (errors.Write from) h = h
  server_half_past first now turns errors.LinkFault h = h
  server_half_past first now turns errors.TurnsSpent h = h
  server_half_past first now turns errors.InsufficientMemory h = h

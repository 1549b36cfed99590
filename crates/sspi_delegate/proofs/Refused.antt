-- What the history of a fresh end says about its refusal.
use Rattle.std.proofs.Common.{subst, List, Result, Ok, Err}
use Rattle.sspi_types.specs.declared.error.Error.{Error}
use Rattle.sspi_mech.specs.Context.{IsContext}
use Rattle.sspi_mech.specs.Meaning.{Meaning}
use Rattle.sspi_tsreq.specs.declared.request.TsRequest.{TsRequest}
use Rattle.sspi_credssp.specs.declared.turn.Turn.{Turn}
use Rattle.sspi_credssp.specs.Ends.{ClientView, IsFreshClient, ServerView, IsFreshServer}
use Rattle.sspi_credssp.specs.Context.{ContextSetting}
use Rattle.sspi_credssp.specs.Proxy.{ProxyMeaning}
use Rattle.sspi_delegate.specs.declared.answer.Delegation.{Delegation}
use Rattle.sspi_delegate.specs.declared.answer.DelegateError.{DelegateError}
use Rattle.sspi_delegate.specs.declared.answer.DelegateError.TheVariants as errors
use Rattle.sspi_delegate.specs.Chain.{KdcCalls}
use Rattle.sspi_delegate.specs.Turns.{OthersGoOn, AllGoOn, OthersUnrefused, NoneRefused}
use Rattle.sspi_delegate.specs.History.{ClientStopped, ClientPast, ServerStopped, ServerPast, ClientRefused, ServerRefused, RefusedBy}
use Rattle.sspi_delegate.proofs.Chained.{client_chained, server_chained}
use Rattle.sspi_delegate.proofs.Alternating.{others_go, rest_unrefused, others_unrefused}
use Rattle.sspi_delegate.proofs.HistoryRuns.{history_follows, history_proxy, server_history_follows}

module _ {C D P : Type 0} (c : Meaning ContextSetting C) (law : IsContext c) (p : ProxyMeaning P) (k : KdcCalls D) where
  pub client_refused : (first now : ClientView C) (kdc kdc2 : D) (turns : List Turn) (error : Error) → IsFreshClient first →
      OthersGoOn turns → ClientStopped c k first kdc error turns now kdc2 → ClientRefused c k first kdc error now kdc2 turns
  client_refused first now kdc kdc2 turns error fresh others s =
      let going : AllGoOn s.past = subst (λ (l : List Turn). OthersGoOn l) s.newest others in
      record {
        stopped = s;
        follows = history_follows c law k first s.old kdc s.kdc1 s.past fresh going s.before;
        chain = client_chained c k first law fresh s.old kdc s.kdc1 s.past (others_go s.past going) s.before;
      }

  pub server_refused : (first now : ServerView C P) (turns : List Turn) (error : Error) → IsFreshServer first → OthersUnrefused turns →
      ServerStopped c p first error turns now → ServerRefused c p first error now turns
  server_refused first now turns error fresh others s =
      let went : NoneRefused s.past = subst (λ (l : List Turn). OthersUnrefused l) s.newest others in
      record {
        stopped = s;
        follows = server_history_follows c law p first s.old s.past fresh went s.before;
        chain = server_chained c p first law fresh s.old s.past (rest_unrefused s.past went) s.before;
        proxy = history_proxy c law p first s.old s.past s.before;
      }

  -- the refusal that is answered
  pub past_refused : (due : TsRequest → Type 0) (client client2 : ClientView C) (kdc kdc2 : D) (server server2 : ServerView C P)
      (clients servers : List Turn) (result : Result Delegation DelegateError) → IsFreshClient client → IsFreshServer server →
      OthersGoOn clients → OthersGoOn servers →
      ClientPast c k due client kdc result clients client2 kdc2 → ServerPast c p server result servers server2 →
      RefusedBy c p k client kdc client2 kdc2 server server2 result clients servers
  past_refused due client client2 kdc kdc2 server server2 clients servers (Ok delegation) fresh fresh2 others others2 h h2 = tt
  past_refused due client client2 kdc kdc2 server server2 clients servers (Err (errors.Client error)) fresh fresh2 others others2 h h2 =
      client_refused client client2 kdc kdc2 clients error fresh others h
  past_refused due client client2 kdc kdc2 server server2 clients servers (Err (errors.Server error)) fresh fresh2 others others2 h h2 =
      server_refused server server2 servers error fresh2 (others_unrefused servers others2) h2
  past_refused due client client2 kdc kdc2 server server2 clients servers (Err (errors.Read to kind)) fresh fresh2 others others2 h h2 = tt
  past_refused due client client2 kdc kdc2 server server2 clients servers (Err (errors.Write from)) fresh fresh2 others others2 h h2 = tt
  past_refused due client client2 kdc kdc2 server server2 clients servers (Err errors.LinkFault) fresh fresh2 others others2 h h2 = tt
  past_refused due client client2 kdc kdc2 server server2 clients servers (Err errors.TurnsSpent) fresh fresh2 others others2 h h2 = tt
  past_refused due client client2 kdc kdc2 server server2 clients servers (Err errors.InsufficientMemory) fresh fresh2 others others2 h h2 =
      tt

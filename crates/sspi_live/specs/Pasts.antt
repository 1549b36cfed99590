-- The history of a client that ran over a channel, by its answer.
use Rattle.std.specs.Prelude.{ℕ, List, Result, Ok, Err}
use Rattle.sspi_mech.specs.Meaning.{Meaning}
use Rattle.sspi_tsreq.specs.declared.request.TsRequest.{TsRequest}
use Rattle.sspi_credssp.specs.declared.turn.Turn.{Turn}
use Rattle.sspi_credssp.specs.Context.{ContextSetting}
use Rattle.sspi_credssp.specs.Ends.{ClientView}
use Rattle.sspi_delegate.specs.declared.answer.DelegateError.{DelegateError}
use Rattle.sspi_delegate.specs.declared.answer.DelegateError.TheVariants as errors
use Rattle.sspi_delegate.specs.Chain.{ClientChain, ClientChainLeft, ClientStage, KdcCalls}
use Rattle.sspi_delegate.specs.History.{ClientHistory, ClientStops}

module _ {C D : Type 0} (c : Meaning ContextSetting C) (k : KdcCalls D) (due : TsRequest →
    Type 0) (first : ClientView C) (kdc : D) where
  -- the calls by which it made its turns, and the one that it refused at last
  abbrev pub ConnectPast : Result ℕ DelegateError → List Turn → ClientView C → D → Type 0
  ConnectPast (Ok rounds) turns now kdc2 = ClientHistory c k first kdc turns now kdc2
  ConnectPast (Err error) turns now kdc2 = ClientStops c k due first kdc error turns now kdc2

  -- the stage that the chain of its turns leads to
  abbrev pub ConnectChained : Result ℕ DelegateError → List Turn → ClientStage C D → Type 0
  ConnectChained (Ok rounds) turns now = ClientChain c k first kdc turns now
  ConnectChained (Err errors.InsufficientMemory) turns now =
      ClientChainLeft c k first due kdc turns now
  ConnectChained (Err error) turns now = ClientChain c k first kdc turns now

-- What one delivery, and a whole play, do to an end and to its history.
use Rattle.std.specs.Prelude.{◌≡◌, false, List, ◌∷◌, ◌++◌, Option, None, Some, Result, Ok, Err}
use Rattle.sspi_types.specs.declared.error.Error.{Error}
use Rattle.sspi_mech.specs.Meaning.{Meaning}
use Rattle.sspi_tsreq.specs.declared.request.TsRequest.{TsRequest}
use Rattle.sspi_names.specs.declared.identity.AuthIdentity.{AuthIdentity}
use Rattle.sspi_credssp.specs.Ends.{ClientView, ServerView}
use Rattle.sspi_credssp.specs.Context.{ContextSetting}
use Rattle.sspi_credssp.specs.Proxy.{ProxyMeaning}
use Rattle.sspi_credssp.specs.declared.turn.Turn.{Turn}
use Rattle.sspi_delegate.specs.declared.answer.DelegateError.{DelegateError}
use Rattle.sspi_delegate.specs.Chain.{KdcCalls, ClientStage, ClientChain, ClientChainLeft}
use Rattle.sspi_delegate.specs.Log.{IsFinished}
use Rattle.sspi_delegate.specs.Turns.{any_finished}
use Rattle.sspi_delegate.specs.History.{ClientHistory, ClientLeft, ServerHistory, ServerGave}
use Rattle.sspi_play.specs.declared.played.Ending.{Ending}
use Rattle.sspi_play.specs.declared.played.Ending.TheVariants as endings

-- if an end refused, it did so with an error of this kind, of which `Q` holds
abbrev pub IfRefused : Ending → (Error → Type 0) → Type 0
IfRefused (endings.Refused kind) Q = (error : Error) × (error.error_type ≡ kind) × Q error
IfRefused endings.Running Q = Unit {0}
IfRefused (endings.Unread kind) Q = Unit {0}

module _ {C D : Type 0} (c : Meaning ContextSetting C) (k : KdcCalls D) where
  -- the history of a client, by the answer: if memory ran out it may have been left waiting for its
  -- KDC, in a turn on the request that was due
  abbrev pub ClientPlayed : {X : Type 0} → (TsRequest → Type 0) → ClientView C → D →
      Result X DelegateError → List Turn →
      ClientView C → D → Type 0
  ClientPlayed due first kdc (Ok done) turns now kdc2 = ClientHistory c k first kdc turns now kdc2
  ClientPlayed due first kdc (Err error) turns now kdc2 =
      ClientLeft c k due first kdc turns now kdc2

  -- the chain of a client's context, by the answer
  abbrev pub ClientPlayedChain : {X : Type 0} → (TsRequest → Type 0) → ClientView C → D →
      Result X DelegateError → List Turn →
      ClientStage C D → Type 0
  ClientPlayedChain due first kdc (Ok done) turns now = ClientChain c k first kdc turns now
  ClientPlayedChain due first kdc (Err error) turns now =
      ClientChainLeft c k first due kdc turns now

module _ {C P : Type 0} (c : Meaning ContextSetting C) (p : ProxyMeaning P) where
  -- one of these turns of the server finished, and gave this identity; the later ones led to the
  -- server as it is now
  pub record GaveIn (first : ServerView C P) (identity : AuthIdentity) (turns : List Turn)
      (now : ServerView C P) : Type 0 where
    pub later : List Turn
    pub turn : Turn
    pub before : List Turn
    pub parts : turns ≡ later ++ (turn ∷ before)
    pub finished : IsFinished turn.outcome
    -- the server after that turn
    pub server : ServerView C P
    pub gave : ServerGave c p first identity (turn ∷ before) server
    pub since : ServerHistory c p server later now

  -- the identity is that of the turn that finished; there is none if no turn did
  abbrev pub Gave : ServerView C P → Option AuthIdentity → List Turn → ServerView C P → Type 0
  Gave first None turns now = any_finished turns ≡ false
  Gave first (Some identity) turns now = GaveIn first identity turns now

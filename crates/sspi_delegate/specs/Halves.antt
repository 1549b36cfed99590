-- What each half of a round promises the exchange.
use Rattle.std.specs.Prelude.{◌≡◌, ◌≢◌, ℕ, ◌⊎◌, List, [], ◌∷◌, Option, None, Some, IsSome, Result}
use Rattle.std.specs.Prelude.{Ok, Err}
use Rattle.sspi_types.specs.declared.error_kind.ErrorKind.{ErrorKind}
use Rattle.sspi_types.specs.declared.error_kind.ErrorKind.TheVariants as kinds
use Rattle.sspi_names.specs.declared.identity.AuthIdentity.{AuthIdentity}
use Rattle.sspi_tsreq.specs.declared.request.TsRequest.{TsRequest}
use Rattle.sspi_mech.specs.Meaning.{Meaning}
use Rattle.sspi_credssp.specs.declared.turn.Turn.{Turn}
use Rattle.sspi_credssp.specs.Turn.{message_of}
use Rattle.sspi_credssp.specs.declared.client_state.ClientState.{ClientState}
use Rattle.sspi_credssp.specs.Ends.{ClientView, ServerView}
use Rattle.sspi_credssp.specs.Context.{ContextSetting}
use Rattle.sspi_credssp.specs.Proxy.{ProxyMeaning}
use Rattle.sspi_credssp.specs.declared.client_state.Progress.TheVariants.{Completed}
use Rattle.sspi_delegate.specs.declared.answer.DelegateError.{DelegateError}
use Rattle.sspi_delegate.specs.declared.answer.DelegateError.TheVariants as errors
use Rattle.sspi_delegate.specs.declared.carried.Carried.{Carried}
use Rattle.sspi_delegate.specs.Log.{Logged, LoggedButLast, IsDelivered, UnreadFor}
use Rattle.sspi_delegate.specs.Turns.{AllGoOn, Alternates}
use Rattle.sspi_delegate.specs.Log.{Finishes, Stopped}
use Rattle.sspi_delegate.specs.declared.ends.Round.{Round}
use Rattle.sspi_delegate.specs.declared.ends.Round.TheVariants as round
use Rattle.sspi_delegate.specs.Chain.{KdcCalls}
use Rattle.sspi_delegate.specs.History.{ClientTakes, ClientHistory, IsWaiting, ClientStops}
use Rattle.sspi_delegate.specs.History.{ServerHistory, ServerGave, ServerStops}

module _ (base : List Carried) (start : ℕ) where
  -- between two turns: all went on, each has its entry, and the newest delivery is still to be read
  pub record Between (turns : List Turn) (log : List Carried) (now : ℕ) : Type 0 where
    pub order : Alternates turns
    pub going : AllGoOn turns
    pub entries : Logged base turns log
    pub unread : UnreadFor turns log
    pub calm : now ≡ start

-- the newest turn has a message
abbrev pub HasMessage : List Turn → Type 0
HasMessage [] = ⊥
HasMessage (t ∷ past) = IsSome (message_of t.outcome)

-- base: the log before the exchange; start: the link's count of faults then. A failure of the link
-- counts one fault, and nothing else counts any.
module _ (base : List Carried) (start : ℕ) where
  -- the same, once the next request was read
  pub record Asked (turns : List Turn) (log : List Carried) (now : ℕ) (request : TsRequest) : Type 0
    where
      pub order : Alternates turns
      pub going : AllGoOn turns
      pub entries : Logged base turns log
      pub delivered : IsDelivered turns log request
      pub calm : now ≡ start

  -- a turn was made whose message is still to be carried
  pub record Turned (turns : List Turn) (log : List Carried) (now : ℕ) : Type 0 where
    pub order : Alternates turns
    pub going : AllGoOn turns
    pub entries : LoggedButLast base turns log
    pub calm : now ≡ start

  -- the result of half a round
  abbrev pub ClientHalf : ℕ → Result (Unit {0}) DelegateError → List Turn → List Carried → ℕ →
      Type 0
  ClientHalf limit (Ok done) turns log now = Between base start turns log now
  ClientHalf limit (Err error) turns log now = Stopped base start limit error turns log now

  abbrev pub ServerHalf : ℕ → Result (Option AuthIdentity) DelegateError → List Turn →
      List Carried → ℕ → Type 0
  ServerHalf limit (Ok None) turns log now = Between base start turns log now
  ServerHalf limit (Ok (Some identity)) turns log now = Finishes base start turns log now
  ServerHalf limit (Err error) turns log now = Stopped base start limit error turns log now

-- an end's refusal as an answer: out of memory is not a refusal
abbrev pub IsAnswerTo : ErrorKind → DelegateError → DelegateError → Type 0
IsAnswerTo kind refusal answer = ((kind ≡ kinds.InsufficientMemory) ×
    (answer ≡ errors.InsufficientMemory)) ⊎
    ((kind ≢ kinds.InsufficientMemory) × (answer ≡ refusal))

-- an answer that is not an end's refusal
abbrev pub IsNoRefusal : DelegateError → Type 0
IsNoRefusal (errors.Client error) = ⊥
IsNoRefusal (errors.Server error) = ⊥
IsNoRefusal (errors.Read to kind) = Unit {0}
IsNoRefusal (errors.Write from) = Unit {0}
IsNoRefusal errors.LinkFault = Unit {0}
IsNoRefusal errors.TurnsSpent = Unit {0}
IsNoRefusal errors.InsufficientMemory = Unit {0}

module _ {C D : Type 0} (c : Meaning ContextSetting C) (k : KdcCalls D) where
  -- the result of a client's call and of all that its KDC was asked
  abbrev pub ClientConcludes : ClientView C → D → TsRequest → Round ClientState → ClientView C → D →
      Type 0
  ClientConcludes old kdc d (round.Answered state) new kdc2 =
      ClientTakes c k old kdc d (Ok (Completed state)) new kdc2
  ClientConcludes old kdc d (round.Refused error) new kdc2 =
      ClientTakes c k old kdc d (Err error) new kdc2
  ClientConcludes old kdc d round.Lost new kdc2 = IsWaiting c k old kdc d new kdc2

  -- what half a round does to the history
  abbrev pub ClientHalfStops : (TsRequest → Type 0) → ClientView C → D → DelegateError → List Turn →
      ClientView C → D → Type 0
  ClientHalfStops due first kdc (errors.Server error) turns now kdc2 = ⊥
  ClientHalfStops due first kdc error turns now kdc2 =
      ClientStops c k due first kdc error turns now kdc2

  abbrev pub ClientHalfPast : (TsRequest → Type 0) → ClientView C → D →
      Result (Unit {0}) DelegateError → List Turn → ClientView C →
      D → Type 0
  ClientHalfPast due first kdc (Ok done) turns now kdc2 = ClientHistory c k first kdc turns now kdc2
  ClientHalfPast due first kdc (Err error) turns now kdc2 =
      ClientHalfStops due first kdc error turns now kdc2

module _ {C P : Type 0} (c : Meaning ContextSetting C) (p : ProxyMeaning P) where
  abbrev pub ServerHalfStops : ServerView C P → DelegateError → List Turn → ServerView C P → Type 0
  ServerHalfStops first (errors.Client error) turns now = ⊥
  ServerHalfStops first error turns now = ServerStops c p first error turns now

  abbrev pub ServerHalfPast : ServerView C P → Result (Option AuthIdentity) DelegateError →
      List Turn → ServerView C P → Type 0
  ServerHalfPast first (Ok None) turns now = ServerHistory c p first turns now
  ServerHalfPast first (Ok (Some identity)) turns now = ServerGave c p first identity turns now
  ServerHalfPast first (Err error) turns now = ServerHalfStops first error turns now

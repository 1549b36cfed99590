-- What the keeper of a log or of a transcript sees of it.
use Rattle.std.specs.Prelude.{ℕ, List, [], ◌∷◌, Some}
use Rattle.sspi_tsreq.specs.declared.request.TsRequest.{TsRequest}
use Rattle.sspi_credssp.specs.declared.acts.Acts.{Acts}
use Rattle.sspi_credssp.specs.declared.turn.End.{End}
use Rattle.sspi_credssp.specs.declared.turn.Outcome.{Outcome}
use Rattle.sspi_credssp.specs.declared.turn.Turn.{Turn}
use Rattle.sspi_delegate.specs.declared.carried.Carried.{Carried}
use Rattle.sspi_delegate.specs.Link.{Delivers}

-- the newest entry delivers this text
abbrev pub NewestDelivers : List ℕ → List Carried → Type 0
NewestDelivers text [] = Unit {0}
NewestDelivers text (e ∷ log) = Delivers (Some text) e

-- a log that is kept in memory: its entries, newest first, and how many more it has room for
pub record LogView : Type 0 where
  pub entries : List Carried
  pub room : ℕ

-- a turn as it is recorded
abbrev pub recorded : End → TsRequest → Acts → List ℕ → Outcome → Turn
recorded end request acts output outcome = record {
  end = end;
  delivered = request;
  acts = acts;
  output = output;
  outcome = outcome;
}

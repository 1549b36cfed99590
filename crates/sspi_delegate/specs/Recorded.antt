-- The turn that a round adds to the transcript.
use Rattle.std.specs.Prelude.{◌≡◌, List, [], ◌∷◌, Option, None, Some}
use Rattle.sspi_names.specs.declared.identity.AuthIdentity.{AuthIdentity}
use Rattle.sspi_tsreq.specs.declared.request.TsRequest.{TsRequest}
use Rattle.sspi_credssp.specs.declared.turn.End.{End}
use Rattle.sspi_credssp.specs.declared.turn.End.TheVariants.{Client, Server}
use Rattle.sspi_delegate.specs.declared.ends.Round.{Round}
use Rattle.sspi_delegate.specs.declared.ends.Round.TheVariants as round
use Rattle.sspi_credssp.specs.declared.turn.Outcome.{Outcome}
use Rattle.sspi_credssp.specs.declared.turn.Turn.{Turn}
use Rattle.sspi_delegate.specs.Log.{IsClientRefusal, IsServerRefusal, IsFinished}
use Rattle.sspi_delegate.specs.Turns.{GoesOn}

-- one more turn: whose it is, what it was given, and how it ended
abbrev pub PushedSuch : End → TsRequest → (Outcome → Type 0) → List Turn → List Turn → Type 0
PushedSuch end request P old [] = ⊥
PushedSuch end request P old (t ∷ past) =
    (past ≡ old) × (t.end ≡ end) × (t.delivered ≡ request) × P t.outcome

abbrev pub ClientPushed : TsRequest → Round (Unit {0}) → List Turn → List Turn → Type 0
ClientPushed request (round.Answered done) old new = PushedSuch Client request GoesOn old new
ClientPushed request (round.Refused error) old new =
    PushedSuch Client request (IsClientRefusal error.error_type) old new
ClientPushed request round.Lost old new = new ≡ old

abbrev pub ServerPushed : TsRequest → Round (Option AuthIdentity) → List Turn → List Turn → Type 0
ServerPushed request (round.Answered None) old new = PushedSuch Server request GoesOn old new
ServerPushed request (round.Answered (Some identity)) old new =
    PushedSuch Server request IsFinished old new
ServerPushed request (round.Refused error) old new =
    PushedSuch Server request (IsServerRefusal error.error_type) old new
ServerPushed request round.Lost old new = new ≡ old

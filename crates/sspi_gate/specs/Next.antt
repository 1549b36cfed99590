-- Why the next request of a way is not handed on, and what is then taken and written.
use Rattle.std.specs.Prelude.{◌≡◌, ◌⊎◌, ◌≤◌, ℕ, List, Option}
use Rattle.std.specs.Io.KnownBytes.{Consumes, Keeps}
use Rattle.sspi_ber.specs.Outside.{Rose, WroteFront}
use Rattle.sspi_credssp.specs.declared.turn.End.{End}
use Rattle.sspi_credssp.specs.declared.turn.End.TheVariants.{Client, Server}
use Rattle.sspi_tsreq.specs.declared.request.TsRequest.{TsRequest}
use Rattle.sspi_gate.specs.declared.answer.GateFault.{GateFault}
use Rattle.sspi_gate.specs.declared.answer.GateFault.TheVariants.{Bad, Version, ReadFault}
use Rattle.sspi_gate.specs.declared.answer.GateFault.TheVariants.{WriteFault, TurnsSpent}
use Rattle.sspi_gate.specs.declared.answer.GateFault.TheVariants.{InsufficientMemory}
use Rattle.sspi_framing.specs.Front.{IsText}
use Rattle.sspi_framing.specs.Taking.{IsBad, NeedsMemory, TakesNeedy, TakesToFault}
use Rattle.sspi_framing.specs.Taking.{TakesWanted}
use Rattle.sspi_gate.specs.Front.{MaySend}
use Rattle.sspi_gate.specs.Way.{Way}

abbrev pub other_end : End → End
other_end Client = Server
other_end Server = Client

-- ---- what is taken and written

-- bytes of one request were taken, none after it, and nothing was written
pub record TakesOnly (before after : Way) : Type 0 where
  pub taken : TakesWanted before.left after.left
  pub written : Keeps before.written after.written
  pub writing : after.write_faults ≡ before.write_faults

-- the same if no read failed
abbrev pub TakesWell : Way → Way → Type 0
TakesWell before after = TakesOnly before after × (after.read_faults ≡ before.read_faults)

-- A request of another version than the first was taken, and not written.
pub record TakesOtherVersion (first : Option ℕ) (before after : Way) : Type 0 where
  pub text : List ℕ
  pub request : TsRequest
  pub is_request : IsText text request
  pub taken : Consumes before.left after.left text
  pub differs : MaySend first request.version → ⊥
  pub written : Keeps before.written after.written
  pub reading : after.read_faults ≡ before.read_faults
  pub writing : after.write_faults ≡ before.write_faults

-- A request that might be handed on was taken, and a proper prefix of it was written.
pub record WritesFront (first : Option ℕ) (before after : Way) : Type 0 where
  pub text : List ℕ
  pub request : TsRequest
  pub is_request : IsText text request
  pub taken : Consumes before.left after.left text
  pub agrees : MaySend first request.version
  pub written : WroteFront before.written after.written text
  pub reading : after.read_faults ≡ before.read_faults
  pub writing : before.write_faults ≤ after.write_faults

-- The next request of this end, whose first version is this one if it has sent any, was not handed
-- on.
abbrev pub Fails : End → Option ℕ → Way → Way → GateFault → Type 0
Fails end first before after (Bad who kind) =
    (who ≡ end) × IsBad before.left kind × TakesToFault kind before.left after.left ×
    TakesWell before after
Fails end first before after (Version who) = (who ≡ end) × TakesOtherVersion first before after
Fails end first before after (ReadFault who) = (who ≡ end) ×
    Rose before.read_faults after.read_faults × TakesOnly before after
Fails end first before after (WriteFault who) =
    (who ≡ other_end end) × Rose before.write_faults after.write_faults ×
    WritesFront first before after
Fails end first before after TurnsSpent = ⊥
Fails end first before after InsufficientMemory =
    (TakesNeedy NeedsMemory before.left after.left × TakesWell before after) ⊎
    ((after.write_faults ≡ before.write_faults) × WritesFront first before after)

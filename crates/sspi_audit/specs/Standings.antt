-- What an auditor keeps between two turns, given the turns so far, newest first.
use Rattle.std.specs.Prelude.{◌≡◌, ◌↔◌, ℕ, List, Option, None, Some, IsTrue, Bool, true, false}
use Rattle.sspi_credssp.specs.declared.turn.Turn.{Turn}
use Rattle.sspi_delegate.specs.Turns.{client_turns, server_turns, next_end, AllGoOn}
use Rattle.sspi_audit.specs.Frames.{client_before, server_before}
use Rattle.sspi_audit.specs.declared.standing.Standing.{Standing}

-- the version that a client has pinned once it has been given one more request: it does not look at
-- the version of its first
abbrev pub client_note : Bool → Option ℕ → ℕ → Option ℕ
client_note looks (Some noted) version = Some noted
client_note true None version = Some version
client_note false None version = None

-- the number of the turn that sealed, after the turn with this number
abbrev pub sealing_after : Bool → ℕ → Option ℕ → Option ℕ
sealing_after true place sealing = Some place
sealing_after false place sealing = sealing

pub record Stands (past : List Turn) (s : Standing) : Type 0 where
  pub next : s.next ≡ next_end past
  pub going : IsTrue s.going ↔ AllGoOn past
  pub client : s.client ≡ client_before (client_turns past)
  pub server : s.server ≡ server_before (server_turns past)

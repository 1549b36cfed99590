-- What recorded turns tell of an end: its state, the version of its peer that it pinned, and its
-- own version. Turns are lists, newest first, and each list has the turns of one end.
use Rattle.std.specs.Prelude.{ℕ, List, [], ◌∷◌, Option, None, Some, true}
use Rattle.sspi_credssp.specs.declared.turn.Outcome.{Outcome}
use Rattle.sspi_credssp.specs.declared.turn.Outcome.TheVariants as outcome
use Rattle.sspi_credssp.specs.declared.turn.Turn.{Turn}
use Rattle.sspi_credssp.specs.Turn.{ShownFrame}
use Rattle.sspi_delegate.specs.Turns.{client_state, client_noted, has_turn, server_state}
use Rattle.sspi_delegate.specs.Turns.{server_noted}

-- the version that an end speaks, as shown by its first message without an error code
abbrev pub told_by : Option ℕ → Outcome → Option ℕ
told_by (Some own) o = Some own
told_by None (outcome.Reply r) = Some r.version
told_by None (outcome.Final r) = Some r.version
told_by None outcome.Finished = None
told_by None (outcome.Refused kind reply) = None

abbrev pub own_version : List Turn → Option ℕ
own_version [] = None
own_version (t ∷ past) = told_by (own_version past) t.outcome

-- what is known of an end at the turn t after these turns; which versions it accepts is not known
abbrev pub client_frame : List Turn → Turn → ShownFrame
client_frame past t = record {
  state = client_state past;
  looks = has_turn past;
  noted = client_noted 0 (t ∷ past);
  version = own_version past;
}

abbrev pub server_frame : List Turn → Turn → ShownFrame
server_frame past t = record {
  state = server_state past;
  looks = true;
  noted = server_noted 0 (t ∷ past);
  version = own_version past;
}

-- what is known of an end after these turns of its own
abbrev pub client_before : List Turn → ShownFrame
client_before past = record {
  state = client_state past;
  looks = has_turn past;
  noted = client_noted 0 past;
  version = own_version past;
}

abbrev pub server_before : List Turn → ShownFrame
server_before past = record {
  state = server_state past;
  looks = true;
  noted = server_noted 0 past;
  version = own_version past;
}

-- the version that a server has pinned once it has been given one more request
abbrev pub server_note : Option ℕ → ℕ → Option ℕ
server_note None version = Some version
server_note (Some noted) version = Some noted

use Rattle.std.specs.List.{flat_map}
use Rattle.std.proofs.Common.{◌≡◌, string_bytes, take}
use Rattle.sspi_report.specs.Play.{turn_text}
use Rattle.sspi_report.proofs.play.play_report.Given as goal

abbrev pub invariant-loop-turn : goal.invariant-loop-turn
invariant-loop-turn l = string_bytes l.text ≡ flat_map turn_text (take l.turn-index l.turns)

use Rattle.std.proofs.Common.{◌≡◌, ◌++◌, take}
use Rattle.std.specs.List.{flat_map}
use Rattle.sspi_channel.specs.Texts.{shown_octet}
use Rattle.sspi_channel.proofs.line.push_shown.Given as goal

abbrev pub invariant-loop-octet : goal.invariant-loop-octet
invariant-loop-octet l = l.made.items ≡ l.initial.made.items ++ flat_map shown_octet (take l.octet-index l.text)

-- The names that a report has for the two ends and for the faults of what is not a message.
use Rattle.std.specs.Prelude.{ℕ, List, codes}
use Rattle.sspi_ber.specs.declared.wire_kind.WireKind.{WireKind}
use Rattle.sspi_ber.specs.declared.wire_kind.WireKind.TheVariants.{UnexpectedEof, InvalidData}
use Rattle.sspi_ber.specs.declared.wire_kind.WireKind.TheVariants.{ReadFault, WriteFault}
use Rattle.sspi_ber.specs.declared.wire_kind.WireKind.TheVariants.{InsufficientMemory}
use Rattle.sspi_credssp.specs.declared.turn.End.{End}
use Rattle.sspi_credssp.specs.declared.turn.End.TheVariants.{Client, Server}

abbrev pub end_name : End → List ℕ
end_name Client = codes "client"
end_name Server = codes "server"

-- why what was delivered is not a message
abbrev pub fault_name : WireKind → List ℕ
fault_name UnexpectedEof = codes "UnexpectedEof"
fault_name InvalidData = codes "InvalidData"
fault_name ReadFault = codes "ReadFault"
fault_name WriteFault = codes "WriteFault"
fault_name InsufficientMemory = codes "InsufficientMemory"

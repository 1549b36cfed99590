-- The line of a relay.
use Rattle.std.specs.Prelude.{ℕ, List, ◌++◌, Option, None, Some, Result, Ok, Err, codes}
use Rattle.std.specs.Fmt.{decimal}
use Rattle.std.specs.Option.{option_map}
use Rattle.sspi_gate.specs.declared.answer.Close.{Close}
use Rattle.sspi_gate.specs.declared.answer.Close.TheVariants.{Ended, Refused}
use Rattle.sspi_gate.specs.declared.answer.GateError.{GateError}
use Rattle.sspi_gate.specs.declared.answer.GateFault.{GateFault}
use Rattle.sspi_gate.specs.declared.answer.GateFault.TheVariants as faults
use Rattle.sspi_gate.specs.declared.answer.Relayed.{Relayed}
use Rattle.sspi_types.specs.StatusCodes.{hex_text}
use Rattle.sspi_report.specs.Entries.{line}
use Rattle.sspi_report.specs.Names.{end_name, fault_name}

abbrev pub close_text : Close → List ℕ
close_text (Ended end) = codes "ended " ++ end_name end
close_text (Refused code) = codes "refused " ++ hex_text code.0

-- none if a stream failed or memory ran out
abbrev pub stop_text : GateFault → Option (List ℕ)
stop_text (faults.Bad end kind) = Some (codes "bad " ++ end_name end ++ codes " " ++
    fault_name kind)
stop_text (faults.Version end) = Some (codes "version " ++ end_name end)
stop_text (faults.ReadFault end) = None
stop_text (faults.WriteFault end) = None
stop_text faults.TurnsSpent = Some (codes "spent")
stop_text faults.InsufficientMemory = None

-- how many requests were forwarded, and why no more were
abbrev pub passed_line : ℕ → List ℕ → List ℕ
passed_line passed why = line (codes "gate passed " ++ decimal passed ++ codes " " ++ why)

abbrev pub gate_line : Result Relayed GateError → Option (List ℕ)
gate_line (Ok relayed) = Some (passed_line relayed.passed (close_text relayed.how))
gate_line (Err error) = option_map (passed_line error.passed) (stop_text error.why)

-- The `WireKind` of a failed write, and the `Error` of a wire fault.
use Rattle.std.specs.Prelude.{None}
use Rattle.sspi_types.specs.Errors.{memory_error}
use Rattle.sspi_types.specs.declared.error.Error.{Error}
use Rattle.sspi_types.specs.declared.error_kind.ErrorKind.TheVariants.{InternalError}
use Rattle.sspi_types.specs.declared.reason.Reason.TheVariants.{Io}
use Rattle.sspi_ber.specs.declared.sink.SinkError.{SinkError}
use Rattle.sspi_ber.specs.declared.sink.SinkError.TheVariants as sink_errors
use Rattle.sspi_ber.specs.declared.wire_kind.WireKind.{WireKind}
use Rattle.sspi_ber.specs.declared.wire_kind.WireKind.TheVariants.{UnexpectedEof, InvalidData}
use Rattle.sspi_ber.specs.declared.wire_kind.WireKind.TheVariants.{ReadFault, WriteFault}
use Rattle.sspi_ber.specs.declared.wire_kind.WireKind.TheVariants.{InsufficientMemory}

abbrev pub kind_of : SinkError → WireKind
kind_of sink_errors.Failed = WriteFault
kind_of sink_errors.InsufficientMemory = InsufficientMemory

-- an internal error that comes from outside
abbrev pub io_error : Error
io_error = record { error_type = InternalError; description = Io; nstatus = None }

abbrev pub error_of : WireKind → Error
error_of UnexpectedEof = io_error
error_of InvalidData = io_error
error_of ReadFault = io_error
error_of WriteFault = io_error
error_of InsufficientMemory = memory_error

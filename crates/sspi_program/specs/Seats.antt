-- A session of a desk, and a table of them, as the program has it.
use Rattle.sspi_mech.specs.KerberosStage.{KerberosState}
use Rattle.sspi_mech.specs.NtlmStage.{NtlmState}
use Rattle.sspi_mech.specs.PlainKdc.{PlainKdcState}
use Rattle.sspi_credssp.specs.Table.{TableView}
use Rattle.sspi_seats.specs.declared.seat.Seat.{Seat}

abbrev pub PlainSeat : Type 0
PlainSeat = Seat NtlmState KerberosState TableView PlainKdcState

use Rattle.hex.specs.Hex.{decode_sized}
use Rattle.sspi_scenario.specs.Hex.{hex_of_size}
use Rattle.sspi_scenario.proofs.Hexes.{sized-ok, sized-err}
use Rattle.sspi_scenario.proofs.hexadecimal.bytes_32.Goals as goal

pub returns-in-Ok : goal.returns-in-Ok
unfolding hex_of_size
returns-in-Ok c = sized-ok c.decode_to_slice.new.out (decode_sized c.args.text.now 32) c.in-Ok.field-0 c.in-Ok.ensures.value

pub returns-in-Err : goal.returns-in-Err
unfolding hex_of_size
returns-in-Err c = sized-err c.decode_to_slice.new.out (decode_sized c.args.text.now 32) c.in-Err.field-0 c.in-Err.ensures.value

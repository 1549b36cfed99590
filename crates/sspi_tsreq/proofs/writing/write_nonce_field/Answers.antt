use Rattle.std.proofs.Common.{length, arith}
use Rattle.sspi_ber.proofs.Written.{size_below}
use Rattle.sspi_tsreq.proofs.writing.write_nonce_field.Goals as goal

pub write_wrapped_octets-requires-clause-whole : goal.write_wrapped_octets-requires-clause-whole
write_wrapped_octets-requires-clause-whole g c = let below = size_below (length c.in-Some.nonce.now) in omega arith

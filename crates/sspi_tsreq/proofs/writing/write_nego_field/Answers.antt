use Rattle.sspi_tsreq.proofs.Capped.{token_room}
use Rattle.sspi_tsreq.specs.Spelling.{nego_field}
use Rattle.sspi_tsreq.proofs.writing.write_nego_field.Goals as goal

pub write_token-requires : goal.write_token-requires
unfolding nego_field
write_token-requires g c = rw c.as_slice.ensures (token_room c.in-Some.token (rw c.in-Some.is at c.requires))

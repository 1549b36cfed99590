-- How many bytes a whole request takes, from its header alone.
use Rattle.std.specs.Prelude.{ℕ, ◌+◌, List, Ok}
use Rattle.sspi_ber.specs.Pieces.{Read, ◌>>=◌, as_ended, sized_header_at}

-- the bytes of the header and of the content that it announces; each fault counts as the end
unfoldable pub request_size_at : List ℕ → Read ℕ
request_size_at bytes = do
  sized ← as_ended (sized_header_at 0x30 bytes)
  Ok (sized.0.1 + sized.0.0, sized.1)

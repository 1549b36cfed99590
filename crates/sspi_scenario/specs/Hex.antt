-- Bytes in hex, in either case.
use Rattle.std.specs.Prelude.{ℕ, List, Option, slice_index}
use Rattle.std.specs.Option.{option_map}
use Rattle.std.specs.Result.{result_ok}
use Rattle.hex.specs.Hex.{decode_of, decode_sized}

-- the bytes that a text of hex digits encodes; an odd number of digits encodes none
unfoldable pub hex_of : List ℕ → Option (List ℕ)
hex_of text = result_ok (decode_of text)

-- the same, if there are exactly `size` bytes
unfoldable pub hex_of_size : ℕ → List ℕ → Option (List ℕ)
hex_of_size size text = result_ok (decode_sized text size)

-- the same for a single byte
abbrev pub hex_byte_of : List ℕ → Option ℕ
hex_byte_of text = option_map (λ bytes. slice_index bytes 0) (hex_of_size 1 text)

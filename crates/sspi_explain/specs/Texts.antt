-- The texts of counts and contents.
use Rattle.std.specs.Prelude.{ℕ, ◌==◌, nat_le, List, [], ◌∷◌, ◌++◌, length, take, codes, decimal}
use Rattle.std.specs.Prelude.{if◌then◌else◌}
use Rattle.hex.specs.Hex.{encode_lower}

unfoldable pub bytes_word : ℕ → List ℕ
bytes_word count = if count == 1 then codes "byte" else codes "bytes"

unfoldable pub count_text : ℕ → List ℕ
count_text count = decimal count ++ codes " " ++ bytes_word count

-- the first 64 bytes
unfoldable pub shown : List ℕ → List ℕ
shown content = if nat_le (length content) 64 then encode_lower content
    else encode_lower (take 64 content) ++ codes ".."

-- the number of bytes, and the first of them
unfoldable pub counted : List ℕ → List ℕ
counted content = count_text (length content) ++ codes " " ++ shown content

unfoldable pub content_text : List ℕ → List ℕ
content_text [] = codes "0 bytes"
content_text (byte ∷ content) = counted (byte ∷ content)

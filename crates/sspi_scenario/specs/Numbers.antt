-- Numbers in decimal.
use Rattle.std.specs.Prelude.{ℕ, ◌==◌, ◌&&◌, not, nat_le, Bool, false, List, [], ◌∷◌, Option, Some}
use Rattle.std.specs.Prelude.{None, if◌then◌else◌}
use Rattle.std.specs.Char.{is_ascii_digit}
use Rattle.std.specs.Str.{all_ascii_digits}
use Rattle.std.specs.Str.Parse.{digits_value}

-- one digit or more, and no leading zero
abbrev pub is_decimal : List ℕ → Bool
is_decimal [] = false
is_decimal (digit ∷ []) = is_ascii_digit digit
is_decimal (digit ∷ next ∷ more) = not (digit == 48) && all_ascii_digits (digit ∷ next ∷ more)

-- the number that a text is, if it is a decimal number of 32 bits
unfoldable pub number_of : List ℕ → Option ℕ
number_of text = if is_decimal text && nat_le (digits_value 10 text) 4294967295
    then Some (digits_value 10 text) else None

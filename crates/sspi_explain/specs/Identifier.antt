-- Object identifiers as numbers separated by dots (X.690 8.19), and the mechanisms that they name.
use Rattle.std.specs.Prelude.{ℕ, ◌+◌, ◌-◌, ◌*◌, ◌%◌, ◌==◌, ◌&&◌, ◌||◌, nat_le, nat_lt, List, []}
use Rattle.std.specs.Prelude.{◌∷◌, ◌++◌, codes, decimal, Option, None, Some, if◌then◌else◌}
use Rattle.std.specs.List.{flat_map}
use Rattle.std.specs.Option.{option_map}
use Rattle.std.specs.Str.{bytes_eq}
use Rattle.sspi_tokens.specs.Oids.{spnego, ms_krb5, krb5, ntlm_ssp}
use Rattle.sspi_explain.specs.Texts.{content_text}

-- Subidentifiers of seven bits an octet, highest first; all but the last octet of each have the top
-- bit set. `value` is what the octets read so far give of the next one. None if one begins with 80,
-- which is not its shortest form; has a tenth octet, one after a value of 2 ^ 56 or more; or does
-- not end.
abbrev pub subidentifiers_from : ℕ → List ℕ → Option (List ℕ)
subidentifiers_from value [] = if value == 0 then Some [] else None
subidentifiers_from value (octet ∷ rest) =
    if nat_le 0x100000000000000 value || (value == 0 && octet == 0x80) then None
    else if nat_lt octet 0x80
    then option_map (λ numbers. (value * 128 + octet % 128) ∷ numbers) (subidentifiers_from 0 rest)
    else subidentifiers_from (value * 128 + octet % 128) rest

-- the first two numbers, encoded as one subidentifier: forty times the first, plus the second
abbrev pub first_text : ℕ → List ℕ
first_text first =
    if nat_lt first 40 then codes "0." ++ decimal first
    else if nat_lt first 80 then codes "1." ++ decimal (first - 40)
    else codes "2." ++ decimal (first - 80)

abbrev pub dotted : ℕ → List ℕ
dotted number = codes "." ++ decimal number

abbrev pub numbers_text_of : Option (List ℕ) → Option (List ℕ)
numbers_text_of None = None
numbers_text_of (Some []) = None
numbers_text_of (Some (first ∷ others)) = Some (first_text first ++ flat_map dotted others)

unfoldable pub numbers_text : List ℕ → Option (List ℕ)
numbers_text content = numbers_text_of (subidentifiers_from 0 content)

unfoldable pub mech_name : List ℕ → Option (List ℕ)
mech_name content =
    if bytes_eq content spnego then Some (codes "SPNEGO")
    else if bytes_eq content ms_krb5 then Some (codes "MS Kerberos")
    else if bytes_eq content krb5 then Some (codes "Kerberos")
    else if bytes_eq content ntlm_ssp then Some (codes "NTLM")
    else None

abbrev pub named : List ℕ → Option (List ℕ) → List ℕ
named numbers None = numbers
named numbers (Some name) = numbers ++ codes " " ++ name

abbrev pub identifier_by : List ℕ → Option (List ℕ) → List ℕ
identifier_by content None = codes "invalid " ++ content_text content
identifier_by content (Some numbers) = named numbers (mech_name content)

-- its numbers, and its name if it has one; or that it is not an identifier
unfoldable pub identifier_text : List ℕ → List ℕ
identifier_text content = identifier_by content (numbers_text content)

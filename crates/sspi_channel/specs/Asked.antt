-- Which end the words of the program ask for, and the file of its scenario.
use Rattle.std.specs.Prelude.{ℕ, List, [], ◌∷◌, codes, map, string_bytes, String, Option, None}
use Rattle.std.specs.Prelude.{Some, if◌then◌else◌}
use Rattle.std.specs.Option.{option_map}
use Rattle.std.specs.Str.{bytes_eq}
use Rattle.sspi_credssp.specs.declared.turn.End.{End}
use Rattle.sspi_credssp.specs.declared.turn.End.TheVariants.{Client, Server}

abbrev pub end_named : List ℕ → Option End
end_named word =
    if bytes_eq word (codes "serve") then Some Server
    else if bytes_eq word (codes "connect") then Some Client
    else None

-- two words, the second of which is the file
abbrev pub asked_in : List (List ℕ) → Option (End × List ℕ)
asked_in [] = None
asked_in (word ∷ []) = None
asked_in (word ∷ file ∷ []) = option_map (λ end. (end, file)) (end_named word)
asked_in (word ∷ file ∷ third ∷ more) = None

abbrev pub end_in : {A : Type 0} → List (String A) → Option (End × List ℕ)
end_in words = asked_in (map string_bytes words)

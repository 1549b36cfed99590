-- The text that says which packages may be used.
use Rattle.std.specs.Prelude.{ℕ, Bool, true, false, not, ◌||◌, List, [], ◌∷◌, Option, Some}
use Rattle.std.specs.Prelude.{None, unwrap_or, ◌==◌, reverse, map, codes, if◌then◌else◌}
use Rattle.std.specs.List.{slice_split, find, list_all}
use Rattle.std.specs.Char.{to_ascii_lowercase}
use Rattle.std.specs.Option.{option_map}
use Rattle.std.specs.Str.{bytes_eq}
use Rattle.sspi_negotiate.specs.declared.package_list.PackageListConfig.{PackageListConfig}

-- the names of a list, separated by commas
abbrev pub names_of : List ℕ → List (List ℕ)
names_of list = slice_split (λ byte. byte == 44) list

-- whether a name starts with `!`, and so disallows what it names
abbrev pub is_marked : List ℕ → Bool
is_marked [] = false
is_marked (byte ∷ rest) = byte == 33

-- a name without that mark
abbrev pub unmarked : List ℕ → List ℕ
unmarked [] = []
unmarked (byte ∷ rest) = if byte == 33 then rest else byte ∷ rest

-- whether a name is that of a package, ignoring ASCII case
unfoldable pub is_name_of : List ℕ → List ℕ → Bool
is_name_of expected name = bytes_eq (map to_ascii_lowercase (unmarked name))
    (map to_ascii_lowercase expected)

-- whether the last name of a package allows it, if there is one
abbrev pub last_word : List (List ℕ) → List ℕ → Option Bool
last_word names expected = option_map (λ name. not (is_marked name))
    (find (is_name_of expected) (reverse names))

-- The last name of a package decides. A package that is not named is allowed exactly if every name
-- has the mark: one name without it, whatever it names, leaves only what is named.
abbrev pub allows : List (List ℕ) → List ℕ → Bool
allows names expected = unwrap_or (last_word names expected) (list_all is_marked names)

-- which packages a list allows; without a list, both
abbrev pub packages_of : Option (List ℕ) → PackageListConfig
packages_of None = record { ntlm = true; kerberos = true }
packages_of (Some list) = record {
  ntlm = allows (names_of list) (codes "ntlm");
  kerberos = allows (names_of list) (codes "kerberos");
}

-- ---- the same list, name by name

-- what is allowed once a name has been applied to what was allowed before
abbrev pub applied : List ℕ → PackageListConfig → PackageListConfig
applied name packages = record {
  ntlm = if is_name_of (codes "ntlm") name then not (is_marked name) else packages.ntlm;
  kerberos = if is_name_of (codes "kerberos") name then not (is_marked name) else packages.kerberos;
}

-- The first name without the mark disables both packages before it is applied. `chosen` says
-- whether one has come.
abbrev pub in_turn : Bool → PackageListConfig → List (List ℕ) → PackageListConfig
in_turn chosen packages [] = packages
in_turn chosen packages (name ∷ names) =
    in_turn (chosen || not (is_marked name))
    (applied name (if chosen || is_marked name then packages
    else record { ntlm = false; kerberos = false })) names

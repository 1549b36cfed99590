-- Which key a name means, and which keys exclude each other.
use Rattle.std.specs.Prelude.{ℕ, ◌&&◌, not, Bool, true, List, Option}
use Rattle.std.specs.List.{find, list_any}
use Rattle.std.specs.Str.{bytes_eq}
use Rattle.sspi_scenario.specs.declared.key.Key.{Key}
use Rattle.sspi_scenario.specs.declared.key.Key.TheVariants as key
use Rattle.sspi_scenario.specs.Table.{row, all_keys}

-- the key of this name
unfoldable pub key_named : List ℕ → Option Key
key_named name = find (λ k. bytes_eq name (row k).name) all_keys

-- whether two keys are the same, by their names
unfoldable pub is_same : Key → Key → Bool
is_same a b = bytes_eq (row a).name (row b).name

-- whether a line with the first key excludes a later line with the second
abbrev pub excludes : Key → Key → Bool
excludes key.Account key.Accounts = true
excludes key.Accounts key.Account = true
excludes earlier later = is_same earlier later && not (row later).repeats

-- whether a key is in a list
abbrev pub has : List Key → Key → Bool
has keys k = list_any (λ e. is_same e k) keys

-- whether some keys exclude a later line with this one
abbrev pub is_excluded : List Key → Key → Bool
is_excluded keys k = list_any (λ e. excludes e k) keys

-- whether the keys that every scenario must have are in a list
abbrev pub has_required : List Key → Bool
has_required keys = has keys key.Mode && has keys key.User && has keys key.Password &&
    has keys key.Key

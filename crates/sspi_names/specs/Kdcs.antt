-- The lookup of a realm in a table of KDCs, and the equality of tables.
use Rattle.std.specs.Prelude.{◌==◌, ◌&&◌, ℕ, Bool, List, length, Option, None, find, option_map}
use Rattle.std.specs.Prelude.{if◌then◌else◌}
use Rattle.std.specs.Cmp.Lexicographic.{pointwise}
use Rattle.std.specs.Str.{bytes_eq}
use Rattle.sspi_names.specs.Name.{same_text}
use Rattle.sspi_names.specs.declared.kdc_table.KdcEntry.{KdcEntry}

-- the first entry whose realm is equal, ignoring the case of ASCII letters
abbrev pub first_entry : List KdcEntry → List ℕ → Option KdcEntry
first_entry table realm = find (λ entry. same_text entry.realm realm) table

-- the URL of that entry; an empty realm has none
unfoldable pub url_of : List KdcEntry → List ℕ → Option (List ℕ)
url_of table realm = if length realm == 0 then None
    else option_map (λ entry. entry.url) (first_entry table realm)

abbrev pub same_entry : KdcEntry → KdcEntry → Bool
same_entry a b = bytes_eq a.realm b.realm && bytes_eq a.url b.url

-- whether two tables have the same entries in the same order
abbrev pub same_table : List KdcEntry → List KdcEntry → Bool
same_table = pointwise same_entry

-- A context that has not sealed or opened anything yet.
use Rattle.std.specs.Prelude.{Option, None, Some}
use Rattle.sspi_mech.specs.Calls.{IsUnused}
use Rattle.sspi_mech.specs.Meaning.{Meaning}

-- true also if there is none
abbrev pub IsUnusedIn : {S C : Type 0} → Meaning S C → Option C → Type 0
IsUnusedIn c None = Unit {0}
IsUnusedIn c (Some m) = IsUnused (c.counts m)

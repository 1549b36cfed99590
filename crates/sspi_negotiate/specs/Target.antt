-- The targets that Kerberos has no name for.
use Rattle.std.specs.Prelude.{ℕ, List, ◌==◌, Bool, Option, None, Some, if◌then◌else◌}
use Rattle.std.specs.List.{list_any, after_last}
use Rattle.sspi_negotiate.specs.IpText.{IsIpText}

abbrev pub is_slash : ℕ → Bool
is_slash byte = byte == 47

-- what follows the last `/` of a target, as `host` in `TERMSRV/host`, or all of it without one
abbrev pub host_of : List ℕ → List ℕ
host_of target = if list_any is_slash target then after_last is_slash target else target

abbrev pub IsNamedByIp : Option (List ℕ) → Type 0
IsNamedByIp None = ⊥
IsNamedByIp (Some target) = IsIpText (host_of target)

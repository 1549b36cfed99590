-- The identities that a server knows.
use Rattle.std.specs.Prelude.{List, filter, Bool}
use Rattle.sspi_names.specs.Name.{Name, equals_ignoring_case}
use Rattle.sspi_names.specs.declared.identity.AuthIdentity.{AuthIdentity}

abbrev pub is_named : Name → AuthIdentity → Bool
is_named name identity = equals_ignoring_case identity.username name

-- those that have the peer's name, ignoring ASCII case
unfoldable pub named : Name → List AuthIdentity → List AuthIdentity
named name known = filter (is_named name) known

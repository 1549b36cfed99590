-- What is reported about the peers that a server accepts.
use Rattle.std.specs.Prelude.{[], ◌∷◌, None, Some}
use Rattle.sspi_names.specs.Name.{Name}
use Rattle.sspi_names.specs.declared.identity.AuthIdentity.{AuthIdentity}
use Rattle.sspi_credssp.specs.Proxy.{ProxyTells}

abbrev pub without_password : Name → AuthIdentity
without_password name = record { username = name; password = record { value = [] } }

-- whoever is named has one identity; there is no list of all
abbrev pub any_tells : ProxyTells
any_tells = record {
  entries = None;
  answers = λ name. Some (without_password name ∷ []);
  failing = Some [];
}

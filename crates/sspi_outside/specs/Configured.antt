-- The configuration from which an end over the host's mechanisms makes its negotiation.
use Rattle.std.specs.Prelude.{◌≡◌, ℕ, List, [], codes, replicate, Bool, true, false, Option, None}
use Rattle.std.specs.Prelude.{Some, if◌then◌else◌}
use Rattle.sspi_names.specs.declared.identity.AuthIdentity.{AuthIdentity}
use Rattle.sspi_negotiate.specs.declared.negotiate_config.NegotiateConfig.{NegotiateConfig}
use Rattle.sspi_negotiate.specs.declared.package_list.PackageListConfig.{PackageListConfig}
use Rattle.sspi_negotiate.specs.declared.protocol.NegotiatedProtocol.{NegotiatedProtocol}
use Rattle.sspi_negotiate.specs.declared.protocol_config.ProtocolConfig.{ProtocolConfig}
use Rattle.sspi_negotiate.specs.declared.protocol_config.ProtocolConfig.TheVariants as configs
use Rattle.sspi_negotiate.specs.New.{ForClient, ForServer, MadeOf}
use Rattle.sspi_negotiate.specs.Values.{Negotiation, values_of}
use Rattle.sspi_outside.specs.Course.{course_of, new_course}
use Rattle.sspi_outside.specs.Outside.{OutsideState, outside_meaning}

-- the mechanisms by their names, unless all may be used
abbrev pub list_by : Bool → Bool → Option (List ℕ)
list_by true true = None
list_by true false = Some (codes "ntlm")
list_by false true = Some (codes "kerberos")
list_by false false = Some []

-- Kerberos comes first, if it may be used; the mechanisms' own settings do not matter
abbrev pub begins_with : Bool → ProtocolConfig
begins_with true = configs.Kerberos (record {
  kdc_url = None;
  kdcs = [];
  client_computer_name = [];
})
begins_with false = configs.Ntlm (record { client_computer_name = None; challenge = replicate 8 0 })

abbrev pub configured : PackageListConfig → NegotiateConfig
configured packages = record {
  protocol_config = begins_with packages.kerberos;
  package_list = list_by packages.ntlm packages.kerberos;
  client_computer_name = [];
  kdcs = [];
}

-- ---- the law

abbrev pub Hosts : Type 0
Hosts = Negotiation (NegotiatedProtocol OutsideState OutsideState)

-- A new negotiation of these packages has what its host begins with.
abbrev pub CourseBegins : Type 0
CourseBegins = (packages : PackageListConfig) (ip : Bool) (known : List AuthIdentity) (s : Hosts) →
    (MadeOf outside_meaning outside_meaning (ForServer (configured packages) known) s →
    course_of ip (values_of s) ≡ new_course packages ip) ×
    (MadeOf outside_meaning outside_meaning (ForClient (configured packages)) s →
    course_of ip (values_of s) ≡ new_course packages ip)

-- What a mechanism is made from.
use Rattle.sspi_mech.specs.declared.config.KerberosConfig.{KerberosConfig}
use Rattle.sspi_mech.specs.declared.config.KerberosServerConfig.{KerberosServerConfig}
use Rattle.sspi_mech.specs.declared.config.MechConfig.{MechConfig}
use Rattle.sspi_mech.specs.declared.config.MechConfig.TheVariants.{Ntlm, Kerberos, KerberosServer}
use Rattle.sspi_mech.specs.declared.config.NtlmConfig.{NtlmConfig}

-- what a mechanism is made from: a `MechConfig` without its references
pub data Setting : Type 0 where
  OfNtlm : NtlmConfig → Setting
  OfKerberos : KerberosConfig → Setting
  OfKerberosServer : KerberosConfig → KerberosServerConfig → Setting

abbrev pub setting_of : MechConfig → Setting
setting_of (Ntlm config) = OfNtlm config.now
setting_of (Kerberos config) = OfKerberos config.now
setting_of (KerberosServer config server) = OfKerberosServer config.now server.now

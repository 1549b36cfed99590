use Rattle.std.proofs.Common.{map}
use Rattle.sspi_negotiate.proofs.Names.{Heard}
use Rattle.sspi_negotiate.proofs.package_list.read_names.Given as goal

abbrev pub invariant-loop-name : goal.invariant-loop-name
invariant-loop-name l = Heard (map (λ name. name.now) l.yielded) l.ntlm l.kerberos l.unnamed

use Rattle.std.proofs.Common.{sym}
use Rattle.sspi_mech.proofs.Opened.{same_bytes}
use Rattle.sspi_mech.proofs.ntlm.laws.password_proves.Goals as goal

pub returns : goal.returns
returns c = λ challenge claim identity same. same_bytes _ _ (sym same)

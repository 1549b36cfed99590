use Rattle.sspi_seats.proofs.OneKind.{one_kind}
use Rattle.sspi_seats.proofs.laws.one_kind_is_shown.Goals as goal

pub returns : goal.returns
returns c = one_kind

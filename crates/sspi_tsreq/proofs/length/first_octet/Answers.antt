use Rattle.sspi_tsreq.proofs.Numbers.{short_first, one_first, two_first, three_first, bad_first}
use Rattle.sspi_tsreq.proofs.length.first_octet.Goals as goal

pub returns-then-byte-lt128 : goal.returns-then-byte-lt128
returns-then-byte-lt128 c = λ more. rw c.from.ensures (short_first c.args.byte more c.if-byte-lt128.true)

pub returns-then-byte-eq129 : goal.returns-then-byte-eq129
returns-then-byte-eq129 c = λ more. one_first c.args.byte more c.if-byte-eq129.true

pub returns-then-byte-eq130 : goal.returns-then-byte-eq130
returns-then-byte-eq130 c = λ more. two_first c.args.byte more c.if-byte-eq130.true

pub returns-then-byte-eq131 : goal.returns-then-byte-eq131
returns-then-byte-eq131 c = λ more. three_first c.args.byte more c.if-byte-eq131.true

pub returns-else-byte-eq131 : goal.returns-else-byte-eq131
returns-else-byte-eq131 c = λ more. bad_first c.args.byte more c.if-byte-lt128.false c.if-byte-eq129.false c.if-byte-eq130.false
    c.if-byte-eq131.false

use Rattle.sspi_tsreq.proofs.Ends.{no_nego, no_auth, no_key, no_code, no_nonce}
use Rattle.sspi_tsreq.proofs.ending.without.Goals as goal

pub returns-in-Nego : goal.returns-in-Nego
returns-in-Nego c = rw c.in-Nego.is (no_nego c.args.request)

pub returns-in-Auth : goal.returns-in-Auth
returns-in-Auth c = rw c.in-Auth.is (no_auth c.args.request)

pub returns-in-Key : goal.returns-in-Key
returns-in-Key c = rw c.in-Key.is (no_key c.args.request)

pub returns-in-Code : goal.returns-in-Code
returns-in-Code c = rw c.in-Code.is (no_code c.args.request)

pub returns-in-Nonce : goal.returns-in-Nonce
returns-in-Nonce c = rw c.in-Nonce.is (no_nonce c.args.request)

use Rattle.std.proofs.Common.{ℕ, Global, Vec}
use Rattle.std.proofs.lemmas.Result.{err_from_is_err_and}
use Rattle.sspi_framing.specs.Parts.{header_bytes}
use Rattle.sspi_framing.proofs.Contents.{header_begun, refused_content}
use Rattle.sspi_framing.proofs.taking.take_request.Goals as goal

pub returns-in_err-extend_from_slice-clause-takes : goal.returns-in_err-extend_from_slice-clause-takes
returns-in_err-extend_from_slice-clause-takes g c =
    let p = err_from_is_err_and c.from_residual-in_err-extend_from_slice.result c.from_residual-in_err-extend_from_slice.ensures.1 in
    let taken = rw c.in-Some.is at c.in_ok-header.ensures.takes in
    rw (p.1, p.2) (header_begun c.in-Some.header.size _ _ (header_bytes c.in-Some.header) taken.0 taken.1)

pub returns-in_err-take_body-clause-takes : goal.returns-in_err-take_body-clause-takes
returns-in_err-take_body-clause-takes g c =
    let p = err_from_is_err_and c.from_residual-in_err-take_body.result c.from_residual-in_err-take_body.ensures.1 in
    let taken = rw c.in-Some.is at c.in_ok-header.ensures.takes in
    rw (p.1, p.2) (refused_content g.S.Source.left (λ (bytes : Vec ℕ Global). bytes.items) c.in-Some.header.size _ _ _
    (header_bytes c.in-Some.header) c.extend_from_slice.new.self.items c.take_body.new.bytes.items _ taken.0 taken.1 c.in_err-take_body.ensures.takes)

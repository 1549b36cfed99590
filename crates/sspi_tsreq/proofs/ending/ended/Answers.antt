use Rattle.std.proofs.Common.{ℕ, List, [], Err, ap, subst, sym}
use Rattle.sspi_tsreq.specs.declared.place.Place.{Place}
use Rattle.sspi_tsreq.specs.Walks.{EndsAs}
use Rattle.sspi_tsreq.specs.Places.{answered, rest_at}
use Rattle.sspi_tsreq.proofs.Ends.{length_from_end, version_from_end, code_from_end, text_from_end}
use Rattle.sspi_tsreq.proofs.ending.ended.Goals as goal

pub returns-in-InLength-clause-ends : goal.returns-in-InLength-clause-ends
returns-in-InLength-clause-ends c = rw c.in-InLength.is (λ nonce. ap answered
    (length_from_end c.in-InLength.field-0 c.in-InLength.field-1 c.args.request))

pub returns-in-InVersion-clause-ends : goal.returns-in-InVersion-clause-ends
returns-in-InVersion-clause-ends c = rw c.in-InVersion.is (λ nonce. ap answered
    (version_from_end c.in-InVersion.field-0 c.in-InVersion.field-1))

pub returns-in-InCode-clause-ends : goal.returns-in-InCode-clause-ends
returns-in-InCode-clause-ends c = rw c.in-InCode.is (λ nonce. ap answered
    (code_from_end c.in-InCode.field-0 c.in-InCode.field-1 c.args.request))

pub returns-in-InText-clause-ends : goal.returns-in-InText-clause-ends
returns-in-InText-clause-ends c = rw c.in-InText.is (λ nonce. ap answered
    (text_from_end c.in-InText.field-0 c.in-InText.field-1 c.args.request))

pub returns-in-InNonce-clause-ends : goal.returns-in-InNonce-clause-ends
returns-in-InNonce-clause-ends c =
    subst (λ (place : Place). (nonce : List ℕ) → EndsAs (answered (rest_at nonce place c.args.request [])) (Err c.nonce_fault.result))
    (sym c.in-InNonce.is)
    (λ nonce. c.nonce_fault.ensures.ends nonce c.args.request)

use Rattle.std.proofs.Common.{ℕ, ◌-◌, List, ◌++◌, length, take, drop, ap, ◌∙◌, subst, sym}
use Rattle.sspi_tsreq.specs.declared.reader.TsReader.{TsReader}
use Rattle.sspi_tsreq.specs.Walks.{lengthened, goes_on, slot}
use Rattle.sspi_tsreq.specs.Quiet.{IsWithout}
use Rattle.sspi_tsreq.proofs.Feeding.{content_on, range_back, settled, without_back}
use Rattle.sspi_tsreq.proofs.reader.TsReader.read_fields.Goals as goal

behind_octets : (n : ℕ) (body : List ℕ) → IsWithout 0x04 body → IsWithout 0x04 (take (length body - n) (drop n body))
behind_octets n body without = subst (λ (l : List ℕ). IsWithout 0x04 l) (sym (range_back n body)) (without_back 0x04 n body without)

pub returns-in_err-nego_tokens-clause-free : goal.returns-in_err-nego_tokens-clause-free
returns-in_err-nego_tokens-clause-free c = λ closed without.
    let quiet = c.advance.ensures.quiet (c.walk-walk.ensures.quiet (c.first_octets-behind.ensures.quiet closed))
    (behind_octets (length c.first_octets-behind.result.0.now) c.args.body.now without) in
    absurd (quiet.1.0 c.in_err-nego_tokens.ensures.memory)

pub returns-in_err-auth_info-clause-free : goal.returns-in_err-auth_info-clause-free
returns-in_err-auth_info-clause-free c = λ closed without.
    let quiet = c.advance.ensures.quiet (c.walk-walk.ensures.quiet (c.first_octets-behind.ensures.quiet closed))
    (behind_octets (length c.first_octets-behind.result.0.now) c.args.body.now without) in
    absurd (quiet.1.1.0 c.in_err-auth_info.ensures.memory)

pub returns-in_err-pub_key_auth-clause-free : goal.returns-in_err-pub_key_auth-clause-free
returns-in_err-pub_key_auth-clause-free c = λ closed without.
    let quiet = c.advance.ensures.quiet (c.walk-walk.ensures.quiet (c.first_octets-behind.ensures.quiet closed))
    (behind_octets (length c.first_octets-behind.result.0.now) c.args.body.now without) in
    absurd (quiet.1.1.1 c.in_err-pub_key_auth.ensures.memory)

pub returns-clause-ok : goal.returns-clause-ok
returns-clause-ok c =
    let octets = c.first_octets-behind.result.0.now in
    let base = lengthened c.args.place c.args.self.now.request octets in
    let walked = c.advance.new.self in
    content_on c.args.self.now.nonce c.args.left c.args.place c.first_octets-behind.result.1 c.args.self.now.request c.args.body.now
    octets c.walk-walk.result walked c.settle_rest.new.self
    c.first_octets-behind.ensures.front c.first_octets-behind.ensures.goes c.walk-walk.ensures.place c.walk-walk.ensures.nonce
    c.walk-walk.ensures.fields
    (λ q more. ap (λ (l : List ℕ). goes_on c.walk-walk.result q (l ++ more))
    (sym (range_back (length octets) c.args.body.now)) ∙ c.advance.ensures.goes q more)
    (λ closed without. (c.advance.ensures.quiet (c.walk-walk.ensures.quiet (c.first_octets-behind.ensures.quiet closed))
    (behind_octets (length octets) c.args.body.now without)).0)
    (ap (λ (s : TsReader). s.stage) c.settle_rest.ensures) (ap (λ (s : TsReader). s.nonce) c.settle_rest.ensures)
    (ap (λ (s : TsReader). s.request) c.settle_rest.ensures
    ∙ settled base walked _ _ _
    (c.settle.ensures ∙ ap (λ (s : TsReader). slot walked.nego_tokens s.request.nego_tokens) c.in_ok-lengthen_field.ensures.ok)
    (c.settle-2.ensures ∙ ap (λ (s : TsReader). slot walked.auth_info s.request.auth_info) c.in_ok-lengthen_field.ensures.ok)
    (c.settle-3.ensures ∙ ap (λ (s : TsReader). slot walked.pub_key_auth s.request.pub_key_auth) c.in_ok-lengthen_field.ensures.ok))

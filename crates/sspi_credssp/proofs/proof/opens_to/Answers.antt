use Rattle.std.proofs.Common.{◌∙◌, sym, rules}
use Rattle.sspi_credssp.specs.Context.{either}
use Rattle.sspi_credssp.proofs.Opened.{opened_as}
use Rattle.sspi_credssp.proofs.proof.opens_to.Goals as goal

pub returns-clause-opened : goal.returns-clause-opened
returns-clause-opened g c = record {
  noted = search rules;
  counted = c.in_ok-text.ensures.ok;
  count = c.in_ok-text.ensures.count;
  holds = opened_as (either g.N.Mechanism.REQUESTS g.N.Mechanism.meaning g.K.Mechanism.meaning) _ _ c.in_ok-text.text.items _ _
      c.in_ok-text.ensures.last
      (λ same. sym c.deref_mut.ensures.value ∙ c.is_prescribed.ensures.same same)
      (λ differs same. c.is_prescribed.ensures.other differs (c.deref_mut.ensures.value ∙ same));
}

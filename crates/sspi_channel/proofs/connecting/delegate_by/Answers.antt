use Rattle.std.proofs.Common.{◌≡◌, ◌∙◌, subst, sym}
use Rattle.sspi_credssp.specs.Ends.{IsFreshClient, ClientView}
use Rattle.sspi_program.specs.Ends.{IsClientOf, PlainContext, kdc_in}
use Rattle.sspi_channel.specs.Delegating.{ran}
use Rattle.sspi_channel.proofs.connecting.delegate_by.Goals as goal

pub returns : goal.returns
returns g c =
    let both = c.in-Ok-beside.ensures.made in
    let client = c.deref_mut.result.now in
    let made = c.connect-answer.new in
    let ensures = c.connect-answer.ensures in
    let same : c.in-Ok-beside.kdc ≡ kdc_in c.args.scenario.now = both.1 ∙ c.in-Ok.ensures in
    let fresh = subst (λ (a : ClientView PlainContext). IsFreshClient a) (sym c.deref_mut.ensures.value)
    (rw both.0 at c.client_of.ensures.fresh) in
    ran c.connect-answer.result (record {
      client = client;
      client2 = made.client;
      kdc2 = made.kdc;
      turns = made.transcript.turns;
      fresh = fresh;
      named = subst (λ (a : ClientView PlainContext). IsClientOf c.args.scenario.now a) (sym c.deref_mut.ensures.value)
          (rw both.0 at c.client_of.ensures.named);
      connects = ensures.answer;
      within = ensures.within;
      whose = ensures.whose;
      history = rw same at ensures.history;
      shown = rw same at (ensures.fresh fresh);
      kdc = rw same at ensures.kdc;
    }) (c.without.ensures ∙ c.by_fault.ensures)

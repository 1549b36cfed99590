use Rattle.sspi_completeness.specs.Matching.{messages_in}
use Rattle.sspi_credssp.specs.Exchange.{delegated_as}
use Rattle.sspi_early.specs.Authorizes.{link_at}
use Rattle.sspi_early.proofs.Undisturbed.{early_comes, early_short}
use Rattle.sspi_early.proofs.delegating.delegate_early.Goals as goal

pub returns-clause-matched : goal.returns-clause-matched
returns-clause-matched g c matching nothing calm =
    let ensures = c.delegate_plainly-delegated.ensures in
    let made = c.delegate_plainly-delegated.new in
    let link = c.args.link.now in
    let ends = (ensures.delegates nothing.fresh).accounts.turns_and_log_show_the_answer in
    record {
      comes = λ enough.
          early_comes g.P.Policy.meaning (g.L.Link.edits link) (g.L.Link.log link) (g.L.Link.faults link)
          (λ l. link_at (g.L.Link.log l) (g.L.Link.edits l) (g.L.Link.faults l))
          c.delegate_plainly-delegated.result made.link c.tell_early.new.link c.args.policy.now c.tell_early.new.policy c.tell_early.result
          c.args.limit made.transcript.turns (messages_in matching) (delegated_as c.args.client.now.settings.delegation matching.identity)
          c.tell_early.ensures.goes_on ends ensures.stays.the_link_tells_what_it_told
          (λ same. (ensures.matched matching (record { fresh = nothing.fresh; link = same; proxy = nothing.proxy })).comes enough)
          nothing.link calm;
      short = λ few.
          early_short g.P.Policy.meaning (g.L.Link.edits link) (g.L.Link.log link) (g.L.Link.faults link)
          (λ l. link_at (g.L.Link.log l) (g.L.Link.edits l) (g.L.Link.faults l))
          c.delegate_plainly-delegated.result made.link c.tell_early.new.link c.args.policy.now c.tell_early.new.policy c.tell_early.result
          c.args.limit made.transcript.turns
          c.tell_early.ensures.goes_on ends
          (λ same. (ensures.matched matching (record { fresh = nothing.fresh; link = same; proxy = nothing.proxy })).short few)
          nothing.link;
    }

use Rattle.std.proofs.Common.{ℕ, sym, subst}
use Rattle.sspi_credssp.specs.Context.{either}
use Rattle.sspi_delegate.specs.Chain.{kdc_calls}
use Rattle.sspi_seats.specs.Hearing.{IsSpeaking}
use Rattle.sspi_seats.proofs.Turning.{kept_runs, kept_ended, turn_speaks, turn_ends}
use Rattle.sspi_seats.proofs.guest.Guest.visit.Goals as goal

pub returns-in-Answered-clause-visited : goal.returns-in-Answered-clause-visited
returns-in-Answered-clause-visited g c came rounds is kept =
    let m = either g.N.Mechanism.REQUESTS g.N.Mechanism.meaning g.K.Mechanism.meaning in
    let p = g.C.CredentialsProxy.meaning in
    let k = kdc_calls g.D.Kdc.told g.D.Kdc.asked g.D.Kdc.faults in
    let guest = c.args.self.now in
    let at = kept_runs m p k came rounds guest c.in-Some.request _ (sym c.in-Some.ensures.value) kept in
    let speaking = turn_speaks m p k came rounds c.in-Some.request guest c.client_round.new.client c.client_round.new.kdc
    c.client_round.new.transcript c.take.new.self at.runs c.in-Answered.ensures.turn
    (λ history. c.in-Answered.ensures.client_history came.client came.kdc history) in
    c.speak.ensures.visited came at.server c.in-Some.ensures.after
    (subst (λ (n : ℕ). IsSpeaking m p k came n (record guest {
      client = c.client_round.new.client;
      kdc = c.client_round.new.kdc;
      transcript = c.client_round.new.transcript;
      next = c.take.new.self;
    })) (sym is) speaking) at.alone
    at.found

pub returns-in_ok-outcome-in-Refused-clause-visited : goal.returns-in_ok-outcome-in-Refused-clause-visited
returns-in_ok-outcome-in-Refused-clause-visited g c came rounds is kept =
    let m = either g.N.Mechanism.REQUESTS g.N.Mechanism.meaning g.K.Mechanism.meaning in
    let p = g.C.CredentialsProxy.meaning in
    let k = kdc_calls g.D.Kdc.told g.D.Kdc.asked g.D.Kdc.faults in
    let guest = c.args.self.now in
    let at = kept_runs m p k came rounds guest c.in-Some.request _ (sym c.in-Some.ensures.value) kept in
    let ended = turn_ends m p k came rounds c.in-Some.request c.in-Refused.error guest c.client_round.new.client c.client_round.new.kdc
    c.client_round.new.transcript c.take.new.self at.runs c.in-Refused.ensures.turn
    (λ history. c.in-Refused.ensures.client_history came.client came.kdc history)
    c.in_ok-outcome-in-Refused.ensures.1 in
    kept_ended m p k came c.args.turn _ at.server _ at.found c.in-Some.ensures.after at.alone
    (rw (is, c.put.ensures, c.in_ok-outcome-in-Refused.ensures.0) ended)

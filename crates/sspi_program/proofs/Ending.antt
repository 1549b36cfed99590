-- The status of a run whose source exposes its text.
use Rattle.std.proofs.Common.{◌≡◌, ℕ, ◌≤◌, inl, inr, List, [], Option, None, Some, Result, Ok, Err, refl, sym, ap, ◌∙◌, subst, arith}
use Rattle.std.specs.Prelude.{IfSome, IsSome, IsSomeAnd, Bool, true, false}
use Rattle.sspi_names.specs.declared.identity.AuthIdentity.{AuthIdentity}
use Rattle.sspi_delegate.specs.declared.answer.Delegation.{Delegation}
use Rattle.sspi_delegate.specs.declared.answer.DelegateError.{DelegateError}
use Rattle.sspi_delegate.specs.declared.answer.DelegateError.TheVariants as errors
use Rattle.sspi_completeness.specs.Matching.{ComesToOkIn, IsCutShort}
use Rattle.sspi_play.specs.declared.played.Played.{Played}
use Rattle.sspi_scenario.specs.declared.purpose.Purpose.{Purpose}
use Rattle.sspi_scenario.specs.declared.purpose.Purpose.TheVariants as purposes
use Rattle.sspi_scenario.specs.declared.scenario.Scenario.{Scenario}
use Rattle.sspi_scenario.specs.Scenario.{scenario_of}
use Rattle.sspi_program.specs.declared.command.Command.{Command}
use Rattle.sspi_program.specs.declared.command.Command.TheVariants.{Told, Gen, Explain}
use Rattle.sspi_program.specs.declared.command.Task.{Task}
use Rattle.sspi_program.specs.declared.command.Task.TheVariants.{Delegate, Play, Gate, Audit, Early, Desk}
use Rattle.sspi_program.specs.declared.record.Conducted.{Conducted}
use Rattle.sspi_program.specs.declared.record.Record.{Record}
use Rattle.sspi_program.specs.declared.record.RunOutcome.{RunOutcome}
use Rattle.sspi_program.specs.declared.record.RunOutcome.TheVariants as outcomes
use Rattle.sspi_program.specs.declared.said.Said.{Said}
use Rattle.sspi_program.specs.declared.said.Said.TheVariants.{Done, NoScenario, NoText, ReadFault, OtherWords, NoMemory}
use Rattle.sspi_program.specs.Audit.{IsAudited}
use Rattle.sspi_program.specs.Commands.{purpose_of}
use Rattle.sspi_program.specs.Delegate.{HasExchange, DelegateEnds}
use Rattle.sspi_program.specs.Desk.{HasSeats, SeatsDue}
use Rattle.sspi_program.specs.Early.{HasEarly, IsEarlyTold, EarlyEnds, admitted_status}
use Rattle.sspi_program.specs.Gate.{IsGated, GateEnds}
use Rattle.sspi_program.specs.Generate.{TallyDue}
use Rattle.sspi_program.specs.Outcome.{messages_in, IsMatching}
use Rattle.sspi_program.specs.Play.{HasPlay, PlayEnds}
use Rattle.sspi_program.specs.Explain.{is_explainable, ExplainDue, ExplainEnds}
use Rattle.sspi_program.specs.Promises.{Does, TaskDue, KeptDue, EndsSo}
use Rattle.sspi_program.specs.Run.{Comes, RefusesText, Written}
use Rattle.sspi_program.specs.Said.{delegated_status, status_of, RecordDue, said_text, said_status, read_text, no_text, IsDue}
use Rattle.sspi_program.specs.Seats.{PlainSeat}
use Rattle.sspi_program.specs.Status.{IsUnlessWrite, IsUnlessFault, EndsAs, EndsMatched}
use Rattle.sspi_program.proofs.EarlyStatus.{matching_early}
use Rattle.sspi_program.proofs.Running.{unless_write, unless_read, unless_memory, status_due, task_small}

same_scenario : (purpose : Purpose) (text : List ℕ) (scenario scenario2 : Scenario) → scenario_of purpose text ≡ Ok scenario →
    scenario_of purpose text ≡ Ok scenario2 → scenario ≡ scenario2
same_scenario purpose text scenario scenario2 is is2 = cc

both : (purpose : Purpose) (text : List ℕ) (scenario : Scenario) (line : ℕ) → scenario_of purpose text ≡ Ok scenario →
    scenario_of purpose text ≡ Err line → ⊥
both purpose text scenario line is none = cc

both_ways : (b : Bool) → b ≡ true → b ≡ false → ⊥
both_ways b is not = cc

-- ---- a text that is not a scenario

-- if nothing is kept, memory ran out
none_due : (D : Record → ℕ → List ℕ → Type 0) (own : ℕ) (text : List ℕ) → IsDue (KeptDue D None) own text → own ≡ 5
none_due D own text (inl told) = absurd told
none_due D own text (inr h) = h.0

record_none : (P : Record → Type 0) (D : Record → ℕ → List ℕ → Type 0) (purpose : Purpose) (text : List ℕ) (own : ℕ) (written : List ℕ)
    (kept : Option Record) →
    IfSome kept (λ k. P k × (scenario_of purpose text ≡ Ok k.scenario) × IsSome (status_of k.outcome)) →
    IsDue (KeptDue D kept) own written → (line : ℕ) → scenario_of purpose text ≡ Err line → own ≡ 5
record_none P D purpose text own written None keeps told line none = none_due D own written told
record_none P D purpose text own written (Some k) keeps told line none = absurd (both purpose text k.scenario line keeps.1 none)

seats_none : (count : ℕ) (text : List ℕ) (own : ℕ) (written : List ℕ) (seats : Option (List PlainSeat)) →
    IfSome seats (λ s. (scenario : Scenario) × (scenario_of purposes.Sessions text ≡ Ok scenario) × HasSeats count scenario s) →
    IsDue (λ status t. IsSomeAnd seats (λ s. SeatsDue s status t)) own written → (line : ℕ) →
    scenario_of purposes.Sessions text ≡ Err line → own ≡ 5
seats_none count text own written None keeps (inl told) line none = absurd told
seats_none count text own written None keeps (inr h) line none = h.0
seats_none count text own written (Some seats) keeps told line none = absurd (both purposes.Sessions text keeps.0 line keeps.1 none)

task_none : (task : Task) (text : List ℕ) (c : Conducted) (written : List ℕ) →
    Does (Told task) None (λ s. scenario_of (purpose_of task) text ≡ Ok s) c written → (line : ℕ) →
    scenario_of (purpose_of task) text ≡ Err line → c.status ≡ 5
task_none Delegate text c written does line none =
    record_none HasExchange RecordDue purposes.Exchange text c.status written c.kept does.0.0 does.1 line none
task_none Play text c written does line none =
    record_none HasPlay RecordDue purposes.Play text c.status written c.kept does.0.0 does.1 line none
task_none Gate text c written does line none =
    record_none HasExchange IsGated purposes.Exchange text c.status written c.kept does.0.0 does.1 line none
task_none Audit text c written does line none =
    record_none HasExchange IsAudited purposes.Exchange text c.status written c.kept does.0.0 does.1 line none
task_none Early text c written does line none =
    record_none HasEarly IsEarlyTold purposes.Early text c.status written c.kept does.0.0 does.1 line none
task_none (Desk count) text c written does line none = seats_none count text c.status written c.seats does.0.0 does.1 line none

module _ (before now : ℕ) (w w2 : Option (List ℕ)) (f f2 : ℕ) where
  no_memory : (own text_own : ℕ) (text : List ℕ) (status : ℕ) → text_own ≡ 5 → Written text_own text w w2 f f2 status →
      IsUnlessFault own status
  no_memory own text_own text status is written =
      unless_memory w w2 f f2 own text status (subst (λ (n : ℕ). Written n text w w2 f f2 status) is written)

  text_none : (task : Task) (text : List ℕ) (said : Said) (status : ℕ) → Comes (Some (Told task)) (Some text) before now said →
      Written (said_status said) (said_text said) w w2 f f2 status → (line : ℕ) → scenario_of (purpose_of task) text ≡ Err line →
      IsUnlessFault 2 status
  text_none task text (Done c items) status comes written line none =
      no_memory 2 c.status items.items status (task_none task text c items.items comes line none) written
  text_none task text (NoScenario n) status comes written line none =
      inr (unless_write w w2 f f2 2 (said_text (NoScenario n)) status written)
  text_none task text NoText status comes written line none = let some = comes.0 in absurd cc
  text_none task text ReadFault status comes written line none = unless_read w w2 f f2 2 read_text status written
  text_none task text OtherWords status comes written line none = absurd cc
  text_none task text NoMemory status comes written line none = unless_memory w w2 f f2 2 [] status written

  -- a text that cannot be explained has nothing due
  unexplained : (own : ℕ) (text written : List ℕ) (status : ℕ) → IsDue (ExplainDue (Some text)) own written →
      Written own written w w2 f f2 status → is_explainable text ≡ false → IsUnlessFault 2 status
  unexplained own text written status (inl told) wrote none = absurd (both_ways (is_explainable text) told.1.explainable none)
  unexplained own text written status (inr h) wrote none = no_memory 2 own written status h.0 wrote

  explain_none : (text : List ℕ) (said : Said) (status : ℕ) → Comes (Some Explain) (Some text) before now said →
      Written (said_status said) (said_text said) w w2 f f2 status → is_explainable text ≡ false → IsUnlessFault 2 status
  explain_none text (Done c items) status comes written none = unexplained c.status text items.items status comes.1 written none
  explain_none text (NoScenario n) status comes written none = absurd comes
  explain_none text NoText status comes written none = inr (unless_write w w2 f f2 2 no_text status written)
  explain_none text ReadFault status comes written none = unless_read w w2 f f2 2 read_text status written
  explain_none text OtherWords status comes written none = absurd cc
  explain_none text NoMemory status comes written none = unless_memory w w2 f f2 2 [] status written

  pub status_refused : (command : Option Command) (left : Option (List ℕ)) (said : Said) (status : ℕ) →
      Comes command left before now said → Written (said_status said) (said_text said) w w2 f f2 status →
      IfSome command (λ c. IfSome left (RefusesText c status))
  status_refused None left said status comes written = tt
  status_refused (Some command) None said status comes written = tt
  status_refused (Some (Told task)) (Some text) said status comes written = text_none task text said status comes written
  status_refused (Some (Gen count)) (Some text) said status comes written = tt
  status_refused (Some Explain) (Some text) said status comes written = explain_none text said status comes written

-- ---- a text that is a scenario

ok_status : (messages : ℕ) (identity : AuthIdentity) (answer : Result Delegation DelegateError) (own : ℕ) →
    delegated_status answer ≡ Some own → ComesToOkIn messages identity answer → own ≡ 0
ok_status messages identity (Ok delegation) own e comes = let is : 0 ≡ own = cc in sym is
ok_status messages identity (Err (errors.Client error)) own e comes = absurd comes
ok_status messages identity (Err (errors.Server error)) own e comes = absurd comes
ok_status messages identity (Err (errors.Read to kind)) own e comes = absurd comes
ok_status messages identity (Err (errors.Write from)) own e comes = absurd comes
ok_status messages identity (Err errors.LinkFault) own e comes = absurd comes
ok_status messages identity (Err errors.TurnsSpent) own e comes = absurd comes
ok_status messages identity (Err errors.InsufficientMemory) own e comes = absurd cc

short_status : (answer : Result Delegation DelegateError) (own : ℕ) → delegated_status answer ≡ Some own → IsCutShort answer → own ≡ 1
short_status (Ok delegation) own e short = absurd short
short_status (Err (errors.Client error)) own e short = let is : 1 ≡ own = cc in sym is
short_status (Err (errors.Server error)) own e short = let is : 1 ≡ own = cc in sym is
short_status (Err (errors.Read to kind)) own e short = let is : 1 ≡ own = cc in sym is
short_status (Err (errors.Write from)) own e short = let is : 1 ≡ own = cc in sym is
short_status (Err errors.LinkFault) own e short = let is : 1 ≡ own = cc in sym is
short_status (Err errors.TurnsSpent) own e short = let is : 1 ≡ own = cc in sym is
short_status (Err errors.InsufficientMemory) own e short = absurd cc

answered_status : (answer : Result Played DelegateError) (own : ℕ) → status_of (outcomes.Played answer) ≡ Some own → own ≡ 0
answered_status (Ok played) own e = let is : 0 ≡ own = cc in sym is
answered_status (Err error) own e = absurd cc

module _ (w w2 : Option (List ℕ)) (f f2 : ℕ) (status : ℕ) where
  -- an exchange of a scenario whose ends match
  matching_exchange : (r : Record) (own : ℕ) → HasExchange r → status_of r.outcome ≡ Some own → IsUnlessWrite own status →
      (matching : IsMatching r.scenario) → EndsMatched (messages_in r.scenario matching) r.scenario.turns status
  matching_exchange r own has e unless matching =
      let answered = subst (λ (o : RunOutcome). status_of o ≡ Some own) has.exchange.outcome_is e in (
        (λ enough. inr (subst (λ (n : ℕ). IsUnlessWrite n status)
            (ok_status _ _ has.exchange.answer own answered (has.comes.comes matching enough)) unless)),
        (λ few. inr (subst (λ (n : ℕ). IsUnlessWrite n status)
            (short_status has.exchange.answer own answered (has.comes.short matching few)) unless)),
      )

module _ (D : Record → ℕ → List ℕ → Type 0)
    (due_status : (r : Record) (own : ℕ) (text : List ℕ) → D r own text → status_of r.outcome ≡ Some own)
    (w w2 : Option (List ℕ)) (f f2 : ℕ) (status : ℕ) where
  matching_record : (text : List ℕ) (r : Record) (own : ℕ) (written : List ℕ) → HasExchange r →
      scenario_of purposes.Exchange text ≡ Ok r.scenario → IsDue (D r) own written → Written own written w w2 f f2 status →
      DelegateEnds text status
  matching_record text r own written has told (inl e) wrote = λ scenario is matching.
      let same : r.scenario ≡ scenario = same_scenario purposes.Exchange text r.scenario scenario told is in
      subst (λ (s : Scenario). (it : IsMatching s) → EndsMatched (messages_in s it) s.turns status) same
      (λ it. matching_exchange w w2 f f2 status r own has (due_status r own written e)
      (unless_write w w2 f f2 own written status wrote) it) matching
  matching_record text r own written has told (inr h) wrote = λ scenario is matching.
      let lost = subst (λ (n : ℕ). Written n written w w2 f f2 status) h.0 wrote in
      ((λ enough. unless_memory w w2 f f2 0 written status lost), (λ few. unless_memory w w2 f f2 1 written status lost))

  delegate_done : (text : List ℕ) (own : ℕ) (written : List ℕ) (kept : Option Record) →
      IfSome kept (λ k. HasExchange k × (scenario_of purposes.Exchange text ≡ Ok k.scenario) × IsSome (status_of k.outcome)) →
      IsDue (KeptDue D kept) own written → Written own written w w2 f f2 status → DelegateEnds text status
  delegate_done text own written None keeps told wrote = λ scenario is matching.
      let lost = subst (λ (n : ℕ). Written n written w w2 f f2 status) (none_due D own written told) wrote in
      ((λ enough. unless_memory w w2 f f2 0 written status lost), (λ few. unless_memory w w2 f f2 1 written status lost))
  delegate_done text own written (Some r) keeps told wrote = matching_record text r own written keeps.0 keeps.1 told wrote

audited_status : (r : Record) (own : ℕ) (text : List ℕ) → IsAudited r own text → status_of r.outcome ≡ Some own
audited_status r own text audited = audited.judged.status_is

module _ (w w2 : Option (List ℕ)) (f f2 : ℕ) (status : ℕ) where
  delegate_ends : (before now : ℕ) (text : List ℕ) (said : Said) → Comes (Some (Told Delegate)) (Some text) before now said →
      Written (said_status said) (said_text said) w w2 f f2 status → DelegateEnds text status
  delegate_ends before now text (Done c items) comes written =
      delegate_done RecordDue status_due w w2 f f2 status text c.status items.items c.kept comes.0.0 comes.1 written
  delegate_ends before now text (NoScenario n) comes written = λ scenario is matching.
      absurd (both purposes.Exchange text scenario n is comes)
  delegate_ends before now text NoText comes written = let some = comes.0 in absurd cc
  delegate_ends before now text ReadFault comes written = λ scenario is matching.
      ((λ enough. unless_read w w2 f f2 0 read_text status written), (λ few. unless_read w w2 f f2 1 read_text status written))
  delegate_ends before now text OtherWords comes written = absurd cc
  delegate_ends before now text NoMemory comes written = λ scenario is matching.
      ((λ enough. unless_memory w w2 f f2 0 [] status written), (λ few. unless_memory w w2 f f2 1 [] status written))

  -- a play is not refused
  play_status : (r : Record) (own : ℕ) → HasPlay r → status_of r.outcome ≡ Some own → own ≡ 0
  play_status r own has e = answered_status has.answer own (subst (λ (o : RunOutcome). status_of o ≡ Some own) has.outcome_is e)

  play_record : (r : Record) (own : ℕ) (written : List ℕ) → HasPlay r → IsDue (RecordDue r) own written →
      Written own written w w2 f f2 status → IsUnlessFault 0 status
  play_record r own written has (inl e) wrote =
      inr (subst (λ (n : ℕ). IsUnlessWrite n status) (play_status r own has (status_due r own written e))
      (unless_write w w2 f f2 own written status wrote))
  play_record r own written has (inr h) wrote =
      unless_memory w w2 f f2 0 written status (subst (λ (n : ℕ). Written n written w w2 f f2 status) h.0 wrote)

  play_done : (text : List ℕ) (own : ℕ) (written : List ℕ) (kept : Option Record) →
      IfSome kept (λ k. HasPlay k × (scenario_of purposes.Play text ≡ Ok k.scenario) × IsSome (status_of k.outcome)) →
      IsDue (KeptDue RecordDue kept) own written → Written own written w w2 f f2 status → IsUnlessFault 0 status
  play_done text own written None keeps told wrote =
      unless_memory w w2 f f2 0 written status
      (subst (λ (n : ℕ). Written n written w w2 f f2 status) (none_due RecordDue own written told) wrote)
  play_done text own written (Some r) keeps told wrote = play_record r own written keeps.0 told wrote

  play_ends : (before now : ℕ) (text : List ℕ) (said : Said) → Comes (Some (Told Play)) (Some text) before now said →
      Written (said_status said) (said_text said) w w2 f f2 status → PlayEnds text status
  play_ends before now text (Done c items) comes written =
      λ scenario is. play_done text c.status items.items c.kept comes.0.0 comes.1 written
  play_ends before now text (NoScenario n) comes written = λ scenario is. absurd (both purposes.Play text scenario n is comes)
  play_ends before now text NoText comes written = let some = comes.0 in absurd cc
  play_ends before now text ReadFault comes written = λ scenario is. unless_read w w2 f f2 0 read_text status written
  play_ends before now text OtherWords comes written = absurd cc
  play_ends before now text NoMemory comes written = λ scenario is. unless_memory w w2 f f2 0 [] status written

  gate_done : (own : ℕ) (text : List ℕ) → own ≤ 1 → Written own text w w2 f f2 status → (n : ℕ) × (n ≤ 1) × IsUnlessFault n status
  gate_done own text small wrote = (own, small, inr (unless_write w w2 f f2 own text status wrote))

  gate_lost : (text : List ℕ) → Written 5 text w w2 f f2 status → (n : ℕ) × (n ≤ 1) × IsUnlessFault n status
  gate_lost text wrote = (0, omega arith, unless_memory w w2 f f2 0 text status wrote)

  gate_said : (c : Conducted) (text : List ℕ) → IsDue (TaskDue Gate c) c.status text → Written c.status text w w2 f f2 status →
      (n : ℕ) × (n ≤ 1) × IsUnlessFault n status
  gate_said c text (inl told) wrote = gate_done c.status text (task_small Gate c c.status text told) wrote
  gate_said c text (inr h) wrote = gate_lost text (subst (λ (n : ℕ). Written n text w w2 f f2 status) h.0 wrote)

  gate_ends : (before now : ℕ) (text : List ℕ) (said : Said) → Comes (Some (Told Gate)) (Some text) before now said →
      Written (said_status said) (said_text said) w w2 f f2 status → GateEnds text status
  gate_ends before now text (Done c items) comes written = λ scenario is. gate_said c items.items comes.1 written
  gate_ends before now text (NoScenario n) comes written = λ scenario is. absurd (both purposes.Exchange text scenario n is comes)
  gate_ends before now text NoText comes written = let some = comes.0 in absurd cc
  gate_ends before now text ReadFault comes written = λ scenario is. (0, omega arith, unless_read w w2 f f2 0 read_text status written)
  gate_ends before now text OtherWords comes written = absurd cc
  gate_ends before now text NoMemory comes written = λ scenario is. gate_lost [] written

  audit_ends : (before now : ℕ) (text : List ℕ) (said : Said) → Comes (Some (Told Audit)) (Some text) before now said →
      Written (said_status said) (said_text said) w w2 f f2 status → DelegateEnds text status
  audit_ends before now text (Done c items) comes written =
      delegate_done IsAudited audited_status w w2 f f2 status text c.status items.items c.kept comes.0.0 comes.1 written
  audit_ends before now text (NoScenario n) comes written = delegate_ends before now text (NoScenario n) comes written
  audit_ends before now text NoText comes written = let some = comes.0 in absurd cc
  audit_ends before now text ReadFault comes written = delegate_ends before now text ReadFault comes written
  audit_ends before now text OtherWords comes written = absurd cc
  audit_ends before now text NoMemory comes written = delegate_ends before now text NoMemory refl written

  early_lost : (own : ℕ) (scenario : Scenario) (matching : IsMatching scenario) (written : List ℕ) → Written 5 written w w2 f f2 status →
      EndsAs own (messages_in scenario matching) scenario.turns status
  early_lost own scenario matching written lost =
      ((λ enough. unless_memory w w2 f f2 own written status lost), (λ few. unless_memory w w2 f f2 1 written status lost))

  early_record : (text : List ℕ) (r : Record) (own : ℕ) (written : List ℕ) → HasEarly r →
      scenario_of purposes.Early text ≡ Ok r.scenario → IsDue (IsEarlyTold r) own written → Written own written w w2 f f2 status →
      EarlyEnds text status
  early_record text r own written has told (inl e) wrote = λ scenario is matching.
      let same : has.made.scenario ≡ scenario = sym (ap (λ (k : Record). k.scenario) has.early.rest)
      ∙ same_scenario purposes.Early text r.scenario scenario told is in
      subst (λ (s : Scenario). (it : IsMatching s) → EndsAs (admitted_status s) (messages_in s it) s.turns status) same
      (λ it. matching_early has.made r own status has.early e.status_is (unless_write w w2 f f2 own written status wrote) it) matching
  early_record text r own written has told (inr h) wrote = λ scenario is matching.
      early_lost (admitted_status scenario) scenario matching written (subst (λ (n : ℕ). Written n written w w2 f f2 status) h.0 wrote)

  early_done : (text : List ℕ) (own : ℕ) (written : List ℕ) (kept : Option Record) →
      IfSome kept (λ k. HasEarly k × (scenario_of purposes.Early text ≡ Ok k.scenario) × IsSome (status_of k.outcome)) →
      IsDue (KeptDue IsEarlyTold kept) own written → Written own written w w2 f f2 status → EarlyEnds text status
  early_done text own written None keeps told wrote = λ scenario is matching.
      early_lost (admitted_status scenario) scenario matching written
      (subst (λ (n : ℕ). Written n written w w2 f f2 status) (none_due IsEarlyTold own written told) wrote)
  early_done text own written (Some r) keeps told wrote = early_record text r own written keeps.0 keeps.1 told wrote

  early_ends : (before now : ℕ) (text : List ℕ) (said : Said) → Comes (Some (Told Early)) (Some text) before now said →
      Written (said_status said) (said_text said) w w2 f f2 status → EarlyEnds text status
  early_ends before now text (Done c items) comes written = early_done text c.status items.items c.kept comes.0.0 comes.1 written
  early_ends before now text (NoScenario n) comes written = λ scenario is matching. absurd (both purposes.Early text scenario n is comes)
  early_ends before now text NoText comes written = let some = comes.0 in absurd cc
  early_ends before now text ReadFault comes written = λ scenario is matching. (
    (λ enough. unless_read w w2 f f2 (admitted_status scenario) read_text status written),
    (λ few. unless_read w w2 f f2 1 read_text status written),
  )
  early_ends before now text OtherWords comes written = absurd cc
  early_ends before now text NoMemory comes written = λ scenario is matching.
      early_lost (admitted_status scenario) scenario matching [] written

  -- out of memory
  no_memory_status : (text : List ℕ) → Written 5 text w w2 f f2 status → IsUnlessWrite 0 status
  no_memory_status text (inl h) = inr (inr h.0)
  no_memory_status text (inr (inl h)) = inr (inl h.0)
  no_memory_status text (inr (inr h)) = inr (inr h.0)

  -- many exchanges, whatever they come to
  tally_done : (tally : Option (List Record)) (own : ℕ) (text : List ℕ) →
      IsDue (λ n t. IsSomeAnd tally (λ k. TallyDue k n t)) own text → Written own text w w2 f f2 status → IsUnlessWrite 0 status
  tally_done None own text (inl told) wrote = absurd told
  tally_done (Some k) own text (inl told) wrote =
      unless_write w w2 f f2 0 text status (subst (λ (n : ℕ). Written n text w w2 f f2 status) told.0 wrote)
  tally_done tally own text (inr h) wrote =
      no_memory_status text (subst (λ (n : ℕ). Written n text w w2 f f2 status) h.0 wrote)

  generate_ends : (before now : ℕ) (count : ℕ) (left : Option (List ℕ)) (said : Said) → Comes (Some (Gen count)) left before now said →
      Written (said_status said) (said_text said) w w2 f f2 status → IsUnlessWrite 0 status
  generate_ends before now count left (Done c items) comes written = tally_done c.tally c.status items.items comes.1 written
  generate_ends before now count left (NoScenario n) comes written = absurd comes
  generate_ends before now count left NoText comes written = let some = comes.0 in absurd cc
  generate_ends before now count left ReadFault comes written = let some = comes.0 in absurd cc
  generate_ends before now count left OtherWords comes written = absurd cc
  generate_ends before now count left NoMemory comes written = no_memory_status [] written

  -- a text that can be explained
  explain_done : (own : ℕ) (text written : List ℕ) → IsDue (ExplainDue (Some text)) own written →
      Written own written w w2 f f2 status → IsUnlessFault 0 status
  explain_done own text written (inl told) wrote =
      inr (unless_write w w2 f f2 0 written status (subst (λ (n : ℕ). Written n written w w2 f f2 status) told.0 wrote))
  explain_done own text written (inr h) wrote =
      unless_memory w w2 f f2 0 written status (subst (λ (n : ℕ). Written n written w w2 f f2 status) h.0 wrote)

  explain_ends : (before now : ℕ) (text : List ℕ) (said : Said) → Comes (Some Explain) (Some text) before now said →
      Written (said_status said) (said_text said) w w2 f f2 status → ExplainEnds text status
  explain_ends before now text (Done c items) comes written = λ can. explain_done c.status text items.items comes.1 written
  explain_ends before now text (NoScenario n) comes written = absurd comes
  explain_ends before now text NoText comes written = λ can. absurd (both_ways (is_explainable text) can comes.1)
  explain_ends before now text ReadFault comes written = λ can. unless_read w w2 f f2 0 read_text status written
  explain_ends before now text OtherWords comes written = absurd cc
  explain_ends before now text NoMemory comes written = λ can. unless_memory w w2 f f2 0 [] status written

  command_ends : (before now : ℕ) (command : Command) (left : Option (List ℕ)) (said : Said) →
      Comes (Some command) left before now said → Written (said_status said) (said_text said) w w2 f f2 status →
      EndsSo command left status
  command_ends before now (Told Delegate) None said comes written = tt
  command_ends before now (Told Delegate) (Some text) said comes written = delegate_ends before now text said comes written
  command_ends before now (Told Play) None said comes written = tt
  command_ends before now (Told Play) (Some text) said comes written = play_ends before now text said comes written
  command_ends before now (Told Gate) None said comes written = tt
  command_ends before now (Told Gate) (Some text) said comes written = gate_ends before now text said comes written
  command_ends before now (Told Audit) None said comes written = tt
  command_ends before now (Told Audit) (Some text) said comes written = audit_ends before now text said comes written
  command_ends before now (Told Early) None said comes written = tt
  command_ends before now (Told Early) (Some text) said comes written = early_ends before now text said comes written
  command_ends before now (Told (Desk count)) left said comes written = tt
  command_ends before now (Gen count) left said comes written = generate_ends before now count left said comes written
  command_ends before now Explain None said comes written = tt
  command_ends before now Explain (Some text) said comes written = explain_ends before now text said comes written

  pub status_ends : (before now : ℕ) (command : Option Command) (left : Option (List ℕ)) (said : Said) →
      Comes command left before now said → Written (said_status said) (said_text said) w w2 f f2 status →
      IfSome command (λ k. EndsSo k left status)
  status_ends before now None left said comes written = tt
  status_ends before now (Some command) left said comes written = command_ends before now command left said comes written

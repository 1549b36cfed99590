-- What the status of a run says, by what was said and how it was written.
use Rattle.std.proofs.Common.{◌≡◌, ◌≢◌, ℕ, ◌<◌, ◌≤◌, ◌⊎◌, inl, inr, List, [], ◌∷◌, ◌++◌, Option, None, Some, Result, Ok, Err, refl, sym}
use Rattle.std.proofs.Common.{◌∙◌, ap, subst, arith}
use Rattle.std.specs.Option.{option_map}
use Rattle.std.specs.List.{list_all}
use Rattle.std.specs.Prelude.{IfSome, IsSome, IsSomeAnd, Bool, true, false, if◌then◌else◌}
use Rattle.sspi_ber.specs.Outside.{Rose, Wrote, WroteFront}
use Rattle.sspi_gate.specs.declared.answer.GateError.{GateError}
use Rattle.sspi_gate.specs.declared.answer.Relayed.{Relayed}
use Rattle.sspi_delegate.specs.declared.answer.DelegateError.TheVariants as errors
use Rattle.sspi_early.specs.declared.answer.EarlyError.TheVariants as early_errors
use Rattle.sspi_tsreq.specs.declared.early.EarlyUserAuthResult.{EarlyUserAuthResult}
use Rattle.sspi_tsreq.specs.declared.early.EarlyUserAuthResult.TheVariants.{Success, AccessDenied}
use Rattle.sspi_scenario.specs.declared.scenario.Scenario.{Scenario}
use Rattle.sspi_scenario.specs.Reading.{IsReadWhole}
use Rattle.sspi_program.specs.declared.command.Command.{Command}
use Rattle.sspi_program.specs.declared.command.Command.TheVariants.{Told, Gen, Explain}
use Rattle.sspi_program.specs.declared.command.Task.{Task}
use Rattle.sspi_program.specs.declared.command.Task.TheVariants.{Delegate, Play, Gate, Audit, Early, Desk}
use Rattle.sspi_program.specs.declared.record.Conducted.{Conducted}
use Rattle.sspi_program.specs.declared.record.Record.{Record}
use Rattle.sspi_program.specs.declared.record.RunOutcome.{RunOutcome}
use Rattle.sspi_program.specs.declared.record.RunOutcome.TheVariants as outcomes
use Rattle.sspi_program.specs.declared.record.RunOutcome.TheVariants.{Delegated, Played}
use Rattle.sspi_program.specs.declared.said.Said.{Said}
use Rattle.sspi_program.specs.declared.said.Said.TheVariants.{Done, NoScenario, NoText, ReadFault, OtherWords, NoMemory}
use Rattle.sspi_program.specs.Audit.{IsAudited}
use Rattle.sspi_program.specs.Commands.{task_in, purpose_of, limit_in}
use Rattle.sspi_program.specs.Desk.{SeatsDue, is_ok}
use Rattle.sspi_program.specs.Early.{IsEarlyTold}
use Rattle.sspi_program.specs.Gate.{IsGated, relayed_status}
use Rattle.sspi_program.specs.Generate.{TallyDue}
use Rattle.sspi_program.specs.Kept.{nothing, with_status}
use Rattle.sspi_program.specs.Promises.{Keeps, KeptDue, TaskDue, Due, Does}
use Rattle.sspi_program.specs.Run.{Outside, IsToldFor, NoneTold, Comes, HasNoText, HasText, KeepsOnly, IsReported}
use Rattle.sspi_program.specs.Run.{WroteRefusal, Written, WroteOwed}
use Rattle.sspi_program.specs.Telling.{IsJudged, ReadsWell}
use Rattle.sspi_program.specs.Said.{heard_status, status_of, report_of, record_due, RecordDue, IsDue}
use Rattle.sspi_program.specs.Said.{said_text, said_status, conducted_as, words_text, read_text, no_text}
use Rattle.sspi_program.specs.Seats.{PlainSeat}
use Rattle.sspi_program.specs.Status.{IsUnlessWrite, IsUnlessFault}

-- a text of which a proper prefix was written
nothing_behind : (front rest : List ℕ) → front ++ rest ≡ [] → rest ≡ []
nothing_behind [] rest e = e
nothing_behind (x ∷ front) rest e = absurd cc

some_text : (w w2 : Option (List ℕ)) (text : List ℕ) → WroteFront w w2 text → text ≢ []
some_text w w2 text wrote e = wrote.cut (nothing_behind wrote.front wrote.rest (sym wrote.parts ∙ e))

-- ---- how a text was written

module _ (w w2 : Option (List ℕ)) (f f2 : ℕ) where
  -- any status other than 4 and 5 is the text's own, and the whole text was written
  pub whole : (own : ℕ) (text : List ℕ) (status : ℕ) → status ≢ 4 → status ≢ 5 → Written own text w w2 f f2 status → (status ≡ own) ×
      Wrote w w2 text
  whole own text status no_fault memory (inl h) = h
  whole own text status no_fault memory (inr (inl h)) = absurd (no_fault h.0)
  whole own text status no_fault memory (inr (inr h)) = absurd (memory h.0)

  pub unless_write : (own : ℕ) (text : List ℕ) (status : ℕ) → Written own text w w2 f f2 status → IsUnlessWrite own status
  unless_write own text status (inl h) = inl h.0
  unless_write own text status (inr (inl h)) = inr (inl h.0)
  unless_write own text status (inr (inr h)) = inr (inr h.0)

  pub unless_read : (own : ℕ) (text : List ℕ) (status : ℕ) → Written 3 text w w2 f f2 status → IsUnlessFault own status
  unless_read own text status (inl h) = inl h.0
  unless_read own text status (inr (inl h)) = inr (inr (inl h.0))
  unless_read own text status (inr (inr h)) = inr (inr (inr h.0))

  pub unless_memory : (own : ℕ) (text : List ℕ) (status : ℕ) → Written 5 text w w2 f f2 status → IsUnlessFault own status
  unless_memory own text status (inl h) = inr (inr (inr h.0))
  unless_memory own text status (inr (inl h)) = inr (inr (inl h.0))
  unless_memory own text status (inr (inr h)) = inr (inr (inr h.0))

-- ---- the status that is due

-- 0, 1 or 5
abbrev IsDone : ℕ → Type 0
IsDone n = (n ≤ 1) ⊎ (n ≡ 5)

small_heard : (heard : EarlyUserAuthResult) → heard_status heard ≤ 1
small_heard Success = omega arith
small_heard AccessDenied = omega arith

small_status : (o : RunOutcome) (s : ℕ) → status_of o ≡ Some s → s ≤ 1
small_status (Delegated (Ok delegation)) s e = let is : 0 ≡ s = cc in omega (arith, is)
small_status (Delegated (Err (errors.Client error))) s e = let is : 1 ≡ s = cc in omega (arith, is)
small_status (Delegated (Err (errors.Server error))) s e = let is : 1 ≡ s = cc in omega (arith, is)
small_status (Delegated (Err (errors.Read to kind))) s e = let is : 1 ≡ s = cc in omega (arith, is)
small_status (Delegated (Err (errors.Write from))) s e = let is : 1 ≡ s = cc in omega (arith, is)
small_status (Delegated (Err errors.LinkFault)) s e = let is : 1 ≡ s = cc in omega (arith, is)
small_status (Delegated (Err errors.TurnsSpent)) s e = let is : 1 ≡ s = cc in omega (arith, is)
small_status (Delegated (Err errors.InsufficientMemory)) s e = absurd cc
small_status (Played (Ok played)) s e = let is : 0 ≡ s = cc in omega (arith, is)
small_status (Played (Err error)) s e = absurd cc
small_status (outcomes.Early (Ok early)) s e = let is : heard_status early.heard ≡ s = cc in
    subst (λ (n : ℕ). n ≤ 1) is (small_heard early.heard)
small_status (outcomes.Early (Err (early_errors.Delegate error))) s e = let is : 1 ≡ s = cc in omega (arith, is)
small_status (outcomes.Early (Err early_errors.Policy)) s e = let is : 1 ≡ s = cc in omega (arith, is)
small_status (outcomes.Early (Err early_errors.LinkFault)) s e = let is : 1 ≡ s = cc in omega (arith, is)
small_status (outcomes.Early (Err (early_errors.Read kind))) s e = let is : 1 ≡ s = cc in omega (arith, is)
small_status (outcomes.Early (Err early_errors.InsufficientMemory)) s e = absurd cc

mapped : (o : Option ℕ) (report : List ℕ) (own : ℕ) (text : List ℕ) → option_map {U = ℕ × List ℕ} (λ s. (s, report)) o ≡ Some
    (own, text) → o ≡ Some own
mapped None report own text e = absurd cc
mapped (Some s) report own text e =
    let found : ℕ × List ℕ = (s, report) in
    let due : ℕ × List ℕ = (own, text) in
    let same : found ≡ due = cc (e) in
    ap (λ (p : ℕ × List ℕ). Some p.0) same

-- the status of a record that is said is that of its outcome
pub status_due : (r : Record) (own : ℕ) (text : List ℕ) → record_due r ≡ Some (own, text) → status_of r.outcome ≡ Some own
status_due r own text e = mapped (status_of r.outcome) (report_of r) own text e

small_record : (r : Record) (own : ℕ) (text : List ℕ) → RecordDue r own text → own ≤ 1
small_record r own text e = small_status r.outcome own (status_due r own text e)

small_relayed : (answer : Result Relayed GateError) → relayed_status answer ≤ 1
small_relayed (Ok relayed) = omega arith
small_relayed (Err error) = omega arith

small_gated : (r : Record) (own : ℕ) (text : List ℕ) → IsGated r own text → own ≤ 1
small_gated r own text gated = subst (λ (n : ℕ). n ≤ 1) (sym gated.status_is) (small_relayed gated.answer)

small_audited : (r : Record) (own : ℕ) (text : List ℕ) → IsAudited r own text → own ≤ 1
small_audited r own text audited = small_status r.outcome own audited.judged.status_is

small_early : (r : Record) (own : ℕ) (text : List ℕ) → IsEarlyTold r own text → own ≤ 1
small_early r own text told = small_status r.outcome own told.status_is

small_due : (D : Record → ℕ → List ℕ → Type 0) → ((r : Record) (own : ℕ) (text : List ℕ) → D r own text → own ≤ 1) →
    (kept : Option Record) (own : ℕ) (text : List ℕ) → KeptDue D kept own text → own ≤ 1
small_due D small None own text told = absurd told
small_due D small (Some r) own text told = small r own text told

small_tally : (tally : Option (List Record)) (own : ℕ) (text : List ℕ) → IsSomeAnd tally (λ t. TallyDue t own text) → own ≤ 1
small_tally None own text told = absurd told
small_tally (Some t) own text told = omega (arith, told.0)

small_seats_status : (all : Bool) → (if all then 0 else 1) ≤ 1
small_seats_status true = omega arith
small_seats_status false = omega arith

small_seats : (seats : Option (List PlainSeat)) (own : ℕ) (text : List ℕ) → IsSomeAnd seats (λ s. SeatsDue s own text) → own ≤ 1
small_seats None own text told = absurd told
small_seats (Some seats) own text told =
    subst (λ (n : ℕ). n ≤ 1) (sym told.0) (small_seats_status (list_all (λ seat. is_ok seat.outcome) seats))

pub task_small : (task : Task) (c : Conducted) (own : ℕ) (text : List ℕ) → TaskDue task c own text → own ≤ 1
task_small Delegate c own text told = small_due RecordDue small_record c.kept own text told
task_small Play c own text told = small_due RecordDue small_record c.kept own text told
task_small Gate c own text told = small_due IsGated small_gated c.kept own text told
task_small Audit c own text told = small_due IsAudited small_audited c.kept own text told
task_small Early c own text told = small_due IsEarlyTold small_early c.kept own text told
task_small (Desk count) c own text told = small_seats c.seats own text told

pub due_small : (command : Command) (left : Option (List ℕ)) (c : Conducted) (own : ℕ) (text : List ℕ) →
    Due command left c own text → own ≤ 1
due_small (Told task) left c own text told = task_small task c own text told
due_small (Gen count) left c own text told = small_tally c.tally own text told
due_small Explain left c own text told = omega (arith, told.0)

done_by : (command : Command) (left : Option (List ℕ)) (c : Conducted) (text : List ℕ) →
    IsDue (Due command left c) c.status text → IsDone c.status
done_by command left c text (inl e) = inl (due_small command left c c.status text e)
done_by command left c text (inr h) = inr h.0

done : (command : Option Command) (left : Option (List ℕ)) (IsOf : Scenario → Type 0) (c : Conducted) (text : List ℕ) →
    IsSomeAnd command (λ k. Does k left IsOf c text) → IsDone c.status
done None left IsOf c text does = absurd does
done (Some command) left IsOf c text does = done_by command left c text does.1

done_most : (n : ℕ) → IsDone n → n ≤ 6
done_most n (inl h) = omega (arith, h)
done_most n (inr h) = omega (arith, h)

done_other : (n k : ℕ) → IsDone n → n ≡ k → 1 < k → k ≢ 5 → ⊥
done_other n k (inl h) is more other = omega (arith, h, is, more)
done_other n k (inr h) is more other = other (sym is ∙ h)

-- ---- what is kept does not depend on the status

task_status : (task : Task) (status : ℕ) (c : Conducted) (own : ℕ) (text : List ℕ) → TaskDue task c own text →
    TaskDue task (with_status status c) own text
task_status Delegate status c own text h = h
task_status Play status c own text h = h
task_status Gate status c own text h = h
task_status Audit status c own text h = h
task_status Early status c own text h = h
task_status (Desk count) status c own text h = h

due_status : (command : Command) (left : Option (List ℕ)) (status : ℕ) (c : Conducted) (own : ℕ) (text : List ℕ) →
    Due command left c own text → Due command left (with_status status c) own text
due_status (Told task) left status c own text h = task_status task status c own text h
due_status (Gen count) left status c own text h = h
due_status Explain left status c own text h = h

keeps_status : (command : Command) (IsOf : Scenario → Type 0) (status : ℕ) (c : Conducted) → Keeps command IsOf c →
    Keeps command IsOf (with_status status c)
keeps_status (Told Delegate) IsOf status c h = (h.0, ap (with_status status) h.1)
keeps_status (Told Play) IsOf status c h = (h.0, ap (with_status status) h.1)
keeps_status (Told Gate) IsOf status c h = (h.0, ap (with_status status) h.1)
keeps_status (Told Audit) IsOf status c h = (h.0, ap (with_status status) h.1)
keeps_status (Told Early) IsOf status c h = (h.0, ap (with_status status) h.1)
keeps_status (Told (Desk count)) IsOf status c h = (h.0, ap (with_status status) h.1)
keeps_status (Gen count) IsOf status c h = (h.0, ap (with_status status) h.1)
keeps_status Explain IsOf status c h = ap (with_status status) h

keeps_nothing : (command : Command) (IsOf : Scenario → Type 0) (status : ℕ) → Keeps command IsOf (nothing status)
keeps_nothing (Told Delegate) IsOf status = (tt, refl)
keeps_nothing (Told Play) IsOf status = (tt, refl)
keeps_nothing (Told Gate) IsOf status = (tt, refl)
keeps_nothing (Told Audit) IsOf status = (tt, refl)
keeps_nothing (Told Early) IsOf status = (tt, refl)
keeps_nothing (Told (Desk count)) IsOf status = (tt, refl)
keeps_nothing (Gen count) IsOf status = (tt, refl)
keeps_nothing Explain IsOf status = refl

nothing_own : (c : Conducted) (status : ℕ) → c ≡ nothing status → c ≡ nothing c.status
nothing_own c status is = is ∙ ap nothing (sym (ap (λ (d : Conducted). d.status) is))

module _ (left : Option (List ℕ)) (before now : ℕ) where
  kept_by : (command : Command) (said : Said) (status : ℕ) → Comes (Some command) left before now said →
      Keeps command (IsToldFor (Some command) left) (conducted_as status said)
  kept_by command (Done c text) status comes = keeps_status command (IsToldFor (Some command) left) status c comes.0
  kept_by command (NoScenario line) status comes = keeps_nothing command (IsToldFor (Some command) left) status
  kept_by command NoText status comes = keeps_nothing command (IsToldFor (Some command) left) status
  kept_by command ReadFault status comes = keeps_nothing command (IsToldFor (Some command) left) status
  kept_by command OtherWords status comes = keeps_nothing command (IsToldFor (Some command) left) status
  kept_by command NoMemory status comes = keeps_nothing command (IsToldFor (Some command) left) status

  nothing_by : (said : Said) (status : ℕ) → Comes None left before now said → conducted_as status said ≡ nothing status
  nothing_by (Done c text) status comes = absurd comes
  nothing_by (NoScenario line) status comes = absurd comes
  nothing_by NoText status comes = let some = comes.0 in absurd cc
  nothing_by ReadFault status comes = let some = comes.0 in absurd cc
  nothing_by OtherWords status comes = refl
  nothing_by NoMemory status comes = absurd cc

  pub keeps_only : (command : Option Command) (said : Said) (c : Conducted) (status : ℕ) → c ≡ conducted_as status said →
      Comes command left before now said → KeepsOnly command left c
  keeps_only None said c status is comes = nothing_own c status (is ∙ nothing_by said status comes)
  keeps_only (Some command) said c status is comes =
      subst (λ (d : Conducted). Keeps command (IsToldFor (Some command) left) d) (sym is) (kept_by command said status comes)

-- ---- each status

module _ (command : Option Command) (left : Option (List ℕ)) (before now : ℕ) (w w2 : Option (List ℕ)) (f f2 : ℕ) where
  most_own : (said : Said) → Comes command left before now said → said_status said ≤ 6
  most_own (Done c text) comes = done_most c.status (done command left (IsToldFor command left) c text.items comes)
  most_own (NoScenario line) comes = omega arith
  most_own NoText comes = omega arith
  most_own ReadFault comes = omega arith
  most_own OtherWords comes = omega arith
  most_own NoMemory comes = omega arith

  pub status_most : (said : Said) (status : ℕ) → Comes command left before now said →
      Written (said_status said) (said_text said) w w2 f f2 status → status ≤ 6
  status_most said status comes (inl h) = let own : said_status said ≤ 6 = most_own said comes in omega (arith, h.0, own)
  status_most said status comes (inr (inl h)) = omega (arith, h.0)
  status_most said status comes (inr (inr h)) = omega (arith, h.0)

  never_write_fault : (said : Said) → Comes command left before now said → said_status said ≢ 4
  never_write_fault (Done c text) comes is =
      done_other c.status 4 (done command left (IsToldFor command left) c text.items comes) is (omega arith) (λ (e : 4 ≡ 5). omega (arith, e))
  never_write_fault (NoScenario line) comes is = absurd (omega (arith, is))
  never_write_fault NoText comes is = absurd (omega (arith, is))
  never_write_fault ReadFault comes is = absurd (omega (arith, is))
  never_write_fault OtherWords comes is = absurd (omega (arith, is))
  never_write_fault NoMemory comes is = absurd (omega (arith, is))

  pub write_rose : (said : Said) (status : ℕ) → Comes command left before now said →
      Written (said_status said) (said_text said) w w2 f f2 status → status ≡ 4 → Rose f f2
  write_rose said status comes (inl h) is = absurd (never_write_fault said comes (sym h.0 ∙ is))
  write_rose said status comes (inr (inl h)) is = h.1
  write_rose said status comes (inr (inr h)) is = absurd (omega (arith, h.0, is))

  due_alone : (k : Command) (c : Conducted) (text : List ℕ) → IsDue (Due k left c) c.status text → text ≢ [] →
      Due k left c c.status text
  due_alone k c text (inl h) some = h
  due_alone k c text (inr h) some = absurd (some h.1)

  done_text : (command : Option Command) (IsOf : Scenario → Type 0) (c : Conducted) (text : List ℕ) →
      IsSomeAnd command (λ k. Does k left IsOf c text) → text ≢ [] → IsSomeAnd command (λ k. Due k left c c.status text)
  done_text None IsOf c text does some = absurd does
  done_text (Some k) IsOf c text does some = due_alone k c text does.1 some

  text_said : (said : Said) → Comes command left before now said → said_text said ≢ [] → HasText command left said
  text_said (Done c text) comes some = done_text command (IsToldFor command left) c text.items comes some
  text_said (NoScenario line) comes some = tt
  text_said NoText comes some = tt
  text_said ReadFault comes some = tt
  text_said OtherWords comes some = tt
  text_said NoMemory comes some = some refl

  pub write_told : (said : Said) (status : ℕ) → Comes command left before now said →
      Written (said_status said) (said_text said) w w2 f f2 status → status ≡ 4 → HasText command left said
  write_told said status comes (inl h) is = absurd (never_write_fault said comes (sym h.0 ∙ is))
  write_told said status comes (inr (inl h)) is = text_said said comes (some_text w w2 (said_text said) h.2)
  write_told said status comes (inr (inr h)) is = absurd (omega (arith, h.0, is))

  judged_said : (limit : ℕ) (left2 : Option (List ℕ)) (said : Said) → IsJudged limit left left2 said → said_status said ≤ 2 →
      IsReadWhole limit left left2
  judged_said limit left2 (Done c text) judged small = judged
  judged_said limit left2 (NoScenario line) judged small = judged
  judged_said limit left2 NoText judged small = judged
  judged_said limit left2 ReadFault judged small = absurd (omega (arith, small))
  judged_said limit left2 OtherWords judged small = absurd (omega (arith, small))
  judged_said limit left2 NoMemory judged small = absurd (omega (arith, small))

  whole_said : (limit : Option ℕ) (left2 : Option (List ℕ)) (said : Said) → IfSome limit (λ l. IsJudged l left left2 said) →
      said_status said ≤ 2 → IfSome limit (λ l. IsReadWhole l left left2)
  whole_said None left2 said judged small = tt
  whole_said (Some limit) left2 said judged small = judged_said limit left2 said judged small

  pub status_whole : (left2 : Option (List ℕ)) (said : Said) (status : ℕ) →
      IfSome (limit_in command) (λ limit. IsJudged limit left left2 said) →
      Written (said_status said) (said_text said) w w2 f f2 status → status ≤ 2 →
      IfSome (limit_in command) (λ limit. IsReadWhole limit left left2)
  status_whole left2 said status judged written small =
      let all = whole w w2 f f2 (said_status said) (said_text said) status (λ (e : status ≡ 4). omega (arith, e, small))
      (λ (e : status ≡ 5). omega (arith, e, small)) written in
      whole_said (limit_in command) left2 said judged (omega (arith, all.0, small))

  words_said : (said : Said) → Comes command left before now said → said_status said ≡ 6 → Wrote w w2 (said_text said) →
      (command ≡ None) × Wrote w w2 words_text
  words_said (Done c text) comes is wrote = absurd (done_other c.status 6 (done command left (IsToldFor command left) c text.items comes) is
      (omega arith) (λ (e : 6 ≡ 5). omega (arith, e)))
  words_said (NoScenario line) comes is wrote = absurd (omega (arith, is))
  words_said NoText comes is wrote = absurd (omega (arith, is))
  words_said ReadFault comes is wrote = absurd (omega (arith, is))
  words_said OtherWords comes is wrote = (comes, wrote)
  words_said NoMemory comes is wrote = absurd (omega (arith, is))

  pub status_words : (said : Said) (status : ℕ) → Comes command left before now said →
      Written (said_status said) (said_text said) w w2 f f2 status → status ≡ 6 → (command ≡ None) × Wrote w w2 words_text
  status_words said status comes written is =
      let all = whole w w2 f f2 (said_status said) (said_text said) status (λ (e : status ≡ 4). omega (arith, e, is))
      (λ (e : status ≡ 5). omega (arith, e, is)) written in
      words_said said comes (sym all.0 ∙ is) all.1

  read_said : (said : Said) → Comes command left before now said → said_status said ≡ 3 → Wrote w w2 (said_text said) →
      IsSome (limit_in command) × Rose before now × Wrote w w2 read_text
  read_said (Done c text) comes is wrote = absurd (done_other c.status 3 (done command left (IsToldFor command left) c text.items comes) is
      (omega arith) (λ (e : 3 ≡ 5). omega (arith, e)))
  read_said (NoScenario line) comes is wrote = absurd (omega (arith, is))
  read_said NoText comes is wrote = absurd (omega (arith, is))
  read_said ReadFault comes is wrote = (comes.0, comes.1, wrote)
  read_said OtherWords comes is wrote = absurd (omega (arith, is))
  read_said NoMemory comes is wrote = absurd (omega (arith, is))

  pub status_read : (said : Said) (status : ℕ) → Comes command left before now said →
      Written (said_status said) (said_text said) w w2 f f2 status → status ≡ 3 →
      IsSome (limit_in command) × Rose before now × Wrote w w2 read_text
  status_read said status comes written is =
      let all = whole w w2 f f2 (said_status said) (said_text said) status (λ (e : status ≡ 4). omega (arith, e, is))
      (λ (e : status ≡ 5). omega (arith, e, is)) written in
      read_said said comes (sym all.0 ∙ is) all.1

  calm_said : (said : Said) → ReadsWell before now said → said_status said ≤ 2 → now ≡ before
  calm_said (Done c text) calm small = calm
  calm_said (NoScenario line) calm small = calm
  calm_said NoText calm small = calm
  calm_said ReadFault calm small = absurd (omega (arith, small))
  calm_said OtherWords calm small = calm
  calm_said NoMemory calm small = calm

  pub status_calm : (said : Said) (status : ℕ) → ReadsWell before now said →
      Written (said_status said) (said_text said) w w2 f f2 status → status ≤ 2 → now ≡ before
  status_calm said status calm written small =
      let all = whole w w2 f f2 (said_status said) (said_text said) status (λ (e : status ≡ 4). omega (arith, e, small))
      (λ (e : status ≡ 5). omega (arith, e, small)) written in
      calm_said said calm (omega (arith, all.0, small))

-- words that are not a command
module _ (left : Option (List ℕ)) (before now : ℕ) (w w2 : Option (List ℕ)) (f f2 : ℕ) where
  none_said : (said : Said) (status : ℕ) → Comes None left before now said →
      Written (said_status said) (said_text said) w w2 f f2 status → IsUnlessWrite 6 status
  none_said (Done c text) status comes written = absurd comes
  none_said (NoScenario line) status comes written = absurd comes
  none_said NoText status comes written = let some = comes.0 in absurd cc
  none_said ReadFault status comes written = let some = comes.0 in absurd cc
  none_said OtherWords status comes written = unless_write w w2 f f2 6 words_text status written
  none_said NoMemory status comes written = absurd cc

  pub status_none : (command : Option Command) (said : Said) (status : ℕ) → Comes command left before now said →
      Written (said_status said) (said_text said) w w2 f f2 status → command ≡ None → IsUnlessWrite 6 status
  status_none None said status comes written none = none_said said status comes written
  status_none (Some command) said status comes written none = absurd cc

-- ---- the line that is to blame

module _ (before after : Outside) where
  line_named : (command : Option Command) (line : ℕ) →
      IsSomeAnd (task_in command) (λ t. NoneTold (purpose_of t) before.left line) →
      Wrote before.written after.written (said_text (NoScenario line)) → IsSomeAnd command (λ c. WroteRefusal c before after)
  line_named None line none wrote = absurd none
  line_named (Some (Told task)) line none wrote = record { line = line; refused = none; wrote = wrote }
  line_named (Some (Gen count)) line none wrote = absurd none
  line_named (Some Explain) line none wrote = absurd none

  text_named : (command : Option Command) → command ≡ Some Explain → HasNoText before.left →
      Wrote before.written after.written no_text → IsSomeAnd command (λ c. WroteRefusal c before after)
  text_named command is none wrote =
      subst (λ (k : Option Command). IsSomeAnd k (λ c. WroteRefusal c before after)) (sym is) (none, wrote)

  line_said : (command : Option Command) (said : Said) → Comes command before.left before.read_faults after.read_faults said →
      said_status said ≡ 2 → Wrote before.written after.written (said_text said) →
      IsSomeAnd command (λ c. WroteRefusal c before after)
  line_said command (Done c text) comes is wrote =
      absurd (done_other c.status 2 (done command before.left (IsToldFor command before.left) c text.items comes) is
      (omega arith) (λ (e : 2 ≡ 5). omega (arith, e)))
  line_said command (NoScenario line) comes is wrote = line_named command line comes wrote
  line_said command NoText comes is wrote = text_named command comes.0 comes.1 wrote
  line_said command ReadFault comes is wrote = absurd (omega (arith, is))
  line_said command OtherWords comes is wrote = absurd (omega (arith, is))
  line_said command NoMemory comes is wrote = absurd (omega (arith, is))

  pub status_line : (command : Option Command) (said : Said) (status : ℕ) →
      Comes command before.left before.read_faults after.read_faults said →
      Written (said_status said) (said_text said) before.written after.written before.write_faults after.write_faults status →
      status ≡ 2 → IsSomeAnd command (λ c. WroteRefusal c before after)
  status_line command said status comes written is =
      let all = whole before.written after.written before.write_faults after.write_faults (said_status said) (said_text said) status
      (λ (e : status ≡ 4). omega (arith, e, is)) (λ (e : status ≡ 5). omega (arith, e, is)) written in
      line_said command said comes (sym all.0 ∙ is) all.1

  pub owes : (command : Option Command) (said : Said) (c : Conducted) → c ≡ conducted_as c.status said →
      Comes command before.left before.read_faults after.read_faults said →
      Written (said_status said) (said_text said) before.written after.written before.write_faults after.write_faults c.status →
      WroteOwed command before after c
  owes command said c is comes written = record {
    said = said;
    owed = comes;
    keeps = is;
    told = write_told command before.left before.read_faults after.read_faults before.written after.written before.write_faults
        after.write_faults said c.status comes written;
    wrote = written;
  }

  -- ---- what is reported

  due_now : (command : Command) (c : Conducted) (text : List ℕ) (status : ℕ) → IsDue (Due command before.left c) c.status text →
      status ≤ 1 → (status ≡ c.status) × Wrote before.written after.written text →
      IsReported (Due command before.left (with_status status c)) status before after
  due_now command c text status (inl told) small all = (
    text,
    subst (λ (n : ℕ). Due command before.left (with_status status c) n text) (sym all.0)
        (due_status command before.left status c c.status text told),
    all.1,
  )
  due_now command c text status (inr h) small all = absurd (omega (arith, h.0, all.0, small))

  reported_by : (command : Option Command) (said : Said) (status : ℕ) →
      Comes command before.left before.read_faults after.read_faults said → status ≤ 1 →
      (status ≡ said_status said) × Wrote before.written after.written (said_text said) →
      IsSomeAnd command (λ k. IsReported (Due k before.left (conducted_as status said)) status before after)
  reported_by None (Done c text) status comes small all = absurd comes
  reported_by (Some command) (Done c text) status comes small all = due_now command c text.items status comes.1 small all
  reported_by command (NoScenario line) status comes small all = absurd (omega (arith, all.0, small))
  reported_by command NoText status comes small all = absurd (omega (arith, all.0, small))
  reported_by command ReadFault status comes small all = absurd (omega (arith, all.0, small))
  reported_by command OtherWords status comes small all = absurd (omega (arith, all.0, small))
  reported_by command NoMemory status comes small all = absurd (omega (arith, all.0, small))

  pub status_reported : (command : Option Command) (said : Said) (c : Conducted) (status : ℕ) → c ≡ conducted_as status said →
      Comes command before.left before.read_faults after.read_faults said →
      Written (said_status said) (said_text said) before.written after.written before.write_faults after.write_faults status →
      status ≤ 1 → IsSomeAnd command (λ k. IsReported (Due k before.left c) status before after)
  status_reported command said c status is comes written small =
      let all = whole before.written after.written before.write_faults after.write_faults (said_status said) (said_text said) status
      (λ (e : status ≡ 4). omega (arith, e, small)) (λ (e : status ≡ 5). omega (arith, e, small)) written in
      subst (λ (d : Conducted). IsSomeAnd command (λ k. IsReported (Due k before.left d) status before after)) (sym is)
      (reported_by command said status comes small all)

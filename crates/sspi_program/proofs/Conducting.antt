-- What is kept of a scenario, from its record up to the source that gave it.
use Rattle.std.proofs.Common.{◌≡◌, ℕ, ◌⊎◌, inl, inr, List, [], Option, None, Some, Result, Ok, Err, refl, sym, ap, subst, ◌∙◌}
use Rattle.std.proofs.lemmas.Bool.{le-leb, lt-leb, and_from, and_right}
use Rattle.std.specs.Prelude.{IfOk, IfSome, IsErr, IsSome, IsSomeAnd, true, false, nat_le, length}
use Rattle.std.specs.Str.{is_utf8}
use Rattle.std.specs.Global.{Vec}
use Rattle.sspi_scenario.specs.declared.purpose.Purpose.{Purpose}
use Rattle.sspi_scenario.specs.declared.scenario.Scenario.{Scenario}
use Rattle.sspi_explain.specs.Explained.{explained}
use Rattle.sspi_scenario.specs.Reading.{text_limit, ReadsText}
use Rattle.sspi_scenario.specs.declared.reading.TextError.TheVariants.{TooLong}
use Rattle.sspi_scenario.specs.Scenario.{scenario_of}
use Rattle.sspi_program.specs.declared.command.Command.TheVariants.{Told, Gen, Explain}
use Rattle.sspi_program.specs.declared.command.Task.{Task}
use Rattle.sspi_program.specs.declared.command.Task.TheVariants.{Delegate, Play, Gate, Audit, Early, Desk}
use Rattle.sspi_program.specs.declared.record.Conducted.{Conducted}
use Rattle.sspi_program.specs.declared.record.Record.{Record}
use Rattle.sspi_program.specs.declared.said.Said.{Said}
use Rattle.sspi_program.specs.declared.said.Said.TheVariants.{Done, NoScenario, NoText, ReadFault, OtherWords, NoMemory}
use Rattle.sspi_program.specs.Audit.{IsJudged, IsAudited}
use Rattle.sspi_program.specs.Commands.{purpose_of, explain_limit}
use Rattle.sspi_program.specs.Explain.{IsExplained}
use Rattle.sspi_program.specs.Delegate.{HasExchange}
use Rattle.sspi_program.specs.Desk.{HasSeats, SeatsDue, seats_status}
use Rattle.sspi_program.specs.Early.{HasEarly, IsEarlyTold}
use Rattle.sspi_program.specs.Gate.{IsGated}
use Rattle.sspi_report.specs.Seats.{seats_text}
use Rattle.sspi_report.specs.Summary.{summary_text}
use Rattle.sspi_program.specs.Generate.{AreNumbered, TallyDue, summary_of}
use Rattle.sspi_program.specs.Kept.{nothing, keeping, seating, tallying, HasRecordAlone, HasTallyAlone, HasSeatsAlone}
use Rattle.sspi_program.specs.Play.{HasPlay}
use Rattle.sspi_program.specs.Promises.{KeepsRecord, KeepsTally, KeepsSeats, Keeps, KeptDue}
use Rattle.sspi_program.specs.Run.{IsTold, HasNoText, Comes}
use Rattle.sspi_program.specs.Telling.{Explains, ExplainsText, CarriesOut, Conducts, Generates, SumsUp, SaysOfSeats, SaysOf, SaysWith}
use Rattle.sspi_program.specs.Seats.{PlainSeat}
use Rattle.sspi_program.specs.Said.{status_of, RecordDue, IsDue}
use Rattle.sspi_program.proofs.Auditing.{is_audited}

-- ---- a record that is said

record_alone : (c : Conducted) (r : Record) → c ≡ keeping c.status r → c.kept ≡ Some r → HasRecordAlone c
record_alone c r made kept = made ∙ ap (λ (k : Option Record). record (nothing c.status) { kept = k }) (sym kept)

tally_alone : (c : Conducted) (tally : List Record) → c ≡ tallying c.status tally → c.tally ≡ Some tally → HasTallyAlone c
tally_alone c tally made kept = made ∙ ap (λ (k : Option (List Record)). record (nothing c.status) { tally = k }) (sym kept)

module _ (P : Record → Type 0) (D : Record → ℕ → List ℕ → Type 0) (scenario : Scenario) (r : Record) (is : r.scenario ≡ scenario)
    (has : P r) where
  says : (c : Conducted) (text : List ℕ) → c ≡ keeping c.status r → IsSome (status_of r.outcome) → IsDue (D r) c.status text →
      KeepsRecord P (λ s. s ≡ scenario) c × IsDue (KeptDue D c.kept) c.status text
  says c text made some told =
      let kept : c.kept ≡ Some r = ap (λ (d : Conducted). d.kept) made in
      ((rw kept (has, is, some), record_alone c r made kept), rw kept told)

  due_told : {E : Type 0} (told : Result (ℕ × Vec ℕ) E) → IfOk told (λ t. D r t.0 t.1.items) → (status : ℕ) (text : Vec ℕ) →
      (told ≡ Ok (status, text)) ⊎ (IsErr told × (status ≡ 5) × (text.items ≡ [])) → IsDue (D r) status text.items
  due_told told given status text (inl e) = inl (subst (λ t. IfOk t (λ (p : ℕ × Vec ℕ). D r p.0 p.1.items)) e given)
  due_told told given status text (inr h) = inr (h.1, h.2)

  says_with : {E : Type 0} (told : Result (ℕ × Vec ℕ) E) → IfOk told (λ t. D r t.0 t.1.items) → (c : Conducted) (text : Vec ℕ) →
      SaysWith r told (Done c text) → KeepsRecord P (λ s. s ≡ scenario) c × IsDue (KeptDue D c.kept) c.status text.items
  says_with told given c text said = says c text.items said.0 said.1 (due_told told given c.status text said.2)

pub conducts_exchange : (scenario : Scenario) (r : Record) (said : Said) → r.scenario ≡ scenario → HasExchange r → SaysOf r said →
    Conducts Delegate scenario said
conducts_exchange scenario r (Done c text) is has said = says HasExchange RecordDue scenario r is has c text.items said.0 said.1 said.2
conducts_exchange scenario r (NoScenario line) is has said = said
conducts_exchange scenario r NoText is has said = said
conducts_exchange scenario r ReadFault is has said = said
conducts_exchange scenario r OtherWords is has said = said
conducts_exchange scenario r NoMemory is has said = tt

pub conducts_play : (scenario : Scenario) (r : Record) (said : Said) → r.scenario ≡ scenario → HasPlay r → SaysOf r said →
    Conducts Play scenario said
conducts_play scenario r (Done c text) is has said = says HasPlay RecordDue scenario r is has c text.items said.0 said.1 said.2
conducts_play scenario r (NoScenario line) is has said = said
conducts_play scenario r NoText is has said = said
conducts_play scenario r ReadFault is has said = said
conducts_play scenario r OtherWords is has said = said
conducts_play scenario r NoMemory is has said = tt

module _ {E : Type 0} (scenario : Scenario) (r : Record) (told : Result (ℕ × Vec ℕ) E) (is : r.scenario ≡ scenario)
    (has : HasExchange r) where
  pub conducts_gate : (said : Said) → IfOk told (λ t. IsGated r t.0 t.1.items) → SaysWith r told said → Conducts Gate scenario said
  conducts_gate (Done c text) given said = says_with HasExchange IsGated scenario r is has told given c text said
  conducts_gate (NoScenario line) given said = said
  conducts_gate NoText given said = said
  conducts_gate ReadFault given said = said
  conducts_gate OtherWords given said = said
  conducts_gate NoMemory given said = tt

  audited : (answer : Result (ℕ × Vec ℕ) E) → IfOk answer (λ t. IsJudged r t.0 t.1.items) → IfOk answer (λ t. IsAudited r t.0 t.1.items)
  audited (Ok t) judged = is_audited r has t.0 t.1.items judged
  audited (Err error) judged = tt

  pub conducts_audit : (said : Said) → IfOk told (λ t. IsJudged r t.0 t.1.items) → SaysWith r told said → Conducts Audit scenario said
  conducts_audit (Done c text) given said =
      says_with HasExchange IsAudited scenario r is has told (audited told given) c text said
  conducts_audit (NoScenario line) given said = said
  conducts_audit NoText given said = said
  conducts_audit ReadFault given said = said
  conducts_audit OtherWords given said = said
  conducts_audit NoMemory given said = tt

pub conducts_early : {E : Type 0} (scenario : Scenario) (r : Record) (told : Result (ℕ × Vec ℕ) E) (said : Said) → r.scenario ≡ scenario →
    HasEarly r → IfOk told (λ t. IsEarlyTold r t.0 t.1.items) → SaysWith r told said → Conducts Early scenario said
conducts_early scenario r told (Done c text) is has given said = says_with HasEarly IsEarlyTold scenario r is has told given c text said
conducts_early scenario r told (NoScenario line) is has given said = said
conducts_early scenario r told NoText is has given said = said
conducts_early scenario r told ReadFault is has given said = said
conducts_early scenario r told OtherWords is has given said = said
conducts_early scenario r told NoMemory is has given said = tt

-- ---- many exchanges

sums : (P : List Record → Type 0) (tally : List Record) → P tally → (c : Conducted) (text : List ℕ) → c ≡ tallying c.status tally →
    IsDue (TallyDue tally) c.status text →
    KeepsTally P c × IsDue (λ status t. IsSomeAnd c.tally (λ k. TallyDue k status t)) c.status text
sums P tally has c text made told =
    let kept : c.tally ≡ Some tally = ap (λ (d : Conducted). d.tally) made in
    ((rw kept has, tally_alone c tally made kept), rw kept told)

-- with a text for which there was memory
pub sums_done : (tally : List Record) (c : Conducted) (text : List ℕ) → c ≡ tallying 0 tally → text ≡ summary_text (summary_of tally) →
    (c ≡ tallying c.status tally) × IsDue (TallyDue tally) c.status text
sums_done tally c text made told =
    let zero : c.status ≡ 0 = ap (λ (d : Conducted). d.status) made in
    (made ∙ ap (λ (n : ℕ). tallying n tally) (sym zero), inl (zero, told))

pub generates : (count : ℕ) (tally : List Record) (said : Said) → AreNumbered count tally → SumsUp tally said → Generates count said
generates count tally (Done c text) has said = sums (AreNumbered count) tally has c text.items said.0 said.1
generates count tally (NoScenario line) has said = said
generates count tally NoText has said = said
generates count tally ReadFault has said = said
generates count tally OtherWords has said = said
generates count tally NoMemory has said = tt

-- ---- sessions

seats_alone : (c : Conducted) (seats : List PlainSeat) → c ≡ seating c.status seats → c.seats ≡ Some seats → HasSeatsAlone c
seats_alone c seats made kept = made ∙ ap (λ (k : Option (List PlainSeat)). record (nothing c.status) { seats = k }) (sym kept)

sits : (count : ℕ) (scenario : Scenario) (seats : List PlainSeat) → HasSeats count scenario seats → (c : Conducted) (text : List ℕ) →
    c ≡ seating c.status seats → IsDue (SeatsDue seats) c.status text →
    KeepsSeats count (λ s. s ≡ scenario) c × IsDue (λ status t. IsSomeAnd c.seats (λ k. SeatsDue k status t)) c.status text
sits count scenario seats has c text made told =
    let kept : c.seats ≡ Some seats = ap (λ (d : Conducted). d.seats) made in
    ((rw kept (scenario, refl, has), seats_alone c seats made kept), rw kept told)

-- with a text for which there was memory
pub seats_done : (status : ℕ) (seats : List PlainSeat) (c : Conducted) (text : List ℕ) → c ≡ seating status seats →
    status ≡ seats_status seats → text ≡ seats_text seats → (c ≡ seating c.status seats) × IsDue (SeatsDue seats) c.status text
seats_done status seats c text made is told =
    let same : c.status ≡ status = ap (λ (d : Conducted). d.status) made in
    (made ∙ ap (λ (n : ℕ). seating n seats) (sym same), inl (same ∙ is, told))

pub conducts_seats : (count : ℕ) (scenario : Scenario) (seats : List PlainSeat) (said : Said) → HasSeats count scenario seats →
    SaysOfSeats seats said → Conducts (Desk count) scenario said
conducts_seats count scenario seats (Done c text) has said = sits count scenario seats has c text.items said.0 said.1
conducts_seats count scenario seats (NoScenario line) has said = said
conducts_seats count scenario seats NoText has said = said
conducts_seats count scenario seats ReadFault has said = said
conducts_seats count scenario seats OtherWords has said = said
conducts_seats count scenario seats NoMemory has said = tt

pub comes_generated : (count : ℕ) (left : Option (List ℕ)) (before now : ℕ) (said : Said) → Generates count said →
    Comes (Some (Gen count)) left before now said
comes_generated count left before now (Done c text) made = made
comes_generated count left before now (NoScenario line) made = absurd made
comes_generated count left before now NoText made = absurd made
comes_generated count left before now ReadFault made = absurd made
comes_generated count left before now OtherWords made = absurd made
comes_generated count left before now NoMemory made = refl

-- ---- a weaker condition on the scenario

record_more : (R : Record → Type 0) (P Q : Scenario → Type 0) → ((s : Scenario) → P s → Q s) → (kept : Option Record) →
    IfSome kept (λ k. R k × P k.scenario × IsSome (status_of k.outcome)) →
    IfSome kept (λ k. R k × Q k.scenario × IsSome (status_of k.outcome))
record_more R P Q more None h = tt
record_more R P Q more (Some k) h = (h.0, more k.scenario h.1, h.2)

seats_more : (count : ℕ) (P Q : Scenario → Type 0) → ((s : Scenario) → P s → Q s) → (seats : Option (List PlainSeat)) →
    IfSome seats (λ k. (scenario : Scenario) × P scenario × HasSeats count scenario k) →
    IfSome seats (λ k. (scenario : Scenario) × Q scenario × HasSeats count scenario k)
seats_more count P Q more None h = tt
seats_more count P Q more (Some k) h = (h.0, more h.0 h.1, h.2)

pub keeps_more : (task : Task) (P Q : Scenario → Type 0) → ((s : Scenario) → P s → Q s) → (c : Conducted) → Keeps (Told task) P c →
    Keeps (Told task) Q c
keeps_more Delegate P Q more c h = (record_more HasExchange P Q more c.kept h.0, h.1)
keeps_more Play P Q more c h = (record_more HasPlay P Q more c.kept h.0, h.1)
keeps_more Gate P Q more c h = (record_more HasExchange P Q more c.kept h.0, h.1)
keeps_more Audit P Q more c h = (record_more HasExchange P Q more c.kept h.0, h.1)
keeps_more Early P Q more c h = (record_more HasEarly P Q more c.kept h.0, h.1)
keeps_more (Desk count) P Q more c h = (seats_more count P Q more c.seats h.0, h.1)

pub carries_out : (task : Task) (text : List ℕ) (scenario : Scenario) (said : Said) → scenario_of (purpose_of task) text ≡ Ok scenario →
    Conducts task scenario said → CarriesOut task text said
carries_out task text scenario (Done c written) is out = (
  keeps_more task (λ s. s ≡ scenario) (λ s. scenario_of (purpose_of task) text ≡ Ok s) (λ s same. is ∙ ap Ok (sym same)) c out.0,
  out.1,
)
carries_out task text scenario (NoScenario line) is out = absurd out
carries_out task text scenario NoText is out = absurd out
carries_out task text scenario ReadFault is out = absurd out
carries_out task text scenario OtherWords is out = absurd out
carries_out task text scenario NoMemory is out = tt

told_by : (purpose : Purpose) (left : Option (List ℕ)) (text : Vec ℕ) (scenario : Scenario) → ReadsText text_limit left (Ok text) →
    scenario_of purpose text.items ≡ Ok scenario → IsTold purpose left scenario
told_by purpose None text scenario read is = tt
told_by purpose (Some bytes) text scenario read is = ap (scenario_of purpose) (sym read.0) ∙ is

pub comes_read : (task : Task) (left : Option (List ℕ)) (before now : ℕ) (text : Vec ℕ) (said : Said) → ReadsText text_limit left (Ok text) →
    CarriesOut task text.items said → Comes (Some (Told task)) left before now said
comes_read task left before now text (Done c written) read out = (
  keeps_more task (λ s. scenario_of (purpose_of task) text.items ≡ Ok s) (IsTold (purpose_of task) left)
      (λ s is. told_by (purpose_of task) left text s read is) c out.0,
  out.1,
)
comes_read task None before now text (NoScenario line) read out = tt
comes_read task (Some bytes) before now text (NoScenario line) read out = ap (scenario_of (purpose_of task)) (sym read.0) ∙ out
comes_read task left before now text NoText read out = absurd out
comes_read task left before now text ReadFault read out = absurd out
comes_read task left before now text OtherWords read out = absurd out
comes_read task left before now text NoMemory read out = refl

-- ---- a text whose messages are explained

due_explained : (left : Option (List ℕ)) (text : Vec ℕ) (written : List ℕ) → ReadsText explain_limit left (Ok text) →
    is_utf8 text.items ≡ true → written ≡ explained text.items → IfSome left (λ source. IsExplained source written)
due_explained None text written read utf8 is = tt
due_explained (Some bytes) text written read utf8 is = record {
  explainable =
      and_from (nat_le (length bytes) explain_limit) (is_utf8 bytes) (le-leb (length bytes) explain_limit read.1)
      (subst (λ (b : List ℕ). is_utf8 b ≡ true) read.0 utf8);
  told = is ∙ ap explained read.0;
}

-- a text that is not UTF-8
not_utf8 : (left : Option (List ℕ)) (text : Vec ℕ) → ReadsText explain_limit left (Ok text) → is_utf8 text.items ≡ false →
    HasNoText left
not_utf8 None text read is = tt
not_utf8 (Some bytes) text read is =
    and_right (nat_le (length bytes) explain_limit) (is_utf8 bytes) (subst (λ (b : List ℕ). is_utf8 b ≡ false) read.0 is)

-- one past the limit
pub too_long_to_explain : (left : Option (List ℕ)) → ReadsText explain_limit left (Err TooLong) → HasNoText left
too_long_to_explain None read = tt
too_long_to_explain (Some bytes) read = rw (lt-leb (length bytes) explain_limit read) refl

-- bytes that are a text
pub explains : (bytes text : List ℕ) (said : Said) → text ≡ bytes → is_utf8 bytes ≡ true → ExplainsText text said → Explains bytes said
explains bytes text (Done c told) same utf8 out = (utf8, out.0, out.1 ∙ ap explained same)
explains bytes text (NoScenario line) same utf8 out = absurd out
explains bytes text NoText same utf8 out = absurd out
explains bytes text ReadFault same utf8 out = absurd out
explains bytes text OtherWords same utf8 out = absurd out
explains bytes text NoMemory same utf8 out = utf8

pub comes_explained : (left : Option (List ℕ)) (before now : ℕ) (text : Vec ℕ) (said : Said) →
    ReadsText explain_limit left (Ok text) → Explains text.items said → Comes (Some Explain) left before now said
comes_explained left before now text (Done c told) read out =
    let zero : c.status ≡ 0 = ap (λ (d : Conducted). d.status) out.1 in
    (out.1 ∙ ap nothing (sym zero), inl (zero, due_explained left text told.items read out.0 out.2))
comes_explained left before now text (NoScenario line) read out = absurd out
comes_explained left before now text NoText read out = (refl, not_utf8 left text read out)
comes_explained left before now text ReadFault read out = absurd out
comes_explained left before now text OtherWords read out = absurd out
comes_explained left before now text NoMemory read out = refl

-- The log of an exchange, read from its first entry.
use Rattle.std.proofs.Common.{◌≡◌, suc, ℕ, inl, inr, List, [], ◌∷◌, ◌++◌, length, reverse, slice_get, Option, None}
use Rattle.std.proofs.Common.{Some, IfSome, sym, ◌∙◌, ap, subst, refl, arith, append_assoc, length-append}
use Rattle.std.proofs.Math.Seq.{get_or-append_seam}
use Rattle.std.proofs.lemmas.List.{length-reverse, reverse-append}
use Rattle.std.proofs.lemmas.Option.{slice_get-get_or, slice_get_past}
use Rattle.sspi_tsreq.specs.declared.request.TsRequest.{TsRequest}
use Rattle.sspi_credssp.specs.declared.turn.Turn.{Turn}
use Rattle.sspi_delegate.specs.declared.carried.Carried.{Carried}
use Rattle.sspi_delegate.specs.Log.{IsDelivered, IsEntry, Logged, HasLog}
use Rattle.sspi_audit.specs.Shown.{IsGiven, IsCounted}

-- ---- an element by the number of elements before it

seam : {A : Type 0} (xs : List A) (y : A) (ys : List A) → slice_get (xs ++ (y ∷ ys)) (length xs) ≡ Some y
seam xs y ys =
    slice_get-get_or (xs ++ (y ∷ ys)) (length xs) y (rw (length-append xs (y ∷ ys)) (omega arith))
    ∙ ap Some (get_or-append_seam xs y ys y)

-- in a list that is newest first, read from its end
pub at_place : {A : Type 0} (later : List A) (y : A) (before : List A) →
    slice_get (reverse (later ++ (y ∷ before))) (length before) ≡ Some y
at_place later y before =
    let split : reverse (later ++ (y ∷ before)) ≡ reverse before ++ (y ∷ reverse later) =
    reverse-append later (y ∷ before) ∙ ap (λ (l : List _). l ++ reverse later) (reverse-append (y ∷ []) before)
    ∙ append_assoc (reverse before) (y ∷ []) (reverse later) in
    rw split (subst (λ (n : ℕ). slice_get (reverse before ++ (y ∷ reverse later)) n ≡ Some y) (length-reverse before)
    (seam (reverse before) y (reverse later)))

-- ---- what was added

pub record Added (base log : List Carried) (turns : List Turn) : Type 0 where
  pub added : List Carried
  pub parts : log ≡ added ++ base
  pub has : Logged [] turns added

delivered_of : (base : List Carried) (past : List Turn) (log added : List Carried) (d : TsRequest) → log ≡ added ++ base →
    Logged [] past added → IsDelivered past log d → IsDelivered past added d
delivered_of base [] log added d parts has given = given
delivered_of base (t ∷ past) log [] d parts has given = absurd has
delivered_of base (t ∷ past) [] (e ∷ added) d parts has given = absurd given
delivered_of base (t ∷ past) (f ∷ log) (e ∷ added) d parts has given =
    let same : f ≡ e = cc (parts) in subst (λ (g : Carried). IsDelivered (t ∷ past) (g ∷ added) d) same given

pub logged_added : (base : List Carried) (turns : List Turn) (log : List Carried) → Logged base turns log → Added base log turns
logged_added base [] log is = record { added = []; parts = is; has = refl }
logged_added base (t ∷ past) [] is = absurd is
logged_added base (t ∷ past) (e ∷ log) is =
    let more = logged_added base past log is.2 in
    record {
      added = e ∷ more.added;
      parts = ap (λ (l : List Carried). e ∷ l) more.parts;
      has = (is.0, delivered_of base past log more.added t.delivered more.parts more.has is.1, more.has);
    }

-- there are as many entries as turns
pub logged_length : (turns : List Turn) (log : List Carried) → Logged [] turns log → length log ≡ length turns
logged_length [] log is = ap length is
logged_length (t ∷ past) [] is = absurd is
logged_length (t ∷ past) (e ∷ log) is = ap suc (logged_length past log is.2)

-- ---- the entries of a turn

pub record HasEntries (whole : List Carried) (past : List Turn) (t : Turn) : Type 0 where
  pub given : IsGiven past whole t.delivered
  pub entry : IfSome (slice_get whole (length past)) (IsEntry t)

abbrev pub EachHasEntries : List Carried → List Turn → Type 0
EachHasEntries whole [] = Unit {0}
EachHasEntries whole (t ∷ past) = HasEntries whole past t × EachHasEntries whole past

if_some : {A : Type 0} (o : Option A) (x : A) (P : A → Type 0) → o ≡ Some x → P x → IfSome o P
if_some o x P is p = subst (λ (q : Option _). IfSome q P) (sym is) p

given_of : (past : List Turn) (later log : List Carried) (d : TsRequest) → Logged [] past log → IsDelivered past log d →
    IsGiven past (reverse (later ++ log)) d
given_of [] later log d is given = given
given_of (t ∷ past) later [] d is given = absurd is
given_of (t ∷ past) later (e ∷ log) d is given =
    if_some _ e _ (subst (λ (n : ℕ). slice_get (reverse (later ++ (e ∷ log))) n ≡ Some e) (logged_length past log is.2)
    (at_place later e log)) given

entries_of : (turns : List Turn) (later log : List Carried) → Logged [] turns log → EachHasEntries (reverse (later ++ log)) turns
entries_of [] later log is = tt
entries_of (t ∷ past) later [] is = absurd is
entries_of (t ∷ past) later (e ∷ log) is =
    let more : (later ++ (e ∷ [])) ++ log ≡ later ++ (e ∷ log) = append_assoc later (e ∷ []) log in
    let rest : EachHasEntries (reverse (later ++ (e ∷ log))) past =
    subst (λ (l : List Carried). EachHasEntries (reverse l) past) more (entries_of past (later ++ (e ∷ [])) log is.2) in (
      record {
        given = subst (λ (l : List Carried). IsGiven past (reverse l) t.delivered) more
            (given_of past (later ++ (e ∷ [])) log t.delivered is.2 is.1);
        entry = if_some _ e _ (subst (λ (n : ℕ). slice_get (reverse (later ++ (e ∷ log))) n ≡ Some e) (logged_length past log is.2)
            (at_place later e log)) is.0;
      },
      rest,
    )

pub record Entered (base log : List Carried) (turns : List Turn) : Type 0 where
  pub added : List Carried
  pub parts : log ≡ added ++ base
  pub each : EachHasEntries (reverse added) turns
  pub counted : IsCounted turns (reverse added)

whole_log : (turns : List Turn) (log : List Carried) → Logged [] turns log → IsCounted turns (reverse log)
whole_log turns log is =
    let long = length-reverse log ∙ logged_length turns log is in
    record { most = rw long (omega arith); least = rw long (omega arith) }

if_none : {A : Type 0} (o : Option A) (P : A → Type 0) → o ≡ None → IfSome o P
if_none o P is = subst (λ (q : Option _). IfSome q P) (sym is) tt

pub entered : (base : List Carried) (turns : List Turn) (log : List Carried) → HasLog base turns log → Entered base log turns
entered base turns log (inl is) =
    let more = logged_added base turns log is in
    record {
      added = more.added;
      parts = more.parts;
      each = entries_of turns [] more.added more.has;
      counted = whole_log turns more.added more.has;
    }
entered base [] log (inr is) = absurd is
entered base (t ∷ past) log (inr is) =
    let more = logged_added base past log is.1 in
    let long = length-reverse more.added ∙ logged_length past more.added more.has in
    record {
      added = more.added;
      parts = more.parts;
      each = (
        record {
          given = given_of past [] more.added t.delivered more.has
              (delivered_of base past log more.added t.delivered more.parts more.has is.0);
          entry = if_none _ _ (slice_get_past (reverse more.added) (length past) (rw long (omega arith)));
        },
        entries_of past [] more.added more.has,
      );
      counted = record { most = rw long (omega arith); least = rw long (omega arith) };
    }

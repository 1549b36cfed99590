-- What the runs of both ends are proved from.
use Rattle.std.proofs.Common.{◌≡◌, ℕ, ◌+◌, ◌-◌, Bool, true, false, ◌||◌, List, [], ◌∷◌, refl, arith, Option, None, Some}
use Rattle.sspi_mech.specs.Meaning.{Meaning}
use Rattle.sspi_credssp.specs.declared.acts.Acts.{Acts}
use Rattle.sspi_credssp.specs.Acts.{sealings_by, unsealings_by, sealings_in, unsealings_in, SameBut}
use Rattle.sspi_credssp.specs.Unused.{IsUnusedIn}
use Rattle.sspi_credssp.specs.Context.{ContextSetting}
use Rattle.sspi_credssp.specs.Turn.{UnlessRefused}
use Rattle.sspi_delegate.specs.Turns.{Kept, Ran}
use Rattle.sspi_delegate.specs.Turns.{made_in, opened_in}
use Rattle.sspi_credssp.specs.declared.turn.Outcome.{Outcome}
use Rattle.sspi_credssp.specs.declared.turn.Outcome.TheVariants as outcome
use Rattle.sspi_credssp.specs.declared.turn.Turn.{Turn}

-- an end that has made no turn yet
pub none_ran : {S C : Type 0} (c : Meaning ContextSetting C) (Each Others : List Turn → Type 0) (end : Kept S C) →
    end.context ≡ None → Each [] → Others [] → Ran c Each Others end end []
none_ran c Each Others end none each others = record {
  same = refl;
  made = rw none refl;
  opened = rw none refl;
  each = each;
  others = others;
}

pub or_false : (a b : Bool) → a || b ≡ false → (a ≡ false) × (b ≡ false)
or_false true b h = absurd (cc (h))
or_false false b h = (refl, h)

pub or_not : (a : Bool) → a || false ≡ a
or_not true = refl
or_not false = refl

pub is_false : (b : Bool) → (b ≡ true → ⊥) → b ≡ false
is_false true refuted = absurd (refuted refl)
is_false false refuted = refl

-- the effects of a turn that sealed and opened nothing
pub record IsQuiet (acts : Acts) : Type 0 where
  pub proved : acts.proved ≡ false
  pub checked : acts.checked ≡ false
  pub sealed : acts.sealed ≡ false
  pub opened : acts.opened ≡ false

abbrev pub AllQuiet : List Turn → Type 0
AllQuiet [] = Unit {0}
AllQuiet (t ∷ past) = IsQuiet t.acts × AllQuiet past

pub quiet_made : (past : List Turn) → AllQuiet past → (made_in past ≡ 0) × (opened_in past ≡ 0)
quiet_made [] quiet = (refl, refl)
quiet_made (t ∷ past) quiet =
    let rest = quiet_made past quiet.1 in
    (rw (rest.0, quiet.0.proved, quiet.0.sealed) refl, rw (rest.1, quiet.0.checked, quiet.0.opened) refl)

-- if one of these turns proved or checked, P holds
abbrev pub Touched : Type 0 → List Turn → Type 0
Touched P [] = Unit {0}
Touched P (t ∷ past) = (t.acts.proved ≡ true → P) × (t.acts.checked ≡ true → P) × Touched P past

pub touched : (P : Type 0) (past : List Turn) → P → Touched P past
touched P [] h = tt
touched P (t ∷ past) h = ((λ was. h), (λ was. h), touched P past h)

pub untouched : (P : Type 0) (past : List Turn) → AllQuiet past → Touched P past
untouched P [] quiet = tt
untouched P (t ∷ past) quiet = (
  (λ was. let s = quiet.0.proved in absurd (cc (s, was))),
  (λ was. let s = quiet.0.checked in absurd (cc (s, was))),
  untouched P past quiet.1,
)

pub unless_given : (out : Outcome) (P : Type 0) → P → UnlessRefused out P
unless_given (outcome.Reply reply) P h = h
unless_given (outcome.Final reply) P h = h
unless_given outcome.Finished P h = h
unless_given (outcome.Refused kind reply) P h = tt

pub unless_map : (out : Outcome) (P Q : Type 0) → (P → Q) → UnlessRefused out P → UnlessRefused out Q
unless_map (outcome.Reply reply) P Q f h = f h
unless_map (outcome.Final reply) P Q f h = f h
unless_map outcome.Finished P Q f h = f h
unless_map (outcome.Refused kind reply) P Q f h = h

-- the number of the one text that a turn sealed, and of the one blob that it opened
pub made_by_proof : (acts : Acts) (made now : ℕ) → now ≡ made + sealings_by acts → acts.proved ≡ true → acts.sealed ≡ false → made ≡ now - 1
made_by_proof acts made now is proved sealed = rw (is, proved, sealed) (omega arith)

pub made_by_seal : (acts : Acts) (made now : ℕ) → now ≡ made + sealings_by acts → acts.sealed ≡ true → acts.proved ≡ false → made ≡ now - 1
made_by_seal acts made now is sealed proved = rw (is, proved, sealed) (omega arith)

pub opened_by_check : (acts : Acts) (opened now : ℕ) → now ≡ opened + unsealings_by acts → acts.checked ≡ true → acts.opened ≡ false →
    opened ≡ now - 1
opened_by_check acts opened now is checked unopened = rw (is, checked, unopened) (omega arith)

pub opened_by_end : (acts : Acts) (opened now : ℕ) → now ≡ opened + unsealings_by acts → acts.opened ≡ true → acts.checked ≡ false →
    opened ≡ now - 1
opened_by_end acts opened now is was unchecked = rw (is, unchecked, was) (omega arith)

module _ {S C : Type 0} (c : Meaning S C) where
  pub unused_in : (context : Option C) → sealings_in c context ≡ 0 → unsealings_in c context ≡ 0 → IsUnusedIn c context
  unused_in None a b = tt
  unused_in (Some m) a b = record { sealings = a; unsealings = b }

  pub same_but : (x : Option C) → SameBut c x x
  same_but None = tt
  same_but (Some m) = refl

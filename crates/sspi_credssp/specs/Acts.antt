-- What an end did on its security context in one call, and how many messages a context has sealed
-- and opened.
use Rattle.std.specs.Prelude.{ℕ, ◌+◌, ◌⊎◌, Bool, true, false, None, ◌≡◌, List, Option, Some}
use Rattle.sspi_mech.specs.Calls.{Counts}
use Rattle.sspi_mech.specs.Meaning.{Meaning}
use Rattle.sspi_credssp.specs.declared.acts.Acts.{Acts}
use Rattle.sspi_credssp.specs.declared.state.CredSspState.{CredSspState}
use Rattle.sspi_credssp.specs.declared.state.CredSspState.TheVariants.{NegoToken}

abbrev pub no_acts : Acts
no_acts = record {
  status = None;
  negotiated = false;
  proved = false;
  checked = false;
  sealed = false;
  opened = false;
}

abbrev pub count_of : Bool → ℕ
count_of true = 1
count_of false = 0

-- how many sealings these effects include, and how many unsealings
abbrev pub sealings_by : Acts → ℕ
sealings_by acts = count_of acts.proved + count_of acts.sealed

abbrev pub unsealings_by : Acts → ℕ
unsealings_by acts = count_of acts.checked + count_of acts.opened

-- ---- what a context counts, if there is one

-- the same counts without sealings and unsealings; those of MICs stay
abbrev pub silent : Counts → Counts
silent n = record n { sealings = 0; unsealings = 0 }

module _ {S C : Type 0} (c : Meaning S C) where
  abbrev pub sealings_in : Option C → ℕ
  sealings_in None = 0
  sealings_in (Some m) = (c.counts m).sealings

  abbrev pub unsealings_in : Option C → ℕ
  unsealings_in None = 0
  unsealings_in (Some m) = (c.counts m).unsealings

  -- the counts are those before plus the effects
  abbrev pub AddsActs : Option C → Acts → Option C → Type 0
  AddsActs before acts now =
      (sealings_in now ≡ sealings_in before + sealings_by acts) ×
      (unsealings_in now ≡ unsealings_in before + unsealings_by acts)

  -- The counts are those before plus the effects; or the effects alone, in the authentication,
  -- where a step may select another mechanism.
  abbrev pub CountsEachAct : CredSspState → Option C → Acts → Option C → Type 0
  CountsEachAct state before acts now = AddsActs before acts now ⊎
      ((state ≡ NegoToken) × AddsActs None acts now)

  -- the context without its counts of sealings and unsealings
  abbrev pub cleared : C → C
  cleared m = c.counted m (silent (c.counts m))

  -- the same context, except for its counts of sealings and unsealings
  abbrev pub SameBut : Option C → Option C → Type 0
  SameBut None None = Unit {0}
  SameBut (Some m) (Some m2) = cleared m2 ≡ cleared m
  SameBut context other = ⊥

  -- the blob is the text, sealed or opened as the context's message of that number
  abbrev pub SealsIn : Option C → ℕ → List ℕ → Option (List ℕ) → Type 0
  SealsIn (Some m) n text (Some blob) = c.seals m n text blob
  SealsIn context n text sealed = ⊥

  abbrev pub OpensIn : Option C → ℕ → Option (List ℕ) → List ℕ → Type 0
  OpensIn (Some m) n (Some blob) text = c.opens m n blob text
  OpensIn context n sealed text = ⊥

  abbrev pub is_waiting_in : Option C → Bool
  is_waiting_in None = false
  is_waiting_in (Some m) = c.waits m

  abbrev pub left_in : Option C → ℕ
  left_in None = 0
  left_in (Some m) = c.left m

-- What a blob opened to, compared with the proof that was due.
use Rattle.std.specs.Prelude.{◌≡◌, ℕ, ◌-◌, ◌+◌, ◌≤◌, List, length, Bool, true, false, Option, None}
use Rattle.std.specs.Prelude.{Some, Result, OnOk, nat_lt}
use Rattle.sspi_mech.specs.Calls.{one_unsealing}
use Rattle.sspi_mech.specs.Meaning.{Meaning}
use Rattle.sspi_credssp.specs.declared.acts.Acts.{Acts}
use Rattle.sspi_credssp.specs.Acts.{count_of, cleared}
use Rattle.sspi_credssp.specs.Exchange.{OpensOther}

-- the field holds this blob, which is long enough to hold a seal
pub record IsLongBlob (held blob : List ℕ) : Type 0 where
  pub same : held ≡ blob
  pub long : 16 ≤ length blob
  pub passes : nat_lt (length held) 16 ≡ false

abbrev pub IsSealedBlob : Option (List ℕ) → List ℕ → Type 0
IsSealedBlob None blob = ⊥
IsSealedBlob (Some held) blob = IsLongBlob held blob

-- the last blob that the context opened holds exactly this proof, or another text
abbrev pub OpensAs : {S C : Type 0} → Meaning S C → C → List ℕ → List ℕ → Bool → Type 0
OpensAs c m blob proof true = c.opens m ((c.counts m).unsealings - 1) blob proof
OpensAs c m blob proof false = OpensOther c m blob proof

-- an end opened a blob, which its context counts and its effects record; `same` says whether it
-- holds just this proof
pub record HasOpened {S C : Type 0} (c : Meaning S C) (m m2 : C) (acts acts2 : Acts)
    (blob proof : List ℕ) (same : Bool) : Type 0 where
  pub noted : acts2 ≡ record acts { checked = true }
  pub counted : m2 ≡ c.counted m (one_unsealing (c.counts m))
  pub count : c.counts m2 ≡ one_unsealing (c.counts m)
  pub holds : OpensAs c m2 blob proof same

module _ {S C : Type 0} (c : Meaning S C) where
  -- an end opened the peer's proof, and perhaps sealed what it then owes: what that did to the
  -- context
  pub record Exchanges {T E : Type 0} (m : C) (blob proof : List ℕ) (m2 : C) (checked sealed : Bool)
      (result : Result T E) : Type 0 where
    pub answered : OnOk result ((checked ≡ true) × (sealed ≡ true))
    pub after_proof : sealed ≡ true → (checked ≡ true) ×
        c.opens m2 ((c.counts m2).unsealings - 1) blob proof
    pub sealings : (c.counts m2).sealings ≡ (c.counts m).sealings + count_of sealed
    pub unsealings : (c.counts m2).unsealings ≡ (c.counts m).unsealings + count_of checked
    pub bare : cleared c m2 ≡ cleared c m

  -- the server opened the client's credentials, or did not
  pub record Opens (m m2 : C) (before acts : Acts) : Type 0 where
    pub acts_are : acts ≡ record before { opened = acts.opened }
    pub sealings : (c.counts m2).sealings ≡ (c.counts m).sealings
    pub unsealings : (c.counts m2).unsealings ≡ (c.counts m).unsealings + count_of acts.opened
    pub bare : cleared c m2 ≡ cleared c m

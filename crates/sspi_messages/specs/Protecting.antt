-- What a security context means for messages: the part of its meaning that protects and opens them.
use Rattle.std.specs.Prelude.{ℕ, List}
use Rattle.sspi_types.specs.declared.error_kind.ErrorKind.{ErrorKind}
use Rattle.sspi_mech.specs.Calls.{Counts, Call}
use Rattle.sspi_mech.specs.Meaning.{Meaning}

pub record Protecting (C : Type 0) : Type 1 where
  -- how many messages were made and taken; the same context with other counts
  pub counts : C → Counts
  pub counted : C → Counts → C
  -- the n-th message: text and blob, blob and text, text and MIC, MIC and text
  pub seals : C → ℕ → List ℕ → List ℕ → Type 0
  pub opens : C → ℕ → List ℕ → List ℕ → Type 0
  pub signs : C → ℕ → List ℕ → List ℕ → Type 0
  pub verifies : C → ℕ → List ℕ → List ℕ → Type 0
  -- what holds if a call answers Ok; the kinds with which it may refuse, other than out of memory
  pub permits : C → Call → Type 0
  pub refuses : C → Call → ErrorKind → Type 0

abbrev pub protecting : {S C : Type 0} → Meaning S C → Protecting C
protecting c = record {
  counts = c.counts;
  counted = c.counted;
  seals = c.seals;
  opens = c.opens;
  signs = c.signs;
  verifies = c.verifies;
  permits = c.permits;
  refuses = c.refuses;
}

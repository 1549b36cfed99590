-- A walk continues while the context only counts.
use Rattle.std.proofs.Common.{◌≡◌, ℕ, List, Option, Some, None, sym, ◌∙◌, ap}
use Rattle.sspi_names.specs.declared.credentials.CredentialsBuffers.{CredentialsBuffers}
use Rattle.sspi_mech.specs.declared.step.Answer.{Answer}
use Rattle.sspi_mech.specs.Context.{IsContext}
use Rattle.sspi_mech.specs.Meaning.{Meaning}
use Rattle.sspi_credssp.specs.Context.{IfContext, ContextSetting}
use Rattle.sspi_credssp.specs.Ends.{ClientView}
use Rattle.sspi_credssp.specs.ClientTurn.{Asked, Walked, recounted}
use Rattle.sspi_credssp.specs.Acts.{SameBut, silent, cleared}

-- two contexts that differ only in their counts
pub recounted_as : {S C : Type 0} (c : Meaning S C) → IsContext c → (m m2 : C) →
    cleared c m2 ≡ cleared c m → m2 ≡ c.counted m (c.counts m2)
recounted_as c laws m m2 same =
    sym (laws.counted_counts m2) ∙ sym (laws.counted_counted m2 (silent (c.counts m2)) (c.counts m2))
    ∙ ap (λ x. c.counted x (c.counts m2)) same ∙ laws.counted_counted m (silent (c.counts m)) (c.counts m2)

pub silent_as : {S C : Type 0} (c : Meaning S C) → IsContext c → (m m2 : C) →
    cleared c m2 ≡ cleared c m → silent (c.counts m2) ≡ silent (c.counts m)
silent_as c laws m m2 same = sym (laws.counts_counted m2 (silent (c.counts m2))) ∙ ap c.counts same ∙ laws.counts_counted m
    (silent (c.counts m))

module _ {C : Type 0} (c : Meaning ContextSetting C) (laws : IsContext c) where
  pub walked_on : (start : ClientView C) (handle : Option CredentialsBuffers) (token : Option (List ℕ)) (tries : ℕ) (log : List Asked)
      (answer : Answer)
      (o o2 : Option C) → SameBut c o o2 → IfContext o (Walked c start handle token tries log answer) →
      IfContext o2 (Walked c start handle token tries log answer)
  walked_on start handle token tries log answer None o2 same walked = absurd walked
  walked_on start handle token tries log answer (Some m) None same walked = absurd same
  walked_on start handle token tries log answer (Some m) (Some m2) same walked =
      recounted m m2 (c.counts m2) tries log answer walked (recounted_as c laws m m2 same) (silent_as c laws m m2 same)

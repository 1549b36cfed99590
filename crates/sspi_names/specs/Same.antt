-- Equality that is equality of the values, with the tables of KDCs as an instance: the proofs that
-- the impls of `Eq` cite, which belong here.
use Rattle.std.proofs.Common.{◌≡◌, ℕ, List, Bool, true, refl, sym, ◌∙◌, subst}
use Rattle.std.proofs.lemmas.Bool.{and_parts, and_from}
use Rattle.std.specs.Bool.{Decides}
use Rattle.std.specs.Cmp.{IsEquivalence, decided}
use Rattle.std.specs.Cmp.Lexicographic.{bytes_decides, pointwise_decides}
use Rattle.sspi_names.specs.Kdcs.{same_entry, same_table}
use Rattle.sspi_names.specs.declared.kdc_table.KdcEntry.{KdcEntry}

-- an equality holds exactly for equal values
abbrev pub ComparesValues : {K : Type 0} → (K → K → Bool) → Type 0
ComparesValues {K} same = (a b : K) → Decides (same a b) (a ≡ b)

made : List ℕ → List ℕ → KdcEntry
made realm url = record { realm = realm; url = url }

made_again : (e : KdcEntry) → made e.realm e.url ≡ e
unfolding made
made_again e = refl

same_parts : (a b : KdcEntry) → a.realm ≡ b.realm → a.url ≡ b.url → a ≡ b
same_parts a b realm url =
    let same : made a.realm a.url ≡ made b.realm b.url = rw (realm, url) refl in
    sym (made_again a) ∙ same ∙ made_again b

entry_is : (a b : KdcEntry) → same_entry a b ≡ true → a ≡ b
entry_is a b e =
    let parts = and_parts _ _ e in
    same_parts a b ((bytes_decides a.realm b.realm).0 parts.0)
    ((bytes_decides a.url b.url).0 parts.1)

entry_itself : (a : KdcEntry) → same_entry a a ≡ true
entry_itself a = and_from _ _ ((bytes_decides a.realm a.realm).1 refl)
    ((bytes_decides a.url a.url).1 refl)

entry_decided : ComparesValues same_entry
entry_decided a b = (
  entry_is a b,
  λ e. subst (λ (z : KdcEntry). same_entry a z ≡ true) e
      (entry_itself a),
)

pub same_entry-equiv : IsEquivalence same_entry
same_entry-equiv = decided same_entry entry_decided

pub table_decided : ComparesValues same_table
table_decided = pointwise_decides entry_decided

pub same_table-equiv : IsEquivalence same_table
same_table-equiv = decided same_table table_decided

-- What a source has left after one read and another is a suffix of what it had.
use Rattle.std.proofs.Common.{ℕ, List, [], ◌∷◌, ◌++◌, Option, None, Some, Result, Ok, Err, refl, sym, ap, ◌∙◌, append_assoc}
use Rattle.std.specs.Io.KnownBytes.{Consumes, Keeps}
use Rattle.sspi_ber.specs.declared.source.SourceError.{SourceError}
use Rattle.sspi_ber.specs.Outside.{LeavesRest, NextConsumes}

consumes_then : (before mid after : Option (List ℕ)) (a b : List ℕ) → Consumes before mid a → Consumes mid after b →
    Consumes before after (a ++ b)
consumes_then None mid after a b p q = tt
consumes_then (Some x) None after a b p q = absurd p
consumes_then (Some x) (Some y) None a b p q = absurd q
consumes_then (Some x) (Some y) (Some z) a b p q = p ∙ ap (λ (l : List ℕ). a ++ l) q ∙ sym (append_assoc a b z)

consumes_nothing : (before after : Option (List ℕ)) → Keeps before after → Consumes before after []
consumes_nothing None after p = tt
consumes_nothing (Some x) None p = absurd p
consumes_nothing (Some x) (Some y) p = sym p

pub rest_then : {before mid after : Option (List ℕ)} → LeavesRest before mid → LeavesRest mid after → LeavesRest before after
rest_then {before} {mid} {after} p q = record {
  taken = p.taken ++ q.taken;
  consumed = consumes_then before mid after p.taken
      q.taken p.consumed q.consumed;
}

pub rest_next : (before after : Option (List ℕ)) (result : Result (Option ℕ) SourceError) → NextConsumes before after result →
    LeavesRest before after
rest_next before after (Ok (Some byte)) p = record { taken = byte ∷ []; consumed = p }
rest_next before after (Ok None) p = record { taken = []; consumed = consumes_nothing before after p.0 }
rest_next before after (Err error) p = record { taken = []; consumed = consumes_nothing before after p }

pub rest_same : (known : Option (List ℕ)) → LeavesRest known known
rest_same None = record { taken = []; consumed = tt }
rest_same (Some x) = record { taken = []; consumed = refl }

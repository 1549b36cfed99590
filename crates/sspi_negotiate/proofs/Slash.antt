-- Where the last `/` of a target is.
use Rattle.std.proofs.Common.{◌≡◌, ℕ, ◌+◌, ◌≤◌, List, false, true, cond, Option, Some, None, MatchOption, drop, sym, ap, ◌∙◌, arith}
use Rattle.std.specs.List.{list_any, after_last}
use Rattle.std.specs.Str.{IsCharBoundary}
use Rattle.std.specs.Str.Pattern.{RFindsChar}
use Rattle.sspi_names.specs.Places.{IsLast}
use Rattle.sspi_names.proofs.Found.{found_last}
use Rattle.sspi_names.proofs.Parse.{last_any}
use Rattle.sspi_names.proofs.Places.{last_at}
use Rattle.sspi_negotiate.specs.Target.{is_slash, host_of}

pub last_slash_found : (t : List ℕ) (r : Option ℕ)
    → MatchOption r (RFindsChar 47 t None)
    (λ i. (j : ℕ) × RFindsChar 47 t (Some (i, j)) × (i ≤ j) × IsCharBoundary t i × IsCharBoundary t j)
    → MatchOption r (list_any is_slash t ≡ false) (λ k. IsLast 47 t k)
last_slash_found t r h = found_last 47 t r (omega arith) h

pub host_behind : (t : List ℕ) (k : ℕ) → IsLast 47 t k → drop (k + 1) t ≡ host_of t
host_behind t k h =
    let any : list_any is_slash t ≡ true = last_any t 47 k h in
    sym (last_at 47 k t h.0 h.1 h.2).1 ∙ sym (ap (λ b. cond b (after_last is_slash t) t) any)

pub host_whole : (t : List ℕ) → list_any is_slash t ≡ false → t ≡ host_of t
host_whole t none = sym (ap (λ b. cond b (after_last is_slash t) t) none)

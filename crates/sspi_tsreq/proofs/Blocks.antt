-- Filling a buffer from a source, read by read.
use Rattle.std.proofs.Common.{◌≡◌, ℕ, suc, ◌+◌, ◌-◌, ◌<◌, ◌≤◌, List, [], ◌∷◌, ◌++◌, length, take, drop, Option, None, Some, Ok, Err}
use Rattle.std.proofs.Common.{refl, sym, ap, ◌∙◌, subst, arith}
use borrow.Rule.Slice.PartMut.{put_mid}
use Rattle.std.specs.Io.KnownBytes.{Consumes, Keeps, IsAtEnd}
use Rattle.std.proofs.lemmas.Bool.{lt-ltb, le-ltb}
use Rattle.std.proofs.lemmas.List.{append_assoc, length-append, length-take-le, take-append-le, take_all, take_at, drop_at}
use Rattle.sspi_ber.specs.declared.wire_kind.WireKind.TheVariants.{UnexpectedEof, ReadFault}
use Rattle.sspi_ber.specs.Pieces.{Ended, Read, bytes_at}
use Rattle.sspi_ber.specs.Outside.{Reads, LeavesRest}

-- the first n bytes of the buffer are those that the source gave
pub record Filling (before now : Option (List ℕ)) (n : ℕ) (into : List ℕ) : Type 0 where
  pub consumed : Consumes before now (take n into)

consumes_then : (before mid after : Option (List ℕ)) (a b : List ℕ) → Consumes before mid a → Consumes mid after b →
    Consumes before after (a ++ b)
consumes_then None mid after a b p q = tt
consumes_then (Some x) None after a b p q = absurd p
consumes_then (Some x) (Some y) None a b p q = absurd q
consumes_then (Some x) (Some y) (Some z) a b p q = p ∙ ap (λ l. a ++ l) q ∙ sym (append_assoc a b z)

consumes_kept : (before mid after : Option (List ℕ)) (a : List ℕ) → Consumes before mid a → Keeps mid after → Consumes before after a
consumes_kept None mid after a p q = tt
consumes_kept (Some x) None after a p q = absurd p
consumes_kept (Some x) (Some y) None a p q = absurd q
consumes_kept (Some x) (Some y) (Some z) a p q = p ∙ ap (λ l. a ++ l) (sym q)

take_past : (xs ys : List ℕ) (n k : ℕ) → length xs ≡ n → take (n + k) (xs ++ ys) ≡ xs ++ take k ys
take_past [] ys n k e = ap (λ m. take m ys) {x = n + k} {y = k} (omega arith)
take_past (x ∷ xs) ys n k e =
    ap (λ m. take m (x ∷ (xs ++ ys))) {x = n + k} {y = suc (length xs + k)} (omega arith) ∙ ap (λ l. x ∷ l)
    (take_past xs ys (length xs) k refl)

pub filling_start : (known : Option (List ℕ)) (into : List ℕ) → Filling known known 0 into
filling_start None into = record { consumed = tt }
filling_start (Some x) into = record { consumed = refl }

pub filling_step : (before mid after : Option (List ℕ)) (n k : ℕ) (into piece : List ℕ) → n ≤ length into → k ≤ length piece →
    Filling before mid n into
    → Consumes mid after (take k piece) → Filling before after (n + k) (put_mid n (length into - n) into piece)
filling_step before mid after n k into piece within fits f more =
    let parts : take (n + k) (put_mid n (length into - n) into piece) ≡ take n into ++ take k piece =
    take_past (take n into) _ n k (length-take-le n into within) ∙ ap (λ l. take n into ++ l) (take-append-le k piece _ fits) in
    record {
      consumed = subst (Consumes before after) (sym parts)
          (consumes_then before mid after (take n into) (take k piece) f.consumed more);
    }

pub filling_rest : (before now : Option (List ℕ)) (n : ℕ) (into : List ℕ) → Filling before now n into → LeavesRest before now
filling_rest before now n into f = record { taken = take n into; consumed = f.consumed }

pub filling_kept : (before mid after : Option (List ℕ)) (n : ℕ) (into : List ℕ) → Filling before mid n into → Keeps mid after →
    LeavesRest before after
filling_kept before mid after n into f kept = record {
  taken = take n into;
  consumed = consumes_kept before mid after (take n into) f.consumed kept;
}

-- a failed read
pub block_failed : {A : Type 0} (before after : Option (List ℕ)) (view : A → A) (read : List ℕ → Read A) →
    Reads {X = A} view before after (Err ReadFault) read
block_failed None after view read = tt
block_failed (Some x) after view read = tt

pub short : (bytes : List ℕ) (n : ℕ) → length bytes < n → bytes_at n bytes ≡ Err Ended
unfolding bytes_at
short bytes n lt = rw (lt-ltb (length bytes) n lt)

pub whole : (bytes : List ℕ) (n : ℕ) → n ≤ length bytes → bytes_at n bytes ≡ Ok (take n bytes, drop n bytes)
unfolding bytes_at
whole bytes n le = rw (le-ltb (length bytes) n le)

pub filling_within : (n k m : ℕ) (into piece : List ℕ) → n ≤ length into → k ≤ length piece → n + k ≤ length (put_mid n m into piece)
filling_within n k m into piece within fits =
    simp length-append (omega (arith, length-take-le n into within))

ended : (x : List ℕ) (mid after : Option (List ℕ)) (n size : ℕ) (front : List ℕ) → length front ≡ n → n < size →
    Consumes (Some x) mid front → Consumes mid after [] → IsAtEnd after
    → bytes_at size x ≡ Err Ended
ended x None after n size front e lt p q end = absurd p
ended x (Some y) None n size front e lt p q end = absurd q
ended x (Some y) (Some z) n size front e lt p q end = short x size
    (omega (arith, ap length p, ap length q, ap length end, length-append front y))

-- the source ended before the buffer was full
pub block_ended : (before mid after : Option (List ℕ)) (n count size : ℕ) (into piece : List ℕ) → size ≡ length into → n < size →
    count ≡ 0 → Filling before mid n into
    → Consumes mid after (take count piece) → IsAtEnd after →
    Reads {X = List ℕ} (λ bytes. bytes) before after (Err UnexpectedEof) (bytes_at size)
block_ended None mid after n count size into piece same lt nothing f none end = tt
block_ended (Some x) mid after n count size into piece same lt nothing f none end =
    ended x mid after n size (take n into) (length-take-le n into (omega arith)) lt f.consumed
    (subst (λ k. Consumes mid after (take k piece)) nothing none) end

full : (x : List ℕ) (now : Option (List ℕ)) (n size : ℕ) (into : List ℕ) → size ≡ length into → size ≤ n →
    Consumes (Some x) now (take n into)
    → Reads {X = List ℕ} (λ bytes. bytes) (Some x) now (Ok into) (bytes_at size)
full x None n size into same le p = absurd p
full x (Some y) n size into same le p =
    let is : x ≡ into ++ y = p ∙ ap (λ l. l ++ y) (take_all n into (omega arith)) in
    rw (
      is,
      same,
      whole (into ++ y) (length into) (omega (arith, length-append into y)),
      take_at into y (length into) refl,
      drop_at into y (length into) refl,
    ) (refl, refl)

-- the buffer is full
pub block_full : (before now : Option (List ℕ)) (n size : ℕ) (into : List ℕ) → size ≡ length into → size ≤ n → Filling before now n into
    → Reads {X = List ℕ} (λ bytes. bytes) before now (Ok into) (bytes_at size)
block_full None now n size into same le f = tt
block_full (Some x) now n size into same le f = full x now n size into same le f.consumed

-- What a source gave, call after call.
use Rattle.std.proofs.Common.{◌≡◌, ◌+◌, ◌<◌, ◌≤◌, ℕ, List, [], ◌∷◌, ◌++◌, zero, suc, length, take, Option, None, Some, Ok, Err, refl}
use Rattle.std.proofs.Common.{append-nil, append_assoc, arith, length-append}
use Rattle.std.proofs.lemmas.List.{length-take, take-append-le}
use Rattle.std.specs.Global.{Vec}
use Rattle.std.specs.Io.KnownBytes.{Consumes, Keeps, IsAtEnd}
use Rattle.sspi_scenario.specs.declared.reading.TextError.TheVariants.{TooLong}
use Rattle.sspi_scenario.specs.Reading.{TakesAtMost, ReadsText}

consumes_on : (a b c : Option (List ℕ)) (x y : List ℕ) → Consumes a b x → Consumes b c y → Consumes a c (x ++ y)
consumes_on None b c x y first then = tt
consumes_on (Some a) None c x y first then = elim first [ ]
consumes_on (Some a) (Some b) None x y first then = elim then [ ]
consumes_on (Some a) (Some b) (Some c) x y first then = rw (first, then, append_assoc) refl

pub consumes_kept : (a b c : Option (List ℕ)) (x : List ℕ) → Consumes a b x → Keeps b c → Consumes a c x
consumes_kept None b c x first kept = tt
consumes_kept (Some a) None c x first kept = elim first [ ]
consumes_kept (Some a) (Some b) None x first kept = elim kept [ ]
consumes_kept (Some a) (Some b) (Some c) x first kept = rw kept first

-- some bytes were taken, and then some more
pub takes_on : (most : ℕ) (a b c : Option (List ℕ)) (x y : List ℕ) →
    Consumes a b x → Consumes b c y → length x + length y ≤ most → TakesAtMost most a c
takes_on most a b c x y first then short =
    record { taken = x ++ y; consumed = consumes_on a b c x y first then; short = omega (arith, length-append x y) }

pub takes_kept : (most : ℕ) (a b c : Option (List ℕ)) (x : List ℕ) →
    Consumes a b x → Keeps b c → length x ≤ most → TakesAtMost most a c
takes_kept most a b c x first kept short = record { taken = x; consumed = consumes_kept a b c x first kept; short = short }

-- a source that is at its end gave all that it had
reads_all : (limit : ℕ) (left after : Option (List ℕ)) (text : Vec ℕ) →
    Consumes left after text.items → IsAtEnd after → length text.items ≤ limit → ReadsText limit left (Ok text)
reads_all limit None after text read end short = tt
reads_all limit (Some bytes) None text read end short = elim read [ ]
reads_all limit (Some bytes) (Some []) text read end short = (rw (read, append-nil) refl, rw (read, append-nil) short)
reads_all limit (Some bytes) (Some (b ∷ more)) text read end short = cc

-- a call that gave nothing took nothing
pub consumes_nothing : (left before after : Option (List ℕ)) (taken : List ℕ) (n : ℕ) (into : List ℕ) →
    Consumes left before taken → Consumes before after (take n into) → n ≡ 0 → Consumes left after taken
consumes_nothing None before after taken n into read last none = tt
consumes_nothing (Some bytes) None after taken n into read last none = elim read [ ]
consumes_nothing (Some bytes) (Some xs) None taken n into read last none = elim last [ ]
consumes_nothing (Some bytes) (Some xs) (Some ys) taken zero into read last none = rw (read, last) refl
consumes_nothing (Some bytes) (Some xs) (Some ys) taken (suc n) into read last none = cc

-- and its last call gave nothing
pub reads_to_end : (limit : ℕ) (left before after : Option (List ℕ)) (text : Vec ℕ) (n : ℕ) (into : List ℕ) →
    Consumes left before text.items → Consumes before after (take n into) → n ≡ 0 → IsAtEnd after → length text.items ≤ limit →
    ReadsText limit left (Ok text)
reads_to_end limit left before after text n into read last none end short =
    reads_all limit left after text (consumes_nothing left before after text.items n into read last none) end short

-- some bytes were taken, and then more into the prefix of a longer buffer
pub consumes_front : (a b c : Option (List ℕ)) (x : List ℕ) (n : ℕ) (into rest : List ℕ) →
    Consumes a b x → Consumes b c (take n into) → n ≤ length into → Consumes a c (x ++ take n (into ++ rest))
consumes_front a b c x n into rest first then fits = rw take-append-le (consumes_on a b c x (take n into) first then)

pub front_is_short : (most : ℕ) (x : List ℕ) (n : ℕ) (into rest : List ℕ) →
    n ≤ length into → length x + length into ≤ most → length (x ++ take n (into ++ rest)) ≤ most
front_is_short most x n into rest fits short =
    rw take-append-le (omega (arith, length-append x (take n into), length-take n into))

-- a source that gave more than the limit had more
pub reads_too_long : (limit : ℕ) (left rest : Option (List ℕ)) (taken : List ℕ) →
    Consumes left rest taken → limit < length taken → ReadsText limit left (Err TooLong)
reads_too_long limit None rest taken read long = tt
reads_too_long limit (Some bytes) None taken read long = elim read [ ]
reads_too_long limit (Some bytes) (Some more) taken read long = rw (read, length-append) (omega arith)

-- A length together with how many bytes it took, and the length alone.
use Rattle.std.proofs.Common.{◌≡◌, ℕ, ◌+◌, ◌-◌, ◌≤◌, true, List, [], ◌∷◌, length, subst, ◌∙◌}
use Rattle.std.proofs.Common.{arith, eq-eqb, Option, None, Some, Ok, Err, refl, sym, ap}
use Rattle.sspi_ber.specs.declared.wire_kind.WireKind.{WireKind}
use Rattle.sspi_ber.specs.declared.wire_kind.WireKind.TheVariants.{UnexpectedEof, InvalidData, ReadFault, WriteFault, InsufficientMemory}
use Rattle.sspi_ber.specs.Pieces.{Fault, Ended, Invalid, Read, ◌>>=◌, byte_at, is_octet_count, limited_at, length_at, header_at}
use Rattle.sspi_ber.specs.Pieces.{sized_header_at}
use Rattle.sspi_ber.specs.Outside.{Answers, Reads}
use Rattle.std.proofs.lemmas.Bool.{le-ltb}
use Rattle.std.proofs.lemmas.List.{length-append}
use Rattle.sspi_ber.proofs.PiecesMatch.{length_match, limited_takes}
use Rattle.sspi_ber.specs.Sized.{sized_length_at}

abbrev whole : ℕ × ℕ → ℕ × ℕ
whole sized = (sized.0, sized.1)

abbrev same : ℕ → ℕ
same n = n

abbrev with_size : List ℕ → ℕ × List ℕ → Read (ℕ × ℕ)
with_size bytes n = Ok ((n.0, length bytes - length n.1), n.1)

half : (bytes : List ℕ) (after : Option (List ℕ)) (sized : ℕ × ℕ) (read : Read ℕ) →
    Answers whole after (Ok sized) (read >>= with_size bytes) → Answers same after (Ok sized.0) read
half bytes after sized (Ok x) h = (ap (λ (p : ℕ × ℕ). p.0) h.0, h.1)
half bytes after sized (Err fault) h = absurd h

pub length_half : (before after : Option (List ℕ)) (sized : ℕ × ℕ) → Reads (λ (x : ℕ × ℕ). (x.0, x.1)) before after
    (Ok sized) sized_length_at → Reads (λ (n : ℕ). n) before after (Ok sized.0) length_at
unfolding sized_length_at
length_half None after sized h = tt
length_half (Some bytes) after sized h = half bytes after sized (length_at bytes) h

fault_same : (bytes : List ℕ) (read : Read ℕ) (fault : Fault) → (read >>= with_size bytes) ≡ Err fault → read ≡ Err fault
fault_same bytes (Ok x) fault e = absurd cc
fault_same bytes (Err other) fault e = cc

half_fault : (bytes : List ℕ) (after : Option (List ℕ)) (kind : WireKind) (read : Read ℕ)
    → Answers {X = ℕ × ℕ} whole after (Err kind) (read >>= with_size bytes) → Answers {X = ℕ} same after (Err kind) read
half_fault bytes after UnexpectedEof read h = fault_same bytes read Ended h
half_fault bytes after InvalidData read h = fault_same bytes read Invalid h
half_fault bytes after ReadFault read h = tt
half_fault bytes after WriteFault read h = tt
half_fault bytes after InsufficientMemory read h = tt

pub length_fault : (before after : Option (List ℕ)) (kind : WireKind)
    → Reads {X = ℕ × ℕ} (λ x. (x.0, x.1)) before after (Err kind) sized_length_at → Reads {X = ℕ} (λ n. n) before after (Err kind) length_at
unfolding sized_length_at
length_fault None after kind h = tt
length_fault (Some bytes) after kind h = half_fault bytes after kind (length_at bytes) h

-- ---- one more byte

pair : ℕ → ℕ → ℕ × ℕ
pair a b = (a, b)

grown : (b : ℕ) (rest : List ℕ) (after : Option (List ℕ)) (sized : ℕ × ℕ) (read : Read ℕ) →
    ((n : ℕ × List ℕ) → read ≡ Ok n → length n.1 ≤ length rest)
    → Answers whole after (Ok sized) (read >>= with_size rest) → Answers whole after (Ok (sized.0, 1 + sized.1))
    (read >>= with_size (b ∷ rest))
grown b rest after sized (Ok n) shorter h =
    let le : length n.1 ≤ length rest = shorter n refl in
    let first : sized.0 ≡ n.0 = ap (λ (p : ℕ × ℕ). p.0) h.0 in
    let second : sized.1 ≡ length rest - length n.1 = ap (λ (p : ℕ × ℕ). p.1) h.0 in
    let third : 1 + sized.1 ≡ length (b ∷ rest) - length n.1 = omega arith in
    let both : ℕ × ℕ = (n.0, length (b ∷ rest) - length n.1) in
    (rw (first, third) (let e : both ≡ both = refl in e), h.1)
grown b rest after sized (Err fault) shorter h = absurd h

shorter : (bytes : List ℕ) (n : ℕ × List ℕ) → length_at bytes ≡ Ok n → length n.1 ≤ length bytes
shorter bytes n e =
    let t = length_match.takes bytes n.0 n.1 e in
    omega (arith, ap length t.2, length-append t.0 n.1)

behind : (tag b : ℕ) (rest : List ℕ) (after : Option (List ℕ)) (sized : ℕ × ℕ) → b ≡ tag
    → Answers whole after (Ok sized) (sized_length_at rest) → Answers whole after (Ok (sized.0, 1 + sized.1))
    (sized_header_at tag (b ∷ rest))
unfolding sized_length_at sized_header_at header_at
behind tag b rest after sized is h = rw (eq-eqb b tag is) (grown b rest after sized (length_at rest) (shorter rest) h)

pub header_sized : (tag : ℕ) (before mid after : Option (List ℕ)) (byte : ℕ) (sized : ℕ × ℕ) →
    Reads (λ (b : ℕ). b) before mid (Ok byte) byte_at → byte ≡ tag
    → Reads whole mid after (Ok sized) sized_length_at → Reads whole before after (Ok (sized.0, 1 + sized.1)) (sized_header_at tag)
header_sized tag None mid after byte sized first is h = tt
header_sized tag (Some []) mid after byte sized first is h = absurd first
header_sized tag (Some (b ∷ rest)) mid after byte sized first is h =
    behind tag b rest after sized (sym first.0 ∙ is)
    (subst (λ (m : Option (List ℕ)). Reads whole m after (Ok sized) sized_length_at) first.1 h)

-- ---- the long form

long_size : (first : ℕ) (rest : List ℕ) (after : Option (List ℕ)) (len : ℕ) → 0x80 ≤ first → is_octet_count (first - 0x80) ≡ true
    → Answers same after (Ok len) (limited_at (first - 0x80) rest) → Answers whole after (Ok (len, 1 + (first - 0x80)))
    (sized_length_at (first ∷ rest))
unfolding sized_length_at length_at
long_size first rest after len ge is h = rw (le-ltb first 0x80 ge, is)
    (long_with_size first rest after len (limited_at (first - 0x80) rest) refl h)
  where
    long_with_size : (first : ℕ) (rest : List ℕ) (after : Option (List ℕ)) (len : ℕ) (read : Read ℕ) → limited_at (first - 0x80) rest ≡ read
        → Answers same after (Ok len) read → Answers whole after (Ok (len, 1 + (first - 0x80))) (read >>= with_size (first ∷ rest))
    long_with_size first rest after len (Ok n) e h =
        let t = limited_takes (first - 0x80) rest n.0 n.1 e in
        let size : 1 + (first - 0x80) ≡ length (first ∷ rest) - length n.1 = omega (arith, t.1.0, ap length t.2, length-append t.0 n.1) in
        let both : ℕ × ℕ = (n.0, length (first ∷ rest) - length n.1) in
        (rw (h.0, size) (let e : both ≡ both = refl in e), h.1)
    long_with_size first rest after len (Err fault) e h = absurd h

pub length_sized : (before mid after : Option (List ℕ)) (first len : ℕ) → Reads (λ (b : ℕ). b) before mid (Ok first) byte_at → 0x80 ≤ first
    → is_octet_count (first - 0x80) ≡ true → Reads same mid after (Ok len) (limited_at (first - 0x80)) →
    Reads whole before after (Ok (len, 1 + (first - 0x80))) sized_length_at
length_sized None mid after first len byte ge is h = tt
length_sized (Some []) mid after first len byte ge is h = absurd byte
length_sized (Some (b ∷ rest)) mid after first len byte ge is h =
    subst (λ (a : ℕ). Answers whole after (Ok (len, 1 + (first - 0x80))) (sized_length_at (a ∷ rest))) byte.0
    (long_size first rest after len ge is
    (subst (λ (m : Option (List ℕ)). Reads same m after (Ok len) (limited_at (first - 0x80))) byte.1 h))

-- The header of a request, as the bytes of a stream arrive.
use Rattle.std.proofs.Common.{◌≡◌, ℕ, ◌-◌, ◌≤◌, true, false, cond, eqb, ltb, leb, List, [], ◌∷◌, ◌++◌, length, take}
use Rattle.std.proofs.Common.{drop, Option, None, Some, Ok, Err, refl, sym, ap, ◌∙◌, subst, inl, inr, arith}
use Rattle.std.proofs.lemmas.Bool.{le-ltb}
use Rattle.std.proofs.lemmas.List.{append-nil, length-append, length_push, take-append-drop, take-append-le, take_at}
use Rattle.std.proofs.KnownBytes.{Consumes-kept, Consumes-trans}
use Rattle.std.specs.Io.KnownBytes.{Consumes, IsAtEnd, Keeps}
use Rattle.sspi_ber.specs.Pieces.{Fault, Ended, Invalid, Read, bytes_at, header_at, is_octet_count, length_at, limited_at, number_at}
use Rattle.sspi_ber.specs.Forms.{max_content, IsHeader, big_endian}
use Rattle.sspi_ber.specs.declared.wire_kind.WireKind.{WireKind}
use Rattle.sspi_ber.specs.declared.wire_kind.WireKind.TheVariants.{UnexpectedEof, InvalidData, ReadFault, WriteFault, InsufficientMemory}
use Rattle.sspi_ber.proofs.PiecesMatch.{chosen, header_match}
use Rattle.sspi_ber.proofs.Steady.{header_steady}
use Rattle.sspi_tsreq.specs.Reading.{fault}
use Rattle.sspi_tsreq.specs.Reading.{request_at}
use Rattle.sspi_framing.specs.Taking.{AreWanted, IsBad, TakesToFault, TakesWanted}
use Rattle.sspi_framing.specs.Parts.{Announces, IsHeaderOf, TakesHeader, header_bytes}
use Rattle.sspi_framing.specs.declared.header.Header.{Header}
use Rattle.sspi_framing.proofs.Wanted.{header_shown, header_unfinished, pushed_wanted, wanted_all}

-- ---- when a header is whole

-- the header is a prefix of the bytes, and no byte follows it that was not there before the last
within : (p : List ℕ) (b n : ℕ) (text : List ℕ) (x : ℕ) (r : List ℕ) → header_at 0x30 p ≡ Err Ended → IsHeader 0x30 text n →
    p ++ b ∷ [] ≡ text ++ x ∷ r → ⊥
within p b n text x r h t e =
    let short : length text ≤ length p = omega (arith, ap length e, length-append p (b ∷ []), length-append text (x ∷ r)) in
    let front : text ≡ take (length text) p =
    sym (take_at text (x ∷ r) (length text) refl) ∙ ap (take (length text)) (sym e) ∙ take-append-le (length text) p (b ∷ []) short in
    let parts : p ≡ text ++ drop (length text) p =
    sym (take-append-drop (length text) p) ∙ ap (λ (l : List ℕ). l ++ drop (length text) p) (sym front) in
    let read : header_at 0x30 p ≡ Ok (n, drop (length text) p) =
    ap (header_at 0x30) parts ∙ (header_match 0x30).again text n (drop (length text) p) t in
    cc

nothing_behind : (p : List ℕ) (b n : ℕ) (text r : List ℕ) → header_at 0x30 p ≡ Err Ended → IsHeader 0x30 text n →
    p ++ b ∷ [] ≡ text ++ r → IsHeaderOf n (p ++ b ∷ [])
nothing_behind p b n text [] h t e =
    record { len = t.len; spelled = e ∙ append-nil text ∙ t.spelled; measured = t.measured }
nothing_behind p b n text (x ∷ r) h t e = absurd (within p b n text x r h t e)

-- the byte that makes a header readable is its last
pub whole_header : (p : List ℕ) (b n : ℕ) (rest : List ℕ) → header_at 0x30 p ≡ Err Ended → header_at 0x30 (p ++ b ∷ []) ≡ Ok (n, rest) →
    IsHeaderOf n (p ++ b ∷ [])
whole_header p b n rest h e =
    let t = (header_match 0x30).takes (p ++ b ∷ []) n rest e in nothing_behind p b n t.0 rest h t.1 t.2

-- ---- five bytes decide a header

few : (count : ℕ) → is_octet_count count ≡ true → count ≤ 3
few count h = grind arith

limited_decides : (count a b c : ℕ) → count ≤ 3 → limited_at count (a ∷ b ∷ c ∷ []) ≡ Err Ended → ⊥
unfolding limited_at number_at bytes_at
limited_decides count a b c le e =
    let bytes = a ∷ b ∷ c ∷ [] in
    let enough : ltb (length bytes) count ≡ false = le-ltb (length bytes) count le in
    let n = big_endian (take count bytes) in
    never n (drop count bytes) (rw enough at e)
  where
    -- a number that is within the limit or not
    never : (n : ℕ) (rest : List ℕ) → cond {A = Read ℕ} (leb n max_content) (Ok (n, rest)) (Err Invalid) ≡ Err Ended → ⊥
    never n rest e = elim (chosen (leb n max_content) (Ok (n, rest)) (Err Invalid) (Err Ended) e) [
      | inl (t, f) ↦ absurd cc
      | inr (t, f) ↦ absurd cc
    ]

length_decides : (first a b c : ℕ) → length_at (first ∷ a ∷ b ∷ c ∷ []) ≡ Err Ended → ⊥
unfolding length_at
length_decides first a b c e =
    let bytes = a ∷ b ∷ c ∷ [] in
    let long = cond (is_octet_count (first - 0x80)) (limited_at (first - 0x80) bytes) (Err Invalid) in
    elim (chosen (ltb first 0x80) (Ok (first, bytes)) long (Err Ended) e) [
      | inl (t, f) ↦ absurd cc
      | inr (t, f) ↦ elim (chosen (is_octet_count (first - 0x80)) (limited_at (first - 0x80) bytes) (Err Invalid) (Err Ended) f) [
        | inl (u, g) ↦ limited_decides (first - 0x80) a b c (few (first - 0x80) u) g
        | inr (u, g) ↦ absurd cc
      ]
    ]

pub five_decide : (p : List ℕ) → length p ≡ 5 → header_at 0x30 p ≡ Err Ended → ⊥
unfolding header_at
five_decide [] l e = omega (arith, l)
five_decide (t ∷ []) l e = omega (arith, l)
five_decide (t ∷ f ∷ []) l e = omega (arith, l)
five_decide (t ∷ f ∷ a ∷ []) l e = omega (arith, l)
five_decide (t ∷ f ∷ a ∷ b ∷ []) l e = omega (arith, l)
five_decide (t ∷ f ∷ a ∷ b ∷ c ∷ []) l e =
    elim (chosen (eqb t 0x30) (length_at (f ∷ a ∷ b ∷ c ∷ [])) (Err Invalid) (Err Ended) e) [
      | inl (u, g) ↦ length_decides f a b c g
      | inr (u, g) ↦ absurd cc
    ]
five_decide (t ∷ f ∷ a ∷ b ∷ c ∷ d ∷ p) l e = omega (arith, l)

-- ---- bytes that have no header

-- each fault of the header counts as an early end of the request
pub header_fault : (bytes : List ℕ) (kind : Fault) → header_at 0x30 bytes ≡ Err kind → fault bytes ≡ Some Ended
unfolding request_at
header_fault bytes kind e = rw e refl

some_byte : (p rest : List ℕ) → (p ≡ [] → ⊥) → p ++ rest ≡ [] → ⊥
some_byte [] rest n e = n refl
some_byte (a ∷ p) rest n e = absurd cc

pub not_empty : (p : List ℕ) (i : ℕ) → length p ≡ i → (i ≡ 0 → ⊥) → p ≡ [] → ⊥
not_empty p i l n e = n (sym l ∙ ap length e)

-- the source failed before another byte of the header came
pub header_so_far : (before mid after : Option (List ℕ)) (p : List ℕ) → Consumes before mid p → Keeps mid after →
    header_at 0x30 p ≡ Err Ended →
    TakesWanted before after
header_so_far before mid after p c k h =
    record { text = p; taken = Consumes-kept before mid after p c k; wanted = wanted_all p (header_unfinished p h) }

cut_is_bad : (before mid after : Option (List ℕ)) (p : List ℕ) → Consumes before mid p → Keeps mid after → IsAtEnd after →
    header_at 0x30 p ≡ Err Ended → (p ≡ [] → ⊥) → IsBad before UnexpectedEof
cut_is_bad None mid after p c k end h n = tt
cut_is_bad (Some bytes) None after p c k end h n = absurd c
cut_is_bad (Some bytes) (Some rest) None p c k end h n = absurd k
cut_is_bad (Some bytes) (Some rest) (Some left) p c k end h n =
    let all : bytes ≡ p = c ∙ ap (λ (l : List ℕ). p ++ l) (sym k ∙ end) ∙ append-nil p in
    (λ e. n (sym all ∙ e), ap fault all ∙ header_fault p Ended h)

-- the stream ended inside the header
pub cut_header : (before mid after : Option (List ℕ)) (p : List ℕ) → Consumes before mid p → Keeps mid after → IsAtEnd after →
    header_at 0x30 p ≡ Err Ended → (p ≡ [] → ⊥) → IsBad before UnexpectedEof × TakesToFault UnexpectedEof before after
cut_header before mid after p c k end h n =
    (cut_is_bad before mid after p c k end h n, record { taken = header_so_far before mid after p c k h; shows = λ u. end })

bad_is_bad : (before after : Option (List ℕ)) (p : List ℕ) → Consumes before after p → header_at 0x30 p ≡ Err Invalid → (p ≡ [] → ⊥) →
    IsBad before UnexpectedEof
bad_is_bad None after p c h n = tt
bad_is_bad (Some bytes) None p c h n = absurd c
bad_is_bad (Some bytes) (Some left) p c h n =
    (λ e. some_byte p left n (sym c ∙ e), ap fault c ∙ header_fault (p ++ left) Invalid ((header_steady 0x30).stays p left h))

-- the header is invalid
bad_header : (before after : Option (List ℕ)) (p : List ℕ) → Consumes before after p → header_at 0x30 p ≡ Err Invalid → (p ≡ [] → ⊥) →
    AreWanted p → IsBad before UnexpectedEof × TakesToFault UnexpectedEof before after
bad_header before after p c h n w = (
  bad_is_bad before after p c h n,
  record { taken = record { text = p; taken = c; wanted = w }; shows = λ u. absurd (header_shown p h u) },
)

-- the stream was at its end
pub no_header : (before mid after : Option (List ℕ)) (p : List ℕ) → Consumes before mid p → Keeps mid after → IsAtEnd after → p ≡ [] →
    IsAtEnd after × Consumes before after []
no_header None mid after p c k end e = (end, tt)
no_header (Some bytes) None after p c k end e = absurd c
no_header (Some bytes) (Some rest) None p c k end e = absurd k
no_header (Some bytes) (Some rest) (Some left) p c k end e = (end, c ∙ ap (λ (l : List ℕ). l ++ rest) e ∙ sym k)

pub refused_header : (before after : Option (List ℕ)) (header seen : List ℕ) (kind : WireKind) → seen ≡ header → Announces seen (Err kind) →
    Consumes before after header → (header ≡ [] → ⊥) → AreWanted header → TakesHeader before after (Err kind)
refused_header before after header seen UnexpectedEof e h c n w = bad_header before after header c (ap (header_at 0x30) (sym e) ∙ h) n w
refused_header before after header seen InvalidData e h c n w = absurd h
refused_header before after header seen ReadFault e h c n w = absurd h
refused_header before after header seen WriteFault e h c n w = absurd h
refused_header before after header seen InsufficientMemory e h c n w = absurd h

-- ---- the bytes so far

pub no_bytes : (p : List ℕ) → p ≡ [] → header_at 0x30 p ≡ Err Ended
unfolding header_at
no_bytes p e = rw e refl

pub none_taken : (left : Option (List ℕ)) (p : List ℕ) → p ≡ [] → Consumes left left p
none_taken None p e = tt
none_taken (Some bytes) p e = rw e refl

pub byte_taken : (before mid after : Option (List ℕ)) (p new : List ℕ) (byte : ℕ) → Consumes before mid p → Consumes mid after (byte ∷ []) →
    new ≡ p ++ byte ∷ [] → Consumes before after new
byte_taken before mid after p new byte c d e = rw e (Consumes-trans before mid after p (byte ∷ []) c d)

pub byte_rest : (before mid after : Option (List ℕ)) (p : List ℕ) (byte : ℕ) → Consumes before mid p → Consumes mid after (byte ∷ []) →
    header_at 0x30 p ≡ Err Ended → TakesWanted before after
byte_rest before mid after p byte c d h = record {
  text = p ++ byte ∷ [];
  taken = Consumes-trans before mid after p (byte ∷ []) c d;
  wanted = pushed_wanted p (p ++ byte ∷ []) byte refl h;
}

pub pushed_some : (p new : List ℕ) (byte : ℕ) → new ≡ p ++ byte ∷ [] → new ≡ [] → ⊥
pushed_some p new byte e n = let l = length_push p byte in omega (arith, ap length e, ap length n, l)

pub found_header : (before mid after : Option (List ℕ)) (p seen : List ℕ) (byte : ℕ) (header : Header) (found : Option ℕ) →
    Consumes before mid p → Consumes mid after (byte ∷ []) → header_at 0x30 p ≡ Err Ended → header_bytes header ≡ p ++ byte ∷ [] →
    header.count ≤ length header.octets → seen ≡ header_bytes header → found ≡ Some header.size → Announces seen (Ok found) →
    TakesHeader before after (Ok (Some header))
found_header before mid after p seen byte header None c d h e le same is a = absurd cc
found_header before mid after p seen byte header (Some n) c d h e le same is a =
    let read : header_at 0x30 (p ++ byte ∷ []) ≡ Ok (n, a.0) = ap (header_at 0x30) (sym e ∙ sym same) ∙ a.1 in
    let sized : n ≡ header.size = cc in (
      byte_taken before mid after p (header_bytes header) byte c d e,
      subst (λ (k : ℕ). IsHeaderOf k (header_bytes header)) sized
          (subst (λ (l : List ℕ). IsHeaderOf n l) (sym e) (whole_header p byte n a.0 h read)),
      le,
    )

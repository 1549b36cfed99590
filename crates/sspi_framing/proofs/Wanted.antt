-- Which bytes of a request are taken: none after its content, and none after a fault of its header.
use Rattle.std.proofs.Common.{◌≡◌, ℕ, ◌-◌, ◌≤◌, List, [], ◌∷◌, ◌++◌, length, take, drop}
use Rattle.std.proofs.Common.{Ok, Err, refl, sym, ap, ◌∙◌, subst, append_assoc, arith}
use Rattle.std.proofs.lemmas.List.{append-nil, length-append, length-replicate, take-append-drop, take-append-le, take_at}
use Rattle.sspi_ber.specs.Pieces.{Ended, Invalid, Read, zeros, element_at, header_at}
use Rattle.sspi_ber.specs.Forms.{IsLength}
use Rattle.sspi_ber.proofs.Match.{both_are}
use Rattle.sspi_ber.proofs.PiecesMatch.{element_match}
use Rattle.sspi_ber.proofs.Steady.{element_steady}
use Rattle.sspi_framing.specs.Taking.{AreWanted, IsUnfinished, IsWhole}
use Rattle.sspi_framing.specs.Parts.{IsHeaderOf}

-- ---- bytes that are unfinished

-- their prefixes are unfinished too
front_unfinished : (front more : List ℕ) (z : Read (List ℕ)) → element_at 0x30 front ≡ z → IsUnfinished (front ++ more) → IsUnfinished front
front_unfinished front more (Ok x) e u = let f = (element_steady 0x30).goes front x.0 x.1 more e in absurd cc
front_unfinished front more (Err Ended) e u = e
front_unfinished front more (Err Invalid) e u = let f = (element_steady 0x30).stays front more e in absurd cc

pub wanted_all : (p : List ℕ) → IsUnfinished p → AreWanted p
wanted_all p u front rest b e =
    front_unfinished front (b ∷ rest) (element_at 0x30 front) refl (subst (λ (l : List ℕ). IsUnfinished l) e u)

-- one byte more
wanted_last : (p : List ℕ) (byte : ℕ) → IsUnfinished p → AreWanted (p ++ byte ∷ [])
wanted_last p byte u front rest b e =
    let short : length front ≤ length p = omega (arith, ap length e, length-append p (byte ∷ []), length-append front (b ∷ rest)) in
    let same : front ≡ take (length front) p =
    sym (take_at front (b ∷ rest) (length front) refl) ∙ ap (take (length front)) (sym e) ∙ take-append-le (length front) p
    (byte ∷ []) short in
    let parts : p ≡ front ++ drop (length front) p =
    sym (take-append-drop (length front) p) ∙ ap (λ (l : List ℕ). l ++ drop (length front) p) (sym same) in
    front_unfinished front (drop (length front) p) (element_at 0x30 front) refl (subst (λ (l : List ℕ). IsUnfinished l) parts u)

pub header_unfinished : (p : List ℕ) → header_at 0x30 p ≡ Err Ended → IsUnfinished p
unfolding element_at
header_unfinished p h = rw h refl

pub header_shown : (p : List ℕ) → header_at 0x30 p ≡ Err Invalid → IsUnfinished p → ⊥
unfolding element_at
header_shown p h u = let f : element_at 0x30 p ≡ Err Invalid = rw h refl in absurd cc

pub pushed_wanted : (p new : List ℕ) (byte : ℕ) → new ≡ p ++ byte ∷ [] → header_at 0x30 p ≡ Err Ended → AreWanted new
pushed_wanted p new byte e h =
    subst (λ (l : List ℕ). AreWanted l) (sym e) (wanted_last p byte (header_unfinished p h))

-- ---- a prefix of a request

before_end : (front more content : List ℕ) (byte : ℕ) (z : Read (List ℕ)) → element_at 0x30 front ≡ z →
    element_at 0x30 (front ++ byte ∷ more) ≡ Ok (content, []) → IsUnfinished front
before_end front more content byte (Ok x) e whole =
    let f = (element_steady 0x30).goes front x.0 x.1 (byte ∷ more) e in
    let same = both_are x.0 content (x.1 ++ byte ∷ more) [] (sym f ∙ whole) in
    let no : ⊥ = omega (arith, ap length same.1, length-append x.1 (byte ∷ more)) in absurd no
before_end front more content byte (Err Ended) e whole = e
before_end front more content byte (Err Invalid) e whole =
    let f = (element_steady 0x30).stays front (byte ∷ more) e in absurd cc

wanted_inside : (text more content : List ℕ) → element_at 0x30 (text ++ more) ≡ Ok (content, []) → AreWanted text
wanted_inside text more content whole front rest b e =
    before_end front (rest ++ more) content b (element_at 0x30 front) refl
    (ap (element_at 0x30) (sym (ap (λ (l : List ℕ). l ++ more) e ∙ append_assoc front (b ∷ rest) more)) ∙ whole)

-- a header and its content
element : (len body : List ℕ) → IsLength len (length body) → element_at 0x30 ((0x30 ∷ len) ++ body) ≡ Ok (body, [])
element len body m =
    ap (element_at 0x30) (sym (append-nil ((0x30 ∷ len) ++ body)))
    ∙ (element_match 0x30).again ((0x30 ∷ len) ++ body) body [] (record { len = len; spelled = refl; measured = m })

whole_element : (bytes : List ℕ) (w : IsWhole bytes) → element_at 0x30 bytes ≡ Ok (w.body, [])
whole_element bytes w = ap (element_at 0x30) w.parts ∙ element w.len w.body w.measured

pub whole_wanted : (bytes : List ℕ) → IsWhole bytes → AreWanted bytes
whole_wanted bytes w = wanted_inside bytes [] w.body (ap (element_at 0x30) (append-nil bytes) ∙ whole_element bytes w)

pub whole_shown : (bytes : List ℕ) → IsWhole bytes → IsUnfinished bytes → ⊥
whole_shown bytes w u = let f = whole_element bytes w in absurd cc

-- a header, and at most its content
pub part_wanted : (size : ℕ) (header body : List ℕ) → IsHeaderOf size header → length body ≤ size → AreWanted (header ++ body)
part_wanted size header body h le =
    let more = zeros (size - length body) in
    let sized : size ≡ length (body ++ more) =
    omega (arith, length-append body more, length-replicate {A = ℕ} (size - length body) 0, le) in
    let parts : (header ++ body) ++ more ≡ (0x30 ∷ h.len) ++ (body ++ more) =
    append_assoc header body more ∙ ap (λ (l : List ℕ). l ++ (body ++ more)) h.spelled in
    wanted_inside (header ++ body) more (body ++ more)
    (ap (element_at 0x30) parts ∙ element h.len (body ++ more) (subst (λ (k : ℕ). IsLength h.len k) sized h.measured))

-- What more bytes change in a reader's answer: nothing if it read or met a malformed piece; and
-- enough zero bytes settle what ended too early.
use Rattle.std.proofs.Common.{◌≡◌, ℕ, ◌≤◌, Bool, true, false, cond, eqb, ltb, leb, List, [], ◌∷◌, ◌++◌, length, take, drop}
use Rattle.std.proofs.Common.{Option, None, Some, Ok, Err, refl, sym, ap, ◌∙◌, append_assoc, arith, ◌+◌, ◌-◌, inl, inr}
use Rattle.std.proofs.lemmas.Bool.{ltb-false, le-ltb, cases_Bool}
use Rattle.std.proofs.lemmas.List.{length-append, length-replicate, replicate-append-replicate, take-append-le, drop-append-le}
use Rattle.sspi_ber.specs.Pieces.{Fault, Ended, Invalid, Read, ◌>>=◌, zeros, byte_at, bytes_at, is_octet_count, limited_at, length_at}
use Rattle.sspi_ber.specs.Pieces.{header_at, element_at, number_at, integer_at, tag_or_absent_at, present_at, field_at, tagged_at}
use Rattle.sspi_ber.specs.Forms.{max_content, big_endian, is_integer_size}
use Rattle.sspi_ber.proofs.Match.{bind_ok, both_are, read_of, changed}
use Rattle.sspi_ber.proofs.PiecesMatch.{chosen}

more_zeros : (b : List ℕ) (n m : ℕ) → b ++ zeros (n + m) ≡ (b ++ zeros n) ++ zeros m
more_zeros b n m = ap (λ (l : List ℕ). b ++ l) (sym (replicate-append-replicate {A = ℕ} n m 0)) ∙ sym (append_assoc b (zeros n) (zeros m))

pub record Steady {A : Type 0} (read : List ℕ → Read A) : Type 0 where
  pub goes : (b : List ℕ) (x : A) (r more : List ℕ) → read b ≡ Ok (x, r) → read (b ++ more) ≡ Ok (x, r ++ more)
  pub stays : (b more : List ℕ) → read b ≡ Err Invalid → read (b ++ more) ≡ Err Invalid
  pub completes : (b : List ℕ) → (count : ℕ) × (read (b ++ zeros count) ≡ Err Ended → ⊥)

-- ---- nothing is read

pub Steady-done : {A : Type 0} (x : A) → Steady (λ bytes. Ok (x, bytes))
Steady-done {A} x = record {
  goes = λ b y r more e. let same = both_are x y b r e in ap (λ (l : List ℕ). read_of x (l ++ more)) same.1
      ∙ ap (λ (z : A). read_of z (r ++ more)) same.0;
  stays = λ b more e. absurd cc;
  completes = λ b. (0, λ e. cc);
}

pub Steady-refused : {A : Type 0} → Steady {A = A} (λ bytes. Err Invalid)
Steady-refused {A} = record {
  goes = λ b x r more e. absurd cc;
  stays = λ b more e. e;
  completes = λ b. (0, λ e. cc);
}

-- ---- bytes

byte_goes : (b : List ℕ) (x : ℕ) (r more : List ℕ) → byte_at b ≡ Ok (x, r) → byte_at (b ++ more) ≡ Ok (x, r ++ more)
byte_goes [] x r more e = absurd cc
byte_goes (a ∷ b) x r more e = let same = both_are a x b r e in ap (λ (c : ℕ). read_of c (b ++ more)) same.0
    ∙ ap (λ (l : List ℕ). read_of x (l ++ more)) same.1

byte_stays : (b more : List ℕ) → byte_at b ≡ Err Invalid → byte_at (b ++ more) ≡ Err Invalid
byte_stays [] more e = absurd cc
byte_stays (a ∷ b) more e = absurd cc

byte_completes : (b : List ℕ) → (count : ℕ) × (byte_at (b ++ zeros count) ≡ Err Ended → ⊥)
byte_completes [] = (1, λ e. cc)
byte_completes (a ∷ b) = (0, λ e. cc)

pub byte_steady : Steady byte_at
byte_steady = record { goes = byte_goes; stays = byte_stays; completes = byte_completes }

long_enough : (n : ℕ) (b x r : List ℕ) → bytes_at n b ≡ Ok (x, r) → (n ≤ length b) × (take n b ≡ x) × (drop n b ≡ r)
unfolding bytes_at
long_enough n b x r e =
    elim (chosen (ltb (length b) n) (Err Ended) (Ok (take n b, drop n b)) (Ok (x, r)) e) [
      | inl (t, f) ↦ absurd cc
      | inr (t, f) ↦ (let same = both_are (take n b) x (drop n b) r f in (ltb-false _ _ t, same.0, same.1))
    ]

enough : (n : ℕ) (b : List ℕ) → n ≤ length b → bytes_at n b ≡ Ok (take n b, drop n b)
unfolding bytes_at
enough n b le = rw (le-ltb (length b) n le) refl

bytes_goes : (n : ℕ) (b x r more : List ℕ) → bytes_at n b ≡ Ok (x, r) → bytes_at n (b ++ more) ≡ Ok (x, r ++ more)
bytes_goes n b x r more e =
    let t = long_enough n b x r e in
    enough n (b ++ more) (omega (arith, t.0, length-append b more))
    ∙ ap (λ (l : List ℕ). read_of l (drop n (b ++ more))) (take-append-le n b more t.0 ∙ t.1)
    ∙ ap (λ (l : List ℕ). read_of x l) (drop-append-le n b more t.0 ∙ ap (λ (l : List ℕ). l ++ more) t.2)

bytes_stays : (n : ℕ) (b more : List ℕ) → bytes_at n b ≡ Err Invalid → bytes_at n (b ++ more) ≡ Err Invalid
unfolding bytes_at
bytes_stays n b more e =
    elim (chosen (ltb (length b) n) (Err Ended) (Ok (take n b, drop n b)) (Err Invalid) e) [
      | inl (t, f) ↦ absurd cc
      | inr (t, f) ↦ absurd cc
    ]

not_ended : {A : Type 0} (r : Read A) (x : A × List ℕ) → r ≡ Ok x → r ≡ Err Ended → ⊥
not_ended r x e f = cc

bytes_completes : (n : ℕ) (b : List ℕ) → (count : ℕ) × (bytes_at n (b ++ zeros count) ≡ Err Ended → ⊥)
bytes_completes n b = (
  n,
  not_ended (bytes_at n (b ++ zeros n)) _
      (enough n (b ++ zeros n) (omega (arith, length-append b (zeros n), length-replicate {A = ℕ} n 0))),
)

pub bytes_steady : (n : ℕ) → Steady (bytes_at n)
bytes_steady n = record { goes = bytes_goes n; stays = bytes_stays n; completes = bytes_completes n }

-- ---- one reader after another

then_goes : {A B : Type 0} (p : List ℕ → Read A) (q : A → List ℕ → Read B) → Steady p → ((x : A) → Steady (q x))
    → (b : List ℕ) (y : B) (r more : List ℕ) → (p b >>= λ x. q x.0 x.1) ≡ Ok (y, r) → (p (b ++ more) >>= λ x. q x.0 x.1) ≡ Ok (y, r ++ more)
then_goes {A} {B} p q sp sq b y r more e =
    let t = bind_ok (p b) (λ x. q x.0 x.1) (y, r) e in
    ap (λ (z : Read A). z >>= λ x. q x.0 x.1) (sp.goes b t.0.0 t.0.1 more t.1) ∙ (sq t.0.0).goes t.0.1 y r more t.2

stays_at : {A B : Type 0} (p : List ℕ → Read A) (q : A → List ℕ → Read B) → Steady p → ((x : A) → Steady (q x)) →
    (b more : List ℕ) (z : Read A)
    → p b ≡ z → (z >>= λ x. q x.0 x.1) ≡ Err Invalid → (p (b ++ more) >>= λ x. q x.0 x.1) ≡ Err Invalid
stays_at {A} {B} p q sp sq b more (Ok x) e f = ap (λ (w : Read A). w >>= λ x. q x.0 x.1) (sp.goes b x.0 x.1 more e)
    ∙ (sq x.0).stays x.1 more f
stays_at {A} {B} p q sp sq b more (Err Ended) e f = absurd cc
stays_at {A} {B} p q sp sq b more (Err Invalid) e f = ap (λ (w : Read A). w >>= λ x. q x.0 x.1) (sp.stays b more e)

other_fault : {B : Type 0} (z : Read B) → z ≡ Err Invalid → z ≡ Err Ended → ⊥
other_fault z e f = cc

completes_at : {A B : Type 0} (p : List ℕ → Read A) (q : A → List ℕ → Read B) → Steady p → ((x : A) → Steady (q x)) →
    (b : List ℕ) (first : ℕ) (z : Read A)
    → p (b ++ zeros first) ≡ z → (z ≡ Err Ended → ⊥) → (count : ℕ) × ((p (b ++ zeros count) >>= λ x. q x.0 x.1) ≡ Err Ended → ⊥)
completes_at {A} {B} p q sp sq b first (Ok x) e ne =
    let t = (sq x.0).completes x.1 in
    let whole : (p (b ++ zeros (first + t.0)) >>= λ x. q x.0 x.1) ≡ q x.0 (x.1 ++ zeros t.0) =
    ap (λ (w : Read A). w >>= λ x. q x.0 x.1) (ap p (more_zeros b first t.0) ∙ sp.goes (b ++ zeros first) x.0 x.1 (zeros t.0) e) in
    (first + t.0, λ f. t.1 (sym whole ∙ f))
completes_at {A} {B} p q sp sq b first (Err Ended) e ne = absurd (ne refl)
completes_at {A} {B} p q sp sq b first (Err Invalid) e ne =
    let whole : (p (b ++ zeros first) >>= λ x. q x.0 x.1) ≡ Err Invalid = ap (λ (w : Read A). w >>= λ x. q x.0 x.1) e in
    (first, other_fault (p (b ++ zeros first) >>= λ x. q x.0 x.1) whole)

pub Steady-then : {A B : Type 0} (p : List ℕ → Read A) (q : A → List ℕ → Read B) → Steady p → ((x : A) → Steady (q x)) →
    Steady (λ bytes. p bytes >>= λ x. q x.0 x.1)
Steady-then p q sp sq = record {
  goes = then_goes p q sp sq;
  stays = λ b more e. stays_at p q sp sq b more (p b) refl e;
  completes = λ b. let t = sp.completes b in completes_at p q sp sq b t.0 (p (b ++ zeros t.0)) refl t.1;
}

-- ---- a test between two readers

pub Steady-cond : {A : Type 0} (t : Bool) (p q : List ℕ → Read A) → Steady p → Steady q → Steady (λ bytes. cond t (p bytes) (q bytes))
Steady-cond true p q sp sq = sp
Steady-cond false p q sp sq = sq

pub Steady-map : {A B : Type 0} (f : A → B) (p : List ℕ → Read A) → Steady p → Steady (λ bytes. p bytes >>= λ x. Ok (f x.0, x.1))
Steady-map f p sp = Steady-then p (λ x bytes. Ok (f x, bytes)) sp (λ x. Steady-done (f x))

-- ---- the pieces

pub number_steady : (n : ℕ) → Steady (number_at n)
unfolding number_at
number_steady n = Steady-map big_endian (bytes_at n) (bytes_steady n)

limited_steady : (count : ℕ) → Steady (limited_at count)
unfolding limited_at
limited_steady count =
    Steady-then (number_at count) (λ n bytes. cond (leb n max_content) (Ok (n, bytes)) (Err Invalid)) (number_steady count)
    (λ n. Steady-cond (leb n max_content) (λ bytes. Ok (n, bytes)) (λ bytes. Err Invalid) (Steady-done n) Steady-refused)

pub length_steady : Steady length_at
unfolding length_at
length_steady =
    Steady-then byte_at
    (λ first bytes. cond (ltb first 0x80) (Ok (first, bytes))
    (cond (is_octet_count (first - 0x80)) (limited_at (first - 0x80) bytes) (Err Invalid))) byte_steady
    (λ first. Steady-cond (ltb first 0x80) (λ bytes. Ok (first, bytes))
    (λ bytes. cond (is_octet_count (first - 0x80)) (limited_at (first - 0x80) bytes) (Err Invalid)) (Steady-done first)
    (Steady-cond (is_octet_count (first - 0x80)) (limited_at (first - 0x80)) (λ bytes. Err Invalid)
    (limited_steady (first - 0x80)) Steady-refused))

pub header_steady : (tag : ℕ) → Steady (header_at tag)
unfolding header_at
header_steady tag =
    Steady-then byte_at (λ first bytes. cond (eqb first tag) (length_at bytes) (Err Invalid)) byte_steady
    (λ first. Steady-cond (eqb first tag) length_at (λ bytes. Err Invalid) length_steady Steady-refused)

pub element_steady : (tag : ℕ) → Steady (element_at tag)
unfolding element_at
element_steady tag = Steady-then (header_at tag) bytes_at (header_steady tag) bytes_steady

pub integer_steady : Steady integer_at
unfolding integer_at
integer_steady =
    Steady-then (header_at 0x02) (λ n bytes. cond (is_integer_size n) (number_at n bytes) (Err Invalid)) (header_steady 0x02)
    (λ n. Steady-cond (is_integer_size n) (number_at n) (λ bytes. Err Invalid) (number_steady n) Steady-refused)

pub tagged_steady : {A : Type 0} (tag : ℕ) (inner : List ℕ → Read A) → Steady inner → Steady (tagged_at tag inner)
unfolding tagged_at
tagged_steady tag inner s = Steady-then (header_at tag) (λ n. inner) (header_steady tag) (λ n. s)

-- ---- optional fields, where more bytes may turn absence into presence if none are left

pub record Optional {A : Type 0} (read : List ℕ → Read A) : Type 0 where
  pub at_end : (fault : Fault) → read [] ≡ Err fault → ⊥
  pub ends : (x : A) (r : List ℕ) → read [] ≡ Ok (x, r) → r ≡ []
  pub goes : (b : List ℕ) (x : A) (r more : List ℕ) → (r ≡ [] → ⊥) → read b ≡ Ok (x, r) → read (b ++ more) ≡ Ok (x, r ++ more)
  pub stays : (b more : List ℕ) → read b ≡ Err Invalid → read (b ++ more) ≡ Err Invalid
  pub completes : (b : List ℕ) → (count : ℕ) × (read (b ++ zeros count) ≡ Err Ended → ⊥)

abbrev one_of : {A : Type 0} → A → Option A
one_of x = Some x

-- after the tag of a field
abbrev behind_tag : {A : Type 0} → (List ℕ → Read A) → List ℕ → Read (Option A)
behind_tag inner bytes = length_at bytes >>= λ n. (inner n.1 >>= changed one_of)

behind_tag_steady : {A : Type 0} (inner : List ℕ → Read A) → Steady inner → Steady (behind_tag inner)
behind_tag_steady inner s = Steady-then length_at (λ n bytes. inner bytes >>= changed one_of) length_steady (λ n. Steady-map one_of inner s)

after_length : {A : Type 0} (inner : List ℕ → Read A) (r : Read ℕ) →
    ((r >>= changed one_of) >>= λ n. present_at inner n.0 n.1) ≡ (r >>= λ n. (inner n.1 >>= changed one_of))
after_length inner (Ok n) = refl
after_length inner (Err fault) = refl

field_present : {A : Type 0} (tag : ℕ) (inner : List ℕ → Read A) (byte : ℕ) (rest : List ℕ) → eqb byte tag ≡ true →
    field_at tag inner (byte ∷ rest) ≡ behind_tag inner rest
unfolding field_at tag_or_absent_at
field_present tag inner byte rest e = rw e (after_length inner (length_at rest))

field_absent : {A : Type 0} (tag : ℕ) (inner : List ℕ → Read A) (byte : ℕ) (rest : List ℕ) → eqb byte tag ≡ false →
    field_at tag inner (byte ∷ rest) ≡ Ok (None, byte ∷ rest)
unfolding field_at tag_or_absent_at
field_absent tag inner byte rest e = rw e refl

field_nothing : {A : Type 0} (tag : ℕ) (inner : List ℕ → Read A) → field_at tag inner [] ≡ Ok (None, [])
unfolding field_at tag_or_absent_at
field_nothing tag inner = refl

no_fault : {A : Type 0} (r : Read A) (x : A × List ℕ) (fault : Fault) → r ≡ Ok x → r ≡ Err fault → ⊥
no_fault r x fault e f = cc

field_goes : {A : Type 0} (tag : ℕ) (inner : List ℕ → Read A) → Steady inner → (b : List ℕ) (x : Option A) (r more : List ℕ) → (r ≡ [] → ⊥)
    → field_at tag inner b ≡ Ok (x, r) → field_at tag inner (b ++ more) ≡ Ok (x, r ++ more)
field_goes tag inner s [] x r more some e = absurd (some (sym (both_are None x [] r (sym (field_nothing tag inner) ∙ e)).1))
field_goes {A} tag inner s (byte ∷ rest) x r more some e =
    elim (cases_Bool (eqb byte tag)) [
      | inl is ↦ field_present tag inner byte (rest ++ more) is ∙ (behind_tag_steady inner s).goes rest x r more
          (sym (field_present tag inner byte rest is) ∙ e)
      | inr other ↦
          let same = both_are None x (byte ∷ rest) r (sym (field_absent tag inner byte rest other) ∙ e) in
          field_absent tag inner byte (rest ++ more) other ∙ ap (λ (o : Option A). read_of o (byte ∷ (rest ++ more))) same.0
          ∙ ap (λ (l : List ℕ). read_of x (l ++ more)) same.1
    ]

field_stays : {A : Type 0} (tag : ℕ) (inner : List ℕ → Read A) → Steady inner → (b more : List ℕ) →
    field_at tag inner b ≡ Err Invalid → field_at tag inner (b ++ more) ≡ Err Invalid
field_stays tag inner s [] more e = absurd (no_fault (field_at tag inner []) _ Invalid (field_nothing tag inner) e)
field_stays tag inner s (byte ∷ rest) more e =
    elim (cases_Bool (eqb byte tag)) [
      | inl is ↦ field_present tag inner byte (rest ++ more) is ∙ (behind_tag_steady inner s).stays rest more
          (sym (field_present tag inner byte rest is) ∙ e)
      | inr other ↦ absurd (no_fault (field_at tag inner (byte ∷ rest)) _ Invalid (field_absent tag inner byte rest other) e)
    ]

field_completes : {A : Type 0} (tag : ℕ) (inner : List ℕ → Read A) → Steady inner → (b : List ℕ) →
    (count : ℕ) × (field_at tag inner (b ++ zeros count) ≡ Err Ended → ⊥)
field_completes tag inner s [] = (0, no_fault (field_at tag inner []) _ Ended (field_nothing tag inner))
field_completes tag inner s (byte ∷ rest) =
    elim (cases_Bool (eqb byte tag)) [
      | inl is ↦ (let t = (behind_tag_steady inner s).completes rest in
          (t.0, λ f. t.1 (sym (field_present tag inner byte (rest ++ zeros t.0) is) ∙ f)))
      | inr other ↦ (0, no_fault (field_at tag inner ((byte ∷ rest) ++ [])) _ Ended (field_absent tag inner byte (rest ++ []) other))
    ]

pub field_optional : {A : Type 0} (tag : ℕ) (inner : List ℕ → Read A) → Steady inner → Optional (field_at tag inner)
field_optional tag inner s = record {
  at_end = λ fault. no_fault (field_at tag inner []) _ fault (field_nothing tag inner);
  ends = λ x r e. sym (both_are None x [] r (sym (field_nothing tag inner) ∙ e)).1;
  goes = field_goes tag inner s;
  stays = field_stays tag inner s;
  completes = field_completes tag inner s;
}

pub nothing_optional : {A : Type 0} → Optional {A = Option A} (λ bytes. Ok (None, bytes))
nothing_optional {A} =
    let s = Steady-done (let none : Option A = None in none) in
    record {
      at_end = λ fault e. absurd cc;
      ends = λ x r e. sym (both_are None x [] r e).1;
      goes = λ b x r more some. s.goes b x r more;
      stays = s.stays;
      completes = s.completes;
    }

-- ---- what may follow optional fields: readers that read the end of the bytes

pub record Settled {A : Type 0} (read : List ℕ → Read A) : Type 0 where
  pub at_end : (fault : Fault) → read [] ≡ Err fault → ⊥
  pub stays : (b more : List ℕ) → read b ≡ Err Invalid → read (b ++ more) ≡ Err Invalid
  pub completes : (b : List ℕ) → (count : ℕ) × (read (b ++ zeros count) ≡ Err Ended → ⊥)

map_fault : {A B : Type 0} (f : A → B) (r : Read A) (fault : Fault) → (r >>= changed f) ≡ Err fault → r ≡ Err fault
map_fault f (Ok x) fault e = absurd cc
map_fault f (Err other) fault e = (let same : other ≡ fault = cc in ap (λ (z : Fault). failed z) same)
  where
    failed : {A : Type 0} → Fault → Read A
    failed z = Err z

map_failed : {A B : Type 0} (f : A → B) (r : Read A) (fault : Fault) → r ≡ Err fault → (r >>= changed f) ≡ Err fault
map_failed {A} {B} f r fault e = ap (λ (z : Read A). z >>= changed f) e

pub Settled-map : {A B : Type 0} (f : A → B) (p : List ℕ → Read A) → Optional p → Settled (λ bytes. p bytes >>= changed f)
Settled-map f p o = record {
  at_end = λ fault e. o.at_end fault (map_fault f (p []) fault e);
  stays = λ b more e. map_failed f (p (b ++ more)) Invalid (o.stays b more (map_fault f (p b) Invalid e));
  completes = λ b. let t = o.completes b in (t.0, λ e. t.1 (map_fault f (p (b ++ zeros t.0)) Ended e));
}

settled_end : {A B : Type 0} (p : List ℕ → Read A) (q : A → List ℕ → Read B) → Optional p → ((x : A) → Settled (q x)) →
    (z : Read A) → p [] ≡ z
    → (fault : Fault) → (z >>= λ x. q x.0 x.1) ≡ Err fault → ⊥
settled_end p q o s (Ok x) e fault f = (s x.0).at_end fault (ap (q x.0) (sym (o.ends x.0 x.1 e)) ∙ f)
settled_end p q o s (Err other) e fault f = o.at_end other e

settled_stays : {A B : Type 0} (p : List ℕ → Read A) (q : A → List ℕ → Read B) → Optional p → ((x : A) → Settled (q x)) →
    (b more : List ℕ) (z : Read A)
    → p b ≡ z → (z >>= λ x. q x.0 x.1) ≡ Err Invalid → (p (b ++ more) >>= λ x. q x.0 x.1) ≡ Err Invalid
settled_stays p q o s b more (Ok (x, [])) e f = absurd ((s x).at_end Invalid f)
settled_stays {A} {B} p q o s b more (Ok (x, a ∷ r)) e f = ap (λ (w : Read A). w >>= λ y. q y.0 y.1)
    (o.goes b x (a ∷ r) more (λ g. cc) e) ∙ (s x).stays (a ∷ r) more f
settled_stays p q o s b more (Err Ended) e f = absurd cc
settled_stays {A} {B} p q o s b more (Err Invalid) e f = ap (λ (w : Read A). w >>= λ y. q y.0 y.1) (o.stays b more e)

settled_completes : {A B : Type 0} (p : List ℕ → Read A) (q : A → List ℕ → Read B) → Optional p → ((x : A) → Settled (q x)) →
    (b : List ℕ) (first : ℕ) (z : Read A)
    → p (b ++ zeros first) ≡ z → (z ≡ Err Ended → ⊥) → (count : ℕ) × ((p (b ++ zeros count) >>= λ x. q x.0 x.1) ≡ Err Ended → ⊥)
settled_completes {A} {B} p q o s b first (Ok (x, [])) e ne =
    let whole : (p (b ++ zeros first) >>= λ y. q y.0 y.1) ≡ q x [] = ap (λ (w : Read A). w >>= λ y. q y.0 y.1) e in
    (first, λ f. (s x).at_end Ended (sym whole ∙ f))
settled_completes {A} {B} p q o s b first (Ok (x, a ∷ r)) e ne =
    let t = (s x).completes (a ∷ r) in
    let whole : (p (b ++ zeros (first + t.0)) >>= λ y. q y.0 y.1) ≡ q x ((a ∷ r) ++ zeros t.0) =
    ap (λ (w : Read A). w >>= λ y. q y.0 y.1) (ap p (more_zeros b first t.0) ∙ o.goes (b ++ zeros first) x (a ∷ r) (zeros t.0)
    (λ g. cc) e) in
    (first + t.0, λ f. t.1 (sym whole ∙ f))
settled_completes p q o s b first (Err Ended) e ne = absurd (ne refl)
settled_completes {A} {B} p q o s b first (Err Invalid) e ne =
    let whole : (p (b ++ zeros first) >>= λ y. q y.0 y.1) ≡ Err Invalid = ap (λ (w : Read A). w >>= λ y. q y.0 y.1) e in
    (first, other_fault (p (b ++ zeros first) >>= λ y. q y.0 y.1) whole)

pub Settled-then : {A B : Type 0} (p : List ℕ → Read A) (q : A → List ℕ → Read B) → Optional p → ((x : A) → Settled (q x)) →
    Settled (λ bytes. p bytes >>= λ x. q x.0 x.1)
Settled-then p q o s = record {
  at_end = settled_end p q o s (p []) refl;
  stays = λ b more e. settled_stays p q o s b more (p b) refl e;
  completes = λ b. let t = o.completes b in settled_completes p q o s b t.0 (p (b ++ zeros t.0)) refl t.1;
}

-- ---- what begins with a reader that is not optional

pub record Begun {A : Type 0} (read : List ℕ → Read A) : Type 0 where
  pub stays : (b more : List ℕ) → read b ≡ Err Invalid → read (b ++ more) ≡ Err Invalid
  pub completes : (b : List ℕ) → (count : ℕ) × (read (b ++ zeros count) ≡ Err Ended → ⊥)

begun_stays : {A B : Type 0} (p : List ℕ → Read A) (q : A → List ℕ → Read B) → Steady p → ((x : A) → Settled (q x)) →
    (b more : List ℕ) (z : Read A)
    → p b ≡ z → (z >>= λ x. q x.0 x.1) ≡ Err Invalid → (p (b ++ more) >>= λ x. q x.0 x.1) ≡ Err Invalid
begun_stays {A} {B} p q o s b more (Ok x) e f = ap (λ (w : Read A). w >>= λ y. q y.0 y.1) (o.goes b x.0 x.1 more e)
    ∙ (s x.0).stays x.1 more f
begun_stays p q o s b more (Err Ended) e f = absurd cc
begun_stays {A} {B} p q o s b more (Err Invalid) e f = ap (λ (w : Read A). w >>= λ y. q y.0 y.1) (o.stays b more e)

begun_completes : {A B : Type 0} (p : List ℕ → Read A) (q : A → List ℕ → Read B) → Steady p → ((x : A) → Settled (q x)) →
    (b : List ℕ) (first : ℕ) (z : Read A)
    → p (b ++ zeros first) ≡ z → (z ≡ Err Ended → ⊥) → (count : ℕ) × ((p (b ++ zeros count) >>= λ x. q x.0 x.1) ≡ Err Ended → ⊥)
begun_completes {A} {B} p q o s b first (Ok x) e ne =
    let t = (s x.0).completes x.1 in
    let whole : (p (b ++ zeros (first + t.0)) >>= λ y. q y.0 y.1) ≡ q x.0 (x.1 ++ zeros t.0) =
    ap (λ (w : Read A). w >>= λ y. q y.0 y.1) (ap p (more_zeros b first t.0) ∙ o.goes (b ++ zeros first) x.0 x.1 (zeros t.0) e) in
    (first + t.0, λ f. t.1 (sym whole ∙ f))
begun_completes p q o s b first (Err Ended) e ne = absurd (ne refl)
begun_completes {A} {B} p q o s b first (Err Invalid) e ne =
    let whole : (p (b ++ zeros first) >>= λ y. q y.0 y.1) ≡ Err Invalid = ap (λ (w : Read A). w >>= λ y. q y.0 y.1) e in
    (first, other_fault (p (b ++ zeros first) >>= λ y. q y.0 y.1) whole)

pub Begun-then : {A B : Type 0} (p : List ℕ → Read A) (q : A → List ℕ → Read B) → Steady p → ((x : A) → Settled (q x)) →
    Begun (λ bytes. p bytes >>= λ x. q x.0 x.1)
Begun-then p q o s = record {
  stays = λ b more e. begun_stays p q o s b more (p b) refl e;
  completes = λ b. let t = o.completes b in begun_completes p q o s b t.0 (p (b ++ zeros t.0)) refl t.1;
}

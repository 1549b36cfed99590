-- A reader on lists agrees with a form, a relation between a text, its value and what follows; and
-- so do readers that are made of such readers.
use Rattle.std.proofs.Common.{◌≡◌, ℕ, Bool, true, false, cond, List, [], ◌++◌, Result, Ok, Err, refl, sym, ap, ◌∙◌, subst, append_assoc}
use Rattle.sspi_ber.specs.Pieces.{Fault, Read, ◌>>=◌}

-- The reader takes exactly a text of the form, and reads each text of the form again. The form sees what follows the text.
pub record Matches {A : Type 0} (read : List ℕ → Read A) (F : List ℕ → A → List ℕ → Type 0) : Type 0 where
  pub takes : (bytes : List ℕ) (x : A) (rest : List ℕ) → read bytes ≡ Ok (x, rest) → (text : List ℕ) × F text x rest
      × (bytes ≡ text ++ rest)
  pub again : (text : List ℕ) (x : A) (rest : List ℕ) → F text x rest → read (text ++ rest) ≡ Ok (x, rest)

-- the value of a step that did not fail
pub bind_ok : {A B : Type 0} (r : Result A Fault) (next : A → Result B Fault) (y : B) → (r >>= next) ≡ Ok y → (x : A) × (r ≡ Ok x)
    × (next x ≡ Ok y)
bind_ok (Ok x) next y e = (x, refl, e)
bind_ok (Err fault) next y e = absurd cc

abbrev done : {A : Type 0} → A → Result A Fault
done x = Ok x

ok_is : {A : Type 0} (x y : A) → done x ≡ done y → x ≡ y
ok_is x y e = cc

-- a value and what follows it, as a reader returns them
abbrev pub read_of : {A : Type 0} → A → List ℕ → Read A
read_of x rest = Ok (x, rest)

-- both parts of what was read
pub both_are : {A : Type 0} (x y : A) (r s : List ℕ) → read_of x r ≡ read_of y s → (x ≡ y) × (r ≡ s)
both_are {A} x y r s e =
    let first : A × List ℕ = (x, r) in
    let second : A × List ℕ = (y, s) in
    let p = ok_is first second e in
    (ap (λ (z : A × List ℕ). z.0) p, ap (λ (z : A × List ℕ). z.1) p)

-- ---- one reader after another

pub record Then {A B : Type 0} (F : List ℕ → A → List ℕ → Type 0) (G : A → List ℕ → B → List ℕ → Type 0) (text : List ℕ) (y : B)
    (rest : List ℕ) : Type 0 where
  pub x : A
  pub first : List ℕ
  pub second : List ℕ
  pub parts : text ≡ first ++ second
  pub first_is : F first x (second ++ rest)
  pub second_is : G x second y rest

then_takes : {A B : Type 0} (p : List ℕ → Read A) (q : A → List ℕ → Read B) (F : List ℕ → A → List ℕ → Type 0)
    (G : A → List ℕ → B → List ℕ → Type 0)
    → Matches p F → ((x : A) → Matches (q x) (G x)) → (bytes : List ℕ) (y : B) (rest : List ℕ) → (p bytes >>= λ x. q x.0 x.1) ≡ Ok (y, rest)
    → (text : List ℕ) × Then F G text y rest × (bytes ≡ text ++ rest)
then_takes p q F G mp mq bytes y rest e =
    let b = bind_ok (p bytes) (λ x. q x.0 x.1) (y, rest) e in
    let t = mp.takes bytes b.0.0 b.0.1 b.1 in
    let u = (mq b.0.0).takes b.0.1 y rest b.2 in (
      t.0 ++ u.0,
      record {
        x = b.0.0;
        first = t.0;
        second = u.0;
        parts = refl;
        first_is = subst (λ (r : List ℕ). F t.0 b.0.0 r) u.2 t.1;
        second_is = u.1;
      },
      t.2 ∙ ap (λ (l : List ℕ). t.0 ++ l) u.2 ∙ sym (append_assoc t.0 u.0 rest),
    )

then_again : {A B : Type 0} (p : List ℕ → Read A) (q : A → List ℕ → Read B) (F : List ℕ → A → List ℕ → Type 0)
    (G : A → List ℕ → B → List ℕ → Type 0)
    → Matches p F → ((x : A) → Matches (q x) (G x)) → (text : List ℕ) (y : B) (rest : List ℕ) → Then F G text y rest →
    (p (text ++ rest) >>= λ x. q x.0 x.1) ≡ Ok (y, rest)
then_again {A} {B} p q F G mp mq text y rest t =
    let first : p (text ++ rest) ≡ Ok (t.x, t.second ++ rest) =
    ap p (ap (λ (l : List ℕ). l ++ rest) t.parts ∙ append_assoc t.first t.second rest)
    ∙ mp.again t.first t.x (t.second ++ rest) t.first_is in
    ap (λ (r : Read A). r >>= λ x. q x.0 x.1) first ∙ (mq t.x).again t.second y rest t.second_is

pub Matches-then : {A B : Type 0} (p : List ℕ → Read A) (q : A → List ℕ → Read B) (F : List ℕ → A → List ℕ → Type 0)
    (G : A → List ℕ → B → List ℕ → Type 0)
    → Matches p F → ((x : A) → Matches (q x) (G x)) → Matches (λ bytes. p bytes >>= λ x. q x.0 x.1) (Then F G)
Matches-then p q F G mp mq = record { takes = then_takes p q F G mp mq; again = then_again p q F G mp mq }

-- ---- a reader whose value is changed

-- the same with its value changed
abbrev pub changed : {A B : Type 0} → (A → B) → A × List ℕ → Read B
changed f x = Ok (f x.0, x.1)

abbrev pub Mapped : {A B : Type 0} → (A → B) → (List ℕ → A → List ℕ → Type 0) → List ℕ → B → List ℕ → Type 0
Mapped {A} f F text y rest = (x : A) × F text x rest × (y ≡ f x)

mapped_takes : {A B : Type 0} (f : A → B) (p : List ℕ → Read A) (F : List ℕ → A → List ℕ → Type 0) → Matches p F
    → (bytes : List ℕ) (y : B) (rest : List ℕ) → (p bytes >>= changed f) ≡ Ok (y, rest) → (text : List ℕ) × Mapped f F text y rest
    × (bytes ≡ text ++ rest)
mapped_takes f p F m bytes y rest e =
    let b = bind_ok (p bytes) (changed f) (y, rest) e in
    let same = both_are (f b.0.0) y b.0.1 rest b.2 in
    let t = m.takes bytes b.0.0 b.0.1 b.1 in
    (t.0, (b.0.0, subst (λ (r : List ℕ). F t.0 b.0.0 r) same.1 t.1, sym same.0), t.2 ∙ ap (λ (l : List ℕ). t.0 ++ l) same.1)

mapped_again : {A B : Type 0} (f : A → B) (p : List ℕ → Read A) (F : List ℕ → A → List ℕ → Type 0) → Matches p F
    → (text : List ℕ) (y : B) (rest : List ℕ) → Mapped f F text y rest → (p (text ++ rest) >>= changed f) ≡ Ok (y, rest)
mapped_again {A} {B} f p F m text y rest t =
    ap (λ (r : Read A). r >>= changed f) (m.again text t.0 rest t.1) ∙ ap (λ (z : B). read_of z rest) (sym t.2)

pub Matches-map : {A B : Type 0} (f : A → B) (p : List ℕ → Read A) (F : List ℕ → A → List ℕ → Type 0) → Matches p F →
    Matches (λ bytes. p bytes >>= changed f) (Mapped f F)
Matches-map f p F m = record { takes = mapped_takes f p F m; again = mapped_again f p F m }

-- ---- a reader after a test

if_takes : {A : Type 0} (b : Bool) (fault : Fault) (p : List ℕ → Read A) (F : List ℕ → A → List ℕ → Type 0) → Matches p F
    → (bytes : List ℕ) (x : A) (rest : List ℕ) → cond b (p bytes) (Err fault) ≡ Ok (x, rest) →
    (text : List ℕ) × ((b ≡ true) × F text x rest) × (bytes ≡ text ++ rest)
if_takes true fault p F m bytes x rest e = let t = m.takes bytes x rest e in (t.0, (refl, t.1), t.2)
if_takes false fault p F m bytes x rest e = absurd cc

if_again : {A : Type 0} (b : Bool) (fault : Fault) (p : List ℕ → Read A) (F : List ℕ → A → List ℕ → Type 0) → Matches p F
    → (text : List ℕ) (x : A) (rest : List ℕ) → (b ≡ true) × F text x rest → cond b (p (text ++ rest)) (Err fault) ≡ Ok (x, rest)
if_again true fault p F m text x rest t = m.again text x rest t.1
if_again false fault p F m text x rest t = absurd (let e = t.0 in cc)

pub Matches-if : {A : Type 0} (b : Bool) (fault : Fault) (p : List ℕ → Read A) (F : List ℕ → A → List ℕ → Type 0) → Matches p F
    → Matches (λ bytes. cond b (p bytes) (Err fault)) (λ text x rest. (b ≡ true) × F text x rest)
Matches-if b fault p F m = record { takes = if_takes b fault p F m; again = if_again b fault p F m }

-- ---- nothing is read

pub Matches-nothing : {A : Type 0} (x : A) → Matches (λ bytes. Ok (x, bytes)) (λ text y rest. (text ≡ []) × (y ≡ x))
Matches-nothing {A} x = record {
  takes = λ bytes y rest e. let same = both_are x y bytes rest e in ([], (refl, sym same.0), same.1);
  again = λ text y rest t. ap (λ (l : List ℕ). read_of x (l ++ rest)) t.0 ∙ ap (λ (z : A). read_of z rest) (sym t.1);
}

-- ---- the same form in other words

pub Matches-same : {A : Type 0} (p : List ℕ → Read A) (F G : List ℕ → A → List ℕ → Type 0)
    → ((text : List ℕ) (x : A) (rest : List ℕ) → F text x rest → G text x rest) →
    ((text : List ℕ) (x : A) (rest : List ℕ) → G text x rest → F text x rest)
    → Matches p F → Matches p G
Matches-same p F G to from m = record {
  takes = λ bytes x rest e. let t = m.takes bytes x rest e in (t.0, to t.0 x rest t.1, t.2);
  again = λ text x rest g. m.again text x rest (from text x rest g);
}

-- Each reader of a nested form agrees with that form.
use Rattle.std.proofs.Common.{◌≡◌, ℕ, ◌≤◌, true, false, cond, List, [], ◌∷◌, ◌++◌, length, Option, None}
use Rattle.std.proofs.Common.{Some, Ok, refl, sym, ap, ◌∙◌, subst, append_assoc, arith, inl, inr}
use Prim.Native.Nat.{zero, suc}
use Rattle.std.proofs.lemmas.Bool.{eqb-false, eq-eqb, ne_eqb}
use Rattle.std.proofs.lemmas.List.{length-append}
use Rattle.sspi_ber.specs.Pieces.{Read, ◌>>=◌, element_at}
use Rattle.sspi_ber.specs.Forms.{IsElement, IsNotNext}
use Rattle.sspi_ber.proofs.Match.{Matches, bind_ok, both_are, read_of}
use Rattle.sspi_ber.proofs.PiecesMatch.{chosen, element_match}
use Rattle.sspi_tokens.specs.Nested.{IsAround, IsWhole, IsOptional}
use Rattle.sspi_tokens.specs.Grammar.{IsOids}
use Rattle.sspi_tokens.specs.Reading.{is_next, around_at, optional_at, oids_up_to, oids_at}

-- ---- inside an element

around_takes : {A : Type 0} (tag : ℕ) (inner : List ℕ → Read A) (Form : List ℕ → A → List ℕ → Type 0) → Matches inner Form
    → (bytes : List ℕ) (x : A) (rest : List ℕ) → around_at tag inner bytes ≡ Ok (x, rest) →
    (text : List ℕ) × IsAround tag Form text x rest × (bytes ≡ text ++ rest)
unfolding around_at
around_takes tag inner Form m bytes x rest e =
    let outer = bind_ok (element_at tag bytes) (λ content. inner content.0 >>= λ y. Ok (y.0, content.1)) (x, rest) e in
    let within = bind_ok (inner outer.0.0) (λ y. Ok (y.0, outer.0.1)) (x, rest) outer.2 in
    let same = both_are within.0.0 x outer.0.1 rest within.2 in
    let t = (element_match tag).takes bytes outer.0.0 outer.0.1 outer.1 in
    let u = m.takes outer.0.0 within.0.0 within.0.1 within.1 in (
      t.0,
      record {
        content = outer.0.0;
        element = t.1;
        inside = record {
          text = u.0;
          rest = within.0.1;
          parts = u.2;
          form = subst (λ y. Form u.0 y within.0.1) same.0 u.1;
        };
      },
      t.2 ∙ ap (λ (l : List ℕ). t.0 ++ l) same.1,
    )

around_again : {A : Type 0} (tag : ℕ) (inner : List ℕ → Read A) (Form : List ℕ → A → List ℕ → Type 0) → Matches inner Form
    → (text : List ℕ) (x : A) (rest : List ℕ) → IsAround tag Form text x rest → around_at tag inner (text ++ rest) ≡ Ok (x, rest)
unfolding around_at
around_again {A} tag inner Form m text x rest t =
    let outer = (element_match tag).again text t.content rest t.element in
    let within : inner t.content ≡ Ok (x, t.inside.rest) = ap inner t.inside.parts ∙ m.again t.inside.text x t.inside.rest t.inside.form in
    ap (λ (r : Read (List ℕ)). r >>= λ content. inner content.0 >>= λ y. Ok (y.0, content.1)) outer
    ∙ ap (λ (r : Read A). r >>= λ y. Ok (y.0, rest)) within

pub around_match : {A : Type 0} (tag : ℕ) (inner : List ℕ → Read A) (Form : List ℕ → A → List ℕ → Type 0) → Matches inner Form →
    Matches (around_at tag inner) (IsAround tag Form)
around_match tag inner Form m = record { takes = around_takes tag inner Form m; again = around_again tag inner Form m }

-- ---- a tag that comes next, or does not

next_is : (tag : ℕ) (more : List ℕ) → is_next tag (tag ∷ more) ≡ true
next_is tag more = eq-eqb tag tag refl

next_is_not : (tag : ℕ) (bytes : List ℕ) → IsNotNext tag bytes → is_next tag bytes ≡ false
next_is_not tag [] other = refl
next_is_not tag (byte ∷ rest) other = ne_eqb byte tag other

not_next : (tag : ℕ) (bytes : List ℕ) → is_next tag bytes ≡ false → IsNotNext tag bytes
not_next tag [] e = tt
not_next tag (byte ∷ rest) e = eqb-false byte tag e

-- texts of this form begin with this tag
abbrev pub BeginsWith : {A : Type 0} → ℕ → (List ℕ → A → List ℕ → Type 0) → Type 0
BeginsWith {A} tag Form = (text : List ℕ) (x : A) (rest : List ℕ) → Form text x rest → (more : List ℕ) × (text ≡ tag ∷ more)

pub element_begins : (tag : ℕ) → BeginsWith tag (IsWhole tag)
element_begins tag text content rest t = (t.len ++ content, t.spelled)

pub around_begins : {A : Type 0} (tag : ℕ) (Form : List ℕ → A → List ℕ → Type 0) → BeginsWith tag (IsAround tag Form)
around_begins tag Form text x rest t = element_begins tag text t.content rest t.element

optional_takes : {A : Type 0} (tag : ℕ) (element : List ℕ → Read A) (Form : List ℕ → A → List ℕ → Type 0) → Matches element Form
    → (bytes : List ℕ) (o : Option A) (rest : List ℕ) → optional_at tag element bytes ≡ Ok (o, rest) →
    (text : List ℕ) × IsOptional tag Form text o rest × (bytes ≡ text ++ rest)
unfolding optional_at
optional_takes {A} tag element Form m bytes o rest e =
    elim (chosen (is_next tag bytes) (element bytes >>= λ x. Ok (Some x.0, x.1)) (Ok (None, bytes)) (Ok (o, rest)) e) [
      | inl (b, f) ↦
          let there = bind_ok (element bytes) (λ x. Ok (Some x.0, x.1)) (o, rest) f in
          let same = both_are (Some there.0.0) o there.0.1 rest there.2 in
          let t = m.takes bytes there.0.0 there.0.1 there.1 in (
            t.0,
            subst (λ (p : Option A). IsOptional tag Form t.0 p rest) same.0
                (subst (λ (l : List ℕ). Form t.0 there.0.0 l) same.1 t.1),
            t.2 ∙ ap (λ (l : List ℕ). t.0 ++ l) same.1,
          )
      | inr (b, f) ↦
          let same = both_are None o bytes rest f in (
            [],
            subst (λ (p : Option A). IsOptional tag Form [] p rest) same.0
                (refl, subst (IsNotNext tag) same.1 (not_next tag bytes b)),
            same.1,
          )
    ]

optional_again : {A : Type 0} (tag : ℕ) (element : List ℕ → Read A) (Form : List ℕ → A → List ℕ → Type 0) → BeginsWith tag Form →
    Matches element Form
    → (text : List ℕ) (o : Option A) (rest : List ℕ) → IsOptional tag Form text o rest →
    optional_at tag element (text ++ rest) ≡ Ok (o, rest)
unfolding optional_at
optional_again {A} tag element Form begins m text None rest t =
    ap (λ (l : List ℕ). optional_at tag element (l ++ rest)) t.0
    ∙ ap (λ b. cond b (element rest >>= λ x. Ok (Some x.0, x.1)) (Ok (None, rest))) (next_is_not tag rest t.1)
optional_again {A} tag element Form begins m text (Some x) rest t =
    let first = begins text x rest t in
    let next : is_next tag (text ++ rest) ≡ true = ap (λ (l : List ℕ). is_next tag (l ++ rest)) first.1 ∙ next_is tag (first.0 ++ rest) in
    ap (λ b. cond b (element (text ++ rest) >>= λ x. Ok (Some x.0, x.1)) (Ok (None, text ++ rest))) next
    ∙ ap (λ (r : Read A). r >>= λ x. Ok (Some x.0, x.1)) (m.again text x rest t)

pub optional_match : {A : Type 0} (tag : ℕ) (element : List ℕ → Read A) (Form : List ℕ → A → List ℕ → Type 0) →
    BeginsWith tag Form → Matches element Form → Matches (optional_at tag element) (IsOptional tag Form)
optional_match tag element Form begins m = record {
  takes = optional_takes tag element Form m;
  again = optional_again tag element Form begins m;
}

-- ---- object identifiers one after the other

two_parts : (bytes first more after left rest : List ℕ) → bytes ≡ first ++ after → after ≡ more ++ left → left ≡ rest →
    bytes ≡ (first ++ more) ++ rest
two_parts bytes first more after left rest e f g = e ∙ ap (λ (l : List ℕ). first ++ l) (f ∙ ap (λ (l : List ℕ). more ++ l) g)
    ∙ sym (append_assoc first more rest)

more_oids : (first more oid : List ℕ) (oids : List (List ℕ)) (following : List ℕ) → IsElement 0x06 first oid →
    IsOids more oids following → IsOids (first ++ more) (oid ∷ oids) following
more_oids first more oid oids following element others = (first, more, refl, element, others)

oids_takes : (most : ℕ) (bytes : List ℕ) (oids : List (List ℕ)) (rest : List ℕ) → length bytes ≤ most →
    oids_up_to most bytes ≡ Ok (oids, rest)
    → (text : List ℕ) × IsOids text oids rest × (bytes ≡ text ++ rest)
oids_takes zero [] oids rest le e =
    let same = both_are [] oids [] rest e in
    ([], subst (λ (o : List (List ℕ)). IsOids [] o rest) same.0 (refl, subst (IsNotNext 0x06) same.1 tt), same.1)
oids_takes zero (byte ∷ bytes) oids rest le e = absurd (omega arith)
oids_takes (suc most) bytes oids rest le e =
    elim (chosen (is_next 0x06 bytes) (element_at 0x06 bytes >>= λ oid. oids_up_to most oid.1
    >>= λ more. Ok (oid.0 ∷ more.0, more.1)) (Ok ([], bytes)) (Ok (oids, rest)) e) [
      | inl (b, f) ↦
          let first = bind_ok (element_at 0x06 bytes) (λ oid. oids_up_to most oid.1 >>= λ more. Ok (oid.0 ∷ more.0, more.1))
          (oids, rest) f in
          let others = bind_ok (oids_up_to most first.0.1) (λ more. Ok (first.0.0 ∷ more.0, more.1)) (oids, rest) first.2 in
          let same = both_are (first.0.0 ∷ others.0.0) oids others.0.1 rest others.2 in
          let t = (element_match 0x06).takes bytes first.0.0 first.0.1 first.1 in
          let shorter : length first.0.1 ≤ most = omega (arith, ap length t.2 ∙ length-append t.0 first.0.1, ap length t.1.spelled) in
          let u = oids_takes most first.0.1 others.0.0 others.0.1 shorter others.1 in (
            t.0 ++ u.0,
            subst (λ (o : List (List ℕ)). IsOids (t.0 ++ u.0) o rest) same.0
                (more_oids t.0 u.0 first.0.0 others.0.0 rest t.1 (subst (λ (l : List ℕ). IsOids u.0 others.0.0 l) same.1 u.1)),
            t.2 ∙ ap (λ (l : List ℕ). t.0 ++ l) (u.2 ∙ ap (λ (l : List ℕ). u.0 ++ l) same.1) ∙ sym (append_assoc t.0 u.0 rest),
          )
      | inr (b, f) ↦
          let same = both_are [] oids bytes rest f in
          ([], subst (λ (o : List (List ℕ)). IsOids [] o rest) same.0 (refl, subst (IsNotNext 0x06) same.1 (not_next 0x06 bytes b)), same.1)
    ]

oids_again : (most : ℕ) (text : List ℕ) (oids : List (List ℕ)) (rest : List ℕ) → IsOids text oids rest →
    length (text ++ rest) ≤ most → oids_up_to most (text ++ rest) ≡ Ok (oids, rest)
oids_again zero text [] rest t le =
    ap (λ (l : List ℕ). read_of [] l) (ap (λ (l : List ℕ). l ++ rest) t.0)
oids_again zero text (oid ∷ oids) rest t le =
    absurd (omega (arith, ap length t.2, length-append text rest, length-append t.0 t.1, ap length t.3.spelled))
oids_again (suc most) text [] rest t le =
    ap (λ (l : List ℕ). oids_up_to (suc most) (l ++ rest)) t.0
    ∙ ap (λ b. cond b (element_at 0x06 rest >>= λ oid. oids_up_to most oid.1 >>= λ more. Ok (oid.0 ∷ more.0, more.1))
    (Ok ([], rest))) (next_is_not 0x06 rest t.1)
oids_again (suc most) text (oid ∷ oids) rest t le =
    let first = t.0 in
    let others = t.1 in
    let whole : text ++ rest ≡ first ++ (others ++ rest) = ap (λ (l : List ℕ). l ++ rest) t.2 ∙ append_assoc first others rest in
    let begins = element_begins 0x06 first oid (others ++ rest) t.3 in
    let next : is_next 0x06 (text ++ rest) ≡ true = ap (is_next 0x06)
    (whole ∙ ap (λ (l : List ℕ). l ++ (others ++ rest)) begins.1) ∙ next_is 0x06 (begins.0 ++ (others ++ rest)) in
    let shorter : length (others ++ rest) ≤ most = omega (
      arith,
      ap length whole ∙ length-append first (others ++ rest),
      ap length begins.1,
    ) in
    ap (λ b. cond b (element_at 0x06 (text ++ rest) >>= λ oid. oids_up_to most oid.1 >>= λ more. Ok (oid.0 ∷ more.0, more.1))
    (Ok ([], text ++ rest))) next
    ∙ ap (λ (r : Read (List ℕ)). r >>= λ oid. oids_up_to most oid.1 >>= λ more. Ok (oid.0 ∷ more.0, more.1))
    (ap (element_at 0x06) whole ∙ (element_match 0x06).again first oid (others ++ rest) t.3)
    ∙ ap (λ (r : Read (List (List ℕ))). r >>= λ more. Ok (oid ∷ more.0, more.1)) (oids_again most others oids rest t.4 shorter)

pub oids_match : Matches oids_at IsOids
unfolding oids_at
oids_match = record {
  takes = λ bytes oids rest e. oids_takes (length bytes) bytes oids rest (omega arith) e;
  again = λ text oids rest t. oids_again (length (text ++ rest)) text oids rest t (omega arith);
}

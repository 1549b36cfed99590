-- The meaning of a value that is one of two, each with a meaning of its own.
use Rattle.std.specs.Prelude.{◌⊎◌, List}
use mathlib.Core.Logic.{inl, inr}
use Rattle.sspi_names.specs.declared.credentials.Credentials.{Credentials}
use Rattle.sspi_mech.specs.Calls.{Call, ToIdentify}
use Rattle.sspi_mech.specs.Meaning.{Meaning}

-- by the one selected
abbrev pub in_hand {ℓ} : {A B : Type 0} {T : Type ℓ} → (A → T) → (B → T) → A ⊎ B → T
in_hand f g (inl a) = f a
in_hand f g (inr b) = g b

-- both are of the first kind and P, or both of the second and Q
abbrev pub Both : {S T A B : Type 0} → (S → A → Type 0) → (T → B → Type 0) → S ⊎ T → A ⊎ B → Type 0
Both P Q (inl s) (inl a) = P s a
Both P Q (inl s) (inr b) = ⊥
Both P Q (inr t) (inl a) = ⊥
Both P Q (inr t) (inr b) = Q t b

-- The meaning of the selected one. No call puts the other in its place.
module _ {S T A B : Type 0} (n : Meaning S A) (k : Meaning T B) where
  abbrev pub sum : Meaning (S ⊎ T) (A ⊎ B)
  sum = record {
    made = Both n.made k.made;
    unmade = in_hand n.unmade k.unmade;
    acquires = λ m use_ asked buffers m2. Both (λ x x2. n.acquires x use_ asked buffers x2)
        (λ y y2. k.acquires y use_ asked buffers y2) m m2;
    steps = λ m args answer m2. Both (λ x x2. n.steps x args answer x2)
        (λ y y2. k.steps y args answer y2) m m2;
    resumes = λ m reply answer m2. Both (λ x x2. n.resumes x reply answer x2)
        (λ y y2. k.resumes y reply answer y2) m m2;
    accepts = λ m args answer m2. Both (λ x x2. n.accepts x args answer x2)
        (λ y y2. k.accepts y args answer y2) m m2;
    identifies = λ m identities m2. Both (λ x x2. n.identifies x identities x2)
        (λ y y2. k.identifies y identities y2) m m2;
    names = in_hand n.names k.names;
    keyed = in_hand n.keyed k.keyed;
    session_key = in_hand n.session_key k.session_key;
    waits = in_hand n.waits k.waits;
    left = in_hand n.left k.left;
    pairs = in_hand n.pairs k.pairs;
    counts = in_hand n.counts k.counts;
    counted = λ m counts. in_hand (λ x. inl (n.counted x counts)) (λ y. inr (k.counted y counts)) m;
    seals = in_hand n.seals k.seals;
    opens = in_hand n.opens k.opens;
    signs = in_hand n.signs k.signs;
    verifies = in_hand n.verifies k.verifies;
    permits = in_hand n.permits k.permits;
    refuses = in_hand n.refuses k.refuses;
    entry = in_hand n.entry k.entry;
    sizes = in_hand n.sizes k.sizes;
  }

-- the call that passes on some of the identities that it is given
abbrev pub taken : (List Credentials → List Credentials) → Call → Call
taken some (ToIdentify identities) = ToIdentify (some identities)
taken some call = call

-- the same, but only some of the identities passed in reach it
abbrev pub taking : {S C : Type 0} → (List Credentials → List Credentials) → Meaning S C →
    Meaning S C
taking some c = record c {
  identifies = λ m identities m2. c.identifies m (some identities) m2;
  permits = λ m call. c.permits m (taken some call);
  refuses = λ m call kind. c.refuses m (taken some call) kind;
}

-- the same under other types: it is made from an R, whose S is what `parts` gives, and its state is
-- a C, whose D is what `view` gives
abbrev pub seen : {R S C D : Type 0} → (R → S) → (C → D) → (D → C) → Meaning S D → Meaning R C
seen parts view back c = record {
  made = λ s m. c.made (parts s) (view m);
  unmade = λ s kind. c.unmade (parts s) kind;
  acquires = λ m use_ asked buffers m2. c.acquires (view m) use_ asked buffers (view m2);
  steps = λ m args answer m2. c.steps (view m) args answer (view m2);
  resumes = λ m reply answer m2. c.resumes (view m) reply answer (view m2);
  accepts = λ m args answer m2. c.accepts (view m) args answer (view m2);
  identifies = λ m identities m2. c.identifies (view m) identities (view m2);
  names = λ m. c.names (view m);
  keyed = λ m. c.keyed (view m);
  session_key = λ m. c.session_key (view m);
  waits = λ m. c.waits (view m);
  left = λ m. c.left (view m);
  pairs = λ m. c.pairs (view m);
  counts = λ m. c.counts (view m);
  counted = λ m counts. back (c.counted (view m) counts);
  seals = λ m i text blob. c.seals (view m) i text blob;
  opens = λ m i blob text. c.opens (view m) i blob text;
  signs = λ m i text mic. c.signs (view m) i text mic;
  verifies = λ m i mic text. c.verifies (view m) i mic text;
  permits = λ m call. c.permits (view m) call;
  refuses = λ m call kind. c.refuses (view m) call kind;
  entry = λ m. c.entry (view m);
  sizes = λ m. c.sizes (view m);
}

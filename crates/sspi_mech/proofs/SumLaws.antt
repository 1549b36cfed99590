-- Laws of two meanings hold for their sum; laws of one hold for `taking` and `seen` of it.
use Rattle.std.proofs.Common.{◌≡◌, ◌⊎◌, ℕ, ◌<◌, ◌≤◌, List, length, true, false, ap, ◌∙◌, inl, inr}
use Rattle.sspi_names.specs.declared.credentials.Credentials.{Credentials}
use Rattle.sspi_mech.specs.declared.step.Answer.TheVariants.{Done, Ask}
use Rattle.sspi_mech.specs.Calls.{Counts, no_counts}
use Rattle.sspi_mech.specs.Context.{IsContext, NeitherSealsNorOpens}
use Rattle.sspi_mech.specs.Meaning.{Meaning}
use Rattle.sspi_mech.specs.Sum.{Both, sum, taking, seen}

-- a relation of both kinds, by its two cases
pub by_both : {S T A B : Type 0} (P : S → A → Type 0) (Q : T → B → Type 0) (R : S ⊎ T → A ⊎ B → Type 0) →
    ((s : S) (a : A) → P s a → R (inl s) (inl a)) → ((t : T) (b : B) → Q t b → R (inr t) (inr b)) →
    (x : S ⊎ T) (y : A ⊎ B) → Both P Q x y → R x y
by_both P Q R first second (inl s) (inl a) h = first s a h
by_both P Q R first second (inl s) (inr b) h = absurd h
by_both P Q R first second (inr t) (inl a) h = absurd h
by_both P Q R first second (inr t) (inr b) h = second t b h

-- what holds of each of the two kinds
pub by_hand : {A B : Type 0} (R : A ⊎ B → Type 0) → ((a : A) → R (inl a)) → ((b : B) → R (inr b)) → (x : A ⊎ B) → R x
by_hand R first second (inl a) = first a
by_hand R first second (inr b) = second b

module _ {S T A B : Type 0} (n : Meaning S A) (k : Meaning T B) (ln : IsContext n) (lk : IsContext k) where
  abbrev c : Meaning (S ⊎ T) (A ⊎ B)
  c = sum n k

  pub sum_lawful : IsContext (sum n k)
  sum_lawful = record {
    made_fresh = by_both n.made k.made (λ s m. c.counts m ≡ no_counts) ln.made_fresh lk.made_fresh;
    acquire_silent = λ m m2 u d b acquired. by_both (λ x x2. n.acquires x u d b x2) (λ y y2. k.acquires y u d b y2)
        (λ x x2. NeitherSealsNorOpens (c.counts x) (c.counts x2))
        (λ x x2 h. ln.acquire_silent x x2 u d b h) (λ y y2 h. lk.acquire_silent y y2 u d b h) m m2 acquired;
    identify_counts = λ m m2 ids identified. by_both (λ x x2. n.identifies x ids x2) (λ y y2. k.identifies y ids y2)
        (λ x x2. c.counts x2 ≡ c.counts x)
        (λ x x2 h. ln.identify_counts x x2 ids h) (λ y y2 h. lk.identify_counts y y2 ids h) m m2 identified;
    step_silent = λ m m2 a r stepped. by_both (λ x x2. n.steps x a r x2) (λ y y2. k.steps y a r y2)
        (λ x x2. NeitherSealsNorOpens (c.counts x) (c.counts x2))
        (λ x x2 h. ln.step_silent x x2 a r h) (λ y y2 h. lk.step_silent y y2 a r h) m m2 stepped;
    resume_silent = λ m m2 b r resumed. by_both (λ x x2. n.resumes x b r x2) (λ y y2. k.resumes y b r y2)
        (λ x x2. NeitherSealsNorOpens (c.counts x) (c.counts x2))
        (λ x x2 h. ln.resume_silent x x2 b r h) (λ y y2 h. lk.resume_silent y y2 b r h) m m2 resumed;
    accept_silent = λ m m2 a r accepted. by_both (λ x x2. n.accepts x a r x2) (λ y y2. k.accepts y a r y2)
        (λ x x2. NeitherSealsNorOpens (c.counts x) (c.counts x2))
        (λ x x2 h. ln.accept_silent x x2 a r h) (λ y y2 h. lk.accept_silent y y2 a r h) m m2 accepted;
    resume_asks = λ m m2 b q resumed. by_both (λ x x2. n.resumes x b (Ask q) x2) (λ y y2. k.resumes y b (Ask q) y2)
        (λ x x2. c.left x2 < c.left x) (λ x x2 h. ln.resume_asks x x2 b q h) (λ y y2 h. lk.resume_asks y y2 b q h) m m2 resumed;
    step_waits = λ m m2 a q stepped. by_both (λ x x2. n.steps x a (Ask q) x2) (λ y y2. k.steps y a (Ask q) y2)
        (λ x x2. c.waits x2 ≡ true) (λ x x2 h. ln.step_waits x x2 a q h) (λ y y2 h. lk.step_waits y y2 a q h) m m2 stepped;
    resume_waits = λ m m2 b q resumed. by_both (λ x x2. n.resumes x b (Ask q) x2) (λ y y2. k.resumes y b (Ask q) y2)
        (λ x x2. c.waits x2 ≡ true) (λ x x2 h. ln.resume_waits x x2 b q h) (λ y y2 h. lk.resume_waits y y2 b q h) m m2 resumed;
    step_done = λ m m2 a s stepped. by_both (λ x x2. n.steps x a (Done s) x2) (λ y y2. k.steps y a (Done s) y2)
        (λ x x2. c.waits x2 ≡ false) (λ x x2 h. ln.step_done x x2 a s h) (λ y y2 h. lk.step_done y y2 a s h) m m2 stepped;
    resume_done = λ m m2 b s resumed. by_both (λ x x2. n.resumes x b (Done s) x2) (λ y y2. k.resumes y b (Done s) y2)
        (λ x x2. c.waits x2 ≡ false) (λ x x2 h. ln.resume_done x x2 b s h) (λ y y2 h. lk.resume_done y y2 b s h) m m2 resumed;
    counts_counted = by_hand (λ m. (i : Counts) → c.counts (c.counted m i) ≡ i) ln.counts_counted lk.counts_counted;
    counted_counted = by_hand (λ m. (i j : Counts) → c.counted (c.counted m i) j ≡ c.counted m j)
        (λ x i j. ap inl (ln.counted_counted x i j)) (λ y i j. ap inr (lk.counted_counted y i j));
    counted_counts = by_hand (λ m. c.counted m (c.counts m) ≡ m) (λ x. ap inl (ln.counted_counts x)) (λ y. ap inr (lk.counted_counts y));
    names_counted = by_hand (λ m. (i : Counts) → c.names (c.counted m i) ≡ c.names m) ln.names_counted lk.names_counted;
    keyed_counted = by_hand (λ m. (i : Counts) → c.keyed (c.counted m i) ≡ c.keyed m) ln.keyed_counted lk.keyed_counted;
    session_key_counted = by_hand (λ m. (i : Counts) → c.session_key (c.counted m i) ≡ c.session_key m)
        ln.session_key_counted lk.session_key_counted;
    waits_counted = by_hand (λ m. (i : Counts) → c.waits (c.counted m i) ≡ c.waits m) ln.waits_counted lk.waits_counted;
    left_counted = by_hand (λ m. (i : Counts) → c.left (c.counted m i) ≡ c.left m) ln.left_counted lk.left_counted;
    pairs_counted = by_hand (λ m. (i : Counts) → c.pairs (c.counted m i) ≡ c.pairs m) ln.pairs_counted lk.pairs_counted;
    seals_counted = by_hand (λ m. (i : Counts) (j : ℕ) (text blob : List ℕ) → c.seals (c.counted m i) j text blob → c.seals m j text blob)
        ln.seals_counted lk.seals_counted;
    opens_counted = by_hand (λ m. (i : Counts) (j : ℕ) (blob text : List ℕ) → c.opens (c.counted m i) j blob text → c.opens m j blob text)
        ln.opens_counted lk.opens_counted;
    signs_counted = by_hand (λ m. (i : Counts) (j : ℕ) (text mic : List ℕ) → c.signs (c.counted m i) j text mic → c.signs m j text mic)
        ln.signs_counted lk.signs_counted;
    verifies_counted = by_hand
        (λ m. (i : Counts) (j : ℕ) (mic text : List ℕ) → c.verifies (c.counted m i) j mic text → c.verifies m j mic text)
        ln.verifies_counted lk.verifies_counted;
    one_text = by_hand
        (λ m. (i : ℕ) (blob text other : List ℕ) → c.opens m i blob text → c.opens m i blob other → text ≡ other) ln.one_text lk.one_text;
    long_blob = by_hand (λ m. (i : ℕ) (text blob : List ℕ) → c.seals m i text blob → 16 ≤ length blob) ln.long_blob lk.long_blob;
  }

pub taking_lawful : {S C : Type 0} (some : List Credentials → List Credentials) (c : Meaning S C) → IsContext c → IsContext (taking some c)
taking_lawful some c laws = record {
  made_fresh = laws.made_fresh;
  acquire_silent = laws.acquire_silent;
  identify_counts = λ m m2 ids. laws.identify_counts m m2 (some ids);
  step_silent = laws.step_silent;
  resume_silent = laws.resume_silent;
  accept_silent = laws.accept_silent;
  resume_asks = laws.resume_asks;
  step_waits = laws.step_waits;
  resume_waits = laws.resume_waits;
  step_done = laws.step_done;
  resume_done = laws.resume_done;
  counts_counted = laws.counts_counted;
  counted_counted = laws.counted_counted;
  counted_counts = laws.counted_counts;
  names_counted = laws.names_counted;
  keyed_counted = laws.keyed_counted;
  session_key_counted = laws.session_key_counted;
  waits_counted = laws.waits_counted;
  left_counted = laws.left_counted;
  pairs_counted = laws.pairs_counted;
  seals_counted = laws.seals_counted;
  opens_counted = laws.opens_counted;
  signs_counted = laws.signs_counted;
  verifies_counted = laws.verifies_counted;
  one_text = laws.one_text;
  long_blob = laws.long_blob;
}

-- `view` and `back` undo each other
pub seen_lawful : {R S C D : Type 0} (parts : R → S) (view : C → D) (back : D → C) →
    ((d : D) → view (back d) ≡ d) → ((m : C) → back (view m) ≡ m) →
    (c : Meaning S D) → IsContext c → IsContext (seen parts view back c)
seen_lawful parts view back there again c laws = record {
  made_fresh = λ s m. laws.made_fresh (parts s) (view m);
  acquire_silent = λ m m2. laws.acquire_silent (view m) (view m2);
  identify_counts = λ m m2. laws.identify_counts (view m) (view m2);
  step_silent = λ m m2. laws.step_silent (view m) (view m2);
  resume_silent = λ m m2. laws.resume_silent (view m) (view m2);
  accept_silent = λ m m2. laws.accept_silent (view m) (view m2);
  resume_asks = λ m m2. laws.resume_asks (view m) (view m2);
  step_waits = λ m m2. laws.step_waits (view m) (view m2);
  resume_waits = λ m m2. laws.resume_waits (view m) (view m2);
  step_done = λ m m2. laws.step_done (view m) (view m2);
  resume_done = λ m m2. laws.resume_done (view m) (view m2);
  counts_counted = λ m i. rw (there (c.counted (view m) i)) (laws.counts_counted (view m) i);
  counted_counted = λ m i j. rw (there (c.counted (view m) i)) (ap back (laws.counted_counted (view m) i j));
  counted_counts = λ m. ap back (laws.counted_counts (view m)) ∙ again m;
  names_counted = λ m i. rw (there (c.counted (view m) i)) (laws.names_counted (view m) i);
  keyed_counted = λ m i. rw (there (c.counted (view m) i)) (laws.keyed_counted (view m) i);
  session_key_counted = λ m i. rw (there (c.counted (view m) i)) (laws.session_key_counted (view m) i);
  waits_counted = λ m i. rw (there (c.counted (view m) i)) (laws.waits_counted (view m) i);
  left_counted = λ m i. rw (there (c.counted (view m) i)) (laws.left_counted (view m) i);
  pairs_counted = λ m i. rw (there (c.counted (view m) i)) (laws.pairs_counted (view m) i);
  seals_counted = λ m i j text blob. rw (there (c.counted (view m) i)) (laws.seals_counted (view m) i j text blob);
  opens_counted = λ m i j blob text. rw (there (c.counted (view m) i)) (laws.opens_counted (view m) i j blob text);
  signs_counted = λ m i j text mic. rw (there (c.counted (view m) i)) (laws.signs_counted (view m) i j text mic);
  verifies_counted = λ m i j mic text. rw (there (c.counted (view m) i)) (laws.verifies_counted (view m) i j mic text);
  one_text = λ m. laws.one_text (view m);
  long_blob = λ m. laws.long_blob (view m);
}

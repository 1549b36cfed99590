-- The sum of two mechanisms is a mechanism.
use Rattle.std.proofs.Common.{◌≡◌, ◌⊎◌, ℕ, ◌<◌, ◌≤◌, max, List, length, true, false, ap, inl, inr, arith}
use Rattle.sspi_mech.specs.declared.step.Answer.TheVariants.{Done, Ask, Refused}
use Rattle.std.specs.Prelude.{Ok, Err}
use Rattle.sspi_mech.specs.Calls.{Counts, no_counts}
use Rattle.sspi_mech.specs.Laws.{IsMechanism}
use Rattle.sspi_mech.specs.Meaning.{Meaning}
use Rattle.sspi_mech.specs.Sum.{sum}
use Rattle.sspi_mech.proofs.SumLaws.{by_both, by_hand}

le_first : (i r q : ℕ) → i ≤ r → i ≤ max r q
le_first i r q h = grind (arith, h)

le_second : (i r q : ℕ) → i ≤ q → i ≤ max r q
le_second i r q h = grind (arith, h)

module _ {S T A B : Type 0} (r q : ℕ) (n : Meaning S A) (k : Meaning T B) (ln : IsMechanism r n) (lk : IsMechanism q k) where
  abbrev c : Meaning (S ⊎ T) (A ⊎ B)
  c = sum n k

  pub sum_mechanism : IsMechanism (max r q) (sum n k)
  sum_mechanism = record {
    made_fresh = by_both n.made k.made (λ s m. c.counts m ≡ no_counts) ln.made_fresh lk.made_fresh;
    made_left = by_both n.made k.made (λ s m. c.left m ≤ max r q)
        (λ s m h. le_first _ r q (ln.made_left s m h)) (λ s m h. le_second _ r q (lk.made_left s m h));
    step_refused = λ m m2 a e. by_both (λ x x2. n.steps x a (Refused e) x2) (λ y y2. k.steps y a (Refused e) y2)
        (λ x x2. x2 ≡ x) (λ x x2 h. ap inl (ln.step_refused x x2 a e h)) (λ y y2 h. ap inr (lk.step_refused y y2 a e h)) m m2;
    resume_refused = λ m m2 b e. by_both (λ x x2. n.resumes x b (Refused e) x2) (λ y y2. k.resumes y b (Refused e) y2)
        (λ x x2. x2 ≡ x) (λ x x2 h. ap inl (ln.resume_refused x x2 b e h)) (λ y y2 h. ap inr (lk.resume_refused y y2 b e h)) m m2;
    accept_refused = λ m m2 a e. by_both (λ x x2. n.accepts x a (Err e) x2) (λ y y2. k.accepts y a (Err e) y2)
        (λ x x2. x2 ≡ x) (λ x x2 h. ap inl (ln.accept_refused x x2 a e h)) (λ y y2 h. ap inr (lk.accept_refused y y2 a e h)) m m2;
    step_asks = λ m m2 a e. by_both (λ x x2. n.steps x a (Ask e) x2) (λ y y2. k.steps y a (Ask e) y2)
        (λ x x2. c.left x2 < c.left x) (λ x x2 h. ln.step_asks x x2 a e h) (λ y y2 h. lk.step_asks y y2 a e h) m m2;
    resume_asks = λ m m2 b e. by_both (λ x x2. n.resumes x b (Ask e) x2) (λ y y2. k.resumes y b (Ask e) y2)
        (λ x x2. c.left x2 < c.left x) (λ x x2 h. ln.resume_asks x x2 b e h) (λ y y2 h. lk.resume_asks y y2 b e h) m m2;
    acquire_left = λ m m2 u d b. by_both (λ x x2. n.acquires x u d b x2) (λ y y2. k.acquires y u d b y2)
        (λ x x2. c.left x2 ≤ c.left x) (λ x x2 h. ln.acquire_left x x2 u d b h) (λ y y2 h. lk.acquire_left y y2 u d b h) m m2;
    step_left = λ m m2 a e. by_both (λ x x2. n.steps x a e x2) (λ y y2. k.steps y a e y2)
        (λ x x2. c.left x2 ≤ c.left x) (λ x x2 h. ln.step_left x x2 a e h) (λ y y2 h. lk.step_left y y2 a e h) m m2;
    resume_left = λ m m2 b e. by_both (λ x x2. n.resumes x b e x2) (λ y y2. k.resumes y b e y2)
        (λ x x2. c.left x2 ≤ c.left x) (λ x x2 h. ln.resume_left x x2 b e h) (λ y y2 h. lk.resume_left y y2 b e h) m m2;
    accept_left = λ m m2 a e. by_both (λ x x2. n.accepts x a e x2) (λ y y2. k.accepts y a e y2)
        (λ x x2. c.left x2 ≤ c.left x) (λ x x2 h. ln.accept_left x x2 a e h) (λ y y2 h. lk.accept_left y y2 a e h) m m2;
    identify_left = λ m m2 ids. by_both (λ x x2. n.identifies x ids x2) (λ y y2. k.identifies y ids y2)
        (λ x x2. c.left x2 ≤ c.left x) (λ x x2 h. ln.identify_left x x2 ids h) (λ y y2 h. lk.identify_left y y2 ids h) m m2;
    step_waits = λ m m2 a e. by_both (λ x x2. n.steps x a (Ask e) x2) (λ y y2. k.steps y a (Ask e) y2)
        (λ x x2. c.waits x2 ≡ true) (λ x x2 h. ln.step_waits x x2 a e h) (λ y y2 h. lk.step_waits y y2 a e h) m m2;
    resume_waits = λ m m2 b e. by_both (λ x x2. n.resumes x b (Ask e) x2) (λ y y2. k.resumes y b (Ask e) y2)
        (λ x x2. c.waits x2 ≡ true) (λ x x2 h. ln.resume_waits x x2 b e h) (λ y y2 h. lk.resume_waits y y2 b e h) m m2;
    step_done = λ m m2 a s. by_both (λ x x2. n.steps x a (Done s) x2) (λ y y2. k.steps y a (Done s) y2)
        (λ x x2. c.waits x2 ≡ false) (λ x x2 h. ln.step_done x x2 a s h) (λ y y2 h. lk.step_done y y2 a s h) m m2;
    resume_done = λ m m2 b s. by_both (λ x x2. n.resumes x b (Done s) x2) (λ y y2. k.resumes y b (Done s) y2)
        (λ x x2. c.waits x2 ≡ false) (λ x x2 h. ln.resume_done x x2 b s h) (λ y y2 h. lk.resume_done y y2 b s h) m m2;
    accept_done = λ m m2 a s. by_both (λ x x2. n.accepts x a (Ok s) x2) (λ y y2. k.accepts y a (Ok s) y2)
        (λ x x2. c.waits x2 ≡ false) (λ x x2 h. ln.accept_done x x2 a s h) (λ y y2 h. lk.accept_done y y2 a s h) m m2;
    acquire_counts = λ m m2 u d b. by_both (λ x x2. n.acquires x u d b x2) (λ y y2. k.acquires y u d b y2)
        (λ x x2. c.counts x2 ≡ c.counts x) (λ x x2 h. ln.acquire_counts x x2 u d b h) (λ y y2 h. lk.acquire_counts y y2 u d b h) m m2;
    step_counts = λ m m2 a r. by_both (λ x x2. n.steps x a r x2) (λ y y2. k.steps y a r y2)
        (λ x x2. c.counts x2 ≡ c.counts x) (λ x x2 h. ln.step_counts x x2 a r h) (λ y y2 h. lk.step_counts y y2 a r h) m m2;
    resume_counts = λ m m2 b r. by_both (λ x x2. n.resumes x b r x2) (λ y y2. k.resumes y b r y2)
        (λ x x2. c.counts x2 ≡ c.counts x) (λ x x2 h. ln.resume_counts x x2 b r h) (λ y y2 h. lk.resume_counts y y2 b r h) m m2;
    accept_counts = λ m m2 a r. by_both (λ x x2. n.accepts x a r x2) (λ y y2. k.accepts y a r y2)
        (λ x x2. c.counts x2 ≡ c.counts x) (λ x x2 h. ln.accept_counts x x2 a r h) (λ y y2 h. lk.accept_counts y y2 a r h) m m2;
    identify_counts = λ m m2 ids. by_both (λ x x2. n.identifies x ids x2) (λ y y2. k.identifies y ids y2)
        (λ x x2. c.counts x2 ≡ c.counts x) (λ x x2 h. ln.identify_counts x x2 ids h) (λ y y2 h. lk.identify_counts y y2 ids h) m m2;
    counts_counted = by_hand (λ m. (i : Counts) → c.counts (c.counted m i) ≡ i) ln.counts_counted lk.counts_counted;
    counted_counted = by_hand (λ m. (i j : Counts) → c.counted (c.counted m i) j ≡ c.counted m j)
        (λ x i j. ap inl (ln.counted_counted x i j)) (λ y i j. ap inr (lk.counted_counted y i j));
    counted_counts = by_hand (λ m. c.counted m (c.counts m) ≡ m) (λ x. ap inl (ln.counted_counts x)) (λ y. ap inr (lk.counted_counts y));
    names_counted = by_hand (λ m. (i : Counts) → c.names (c.counted m i) ≡ c.names m) ln.names_counted lk.names_counted;
    keyed_counted = by_hand (λ m. (i : Counts) → c.keyed (c.counted m i) ≡ c.keyed m) ln.keyed_counted lk.keyed_counted;
    session_key_counted = by_hand (λ m. (i : Counts) → c.session_key (c.counted m i) ≡ c.session_key m)
        ln.session_key_counted lk.session_key_counted;
    waits_counted = by_hand (λ m. (i : Counts) → c.waits (c.counted m i) ≡ c.waits m) ln.waits_counted lk.waits_counted;
    left_counted = by_hand (λ m. (i : Counts) → c.left (c.counted m i) ≡ c.left m) ln.left_counted lk.left_counted;
    pairs_counted = by_hand (λ m. (i : Counts) → c.pairs (c.counted m i) ≡ c.pairs m) ln.pairs_counted lk.pairs_counted;
    seals_counted = by_hand (λ m. (i : Counts) (j : ℕ) (text blob : List ℕ) → c.seals (c.counted m i) j text blob → c.seals m j text blob)
        ln.seals_counted lk.seals_counted;
    opens_counted = by_hand (λ m. (i : Counts) (j : ℕ) (blob text : List ℕ) → c.opens (c.counted m i) j blob text → c.opens m j blob text)
        ln.opens_counted lk.opens_counted;
    signs_counted = by_hand (λ m. (i : Counts) (j : ℕ) (text mic : List ℕ) → c.signs (c.counted m i) j text mic → c.signs m j text mic)
        ln.signs_counted lk.signs_counted;
    verifies_counted = by_hand
        (λ m. (i : Counts) (j : ℕ) (mic text : List ℕ) → c.verifies (c.counted m i) j mic text → c.verifies m j mic text)
        ln.verifies_counted lk.verifies_counted;
    one_text = by_hand
        (λ m. (i : ℕ) (blob text other : List ℕ) → c.opens m i blob text → c.opens m i blob other → text ≡ other) ln.one_text lk.one_text;
    long_blob = by_hand (λ m. (i : ℕ) (text blob : List ℕ) → c.seals m i text blob → 16 ≤ length blob) ln.long_blob lk.long_blob;
  }

-- A negotiation is a context.
use Rattle.std.proofs.Common.{◌≡◌, ◌+◌, ℕ, List, Option, None, Some, Result, Ok, Err, refl, ap, inl, inr}
use Rattle.sspi_types.specs.declared.error_kind.ErrorKind.{ErrorKind}
use Rattle.sspi_names.specs.declared.kdc_table.KdcEntry.{KdcEntry}
use Rattle.sspi_mech.specs.declared.step.Answer.TheVariants.{Done, Ask}
use Rattle.sspi_mech.specs.Calls.{Counts, no_counts}
use Rattle.sspi_mech.specs.Context.{IsContext, NeitherSealsNorOpens}
use Rattle.sspi_mech.specs.Laws.{IsMechanism}
use Rattle.sspi_mech.specs.Meaning.{Meaning}
use Rattle.sspi_mech.specs.Settings.{Setting}
use Rattle.sspi_negotiate.specs.declared.protocol.NegotiatedProtocol.{NegotiatedProtocol}
use Rattle.sspi_negotiate.specs.declared.protocol.NegotiatedProtocol.TheVariants as hands
use Rattle.sspi_negotiate.specs.declared.state.Role.TheVariants.{Client, Server}
use Rattle.sspi_negotiate.specs.Hand.{Origin, hand, asks_left}
use Rattle.sspi_negotiate.specs.Negotiate.{negotiate}
use Rattle.sspi_negotiate.specs.New.{NegotiateSetting, ForClient, ForServer, IsFirst, first_in_hand, MadeOf}
use Rattle.sspi_negotiate.specs.Rule.{TakenBy}
use Rattle.sspi_negotiate.specs.Values.{Negotiation, values_of}
use Rattle.sspi_negotiate.proofs.Asks.{resumed_falls}
use Rattle.sspi_negotiate.proofs.HandLaws.{hand_lawful}
use Rattle.sspi_negotiate.proofs.Silent.{fresh_unused, silent_after}
use Rattle.sspi_negotiate.proofs.Tidy.{client_tidy, resumed_tidy}

first_fresh : {M : Type 0} (c : Meaning Origin M) → IsContext c → (o : Result Origin ErrorKind) (m : M) → IsFirst c o m →
    c.counts m ≡ no_counts
first_fresh c laws (Ok origin) m made = laws.made_fresh origin m made
first_fresh c laws (Err kind) m made = absurd made

taken_silent : {M : Type 0} (c : Meaning Origin M) → IsContext c →
    (url : Option (List ℕ)) (kdcs : List KdcEntry) (computer : List ℕ) (m m2 : M) →
    TakenBy c url kdcs computer m m2 → NeitherSealsNorOpens (c.counts m) (c.counts m2)
taken_silent c laws None kdcs computer m m2 same =
    inl (ap (λ x. (c.counts x).sealings) same, ap (λ x. (c.counts x).unsealings) same)
taken_silent c laws (Some url) kdcs computer m m2 made = inr (fresh_unused _ (laws.made_fresh _ m2 made))

module _ {N K : Type 0} (r q : ℕ) (n : Meaning Setting N) (k : Meaning Setting K) (ln : IsMechanism r n) (lk : IsMechanism q k) where
  made_fresh_by : (s : NegotiateSetting) (m : Negotiation (NegotiatedProtocol N K)) → MadeOf n k s m → (hand n k).counts m.mech ≡ no_counts
  made_fresh_by (ForClient config) m made = first_fresh (hand n k) (hand_lawful r q n k ln lk) (first_in_hand Client config) m.mech made.0
  made_fresh_by (ForServer config known) m made = first_fresh (hand n k) (hand_lawful r q n k ln lk)
      (first_in_hand Server config) m.mech made.0

  left_counted_by : (m : NegotiatedProtocol N K) (i : Counts) → asks_left r n k ((hand n k).counted m i) ≡ asks_left r n k m
  left_counted_by (hands.Ntlm m) i = ln.left_counted m i
  left_counted_by (hands.Kerberos m) i = ap (λ x. x + r) (lk.left_counted m i)

  pub negotiate_lawful : IsContext (negotiate {N = N} {K = K} r n k)
  negotiate_lawful = let laws = hand_lawful r q n k ln lk in record {
    made_fresh = made_fresh_by;
    acquire_silent = λ m m2 u d b a. let c = hand n k in silent_after (c.counts m.mech) (c.counts a.mech) (c.counts m2.mech)
        (taken_silent c laws _ m.kdcs m.computer m.mech a.mech a.taken) (laws.acquire_silent a.mech m2.mech u d b a.acquired);
    identify_counts = λ m m2 ids h. laws.identify_counts m.mech m2.mech ids h.0;
    step_silent = λ m m2 a answer s. s.moves.unused;
    resume_silent = λ m m2 b answer s. s.unused;
    accept_silent = λ m m2 a answer s. s.moves.unused;
    resume_asks = λ m m2 b e s. resumed_falls r q n k ln lk (values_of m) b m.mech m2.mech e (values_of m2) refl s.follows.as_planned;
    step_waits = λ m m2 a e s. (client_tidy (hand n k) m.mech s.ip (values_of m) a).ends m2.mech (Ask e) (values_of m2)
        s.moves.follows.as_planned;
    resume_waits = λ m m2 b e s. (resumed_tidy (hand n k) m.mech (values_of m) b).ends m2.mech (Ask e) (values_of m2) s.follows.as_planned;
    step_done = λ m m2 a step s. (client_tidy (hand n k) m.mech s.ip (values_of m) a).ends m2.mech (Done step) (values_of m2)
        s.moves.follows.as_planned;
    resume_done = λ m m2 b step s. (resumed_tidy (hand n k) m.mech (values_of m) b).ends m2.mech (Done step) (values_of m2)
        s.follows.as_planned;
    counts_counted = λ m i. laws.counts_counted m.mech i;
    counted_counted = λ m i j. ap (λ x. record m { mech = x }) (laws.counted_counted m.mech i j);
    counted_counts = λ m. ap (λ x. record m { mech = x }) (laws.counted_counts m.mech);
    names_counted = λ m i. laws.names_counted m.mech i;
    keyed_counted = λ m i. laws.keyed_counted m.mech i;
    session_key_counted = λ m i. laws.session_key_counted m.mech i;
    waits_counted = λ m i. refl;
    left_counted = λ m i. left_counted_by m.mech i;
    pairs_counted = λ m i. laws.pairs_counted m.mech i;
    seals_counted = λ m i. laws.seals_counted m.mech i;
    opens_counted = λ m i. laws.opens_counted m.mech i;
    signs_counted = λ m i. laws.signs_counted m.mech i;
    verifies_counted = λ m i. laws.verifies_counted m.mech i;
    one_text = λ m. laws.one_text m.mech;
    long_blob = λ m i text blob sealed. laws.long_blob m.mech i text blob sealed;
  }

-- A resumed step's question to a KDC leaves fewer to come, even if NTLM has replaced Kerberos.
use Rattle.std.proofs.Common.{◌≡◌, ◌&&◌, ◌<◌, ℕ, List, Bool, true, false, cond, refl, sym, ap, ◌∙◌, subst, arith}
use Rattle.std.proofs.lemmas.Bool.{false≢true}
use Rattle.sspi_types.specs.declared.error_kind.ErrorKind.{ErrorKind}
use Rattle.sspi_names.specs.declared.network.NetworkRequest.{NetworkRequest}
use Rattle.sspi_mech.specs.declared.step.Answer.{Answer}
use Rattle.sspi_mech.specs.declared.step.Answer.TheVariants.{Done, Ask, Refused}
use Rattle.sspi_mech.specs.declared.step.Reply.{Reply}
use Rattle.sspi_mech.specs.Calls.{StepArgs}
use Rattle.sspi_mech.specs.Laws.{IsMechanism}
use Rattle.sspi_mech.specs.Meaning.{Meaning}
use Rattle.sspi_mech.specs.Settings.{Setting}
use Rattle.sspi_tokens.specs.declared.neg_token_targ.NegTokenTarg.{NegTokenTarg}
use Rattle.sspi_negotiate.specs.declared.branch.Branch.{Branch}
use Rattle.sspi_negotiate.specs.declared.branch.Branch.TheVariants.{Idle, Opening, Answering}
use Rattle.sspi_negotiate.specs.declared.branch.Opening.{Opening as FirstStep}
use Rattle.sspi_negotiate.specs.declared.protocol.NegotiatedProtocol.{NegotiatedProtocol}
use Rattle.sspi_negotiate.specs.declared.protocol.NegotiatedProtocol.TheVariants as hands
use Rattle.sspi_negotiate.specs.Client.{begun, steps_again, falls_back, falls, stepped}
use Rattle.sspi_negotiate.specs.Client.{resumes_opening, resumes_answering, resumed_at, spnego_resumed}
use Rattle.sspi_negotiate.specs.Fallback.{is_fallback}
use Rattle.sspi_negotiate.specs.Follows.{Follows, Went}
use Rattle.sspi_negotiate.specs.Hand.{Origin, hand, hand_of, asks_left, in_place_of_kerberos, is_kerberos_hand}
use Rattle.sspi_negotiate.specs.Plan.{Stops}
use Rattle.sspi_negotiate.specs.Values.{Values}
use Rattle.sspi_negotiate.proofs.ClientLeads.{EndCases, begun_leads, stepped_leads}
use Rattle.sspi_negotiate.proofs.HandLaws.{left_falls, left_again}

third : (a b d : Bool) → a && b && d ≡ true → b ≡ true
third true true d h = refl
third true false d h = absurd (false≢true h)
third false b d h = absurd (false≢true h)

-- the answer is not a question
abbrev IsQuiet : {M : Type 0} → M → Answer → Values → Type 0
IsQuiet m (Done step) v = Unit {0}
IsQuiet m (Ask request) v = ⊥
IsQuiet m (Refused error) v = Unit {0}

abbrev Any : Values → Type 0
Any v = Unit {0}

-- what comes after the step of a mechanism asks no KDC
quiet : {M : Type 0} {c : Meaning Origin M} → EndCases c IsQuiet Any Any
quiet = record {
  offers = λ m v token text is g. tt;
  unopened = λ m v branch error comes g. tt;
  refuses = λ m v branch error comes g. tt;
  goes_on = λ m v step on g. tt;
  hands_mic = λ m v output g. tt;
  is_over = λ m v output why g. tt;
}

module _ {N K : Type 0} (r q : ℕ) (n : Meaning Setting N) (k : Meaning Setting K) (ln : IsMechanism r n) (lk : IsMechanism q k) where
  Falls : NegotiatedProtocol N K → NegotiatedProtocol N K → Type 0
  Falls m2 m = asks_left r n k m2 < asks_left r n k m

  enough : (m m2 : NegotiatedProtocol N K) → is_kerberos_hand (hand_of m) ≡ true → asks_left r n k m2 < r → Falls m2 m
  unfolding Falls
  enough (hands.Kerberos m) m2 is h = omega (arith, h)
  enough (hands.Ntlm m) m2 is h = absurd (false≢true is)

  again_step : (computer : List ℕ) (v : Values) (first : FirstStep) (m m3 m4 m2 : NegotiatedProtocol N K) (a : StepArgs) (x : Answer)
      (e : NetworkRequest) (w v2 : Values) →
      is_kerberos_hand (hand_of m) ≡ true → (hand n k).made (in_place_of_kerberos computer) m3 → (hand n k).steps m3 a x m4 →
      Went x (λ step. Follows (hand n k) (begun v step) m4 (Ask e) v2 m2) (λ kind. Follows (hand n k) (Stops v kind) m4 (Ask e) v2 m2)
      (Ask e) w v2 m4 m2 → Falls m2 m
  again_step computer v first m m3 m4 m2 a (Done step) e w v2 is made h went =
      absurd ((begun_leads (hand n k) IsQuiet Any Any quiet v step m4 tt).ends m2 (Ask e) v2 went)
  again_step computer v first m m3 m4 m2 a (Ask e3) e w v2 is made h went =
      enough m m2 is (subst (λ y. asks_left r n k y < r) (sym went.2) (left_again r q n k ln lk computer m3 m4 a e3 made h))
  again_step computer v first m m3 m4 m2 a (Refused error) e w v2 is made h went = absurd went.1.0

  fallen : (b : Bool) (w v : Values) (first : FirstStep) (kind : ErrorKind) (m m1 m2 : NegotiatedProtocol N K) (e : NetworkRequest)
      (v2 : Values) →
      (b ≡ true → is_kerberos_hand (hand_of m) ≡ true) →
      Follows (hand n k) (cond b (falls_back v first) (Stops w kind)) m1 (Ask e) v2 m2 → Falls m2 m
  unfolding falls_back steps_again
  fallen true w v first kind m m1 m2 e v2 is f =
      again_step v.computer _ first m f.0 f.2.0 m2 _ f.2.1 e _ v2 (is refl) f.1 f.2.2 f.2.3
  fallen false w v first kind m m1 m2 e v2 is f = absurd f.0

  opening_step : (first : FirstStep) (w v : Values) (reply : Reply) (m m1 m2 : NegotiatedProtocol N K) (x : Answer) (e : NetworkRequest)
      (v2 : Values) →
      v.hand ≡ hand_of m → (hand n k).resumes m reply x m1 →
      Went x (λ step. Follows (hand n k) (begun v step) m1 (Ask e) v2 m2)
      (λ kind. Follows (hand n k) (falls w v first kind) m1 (Ask e) v2 m2) (Ask e) w v2 m1 m2 → Falls m2 m
  unfolding Falls
  opening_step first w v reply m m1 m2 (Done step) e v2 same h went =
      absurd ((begun_leads (hand n k) IsQuiet Any Any quiet v step m1 tt).ends m2 (Ask e) v2 went)
  opening_step first w v reply m m1 m2 (Ask e3) e v2 same h went =
      subst (λ y. asks_left r n k y < asks_left r n k m) (sym went.2) (left_falls r q n k ln lk m m1 reply e3 h)
  opening_step first w v reply m m1 m2 (Refused error) e v2 same h went =
      fallen (is_fallback error.error_type && is_kerberos_hand v.hand && v.packages.ntlm) w v first error.error_type m m1 m2 e v2
      (λ yes. ap is_kerberos_hand (sym same) ∙ third (is_fallback error.error_type) (is_kerberos_hand v.hand) v.packages.ntlm yes) went.1

  answering_step : (token : NegTokenTarg) (w v : Values) (reply : Reply) (m m1 m2 : NegotiatedProtocol N K) (x : Answer)
      (e : NetworkRequest) (v2 : Values) →
      (hand n k).resumes m reply x m1 →
      Went x (λ step. Follows (hand n k) (stepped token v step) m1 (Ask e) v2 m2)
      (λ kind. Follows (hand n k) (Stops w kind) m1 (Ask e) v2 m2) (Ask e) w v2 m1 m2 → Falls m2 m
  unfolding Falls
  answering_step token w v reply m m1 m2 (Done step) e v2 h went =
      absurd ((stepped_leads (hand n k) IsQuiet Any Any quiet token v step m1 tt).ends m2 (Ask e) v2 went)
  answering_step token w v reply m m1 m2 (Ask e3) e v2 h went =
      subst (λ y. asks_left r n k y < asks_left r n k m) (sym went.2) (left_falls r q n k ln lk m m1 reply e3 h)
  answering_step token w v reply m m1 m2 (Refused error) e v2 h went = absurd went.1.0

  resumed_falls_at : (branch : Branch) (v : Values) (reply : Reply) (m m2 : NegotiatedProtocol N K) (e : NetworkRequest) (v2 : Values) →
      v.hand ≡ hand_of m →
      Follows (hand n k) (resumed_at branch v reply) m (Ask e) v2 m2 → Falls m2 m
  unfolding resumes_opening resumes_answering
  resumed_falls_at Idle v reply m m2 e v2 same f = absurd f.0
  resumed_falls_at (Opening first) v reply m m2 e v2 same f = opening_step first _ _ reply m f.0 m2 f.1 e v2 same f.2 f.3
  resumed_falls_at (Answering token) v reply m m2 e v2 same f = answering_step token _ _ reply m f.0 m2 f.1 e v2 f.2 f.3

  pub resumed_falls : (v : Values) (reply : Reply) (m m2 : NegotiatedProtocol N K) (e : NetworkRequest) (v2 : Values) → v.hand ≡ hand_of m →
      Follows (hand n k) (spnego_resumed v reply) m (Ask e) v2 m2 → asks_left r n k m2 < asks_left r n k m
  unfolding Falls
  resumed_falls v reply m m2 e v2 same f = resumed_falls_at v.branch v reply m m2 e v2 same f

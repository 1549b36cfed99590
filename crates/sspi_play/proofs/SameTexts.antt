-- What equal client proofs are made over: equal keys, in one form; from version 5, equal nonces.
use Rattle.std.proofs.Common.{◌≡◌, ◌+◌, ◌<◌, ◌≤◌, ℕ, Bool, true, false, List, ◌++◌, length, Some, sym, ◌∙◌, ap, refl, arith}
use Rattle.std.proofs.Common.{length-append, nat_lt, if◌then◌else◌}
use Rattle.std.proofs.lemmas.Bool.{ltb-true, ltb-false}
use Rattle.std.proofs.lemmas.List.{append_cancel_left}
use Rattle.sha2.proofs.Facts256.{length-sha256}
use Rattle.sha2.specs.Sha256.{sha256}
use Rattle.sspi_credssp.specs.declared.public_key.EndpointType.TheVariants as whose
use Rattle.sspi_credssp.specs.Exchange.{magic, prescribed}
use Rattle.sspi_delegate.specs.Turns.{ClientEnd, ServerEnd, client_noted, server_noted}
use Rattle.sspi_credssp.specs.declared.turn.Turn.{Turn}
use Rattle.sspi_play.specs.Agreement.{NoEcho, by_length, by_least_versions}
use Rattle.sspi_play.proofs.Lists.{fronts_same, rests_same}
use Rattle.sspi_play.proofs.Parts.{client_noted_least, server_noted_least}

-- the text of a client's proof, by the test of the version
abbrev by_version : Bool → List ℕ → List ℕ → List ℕ
by_version young nonce key = if young then key else sha256 (magic whose.Client ++ nonce ++ key)

-- what both ends agree on
pub record Same (client_key server_key client_nonce server_nonce : List ℕ) (client_young server_young : Bool) : Type 0 where
  pub keys : client_key ≡ server_key
  pub forms : client_young ≡ server_young
  pub nonces : server_young ≡ false → server_nonce ≡ client_nonce

same_by : (kc ks nc ns : List ℕ) (young_c young_s : Bool) →
    (sha256 (magic whose.Client ++ nc ++ kc) ≡ sha256 (magic whose.Client ++ ns ++ ks) →
    magic whose.Client ++ nc ++ kc ≡ magic whose.Client ++ ns ++ ks) →
    length nc ≡ 32 → (young_s ≡ false → length ns ≡ 32) →
    (young_c ≡ true → young_s ≡ false → length kc ≡ 32 → ⊥) → (young_c ≡ false → young_s ≡ true → length ks ≡ 32 → ⊥) →
    by_version young_c nc kc ≡ by_version young_s ns ks → Same kc ks nc ns young_c young_s
same_by kc ks nc ns true true apart c_long s_long echo_c echo_s e = record { keys = e; forms = refl; nonces = λ no. absurd (cc (no)) }
same_by kc ks nc ns true false apart c_long s_long echo_c echo_s e =
    absurd (echo_c refl refl (ap length e ∙ length-sha256 (magic whose.Client ++ ns ++ ks)))
same_by kc ks nc ns false true apart c_long s_long echo_c echo_s e =
    absurd (echo_s refl refl (sym (ap length e) ∙ length-sha256 (magic whose.Client ++ nc ++ kc)))
same_by kc ks nc ns false false apart c_long s_long echo_c echo_s e =
    let texts = apart e in
    let long : length (magic whose.Client ++ nc) ≡ length (magic whose.Client ++ ns) =
    length-append (magic whose.Client) nc ∙ ap (λ (n : ℕ). length (magic whose.Client) + n) (c_long ∙ sym (s_long refl)) ∙ sym
    (length-append (magic whose.Client) ns) in
    record {
      keys = rests_same (magic whose.Client ++ nc) (magic whose.Client ++ ns) kc ks long texts;
      forms = refl;
      nonces = λ no. sym (append_cancel_left (magic whose.Client) nc ns
          (fronts_same (magic whose.Client ++ nc) (magic whose.Client ++ ns) kc ks long texts));
    }

pub same_texts : (kc ks nc ns : List ℕ) (vc vs : ℕ) →
    (sha256 (magic whose.Client ++ nc ++ kc) ≡ sha256 (magic whose.Client ++ ns ++ ks) →
    magic whose.Client ++ nc ++ kc ≡ magic whose.Client ++ ns ++ ks) →
    length nc ≡ 32 → (nat_lt vs 5 ≡ false → length ns ≡ 32) →
    (nat_lt vc 5 ≡ true → nat_lt vs 5 ≡ false → length kc ≡ 32 → ⊥) → (nat_lt vc 5 ≡ false → nat_lt vs 5 ≡ true → length ks ≡ 32 → ⊥) →
    prescribed whose.Client vc nc kc ≡ prescribed whose.Client vs ns ks → Same kc ks nc ns (nat_lt vc 5) (nat_lt vs 5)
unfolding prescribed
same_texts kc ks nc ns vc vs apart c_long s_long echo_c echo_s e =
    same_by kc ks nc ns (nat_lt vc 5) (nat_lt vs 5) apart c_long s_long echo_c echo_s e

-- ---- no hash is taken for an echo

no_young : {P : Type 0} (version least : ℕ) → 5 ≤ least → nat_lt version least ≡ false → nat_lt version 5 ≡ true → P
no_young version least high at young =
    let low : version < 5 = ltb-true version 5 young in
    let up : least ≤ version = ltb-false version least at in absurd (omega (arith, high, low, up))

pub no_client_echo : {C : Type 0} (client : ClientEnd C) (server : ServerEnd C) (turns : List Turn) (version : ℕ) → NoEcho client server →
    client_noted client.settings.least turns ≡ Some version → nat_lt version 5 ≡ true → length client.settings.public_key ≡ 32 → ⊥
no_client_echo client server turns version (by_length c s) noted young long = omega (arith, c, long)
no_client_echo client server turns version (by_least_versions c s) noted young long =
    no_young version client.settings.least c (client_noted_least client.settings.least turns version noted) young

pub no_server_echo : {C : Type 0} (client : ClientEnd C) (server : ServerEnd C) (turns : List Turn) (version : ℕ) → NoEcho client server →
    server_noted server.settings.least turns ≡ Some version → nat_lt version 5 ≡ true → length server.settings.public_key ≡ 32 → ⊥
no_server_echo client server turns version (by_length c s) noted young long = omega (arith, s, long)
no_server_echo client server turns version (by_least_versions c s) noted young long =
    no_young version server.settings.least s (server_noted_least server.settings.least turns version noted) young

-- The negotiations of matching ends: what the server picks, what it is told again, and how the client begins.
use Rattle.std.proofs.Common.{◌≡◌, ◌&&◌, ℕ, ◌≤◌, Bool, true, false, List, [], ◌∷◌, length, map, take, Option, None, Some}
use Rattle.std.proofs.Common.{Ok, refl, ap, sym, ◌∙◌, subst}
use Rattle.sspi_names.specs.declared.credentials.Credentials.TheVariants as credentials
use Rattle.sspi_names.specs.declared.identity.AuthIdentity.{AuthIdentity}
use Rattle.sspi_names.specs.Name.{domain_of, inner_of}
use Rattle.sspi_mech.specs.declared.kerberos.stage.Stage.{Stage}
use Rattle.sspi_mech.specs.declared.kerberos.stage.Stage.TheVariants.{Accepted}
use Rattle.sspi_mech.specs.declared.kerberos.stage.Peer.{Peer}
use Rattle.sspi_mech.specs.declared.ntlm.stage.Stage.TheVariants.{Claimed}
use Rattle.sspi_mech.specs.Calls.{StepArgs}
use Rattle.sspi_mech.specs.Kerberos as kerberos
use Rattle.sspi_mech.specs.KerberosStage.{KerberosState}
use Rattle.sspi_mech.specs.NtlmStage.{NtlmState}
use Rattle.sspi_tokens.specs.Oids.{kind_of}
use Rattle.sspi_negotiate.specs.declared.package_list.PackageListConfig.{PackageListConfig}
use Rattle.sspi_negotiate.specs.declared.pick.Choice.{Choice}
use Rattle.sspi_negotiate.specs.declared.pick.Choice.TheVariants as choices
use Rattle.sspi_negotiate.specs.declared.pick.Picked.{Picked}
use Rattle.sspi_negotiate.specs.declared.protocol.NegotiatedProtocol.TheVariants as hands
use Rattle.sspi_negotiate.specs.declared.protocol.Protocol.{Protocol}
use Rattle.sspi_negotiate.specs.declared.protocol.Protocol.TheVariants.{Ntlm, Kerberos}
use Rattle.sspi_negotiate.specs.declared.state.NegotiateState.{NegotiateState}
use Rattle.sspi_negotiate.specs.declared.state.NegotiateState.TheVariants as states
use Rattle.sspi_negotiate.specs.Client.{client_at, spnego_client}
use Rattle.sspi_negotiate.specs.Hand.{Origin, hand_of, is_kerberos_hand}
use Rattle.sspi_negotiate.specs.New.{packages_in}
use Rattle.sspi_negotiate.specs.Pick.{pick, picked_or}
use Rattle.sspi_negotiate.specs.Rule.{url_for}
use Rattle.sspi_negotiate.specs.Values.{Values}
use Rattle.sspi_credssp.specs.ClientTurn.{client_args}
use Rattle.sspi_credssp.specs.Proxy.{candidates_of}
use Rattle.sspi_completeness.specs.Matching.{HasEntry}
use Rattle.sspi_completeness.specs.Negotiating.{protocol_of, challenge_of}
use Rattle.sspi_completeness.proofs.Courses.{Meeting, client_origin}
use Rattle.sspi_completeness.proofs.NtlmOutcomes.{key_for, some_candidates, keyed, claim_by}
use Rattle.sspi_completeness.proofs.NtlmSteps as by_ntlm
use Rattle.sspi_completeness.proofs.Runs.{M, runs, made_of, identified, with_kerberos, with_ntlm, used}
use Rattle.sspi_completeness.proofs.Shortness.{short_name}
use Rattle.sspi_completeness.proofs.SpnegoBegins.{client_values, handle_of, hand_is, hand_first, packages_first, object_first, begins_same}
use Rattle.sspi_completeness.proofs.SpnegoBegins.{served, led}
use Rattle.sspi_completeness.proofs.SpnegoBegins.{never_again}
use Rattle.sspi_completeness.proofs.SpnegoEnds.{at_rest}
use Rattle.sspi_completeness.proofs.SpnegoTokens.{offer}

-- ---- what a server picks

abbrev pub OfKerberos : Bool → Choice → Picked → Type 0
OfKerberos ntlm choices.Ntlm picked = (ntlm ≡ true) × (picked ≡ record { choice = choices.Ntlm; index = 2 })
OfKerberos ntlm choices.Kerberos picked = ⊥
OfKerberos ntlm choices.MsKerberos picked = picked ≡ record { choice = choices.MsKerberos; index = 0 }

-- from the offer of a client that begins with this mechanism, and may use NTLM or not
abbrev pub IsPick : Protocol → Bool → Picked → Type 0
IsPick Ntlm ntlm picked = (ntlm ≡ true) × (picked ≡ record { choice = choices.Ntlm; index = 0 })
IsPick Kerberos ntlm picked = OfKerberos ntlm picked.choice picked

picked_by : (begins : Protocol) (ntlm may_kerberos may_ntlm : Bool) (picked : Picked) →
    picked_or may_kerberos choices.MsKerberos (offer begins ntlm) (picked_or may_kerberos choices.Kerberos (offer begins ntlm)
    (picked_or may_ntlm choices.Ntlm (offer begins ntlm) None)) ≡ Some picked → IsPick begins ntlm picked
unfolding kind_of
picked_by Ntlm true true true picked is = (refl, cc)
picked_by Ntlm true false true picked is = (refl, cc)
picked_by Ntlm true true false picked is = absurd (cc (is))
picked_by Ntlm true false false picked is = absurd (cc (is))
picked_by Ntlm false true true picked is = absurd (cc (is))
picked_by Ntlm false true false picked is = absurd (cc (is))
picked_by Ntlm false false true picked is = absurd (cc (is))
picked_by Ntlm false false false picked is = absurd (cc (is))
picked_by Kerberos true true d picked is =
    let same : record { choice = choices.MsKerberos; index = 0 } ≡ picked = cc in subst (λ (x : Picked). IsPick Kerberos true x) same refl
picked_by Kerberos false true d picked is =
    let same : record { choice = choices.MsKerberos; index = 0 } ≡ picked = cc in subst (λ (x : Picked). IsPick Kerberos false x) same refl
picked_by Kerberos true false true picked is =
    let same : record { choice = choices.Ntlm; index = 2 } ≡ picked = cc in
    subst (λ (x : Picked). IsPick Kerberos true x) same (refl, refl)
picked_by Kerberos true false false picked is = absurd (cc (is))
picked_by Kerberos false false true picked is = absurd (cc (is))
picked_by Kerberos false false false picked is = absurd (cc (is))

-- ---- what a server is told again

abbrev resting : NtlmState → NtlmState
resting m = record m { protection = record m.protection { sealings = 0; unsealings = 0 } }

abbrev resting_at : AuthIdentity → List ℕ → NtlmState
resting_at i challenge = record {
  challenge = challenge;
  stage = Claimed (claim_by i challenge);
  protection = record { key = Some (key_for i challenge); sealings = 0; unsealings = 0; signings = 1; verifications = 1 };
}

pub ntlm_knows : (entries : List AuthIdentity) (i : AuthIdentity) (challenge : List ℕ) (has : HasEntry entries i) (y : M) →
    at_rest y ≡ by_ntlm.keyed_by i challenge 1 1 →
    identified y (map credentials.AuthIdentity (candidates_of entries i.username)) ≡ Ok y
ntlm_knows entries i challenge has (hands.Kerberos z) rest = absurd (cc (rest))
ntlm_knows entries i challenge has (hands.Ntlm z) rest =
    let same : resting z ≡ resting_at i challenge = cc in
    let stage : z.stage ≡ Claimed (claim_by i challenge) = ap (λ (x : NtlmState). x.stage) same in
    let sent : z.challenge ≡ challenge = ap (λ (x : NtlmState). x.challenge) same in
    let key : z.protection.key ≡ Some (key_for i challenge) = ap (λ (x : NtlmState). x.protection.key) same in
    ap with_ntlm (keyed z (candidates_of entries i.username) entries i challenge has stage sent refl)
    ∙ ap (λ (k : Option (List ℕ)). Ok (hands.Ntlm (record z { protection = record z.protection { key = k } }))) (sym key)

pub kerberos_knows : (entries : List AuthIdentity) (i : AuthIdentity) (has : HasEntry entries i) (admitted : KerberosState) (peer : Peer)
    (y : M) → admitted.stage ≡ Accepted peer → at_rest y ≡ at_rest (hands.Kerberos admitted) →
    identified y (map credentials.AuthIdentity (candidates_of entries i.username)) ≡ Ok y
kerberos_knows entries i has admitted peer (hands.Ntlm z) took rest = absurd (cc (rest))
kerberos_knows entries i has admitted peer (hands.Kerberos z) took rest =
    let same : used z 0 0 ≡ used admitted 0 0 = cc in
    let stage : z.stage ≡ Accepted peer = ap (λ (x : KerberosState). x.stage) same ∙ took in
    let some = some_candidates entries i has in
    ap (λ (l : List AuthIdentity). with_kerberos (kerberos.identified z (take 1 (map credentials.AuthIdentity l)))) some.1
    ∙ ap (λ (s : Stage). with_kerberos (kerberos.identified_at s z (credentials.AuthIdentity has.entry ∷ []))) stage

pub and_false : (b : Bool) → (b && false) ≡ false
and_false true = refl
and_false false = refl

module _ {D P : Type 0} (meet : Meeting D P) where
  open meet use {told, calls, faults, laws, proxy as p, client as a, server as b, kdc as kdc_first, matching, client_config, server_config}
  open meet use {client_is, server_is, come}

  abbrev i : AuthIdentity
  i = matching.identity

  pub short : length (inner_of i.username) ≤ 49153
  short = short_name i matching.identity_is matching.short

  abbrev pub mine : PackageListConfig
  mine = packages_in client_config

  abbrev pub url : Option (List ℕ)
  url = url_for client_config.kdcs (domain_of i.username)

  abbrev pub origin : Origin
  origin = client_origin meet

  abbrev pub new : M
  new = made_of origin

  abbrev pub aside : Bool
  aside = come.ip && mine.ntlm

  abbrev pub v_of : Protocol → PackageListConfig → NegotiateState → List (List ℕ) → Bool → Values
  v_of = client_values client_config i matching.identity_is

  abbrev pub first_args : StepArgs
  first_args = client_args (handle_of i) a.settings.target None

  pub picked : IsPick come.begins mine.ntlm come.picked
  picked = picked_by come.begins mine.ntlm ((packages_in server_config).kerberos && is_kerberos_hand (protocol_of come.server_hand))
      (packages_in server_config).ntlm come.picked come.picks

  pub begun : hand_first aside (hand_of new) ≡ come.begins
  begun = begins_same come.ip mine client_config come.client_hand url ∙ sym come.begins_is

  pub served_none : served (hand_of new) mine url ≡ None
  served_none = never_again mine client_config come.client_hand url

  -- what comes before its first step
  pub led_first :
      runs (spnego_client come.ip (v_of (hand_of new) mine states.Initial [] true) first_args) new ≡
      runs (client_at states.Initial (v_of (hand_first aside (hand_of new)) (packages_first aside mine) states.Initial [] true) first_args)
      (object_first aside (hand_of new) client_config.client_computer_name new)
  led_first = led client_config i matching.identity_is come.ip (hand_of new) mine states.Initial [] true first_args new refl refl
      (λ _. served_none)

  pub server_picks : (x : Picked) → come.picked ≡ x → pick (offer come.begins mine.ntlm) (packages_in server_config)
      (hand_of (made_of come.server_hand))
      ≡ Some x
  server_picks x is =
      ap (λ (q : Protocol). pick (offer come.begins mine.ntlm) (packages_in server_config) q) (hand_is come.server_hand)
      ∙ come.picks ∙ ap Some is

  abbrev pub key : List ℕ
  key = key_for i (challenge_of come.server_hand)

  pub kerberos_picked : come.begins ≡ Kerberos → come.picked.choice ≡ choices.MsKerberos →
      come.picked ≡ record { choice = choices.MsKerberos; index = 0 }
  kerberos_picked by is = subst (λ (x : Choice). OfKerberos mine.ntlm x come.picked) is
      (subst (λ (q : Protocol). IsPick q mine.ntlm come.picked) by picked)

  -- the second identifier of Kerberos is never picked, since the first is offered with it
  pub never_second : come.begins ≡ Kerberos → come.picked.choice ≡ choices.Kerberos → ⊥
  never_second by is = subst (λ (x : Choice). OfKerberos mine.ntlm x come.picked) is
      (subst (λ (q : Protocol). IsPick q mine.ntlm come.picked) by picked)

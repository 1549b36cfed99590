-- A negotiation of matching ends in which the client begins with Kerberos, and the server picks NTLM: five messages of the client.
use Rattle.std.proofs.Common.{◌≡◌, ◌&&◌, ℕ, zero, suc, ◌≤◌, ◌<◌, Bool, true, false, List, [], length, None, Some}
use Rattle.std.proofs.Common.{refl, ap, sym, ◌∙◌, subst, arith}
use Rattle.sspi_types.specs.declared.security_status.SecurityStatus.TheVariants as statuses
use Rattle.sspi_names.specs.declared.identity.AuthIdentity.{AuthIdentity}
use Rattle.sspi_mech.specs.declared.step.Step.{Step}
use Rattle.sspi_types.specs.Counting.{counted_on}
use Rattle.sspi_mech.specs.Ntlm.{ntlm_with}
use Rattle.sspi_negotiate.specs.declared.package_list.PackageListConfig.{PackageListConfig}
use Rattle.sspi_negotiate.specs.declared.pick.Choice.{Choice}
use Rattle.sspi_negotiate.specs.declared.pick.Choice.TheVariants as choices
use Rattle.sspi_negotiate.specs.declared.protocol.NegotiatedProtocol.TheVariants as hands
use Rattle.sspi_negotiate.specs.declared.protocol.Protocol.{Protocol}
use Rattle.sspi_negotiate.specs.declared.protocol.Protocol.TheVariants.{Ntlm, Kerberos}
use Rattle.sspi_negotiate.specs.declared.state.NegotiateState.TheVariants as states
use Rattle.sspi_negotiate.specs.Client.{spnego_client}
use Rattle.sspi_negotiate.specs.Hand.{hand_of, in_place_of_kerberos}
use Rattle.sspi_negotiate.specs.New.{packages_in}
use Rattle.sspi_negotiate.specs.Pick.{pick}
use Rattle.sspi_negotiate.specs.Server.{spnego_server}
use Rattle.sspi_negotiate.specs.Values.{Values}
use Rattle.sspi_credssp.specs.ServerTurn.{server_args}
use Rattle.sspi_completeness.specs.Negotiating.{SuitNtlm, HasFirstKey, kdc_url, challenge_of}
use Rattle.sspi_completeness.proofs.Courses.{Meeting, IsCourse}
use Rattle.sspi_completeness.proofs.NtlmRound.{token_length}
use Rattle.sspi_completeness.proofs.NtlmSteps as by_ntlm
use Rattle.sspi_completeness.proofs.Runs.{M, Ends, runs, made_of}
use Rattle.sspi_completeness.proofs.SpnegoBegins.{led_ntlm, led_kerberos}
use Rattle.sspi_completeness.proofs.SpnegoEnds.{named_by, at_rest, Leads, at_once}
use Rattle.sspi_completeness.proofs.SpnegoTokens.{offer, list_text, init_text, init_text_short, targ_text, targ_text_short}
use Rattle.sspi_completeness.proofs.SpnegoTokens.{targ_text_speaks}
use Rattle.sspi_completeness.proofs.Rows.{IsPick, OfKerberos, ntlm_knows, short, mine, new, v_of}
use Rattle.sspi_completeness.proofs.Rows.{first_args, picked, server_picks, key}
use Rattle.sspi_completeness.proofs.KerberosStart.{start, offering, paired, first_leads, told_token}

module _ {D P : Type 0} (meet : Meeting D P) where
  open meet use {told, calls, faults, laws, proxy as p, client as a, server as b, kdc as kdc_first, matching, client_config, server_config}
  open meet use {client_is, server_is, come}

  abbrev Course : ℕ → Bool → Type 0
  Course = IsCourse meet

  abbrev i : AuthIdentity
  i = matching.identity

  module _ (by : come.begins ≡ Kerberos)
      (first : HasFirstKey (told kdc_first) (calls kdc_first) (kdc_url client_config come.client_hand i.username) i.username)
      (change : come.picked.choice ≡ choices.Ntlm) (suits : SuitNtlm come.server_hand i) where
    abbrev challenge : List ℕ
    challenge = challenge_of come.server_hand

    change_is : ((mine meet).ntlm ≡ true) × (come.picked ≡ record { choice = choices.Ntlm; index = 2 })
    change_is = subst (λ (x : Choice). OfKerberos (mine meet).ntlm x come.picked) change
        (subst (λ (q : Protocol). IsPick q (mine meet).ntlm come.picked) by (picked meet))

    changes_it : pick (offer Kerberos true) (packages_in server_config) (hand_of (made_of come.server_hand))
        ≡ Some (record { choice = choices.Ntlm; index = 2 })
    changes_it =
        ap (λ (n : Bool). pick (offer Kerberos n) (packages_in server_config) (hand_of (made_of come.server_hand))) (sym change_is.0)
        ∙ ap (λ (q : Protocol). pick (offer q (mine meet).ntlm) (packages_in server_config) (hand_of (made_of come.server_hand))) (sym by)
        ∙ (server_picks meet) _ change_is.1

    away : (come.ip && true) ≡ false
    away = ap (λ (n : Bool). come.ip && n) (sym change_is.0) ∙ (start meet by first).aside

    abbrev zeros : List ℕ
    zeros = challenge_of (in_place_of_kerberos client_config.client_computer_name)

    abbrev text : List ℕ
    text = list_text Kerberos true

    abbrev client_steps_c : ℕ → Step
    client_steps_c zero = record { status = statuses.ContinueNeeded; output = init_text Kerberos true }
    client_steps_c (suc zero) = record { status = statuses.ContinueNeeded; output = targ_text by_ntlm.begin_token }
    client_steps_c (suc (suc zero)) = record {
      status = statuses.ContinueNeeded;
      output = targ_text (by_ntlm.proof_token i challenge (key meet) text);
    }
    client_steps_c (suc (suc (suc n))) = record { status = statuses.Ok; output = [] }

    abbrev server_steps_c : ℕ → Step
    server_steps_c zero = record { status = statuses.ContinueNeeded; output = targ_text by_ntlm.pick_token }
    server_steps_c (suc zero) = record {
      status = statuses.ContinueNeeded;
      output = targ_text (by_ntlm.challenge_token None challenge);
    }
    server_steps_c (suc (suc n)) = record { status = statuses.Ok; output = targ_text (by_ntlm.end_token (key meet) text) }

    abbrev alone : PackageListConfig
    alone = record { ntlm = true; kerberos = false }

    abbrev client_values_at_c : ℕ → Values
    client_values_at_c zero = (offering meet by first) true
    client_values_at_c (suc zero) = (v_of meet) Ntlm alone states.InProgress (offer Kerberos true) true
    client_values_at_c (suc (suc zero)) = (v_of meet) Ntlm alone states.VerifyMic (offer Kerberos true) true
    client_values_at_c (suc (suc (suc n))) = (v_of meet) Ntlm alone states.Ok (offer Kerberos true) true

    abbrev client_objects_c : ℕ → M
    client_objects_c zero = (paired meet by first)
    client_objects_c (suc zero) = by_ntlm.sent zeros
    client_objects_c (suc (suc zero)) = by_ntlm.proved i challenge zeros 0
    client_objects_c (suc (suc (suc n))) = by_ntlm.proved i challenge zeros 1

    abbrev server_values_at_c : ℕ → Values
    server_values_at_c zero = by_ntlm.server_values server_config matching.entries Ntlm states.InProgress (offer Kerberos true)
    server_values_at_c (suc zero) = by_ntlm.server_values server_config matching.entries Ntlm states.InProgress (offer Kerberos true)
    server_values_at_c (suc (suc n)) = by_ntlm.server_values server_config matching.entries Ntlm states.Ok (offer Kerberos true)

    abbrev server_objects_c : ℕ → M
    server_objects_c zero = hands.Ntlm (ntlm_with challenge)
    server_objects_c (suc zero) = by_ntlm.challenged i challenge
    server_objects_c (suc (suc n)) = by_ntlm.keyed_by i challenge 1 1

    leads_c : (n : ℕ) → n ≤ 2 → Leads (told kdc_first) (counted_on (calls kdc_first))
        (runs (spnego_client come.ip (named_by (client_values_at_c n) (client_objects_c n))
        ((told_token meet by first) (server_steps_c n).output)) (client_objects_c n))
        (client_values_at_c (suc n)) (client_steps_c (suc n)) (client_objects_c (suc n)) (counted_on (calls kdc_first))
    leads_c zero less = at_once
        (led_kerberos client_config i matching.identity_is come.ip (record { ntlm = true; kerberos = true }) states.InProgress
        (offer Kerberos true) true ((told_token meet by first) (server_steps_c 0).output) (paired meet by first) refl refl away
        ∙ by_ntlm.changes client_config i matching.identity_is (short meet) suits.no_guest challenge suits.challenge Kerberos true
        a.settings.target (paired meet by first))
    leads_c (suc zero) less = at_once
        (led_ntlm client_config i matching.identity_is come.ip states.InProgress (offer Kerberos true) true
        ((told_token meet by first) (server_steps_c 1).output) (client_objects_c 1) refl refl
        ∙ by_ntlm.answers_challenge client_config i matching.identity_is (short meet) suits.no_guest challenge suits.challenge Kerberos
        a.settings.target
        zeros)
    leads_c (suc (suc zero)) less = at_once
        (led_ntlm client_config i matching.identity_is come.ip states.VerifyMic (offer Kerberos true) true
        ((told_token meet by first) (server_steps_c 2).output) (client_objects_c 2) refl refl
        ∙ by_ntlm.ends client_config i matching.identity_is (short meet)
        suits.no_guest challenge suits.challenge Kerberos a.settings.target zeros)
    leads_c (suc (suc (suc n))) less = absurd (omega (arith, less))

    accepts_c : (n : ℕ) → suc n ≤ 2 →
        runs (spnego_server (named_by (server_values_at_c n) (server_objects_c n))
        (server_args None (Some (client_steps_c (suc n)).output))) (server_objects_c n) ≡
        Ends (server_values_at_c (suc n)) (server_steps_c (suc n)) (server_objects_c (suc n))
    accepts_c zero less = by_ntlm.server_challenges server_config matching.entries i matching.identity_is (short meet) challenge
        suits.challenge
        matching.entry Kerberos
    accepts_c (suc zero) less = by_ntlm.server_ends server_config matching.entries i matching.identity_is (short meet) challenge
        suits.challenge
        matching.entry Kerberos
    accepts_c (suc (suc n)) less = absurd (omega (arith, less))

    client_rests_c : (n : ℕ) → at_rest (client_objects_c n) ≡ client_objects_c n
    client_rests_c zero = refl
    client_rests_c (suc zero) = refl
    client_rests_c (suc (suc zero)) = refl
    client_rests_c (suc (suc (suc n))) = refl

    server_rests_c : (n : ℕ) → at_rest (server_objects_c n) ≡ server_objects_c n
    server_rests_c zero = refl
    server_rests_c (suc zero) = refl
    server_rests_c (suc (suc n)) = refl

    client_goes_c : (n : ℕ) → n ≤ 2 → (client_steps_c n).status ≡ statuses.ContinueNeeded
    client_goes_c zero less = refl
    client_goes_c (suc zero) less = refl
    client_goes_c (suc (suc zero)) less = refl
    client_goes_c (suc (suc (suc n))) less = absurd (omega (arith, less))

    server_goes_c : (n : ℕ) → n < 2 → (server_steps_c n).status ≡ statuses.ContinueNeeded
    server_goes_c zero less = refl
    server_goes_c (suc zero) less = refl
    server_goes_c (suc (suc n)) less = absurd (omega (arith, less))

    client_short_c : (n : ℕ) → n ≤ 3 → length (client_steps_c n).output ≤ 65536
    client_short_c zero less = init_text_short Kerberos true
    client_short_c (suc zero) less = targ_text_short by_ntlm.begin_token (omega arith)
    client_short_c (suc (suc zero)) less = targ_text_short (by_ntlm.proof_token i challenge (key meet) text)
        (by_ntlm.proof_little i challenge (key meet) text (token_length i challenge (short meet)))
    client_short_c (suc (suc (suc n))) less = omega arith

    server_short_c : (n : ℕ) → n ≤ 2 → length (server_steps_c n).output ≤ 65536
    server_short_c zero less = targ_text_short by_ntlm.pick_token (omega arith)
    server_short_c (suc zero) less = targ_text_short (by_ntlm.challenge_token None challenge)
        (by_ntlm.challenge_little challenge suits.challenge)
    server_short_c (suc (suc n)) less = targ_text_short (by_ntlm.end_token (key meet) text) (by_ntlm.end_little (key meet) text)

    first_changes : Leads (told kdc_first) (calls kdc_first)
        (runs (spnego_client come.ip ((v_of meet) (hand_of (new meet)) (mine meet) states.Initial [] true) (first_args meet)) (new meet))
        (client_values_at_c 0) (client_steps_c 0) (client_objects_c 0) (counted_on (calls kdc_first))
    first_changes = subst (λ (n : Bool). Leads (told kdc_first) (calls kdc_first)
        (runs (spnego_client come.ip ((v_of meet) (hand_of (new meet)) (mine meet) states.Initial [] true) (first_args meet)) (new meet))
        ((offering meet by first) n) (record { status = statuses.ContinueNeeded; output = init_text Kerberos n }) (paired meet by first)
        (counted_on (calls kdc_first)))
        change_is.0 (first_leads meet by first)

    pub changed_course : Course 2 true
    changed_course = record {
      client_step = client_steps_c;
      server_step = server_steps_c;
      client_value = client_values_at_c;
      server_value = server_values_at_c;
      client_object = client_objects_c;
      server_object = server_objects_c;
      call = λ n. counted_on (calls kdc_first);
      key = (key meet);
      leads_first = first_changes;
      leads = leads_c;
      accepts_first = by_ntlm.server_changes server_config matching.entries i come.server_hand suits.challenge changes_it;
      accepts = accepts_c;
      client_rests = client_rests_c;
      server_rests = server_rests_c;
      client_goes = client_goes_c;
      client_ends = refl;
      server_goes = server_goes_c;
      server_ends = tt;
      server_speaks = λ early. targ_text_speaks (by_ntlm.end_token (key meet) text);
      client_short = client_short_c;
      server_short = server_short_c;
      client_keyed = record { keyed = refl; own_is = refl; peers_are = refl };
      server_keyed = record { keyed = refl; own_is = refl; peers_are = refl };
      named = refl;
      knows = λ y rest. ntlm_knows matching.entries i challenge matching.entry y rest;
    }

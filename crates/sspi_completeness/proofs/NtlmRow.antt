-- A negotiation of matching ends in which the client begins with NTLM, and the server picks it: four messages of the client.
use Rattle.std.proofs.Common.{◌≡◌, ◌&&◌, ℕ, zero, suc, ◌≤◌, ◌<◌, Bool, true, false, List, [], length, None, Some}
use Rattle.std.proofs.Common.{refl, ap, sym, ◌∙◌, subst, arith}
use Rattle.sspi_types.specs.declared.security_status.SecurityStatus.TheVariants as statuses
use Rattle.sspi_names.specs.declared.identity.AuthIdentity.{AuthIdentity}
use Rattle.sspi_mech.specs.declared.step.Step.{Step}
use Rattle.sspi_mech.specs.Calls.{StepArgs}
use Rattle.sspi_mech.specs.Ntlm.{ntlm_with}
use Rattle.sspi_tokens.specs.Oids.{ntlm_ssp}
use Rattle.sspi_negotiate.specs.declared.package_list.PackageListConfig.{PackageListConfig}
use Rattle.sspi_negotiate.specs.declared.pick.Choice.TheVariants as choices
use Rattle.sspi_negotiate.specs.declared.protocol.NegotiatedProtocol.TheVariants as hands
use Rattle.sspi_negotiate.specs.declared.protocol.Protocol.{Protocol}
use Rattle.sspi_negotiate.specs.declared.protocol.Protocol.TheVariants.{Ntlm}
use Rattle.sspi_negotiate.specs.declared.state.NegotiateState.TheVariants as states
use Rattle.sspi_negotiate.specs.Client.{client_at, spnego_client}
use Rattle.sspi_negotiate.specs.Hand.{hand_of}
use Rattle.sspi_negotiate.specs.New.{packages_in}
use Rattle.sspi_negotiate.specs.Pick.{pick}
use Rattle.sspi_negotiate.specs.Server.{spnego_server}
use Rattle.sspi_negotiate.specs.Values.{Values}
use Rattle.sspi_credssp.specs.ClientTurn.{client_args}
use Rattle.sspi_credssp.specs.ServerTurn.{server_args}
use Rattle.sspi_completeness.specs.Negotiating.{SuitNtlm, challenge_of}
use Rattle.sspi_completeness.proofs.Courses.{Meeting, IsCourse}
use Rattle.sspi_completeness.proofs.NtlmRound.{token_length}
use Rattle.sspi_completeness.proofs.NtlmSteps as by_ntlm
use Rattle.sspi_completeness.proofs.Runs.{M, Ends, runs, made_of}
use Rattle.sspi_completeness.proofs.SpnegoBegins.{handle_of, hand_first, packages_first, object_first}
use Rattle.sspi_completeness.proofs.SpnegoBegins.{ntlm_begins, served, led}
use Rattle.sspi_completeness.proofs.SpnegoBegins.{led_ntlm}
use Rattle.sspi_completeness.proofs.SpnegoEnds.{named_by, at_rest, Leads, at_once}
use Rattle.sspi_completeness.proofs.SpnegoTokens.{offer, list_text, init_text, init_text_short, targ_text, targ_text_short}
use Rattle.sspi_completeness.proofs.SpnegoTokens.{targ_text_speaks}
use Rattle.sspi_completeness.proofs.Rows.{IsPick, ntlm_knows, short, mine, url, origin, new, aside, v_of}
use Rattle.sspi_completeness.proofs.Rows.{first_args, picked, begun, served_none, led_first, server_picks, key}

module _ {D P : Type 0} (meet : Meeting D P) where
  open meet use {told, calls, faults, laws, proxy as p, client as a, server as b, kdc as kdc_first, matching, client_config, server_config}
  open meet use {client_is, server_is, come}

  abbrev Course : ℕ → Bool → Type 0
  Course = IsCourse meet

  abbrev i : AuthIdentity
  i = matching.identity

  module _ (by : come.begins ≡ Ntlm) (suits : SuitNtlm come.server_hand i) where
    may : (mine meet).ntlm ≡ true
    may = (subst (λ (q : Protocol). IsPick q (mine meet).ntlm come.picked) by (picked meet)).0

    picks_it : pick (offer Ntlm true) (packages_in server_config) (hand_of (made_of come.server_hand))
        ≡ Some (record { choice = choices.Ntlm; index = 0 })
    picks_it =
        ap (λ (n : Bool). pick (offer Ntlm n) (packages_in server_config) (hand_of (made_of come.server_hand))) (sym may)
        ∙ ap (λ (q : Protocol). pick (offer q (mine meet).ntlm) (packages_in server_config) (hand_of (made_of come.server_hand))) (sym by)
        ∙ (server_picks meet) _ (subst (λ (q : Protocol). IsPick q (mine meet).ntlm come.picked) by (picked meet)).1

    hand_is_ntlm : hand_first (aside meet) (hand_of (new meet)) ≡ Ntlm
    hand_is_ntlm = (begun meet) ∙ by

    first_object : (own : List ℕ) ×
        (object_first (aside meet) (hand_of (new meet)) client_config.client_computer_name (new meet) ≡ hands.Ntlm (ntlm_with own))
    first_object = ntlm_begins (aside meet) (origin meet) client_config.client_computer_name hand_is_ntlm

    abbrev own : List ℕ
    own = first_object.0

    abbrev left : Bool
    left = (packages_first (aside meet) (mine meet)).kerberos

    first_packages : packages_first (aside meet) (mine meet) ≡ record { ntlm = true; kerberos = left }
    first_packages = ap (λ (n : Bool). record (packages_first (aside meet) (mine meet)) { ntlm = n }) (at (aside meet))
      where
        at : (x : Bool) → (packages_first x (mine meet)).ntlm ≡ true
        at true = may
        at false = may

    left_none : (x : Bool) → hand_first x (hand_of (new meet)) ≡ Ntlm → x ≡ false →
        served Ntlm (record { ntlm = true; kerberos = (packages_first x (mine meet)).kerberos }) (url meet) ≡ None
    left_none true is none = absurd (cc (none))
    left_none false is none = subst (λ (q : Protocol). served q (mine meet) (url meet) ≡ None) is (served_none meet)

    first_run : runs (spnego_client come.ip ((v_of meet) (hand_of (new meet)) (mine meet) states.Initial [] true) (first_args meet))
        (new meet) ≡
        Ends ((v_of meet) Ntlm (record { ntlm = true; kerberos = left }) states.InProgress (offer Ntlm true) true)
        (record { status = statuses.ContinueNeeded; output = init_text Ntlm true }) (by_ntlm.sent own)
    first_run =
        (led_first meet)
        ∙ ap (λ (q : Protocol). runs (client_at states.Initial
        ((v_of meet) q (packages_first (aside meet) (mine meet)) states.Initial [] true) (first_args meet))
        (object_first (aside meet) (hand_of (new meet)) client_config.client_computer_name (new meet))) hand_is_ntlm
        ∙ ap (λ (k : PackageListConfig). runs (client_at states.Initial ((v_of meet) Ntlm k states.Initial [] true) (first_args meet))
        (object_first (aside meet) (hand_of (new meet)) client_config.client_computer_name (new meet))) first_packages
        ∙ ap (λ (m : M). runs (client_at states.Initial
        ((v_of meet) Ntlm (record { ntlm = true; kerberos = left }) states.Initial [] true) (first_args meet)) m)
        first_object.1
        ∙ by_ntlm.begins client_config i matching.identity_is (short meet) suits.no_guest (challenge_of come.server_hand)
        suits.challenge left
        a.settings.target own

    abbrev given : List ℕ → StepArgs
    given output = client_args (handle_of i) a.settings.target (Some output)

    abbrev client_steps : ℕ → Step
    client_steps zero = record { status = statuses.ContinueNeeded; output = init_text Ntlm true }
    client_steps (suc zero) = record {
      status = statuses.ContinueNeeded;
      output = targ_text (by_ntlm.proof_token i (challenge_of come.server_hand) (key meet) (list_text Ntlm true));
    }
    client_steps (suc (suc n)) = record { status = statuses.Ok; output = [] }

    abbrev server_steps : ℕ → Step
    server_steps zero = record {
      status = statuses.ContinueNeeded;
      output = targ_text (by_ntlm.challenge_token (Some ntlm_ssp) (challenge_of come.server_hand));
    }
    server_steps (suc n) = record { status = statuses.Ok; output = targ_text (by_ntlm.end_token (key meet) (list_text Ntlm true)) }

    abbrev client_values_at : ℕ → Values
    client_values_at zero = (v_of meet) Ntlm (record { ntlm = true; kerberos = left }) states.InProgress (offer Ntlm true) true
    client_values_at (suc zero) = (v_of meet) Ntlm (record { ntlm = true; kerberos = false }) states.VerifyMic (offer Ntlm true) true
    client_values_at (suc (suc n)) = (v_of meet) Ntlm (record { ntlm = true; kerberos = false }) states.Ok (offer Ntlm true) true

    abbrev client_objects : ℕ → M
    client_objects zero = by_ntlm.sent own
    client_objects (suc zero) = by_ntlm.proved i (challenge_of come.server_hand) own 0
    client_objects (suc (suc n)) = by_ntlm.proved i (challenge_of come.server_hand) own 1

    abbrev server_values_at : ℕ → Values
    server_values_at zero = by_ntlm.server_values server_config matching.entries Ntlm states.InProgress (offer Ntlm true)
    server_values_at (suc n) = by_ntlm.server_values server_config matching.entries Ntlm states.Ok (offer Ntlm true)

    abbrev server_objects : ℕ → M
    server_objects zero = by_ntlm.challenged i (challenge_of come.server_hand)
    server_objects (suc n) = by_ntlm.keyed_by i (challenge_of come.server_hand) 1 1

    second_run : runs (spnego_client come.ip (client_values_at 0) (given (server_steps 0).output)) (client_objects 0) ≡
        Ends (client_values_at 1) (client_steps 1) (client_objects 1)
    second_run =
        let args = given (server_steps 0).output in
        let none : (come.ip && true) ≡ false → served Ntlm (record { ntlm = true; kerberos = left }) (url meet) ≡ None =
        λ away. left_none (aside meet) hand_is_ntlm (ap (λ (n : Bool). come.ip && n) may ∙ away) in
        led client_config i matching.identity_is come.ip Ntlm (record { ntlm = true; kerberos = left }) states.InProgress
        (offer Ntlm true) true
        args (by_ntlm.sent own) refl refl none
        ∙ at (come.ip && true)
      where
        at : (x : Bool) →
            runs (client_at states.InProgress ((v_of meet) (hand_first x Ntlm) (packages_first x (record { ntlm = true; kerberos = left }))
            states.InProgress (offer Ntlm true) true) (given (server_steps 0).output))
            (object_first x Ntlm client_config.client_computer_name (by_ntlm.sent own)) ≡
            Ends (client_values_at 1) (client_steps 1) (client_objects 1)
        at true = by_ntlm.answers_pick client_config i matching.identity_is (short meet) suits.no_guest (challenge_of come.server_hand)
            suits.challenge Ntlm false a.settings.target own
        at false = by_ntlm.answers_pick client_config i matching.identity_is (short meet) suits.no_guest (challenge_of come.server_hand)
            suits.challenge Ntlm left a.settings.target own

    leads : (n : ℕ) → n ≤ 1 → Leads (told kdc_first) (calls kdc_first)
        (runs (spnego_client come.ip (named_by (client_values_at n) (client_objects n)) (given (server_steps n).output)) (client_objects n))
        (client_values_at (suc n)) (client_steps (suc n)) (client_objects (suc n)) (calls kdc_first)
    leads zero less = at_once second_run
    leads (suc zero) less = at_once
        (led_ntlm client_config i matching.identity_is come.ip states.VerifyMic (offer Ntlm true) true (given (server_steps 1).output)
        (client_objects 1) refl refl
        ∙ by_ntlm.ends client_config i matching.identity_is (short meet) suits.no_guest (challenge_of come.server_hand) suits.challenge Ntlm
        a.settings.target own)
    leads (suc (suc n)) less = absurd (omega (arith, less))

    accepts : (n : ℕ) → suc n ≤ 1 →
        runs (spnego_server (named_by (server_values_at n) (server_objects n)) (server_args None (Some (client_steps (suc n)).output)))
        (server_objects n) ≡
        Ends (server_values_at (suc n)) (server_steps (suc n)) (server_objects (suc n))
    accepts zero less = by_ntlm.server_ends server_config matching.entries i matching.identity_is (short meet)
        (challenge_of come.server_hand)
        suits.challenge matching.entry Ntlm
    accepts (suc n) less = absurd (omega (arith, less))

    client_rests : (n : ℕ) → at_rest (client_objects n) ≡ client_objects n
    client_rests zero = refl
    client_rests (suc zero) = refl
    client_rests (suc (suc n)) = refl

    server_rests : (n : ℕ) → at_rest (server_objects n) ≡ server_objects n
    server_rests zero = refl
    server_rests (suc n) = refl

    client_goes : (n : ℕ) → n ≤ 1 → (client_steps n).status ≡ statuses.ContinueNeeded
    client_goes zero less = refl
    client_goes (suc zero) less = refl
    client_goes (suc (suc n)) less = absurd (omega (arith, less))

    server_goes : (n : ℕ) → n < 1 → (server_steps n).status ≡ statuses.ContinueNeeded
    server_goes zero less = refl
    server_goes (suc n) less = absurd (omega (arith, less))

    client_short : (n : ℕ) → n ≤ 2 → length (client_steps n).output ≤ 65536
    client_short zero less = init_text_short Ntlm true
    client_short (suc zero) less = targ_text_short (by_ntlm.proof_token i (challenge_of come.server_hand) (key meet) (list_text Ntlm true))
        (by_ntlm.proof_little i (challenge_of come.server_hand) (key meet) (list_text Ntlm true)
        (token_length i (challenge_of come.server_hand) (short meet)))
    client_short (suc (suc n)) less = omega arith

    server_short : (n : ℕ) → n ≤ 1 → length (server_steps n).output ≤ 65536
    server_short zero less = targ_text_short (by_ntlm.challenge_token (Some ntlm_ssp) (challenge_of come.server_hand))
        (by_ntlm.some_challenge_little (challenge_of come.server_hand) suits.challenge)
    server_short (suc n) less = targ_text_short (by_ntlm.end_token (key meet) (list_text Ntlm true))
        (by_ntlm.end_little (key meet) (list_text Ntlm true))

    pub ntlm_course : Course 1 true
    ntlm_course = record {
      client_step = client_steps;
      server_step = server_steps;
      client_value = client_values_at;
      server_value = server_values_at;
      client_object = client_objects;
      server_object = server_objects;
      call = λ n. calls kdc_first;
      key = (key meet);
      leads_first = at_once first_run;
      leads = leads;
      accepts_first = by_ntlm.server_begins server_config matching.entries i come.server_hand suits.challenge picks_it;
      accepts = accepts;
      client_rests = client_rests;
      server_rests = server_rests;
      client_goes = client_goes;
      client_ends = refl;
      server_goes = server_goes;
      server_ends = tt;
      server_speaks = λ early. targ_text_speaks (by_ntlm.end_token (key meet) (list_text Ntlm true));
      client_short = client_short;
      server_short = server_short;
      client_keyed = record { keyed = refl; own_is = refl; peers_are = refl };
      server_keyed = record { keyed = refl; own_is = refl; peers_are = refl };
      named = refl;
      knows = λ y rest. ntlm_knows matching.entries i (challenge_of come.server_hand) matching.entry y rest;
    }

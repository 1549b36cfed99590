-- A negotiation of matching ends in which the client begins with Kerberos, and the server picks it: four messages of the client.
use Rattle.std.proofs.Common.{◌≡◌, ℕ, zero, suc, ◌≤◌, ◌<◌, Bool, true, false, List, [], length, None, Some}
use Rattle.std.proofs.Common.{refl, ap, sym, ◌∙◌, arith}
use Rattle.sspi_types.specs.declared.security_status.SecurityStatus.TheVariants as statuses
use Rattle.sspi_names.specs.declared.identity.AuthIdentity.{AuthIdentity}
use Rattle.sspi_mech.specs.declared.kerberos.realms.Realms.{Realms}
use Rattle.sspi_mech.specs.declared.step.Step.{Step}
use Rattle.sspi_types.specs.Counting.{counted_on}
use Rattle.sspi_mech.specs.Calls.{StepArgs}
use Rattle.sspi_mech.specs.Kerberos.{kerberos_with}
use Rattle.sspi_mech.specs.KerberosLogon.{url_by}
use Rattle.sspi_mech.specs.KerberosMessages.{tgs_reply}
use Rattle.sspi_mech.specs.KerberosStage.{KerberosState}
use Rattle.sspi_negotiate.specs.declared.package_list.PackageListConfig.{PackageListConfig}
use Rattle.sspi_negotiate.specs.declared.pick.Choice.TheVariants as choices
use Rattle.sspi_negotiate.specs.declared.protocol.NegotiatedProtocol.TheVariants as hands
use Rattle.sspi_negotiate.specs.declared.protocol.Protocol.{Protocol}
use Rattle.sspi_negotiate.specs.declared.protocol.Protocol.TheVariants.{Kerberos}
use Rattle.sspi_negotiate.specs.declared.state.NegotiateState.TheVariants as states
use Rattle.sspi_negotiate.specs.Client.{spnego_client}
use Rattle.sspi_negotiate.specs.Hand.{hand_of}
use Rattle.sspi_negotiate.specs.New.{packages_in}
use Rattle.sspi_negotiate.specs.Pick.{pick}
use Rattle.sspi_negotiate.specs.Server.{spnego_server}
use Rattle.sspi_negotiate.specs.Values.{Values}
use Rattle.sspi_credssp.specs.ClientTurn.{client_args}
use Rattle.sspi_credssp.specs.ServerTurn.{server_args}
use Rattle.sspi_completeness.specs.Negotiating.{HasSessionKey, kdc_url}
use Rattle.sspi_completeness.specs.Negotiating.{ticket_of}
use Rattle.sspi_completeness.proofs.Courses.{Meeting, IsCourse}
use Rattle.sspi_completeness.proofs.KerberosSteps as by_kerberos
use Rattle.sspi_completeness.proofs.NtlmSteps as by_ntlm
use Rattle.sspi_completeness.proofs.Runs.{M, Ends, runs, made_of, used}
use Rattle.sspi_completeness.proofs.SpnegoBegins.{handle_of}
use Rattle.sspi_completeness.proofs.SpnegoBegins.{BeginsByKerberos, with_ticket}
use Rattle.sspi_completeness.proofs.SpnegoBegins.{led_kerberos}
use Rattle.sspi_completeness.proofs.SpnegoEnds.{named_by, at_rest, Leads, at_once, asking}
use Rattle.sspi_completeness.proofs.SpnegoTokens.{offer, list_text, init_text, init_text_short, targ_text, targ_text_short}
use Rattle.sspi_completeness.proofs.Rows.{kerberos_knows, and_false, short, mine, new, aside, v_of}
use Rattle.sspi_completeness.proofs.Rows.{server_picks}
use Rattle.sspi_completeness.proofs.KerberosStart.{start, found, offering, paired, first_leads}

module _ {D P : Type 0} (meet : Meeting D P) where
  open meet use {told, calls, faults, laws, proxy as p, client as a, server as b, kdc as kdc_first, matching, client_config, server_config}
  open meet use {client_is, server_is, come}

  abbrev Course : ℕ → Bool → Type 0
  Course = IsCourse meet

  abbrev i : AuthIdentity
  i = matching.identity

  module _ (by : come.begins ≡ Kerberos) (picks_it : come.picked ≡ record { choice = choices.MsKerberos; index = 0 })
      (session : HasSessionKey (told kdc_first) (calls kdc_first) (kdc_url client_config come.client_hand i.username) i.username
      (ticket_of come.server_hand)) where
    abbrev start_by : BeginsByKerberos (aside meet) (mine meet) i.username (kdc_url client_config come.client_hand i.username) (new meet)
    start_by = start meet by session.first

    abbrev found_by : url_by start_by.realms.kdc_url start_by.realms.kdcs i.username ≡ Some session.first.at
    found_by = found meet by session.first

    holds_ticket : (realms : Realms) × (made_of come.server_hand ≡ hands.Kerberos
        (kerberos_with realms.kdc_url realms.kdcs (Some session.sent)))
    holds_ticket = with_ticket come.server_hand session.sent session.ticket_is

    abbrev realms : Realms
    realms = holds_ticket.0

    abbrev session_key : List ℕ
    session_key = session.key

    abbrev list : List (List ℕ)
    list = offer Kerberos (mine meet).ntlm

    abbrev kerberos_text : List ℕ
    kerberos_text = list_text Kerberos (mine meet).ntlm

    abbrev client_steps_k : ℕ → Step
    client_steps_k zero = record { status = statuses.ContinueNeeded; output = init_text Kerberos (mine meet).ntlm }
    client_steps_k (suc zero) = record {
      status = statuses.ContinueNeeded;
      output = targ_text (by_kerberos.name_token i.username session_key);
    }
    client_steps_k (suc (suc n)) = record { status = statuses.Ok; output = targ_text (by_kerberos.last_token session_key kerberos_text) }

    abbrev server_steps_k : ℕ → Step
    server_steps_k zero = record { status = statuses.ContinueNeeded; output = targ_text (by_kerberos.ticket_token session.sent) }
    server_steps_k (suc zero) = record {
      status = statuses.ContinueNeeded;
      output = targ_text (by_kerberos.shown_token session_key kerberos_text);
    }
    server_steps_k (suc (suc n)) = record { status = statuses.Ok; output = [] }

    abbrev only : PackageListConfig
    only = record { ntlm = false; kerberos = true }

    abbrev client_values_k : ℕ → Values
    client_values_k zero = offering meet by session.first (mine meet).ntlm
    client_values_k (suc zero) = (v_of meet) Kerberos only states.InProgress list true
    client_values_k (suc (suc n)) = (v_of meet) Kerberos only states.Ok list true

    abbrev sent_k : KerberosState
    sent_k = by_kerberos.session_sent client_config i matching.identity_is (short meet) start_by.realms start_by.ticket session.first.at
        found_by
        (mine meet).ntlm session.first.key session.first.key_length session.sent session.ticket_length session_key session.key_length

    abbrev client_objects_k : ℕ → M
    client_objects_k zero = paired meet by session.first
    client_objects_k (suc zero) = hands.Kerberos sent_k
    client_objects_k (suc (suc n)) = hands.Kerberos (by_kerberos.ended client_config i matching.identity_is (short meet) start_by.realms
        start_by.ticket session.first.at found_by (mine meet).ntlm session.first.key session.first.key_length session.sent
        session.ticket_length
        session_key session.key_length 1 1)

    abbrev server_values_k : ℕ → Values
    server_values_k zero = by_ntlm.server_values server_config matching.entries Kerberos states.InProgress list
    server_values_k (suc zero) = by_ntlm.server_values server_config matching.entries Kerberos states.VerifyMic list
    server_values_k (suc (suc n)) = by_ntlm.server_values server_config matching.entries Kerberos states.Ok list

    abbrev admitted : ℕ → ℕ → KerberosState
    admitted = by_kerberos.admitted server_config matching.entries i matching.identity_is (short meet) matching.entry realms session.sent
        session.ticket_length session_key session.key_length (mine meet).ntlm

    abbrev server_objects_k : ℕ → M
    server_objects_k zero = hands.Kerberos (by_kerberos.ticket_sent server_config matching.entries i matching.identity_is (short meet)
        matching.entry
        realms session.sent session.ticket_length session_key session.key_length (mine meet).ntlm)
    server_objects_k (suc zero) = hands.Kerberos (admitted 1 0)
    server_objects_k (suc (suc n)) = hands.Kerberos (admitted 1 1)

    abbrev calls_k : ℕ → ℕ
    calls_k zero = counted_on (calls kdc_first)
    calls_k (suc n) = counted_on (counted_on (calls kdc_first))

    abbrev given_k : ℕ → StepArgs
    given_k n = client_args (handle_of i) a.settings.target (Some (server_steps_k n).output)

    second_leads : Leads (told kdc_first) (counted_on (calls kdc_first))
        (runs (spnego_client come.ip (client_values_k 0) (given_k 0)) (client_objects_k 0))
        (client_values_k 1) (client_steps_k 1) (client_objects_k 1) (counted_on (counted_on (calls kdc_first)))
    second_leads =
        asking session.first.replies
        (by_kerberos.answering client_config i matching.identity_is (short meet) start_by.realms start_by.ticket session.first.at found_by
        (mine meet).ntlm session.first.key session.first.key_length session.sent session.ticket_length session_key session.key_length)
        (by_kerberos.second_question client_config i matching.identity_is (short meet) start_by.realms start_by.ticket session.first.at
        found_by
        (mine meet).ntlm session.first.key session.first.key_length session.sent session.ticket_length session_key session.key_length)
        (by_kerberos.session_asked client_config i matching.identity_is (short meet) start_by.realms start_by.ticket session.first.at
        found_by
        (mine meet).ntlm session.first.key session.first.key_length session.sent session.ticket_length session_key session.key_length)
        (tgs_reply session_key) (λ sealed unsealed. hands.Kerberos (used sent_k sealed unsealed)) session.first.tells
        (led_kerberos client_config i matching.identity_is come.ip (record { ntlm = (mine meet).ntlm; kerberos = true })
        states.InProgress list true
        (given_k 0) (client_objects_k 0) refl refl start_by.aside
        ∙ by_kerberos.asks_session client_config i matching.identity_is (short meet) start_by.realms start_by.ticket session.first.at
        found_by
        (mine meet).ntlm session.first.key session.first.key_length session.sent session.ticket_length session_key session.key_length
        a.settings.target)
        session.reply
        (by_kerberos.sends_session client_config i matching.identity_is (short meet) start_by.realms start_by.ticket session.first.at
        found_by
        (mine meet).ntlm session.first.key session.first.key_length session.sent session.ticket_length session_key session.key_length)
        (λ sealed unsealed. refl)

    leads_k : (n : ℕ) → n ≤ 1 → Leads (told kdc_first) (calls_k n)
        (runs (spnego_client come.ip (named_by (client_values_k n) (client_objects_k n)) (given_k n)) (client_objects_k n))
        (client_values_k (suc n)) (client_steps_k (suc n)) (client_objects_k (suc n)) (calls_k (suc n))
    leads_k zero less = second_leads
    leads_k (suc zero) less = at_once
        (led_kerberos client_config i matching.identity_is come.ip only states.InProgress list true (given_k 1) (client_objects_k 1)
        refl refl
        (and_false come.ip)
        ∙ by_kerberos.ends client_config i matching.identity_is (short meet) start_by.realms start_by.ticket session.first.at found_by
        (mine meet).ntlm session.first.key session.first.key_length session.sent session.ticket_length session_key session.key_length
        a.settings.target)
    leads_k (suc (suc n)) less = absurd (omega (arith, less))

    accepts_first_k :
        runs (spnego_server (by_ntlm.server_values server_config matching.entries (hand_of (made_of come.server_hand)) states.Initial [])
        (server_args None (Some (client_steps_k 0).output))) (made_of come.server_hand) ≡
        Ends (server_values_k 0) (server_steps_k 0) (server_objects_k 0)
    accepts_first_k =
        ap (λ (m : M). runs (spnego_server (by_ntlm.server_values server_config matching.entries (hand_of m) states.Initial [])
        (server_args None (Some (client_steps_k 0).output))) m) holds_ticket.1
        ∙ by_kerberos.server_begins server_config matching.entries i matching.identity_is (short meet) matching.entry realms session.sent
        session.ticket_length session_key session.key_length (mine meet).ntlm
        (ap (λ (m : M). pick list (packages_in server_config) (hand_of m)) (sym holds_ticket.1)
        ∙ ap (λ (q : Protocol). pick (offer q (mine meet).ntlm) (packages_in server_config) (hand_of (made_of come.server_hand))) (sym by)
        ∙ (server_picks meet) _ picks_it)

    accepts_k : (n : ℕ) → suc n ≤ 2 →
        runs (spnego_server (named_by (server_values_k n) (server_objects_k n))
        (server_args None (Some (client_steps_k (suc n)).output))) (server_objects_k n) ≡
        Ends (server_values_k (suc n)) (server_steps_k (suc n)) (server_objects_k (suc n))
    accepts_k zero less = by_kerberos.server_shows server_config matching.entries i matching.identity_is (short meet) matching.entry realms
        session.sent session.ticket_length session_key session.key_length (mine meet).ntlm
    accepts_k (suc zero) less = by_kerberos.server_ends server_config matching.entries i matching.identity_is (short meet)
        matching.entry realms
        session.sent session.ticket_length session_key session.key_length (mine meet).ntlm
    accepts_k (suc (suc n)) less = absurd (omega (arith, less))

    client_rests_k : (n : ℕ) → at_rest (client_objects_k n) ≡ client_objects_k n
    client_rests_k zero = refl
    client_rests_k (suc zero) = refl
    client_rests_k (suc (suc n)) = refl

    server_rests_k : (n : ℕ) → at_rest (server_objects_k n) ≡ server_objects_k n
    server_rests_k zero = refl
    server_rests_k (suc zero) = refl
    server_rests_k (suc (suc n)) = refl

    client_goes_k : (n : ℕ) → n ≤ 1 → (client_steps_k n).status ≡ statuses.ContinueNeeded
    client_goes_k zero less = refl
    client_goes_k (suc zero) less = refl
    client_goes_k (suc (suc n)) less = absurd (omega (arith, less))

    server_goes_k : (n : ℕ) → n < 2 → (server_steps_k n).status ≡ statuses.ContinueNeeded
    server_goes_k zero less = refl
    server_goes_k (suc zero) less = refl
    server_goes_k (suc (suc n)) less = absurd (omega (arith, less))

    client_short_k : (n : ℕ) → n ≤ 2 → length (client_steps_k n).output ≤ 65536
    client_short_k zero less = init_text_short Kerberos (mine meet).ntlm
    client_short_k (suc zero) less = targ_text_short (by_kerberos.name_token i.username session_key)
        (by_kerberos.name_little i.username session_key (short meet) session.key_length)
    client_short_k (suc (suc n)) less = targ_text_short (by_kerberos.last_token session_key kerberos_text)
        (by_kerberos.last_little session_key kerberos_text)

    server_short_k : (n : ℕ) → n ≤ 1 → length (server_steps_k n).output ≤ 65536
    server_short_k zero less = targ_text_short (by_kerberos.ticket_token session.sent)
        (by_kerberos.ticket_little session.sent session.ticket_length)
    server_short_k (suc zero) less = targ_text_short (by_kerberos.shown_token session_key kerberos_text)
        (by_kerberos.shown_little session_key kerberos_text)
    server_short_k (suc (suc n)) less = omega arith

    pub kerberos_course : Course 1 false
    kerberos_course = record {
      client_step = client_steps_k;
      server_step = server_steps_k;
      client_value = client_values_k;
      server_value = server_values_k;
      client_object = client_objects_k;
      server_object = server_objects_k;
      call = calls_k;
      key = session_key;
      leads_first = first_leads meet by session.first;
      leads = leads_k;
      accepts_first = accepts_first_k;
      accepts = accepts_k;
      client_rests = client_rests_k;
      server_rests = server_rests_k;
      client_goes = client_goes_k;
      client_ends = refl;
      server_goes = server_goes_k;
      server_ends = tt;
      server_speaks = λ early. absurd (cc (early));
      client_short = client_short_k;
      server_short = server_short_k;
      client_keyed = record { keyed = refl; own_is = refl; peers_are = refl };
      server_keyed = record { keyed = refl; own_is = refl; peers_are = refl };
      named = refl;
      knows = λ y rest. kerberos_knows matching.entries i matching.entry (admitted 1 1)
          (record { name = i.username; user_to_user = true }) y refl rest;
    }

-- How a client begins a negotiation with Kerberos: it asks for a first key, and offers what it may use.
use Rattle.std.proofs.Common.{◌≡◌, ℕ, Bool, true, List, [], Some}
use Rattle.std.proofs.Common.{refl, ap, sym, ◌∙◌}
use Rattle.sspi_types.specs.declared.security_status.SecurityStatus.TheVariants as statuses
use Rattle.sspi_names.specs.declared.identity.AuthIdentity.{AuthIdentity}
use Rattle.sspi_names.specs.declared.network.NetworkRequest.{NetworkRequest}
use Rattle.sspi_types.specs.Counting.{counted_on}
use Rattle.sspi_mech.specs.Calls.{StepArgs}
use Rattle.sspi_mech.specs.Kerberos.{kerberos_with}
use Rattle.sspi_mech.specs.KerberosLogon.{url_by}
use Rattle.sspi_mech.specs.KerberosMessages.{as_reply}
use Rattle.sspi_mech.specs.KerberosStage.{KerberosState}
use Rattle.sspi_negotiate.specs.declared.package_list.PackageListConfig.{PackageListConfig}
use Rattle.sspi_negotiate.specs.declared.protocol.NegotiatedProtocol.TheVariants as hands
use Rattle.sspi_negotiate.specs.declared.protocol.Protocol.TheVariants.{Kerberos}
use Rattle.sspi_negotiate.specs.declared.state.NegotiateState.TheVariants as states
use Rattle.sspi_negotiate.specs.Client.{client_at, spnego_client}
use Rattle.sspi_negotiate.specs.Hand.{hand_of}
use Rattle.sspi_negotiate.specs.Values.{Values}
use Rattle.sspi_credssp.specs.ClientTurn.{client_args}
use Rattle.sspi_completeness.specs.Negotiating.{HasFirstKey, kdc_url}
use Rattle.sspi_completeness.proofs.Courses.{Meeting}
use Rattle.sspi_completeness.proofs.KerberosSteps as by_kerberos
use Rattle.sspi_completeness.proofs.Runs.{M, Waits, runs, used}
use Rattle.sspi_completeness.proofs.SpnegoBegins.{handle_of, hand_first, packages_first, object_first}
use Rattle.sspi_completeness.proofs.SpnegoBegins.{kerberos_begins, BeginsByKerberos, begins_allowed}
use Rattle.sspi_completeness.proofs.SpnegoEnds.{Leads, asking}
use Rattle.sspi_completeness.proofs.SpnegoTokens.{offer, init_text}
use Rattle.sspi_completeness.proofs.Rows.{short, mine, url, new, aside, v_of}
use Rattle.sspi_completeness.proofs.Rows.{first_args, begun, led_first}

module _ {D P : Type 0} (meet : Meeting D P) where
  open meet use {told, calls, faults, laws, proxy as p, client as a, server as b, kdc as kdc_first, matching, client_config, server_config}
  open meet use {client_is, server_is, come}

  abbrev i : AuthIdentity
  i = matching.identity

  module _ (by : come.begins ≡ Kerberos)
      (first : HasFirstKey (told kdc_first) (calls kdc_first) (kdc_url client_config come.client_hand i.username) i.username) where
    pub start : BeginsByKerberos (aside meet) (mine meet) i.username (kdc_url client_config come.client_hand i.username) (new meet)
    start = kerberos_begins (aside meet) (mine meet) client_config come.client_hand i.username ((begun meet) ∙ by)

    pub found : url_by start.realms.kdc_url start.realms.kdcs i.username ≡ Some first.at
    found = start.url_is ∙ first.url_is

    pub both_may : (mine meet) ≡ record { ntlm = (mine meet).ntlm; kerberos = true }
    both_may = ap (λ (k : Bool). record (mine meet) { kerberos = k })
        (begins_allowed come.ip client_config come.client_hand (url meet) come.client_first (sym come.begins_is ∙ by))

    abbrev pub offering : Bool → Values
    offering ntlm = (v_of meet) Kerberos (record { ntlm = ntlm; kerberos = true }) states.InProgress (offer Kerberos ntlm) true

    abbrev pub paired : M
    paired = hands.Kerberos (by_kerberos.paired client_config i matching.identity_is (short meet) start.realms start.ticket first.at
        found (mine meet).ntlm
        first.key first.key_length)

    abbrev pub asked : KerberosState
    asked = by_kerberos.asked client_config i matching.identity_is (short meet) start.realms start.ticket first.at found
        (mine meet).ntlm first.key
        first.key_length

    abbrev pub opening : Values
    opening = by_kerberos.opening client_config i matching.identity_is (short meet) start.realms start.ticket first.at found
        (mine meet).ntlm first.key
        first.key_length a.settings.target

    abbrev pub first_question : NetworkRequest
    first_question = by_kerberos.first_question client_config i matching.identity_is (short meet) start.realms start.ticket first.at
        found (mine meet).ntlm
        first.key first.key_length

    pub first_wait : runs (spnego_client come.ip ((v_of meet) (hand_of (new meet)) (mine meet) states.Initial [] true)
        (first_args meet)) (new meet) ≡
        Waits opening first_question asked
    first_wait =
        (led_first meet)
        ∙ ap (λ (x : Bool). runs (client_at states.Initial
        ((v_of meet) (hand_first x (hand_of (new meet))) (packages_first x (mine meet)) states.Initial [] true)
        (first_args meet)) (object_first x (hand_of (new meet)) client_config.client_computer_name (new meet))) start.aside
        ∙ ap (λ (m : M). runs (client_at states.Initial ((v_of meet) (hand_of m) (mine meet) states.Initial [] true) (first_args meet))
        m) start.object
        ∙ ap (λ (k : PackageListConfig). runs (client_at states.Initial ((v_of meet) Kerberos k states.Initial [] true) (first_args meet))
        (hands.Kerberos (kerberos_with start.realms.kdc_url start.realms.kdcs start.ticket))) both_may
        ∙ by_kerberos.begins client_config i matching.identity_is (short meet) start.realms start.ticket first.at found (mine meet).ntlm
        first.key
        first.key_length a.settings.target

    pub first_leads : Leads (told kdc_first) (calls kdc_first)
        (runs (spnego_client come.ip ((v_of meet) (hand_of (new meet)) (mine meet) states.Initial [] true) (first_args meet)) (new meet))
        (offering (mine meet).ntlm) (record { status = statuses.ContinueNeeded; output = init_text Kerberos (mine meet).ntlm }) paired
        (counted_on (calls kdc_first))
    first_leads =
        asking first.replies opening first_question asked (as_reply first.key)
        (λ sealed unsealed. hands.Kerberos (used
        (by_kerberos.paired client_config i matching.identity_is (short meet) start.realms start.ticket
        first.at found (mine meet).ntlm first.key first.key_length) sealed unsealed)) first.tells first_wait first.reply
        (by_kerberos.offers_it client_config i matching.identity_is (short meet) start.realms start.ticket first.at found
        (mine meet).ntlm first.key
        first.key_length a.settings.target)
        (λ sealed unsealed. refl)

    abbrev pub told_token : List ℕ → StepArgs
    told_token output = client_args (handle_of i) a.settings.target (Some output)

-- The steps of a negotiation that comes to Kerberos, evaluated.
use Rattle.std.proofs.Common.{◌≡◌, ◌==◌, ℕ, ◌≤◌, length, map, Bool, true, false, List, [], ◌∷◌, Option, None, Some, Result}
use Rattle.std.proofs.Common.{Ok, refl, ap, ◌∙◌, arith, if◌then◌else◌, option_map}
use Rattle.std.proofs.lemmas.Bool.{ne_eqb, le-ltb}
use Rattle.std.proofs.lemmas.List.{length-append}
use Rattle.sspi_types.specs.declared.error_kind.ErrorKind.{ErrorKind}
use Rattle.sspi_types.specs.declared.error_kind.ErrorKind.TheVariants.{NoCredentials}
use Rattle.sspi_types.specs.declared.security_status.SecurityStatus.TheVariants as statuses
use Rattle.sspi_names.specs.declared.credentials.Credentials.TheVariants as credentials
use Rattle.sspi_names.specs.declared.identity.AuthIdentity.{AuthIdentity}
use Rattle.sspi_names.specs.declared.network.NetworkRequest.{NetworkRequest}
use Rattle.sspi_names.specs.Identity.{IsIdentity, identity_of}
use Rattle.sspi_names.specs.Name.{Name, inner_of}
use Rattle.sspi_names.proofs.Identities.{buffers_back}
use Rattle.sspi_mech.specs.declared.kerberos.logon.Logon.{Logon}
use Rattle.sspi_mech.specs.declared.kerberos.realms.Realms.{Realms}
use Rattle.sspi_mech.specs.declared.kerberos.stage.Stage.{Stage}
use Rattle.sspi_mech.specs.declared.kerberos.stage.Stage.TheVariants as stages
use Rattle.sspi_mech.specs.declared.protection.Direction.TheVariants.{FromClient, FromServer}
use Rattle.sspi_mech.specs.declared.step.Reply.TheVariants.{Answered}
use Rattle.sspi_mech.specs.Calls.{StepArgs}
use Rattle.sspi_mech.specs.Kerberos.{kerberos_with}
use Rattle.sspi_mech.specs.KerberosLogon.{name_in, name_or, logon_of, url_by, request_at}
use Rattle.sspi_mech.specs.KerberosMessages.{ticket_request, ticket_reply, ap_request, ap_reply, as_request, as_reply, tgs_request}
use Rattle.sspi_mech.specs.KerberosMessages.{tgs_reply}
use Rattle.sspi_mech.specs.KerberosMessages.{read_ticket}
use Rattle.sspi_mech.specs.KerberosReplies.{first_key_in, session_key_in}
use Rattle.sspi_mech.specs.KerberosStage.{KerberosState}
use Rattle.sspi_mech.specs.KerberosSteps as steps
use Rattle.sspi_mech.specs.Protection.{mic_of}
use Rattle.sspi_mech.proofs.KerberosMessages.{block_is_read, arrives, is_shown, length-reply_proof}
use Rattle.sspi_tokens.specs.declared.neg_result.NegResult.TheVariants.{AcceptComplete, AcceptIncomplete}
use Rattle.sspi_tokens.specs.declared.neg_token_init.NegTokenInit.{NegTokenInit}
use Rattle.sspi_tokens.specs.declared.neg_token_targ.NegTokenTarg.{NegTokenTarg}
use Rattle.sspi_tokens.specs.declared.oid.MechKind.{MechKind}
use Rattle.sspi_tokens.specs.Oids.{ms_krb5}
use Rattle.sspi_tokens.specs.Spelling.{spelled_targ}
use Rattle.sspi_tokens.proofs.Identifiers.{ms_kerberos_is}
use Rattle.sspi_negotiate.specs.declared.branch.Branch.TheVariants.{Opening, Answering}
use Rattle.sspi_negotiate.specs.declared.negotiate_config.NegotiateConfig.{NegotiateConfig}
use Rattle.sspi_negotiate.specs.declared.package_list.PackageListConfig.{PackageListConfig}
use Rattle.sspi_negotiate.specs.declared.pick.Choice.TheVariants as choices
use Rattle.sspi_negotiate.specs.declared.pick.Picked.{Picked}
use Rattle.sspi_negotiate.specs.declared.protocol.NegotiatedProtocol.TheVariants as hands
use Rattle.sspi_negotiate.specs.declared.protocol.Protocol.TheVariants as protocols
use Rattle.sspi_negotiate.specs.declared.state.NegotiateState.{NegotiateState}
use Rattle.sspi_negotiate.specs.declared.state.NegotiateState.TheVariants as states
use Rattle.sspi_negotiate.specs.Client.{first_step_of, client_at, at_initial, first_step, begun, offers, at_progress, chosen}
use Rattle.sspi_negotiate.specs.Client.{chooses_kerberos}
use Rattle.sspi_negotiate.specs.Client.{answers, stepped, spnego_resumed, resumes_opening, resumes_answering}
use Rattle.sspi_negotiate.specs.Known.{named}
use Rattle.sspi_negotiate.specs.Plan.{Goes, Stops, Identifies}
use Rattle.sspi_negotiate.specs.Rows.{targ, written, writes, signs_text, answers_signed, carries_on, completes_signed, verifies}
use Rattle.sspi_negotiate.specs.Rows.{verifies_text, identifies_among}
use Rattle.sspi_negotiate.specs.New.{packages_in}
use Rattle.sspi_negotiate.specs.Pick.{pick}
use Rattle.sspi_negotiate.specs.Server.{spnego_server, reads_list, picks, placed, first_token as first_accepted, goes_on, without_mic}
use Rattle.sspi_negotiate.specs.Server.{accepted}
use Rattle.sspi_negotiate.specs.Server as server
use Rattle.sspi_negotiate.specs.Values.{Values}
use Rattle.sspi_credssp.specs.ClientTurn.{client_args}
use Rattle.sspi_credssp.specs.Proxy.{candidates_of}
use Rattle.sspi_credssp.specs.ServerTurn.{server_args}
use Rattle.sspi_completeness.specs.Matching.{HasEntry}
use Rattle.sspi_completeness.proofs.NtlmOutcomes.{some_candidates}
use Rattle.sspi_completeness.proofs.NtlmSteps.{verified_mic, server_values}
use Rattle.sspi_completeness.proofs.Runs.{Ends, Waits, runs, on_move, kerberos_move, unless_refused, used}
use Rattle.sspi_completeness.proofs.SpnegoBegins.{client_values, handle_of}
use Rattle.sspi_completeness.proofs.SpnegoTokens.{offer, list_text, list_spelled, init_text, init_spelled, init_is, targ_text}
use Rattle.sspi_completeness.proofs.SpnegoTokens.{targ_spelled, targ_is}
use Rattle.sspi_completeness.proofs.SpnegoTokens.{IsLittle, mic_length}

-- ---- the tokens

-- the server's ticket, with its pick
abbrev pub ticket_token : List ℕ → NegTokenTarg
ticket_token ticket = targ AcceptIncomplete (Some ms_krb5) (Some (ticket_reply ticket)) None

-- the client's name and the session key, then the server's proof that it has that key and its MIC, then the client's MIC
abbrev pub name_token : Name → List ℕ → NegTokenTarg
name_token name key = targ AcceptIncomplete None (Some (ap_request (inner_of name) key)) None

abbrev pub shown_token : List ℕ → List ℕ → NegTokenTarg
shown_token key text = targ AcceptIncomplete None (Some (ap_reply key)) (Some (mic_of key FromServer 0 text))

abbrev pub last_token : List ℕ → List ℕ → NegTokenTarg
last_token key text = targ AcceptComplete None None (Some (mic_of key FromClient 0 text))

pub ticket_little : (ticket : List ℕ) → length ticket ≡ 32 → IsLittle (ticket_token ticket)
ticket_little ticket long = omega (arith, long)

pub name_little : (name : Name) (key : List ℕ) → length (inner_of name) ≤ 49153 → length key ≡ 32 → IsLittle (name_token name key)
name_little name key short long = let whole = length-append (inner_of name) key in omega (arith, whole, short, long)

pub shown_little : (key text : List ℕ) → IsLittle (shown_token key text)
shown_little key text =
    let mic = mic_length key FromServer 0 text in let proof = length-reply_proof key in omega (arith, mic, proof)

pub last_little : (key text : List ℕ) → IsLittle (last_token key text)
last_little key text = let mic = mic_length key FromClient 0 text in omega (arith, mic)

-- ---- the KDC

pub first_key_read : (key : List ℕ) → length key ≡ 32 → first_key_in (Answered (as_reply key)) ≡ Ok key
first_key_read key long = rw (block_is_read key long) refl

pub session_key_read : (key : List ℕ) → length key ≡ 32 → session_key_in (Answered (tgs_reply key)) ≡ Ok key
session_key_read key long = rw (block_is_read key long) refl

ticket_read : (ticket : List ℕ) → length ticket ≡ 32 → read_ticket (ticket_reply ticket) ≡ Some ticket
ticket_read ticket long = block_is_read ticket long

name_back : (x : Option Name) (password : List ℕ) (i : AuthIdentity) →
    option_map (λ name. record { username = name; password = record { value = password } }) x ≡ Some i → x ≡ Some i.username
name_back None password i e = absurd cc
name_back (Some n) password i e =
    let whole : AuthIdentity = record { username = n; password = record { value = password } } in
    let same : whole ≡ i = cc in
    ap (λ (x : AuthIdentity). Some x.username) same

pub name_is : (i : AuthIdentity) → IsIdentity i → name_in (handle_of i) ≡ Ok i.username
unfolding identity_of
name_is i is = ap name_or (name_back _ _ i (buffers_back i is))

-- a client logs on under its name at its KDC
pub logs_on : (realms : Realms) (i : AuthIdentity) (url : List ℕ) → IsIdentity i → length (inner_of i.username) ≤ 49153 →
    url_by realms.kdc_url realms.kdcs i.username ≡ Some url → logon_of realms (handle_of i) ≡ Ok (record { name = i.username; url = url })
logs_on realms i url is short found =
    rw (name_is i is, found, le-ltb 65535 (length (inner_of i.username)) (omega (arith, short))) refl

-- ---- the objects

abbrev at_stage : Realms → Option (List ℕ) → Stage → Option (List ℕ) → ℕ → ℕ → KerberosState
at_stage realms ticket stage key signed verified = record {
  realms = realms;
  ticket = ticket;
  stage = stage;
  protection = record { key = key; sealings = 0; unsealings = 0; signings = signed; verifications = verified };
}

-- ---- the client

module _ (config : NegotiateConfig) (i : AuthIdentity) (is : IsIdentity i) (short : length (inner_of i.username) ≤ 49153)
    (realms : Realms) (own : Option (List ℕ)) (url : List ℕ) (found : url_by realms.kdc_url realms.kdcs i.username ≡ Some url)
    (ntlm : Bool) (first : List ℕ) (first_long : length first ≡ 32) where
  abbrev v_of : PackageListConfig → NegotiateState → List (List ℕ) → Bool → Values
  v_of = client_values config i is protocols.Kerberos

  abbrev list : List (List ℕ)
  list = offer protocols.Kerberos ntlm

  abbrev text : List ℕ
  text = list_text protocols.Kerberos ntlm

  abbrev both : PackageListConfig
  both = record { ntlm = ntlm; kerberos = true }

  abbrev alone : PackageListConfig
  alone = record { ntlm = false; kerberos = true }

  abbrev pub new : KerberosState
  new = kerberos_with realms.kdc_url realms.kdcs own

  abbrev pub asked : KerberosState
  asked = at_stage realms own stages.PairingAsked None 0 0

  abbrev pub paired : KerberosState
  paired = at_stage realms own (stages.TicketAsked first) None 0 0

  abbrev first_args : List ℕ → StepArgs
  first_args target = client_args (handle_of i) target None

  abbrev args_with : List ℕ → NegTokenTarg → StepArgs
  args_with target token = client_args (handle_of i) target (Some (targ_text token))

  abbrev pub opening : List ℕ → Values
  opening target = record (v_of both states.Initial [] true) { branch = Opening (first_step_of (first_args target)) }

  abbrev pub first_question : NetworkRequest
  first_question = request_at url (as_request (inner_of i.username))

  -- it asks for a first key
  pub begins : (target : List ℕ) →
      runs (client_at states.Initial (v_of both states.Initial [] true) (first_args target)) (hands.Kerberos new) ≡
      Waits (opening target) first_question asked
  unfolding client_at at_initial first_step
  begins target =
      ap (λ (o : Result Logon ErrorKind). on_move (kerberos_move (steps.begins new true o)) (opening target)
      (λ n step. runs (begun (v_of both states.Initial [] true) step) n)) (logs_on realms i url is short found)

  -- and offers what it may use, with its request for the server's ticket
  pub offers_it : (target : List ℕ) (sealed unsealed : ℕ) →
      runs (spnego_resumed (opening target) (Answered (as_reply first))) (hands.Kerberos (used asked sealed unsealed)) ≡
      Ends (v_of both states.InProgress list true)
      (record { status = statuses.ContinueNeeded; output = init_text protocols.Kerberos ntlm })
      (hands.Kerberos (used paired sealed unsealed))
  unfolding resumes_opening offers
  offers_it target sealed unsealed =
      let v = v_of both states.Initial [] true in
      ap (λ (o : Result (List ℕ) ErrorKind). on_move (kerberos_move (steps.pairs (used asked sealed unsealed) o)) (opening target)
      (λ n step. runs (begun v step) n)) (first_key_read first first_long)
      ∙ ap (λ (o : Option (List ℕ)). runs (written o v (v_of both states.InProgress list true) statuses.ContinueNeeded)
      (hands.Kerberos (used paired sealed unsealed))) (init_spelled protocols.Kerberos ntlm)

  module _ (ticket : List ℕ) (ticket_long : length ticket ≡ 32) (key : List ℕ) (key_long : length key ≡ 32) where
    abbrev going : Values
    going = v_of alone states.InProgress list true

    abbrev pub answering : Values
    answering = record going { branch = Answering (ticket_token ticket) }

    abbrev pub session_asked : KerberosState
    session_asked = at_stage realms own (stages.SessionAsked i.username) None 0 0

    abbrev pub session_sent : KerberosState
    session_sent = at_stage realms own (stages.SessionSent i.username) (Some key) 0 0

    abbrev pub ended : ℕ → ℕ → KerberosState
    ended signed verified = at_stage realms own (stages.Ended i.username) (Some key) signed verified

    abbrev pub second_question : NetworkRequest
    second_question = request_at url (tgs_request first ticket)

    -- it asks for a session key
    pub asks_session : (target : List ℕ) →
        runs (client_at states.InProgress (v_of both states.InProgress list true) (args_with target (ticket_token ticket)))
        (hands.Kerberos paired) ≡ Waits answering second_question session_asked
    unfolding client_at chooses_kerberos answers
    asks_session target =
        let token = ticket_token ticket in
        let args = args_with target token in
        let v = v_of both states.InProgress list true in
        ap (λ (o : Option NegTokenTarg). runs (at_progress o v args) (hands.Kerberos paired))
        (targ_is token (ticket_little ticket ticket_long))
        ∙ ap (λ (kind : MechKind). runs (chosen (Some kind) token v args) (hands.Kerberos paired)) ((ms_kerberos_is ms_krb5).1 refl)
        ∙ ap (λ (o : Option (List ℕ)). on_move (kerberos_move (steps.takes_ticket paired first o (handle_of i))) answering
        (λ n step. runs (stepped token going step) n)) (ticket_read ticket ticket_long)
        ∙ ap (λ (o : Result Logon ErrorKind). on_move (kerberos_move (steps.asks_by paired first ticket o)) answering
        (λ n step. runs (stepped token going step) n)) (logs_on realms i url is short found)

    -- and sends it
    pub sends_session : (sealed unsealed : ℕ) →
        runs (spnego_resumed answering (Answered (tgs_reply key))) (hands.Kerberos (used session_asked sealed unsealed)) ≡
        Ends going (record { status = statuses.ContinueNeeded; output = targ_text (name_token i.username key) })
        (hands.Kerberos (used session_sent sealed unsealed))
    unfolding resumes_answering carries_on writes
    sends_session sealed unsealed =
        let token = ticket_token ticket in
        ap (λ (o : Result (List ℕ) ErrorKind). on_move (kerberos_move (steps.sends (used session_asked sealed unsealed) i.username o))
        answering (λ n step. runs (stepped token going step) n)) (session_key_read key key_long)
        ∙ ap (λ (o : Option (List ℕ)). runs (written o going going statuses.ContinueNeeded)
        (hands.Kerberos (used session_sent sealed unsealed)))
        (targ_spelled (name_token i.username key) (name_little i.username key short key_long))

    -- it takes the server's proof and MIC, and makes its own
    pub ends : (target : List ℕ) →
        runs (client_at states.InProgress going (args_with target (shown_token key text))) (hands.Kerberos session_sent) ≡
        Ends (v_of alone states.Ok list true) (record { status = statuses.Ok; output = targ_text (last_token key text) })
        (hands.Kerberos (ended 1 1))
    unfolding client_at answers answers_signed writes
    ends target =
        let token = shown_token key text in
        let args = args_with target token in
        let over = v_of alone states.Ok list true in
        let later = completes_signed going [] in
        ap (λ (o : Option NegTokenTarg). runs (at_progress o going args) (hands.Kerberos session_sent))
        (targ_is token (shown_little key text))
        ∙ ap (λ (o : Result (Unit {0}) ErrorKind). on_move (kerberos_move (steps.ends session_sent i.username o))
        (record going { branch = Answering token }) (λ n step. runs (stepped token going step) n)) (is_shown key)
        ∙ ap (λ (o : Option (List ℕ)). runs (verifies_text (mic_of key FromServer 0 text) o going later) (hands.Kerberos (ended 0 0)))
        (list_spelled protocols.Kerberos ntlm)
        ∙ ap (λ (o : Option ErrorKind). unless_refused o (runs later (hands.Kerberos (ended 0 1)))) (verified_mic key FromServer text)
        ∙ ap (λ (o : Option (List ℕ)). runs (signs_text o going (λ mic. written (spelled_targ (targ AcceptComplete None None (Some mic)))
        going over statuses.Ok)) (hands.Kerberos (ended 0 1))) (list_spelled protocols.Kerberos ntlm)
        ∙ ap (λ (o : Option (List ℕ)). runs (written o going over statuses.Ok) (hands.Kerberos (ended 1 1)))
        (targ_spelled (last_token key text) (last_little key text))

-- ---- the server

module _ (config : NegotiateConfig) (entries : List AuthIdentity) (i : AuthIdentity) (is : IsIdentity i)
    (short : length (inner_of i.username) ≤ 49153) (has : HasEntry entries i) (realms : Realms) (ticket : List ℕ)
    (ticket_long : length ticket ≡ 32) (key : List ℕ) (key_long : length key ≡ 32) (ntlm : Bool) where
  abbrev s_of : NegotiateState → List (List ℕ) → Values
  s_of = server_values config entries protocols.Kerberos

  abbrev kept_list : List (List ℕ)
  kept_list = offer protocols.Kerberos ntlm

  abbrev kept_text : List ℕ
  kept_text = list_text protocols.Kerberos ntlm

  abbrev pub ticket_sent : KerberosState
  ticket_sent = at_stage realms (Some ticket) stages.TicketSent None 0 0

  abbrev pub admitted : ℕ → ℕ → KerberosState
  admitted signed verified =
      at_stage realms (Some ticket) (stages.Accepted (record { name = i.username; user_to_user = true })) (Some key) signed verified

  -- it picks Kerberos, and sends its ticket
  pub server_begins : pick kept_list (packages_in config) protocols.Kerberos ≡ Some (record { choice = choices.MsKerberos; index = 0 }) →
      runs (spnego_server (s_of states.Initial []) (server_args None (Some (init_text protocols.Kerberos ntlm))))
      (hands.Kerberos (kerberos_with realms.kdc_url realms.kdcs (Some ticket))) ≡
      Ends (s_of states.InProgress kept_list) (record { status = statuses.ContinueNeeded; output = targ_text (ticket_token ticket) })
      (hands.Kerberos ticket_sent)
  unfolding reads_list picks placed first_accepted goes_on writes
  server_begins picked =
      let args = server_args None (Some (init_text protocols.Kerberos ntlm)) in
      let new = hands.Kerberos (kerberos_with realms.kdc_url realms.kdcs (Some ticket)) in
      ap (λ (o : Option NegTokenInit). runs (server.at_initial o (s_of states.Initial []) args) new) (init_is protocols.Kerberos ntlm)
      ∙ ap (λ (o : Option Picked). runs (picks o kept_list (Some ticket_request) (s_of states.Initial []) args) new) picked
      ∙ ap (λ (o : Option (List ℕ)). runs (written o (s_of states.Initial kept_list) (s_of states.InProgress kept_list)
      statuses.ContinueNeeded) (hands.Kerberos ticket_sent)) (targ_spelled (ticket_token ticket) (ticket_little ticket ticket_long))

  -- it takes the client's name and the session key, shows that it has that, and makes its MIC
  pub server_shows :
      runs (spnego_server (s_of states.InProgress kept_list) (server_args None (Some (targ_text (name_token i.username key)))))
      (hands.Kerberos ticket_sent) ≡
      Ends (s_of states.VerifyMic kept_list) (record { status = statuses.ContinueNeeded; output = targ_text (shown_token key kept_text) })
      (hands.Kerberos (admitted 1 0))
  unfolding without_mic answers_signed writes
  server_shows =
      let token = name_token i.username key in
      let v = s_of states.InProgress kept_list in
      let later = s_of states.VerifyMic kept_list in
      ap (λ (o : Option NegTokenTarg). runs (server.at_progress o v (server_args None (Some (targ_text token))))
      (hands.Kerberos ticket_sent))
      (targ_is token (name_little i.username key short key_long))
      ∙ ap (λ (o : Result _ ErrorKind). on_move (kerberos_move (steps.admits ticket_sent true o)) v
      (λ n step. runs (accepted token v step) n))
      (arrives i.username key is.name (omega (arith, short)) key_long)
      ∙ ap (λ (o : Option (List ℕ)). runs (signs_text o v (λ mic. written
      (spelled_targ (targ AcceptIncomplete None (Some (ap_reply key)) (Some mic))) v later statuses.ContinueNeeded))
      (hands.Kerberos (admitted 0 0))) (list_spelled protocols.Kerberos ntlm)
      ∙ ap (λ (o : Option (List ℕ)). runs (written o v later statuses.ContinueNeeded) (hands.Kerberos (admitted 1 0)))
      (targ_spelled (shown_token key kept_text) (shown_little key kept_text))

  named_are : named i.username entries ≡ candidates_of entries i.username
  unfolding named candidates_of
  named_are = refl

  some_found : (e : AuthIdentity) (rest : List AuthIdentity) → (length (map credentials.AuthIdentity (e ∷ rest)) == 0) ≡ false
  some_found e rest = ne_eqb _ 0 (λ none. omega (arith, none))

  -- it takes the client's MIC
  pub server_ends :
      runs (spnego_server (s_of states.VerifyMic kept_list) (server_args None (Some (targ_text (last_token key kept_text)))))
      (hands.Kerberos (admitted 1 0)) ≡
      Ends (s_of states.Ok kept_list) (record { status = statuses.Ok; output = [] }) (hands.Kerberos (admitted 1 1))
  server_ends =
      let token = last_token key kept_text in
      let v = s_of states.VerifyMic kept_list in
      let some = some_candidates entries i has in
      let e = has.entry in
      let over = Goes (s_of states.Ok kept_list) (record { status = statuses.Ok; output = [] }) in
      let checked = verifies (mic_of key FromClient 0 kept_text) v over in
      ap (λ (o : Option NegTokenTarg). runs (server.at_verify_mic o v) (hands.Kerberos (admitted 1 0)))
      (targ_is token (last_little key kept_text))
      ∙ ap (λ (l : List AuthIdentity). runs (identifies_among (map credentials.AuthIdentity l) v checked) (hands.Kerberos (admitted 1 0)))
      (named_are ∙ some.1)
      ∙ ap (λ (b : Bool). runs (if b then Stops v NoCredentials else Identifies (map credentials.AuthIdentity (e ∷ some.0)) v checked)
      (hands.Kerberos (admitted 1 0))) (some_found e some.0)
      ∙ ap (λ (o : Option (List ℕ)). runs (verifies_text (mic_of key FromClient 0 kept_text) o v over) (hands.Kerberos (admitted 1 0)))
      (list_spelled protocols.Kerberos ntlm)
      ∙ ap (λ (o : Option ErrorKind). unless_refused o (runs over (hands.Kerberos (admitted 1 1)))) (verified_mic key FromClient kept_text)

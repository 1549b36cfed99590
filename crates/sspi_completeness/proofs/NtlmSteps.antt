-- The steps of a negotiation that comes to NTLM, evaluated: the mechanism that the client begins with, or one that the server picks in
-- its place.
use Rattle.std.proofs.Common.{◌≡◌, ◌==◌, not, ℕ, ◌≤◌, length, map, Bool, true, false, List, [], ◌∷◌, Option, None, Some, Result}
use Rattle.std.proofs.Common.{refl, ap, sym, ◌∙◌, arith, if◌then◌else◌}
use Rattle.std.proofs.lemmas.Bool.{ne_eqb}
use Rattle.sspi_types.specs.declared.error_kind.ErrorKind.{ErrorKind}
use Rattle.sspi_types.specs.declared.error_kind.ErrorKind.TheVariants.{MessageAltered, NoCredentials}
use Rattle.sspi_types.specs.declared.security_status.SecurityStatus.TheVariants as statuses
use Rattle.sspi_names.specs.declared.credentials.Credentials.TheVariants as credentials
use Rattle.sspi_names.specs.declared.identity.AuthIdentity.{AuthIdentity}
use Rattle.sspi_names.specs.Identity.{IsIdentity, buffers_of}
use Rattle.sspi_names.specs.Name.{inner_of}
use Rattle.sspi_names.specs.Utf16.{text_of}
use Rattle.sspi_mech.specs.declared.ntlm.stage.Stage.TheVariants.{NegotiateSent, AuthenticateSent, ChallengeSent, Claimed}
use Rattle.sspi_mech.specs.declared.protection.Direction.{Direction}
use Rattle.sspi_mech.specs.declared.protection.Direction.TheVariants.{FromClient, FromServer}
use Rattle.sspi_mech.specs.Calls.{StepArgs}
use Rattle.sspi_mech.specs.KerberosMessages.{ticket_request}
use Rattle.sspi_mech.specs.Ntlm.{ntlm_with}
use Rattle.sspi_mech.specs.NtlmMessages.{negotiate_message, challenge_message}
use Rattle.sspi_mech.specs.NtlmStage.{NtlmState}
use Rattle.sspi_mech.specs.NtlmSteps.{Outcome}
use Rattle.sspi_mech.specs.Protection.{no_protection, mic_of, unless_spent, verify_refusal}
use Rattle.sspi_mech.proofs.Opened.{same_bytes}
use Rattle.sspi_tokens.specs.declared.neg_result.NegResult.TheVariants.{AcceptComplete, AcceptIncomplete}
use Rattle.sspi_tokens.specs.declared.neg_token_init.NegTokenInit.{NegTokenInit}
use Rattle.sspi_tokens.specs.declared.neg_token_targ.NegTokenTarg.{NegTokenTarg}
use Rattle.sspi_tokens.specs.declared.oid.MechKind.{MechKind}
use Rattle.sspi_tokens.specs.Oids.{ntlm_ssp}
use Rattle.sspi_tokens.specs.Spelling.{spelled_targ}
use Rattle.sspi_tokens.proofs.Identifiers.{ntlm_is}
use Rattle.sspi_negotiate.specs.declared.branch.Branch.TheVariants.{Idle, Answering}
use Rattle.sspi_negotiate.specs.declared.negotiate_config.NegotiateConfig.{NegotiateConfig}
use Rattle.sspi_negotiate.specs.declared.package_list.PackageListConfig.{PackageListConfig}
use Rattle.sspi_negotiate.specs.declared.pick.Choice.TheVariants as choices
use Rattle.sspi_negotiate.specs.declared.pick.Picked.{Picked}
use Rattle.sspi_negotiate.specs.declared.protocol.NegotiatedProtocol.TheVariants as hands
use Rattle.sspi_negotiate.specs.declared.protocol.Protocol.{Protocol}
use Rattle.sspi_negotiate.specs.declared.protocol.Protocol.TheVariants as protocols
use Rattle.sspi_negotiate.specs.declared.state.NegotiateState.{NegotiateState}
use Rattle.sspi_negotiate.specs.declared.state.NegotiateState.TheVariants as states
use Rattle.sspi_negotiate.specs.declared.state.Role.TheVariants.{Server}
use Rattle.sspi_negotiate.specs.Client.{client_at, at_initial, first_step, offers, at_progress, chosen, chooses_ntlm, answers, stepped}
use Rattle.sspi_negotiate.specs.Client.{at_verify_mic}
use Rattle.sspi_negotiate.specs.Hand.{Origin, hand_of, in_place_of_kerberos}
use Rattle.sspi_negotiate.specs.Known.{named}
use Rattle.sspi_negotiate.specs.New.{packages_in}
use Rattle.sspi_negotiate.specs.Pick.{pick}
use Rattle.sspi_negotiate.specs.Plan.{Goes, Stops, Identifies}
use Rattle.sspi_negotiate.specs.Rows.{targ, client_wants_mic, is_guest_text, written, writes, signs_text, answers_signed, carries_on}
use Rattle.sspi_negotiate.specs.Rows.{completes_signed, verifies, verifies_text, identifies_among}
use Rattle.sspi_negotiate.specs.Server.{spnego_server, reads_list, picks, placed, first_token as first_accepted, goes_on, drops, accepted}
use Rattle.sspi_negotiate.specs.Server as server
use Rattle.sspi_negotiate.specs.Values.{Values}
use Rattle.sspi_credssp.specs.ClientTurn.{client_args, client_requirements}
use Rattle.sspi_credssp.specs.Proxy.{candidates_of}
use Rattle.sspi_credssp.specs.ServerTurn.{server_args}
use Rattle.sspi_completeness.specs.Matching.{HasEntry}
use Rattle.sspi_completeness.specs.Negotiating.{challenge_of}
use Rattle.sspi_completeness.proofs.NtlmOutcomes.{claim_by, key_for, logged_on, client_outcome, server_outcome, some_candidates, keyed}
use Rattle.sspi_completeness.proofs.NtlmRound.{last_token, token_length}
use Rattle.sspi_completeness.proofs.Runs.{M, Ends, runs, on_move, ntlm_move, on_made, with_ntlm, unless_refused, made_of}
use Rattle.sspi_completeness.proofs.SpnegoBegins.{client_values, handle_of, ntlm_taken}
use Rattle.sspi_completeness.proofs.SpnegoTokens.{offer, list_text, list_spelled, init_text, init_spelled, init_is, targ_text}
use Rattle.sspi_completeness.proofs.SpnegoTokens.{targ_spelled, targ_is, IsLittle, mic_length}

-- ---- the tokens

-- a server's challenge, with its pick or after it
abbrev pub challenge_token : Option (List ℕ) → List ℕ → NegTokenTarg
challenge_token choice challenge = targ AcceptIncomplete choice (Some (challenge_message challenge)) None

-- a pick without a token, and the client's first token for it
abbrev pub pick_token : NegTokenTarg
pick_token = targ AcceptIncomplete (Some ntlm_ssp) None None

abbrev pub begin_token : NegTokenTarg
begin_token = targ AcceptIncomplete None (Some negotiate_message) None

-- the client's proof of its password and its MIC over the list, and the server's MIC
abbrev pub proof_token : AuthIdentity → List ℕ → List ℕ → List ℕ → NegTokenTarg
proof_token i challenge key text = targ AcceptIncomplete None (Some (last_token i challenge)) (Some (mic_of key FromClient 0 text))

abbrev pub end_token : List ℕ → List ℕ → NegTokenTarg
end_token key text = targ AcceptComplete None None (Some (mic_of key FromServer 0 text))

pub some_challenge_little : (challenge : List ℕ) → length challenge ≡ 8 → IsLittle (challenge_token (Some ntlm_ssp) challenge)
some_challenge_little challenge eight = omega (arith, eight)

pub challenge_little : (challenge : List ℕ) → length challenge ≡ 8 → IsLittle (challenge_token None challenge)
challenge_little challenge eight = omega (arith, eight)

pub proof_little : (i : AuthIdentity) (challenge key text : List ℕ) → length (last_token i challenge) ≤ 49189 →
    IsLittle (proof_token i challenge key text)
proof_little i challenge key text short = let mic = mic_length key FromClient 0 text in omega (arith, short, mic)

pub end_little : (key text : List ℕ) → IsLittle (end_token key text)
end_little key text = let mic = mic_length key FromServer 0 text in omega (arith, mic)

pub verified_mic : (key : List ℕ) (direction : Direction) (text : List ℕ) →
    verify_refusal (Some key) direction 0 (mic_of key direction 0 text) text ≡ None
verified_mic key direction text =
    ap (λ (b : Bool). unless_spent 0 (if b then None else Some MessageAltered)) (same_bytes (mic_of key direction 0 text) _ refl)

-- ---- the objects

abbrev pub sent : List ℕ → M
sent own = hands.Ntlm (record { challenge = own; stage = NegotiateSent; protection = no_protection })

abbrev pub wanted : Bool
wanted = client_wants_mic client_requirements

module _ (i : AuthIdentity) (challenge : List ℕ) where
  abbrev pub key : List ℕ
  key = key_for i challenge

  -- a client that made its MIC, and took this many of the server's
  abbrev pub proved : List ℕ → ℕ → M
  proved own verified = hands.Ntlm (record {
    challenge = own;
    stage = AuthenticateSent i.username;
    protection = record { key = Some key; sealings = 0; unsealings = 0; signings = 1; verifications = verified };
  })

  abbrev pub challenged : M
  challenged = hands.Ntlm (record { challenge = challenge; stage = ChallengeSent; protection = no_protection })

  abbrev claimed : NtlmState
  claimed = record { challenge = challenge; stage = Claimed (claim_by i challenge); protection = no_protection }

  -- a server with the client's key
  abbrev pub keyed_by : ℕ → ℕ → M
  keyed_by signed verified = hands.Ntlm (record {
    challenge = challenge;
    stage = Claimed (claim_by i challenge);
    protection = record { key = Some key; sealings = 0; unsealings = 0; signings = signed; verifications = verified };
  })

-- ---- the client

module _ (config : NegotiateConfig) (i : AuthIdentity) (is : IsIdentity i) (short : length (inner_of i.username) ≤ 49153)
    (no_guest : is_guest_text (text_of (buffers_of i).user) ≡ false) (challenge : List ℕ) (eight : length challenge ≡ 8) where
  abbrev v_of : Protocol → PackageListConfig → NegotiateState → List (List ℕ) → Bool → Values
  v_of = client_values config i is

  abbrev pub alone : PackageListConfig
  alone = record { ntlm = true; kerberos = false }

  abbrev pub first_args : List ℕ → StepArgs
  first_args target = client_args (handle_of i) target None

  abbrev pub args_with : List ℕ → NegTokenTarg → StepArgs
  args_with target token = client_args (handle_of i) target (Some (targ_text token))

  -- its first step, if it begins with NTLM
  pub begins : (kerberos : Bool) (target own : List ℕ) →
      runs (client_at states.Initial (v_of protocols.Ntlm (record { ntlm = true; kerberos = kerberos }) states.Initial [] true)
      (first_args target)) (hands.Ntlm (ntlm_with own)) ≡
      Ends (v_of protocols.Ntlm (record { ntlm = true; kerberos = kerberos }) states.InProgress (offer protocols.Ntlm true) wanted)
      (record { status = statuses.ContinueNeeded; output = init_text protocols.Ntlm true }) (sent own)
  unfolding client_at at_initial first_step offers
  begins kerberos target own =
      let v = v_of protocols.Ntlm (record { ntlm = true; kerberos = kerberos }) in
      ap (λ (o : Option (List ℕ)). runs (written o (v states.Initial [] wanted) (v states.InProgress (offer protocols.Ntlm true) wanted)
      statuses.ContinueNeeded) (sent own)) (init_spelled protocols.Ntlm true)

  module _ (first : Protocol) where
    abbrev list : List (List ℕ)
    list = offer first true

    abbrev text : List ℕ
    text = list_text first true

    abbrev going : Values
    going = v_of protocols.Ntlm alone states.InProgress list true

    abbrev checking : Values
    checking = v_of protocols.Ntlm alone states.VerifyMic list true

    abbrev over : Values
    over = v_of protocols.Ntlm alone states.Ok list true

    -- it proves its password, and makes its MIC
    proves : (choice : Option (List ℕ)) (target own : List ℕ) →
        runs (answers (challenge_token choice challenge) going (args_with target (challenge_token choice challenge))) (sent own) ≡
        Ends checking (record {
          status = statuses.ContinueNeeded;
          output = targ_text (proof_token i challenge (key i challenge) text);
        }) (proved i challenge own 0)
    unfolding answers answers_signed writes
    proves choice target own =
        let token = challenge_token choice challenge in
        ap (λ (o : Outcome). on_move (ntlm_move o) (record going { branch = Answering token })
        (λ n step. runs (stepped token going step) n))
        (client_outcome (record { challenge = own; stage = NegotiateSent; protection = no_protection }) NegotiateSent (handle_of i)
        (challenge_message challenge) challenge i is (omega (arith, short)) eight refl refl refl)
        ∙ ap (λ (o : Option (List ℕ)). runs (signs_text o going (λ mic. written
        (spelled_targ (targ AcceptIncomplete None (Some (last_token i challenge)) (Some mic))) going checking statuses.ContinueNeeded))
        (hands.Ntlm (logged_on i challenge (record { challenge = own; stage = NegotiateSent; protection = no_protection }))))
        (list_spelled first true)
        ∙ ap (λ (o : Option (List ℕ)). runs (written o going checking statuses.ContinueNeeded) (proved i challenge own 0))
        (targ_spelled (proof_token i challenge (key i challenge) text)
        (proof_little i challenge (key i challenge) text (token_length i challenge short)))

    -- given the challenge with the pick of the mechanism that it began with
    pub answers_pick : (kerberos : Bool) (target own : List ℕ) →
        runs (client_at states.InProgress (v_of protocols.Ntlm (record { ntlm = true; kerberos = kerberos }) states.InProgress list wanted)
        (args_with target (challenge_token (Some ntlm_ssp) challenge))) (sent own) ≡
        Ends checking (record {
          status = statuses.ContinueNeeded;
          output = targ_text (proof_token i challenge (key i challenge) text);
        }) (proved i challenge own 0)
    unfolding client_at chooses_ntlm
    answers_pick kerberos target own =
        let token = challenge_token (Some ntlm_ssp) challenge in
        let args = args_with target token in
        let v = v_of protocols.Ntlm (record { ntlm = true; kerberos = kerberos }) states.InProgress list wanted in
        ap (λ (o : Option NegTokenTarg). runs (at_progress o v args) (sent own)) (targ_is token (some_challenge_little challenge eight))
        ∙ ap (λ (kind : MechKind). runs (chosen (Some kind) token v args) (sent own)) ((ntlm_is ntlm_ssp).1 refl)
        ∙ ap (λ (b : Bool). runs (answers token (v_of protocols.Ntlm alone states.InProgress list (not b)) args) (sent own)) no_guest
        ∙ proves (Some ntlm_ssp) target own

    -- and given it later
    pub answers_challenge : (target own : List ℕ) →
        runs (client_at states.InProgress going (args_with target (challenge_token None challenge))) (sent own) ≡
        Ends checking (record {
          status = statuses.ContinueNeeded;
          output = targ_text (proof_token i challenge (key i challenge) text);
        }) (proved i challenge own 0)
    unfolding client_at
    answers_challenge target own =
        let token = challenge_token None challenge in
        ap (λ (o : Option NegTokenTarg). runs (at_progress o going (args_with target token)) (sent own))
        (targ_is token (challenge_little challenge eight))
        ∙ proves None target own

    -- its last step takes the server's MIC
    pub ends : (target own : List ℕ) →
        runs (client_at states.VerifyMic checking (args_with target (end_token (key i challenge) text))) (proved i challenge own 0) ≡
        Ends over (record { status = statuses.Ok; output = [] }) (proved i challenge own 1)
    unfolding client_at
    ends target own =
        let token = end_token (key i challenge) text in
        let last = Goes over (record { status = statuses.Ok; output = [] }) in
        ap (λ (o : Option NegTokenTarg). runs (at_verify_mic o checking) (proved i challenge own 0))
        (targ_is token (end_little (key i challenge) text))
        ∙ ap (λ (o : Option (List ℕ)). runs (verifies_text (mic_of (key i challenge) FromServer 0 text) o checking last)
        (proved i challenge own 0)) (list_spelled first true)
        ∙ ap (λ (o : Option ErrorKind). unless_refused o (runs last (proved i challenge own 1)))
        (verified_mic (key i challenge) FromServer text)

    -- NTLM takes the place of the Kerberos that it began with
    pub changes : (kerberos : Bool) (target : List ℕ) (m : M) →
        runs (client_at states.InProgress
        (v_of protocols.Kerberos (record { ntlm = true; kerberos = kerberos }) states.InProgress list wanted)
        (args_with target pick_token)) m ≡
        Ends going (record { status = statuses.ContinueNeeded; output = targ_text begin_token })
        (sent (challenge_of (in_place_of_kerberos config.client_computer_name)))
    unfolding client_at chooses_ntlm answers carries_on writes
    changes kerberos target m =
        let args = args_with target pick_token in
        let v = v_of protocols.Kerberos (record { ntlm = true; kerberos = kerberos }) states.InProgress list wanted in
        let new = made_of (in_place_of_kerberos config.client_computer_name) in
        ap (λ (o : Option NegTokenTarg). runs (at_progress o v args) m) (targ_is pick_token (omega arith))
        ∙ ap (λ (kind : MechKind). runs (chosen (Some kind) pick_token v args) m) ((ntlm_is ntlm_ssp).1 refl)
        ∙ ap (λ (b : Bool). runs (answers pick_token (v_of protocols.Ntlm alone states.InProgress list (not b)) args) new) no_guest
        ∙ ap (λ (o : Option (List ℕ)). runs (written o going going statuses.ContinueNeeded)
        (sent (challenge_of (in_place_of_kerberos config.client_computer_name)))) (targ_spelled begin_token (omega arith))

-- ---- the server

module _ (config : NegotiateConfig) (entries : List AuthIdentity) where
  abbrev pub server_values : Protocol → NegotiateState → List (List ℕ) → Values
  server_values protocol state list = record {
    role = Server;
    state = state;
    hand = protocol;
    packages = packages_in config;
    list = list;
    need = true;
    kept = None;
    known = entries;
    computer = config.client_computer_name;
    kdcs = config.kdcs;
    branch = Idle;
  }

  module _ (i : AuthIdentity) (is : IsIdentity i) (short : length (inner_of i.username) ≤ 49153) (challenge : List ℕ)
      (eight : length challenge ≡ 8) (has : HasEntry entries i) (first : Protocol) where
    abbrev kept_list : List (List ℕ)
    kept_list = offer first true

    abbrev kept_text : List ℕ
    kept_text = list_text first true

    abbrev working : Values
    working = server_values protocols.Ntlm states.InProgress kept_list

    -- the identities that the server knows under the client's name
    named_are : named i.username entries ≡ candidates_of entries i.username
    unfolding named candidates_of
    named_are = refl

    some_found : (e : AuthIdentity) (rest : List AuthIdentity) → (length (map credentials.AuthIdentity (e ∷ rest)) == 0) ≡ false
    some_found e rest = ne_eqb _ 0 (λ none. omega (arith, none))

    -- the client's MIC is verified, and the server's own is made
    closes : runs (verifies (mic_of (key i challenge) FromClient 0 kept_text) working (completes_signed working []))
        (keyed_by i challenge 0 0) ≡
        Ends (server_values protocols.Ntlm states.Ok kept_list)
        (record { status = statuses.Ok; output = targ_text (end_token (key i challenge) kept_text) }) (keyed_by i challenge 1 1)
    unfolding answers_signed writes
    closes =
        let over = server_values protocols.Ntlm states.Ok kept_list in
        ap (λ (o : Option (List ℕ)). runs (verifies_text (mic_of (key i challenge) FromClient 0 kept_text) o working
        (completes_signed working []))
        (keyed_by i challenge 0 0)) (list_spelled first true)
        ∙ ap (λ (o : Option ErrorKind). unless_refused o (runs (completes_signed working []) (keyed_by i challenge 0 1)))
        (verified_mic (key i challenge) FromClient kept_text)
        ∙ ap (λ (o : Option (List ℕ)). runs (signs_text o working (λ mic. written (spelled_targ (targ AcceptComplete None None (Some mic)))
        working over statuses.Ok)) (keyed_by i challenge 0 1)) (list_spelled first true)
        ∙ ap (λ (o : Option (List ℕ)). runs (written o working over statuses.Ok) (keyed_by i challenge 1 1))
        (targ_spelled (end_token (key i challenge) kept_text) (end_little (key i challenge) kept_text))

    -- its last step
    pub server_ends :
        runs (spnego_server working (server_args None (Some (targ_text (proof_token i challenge (key i challenge) kept_text)))))
        (challenged i challenge) ≡
        Ends (server_values protocols.Ntlm states.Ok kept_list)
        (record { status = statuses.Ok; output = targ_text (end_token (key i challenge) kept_text) }) (keyed_by i challenge 1 1)
    server_ends =
        let token = proof_token i challenge (key i challenge) kept_text in
        let args = server_args None (Some (targ_text token)) in
        let some = some_candidates entries i has in
        let e = has.entry in
        let checked = verifies (mic_of (key i challenge) FromClient 0 kept_text) working (completes_signed working []) in
        ap (λ (o : Option NegTokenTarg). runs (server.at_progress o working args) (challenged i challenge))
        (targ_is token (proof_little i challenge (key i challenge) kept_text (token_length i challenge short)))
        ∙ ap (λ (o : Outcome). on_move (ntlm_move o) working (λ n step. runs (accepted token working step) n))
        (server_outcome (record { challenge = challenge; stage = ChallengeSent; protection = no_protection }) ChallengeSent
        (last_token i challenge) challenge i is (omega (arith, short)) refl refl)
        ∙ ap (λ (l : List AuthIdentity). runs (identifies_among (map credentials.AuthIdentity l) working checked)
        (hands.Ntlm (claimed i challenge))) (named_are ∙ some.1)
        ∙ ap (λ (b : Bool). runs (if b then Stops working NoCredentials
        else Identifies (map credentials.AuthIdentity (e ∷ some.0)) working checked) (hands.Ntlm (claimed i challenge)))
        (some_found e some.0)
        ∙ ap (λ (o : Result NtlmState ErrorKind). on_made (with_ntlm o) (λ n. runs checked n))
        (keyed (claimed i challenge) (e ∷ some.0) entries i challenge has refl refl (sym some.1))
        ∙ closes

    -- the challenge that comes after a pick without a token
    pub server_challenges :
        runs (spnego_server working (server_args None (Some (targ_text begin_token)))) (hands.Ntlm (ntlm_with challenge)) ≡
        Ends working (record { status = statuses.ContinueNeeded; output = targ_text (challenge_token None challenge) })
        (challenged i challenge)
    unfolding carries_on writes
    server_challenges =
        ap (λ (o : Option NegTokenTarg). runs (server.at_progress o working (server_args None (Some (targ_text begin_token))))
        (hands.Ntlm (ntlm_with challenge))) (targ_is begin_token (omega arith))
        ∙ ap (λ (o : Option (List ℕ)). runs (written o working working statuses.ContinueNeeded) (challenged i challenge))
        (targ_spelled (challenge_token None challenge) (challenge_little challenge eight))

-- its first step, by what it has selected at first
module _ (config : NegotiateConfig) (entries : List AuthIdentity) (i : AuthIdentity) (o : Origin) (eight : length (challenge_of o) ≡ 8)
  where
    -- it picks the mechanism that the client began with
    pub server_begins :
        pick (offer protocols.Ntlm true) (packages_in config) (hand_of (made_of o)) ≡ Some (record { choice = choices.Ntlm; index = 0 }) →
        runs (spnego_server (server_values config entries (hand_of (made_of o)) states.Initial [])
        (server_args None (Some (init_text protocols.Ntlm true)))) (made_of o) ≡
        Ends (server_values config entries protocols.Ntlm states.InProgress (offer protocols.Ntlm true))
        (record { status = statuses.ContinueNeeded; output = targ_text (challenge_token (Some ntlm_ssp) (challenge_of o)) })
        (challenged i (challenge_of o))
    unfolding reads_list picks placed first_accepted goes_on writes
    server_begins picked =
        let v = server_values config entries (hand_of (made_of o)) states.Initial in
        let v2 = server_values config entries protocols.Ntlm in
        let list = offer protocols.Ntlm true in
        let args = server_args None (Some (init_text protocols.Ntlm true)) in
        let p : Picked = record { choice = choices.Ntlm; index = 0 } in
        ap (λ (x : Option NegTokenInit). runs (server.at_initial x (v []) args) (made_of o)) (init_is protocols.Ntlm true)
        ∙ ap (λ (x : Option Picked). runs (picks x list (Some negotiate_message) (v []) args) (made_of o)) picked
        ∙ ntlm_taken o config.client_computer_name (placed (Some negotiate_message) p (v2 states.Initial list) args)
        ∙ ap (λ (x : Option (List ℕ)). runs (written x (v2 states.Initial list) (v2 states.InProgress list) statuses.ContinueNeeded)
        (challenged i (challenge_of o)))
        (targ_spelled (challenge_token (Some ntlm_ssp) (challenge_of o)) (some_challenge_little (challenge_of o) eight))

    -- it picks NTLM from the offer of a client that began with Kerberos, and drops the token
    pub server_changes :
        pick (offer protocols.Kerberos true) (packages_in config) (hand_of (made_of o)) ≡ Some
        (record { choice = choices.Ntlm; index = 2 }) →
        runs (spnego_server (server_values config entries (hand_of (made_of o)) states.Initial [])
        (server_args None (Some (init_text protocols.Kerberos true)))) (made_of o) ≡
        Ends (server_values config entries protocols.Ntlm states.InProgress (offer protocols.Kerberos true))
        (record { status = statuses.ContinueNeeded; output = targ_text pick_token }) (hands.Ntlm (ntlm_with (challenge_of o)))
    unfolding reads_list picks placed drops writes
    server_changes picked =
        let v = server_values config entries (hand_of (made_of o)) states.Initial in
        let v2 = server_values config entries protocols.Ntlm in
        let list = offer protocols.Kerberos true in
        let args = server_args None (Some (init_text protocols.Kerberos true)) in
        let p : Picked = record { choice = choices.Ntlm; index = 2 } in
        ap (λ (x : Option NegTokenInit). runs (server.at_initial x (v []) args) (made_of o)) (init_is protocols.Kerberos true)
        ∙ ap (λ (x : Option Picked). runs (picks x list (Some ticket_request) (v []) args) (made_of o)) picked
        ∙ ntlm_taken o config.client_computer_name (placed (Some ticket_request) p (v2 states.Initial list) args)
        ∙ ap (λ (x : Option (List ℕ)). runs (written x (v2 states.Initial list) (v2 states.InProgress list) statuses.ContinueNeeded)
        (hands.Ntlm (ntlm_with (challenge_of o)))) (targ_spelled pick_token (omega arith))

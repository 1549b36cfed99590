-- The server of a negotiation (RFC 4178, section 5; MS-SPNG 3.1.5), one definition for each row of
-- its table.
use Rattle.std.specs.Prelude.{ℕ, List, [], ◌||◌, ◌==◌, Option, None, Some, Bool, true, false}
use Rattle.std.specs.Prelude.{if◌then◌else◌}
use Rattle.sspi_types.specs.declared.error_kind.ErrorKind.TheVariants.{InvalidToken, OutOfSequence}
use Rattle.sspi_types.specs.declared.security_status.SecurityStatus.TheVariants as statuses
use Rattle.sspi_names.specs.Name.{Name, inner_of}
use Rattle.sspi_mech.specs.declared.step.Step.{Step}
use Rattle.sspi_mech.specs.Calls.{AcceptArgs}
use Rattle.sspi_tokens.specs.declared.neg_result.NegResult.TheVariants.{AcceptComplete}
use Rattle.sspi_tokens.specs.declared.neg_result.NegResult.TheVariants.{AcceptIncomplete}
use Rattle.sspi_tokens.specs.declared.neg_token_init.NegTokenInit.{NegTokenInit}
use Rattle.sspi_tokens.specs.declared.neg_token_targ.NegTokenTarg.{NegTokenTarg}
use Rattle.sspi_tokens.specs.Reading.{init_of, targ_of}
use Rattle.sspi_negotiate.specs.declared.pick.Choice.{Choice}
use Rattle.sspi_negotiate.specs.declared.pick.Choice.TheVariants as choices
use Rattle.sspi_negotiate.specs.declared.pick.Picked.{Picked}
use Rattle.sspi_negotiate.specs.declared.protocol.Protocol.TheVariants as protocols
use Rattle.sspi_negotiate.specs.declared.state.NegotiateState.{NegotiateState}
use Rattle.sspi_negotiate.specs.declared.state.NegotiateState.TheVariants as states
use Rattle.sspi_negotiate.specs.declared.state.Role.{Role}
use Rattle.sspi_negotiate.specs.declared.state.Role.TheVariants.{Client, Server}
use Rattle.sspi_negotiate.specs.Hand.{is_ntlm_hand}
use Rattle.sspi_negotiate.specs.Pick.{pick, oid_of}
use Rattle.sspi_negotiate.specs.Plan.{Plan, Goes, Stops, Accepts, Pairs, Names}
use Rattle.sspi_negotiate.specs.Rows.{server_wants_mic, is_over, is_complete, is_guest_text, targ}
use Rattle.sspi_negotiate.specs.Rows.{or_empty}
use Rattle.sspi_negotiate.specs.Rows.{writes, in_ntlm, checks, completes, completes_signed}
use Rattle.sspi_negotiate.specs.Rows.{hands_mic, carries_on}
use Rattle.sspi_negotiate.specs.Values.{Values}

-- ---- Initial

-- the pick is reported with this token, and the negotiation goes on
abbrev pub goes_on_with : Picked → Option (List ℕ) → Bool → NegotiateState → Values → Plan
goes_on_with p token need state v =
    writes (targ AcceptIncomplete (Some (oid_of p.choice)) token None) v
    (record v { need = need; state = state }) statuses.ContinueNeeded

-- the pick is not the mechanism that the client prefers: the client's token is dropped, and the
-- list must be protected
unfoldable pub drops : Picked → Values → Plan
drops p v = goes_on_with p None true states.InProgress v

-- the pick is the preferred mechanism, and the client sent no token for it
unfoldable pub waits_for_token : Picked → Values → Bool → Plan
waits_for_token p v need = goes_on_with p None need states.InProgress v

-- the mechanism took the token, and goes on
unfoldable pub goes_on : Picked → Values → Bool → Step → Plan
goes_on p v need step = goes_on_with p (Some step.output) need states.InProgress v

-- the mechanism has finished with this token, and MICs are still to be exchanged
unfoldable pub awaits_mic : Picked → Values → Step → Plan
awaits_mic p v step = goes_on_with p (Some step.output) true states.VerifyMic v

-- the mechanism has finished with this token, and so has the negotiation
unfoldable pub ends_at_once : Picked → Values → Step → Plan
ends_at_once p v step =
    writes (targ AcceptComplete (Some (oid_of p.choice)) (Some step.output) None) v
    (record v { need = false; state = states.Ok }) statuses.Ok

abbrev pub opens : Picked → Values → Step → Bool → Plan
opens p v step need = if is_over step.status
    then (if need then awaits_mic p v step else ends_at_once p v step) else goes_on p v need step

-- whether MICs are needed if the client's choice is picked; whether it authenticates user-to-user
-- is known after the step
abbrev pub needs_mic : Values → AcceptArgs → Bool → Bool
needs_mic v args pairs = is_ntlm_hand v.hand || pairs || server_wants_mic args.requirements

unfoldable pub first_token : Option (List ℕ) → Picked → Values → AcceptArgs → Plan
first_token None p v args = Pairs (λ pairs. waits_for_token p v (needs_mic v args pairs))
first_token (Some token) p v args =
    Accepts (record args { input = token }) v
    (λ step. Pairs (λ pairs. opens p v step (needs_mic v args pairs)))

unfoldable pub placed : Option (List ℕ) → Picked → Values → AcceptArgs → Plan
placed token p v args = if p.index == 0 then first_token token p v args else drops p v

-- the mechanism that was picked is selected; Kerberos is picked only if it already is
abbrev pub takes_pick : Choice → Option (List ℕ) → Picked → Values → AcceptArgs → Plan
takes_pick choices.MsKerberos token p v args = placed token p v args
takes_pick choices.Kerberos token p v args = placed token p v args
takes_pick choices.Ntlm token p v args = in_ntlm v.hand v.computer
    (placed token p (record v { hand = protocols.Ntlm }) args)

-- the list is kept
unfoldable pub picks : Option Picked → List (List ℕ) → Option (List ℕ) → Values → AcceptArgs → Plan
picks None list token v args = Stops v InvalidToken
picks (Some p) list token v args = takes_pick p.choice token p (record v { list = list }) args

unfoldable pub reads_list : Option (List (List ℕ)) → Option (List ℕ) → Values → AcceptArgs → Plan
reads_list None token v args = Stops v InvalidToken
reads_list (Some list) token v args = picks (pick list v.packages v.hand) list token v args

abbrev pub at_initial : Option NegTokenInit → Values → AcceptArgs → Plan
at_initial None v args = Stops v InvalidToken
at_initial (Some token) v args = reads_list token.mech_types token.mech_token v args

-- ---- InProgress

-- With accept-completed a MIC may be missing. A guest needs none, and the need is dropped once the
-- negotiation is over.
abbrev pub excuses : Values → List ℕ → Name → Plan
excuses v token name = if is_guest_text (inner_of name) then completes v token false
    else Stops v InvalidToken

unfoldable pub without_mic : Bool → Values → List ℕ → Plan
without_mic true v token = Names v (λ name. excuses v token name)
without_mic false v token = hands_mic v token

-- the authentication is over: what follows depends on the need and on the client's MIC
abbrev pub settles : Bool → Option (List ℕ) → Bool → Values → List ℕ → Plan
settles false mic complete v token = completes v token v.need
settles true (Some mic) complete v token = checks mic v (completes_signed v token)
settles true None complete v token = without_mic complete v token

abbrev pub accepted : NegTokenTarg → Values → Step → Plan
accepted token v step =
    if is_over step.status
    then settles v.need token.mech_list_mic (is_complete token.neg_result) v step.output
    else carries_on v step.output step.status

abbrev pub at_progress : Option NegTokenTarg → Values → AcceptArgs → Plan
at_progress None v args = Stops v InvalidToken
at_progress (Some token) v args = Accepts (record args { input = or_empty token.response_token }) v
    (λ step. accepted token v step)

-- ---- VerifyMic

abbrev pub last_mic : Option (List ℕ) → Values → Plan
last_mic None v = Stops v InvalidToken
last_mic (Some mic) v = checks mic v (Goes (record v { state = states.Ok })
    (record { status = statuses.Ok; output = [] }))

abbrev pub at_verify_mic : Option NegTokenTarg → Values → Plan
at_verify_mic None v = Stops v InvalidToken
at_verify_mic (Some token) v = last_mic token.mech_list_mic v

-- ---- each state

abbrev pub server_at : Role → NegotiateState → Values → AcceptArgs → Plan
server_at Client state v args = Stops v OutOfSequence
server_at Server states.Initial v args = at_initial (init_of args.input) v args
server_at Server states.InProgress v args = at_progress (targ_of args.input) v args
server_at Server states.VerifyMic v args = at_verify_mic (targ_of args.input) v
server_at Server states.Ok v args = Stops v OutOfSequence

abbrev pub spnego_server : Values → AcceptArgs → Plan
spnego_server v args = server_at v.role v.state v args

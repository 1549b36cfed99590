-- A first step makes and verifies no MIC, even if running out of memory breaks it off.
use Rattle.std.proofs.Common.{◌≡◌, ◌⊎◌, ◌==◌, ◌&&◌, ℕ, List, Option, None, Some, Bool, true, false, cond, Result, Ok, Err, refl, sym, subst, inl, inr}
use Rattle.std.proofs.lemmas.Bool.{false≢true}
use Rattle.sspi_types.specs.declared.error.Error.{Error}
use Rattle.sspi_types.specs.declared.error_kind.ErrorKind.{ErrorKind}
use Rattle.sspi_types.specs.declared.security_status.SecurityStatus.{SecurityStatus}
use Rattle.sspi_names.specs.Name.{Name}
use Rattle.sspi_names.specs.Identity.{identity_of}
use Rattle.sspi_names.specs.declared.identity.AuthIdentity.{AuthIdentity}
use Rattle.sspi_names.specs.declared.identity.AuthIdentityBuffers.{AuthIdentityBuffers}
use Rattle.sspi_names.specs.declared.kdc_table.KdcEntry.{KdcEntry}
use Rattle.sspi_mech.specs.declared.step.Answer.{Answer}
use Rattle.sspi_mech.specs.declared.step.Answer.TheVariants.{Done, Ask, Refused}
use Rattle.sspi_mech.specs.declared.step.Reply.{Reply}
use Rattle.sspi_mech.specs.declared.step.Step.{Step}
use Rattle.sspi_mech.specs.Calls.{Counts, StepArgs, AcceptArgs, no_counts}
use Rattle.sspi_mech.specs.Laws.{IsMechanism}
use Rattle.sspi_mech.specs.Meaning.{Meaning}
use Rattle.sspi_mech.specs.Settings.{Setting}
use Rattle.sspi_tokens.specs.declared.neg_token_init.NegTokenInit.{NegTokenInit}
use Rattle.sspi_tokens.specs.declared.neg_token_targ.NegTokenTarg.{NegTokenTarg}
use Rattle.sspi_tokens.specs.Reading.{init_of}
use Rattle.sspi_tokens.specs.Spelling.{spelled_targ}
use Rattle.sspi_negotiate.specs.declared.branch.Branch.{Branch}
use Rattle.sspi_negotiate.specs.declared.branch.Branch.TheVariants as branches
use Rattle.sspi_negotiate.specs.declared.branch.Opening.{Opening as FirstStep}
use Rattle.sspi_negotiate.specs.declared.pick.Choice.{Choice}
use Rattle.sspi_negotiate.specs.declared.pick.Choice.TheVariants as choices
use Rattle.sspi_negotiate.specs.declared.pick.Picked.{Picked}
use Rattle.sspi_negotiate.specs.declared.protocol.NegotiatedProtocol.{NegotiatedProtocol}
use Rattle.sspi_negotiate.specs.declared.protocol.NegotiatedProtocol.TheVariants as hands
use Rattle.sspi_negotiate.specs.declared.protocol.Protocol.{Protocol}
use Rattle.sspi_negotiate.specs.declared.protocol.Protocol.TheVariants as protocols
use Rattle.sspi_negotiate.specs.declared.state.NegotiateState.{NegotiateState}
use Rattle.sspi_negotiate.specs.declared.state.NegotiateState.TheVariants as states
use Rattle.sspi_negotiate.specs.declared.state.Role.{Role}
use Rattle.sspi_negotiate.specs.declared.state.Role.TheVariants.{Client, Server}
use Rattle.sspi_negotiate.specs.Client.{offers, has_begun, begun, steps_again, falls_back, falls, first_step, at_initial, client_at, ruled}
use Rattle.sspi_negotiate.specs.Client.{keeps, converts, passwords_of, with_handle, by_target, is_closed, spnego_client}
use Rattle.sspi_negotiate.specs.Client.{first_step_of, resumes_opening, resumed_at, spnego_resumed}
use Rattle.sspi_negotiate.specs.Fallback.{is_fallback}
use Rattle.sspi_negotiate.specs.Hand.{Origin, hand, is_kerberos_hand}
use Rattle.sspi_negotiate.proofs.HandLaws.{hand_lawful}
use Rattle.sspi_negotiate.specs.Keeps.{is_answering}
use Rattle.sspi_negotiate.specs.Pick.{pick}
use Rattle.sspi_negotiate.specs.Plan.{Plan, Goes, Stops, Takes, Steps, Resumes, Accepts, Pairs, Names, Identifies, Signs, Verifies}
use Rattle.sspi_negotiate.specs.Reaches.{Onwards, Accepted, Moved, Reaches}
use Rattle.sspi_negotiate.specs.Rows.{written, writes, in_ntlm, is_over}
use Rattle.sspi_negotiate.specs.Rule.{by_rule, rule_url}
use Rattle.sspi_negotiate.specs.Server.{drops, waits_for_token, goes_on, awaits_mic, ends_at_once, opens, needs_mic, first_token, placed}
use Rattle.sspi_negotiate.specs.Server.{takes_pick, picks, reads_list, server_at, spnego_server}
use Rattle.sspi_negotiate.specs.Server.{at_initial as server_at_initial}
use Rattle.sspi_negotiate.specs.Values.{Values}
use Rattle.sspi_negotiate.specs.Verified.{HasNoMic}

-- no question of the plan makes or verifies a MIC
abbrev pub IsUnsigned : Plan → Type 0
IsUnsigned (Goes v step) = Unit {0}
IsUnsigned (Stops v kind) = Unit {0}
IsUnsigned (Takes origin p) = IsUnsigned p
IsUnsigned (Steps args v go fall) = ((step : Step) → IsUnsigned (go step)) × ((kind : ErrorKind) → IsUnsigned (fall kind))
IsUnsigned (Resumes reply v go fall) = ((step : Step) → IsUnsigned (go step)) × ((kind : ErrorKind) → IsUnsigned (fall kind))
IsUnsigned (Accepts args v go) = (step : Step) → IsUnsigned (go step)
IsUnsigned (Pairs go) = (pairs : Bool) → IsUnsigned (go pairs)
IsUnsigned (Names v go) = (name : Name) → IsUnsigned (go name)
IsUnsigned (Identifies identities v p) = IsUnsigned p
IsUnsigned (Signs text v go) = ⊥
IsUnsigned (Verifies mic text v p) = ⊥

-- ---- the rows of a first step

either_unsigned : (b : Bool) (p q : Plan) → IsUnsigned p → IsUnsigned q → IsUnsigned (cond b p q)
either_unsigned true p q hp hq = hp
either_unsigned false p q hp hq = hq

written_unsigned : (text : Option (List ℕ)) (v v2 : Values) (status : SecurityStatus) → IsUnsigned (written text v v2 status)
written_unsigned None v v2 status = tt
written_unsigned (Some text) v v2 status = tt

writes_unsigned : (token : NegTokenTarg) (v v2 : Values) (status : SecurityStatus) → IsUnsigned (writes token v v2 status)
unfolding writes
writes_unsigned token v v2 status = written_unsigned (spelled_targ token) v v2 status

in_ntlm_unsigned : (held : Protocol) (computer : List ℕ) (rest : Plan) → IsUnsigned rest → IsUnsigned (in_ntlm held computer rest)
in_ntlm_unsigned protocols.Ntlm computer rest h = h
in_ntlm_unsigned protocols.Kerberos computer rest h = h

offers_unsigned : (v : Values) (token : List ℕ) → IsUnsigned (offers v token)
unfolding offers
offers_unsigned v token = written_unsigned _ v _ _

begun_unsigned : (v : Values) (step : Step) → IsUnsigned (begun v step)
begun_unsigned v step = either_unsigned (has_begun step.status) _ _ (offers_unsigned v step.output) tt

again_unsigned : (v : Values) (first : FirstStep) → IsUnsigned (steps_again v first)
unfolding steps_again
again_unsigned v first = (begun_unsigned v, λ kind. tt)

back_unsigned : (v : Values) (first : FirstStep) → IsUnsigned (falls_back v first)
unfolding falls_back
back_unsigned v first = again_unsigned _ first

falls_unsigned : (w v : Values) (first : FirstStep) (kind : ErrorKind) → IsUnsigned (falls w v first kind)
falls_unsigned w v first kind =
    either_unsigned (is_fallback kind && is_kerberos_hand v.hand && v.packages.ntlm) _ _ (back_unsigned v first) tt

step_unsigned : (first : FirstStep) (v : Values) (args : StepArgs) → IsUnsigned (first_step first v args)
unfolding first_step
step_unsigned first v args = (begun_unsigned v, falls_unsigned v v first)

initial_unsigned : (v : Values) (args : StepArgs) → IsUnsigned (at_initial v args)
unfolding at_initial
initial_unsigned v args = step_unsigned (first_step_of args) _ args

at_unsigned : (v : Values) (args : StepArgs) → IsUnsigned (client_at states.Initial v args)
unfolding client_at
at_unsigned v args = initial_unsigned v args

begins_unsigned : (state : NegotiateState) (v : Values) (args : StepArgs) → state ≡ states.Initial → IsUnsigned (client_at state v args)
begins_unsigned state v args first = subst (λ s. IsUnsigned (client_at s v args)) (sym first) (at_unsigned v args)

rule_unsigned : (url : Option (List ℕ)) (kdcs : List KdcEntry) (computer : List ℕ) (rest : Plan) → IsUnsigned rest →
    IsUnsigned (by_rule url kdcs computer rest)
rule_unsigned None kdcs computer rest h = h
rule_unsigned (Some url) kdcs computer rest h = h

ruled_unsigned : (url : Option (List ℕ)) (v : Values) (args : StepArgs) → v.state ≡ states.Initial → IsUnsigned (ruled url v args)
ruled_unsigned url v args first = rule_unsigned url v.kdcs v.computer _ (begins_unsigned v.state _ args first)

keeps_unsigned : (o : Option AuthIdentity) (v : Values) (args : StepArgs) → v.state ≡ states.Initial → IsUnsigned (keeps o v args)
unfolding keeps
keeps_unsigned None v args first = tt
keeps_unsigned (Some identity) v args first = ruled_unsigned (rule_url v identity.username) _ args first

converts_unsigned : (o : Option AuthIdentityBuffers) (v : Values) (args : StepArgs) → v.state ≡ states.Initial →
    IsUnsigned (converts o v args)
converts_unsigned None v args first = begins_unsigned v.state v args first
converts_unsigned (Some buffers) v args first = keeps_unsigned (identity_of buffers) v args first

handle_unsigned : (v : Values) (args : StepArgs) → v.state ≡ states.Initial → IsUnsigned (with_handle v args)
unfolding with_handle
handle_unsigned v args first = converts_unsigned (passwords_of args.handle) v args first

target_unsigned : (ip : Bool) (v : Values) (args : StepArgs) → v.state ≡ states.Initial → IsUnsigned (by_target ip v args)
target_unsigned ip v args first = either_unsigned (ip && v.packages.ntlm) _ _
    (in_ntlm_unsigned v.hand v.computer _ (handle_unsigned _ args first)) (handle_unsigned v args first)

pub client_unsigned : (ip : Bool) (v : Values) (args : StepArgs) → v.state ≡ states.Initial → IsUnsigned (spnego_client ip v args)
client_unsigned ip v args first = either_unsigned (is_closed v.role v.state v.branch) _ _ tt (target_unsigned ip v args first)

opening_unsigned : (first : FirstStep) (v : Values) (reply : Reply) → IsUnsigned (resumes_opening first v reply)
unfolding resumes_opening
opening_unsigned first v reply = (begun_unsigned v, falls_unsigned _ v first)

resumed_at_unsigned : (branch : Branch) (v : Values) (reply : Reply) → is_answering branch ≡ false → IsUnsigned (resumed_at branch v reply)
resumed_at_unsigned branches.Idle v reply other = tt
resumed_at_unsigned (branches.Opening first) v reply other = opening_unsigned first _ reply
resumed_at_unsigned (branches.Answering token) v reply other = absurd (false≢true (sym other))

pub resumed_unsigned : (v : Values) (reply : Reply) → is_answering v.branch ≡ false → IsUnsigned (spnego_resumed v reply)
resumed_unsigned v reply other = resumed_at_unsigned v.branch v reply other

-- ---- a server's

drops_unsigned : (p : Picked) (v : Values) → IsUnsigned (drops p v)
unfolding drops
drops_unsigned p v = writes_unsigned _ v _ _

waits_unsigned : (p : Picked) (v : Values) (need : Bool) → IsUnsigned (waits_for_token p v need)
unfolding waits_for_token
waits_unsigned p v need = writes_unsigned _ v _ _

goes_on_unsigned : (p : Picked) (v : Values) (need : Bool) (step : Step) → IsUnsigned (goes_on p v need step)
unfolding goes_on
goes_on_unsigned p v need step = writes_unsigned _ v _ _

awaits_unsigned : (p : Picked) (v : Values) (step : Step) → IsUnsigned (awaits_mic p v step)
unfolding awaits_mic
awaits_unsigned p v step = writes_unsigned _ v _ _

ends_unsigned : (p : Picked) (v : Values) (step : Step) → IsUnsigned (ends_at_once p v step)
unfolding ends_at_once
ends_unsigned p v step = writes_unsigned _ v _ _

opens_unsigned : (p : Picked) (v : Values) (step : Step) (need : Bool) → IsUnsigned (opens p v step need)
opens_unsigned p v step need = either_unsigned (is_over step.status) _ _
    (either_unsigned need _ _ (awaits_unsigned p v step) (ends_unsigned p v step)) (goes_on_unsigned p v need step)

token_unsigned : (token : Option (List ℕ)) (p : Picked) (v : Values) (args : AcceptArgs) → IsUnsigned (first_token token p v args)
unfolding first_token
token_unsigned None p v args = λ pairs. waits_unsigned p v (needs_mic v args pairs)
token_unsigned (Some token) p v args = λ step pairs. opens_unsigned p v step (needs_mic v args pairs)

placed_unsigned : (token : Option (List ℕ)) (p : Picked) (v : Values) (args : AcceptArgs) → IsUnsigned (placed token p v args)
unfolding placed
placed_unsigned token p v args = either_unsigned (p.index == 0) _ _ (token_unsigned token p v args) (drops_unsigned p v)

takes_unsigned : (choice : Choice) (token : Option (List ℕ)) (p : Picked) (v : Values) (args : AcceptArgs) →
    IsUnsigned (takes_pick choice token p v args)
takes_unsigned choices.MsKerberos token p v args = placed_unsigned token p v args
takes_unsigned choices.Kerberos token p v args = placed_unsigned token p v args
takes_unsigned choices.Ntlm token p v args = in_ntlm_unsigned v.hand v.computer _ (placed_unsigned token p _ args)

picks_unsigned : (o : Option Picked) (list : List (List ℕ)) (token : Option (List ℕ)) (v : Values) (args : AcceptArgs) →
    IsUnsigned (picks o list token v args)
unfolding picks
picks_unsigned None list token v args = tt
picks_unsigned (Some p) list token v args = takes_unsigned p.choice token p _ args

list_unsigned : (o : Option (List (List ℕ))) (token : Option (List ℕ)) (v : Values) (args : AcceptArgs) →
    IsUnsigned (reads_list o token v args)
unfolding reads_list
list_unsigned None token v args = tt
list_unsigned (Some list) token v args = picks_unsigned (pick list v.packages v.hand) list token v args

offer_unsigned : (o : Option NegTokenInit) (v : Values) (args : AcceptArgs) → IsUnsigned (server_at_initial o v args)
offer_unsigned None v args = tt
offer_unsigned (Some token) v args = list_unsigned token.mech_types token.mech_token v args

server_at_unsigned : (role : Role) (v : Values) (args : AcceptArgs) → IsUnsigned (server_at role states.Initial v args)
server_at_unsigned Client v args = tt
server_at_unsigned Server v args = offer_unsigned (init_of args.input) v args

pub server_unsigned : (v : Values) (args : AcceptArgs) → v.state ≡ states.Initial → IsUnsigned (spnego_server v args)
server_unsigned v args first = subst (λ s. IsUnsigned (server_at v.role s v args)) (sym first) (server_at_unsigned v.role v args)

-- ---- the counts

no_mic : (n k : Counts) → n ≡ k → HasNoMic k → HasNoMic n
no_mic n k same h = subst HasNoMic (sym same) h

module _ {N K : Type 0} (r q : ℕ) (n : Meaning Setting N) (k : Meaning Setting K) (ln : IsMechanism r n) (lk : IsMechanism q k) where
  abbrev pub Hand : Type 0
  Hand = NegotiatedProtocol N K

  made_counts : (origin : Origin) (m : Hand) → (hand n k).made origin m → (hand n k).counts m ≡ no_counts
  made_counts origin m made = (hand_lawful r q n k ln lk).made_fresh origin m made

  step_counts : (m m2 : Hand) (args : StepArgs) (x : Answer) → (hand n k).steps m args x m2 → (hand n k).counts m2 ≡ (hand n k).counts m
  step_counts (hands.Ntlm m) (hands.Ntlm m2) args x h = ln.step_counts m m2 args x h
  step_counts (hands.Ntlm m) (hands.Kerberos m2) args x h = absurd h
  step_counts (hands.Kerberos m) (hands.Ntlm m2) args x h = absurd h
  step_counts (hands.Kerberos m) (hands.Kerberos m2) args x h = lk.step_counts m m2 args x h

  resume_counts : (m m2 : Hand) (reply : Reply) (x : Answer) → (hand n k).resumes m reply x m2 →
      (hand n k).counts m2 ≡ (hand n k).counts m
  resume_counts (hands.Ntlm m) (hands.Ntlm m2) reply x h = ln.resume_counts m m2 reply x h
  resume_counts (hands.Ntlm m) (hands.Kerberos m2) reply x h = absurd h
  resume_counts (hands.Kerberos m) (hands.Ntlm m2) reply x h = absurd h
  resume_counts (hands.Kerberos m) (hands.Kerberos m2) reply x h = lk.resume_counts m m2 reply x h

  accept_counts : (m m2 : Hand) (args : AcceptArgs) (x : Result Step Error) → (hand n k).accepts m args x m2 →
      (hand n k).counts m2 ≡ (hand n k).counts m
  accept_counts (hands.Ntlm m) (hands.Ntlm m2) args x h = ln.accept_counts m m2 args x h
  accept_counts (hands.Ntlm m) (hands.Kerberos m2) args x h = absurd h
  accept_counts (hands.Kerberos m) (hands.Ntlm m2) args x h = absurd h
  accept_counts (hands.Kerberos m) (hands.Kerberos m2) args x h = lk.accept_counts m m2 args x h

  abbrev pub HasNone : Hand → Type 0
  HasNone m = HasNoMic ((hand n k).counts m)

  behind : {X : Type 0} (m1 m2 : Hand) → HasNone m1 → (X → HasNone m1 → HasNone m2) → (m2 ≡ m1) ⊎ X → HasNone m2
  behind m1 m2 none on (inl same) = subst HasNone (sym same) none
  behind m1 m2 none on (inr h) = on h none

  onwards : {Go : Step → Type 0} {Fall : ErrorKind → Type 0} (m1 m2 : Hand) (a x : Answer) → HasNone m1 →
      ((step : Step) → Go step → HasNone m1 → HasNone m2) → ((kind : ErrorKind) → Fall kind → HasNone m1 → HasNone m2) →
      Onwards x Go Fall a m1 m2 → HasNone m2
  onwards m1 m2 a (Done step) none go fall h = behind m1 m2 none (go step) h
  onwards m1 m2 a (Ask request) none go fall h = subst HasNone (sym h.0) none
  onwards m1 m2 a (Refused error) none go fall h = behind m1 m2 none (fall error.error_type) h

  accepted : {Go : Step → Type 0} (m1 m2 : Hand) (a : Answer) (x : Result Step Error) → HasNone m1 →
      ((step : Step) → Go step → HasNone m1 → HasNone m2) → Accepted x Go a m1 m2 → HasNone m2
  accepted m1 m2 a (Ok step) none go h = behind m1 m2 none (go step) h
  accepted m1 m2 a (Err error) none go h = subst HasNone (sym h.0) none

  moved_unsigned : (p : Plan) → IsUnsigned p → (m m2 : Hand) (a : Answer) → Moved (hand n k) p m a m2 → HasNone m → HasNone m2
  moved_unsigned (Goes v step) u m m2 a h none = absurd h
  moved_unsigned (Stops v kind) u m m2 a h none = absurd h
  moved_unsigned (Takes origin p) u m m2 a h none = behind h.0 m2
      (no_mic ((hand n k).counts h.0) no_counts (made_counts origin h.0 h.1) (record { signings = refl; verifications = refl }))
      (moved_unsigned p u h.0 m2 a) h.2
  moved_unsigned (Steps args v go fall) u m m2 a h none = onwards h.0 m2 a h.1
      (no_mic ((hand n k).counts h.0) ((hand n k).counts m) (step_counts m h.0 args h.1 h.2) none)
      (λ step. moved_unsigned (go step) (u.0 step) h.0 m2 a) (λ kind. moved_unsigned (fall kind) (u.1 kind) h.0 m2 a) h.3
  moved_unsigned (Resumes reply v go fall) u m m2 a h none = onwards h.0 m2 a h.1
      (no_mic ((hand n k).counts h.0) ((hand n k).counts m) (resume_counts m h.0 reply h.1 h.2) none)
      (λ step. moved_unsigned (go step) (u.0 step) h.0 m2 a) (λ kind. moved_unsigned (fall kind) (u.1 kind) h.0 m2 a) h.3
  moved_unsigned (Accepts args v go) u m m2 a h none = accepted h.0 m2 a h.1
      (no_mic ((hand n k).counts h.0) ((hand n k).counts m) (accept_counts m h.0 args h.1 h.2) none)
      (λ step. moved_unsigned (go step) (u step) h.0 m2 a) h.3
  moved_unsigned (Pairs go) u m m2 a h none = moved_unsigned (go ((hand n k).pairs m)) (u ((hand n k).pairs m)) m m2 a h none
  moved_unsigned (Names v go) u m m2 a h none = moved_unsigned (go h.0) (u h.0) m m2 a h.2 none
  moved_unsigned (Identifies identities v p) u m m2 a h none = behind h.0 m2
      (no_mic ((hand n k).counts h.0) ((hand n k).counts m) ((hand_lawful r q n k ln lk).identify_counts m h.0 identities h.1) none)
      (moved_unsigned p u h.0 m2 a) h.2
  moved_unsigned (Signs text v go) u m m2 a h none = absurd u
  moved_unsigned (Verifies mic text v p) u m m2 a h none = absurd u

  pub reached_unsigned : (p : Plan) → IsUnsigned p → (m m2 : Hand) (a : Answer) → Reaches (hand n k) p m a m2 → HasNone m → HasNone m2
  reached_unsigned p u m m2 a (inl same) none = subst HasNone (sym same) none
  reached_unsigned p u m m2 a (inr h) none = moved_unsigned p u m m2 a h none

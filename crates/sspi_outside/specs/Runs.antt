-- That the host was told what a step of its negotiation asks for.
use Rattle.std.specs.Prelude.{◌≡◌, ℕ, List, [], ◌∷◌, Bool, true, false, Option, None, Some}
use Rattle.std.specs.Prelude.{unwrap_or}
use Rattle.sspi_types.specs.declared.security_status.SecurityStatus.{SecurityStatus}
use Rattle.sspi_names.specs.Name.{Name}
use Rattle.sspi_mech.specs.Calls.{StepArgs, AcceptArgs}
use Rattle.sspi_mech.specs.declared.step.Step.{Step}
use Rattle.sspi_tokens.specs.Reading.{init_of, targ_of}
use Rattle.sspi_tokens.specs.Spelling.{spelled_list}
use Rattle.sspi_tokens.specs.declared.neg_token_init.NegTokenInit.{NegTokenInit}
use Rattle.sspi_tokens.specs.declared.neg_token_targ.NegTokenTarg.{NegTokenTarg}
use Rattle.sspi_negotiate.specs.declared.protocol.Protocol.{Protocol}
use Rattle.sspi_negotiate.specs.declared.protocol.Protocol.TheVariants as protocols
use Rattle.sspi_negotiate.specs.declared.protocol_config.ProtocolConfig.TheVariants as configs
use Rattle.sspi_negotiate.specs.declared.state.NegotiateState.TheVariants as states
use Rattle.sspi_negotiate.specs.declared.state.Role.TheVariants.{Server}
use Rattle.sspi_negotiate.specs.Client.{is_ok, spnego_client}
use Rattle.sspi_negotiate.specs.Hand.{Origin, Configured, InPlaceOfNtlm}
use Rattle.sspi_negotiate.specs.Plan.{Plan, Goes, Stops, Takes, Steps, Resumes, Accepts, Pairs}
use Rattle.sspi_negotiate.specs.Plan.{Names, Identifies, Signs, Verifies}
use Rattle.sspi_negotiate.specs.Rows.{is_over}
use Rattle.sspi_negotiate.specs.Server.{spnego_server}
use Rattle.sspi_negotiate.specs.Values.{Values}
use Rattle.sspi_outside.specs.Course.{Asking, course_of, offer_due, take_offer, addressed}
use Rattle.sspi_outside.specs.Course.{make_offer, answer_due, take_choice, continuation_due, go_on}
use Rattle.sspi_outside.specs.Negotiated.{handed_offer, handed_response}
use Rattle.sspi_outside.specs.declared.course.Course.{Course}

-- the mechanism that is made
abbrev pub named_by : Origin → Protocol
named_by (Configured (configs.Ntlm config)) = protocols.Ntlm
named_by (Configured (configs.Kerberos config)) = protocols.Kerberos
named_by (Configured (configs.KerberosServer config server)) = protocols.Kerberos
named_by (InPlaceOfNtlm url kdcs computer) = protocols.Kerberos

-- A step by this plan, if none of its questions is refused. One mechanism steps as told, or none,
-- and no other. Each MIC that is made or verified is over this list. What is known afterwards, by
-- whether a mechanism ended in the step and by the step's answer, is what the end then has.
module _ (ip : Bool) (list : Option (List ℕ)) (known : Bool → SecurityStatus → Course) where
  abbrev pub Runs : Option Asking → Bool → Protocol → Plan → Type 0
  Runs due ended held (Goes v step) = (due ≡ None) × (course_of ip v ≡ known ended step.status)
  Runs due ended held (Stops v kind) = Unit {0}
  Runs due ended held (Takes origin p) = Runs due ended (named_by origin) p
  Runs due ended held (Steps args v go fall) =
      (due ≡ Some (record { mechanism = held; token = args.input })) ×
      ((step : Step) → Runs None (is_ok step.status) held (go step))
  Runs due ended held (Resumes reply v go fall) = ⊥
  Runs due ended held (Accepts args v go) =
      (due ≡ Some (record { mechanism = held; token = args.input })) ×
      ((step : Step) → Runs None (is_over step.status) held (go step))
  Runs due ended held (Pairs go) = (pairs : Bool) → Runs due ended held (go pairs)
  Runs due ended held (Names v go) = (name : Name) → Runs due ended held (go name)
  Runs due ended held (Identifies identities v p) = Runs due ended held p
  Runs due ended held (Signs text v go) = (list ≡ Some text) ×
      ((mic : List ℕ) → Runs due ended held (go mic))
  Runs due ended held (Verifies mic text v p) = (list ≡ Some text) × Runs due ended held p

-- the step that the host was told, with its envelope; an empty envelope is no step
abbrev pub made_with : Protocol → List ℕ → Option Asking
made_with mechanism [] = None
made_with mechanism (byte ∷ bytes) = Some (record { mechanism = mechanism; token = byte ∷ bytes })

abbrev pub made_of : List ℕ → Option Asking → Option Asking
made_of envelope None = None
made_of envelope (Some due) = made_with due.mechanism envelope

-- the same, if an empty envelope means no token
abbrev pub stepped_with : List ℕ → Option Asking → Option Asking
stepped_with envelope None = None
stepped_with envelope (Some due) = Some (record { mechanism = due.mechanism; token = envelope })

-- ---- the laws

-- a server's first step, on the offer that was passed in
abbrev pub OfferIsStepped : Type 0
OfferIsStepped = (v : Values) (args : AcceptArgs) (offer : NegTokenInit) (envelope : List ℕ) →
    v.role ≡ Server →
    v.state ≡ states.Initial → init_of args.input ≡ Some (handed_offer offer envelope) →
    let c = take_offer offer (course_of false v) in
    Runs false (spelled_list c.list) (λ ended status. go_on ended status c)
    (made_of envelope (offer_due (course_of false v) offer)) false
    v.hand (spnego_server v args)

-- its later steps; once the mechanism has ended, none steps
abbrev pub ContinuationIsStepped : Type 0
ContinuationIsStepped = (v : Values) (args : AcceptArgs) (token : NegTokenTarg) (envelope : List ℕ)
    (verified : Option (List ℕ)) →
    v.role ≡ Server → v.state ≡ states.InProgress →
    targ_of args.input ≡ Some (handed_response token envelope verified) →
    Runs false (spelled_list v.list) (λ ended status. go_on ended status (course_of false v))
    (stepped_with envelope (continuation_due (course_of false v) token)) false v.hand
    (spnego_server v args)

abbrev pub LastIsVerified : Type 0
LastIsVerified = (v : Values) (args : AcceptArgs) (token : NegTokenTarg) (envelope : List ℕ)
    (verified : Option (List ℕ)) →
    v.role ≡ Server → v.state ≡ states.VerifyMic →
    targ_of args.input ≡ Some (handed_response token envelope verified) →
    Runs false (spelled_list v.list) (λ ended status. go_on ended status (course_of false v))
    (stepped_with envelope (continuation_due (course_of false v) token)) true v.hand
    (spnego_server v args)

-- a client's first step, if no KDC of its own is set; no MIC is made or verified
abbrev pub FirstIsStepped : Type 0
FirstIsStepped = (ip : Bool) (v : Values) (args : StepArgs) → v.kdcs ≡ [] →
    v.state ≡ states.Initial →
    let c = addressed (course_of ip v) in
    Runs ip None (λ ended status. make_offer c)
    (Some (record { mechanism = c.hand; token = args.input })) false v.hand
    (spnego_client ip v args)

-- its later steps, with the server's choice
abbrev pub AnswerIsStepped : Type 0
AnswerIsStepped = (ip : Bool) (v : Values) (args : StepArgs) (token : NegTokenTarg)
    (envelope : List ℕ) (verified : Option (List ℕ)) →
    v.kdcs ≡ [] → v.state ≡ states.InProgress →
    targ_of args.input ≡ Some (handed_response token envelope verified) →
    let c = course_of ip v in
    Runs ip (spelled_list v.list) (λ ended status. go_on ended status
    (unwrap_or (take_choice token.supported_mech c) c))
    (stepped_with envelope (answer_due c token)) false v.hand (spnego_client ip v args)

-- once the mechanism has ended, none steps
abbrev pub ConfirmationIsVerified : Type 0
ConfirmationIsVerified = (ip : Bool) (v : Values) (args : StepArgs) (token : NegTokenTarg)
    (envelope : List ℕ)
    (verified : Option (List ℕ)) → v.kdcs ≡ [] → v.state ≡ states.VerifyMic →
    targ_of args.input ≡ Some (handed_response token envelope verified) →
    Runs ip (spelled_list v.list) (λ ended status. go_on ended status (addressed (course_of ip v)))
    None true v.hand
    (spnego_client ip v args)

-- What the host of a negotiation knows about it, and what it is told to do before each step.
use Rattle.std.specs.Prelude.{◌≡◌, ℕ, ◌==◌, ◌&&◌, List, [], Bool, true, false, Option, None, Some}
use Rattle.std.specs.Prelude.{option_map, if◌then◌else◌}
use Rattle.sspi_types.specs.declared.security_status.SecurityStatus.{SecurityStatus}
use Rattle.sspi_tokens.specs.declared.neg_token_init.NegTokenInit.{NegTokenInit}
use Rattle.sspi_tokens.specs.declared.neg_token_targ.NegTokenTarg.{NegTokenTarg}
use Rattle.sspi_tokens.specs.declared.oid.MechKind.{MechKind}
use Rattle.sspi_tokens.specs.declared.oid.MechKind.TheVariants as kinds
use Rattle.sspi_tokens.specs.Oids.{kind_of}
use Rattle.sspi_negotiate.specs.declared.package_list.PackageListConfig.{PackageListConfig}
use Rattle.sspi_negotiate.specs.declared.pick.Choice.{Choice}
use Rattle.sspi_negotiate.specs.declared.pick.Choice.TheVariants as choices
use Rattle.sspi_negotiate.specs.declared.pick.Picked.{Picked}
use Rattle.sspi_negotiate.specs.declared.protocol.Protocol.{Protocol}
use Rattle.sspi_negotiate.specs.declared.protocol.Protocol.TheVariants as protocols
use Rattle.sspi_negotiate.specs.declared.state.NegotiateState.{NegotiateState}
use Rattle.sspi_negotiate.specs.declared.state.NegotiateState.TheVariants as states
use Rattle.sspi_negotiate.specs.Client.{is_ok}
use Rattle.sspi_negotiate.specs.Pick.{pick, offered}
use Rattle.sspi_negotiate.specs.Rows.{or_empty}
use Rattle.sspi_negotiate.specs.Values.{Values}
use Rattle.sspi_outside.specs.declared.course.Course.{Course}

-- the step of a mechanism, with this token
pub record Asking : Type 0 where
  pub mechanism : Protocol
  pub token : List ℕ

-- what a host knows of these values; `ip` is whether the target is named by its IP address
abbrev pub course_of : Bool → Values → Course
course_of ip v = record {
  state = v.state;
  hand = v.hand;
  packages = v.packages;
  list = v.list;
  by_address = ip;
}

-- an end begins with Kerberos if it may be used
abbrev pub first_hand : PackageListConfig → Protocol
first_hand packages = if packages.kerberos then protocols.Kerberos else protocols.Ntlm

abbrev pub new_course : PackageListConfig → Bool → Course
new_course packages ip =
    record {
      state = states.Initial;
      hand = first_hand packages;
      packages = packages;
      list = [];
      by_address = ip;
    }

-- ---- a server's first step

abbrev pub taken : Choice → Protocol → Protocol
taken choices.MsKerberos held = held
taken choices.Kerberos held = held
taken choices.Ntlm held = protocols.Ntlm

-- the picked mechanism steps with the client's token, if it is the client's first choice
abbrev pub due_if : Bool → Choice → Option (List ℕ) → Protocol → Option Asking
due_if best choice None held = None
due_if best choice (Some token) held = if best
    then Some (record { mechanism = taken choice held; token = token }) else None

abbrev pub due_of_pick : Option Picked → Option (List ℕ) → Protocol → Option Asking
due_of_pick None token held = None
due_of_pick (Some p) token held = due_if (p.index == 0) p.choice token held

abbrev pub due_of_list : Option (List (List ℕ)) → Option (List ℕ) → Course → Option Asking
due_of_list None token c = None
due_of_list (Some list) token c = due_of_pick (pick list c.packages c.hand) token c.hand

abbrev pub offer_due : Course → NegTokenInit → Option Asking
offer_due c offer = due_of_list offer.mech_types offer.mech_token c

-- the list is kept, and the pick is selected
abbrev pub picks : Option Picked → List (List ℕ) → Course → Course
picks None list c = c
picks (Some p) list c = record c { list = list; hand = taken p.choice c.hand }

abbrev pub takes_list : Option (List (List ℕ)) → Course → Course
takes_list None c = c
takes_list (Some list) c = picks (pick list c.packages c.hand) list c

abbrev pub take_offer : NegTokenInit → Course → Course
take_offer offer c = takes_list offer.mech_types c

-- ---- a client

-- a target that is named by its IP address is for NTLM alone, if that may be used
abbrev pub addressed : Course → Course
addressed c =
    if c.by_address && c.packages.ntlm
    then record c { hand = protocols.Ntlm; packages = record c.packages { kerberos = false } }
    else c

-- after the first step, of the selected mechanism, whose token is in the client's offer
abbrev pub make_offer : Course → Course
make_offer c = record c { state = states.InProgress; list = offered c.hand c.packages }

-- the server's choice, if it made one that may be used
abbrev pub chooses : Option MechKind → Course → Option Course
chooses None c = Some c
chooses (Some kinds.MsKerberos) c = if c.packages.kerberos then
    Some (record c { hand = protocols.Kerberos; packages = record c.packages { ntlm = false } })
    else None
chooses (Some kinds.Kerberos) c = if c.packages.kerberos then
    Some (record c { hand = protocols.Kerberos; packages = record c.packages { ntlm = false } })
    else None
chooses (Some kinds.Ntlm) c = if c.packages.ntlm then
    Some (record c { hand = protocols.Ntlm; packages = record c.packages { kerberos = false } })
    else None
chooses (Some kinds.Other) c = None

abbrev pub take_choice : Option (List ℕ) → Course → Option Course
take_choice mech c = chooses (option_map kind_of mech) (addressed c)

-- ---- later steps

-- a step of the selected mechanism, while it authenticates
abbrev pub step_at : NegotiateState → Protocol → Option (List ℕ) → Option Asking
step_at states.Initial held token = None
step_at states.InProgress held token = Some (record { mechanism = held; token = or_empty token })
step_at states.VerifyMic held token = None
step_at states.Ok held token = None

abbrev pub continuation_due : Course → NegTokenTarg → Option Asking
continuation_due c token = step_at c.state c.hand token.response_token

abbrev pub chosen_due : Option Course → NegTokenTarg → Option Asking
chosen_due None token = None
chosen_due (Some c) token = continuation_due c token

abbrev pub answer_due : Course → NegTokenTarg → Option Asking
answer_due c token = chosen_due (take_choice token.supported_mech c) token

-- the state of the negotiation then: over, or awaiting the peer's MIC once the mechanism has ended
abbrev pub next : Bool → SecurityStatus → NegotiateState
next ended status = if is_ok status then states.Ok else if ended then states.VerifyMic
    else states.InProgress

abbrev pub go_on : Bool → SecurityStatus → Course → Course
go_on ended status c = record c { state = next ended status }

-- whether the choice was taken, and what is known then
abbrev pub OfChoice : Option Course → Bool → Course → Type 0
OfChoice None done after = done ≡ false
OfChoice (Some c) done after = (done ≡ true) × (after ≡ c)

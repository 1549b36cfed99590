-- What the calls on a course do: on what a host knows about the negotiation of its end.
use Rattle.std.specs.Prelude.{◌≡◌, ◌≢◌, ℕ, ◌==◌, Bool, true, false, not, List, length, Option, None}
use Rattle.std.specs.Prelude.{Some, Result, Ok, Err, if◌then◌else◌}
use Rattle.sspi_types.specs.declared.security_status.SecurityStatus.{SecurityStatus}
use Rattle.sspi_types.specs.declared.security_status.SecurityStatus.TheVariants as statuses
use Rattle.sspi_negotiate.specs.declared.package_list.PackageListConfig.{PackageListConfig}
use Rattle.sspi_negotiate.specs.declared.protocol.Protocol.{Protocol}
use Rattle.sspi_negotiate.specs.declared.protocol.Protocol.TheVariants as protocols
use Rattle.sspi_outside.specs.Course.{Asking, addressed, continuation_due, new_course, offer_due}
use Rattle.sspi_outside.specs.Course.{take_choice, take_offer}
use Rattle.sspi_outside.specs.Negotiated.{handed_offer, handed_response, list_to_sign}
use Rattle.sspi_outside.specs.declared.course.Course.{Course as Known}
use Rattle.sspi_tokens.specs.declared.neg_token_init.NegTokenInit.{NegTokenInit}
use Rattle.sspi_tokens.specs.declared.neg_token_targ.NegTokenTarg.{NegTokenTarg}
use Rattle.newaksu_c.specs.declared.object.Object.{Object}
use Rattle.newaksu_c.specs.declared.object.Object.TheVariants.{Request, Reader, Init, Targ}
use Rattle.newaksu_c.specs.declared.object.Object.TheVariants.{Credentials, Identities}
use Rattle.newaksu_c.specs.declared.object.Object.TheVariants.{Client, Server, PlainClient}
use Rattle.newaksu_c.specs.declared.object.Object.TheVariants.{PlainServer, Course}
use Rattle.newaksu_c.specs.Requests.{present}
use Rattle.newaksu_c.specs.Settings.{◌then_with◌}
use Rattle.newaksu_c.specs.Status.{ok, insufficient_memory, invalid_handle, invalid_parameter}

abbrev pub course_in : Option Object → Option Known
course_in None = None
course_in (Some (Request r)) = None
course_in (Some (Reader r)) = None
course_in (Some (Init t)) = None
course_in (Some (Targ t)) = None
course_in (Some (Credentials c)) = None
course_in (Some (Identities l)) = None
course_in (Some (Client e)) = None
course_in (Some (Server e)) = None
course_in (Some (PlainClient e)) = None
course_in (Some (PlainServer e)) = None
course_in (Some (Course c)) = Some c

-- the code of InvalidToken, for a choice that may not be used
abbrev pub invalid_token : ℕ
invalid_token = 0x80090308

-- the mechanisms that may be used, by their number
abbrev pub packages_by : ℕ → Result PackageListConfig ℕ
packages_by number =
    if number == 1 then Ok (record { ntlm = true; kerberos = false })
    else if number == 2 then Ok (record { ntlm = false; kerberos = true })
    else if number == 3 then Ok (record { ntlm = true; kerberos = true })
    else Err invalid_parameter

abbrev pub is_set : ℕ → Bool
is_set number = not (number == 0)

abbrev pub course_by : ℕ → ℕ → Result Object ℕ
course_by mechanisms by_address =
    packages_by mechanisms then_with λ packages. Ok
    (Course (new_course packages (is_set by_address)))

-- a mechanism by the number that its identifier has, and 0 if none steps
abbrev pub mechanism_number : Protocol → ℕ
mechanism_number protocols.Kerberos = 2
mechanism_number protocols.Ntlm = 3

abbrev pub due_number : Option Asking → ℕ
due_number None = 0
due_number (Some due) = mechanism_number due.mechanism

-- what a step answered, by whether it ended the negotiation
abbrev pub status_by : ℕ → SecurityStatus
status_by number = if number == 0 then statuses.Ok else statuses.ContinueNeeded

module _ (before after : Option Object) (told now status : ℕ) where
  -- the handles do not have such objects, and nothing changes
  abbrev pub Misses : Type 0
  Misses = (status ≡ invalid_handle) × (after ≡ before) × (now ≡ told)

  -- the offer received is taken, and the mechanism that steps with its token is reported
  abbrev pub TakesOffer : Option Known → Option NegTokenInit → Type 0
  TakesOffer None offer = Misses
  TakesOffer (Some c) None = Misses
  TakesOffer (Some c) (Some offer) =
      (status ≡ ok → (after ≡ Some (Course (take_offer offer c))) ×
      (now ≡ due_number (offer_due c offer))) ×
      (status ≢ ok → (status ≡ insufficient_memory) × (after ≡ before) × (now ≡ told))

  -- the server's choice is taken, if it may be used; else the handle still has a course
  abbrev pub Chooses : Option Known → NegTokenTarg → Type 0
  Chooses None token = (status ≡ invalid_token) × (now ≡ told) ×
      ((kept : Known) × (after ≡ Some (Course kept)))
  Chooses (Some c) token = (status ≡ ok) × (after ≡ Some (Course c)) ×
      (now ≡ due_number (continuation_due c token))

  abbrev pub TakesAnswer : Option Known → Option NegTokenTarg → Type 0
  TakesAnswer None token = Misses
  TakesAnswer (Some c) None = Misses
  TakesAnswer (Some c) (Some token) = Chooses (take_choice token.supported_mech c) token

  -- the mechanism that steps with a client's later token, on a server
  abbrev pub TellsContinuation : Option Known → Option NegTokenTarg → Type 0
  TellsContinuation None token = Misses
  TellsContinuation (Some c) None = Misses
  TellsContinuation (Some c) (Some token) = (status ≡ ok) × (after ≡ before) ×
      (now ≡ due_number (continuation_due c token))

  -- the mechanism that makes a client's first step
  abbrev pub TellsFirst : Option Known → Type 0
  TellsFirst None = Misses
  TellsFirst (Some c) = (status ≡ ok) × (after ≡ Some (Course (addressed c))) ×
      (now ≡ mechanism_number (addressed c).hand)

abbrev pub list_of : Known → Result (List (List ℕ)) ℕ
list_of c = Ok c.list

-- ---- tokens

abbrev pub with_step : List ℕ → NegTokenInit → Result NegTokenInit ℕ
with_step envelope offer = Ok (handed_offer offer envelope)

-- the list over which the MIC was verified, if it was
abbrev pub good_over : ℕ → List ℕ → Option (List ℕ)
good_over good list = if is_set good then Some list else None

abbrev pub with_report : List ℕ → ℕ → List ℕ → NegTokenTarg → Result NegTokenTarg ℕ
with_report envelope good list token = Ok (handed_response token envelope (good_over good list))

abbrev pub signing_of : NegTokenTarg → Result (List ℕ) ℕ
signing_of token = present (list_to_sign token)

-- A client that asked a KDC waits, and one whose step is done does not.
use Rattle.std.proofs.Common.{◌≡◌, Bool, true, false, refl, sym}
use Rattle.sspi_mech.specs.declared.step.Answer.{Answer}
use Rattle.sspi_mech.specs.declared.step.Answer.TheVariants.{Done, Ask, Refused}
use Rattle.sspi_mech.specs.declared.step.Reply.{Reply}
use Rattle.sspi_mech.specs.Calls.{StepArgs}
use Rattle.sspi_mech.specs.Meaning.{Meaning}
use Rattle.sspi_negotiate.specs.declared.branch.Branch.{Branch}
use Rattle.sspi_negotiate.specs.declared.state.NegotiateState.{NegotiateState}
use Rattle.sspi_negotiate.specs.declared.state.NegotiateState.TheVariants as states
use Rattle.sspi_negotiate.specs.declared.state.Role.{Role}
use Rattle.sspi_negotiate.specs.declared.state.Role.TheVariants.{Client, Server}
use Rattle.std.proofs.lemmas.Bool.{false≢true}
use Rattle.sspi_negotiate.specs.Client.{is_closed, spnego_client, spnego_resumed}
use Rattle.sspi_negotiate.specs.Hand.{Origin}
use Rattle.sspi_negotiate.specs.Values.{Values, is_waiting}
use Rattle.sspi_negotiate.proofs.Kept.{IsKept, client_kept, resumed_kept}
use Rattle.sspi_negotiate.proofs.Leads.{Leads}

abbrev pub IsTidy : Answer → Values → Type 0
IsTidy (Done step) v = is_waiting v.branch ≡ false
IsTidy (Ask request) v = is_waiting v.branch ≡ true
IsTidy (Refused error) v = Unit {0}

abbrev IsIdle : Values → Type 0
IsIdle v = is_waiting v.branch ≡ false

tidy_kept : IsKept IsTidy IsIdle (Unit {0})
tidy_kept = record {
  done = λ v step g. g;
  stop = λ v branch error g. tt;
  ask = λ v branch q waits g. waits;
  state = λ v state g. g;
  need = λ v need g. g;
  kept = λ v kept g. g;
  list = λ v list first g. g;
  to_ntlm = λ v h g. g;
  pick_ntlm = λ v h g. g;
  to_kerberos = λ v h g. g;
  rule_kerberos = λ v h g. g;
}

idle_open : (role : Role) (state : NegotiateState) (branch : Branch) → is_closed role state branch ≡ false → is_waiting branch ≡ false
idle_open Server state branch h = absurd (false≢true (sym h))
idle_open Client states.Initial branch h = h
idle_open Client states.InProgress branch h = h
idle_open Client states.VerifyMic branch h = h
idle_open Client states.Ok branch h = absurd (false≢true (sym h))

module _ {M : Type 0} (c : Meaning Origin M) (m : M) where
  pub client_tidy : (ip : Bool) (v : Values) (args : StepArgs) → Leads c (λ m1. IsTidy) (spnego_client ip v args) m
  client_tidy ip v args = client_kept c IsTidy IsIdle (Unit {0}) tidy_kept ip v args m (λ h. tt) (λ error. tt)
      (idle_open v.role v.state v.branch)

  pub resumed_tidy : (v : Values) (reply : Reply) → Leads c (λ m1. IsTidy) (spnego_resumed v reply) m
  resumed_tidy v reply = resumed_kept c IsTidy IsIdle (Unit {0}) tidy_kept v reply m (λ opening h. tt) (λ error. tt) refl

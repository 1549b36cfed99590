-- A fact of values alone that each part of a step keeps.
use Rattle.std.proofs.Common.{◌≡◌, ℕ, Bool, true, false, List, Option, refl, sym, subst}
use Rattle.sspi_types.specs.declared.error.Error.{Error}
use Rattle.sspi_names.specs.declared.credentials.CredentialsBuffers.{CredentialsBuffers}
use Rattle.sspi_names.specs.declared.network.NetworkRequest.{NetworkRequest}
use Rattle.sspi_mech.specs.declared.step.Answer.{Answer}
use Rattle.sspi_mech.specs.declared.step.Answer.TheVariants.{Done, Ask, Refused}
use Rattle.sspi_mech.specs.declared.step.Reply.{Reply}
use Rattle.sspi_mech.specs.declared.step.Step.{Step}
use Rattle.sspi_mech.specs.Calls.{StepArgs, AcceptArgs}
use Rattle.sspi_mech.specs.Meaning.{Meaning}
use Rattle.sspi_negotiate.specs.declared.branch.Branch.{Branch}
use Rattle.sspi_negotiate.specs.declared.branch.Branch.TheVariants.{Idle, Opening, Answering}
use Rattle.sspi_negotiate.specs.declared.branch.Opening.{Opening as FirstStep}
use Rattle.sspi_negotiate.specs.declared.pick.Choice.{Choice}
use Rattle.sspi_negotiate.specs.declared.pick.Choice.TheVariants as choices
use Rattle.sspi_negotiate.specs.declared.protocol.Protocol.{Protocol}
use Rattle.sspi_negotiate.specs.declared.protocol.Protocol.TheVariants as protocols
use Rattle.sspi_negotiate.specs.declared.state.NegotiateState.{NegotiateState}
use Rattle.sspi_negotiate.specs.declared.state.NegotiateState.TheVariants as states
use Rattle.sspi_negotiate.specs.Client.{is_closed, spnego_client, spnego_resumed}
use Rattle.sspi_negotiate.specs.Hand.{Origin}
use Rattle.sspi_negotiate.specs.Pick.{offered}
use Rattle.sspi_negotiate.specs.Server.{spnego_server}
use Rattle.sspi_negotiate.specs.Values.{Values, is_waiting}
use Rattle.sspi_negotiate.proofs.ClientLeads.{StepCases, ClientCases, client_leads, resumed_leads}
use Rattle.sspi_negotiate.proofs.Leads.{Leads}
use Rattle.sspi_negotiate.proofs.ServerLeads.{IsTaken, ServerCases, server_leads}

-- R holds at the ends where Good held before, and each part keeps Good; a list is taken only where AtFirst holds
pub record IsKept (R : Answer → Values → Type 0) (Good : Values → Type 0) (AtFirst : Type 0) : Type 0 where
  pub done : (v : Values) (step : Step) → Good v → R (Done step) v
  pub stop : (v : Values) (branch : Branch) (error : Error) → Good v → R (Refused error) (record v { branch = branch })
  pub ask : (v : Values) (branch : Branch) (q : NetworkRequest) → is_waiting branch ≡ true → Good v →
      R (Ask q) (record v { branch = branch })
  pub state : (v : Values) (state : NegotiateState) → Good v → Good (record v { state = state })
  pub need : (v : Values) (need : Bool) → Good v → Good (record v { need = need })
  pub kept : (v : Values) (kept : Option CredentialsBuffers) → Good v → Good (record v { kept = kept })
  pub list : (v : Values) (list : List (List ℕ)) → AtFirst → Good v → Good (record v { list = list })
  pub to_ntlm : (v : Values) → v.packages.ntlm ≡ true → Good v →
      Good (record v { hand = protocols.Ntlm; packages = record v.packages { kerberos = false } })
  pub pick_ntlm : (v : Values) → v.packages.ntlm ≡ true → Good v → Good (record v { hand = protocols.Ntlm })
  pub to_kerberos : (v : Values) → v.packages.kerberos ≡ true → Good v →
      Good (record v { hand = protocols.Kerberos; packages = record v.packages { ntlm = false } })
  pub rule_kerberos : (v : Values) → v.packages.kerberos ≡ true → Good v → Good (record v { hand = protocols.Kerberos })

module _ {M : Type 0} (c : Meaning Origin M) (R : Answer → Values → Type 0) (Good : Values → Type 0) (AtFirst : Type 0)
    (keep : IsKept R Good AtFirst) where
  abbrev pub OfValues : M → Answer → Values → Type 0
  OfValues m r v = R r v

  abbrev Opens : Values → Type 0
  Opens v = AtFirst × Good v

  abbrev Before : Values → Type 0
  Before v = (v.state ≡ states.Initial → AtFirst) × Good v

  pub step_cases : StepCases c OfValues Opens Good
  step_cases = record {
    after = record {
      offers = λ m v token text is g. keep.done _ _
          (keep.list _ (offered v.hand v.packages) g.0 (keep.state v states.InProgress g.1));
      unopened = λ m v branch error comes g. keep.stop v branch error g.1;
      refuses = λ m v branch error comes g. keep.stop v branch error g;
      goes_on = λ m v step on g. keep.done v step g;
      hands_mic = λ m v output g. keep.done _ _ (keep.state v states.VerifyMic g);
      is_over = λ m v output why g. keep.done _ _ (keep.state v states.Ok g);
    };
    opening = λ m v first q g. keep.ask v (Opening first) q refl g.1;
    falls = λ v usable g. (g.0, keep.to_ntlm v usable g.1);
    answering = λ m v token q g. keep.ask v (Answering token) q refl g;
  }

  client_cases : (args : StepArgs) → ClientCases c args OfValues Before Opens Good
  client_cases args = record {
    step = step_cases;
    addressed = λ v usable g. (g.0, keep.to_ntlm v usable g.1);
    kept = λ v kept g. (g.0, keep.kept v kept g.1);
    ruled = λ v usable g. (g.0, keep.rule_kerberos v usable g.1);
    unready = λ m v error comes g. keep.stop v v.branch error g.1;
    opens = λ v at g. (g.0 at, keep.need v _ g.1);
    unchosen = λ v at chosen g. g.1;
    kerberos = λ v at chosen usable held g.
        subst (λ hand. Good (record v { hand = hand; packages = record v.packages { ntlm = false } })) (sym held)
        (keep.to_kerberos v usable g.1);
    to_kerberos = λ v at chosen usable g. keep.need _ true (keep.to_kerberos v usable g.1);
    to_ntlm = λ v at chosen usable g. keep.need _ _ (keep.to_ntlm v usable g.1);
    confirms = λ v at g. g.1;
  }

  taken_good : (choice : Choice) (v : Values) (hand : Protocol) → IsTaken choice v.packages v.hand hand → Good v →
      Good (record v { hand = hand })
  taken_good choices.MsKerberos v hand is g = subst (λ x. Good (record v { hand = x })) (sym is.0) g
  taken_good choices.Kerberos v hand is g = subst (λ x. Good (record v { hand = x })) (sym is.0) g
  taken_good choices.Ntlm v hand is g = subst (λ x. Good (record v { hand = x })) (sym is.0) (keep.pick_ntlm v is.1 g)

  server_cases : (args : AcceptArgs) → ServerCases c args OfValues Before (λ p. Good) Good
  server_cases args = record {
    unready = λ m v error comes g. keep.stop v v.branch error g.1;
    chooses = λ v token list p hand at read listed is taken g. keep.list _ list (g.0 at) (taken_good p.choice v hand taken g.1);
    unpicked = λ m v p error comes g. keep.stop v v.branch error g;
    tells = λ m v p output need state late still is g. keep.done _ _ (keep.state _ state (keep.need v need g));
    at_once = λ m v p output b at none g. keep.done _ _ (keep.state _ states.Ok (keep.need v false g));
    later = λ v late still g. g.1;
    refuses = λ m v error comes g. keep.stop v v.branch error g;
    goes_on = λ m v step on g. keep.done v step g;
    hands_mic = λ m v output g. keep.done _ _ (keep.state v states.VerifyMic g);
    ends = λ m v output why g. keep.done _ _ (keep.state v states.Ok g);
    excuses = λ m v output guest g. keep.done _ _ (keep.state _ states.Ok (keep.need v false g));
  }

  -- a refusal that comes first leaves all as it was
  pub client_kept : (ip : Bool) (v : Values) (args : StepArgs) (m : M) → (v.state ≡ states.Initial → AtFirst) →
      ((error : Error) → R (Refused error) v) → (is_closed v.role v.state v.branch ≡ false → Good v) →
      Leads c OfValues (spnego_client ip v args) m
  client_kept ip v args m first refuse g = client_leads c args OfValues Before Opens Good (client_cases args) ip v m
      (λ m1 error comes. refuse error) (λ opened. (first, g opened))

  pub resumed_kept : (v : Values) (reply : Reply) (m : M) → ((first : FirstStep) → v.branch ≡ Opening first → AtFirst) →
      ((error : Error) → R (Refused error) v) → Good (record v { branch = Idle }) → Leads c OfValues (spnego_resumed v reply) m
  resumed_kept v reply m first refuse g = resumed_leads c OfValues Opens Good step_cases v reply m
      (λ m1 error comes. refuse error) (λ opening is. (first opening is, g)) (λ token is. g)

  pub server_kept : (v : Values) (args : AcceptArgs) (m : M) → (v.state ≡ states.Initial → AtFirst) → Good v →
      Leads c OfValues (spnego_server v args) m
  server_kept v args m first g = server_leads c args OfValues Before (λ p. Good) Good (server_cases args) v m (first, g)

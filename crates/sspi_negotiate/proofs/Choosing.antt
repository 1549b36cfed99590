-- What a server's choice of a mechanism leaves a client: the other one is disabled, and what is disabled cannot be chosen.
use Rattle.std.proofs.Common.{◌≡◌, Bool, true, false, Some, refl, sym, ◌∙◌}
use Rattle.std.proofs.lemmas.Bool.{false≢true}
use Rattle.sspi_mech.specs.declared.step.Answer.{Answer}
use Rattle.sspi_mech.specs.declared.step.Answer.TheVariants.{Done, Ask, Refused}
use Rattle.sspi_mech.specs.Calls.{StepArgs}
use Rattle.sspi_mech.specs.Meaning.{Meaning}
use Rattle.sspi_negotiate.specs.declared.package_list.PackageListConfig.{PackageListConfig}
use Rattle.sspi_negotiate.specs.declared.protocol.Protocol.{Protocol}
use Rattle.sspi_negotiate.specs.declared.protocol.Protocol.TheVariants as protocols
use Rattle.sspi_negotiate.specs.declared.state.NegotiateState.TheVariants as states
use Rattle.sspi_negotiate.specs.Choices.{chosen_in, other_protocol, UnlessRefused}
use Rattle.sspi_negotiate.specs.Client.{spnego_client}
use Rattle.sspi_negotiate.specs.Does.{UnlessMemory}
use Rattle.sspi_negotiate.specs.Hand.{Origin}
use Rattle.sspi_negotiate.specs.Keeps.{may_use}
use Rattle.sspi_negotiate.specs.Values.{Values}
use Rattle.sspi_negotiate.proofs.ClientLeads.{StepCases, ClientCases, client_leads}
use Rattle.sspi_negotiate.proofs.Leads.{Leads}

pub made_unless : {F : Type 0} (P : Type 0) (answer : Answer) → (F → UnlessRefused answer P) → UnlessMemory answer F →
    UnlessRefused answer P
made_unless P (Done step) h f = h f
made_unless P (Ask request) h f = h f
made_unless P (Refused error) h f = tt

pub unless_map : {P Q : Type 0} (answer : Answer) → (P → Q) → UnlessRefused answer P → UnlessRefused answer Q
unless_map (Done step) on h = on h
unless_map (Ask request) on h = on h
unless_map (Refused error) on h = tt

less_kerberos : (protocol : Protocol) (packages : PackageListConfig) → may_use packages protocol ≡ false →
    may_use (record packages { kerberos = false }) protocol ≡ false
less_kerberos protocols.Ntlm packages off = off
less_kerberos protocols.Kerberos packages off = refl

left_by_kerberos : (protocol : Protocol) (packages : PackageListConfig) → Some protocol ≡ Some protocols.Kerberos →
    may_use (record packages { ntlm = false }) (other_protocol protocol) ≡ false
left_by_kerberos protocols.Kerberos packages is = refl
left_by_kerberos protocols.Ntlm packages is = absurd (cc (is))

left_by_ntlm : (protocol : Protocol) (packages : PackageListConfig) → Some protocol ≡ Some protocols.Ntlm →
    may_use (record packages { kerberos = false }) (other_protocol protocol) ≡ false
left_by_ntlm protocols.Ntlm packages is = refl
left_by_ntlm protocols.Kerberos packages is = absurd (cc (is))

chosen_usable : (protocol chosen : Protocol) (packages : PackageListConfig) → Some protocol ≡ Some chosen →
    may_use packages chosen ≡ true → may_use packages protocol ≡ false → ⊥
chosen_usable protocols.Ntlm protocols.Ntlm packages is usable off = false≢true (sym off ∙ usable)
chosen_usable protocols.Ntlm protocols.Kerberos packages is usable off = cc (is)
chosen_usable protocols.Kerberos protocols.Ntlm packages is usable off = cc (is)
chosen_usable protocols.Kerberos protocols.Kerberos packages is usable off = false≢true (sym off ∙ usable)

module _ {M : Type 0} (c : Meaning Origin M) (protocol : Protocol) (old : Values) (args : StepArgs)
    (chosen : chosen_in args.input ≡ Some protocol) where
  -- the other mechanism is disabled, and this one was not
  abbrev pub Decided : Values → Type 0
  Decided v = (may_use v.packages (other_protocol protocol) ≡ false) × (may_use old.packages protocol ≡ false → ⊥)

  abbrev pub Decides : M → Answer → Values → Type 0
  Decides m r v = UnlessRefused r (Decided v)

  -- before the token is read, nothing is enabled again
  abbrev Undecided : Values → Type 0
  Undecided v = (v.state ≡ states.InProgress) × (may_use old.packages protocol ≡ false → may_use v.packages protocol ≡ false)

  steps : StepCases c Decides (λ v. ⊥) Decided
  steps = record {
    after = record {
      offers = λ m v token text is g. absurd g;
      unopened = λ m v branch error comes g. tt;
      refuses = λ m v branch error comes g. tt;
      goes_on = λ m v step on g. g;
      hands_mic = λ m v output g. g;
      is_over = λ m v output why g. g;
    };
    opening = λ m v first q g. absurd g;
    falls = λ v usable g. g;
    answering = λ m v token q g. g;
  }

  cases : ClientCases c args Decides Undecided (λ v. ⊥) Decided
  cases = record {
    step = steps;
    addressed = λ v usable g. (g.0, λ off. less_kerberos protocol v.packages (g.1 off));
    kept = λ v kept g. g;
    ruled = λ v usable g. g;
    unready = λ m v error comes g. tt;
    opens = λ v at g. cc (at, g.0);
    unchosen = λ v at none g. absurd (cc (none, chosen));
    kerberos = λ v at is usable held g. (
      left_by_kerberos protocol v.packages (sym chosen ∙ is),
      λ off. chosen_usable protocol protocols.Kerberos v.packages (sym chosen ∙ is) usable (g.1 off),
    );
    to_kerberos = λ v at is usable g. (
      left_by_kerberos protocol v.packages (sym chosen ∙ is),
      λ off. chosen_usable protocol protocols.Kerberos v.packages (sym chosen ∙ is) usable (g.1 off),
    );
    to_ntlm = λ v at is usable g. (
      left_by_ntlm protocol v.packages (sym chosen ∙ is),
      λ off. chosen_usable protocol protocols.Ntlm v.packages (sym chosen ∙ is) usable (g.1 off),
    );
    confirms = λ v at g. absurd (cc (at, g.0));
  }

  pub client_decides : (ip : Bool) (m : M) → old.state ≡ states.InProgress → Leads c Decides (spnego_client ip old args) m
  client_decides ip m at = client_leads c args Decides Undecided (λ v. ⊥) Decided cases ip old m (λ m1 error comes. tt)
      (λ opened. (at, λ off. off))

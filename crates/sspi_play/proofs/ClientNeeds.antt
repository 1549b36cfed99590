-- A client's steps keep the need for MICs, past the first step and from one that asks for them on,
-- except for a guest. A step that ends the authentication ends the negotiation.
use Rattle.std.proofs.Common.{◌≡◌, ◌≢◌, not, Bool, true, false, refl, sym, ◌∙◌, ap}
use Rattle.std.proofs.lemmas.Bool.{false≢true}
use Rattle.sspi_types.specs.declared.error_kind.ErrorKind.TheVariants.{OutOfSequence}
use Rattle.sspi_types.specs.declared.security_status.SecurityStatus.TheVariants as statuses
use Rattle.sspi_mech.specs.declared.step.Answer.{Answer}
use Rattle.sspi_mech.specs.declared.step.Answer.TheVariants.{Done, Ask, Refused}
use Rattle.sspi_mech.specs.declared.step.Reply.{Reply}
use Rattle.sspi_mech.specs.Calls.{StepArgs}
use Rattle.sspi_mech.specs.Meaning.{Meaning}
use Rattle.sspi_negotiate.specs.declared.state.NegotiateState.TheVariants as states
use Rattle.sspi_negotiate.specs.Client.{is_ok, is_closed, is_guest, spnego_client, spnego_resumed}
use Rattle.sspi_negotiate.specs.Hand.{Origin}
use Rattle.sspi_negotiate.specs.Rows.{client_wants_mic}
use Rattle.sspi_negotiate.specs.Values.{Values}
use Rattle.sspi_negotiate.proofs.ClientLeads.{StepCases, ClientCases, client_leads, resumed_leads}
use Rattle.sspi_negotiate.proofs.Leads.{Leads, by_itself, bad_order, stops, either}
use Rattle.sspi_negotiate.proofs.Shown.{over_is_closed, open_is_before}

-- MICs are needed, except for a guest
abbrev pub NeedsBy : Bool → Values → Type 0
NeedsBy guest v = guest ≡ false → v.need ≡ true

-- what a step that is not refused leaves
abbrev pub Secures : {M : Type 0} → Bool → M → Answer → Values → Type 0
Secures guest m (Done step) v = NeedsBy guest v × (step.status ≡ statuses.Ok → v.state ≡ states.Ok)
Secures guest m (Ask request) v = NeedsBy guest v × (v.state ≢ states.Ok)
Secures guest m (Refused error) v = Unit {0}

module _ {M : Type 0} (c : Meaning Origin M) (guest : Bool) where
  -- while a step is made
  abbrev Going : Values → Type 0
  Going v = NeedsBy guest v × (v.state ≢ states.Ok)

  -- and before its row
  abbrev Before : Values → Type 0
  Before v = (v.state ≢ states.Initial → NeedsBy guest v) × (v.state ≢ states.Ok)

  steps : StepCases c (Secures guest) Going Going
  steps = record {
    after = record {
      offers = λ m v token text is g. (g.0, λ over. absurd (cc (over)));
      unopened = λ m v branch error comes g. tt;
      refuses = λ m v branch error comes g. tt;
      goes_on = λ m v step on g. (g.0, λ over. absurd (false≢true (sym on ∙ ap is_ok over)));
      hands_mic = λ m v output g. (g.0, λ over. absurd (cc (over)));
      is_over = λ m v output why g. (g.0, λ over. refl);
    };
    opening = λ m v first q g. g;
    falls = λ v usable g. g;
    answering = λ m v token q g. g;
  }

  module _ (args : StepArgs) (wants : client_wants_mic args.requirements ≡ true) (who : is_guest args.handle ≡ guest) where
    later : (v : Values) → v.state ≡ states.InProgress → Before v → Going v
    later v at g = (g.0 (λ first. cc (at, first)), g.1)

    cases : ClientCases c args (Secures guest) Before Going Going
    cases = record {
      step = steps;
      addressed = λ v usable g. g;
      kept = λ v kept g. g;
      ruled = λ v usable g. g;
      unready = λ m v error comes g. tt;
      opens = λ v at g. (λ known. wants, g.1);
      unchosen = λ v at chosen g. later v at g;
      kerberos = λ v at chosen usable held g. later v at g;
      to_kerberos = λ v at chosen usable g. (λ known. refl, g.1);
      to_ntlm = λ v at chosen usable g. (λ known. ap not (who ∙ known), g.1);
      confirms = λ v at g. (g.0 (λ first. cc (at, first)), g.1);
    }

    pub client_secures : (ip : Bool) (v : Values) (m : M) → (v.state ≢ states.Initial → NeedsBy guest v) →
        Leads c (Secures guest) (spnego_client ip v args) m
    client_secures ip v m need = client_leads c args (Secures guest) Before Going Going cases ip v m (λ m1 error comes. tt)
        (λ opened. (need, open_is_before v opened))

  pub resumed_secures : (v : Values) (reply : Reply) (m : M) → NeedsBy guest v → v.state ≢ states.Ok →
      Leads c (Secures guest) (spnego_resumed v reply) m
  resumed_secures v reply m need before = resumed_leads c (Secures guest) Going Going steps v reply m (λ m1 error comes. tt)
      (λ first is. (need, before)) (λ token is. (need, before))

-- ---- a negotiation that is over takes no step

abbrev pub OnlyRefuses : {M : Type 0} → M → Answer → Values → Type 0
OnlyRefuses m (Done step) v = ⊥
OnlyRefuses m (Ask request) v = ⊥
OnlyRefuses m (Refused error) v = Unit {0}

pub over_refuses : {M : Type 0} (c : Meaning Origin M) (ip : Bool) (v : Values) (args : StepArgs) (m : M) → v.state ≡ states.Ok →
    Leads c OnlyRefuses (spnego_client ip v args) m
over_refuses c ip v args m over = either c OnlyRefuses (is_closed v.role v.state v.branch) _ _ m
    (λ closed. stops c OnlyRefuses v OutOfSequence m (by_itself (bad_order refl)) (λ m1 error comes. tt))
    (λ opened. absurd (false≢true (sym opened ∙ over_is_closed v.role v.state v.branch over)))

-- A client's first finished step offers its list of mechanisms. Its steps before and after that one
-- leave the list alone.
use Rattle.std.proofs.Common.{◌≡◌, Bool, true, false, Some, refl, sym, ◌∙◌, ap}
use Rattle.std.proofs.lemmas.Bool.{false≢true}
use Rattle.sspi_mech.specs.declared.step.Answer.{Answer}
use Rattle.sspi_mech.specs.declared.step.Answer.TheVariants.{Done, Ask, Refused}
use Rattle.sspi_mech.specs.declared.step.Reply.{Reply}
use Rattle.sspi_mech.specs.Calls.{StepArgs}
use Rattle.sspi_mech.specs.Meaning.{Meaning}
use Rattle.sspi_negotiate.specs.declared.state.NegotiateState.TheVariants as states
use Rattle.sspi_negotiate.specs.Client.{spnego_client, spnego_resumed}
use Rattle.sspi_negotiate.specs.Hand.{Origin}
use Rattle.sspi_negotiate.specs.Keeps.{is_answering}
use Rattle.sspi_negotiate.specs.Values.{Values}
use Rattle.sspi_negotiate.proofs.ClientLeads.{StepCases, ClientCases, client_leads, resumed_leads}
use Rattle.sspi_negotiate.proofs.Leads.{Leads}
use Rattle.sspi_play.specs.Negotiated.{IsOffer}

-- no list was offered since
pub record Still (old new : Values) : Type 0 where
  pub list : new.list ≡ old.list
  pub state : new.state ≡ old.state
  pub answering : is_answering new.branch ≡ true → is_answering old.branch ≡ true

module _ {M : Type 0} (c : Meaning Origin M) (old : Values) (AtFirst : Type 0) where
  -- a first step that finishes offers the list that it leaves, and no other step changes the list
  abbrev pub OffersAt : M → Answer → Values → Type 0
  OffersAt m (Done step) v = (v.role ≡ old.role) × (AtFirst → IsOffer step.output v.list) × ((AtFirst → ⊥) → v.list ≡ old.list)
  OffersAt m (Ask request) v = (v.role ≡ old.role) × (v.list ≡ old.list) × (AtFirst → Still old v)
  OffersAt m (Refused error) v = Unit {0}

  abbrev Same : Values → Type 0
  Same v = (v.role ≡ old.role) × (v.list ≡ old.list) × (v.state ≡ old.state)

  abbrev First : Values → Type 0
  First v = AtFirst × Same v

  abbrev Later : Values → Type 0
  Later v = (AtFirst → ⊥) × (v.role ≡ old.role) × (v.list ≡ old.list)

  steps : StepCases c OffersAt First Later
  steps = record {
    after = record {
      offers = λ m v token text is g. (g.1.0, λ at. record { mech_token = Some token; spelled = is }, λ late. absurd (late g.0));
      unopened = λ m v branch error comes g. tt;
      refuses = λ m v branch error comes g. tt;
      goes_on = λ m v step on g. (g.1, λ at. absurd (g.0 at), λ late. g.2);
      hands_mic = λ m v output g. (g.1, λ at. absurd (g.0 at), λ late. g.2);
      is_over = λ m v output why g. (g.1, λ at. absurd (g.0 at), λ late. g.2);
    };
    opening = λ m v first q g.
        (g.1.0, g.1.1, λ at. record { list = g.1.1; state = g.1.2; answering = λ h. absurd (false≢true h) });
    falls = λ v usable g. g;
    answering = λ m v token q g. (g.1, g.2, λ at. absurd (g.0 at));
  }

  cases : (args : StepArgs) → (old.state ≡ states.Initial → AtFirst) → (AtFirst → old.state ≡ states.Initial) →
      ClientCases c args OffersAt Same First Later
  cases args first only = record {
    step = steps;
    addressed = λ v usable g. g;
    kept = λ v kept g. g;
    ruled = λ v usable g. g;
    unready = λ m v error comes g. tt;
    opens = λ v at g. (first (sym g.2 ∙ at), g);
    unchosen = λ v at chosen g. (λ h. cc (at, g.2, only h), g.0, g.1);
    kerberos = λ v at chosen usable held g. (λ h. cc (at, g.2, only h), g.0, g.1);
    to_kerberos = λ v at chosen usable g. (λ h. cc (at, g.2, only h), g.0, g.1);
    to_ntlm = λ v at chosen usable g. (λ h. cc (at, g.2, only h), g.0, g.1);
    confirms = λ v at g. (λ h. cc (at, g.2, only h), g.0, g.1);
  }

pub client_offers : {M : Type 0} (c : Meaning Origin M) (ip : Bool) (v : Values) (args : StepArgs) (m : M) →
    Leads c (OffersAt c v (v.state ≡ states.Initial)) (spnego_client ip v args) m
client_offers c ip v args m =
    let AtFirst = v.state ≡ states.Initial in
    client_leads c args (OffersAt c v AtFirst) (Same c v AtFirst) (First c v AtFirst) (Later c v AtFirst)
    (cases c v AtFirst args (λ h. h) (λ h. h)) ip v m (λ m1 error comes. tt) (λ opened. (refl, refl, refl))

-- a step that the KDC's reply resumes is a first one, unless it answers the server's token
pub resumed_offers : {M : Type 0} (c : Meaning Origin M) (v : Values) (reply : Reply) (m : M) →
    Leads c (OffersAt c v (is_answering v.branch ≡ false)) (spnego_resumed v reply) m
resumed_offers c v reply m =
    let AtFirst = is_answering v.branch ≡ false in
    resumed_leads c (OffersAt c v AtFirst) (First c v AtFirst) (Later c v AtFirst) (steps c v AtFirst) v reply m
    (λ m1 error comes. tt) (λ first is. (ap is_answering is, (refl, refl, refl)))
    (λ token is. (λ off. false≢true (sym off ∙ ap is_answering is), refl, refl))

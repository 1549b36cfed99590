-- Where MICs are needed, a negotiation ends only after a MIC over the list; and a server that needs
-- them still does, except of a guest.
use Rattle.std.proofs.Common.{◌≡◌, ◌≢◌, ◌⊎◌, inl, inr, ℕ, Bool, true, false, List, refl, sym, ◌∙◌, subst}
use Rattle.std.proofs.lemmas.Bool.{false≢true}
use Rattle.sspi_mech.specs.declared.step.Answer.{Answer}
use Rattle.sspi_mech.specs.declared.step.Answer.TheVariants.{Done, Ask, Refused}
use Rattle.sspi_mech.specs.declared.step.Reply.{Reply}
use Rattle.sspi_mech.specs.Calls.{StepArgs, AcceptArgs}
use Rattle.sspi_mech.specs.Meaning.{Meaning}
use Rattle.sspi_negotiate.specs.declared.branch.Branch.{Branch}
use Rattle.sspi_negotiate.specs.declared.state.NegotiateState.{NegotiateState}
use Rattle.sspi_negotiate.specs.declared.state.NegotiateState.TheVariants as states
use Rattle.sspi_negotiate.specs.declared.state.Role.{Role}
use Rattle.sspi_negotiate.specs.declared.state.Role.TheVariants as roles
use Rattle.sspi_negotiate.specs.Client.{is_closed, spnego_client, spnego_resumed}
use Rattle.sspi_negotiate.specs.Hand.{Origin}
use Rattle.sspi_negotiate.specs.Server.{spnego_server}
use Rattle.sspi_negotiate.specs.Values.{Values}
use Rattle.sspi_negotiate.specs.Verified.{IsVerified, IsGuestNamed}
use Rattle.sspi_negotiate.proofs.ClientLeads.{StepCases, ClientCases, client_leads, resumed_leads}
use Rattle.sspi_negotiate.proofs.Leads.{Leads}
use Rattle.sspi_negotiate.proofs.ServerLeads.{ServerCases, server_leads}

pub over_is_closed : (role : Role) (state : NegotiateState) (branch : Branch) → state ≡ states.Ok → is_closed role state branch ≡ true
over_is_closed roles.Server state branch is = refl
over_is_closed roles.Client states.Initial branch is = absurd (cc (is))
over_is_closed roles.Client states.InProgress branch is = absurd (cc (is))
over_is_closed roles.Client states.VerifyMic branch is = absurd (cc (is))
over_is_closed roles.Client states.Ok branch is = refl

-- a client that takes a step is not at its end
pub open_is_before : (v : Values) → is_closed v.role v.state v.branch ≡ false → v.state ≢ states.Ok
open_is_before v opened over = false≢true (sym opened ∙ over_is_closed v.role v.state v.branch over)

module _ {M : Type 0} (c : Meaning Origin M) where
  -- at an end where MICs are needed, the list is this one, and a MIC over it was verified
  abbrev pub IsShown : List (List ℕ) → M → Values → Type 0
  IsShown list m v = v.state ≡ states.Ok → v.need ≡ true → (v.list ≡ list) × IsVerified c list m

  abbrev pub Shown : List (List ℕ) → M → Answer → Values → Type 0
  Shown list m (Done step) v = IsShown list m v
  Shown list m (Ask request) v = Unit {0}
  Shown list m (Refused error) v = Unit {0}

  seen : {list : List (List ℕ)} {m : M} (v : Values) → v.list ≡ list → (v.need ≡ false) ⊎ IsVerified c v.list m → v.need ≡ true →
      (v.list ≡ list) × IsVerified c list m
  seen v is (inl off) need = absurd (false≢true (sym off ∙ need))
  seen {m = m} v is (inr verified) need = (is, subst (λ x. IsVerified c x m) is verified)

  -- ---- the client

  module _ (list : List (List ℕ)) where
    abbrev Going : Values → Type 0
    Going v = (v.list ≡ list) × (v.state ≢ states.Ok)

    shown_steps : StepCases c (Shown list) (λ v. Unit {0}) Going
    shown_steps = record {
      after = record {
        offers = λ m v token text is g over. absurd (cc (over));
        unopened = λ m v branch error comes g. tt;
        refuses = λ m v branch error comes g. tt;
        goes_on = λ m v step on g over. absurd (g.1 over);
        hands_mic = λ m v output g over. absurd (cc (over));
        is_over = λ m v output why g over need. seen v g.0 why need;
      };
      opening = λ m v first q g. tt;
      falls = λ v usable g. tt;
      answering = λ m v token q g. tt;
    }

    shown_cases : (args : StepArgs) → ClientCases c args (Shown list) Going (λ v. Unit {0}) Going
    shown_cases args = record {
      step = shown_steps;
      addressed = λ v usable g. g;
      kept = λ v kept g. g;
      ruled = λ v usable g. g;
      unready = λ m v error comes g. tt;
      opens = λ v at g. tt;
      unchosen = λ v at chosen g. g;
      kerberos = λ v at chosen usable held g. g;
      to_kerberos = λ v at chosen usable g. g;
      to_ntlm = λ v at chosen usable g. g;
      confirms = λ v at g. g;
    }

  pub client_shown : (ip : Bool) (v : Values) (args : StepArgs) (m : M) → Leads c (Shown v.list) (spnego_client ip v args) m
  client_shown ip v args m = client_leads c args (Shown v.list) (Going v.list) (λ w. Unit {0}) (Going v.list) (shown_cases v.list args)
      ip v m (λ m1 error comes. tt) (λ opened. (refl, open_is_before v opened))

  -- a step that waits began before the end
  pub resumed_shown : (v : Values) (reply : Reply) (m : M) → v.state ≢ states.Ok → Leads c (Shown v.list) (spnego_resumed v reply) m
  resumed_shown v reply m before = resumed_leads c (Shown v.list) (λ w. Unit {0}) (Going v.list) (shown_steps v.list) v reply m
      (λ m1 error comes. tt) (λ first is. tt) (λ token is. (refl, before))

  -- ---- the server

  module _ (old : Values) where
    -- what a step that is made leaves, and what a later one leaves of the need
    abbrev pub ServerShown : M → Answer → Values → Type 0
    ServerShown m (Done step) v =
        IsShown old.list m v × (old.state ≢ states.Initial → old.need ≡ true → (v.need ≡ true) ⊎ IsGuestNamed c m)
    ServerShown m (Ask request) v = Unit {0}
    ServerShown m (Refused error) v = Unit {0}

    abbrev IsAsBefore : Values → Type 0
    IsAsBefore v = (v.list ≡ old.list) × (v.need ≡ old.need) × (v.state ≡ old.state)

    abbrev IsGoing : Values → Type 0
    IsGoing v = IsAsBefore v × (v.state ≢ states.Ok)

    server_cases : (args : AcceptArgs) →
        ServerCases c args ServerShown IsAsBefore (λ p v. old.state ≡ states.Initial) IsGoing
    server_cases args = record {
      unready = λ m v error comes g. tt;
      chooses = λ v token list p hand at read listed is taken g. sym g.2 ∙ at;
      unpicked = λ m v p error comes g. tt;
      tells = λ m v p output need state late still is g. (λ over. absurd (still over), λ later. absurd (later g));
      at_once = λ m v p output b at none g. (λ over need. absurd (false≢true need), λ later. absurd (later g));
      later = λ v late still g. (g, still);
      refuses = λ m v error comes g. tt;
      goes_on = λ m v step on g. (λ over. absurd (g.1 over), λ later need. inl (g.0.1 ∙ need));
      hands_mic = λ m v output g. (λ over. absurd (cc (over)), λ later need. inl (g.0.1 ∙ need));
      ends = λ m v output why g. (λ over need. seen v g.0.0 why need, λ later need. inl (g.0.1 ∙ need));
      excuses = λ m v output guest g. (λ over need. absurd (false≢true need), λ later need. inr guest);
    }

    pub server_shown : (args : AcceptArgs) (m : M) → Leads c ServerShown (spnego_server old args) m
    server_shown args m = server_leads c args ServerShown IsAsBefore (λ p v. old.state ≡ states.Initial) IsGoing (server_cases args)
        old m (refl, refl, refl)

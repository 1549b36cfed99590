-- A server's first finished step picks from the client's list, and no step leads back before it.
use Rattle.std.proofs.Common.{◌≡◌, ◌≢◌, ℕ, List, Some, refl, subst, ◌∙◌}
use Rattle.sspi_mech.specs.declared.step.Answer.{Answer}
use Rattle.sspi_mech.specs.declared.step.Answer.TheVariants.{Done, Ask, Refused}
use Rattle.sspi_mech.specs.Calls.{AcceptArgs}
use Rattle.sspi_mech.specs.Meaning.{Meaning}
use Rattle.sspi_negotiate.specs.declared.package_list.PackageListConfig.{PackageListConfig}
use Rattle.sspi_negotiate.specs.declared.pick.Choice.{Choice}
use Rattle.sspi_negotiate.specs.declared.pick.Choice.TheVariants as choices
use Rattle.sspi_negotiate.specs.declared.pick.Picked.{Picked}
use Rattle.sspi_negotiate.specs.declared.protocol.Protocol.{Protocol}
use Rattle.sspi_negotiate.specs.declared.state.NegotiateState.TheVariants as states
use Rattle.sspi_negotiate.specs.Hand.{Origin}
use Rattle.sspi_negotiate.specs.Pick.{pick}
use Rattle.sspi_negotiate.specs.Server.{spnego_server}
use Rattle.sspi_negotiate.specs.Values.{Values}
use Rattle.sspi_negotiate.proofs.Leads.{Leads}
use Rattle.sspi_negotiate.proofs.ServerLeads.{IsTaken, ServerCases, server_leads}
use Rattle.sspi_play.specs.Negotiated.{IsReadAs, protocol_of}

-- once a choice is taken, the selected mechanism is the one that it names
pub taken_is : (choice : Choice) (packages : PackageListConfig) (held hand : Protocol) → IsTaken choice packages held hand →
    hand ≡ protocol_of choice
taken_is choices.MsKerberos packages held hand is = is.0 ∙ is.1
taken_is choices.Kerberos packages held hand is = is.0 ∙ is.1
taken_is choices.Ntlm packages held hand is = is.0

-- the list was read, and the mechanism is the one that is picked from it
pub record IsChosen (old : Values) (input : List ℕ) (list : List (List ℕ)) (protocol : Protocol) : Type 0 where
  pub read : IsReadAs input list
  pub picked : Picked
  pub pick_is : pick list old.packages old.hand ≡ Some picked
  pub choice : protocol ≡ protocol_of picked.choice

-- what a finished step leaves
pub record PicksOne (old : Values) (input : List ℕ) (v : Values) : Type 0 where
  pub begun : v.state ≢ states.Initial
  pub chosen : old.state ≡ states.Initial → IsChosen old input v.list v.hand
  pub packages : old.state ≡ states.Initial → v.packages ≡ old.packages

module _ {M : Type 0} (c : Meaning Origin M) (old : Values) (args : AcceptArgs) where
  abbrev pub PicksAt : M → Answer → Values → Type 0
  PicksAt m (Done step) v = PicksOne old args.input v
  PicksAt m (Ask request) v = Unit {0}
  PicksAt m (Refused error) v = Unit {0}

  abbrev IsOld : Values → Type 0
  IsOld v = (v.state ≡ old.state) × (v.packages ≡ old.packages) × (v.hand ≡ old.hand)

  abbrev HasChosen : Picked → Values → Type 0
  HasChosen p v = IsChosen old args.input v.list v.hand × (v.packages ≡ old.packages)

  abbrev IsLater : Values → Type 0
  IsLater v = (v.state ≢ states.Initial) × (old.state ≢ states.Initial)

  later : (v : Values) → IsLater v → PicksOne old args.input v
  later v g = record { begun = g.0; chosen = λ at. absurd (g.1 at); packages = λ at. absurd (g.1 at) }

  cases : ServerCases c args PicksAt IsOld HasChosen IsLater
  cases = record {
    unready = λ m v error comes g. tt;
    chooses = λ v token list p hand at read listed is taken g. (
      record {
        read = record { token = token; read = read; listed = listed };
        picked = p;
        pick_is = subst (λ packages. pick list packages old.hand ≡ Some p) g.1
            (subst (λ held. pick list v.packages held ≡ Some p) g.2 is);
        choice = taken_is p.choice v.packages v.hand hand taken;
      },
      g.1,
    );
    unpicked = λ m v p error comes g. tt;
    tells = λ m v p output need state late still is g. record { begun = late; chosen = λ at. g.0; packages = λ at. g.1 };
    at_once = λ m v p output b at none g. record { begun = λ e. cc (e); chosen = λ first. g.0; packages = λ first. g.1 };
    later = λ v late still g. (late, λ at. late (g.0 ∙ at));
    refuses = λ m v error comes g. tt;
    goes_on = λ m v step on g. later v g;
    hands_mic = λ m v output g. later _ (λ e. cc (e), g.1);
    ends = λ m v output why g. later _ (λ e. cc (e), g.1);
    excuses = λ m v output guest g. later _ (λ e. cc (e), g.1);
  }

  pub server_picks : (m : M) → Leads c PicksAt (spnego_server old args) m
  server_picks m = server_leads c args PicksAt IsOld HasChosen IsLater cases old m (refl, refl, refl)

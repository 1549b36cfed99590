-- A server's steps keep the need for MICs until the negotiation is over: with NTLM, and with any
-- mechanism not first in the list. A step that ends the authentication ends the negotiation.
use Rattle.std.proofs.Common.{◌≡◌, ◌≢◌, ◌<◌, ◌||◌, ◌&&◌, ◌==◌, ℕ, Bool, true, false, List, [], ◌∷◌, Option, None, Some}
use Rattle.std.proofs.Common.{refl, sym, subst, ◌∙◌, ap, arith, inl, inr}
use Rattle.std.proofs.lemmas.Bool.{false≢true, eqb-true}
use Rattle.std.proofs.lemmas.List.Quantifiers.{position-Some}
use Rattle.sspi_types.specs.declared.security_status.SecurityStatus.{SecurityStatus}
use Rattle.sspi_mech.specs.declared.step.Answer.{Answer}
use Rattle.sspi_mech.specs.declared.step.Answer.TheVariants.{Done, Ask, Refused}
use Rattle.sspi_mech.specs.Calls.{AcceptArgs}
use Rattle.sspi_mech.specs.Meaning.{Meaning}
use Rattle.sspi_tokens.specs.declared.oid.MechKind.{MechKind}
use Rattle.sspi_tokens.specs.declared.oid.MechKind.TheVariants as kinds
use Rattle.sspi_tokens.specs.Oids.{kind_of}
use Rattle.sspi_negotiate.specs.declared.package_list.PackageListConfig.{PackageListConfig}
use Rattle.sspi_negotiate.specs.declared.pick.Choice.{Choice}
use Rattle.sspi_negotiate.specs.declared.pick.Choice.TheVariants as choices
use Rattle.sspi_negotiate.specs.declared.pick.Picked.{Picked}
use Rattle.sspi_negotiate.specs.declared.protocol.Protocol.{Protocol}
use Rattle.sspi_negotiate.specs.declared.state.NegotiateState.TheVariants as states
use Rattle.sspi_negotiate.specs.Choices.{protocol_of as protocol_of_kind}
use Rattle.sspi_negotiate.specs.Hand.{Origin, is_ntlm_hand, is_kerberos_hand}
use Rattle.sspi_negotiate.specs.Pick.{is_kind, place_of, found_or, picked_or, pick}
use Rattle.sspi_negotiate.specs.Rows.{server_wants_mic, is_over}
use Rattle.sspi_negotiate.specs.Server.{needs_mic, spnego_server}
use Rattle.sspi_negotiate.specs.Values.{Values}
use Rattle.sspi_negotiate.proofs.Leads.{Leads}
use Rattle.sspi_negotiate.proofs.ServerLeads.{IsNeedOf, ServerCases, server_leads}
use Rattle.sspi_play.specs.Negotiated.{NeedsMic, first_of, protocol_of}
use Rattle.sspi_play.proofs.Picking.{taken_is}

-- MICs are needed if the selected mechanism calls for them
abbrev pub AreNeeded : Values → Type 0
AreNeeded v = NeedsMic v.hand v.list → v.need ≡ true

-- what a step from this state leaves, if it came to this status
pub record Secured (old : Values) (status : SecurityStatus) (v : Values) : Type 0 where
  pub begun : v.state ≢ states.Initial
  pub over : is_over status ≡ true → v.state ≡ states.Ok
  pub done : v.state ≡ states.Ok → is_over status ≡ true
  pub needs : v.state ≢ states.Ok → AreNeeded v
  -- the first step does not end a negotiation that needs MICs, and one that is over takes no step
  pub first : old.state ≡ states.Initial → NeedsMic v.hand v.list → v.state ≢ states.Ok
  pub before : old.state ≢ states.Ok

-- ---- a pick at the first place is the first mechanism of the list

named_kind : (choice : Choice) (kind : MechKind) → is_kind choice kind ≡ true → protocol_of_kind kind ≡ Some (protocol_of choice)
named_kind choices.MsKerberos kinds.MsKerberos is = refl
named_kind choices.MsKerberos kinds.Kerberos is = absurd (false≢true is)
named_kind choices.MsKerberos kinds.Ntlm is = absurd (false≢true is)
named_kind choices.MsKerberos kinds.Other is = absurd (false≢true is)
named_kind choices.Kerberos kinds.MsKerberos is = absurd (false≢true is)
named_kind choices.Kerberos kinds.Kerberos is = refl
named_kind choices.Kerberos kinds.Ntlm is = absurd (false≢true is)
named_kind choices.Kerberos kinds.Other is = absurd (false≢true is)
named_kind choices.Ntlm kinds.MsKerberos is = absurd (false≢true is)
named_kind choices.Ntlm kinds.Kerberos is = absurd (false≢true is)
named_kind choices.Ntlm kinds.Ntlm is = refl
named_kind choices.Ntlm kinds.Other is = absurd (false≢true is)

abbrev IsAtPlace : List (List ℕ) → Option Picked → Type 0
IsAtPlace list None = Unit {0}
IsAtPlace list (Some p) = (p.index == 0) ≡ true → first_of list ≡ Some (protocol_of p.choice)

first_place : (choice : Choice) (list : List (List ℕ)) → place_of choice list ≡ Some 0 → first_of list ≡ Some (protocol_of choice)
first_place choice [] at =
    let never : 0 < 0 = (position-Some (λ (x : List ℕ). is_kind choice (kind_of x)) [] 0 [] at).0 in absurd (omega (arith, never))
first_place choice (oid ∷ oids) at =
    named_kind choice (kind_of oid) (position-Some (λ (x : List ℕ). is_kind choice (kind_of x)) (oid ∷ oids) 0 [] at).1

found_at_place : (choice : Choice) (list : List (List ℕ)) (o : Option ℕ) (other : Option Picked) → place_of choice list ≡ o →
    IsAtPlace list other → IsAtPlace list (found_or choice o other)
found_at_place choice list None other at h = h
found_at_place choice list (Some index) other at h = λ is.
    first_place choice list (at ∙ ap (λ (x : ℕ). Some x) (eqb-true index 0 is))

picked_at_place : (usable : Bool) (choice : Choice) (list : List (List ℕ)) (other : Option Picked) → IsAtPlace list other →
    IsAtPlace list (picked_or usable choice list other)
picked_at_place true choice list other h = found_at_place choice list (place_of choice list) other refl h
picked_at_place false choice list other h = h

pick_at_place : (list : List (List ℕ)) (packages : PackageListConfig) (protocol : Protocol) → IsAtPlace list (pick list packages protocol)
pick_at_place list packages protocol =
    picked_at_place (packages.kerberos && is_kerberos_hand protocol) choices.MsKerberos list _
    (picked_at_place (packages.kerberos && is_kerberos_hand protocol) choices.Kerberos list _
    (picked_at_place packages.ntlm choices.Ntlm list None tt))

-- ---- each way in which a step may end

needs_held : (v : Values) (args : AcceptArgs) (b : Bool) → first_of v.list ≡ Some v.hand → NeedsMic v.hand v.list →
    needs_mic v args b ≡ true
needs_held v args b is (inl ntlm) = ap (λ (x : Protocol). is_ntlm_hand x || b || server_wants_mic args.requirements) ntlm
needs_held v args b is (inr other) = absurd (other is)

module _ {M : Type 0} (c : Meaning Origin M) (old : Values) (args : AcceptArgs) where
  abbrev pub SecuredAt : M → Answer → Values → Type 0
  SecuredAt m (Done step) v = Secured old step.status v
  SecuredAt m (Ask request) v = Unit {0}
  SecuredAt m (Refused error) v = Unit {0}

  abbrev Before : Values → Type 0
  Before v = (v.state ≡ old.state) × (v.state ≢ states.Initial → v.state ≢ states.Ok → AreNeeded v)

  -- a pick at the first place is the first mechanism of the list
  abbrev Chosen : Picked → Values → Type 0
  Chosen p v = (old.state ≡ states.Initial) × ((p.index == 0) ≡ true → first_of v.list ≡ Some v.hand)

  abbrev Good : Values → Type 0
  Good v = AreNeeded v × (v.state ≢ states.Initial) × (v.state ≢ states.Ok) × (old.state ≡ v.state)

  need_held : (p : Picked) (v : Values) (need : Bool) → IsNeedOf p v args need → Chosen p v → NeedsMic v.hand v.list → need ≡ true
  need_held p v need (inl on) g mic = on
  need_held p v need (inr own) g mic = own.2 ∙ needs_held v args own.1 (g.1 own.0) mic

  -- the negotiation goes on
  going : (v : Values) (status : SecurityStatus) → old.state ≢ states.Ok → is_over status ≡ false → v.state ≢ states.Initial →
      v.state ≢ states.Ok → AreNeeded v → Secured old status v
  going v status still on late before need = record {
    begun = late;
    over = λ is. absurd (false≢true (sym on ∙ is));
    done = λ at. absurd (before at);
    needs = λ going. need;
    first = λ at mic. before;
    before = still;
  }

  -- it is over
  ending : (v : Values) (status : SecurityStatus) → old.state ≢ states.Ok → is_over status ≡ true → v.state ≡ states.Ok →
      (old.state ≡ states.Initial → NeedsMic v.hand v.list → ⊥) → Secured old status v
  ending v status still is at none = record {
    begun = λ e. cc (at, e);
    over = λ over. at;
    done = λ here. is;
    needs = λ going. absurd (going at);
    first = λ first mic. absurd (none first mic);
    before = still;
  }

  over : (v w : Values) (status : SecurityStatus) → is_over status ≡ true → w.state ≡ states.Ok → Good v → Secured old status w
  over v w status is at g = ending w status (λ e. g.2 (sym g.3 ∙ e)) is at (λ first mic. g.1 (sym g.3 ∙ first))

  cases : ServerCases c args SecuredAt Before Chosen Good
  cases = record {
    unready = λ m v error comes g. tt;
    chooses = λ v token list p hand at read listed is taken g. (
      sym g.0 ∙ at,
      λ first. subst (λ (o : Option Picked). IsAtPlace list o) is (pick_at_place list v.packages v.hand) first
          ∙ ap (λ (x : Protocol). Some x) (sym (taken_is p.choice v.packages v.hand hand taken)),
    );
    unpicked = λ m v p error comes g. tt;
    tells = λ m v p output need state late still is g.
        going _ _ (λ e. cc (g.0, e)) refl late still (λ mic. need_held p v need is g mic);
    at_once = λ m v p output b at none g. ending _ _ (λ e. cc (g.0, e)) refl refl
        (λ first mic. false≢true (sym none ∙ needs_held v args b (g.1 at) mic));
    later = λ v late still g. (g.1 late still, late, still, sym g.0);
    refuses = λ m v error comes g. tt;
    goes_on = λ m v step on g. going v _ (λ e. g.2 (sym g.3 ∙ e)) on g.1 g.2 g.0;
    hands_mic = λ m v output g. going _ _ (λ e. g.2 (sym g.3 ∙ e)) refl (λ e. cc (e)) (λ e. cc (e)) g.0;
    ends = λ m v output why g. over v _ _ refl refl g;
    excuses = λ m v output guest g. over v _ _ refl refl g;
  }

  pub server_secured : (m : M) → (old.state ≢ states.Initial → old.state ≢ states.Ok → AreNeeded old) →
      Leads c SecuredAt (spnego_server old args) m
  server_secured m need = server_leads c args SecuredAt Before Chosen Good cases old m (refl, need)

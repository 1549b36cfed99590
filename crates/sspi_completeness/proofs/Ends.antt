-- The state of an undisturbed exchange's ends between two turns, for any security contexts.
use Rattle.std.proofs.Common.{◌≡◌, ◌≢◌, ℕ, ◌-◌, ◌≤◌, ◌<◌, ◌^◌, List, [], length, Bool, true, false, Option, None, Some, refl, ap, sym}
use Rattle.std.proofs.Common.{◌∙◌, subst, arith, eq-eqb, nat_lt}
use Rattle.sspi_types.specs.declared.error_kind.ErrorKind.{ErrorKind}
use Rattle.sspi_types.specs.declared.error_kind.ErrorKind.TheVariants.{InsufficientMemory}
use Rattle.sspi_tsreq.specs.declared.request.TsRequest.{TsRequest}
use Rattle.sspi_mech.specs.Calls.{Counts, ToSeal, ToUnseal}
use Rattle.sspi_mech.specs.Context.{IsContext}
use Rattle.sspi_mech.specs.Meaning.{Meaning}
use Rattle.sspi_credssp.specs.declared.acts.Acts.{Acts}
use Rattle.sspi_credssp.specs.declared.state.CredSspState.{CredSspState}
use Rattle.sspi_credssp.specs.declared.state.CredSspState.TheVariants.{NegoToken}
use Rattle.sspi_credssp.specs.Acts.{count_of, sealings_by, sealings_in, unsealings_in, SameBut, SealsIn, is_waiting_in, silent}
use Rattle.sspi_credssp.specs.Unused.{IsUnusedIn}
use Rattle.sspi_credssp.specs.Acts.{cleared}
use Rattle.sspi_credssp.specs.Context.{IfContext, MadeOr, ContextSetting}
use Rattle.sspi_credssp.specs.Ends.{ClientView, IsFreshClient, ServerView, IsFreshServer}
use Rattle.sspi_credssp.specs.Noted.{differs, is_altered_in, is_old, is_old_in, noted_in, noted_with, StopsIf}
use Rattle.sspi_credssp.specs.declared.turn.Outcome.{Outcome}
use Rattle.sspi_credssp.specs.declared.turn.Outcome.TheVariants.{Reply, Final, Finished, Refused}

-- an undisturbed turn has a message, of which this holds; or it was refused when out of memory
abbrev pub Comes : Outcome → (TsRequest → Type 0) → Type 0
Comes (Reply r) Q = Q r
Comes (Final r) Q = Q r
Comes Finished Q = ⊥
Comes (Refused kind reply) Q = kind ≢ InsufficientMemory → ⊥

-- the same for the turn that ends the exchange
abbrev pub Ends : Outcome → Type 0 → Type 0
Ends (Reply r) Q = ⊥
Ends (Final r) Q = ⊥
Ends Finished Q = Q
Ends (Refused kind reply) Q = kind ≢ InsufficientMemory → ⊥

pub in_context : {C : Type 0} (o : Option C) (Q : C → Type 0) → IfContext o Q → (m : C) × (o ≡ Some m) × Q m
in_context None Q h = absurd h
in_context (Some m) Q h = (m, refl, h)

pub is_false : (b : Bool) → (b ≡ true → ⊥) → b ≡ false
is_false true never = absurd (never refl)
is_false false never = refl

pub stops_later : (test : Bool) (here kind : ErrorKind) (Later : Type 0) → test ≡ false → StopsIf test here kind Later → Later
stops_later test here kind Later unmet h = subst (λ (b : Bool). StopsIf b here kind Later) unmet h

pub made_past : {C : Type 0} (old new : Option C) (Cause Later : Type 0) → (old ≡ None → Cause → ⊥) → MadeOr old new Cause Later → Later
made_past (Some m) new Cause Later never h = h
made_past None (Some m) Cause Later never h = h
made_past None None Cause Later never h = absurd (never refl h)

count_few : (b : Bool) → count_of b ≤ 1
count_few true = omega arith
count_few false = omega arith

-- one call seals at most two texts
pub sealed_few : (acts : Acts) → sealings_by acts ≤ 2
sealed_few acts = let p = count_few acts.proved in let s = count_few acts.sealed in omega arith

pub differs_never : (w : ℕ) → differs (Some w) w ≡ false
differs_never w = rw (eq-eqb w w refl) refl

-- which version a client has pinned once a turn is over: none after its first
abbrev pub noted_at : Bool → ℕ → Option ℕ
noted_at true w = None
noted_at false w = Some w

all_silent : (n : Counts) → n.sealings ≡ 0 → n.unsealings ≡ 0 → silent n ≡ n
all_silent n sealed unsealed =
    ap (λ (s : ℕ). record n { sealings = s; unsealings = 0 }) (sym sealed) ∙ ap (λ (u : ℕ). record n { unsealings = u }) (sym unsealed)

module _ {C : Type 0} (c : Meaning ContextSetting C) where
  -- the context is this one, but for what it sealed and opened
  pub record Holds (context : Option C) (x : C) : Type 0 where
    pub held : C
    pub there : context ≡ Some held
    pub same : cleared c held ≡ x

  -- how the context x seals texts, by the number of the message
  pub record IsMaker (x : C) (blob : ℕ → List ℕ → List ℕ) : Type 0 where
    pub made : (m : C) (n : ℕ) (text sealed : List ℕ) → cleared c m ≡ x → c.seals m n text sealed → sealed ≡ blob n text
    pub never : (m : C) (text : List ℕ) (kind : ErrorKind) → cleared c m ≡ x → (c.counts m).sealings < 2 ^ 64 - 1 →
        c.refuses m (ToSeal text) kind → ⊥

  -- which messages the context x opens
  pub record IsTaker (x : C) (blob : ℕ → List ℕ → List ℕ) : Type 0 where
    pub opened : (m : C) (n i : ℕ) (text text2 : List ℕ) → cleared c m ≡ x → c.opens m i (blob n text) text2 → text2 ≡ text
    pub never : (m : C) (n : ℕ) (text : List ℕ) (kind : ErrorKind) → cleared c m ≡ x → (c.counts m).unsealings ≡ n → n < 2 ^ 64 - 1 →
        c.refuses m (ToUnseal (blob n text)) kind → ⊥
    pub long : (n : ℕ) (text : List ℕ) → nat_lt (length (blob n text)) 16 ≡ false

  pub holds_still : (o o2 : Option C) (x : C) → SameBut c o o2 → Holds o x → Holds o2 x
  holds_still o o2 x same h = at o2 (subst (λ (y : Option C). SameBut c y o2) h.there same)
    where
      at : (o2 : Option C) → SameBut c (Some h.held) o2 → Holds o2 x
      at None none = absurd none
      at (Some m) e = record { held = m; there = refl; same = e ∙ h.same }

  pub sealed_field : (o : Option C) (x : C) (blob : ℕ → List ℕ → List ℕ) (n : ℕ) (text : List ℕ) (field : Option (List ℕ)) → Holds o x →
      IsMaker x blob →
      SealsIn c o n text field → field ≡ Some (blob n text)
  sealed_field o x blob n text field h maker seals = at field (subst (λ (y : Option C). SealsIn c y n text field) h.there seals)
    where
      at : (field : Option (List ℕ)) → SealsIn c (Some h.held) n text field → field ≡ Some (blob n text)
      at None none = absurd none
      at (Some sealed) made = ap Some (maker.made h.held n text sealed h.same made)

  pub unused_in : (o : Option C) → sealings_in c o ≡ 0 → unsealings_in c o ≡ 0 → IsUnusedIn c o
  unused_in None sealed unsealings = tt
  unused_in (Some m) sealed unsealed = record { sealings = sealed; unsealings = unsealed }

  -- the client v, which began as a: whether its next turn is its first, w the version that it is given then, its state, and
  -- how many messages its context sealed and opened
  pub record ClientIs (a v : ClientView C) (w : ℕ) (first : Bool) (state : CredSspState) (sealed unsealed : ℕ) : Type 0 where
    pub same : v.settings ≡ a.settings
    pub state_is : v.state ≡ state
    pub idle : is_waiting_in c v.context ≡ false
    pub fits : is_altered_in v.context v.noted w ≡ false
    pub young : is_old_in v.context v.settings.least v.noted w ≡ false
    pub notes : noted_in v.context v.settings.least v.noted w ≡ noted_at first w
    pub sealed_is : sealings_in c v.context ≡ sealed
    pub unsealed_is : unsealings_in c v.context ≡ unsealed

  pub fresh_client : (a : ClientView C) (w : ℕ) → IsFreshClient a → ClientIs a a w true NegoToken 0 0
  fresh_client a w fresh = record {
    same = refl;
    state_is = fresh.state;
    idle = rw fresh.context refl;
    fits = rw fresh.context refl;
    young = rw fresh.context refl;
    notes = rw (fresh.context, fresh.noted) refl;
    sealed_is = rw fresh.context refl;
    unsealed_is = rw fresh.context refl;
  }

  -- a client that is given this version next does not refuse it, and then has it pinned
  pub record Takes (v : ClientView C) (w : ℕ) : Type 0 where
    pub fits : is_altered_in v.context v.noted w ≡ false
    pub young : is_old_in v.context v.settings.least v.noted w ≡ false
    pub notes : noted_in v.context v.settings.least v.noted w ≡ Some w

  -- it is the pinned version
  pub takes_noted : (v : ClientView C) (m : C) (w : ℕ) → v.context ≡ Some m → v.noted ≡ Some w → Takes v w
  takes_noted v m w there noted = record {
    fits = rw (there, noted) (differs_never w);
    young = rw (there, noted) refl;
    notes = rw (there, noted) refl;
  }

  -- or none is pinned yet, and this one is not below the least
  takes_first : (v : ClientView C) (m : C) (w : ℕ) → nat_lt w v.settings.least ≡ false → v.context ≡ Some m → v.noted ≡ None → Takes v w
  takes_first v m w takes there none = record {
    fits = rw (there, none) refl;
    young = rw (there, none) takes;
    notes = rw (there, none, takes) refl;
  }

  pub takes_later : (v : ClientView C) (m : C) (first : Bool) (w w2 : ℕ) → (first ≡ false → w2 ≡ w) → nat_lt w2 v.settings.least ≡ false →
      v.context ≡ Some m →
      v.noted ≡ noted_at first w → Takes v w2
  takes_later v m true w w2 same takes there noted = takes_first v m w2 takes there noted
  takes_later v m false w w2 same takes there noted = takes_noted v m w2 there (noted ∙ ap Some (sym (same refl)))

  pub client_emptied : (a v : ClientView C) (w : ℕ) (first : Bool) (state : CredSspState) (sealed unsealed : ℕ) →
      ClientIs a v w first state sealed unsealed → ClientIs a (record v { output = [] }) w first state sealed unsealed
  client_emptied a v w first state sealed unsealed is = record {
    same = is.same;
    state_is = is.state_is;
    idle = is.idle;
    fits = is.fits;
    young = is.young;
    notes = is.notes;
    sealed_is = is.sealed_is;
    unsealed_is = is.unsealed_is;
  }

  module _ {P : Type 0} where
    -- the server v, which began as b; w is its client's version
    pub record ServerIs (b v : ServerView C P) (w : ℕ) (state : CredSspState) (sealed unsealed : ℕ) : Type 0 where
      pub same : v.settings ≡ b.settings
      pub state_is : v.state ≡ state
      pub fits : differs v.noted w ≡ false
      pub young : is_old v.settings.least v.noted w ≡ false
      pub notes : noted_with v.settings.least v.noted w ≡ Some w
      pub sealed_is : sealings_in c v.context ≡ sealed
      pub unsealed_is : unsealings_in c v.context ≡ unsealed

    pub fresh_server : (b : ServerView C P) (w : ℕ) → nat_lt w b.settings.least ≡ false → IsFreshServer b → ServerIs b b w NegoToken 0 0
    fresh_server b w takes fresh = record {
      same = refl;
      state_is = fresh.state;
      fits = rw fresh.noted refl;
      young = rw fresh.noted takes;
      notes = rw (fresh.noted, takes) refl;
      sealed_is = rw fresh.context refl;
      unsealed_is = rw fresh.context refl;
    }

    pub server_emptied : (b v : ServerView C P) (w : ℕ) (state : CredSspState) (sealed unsealed : ℕ) →
        ServerIs b v w state sealed unsealed →
        ServerIs b (record v { output = [] }) w state sealed unsealed
    server_emptied b v w state sealed unsealed is = record {
      same = is.same;
      state_is = is.state_is;
      fits = is.fits;
      young = is.young;
      notes = is.notes;
      sealed_is = is.sealed_is;
      unsealed_is = is.unsealed_is;
    }

  module _ (laws : IsContext c) where
    -- if nothing was sealed or opened, the context is this very one
    pub unused_is : (m x : C) → cleared c m ≡ x → (c.counts m).sealings ≡ 0 → (c.counts m).unsealings ≡ 0 → m ≡ x
    unused_is m x is sealed unsealed =
        sym (laws.counted_counts m) ∙ ap (c.counted m) (sym (all_silent (c.counts m) sealed unsealed)) ∙ is

    pub held_is : (o : Option C) (x : C) → Holds o x → sealings_in c o ≡ 0 → unsealings_in c o ≡ 0 → o ≡ Some x
    held_is o x h sealed unsealed =
        h.there ∙ ap Some (unused_is h.held x h.same (sym (ap (sealings_in c) h.there) ∙ sealed)
        (sym (ap (unsealings_in c) h.there) ∙ unsealed))

-- A server's call that is refused while it makes its context or checks its client's version.
use Rattle.std.proofs.Common.{inl, ◌≡◌, ℕ, List, [], Option, None, Some, IsSome, Result, Ok, Err, OnErr, Bool, true, false}
use Rattle.std.proofs.Common.{refl, sym, ◌∙◌, ap, subst}
use Rattle.sspi_types.specs.declared.credential_use.CredentialUse.TheVariants.{Inbound}
use Rattle.sspi_types.specs.declared.error.Error.{Error}
use Rattle.sspi_names.specs.declared.identity.AuthIdentity.{AuthIdentity}
use Rattle.sspi_tsreq.specs.declared.request.TsRequest.{TsRequest}
use Rattle.sspi_mech.specs.Meaning.{Meaning}
use Rattle.sspi_credssp.specs.declared.acts.Acts.{Acts}
use Rattle.sspi_credssp.specs.declared.server_state.ServerError.{ServerError}
use Rattle.sspi_credssp.specs.declared.state.CredSspState.{CredSspState}
use Rattle.sspi_credssp.specs.declared.state.CredSspState.TheVariants.{NegoToken}
use Rattle.sspi_credssp.specs.declared.turn.Outcome.TheVariants as outcome
use Rattle.sspi_credssp.specs.Acts.{no_acts, CountsEachAct}
use Rattle.sspi_credssp.specs.Unused.{IsUnusedIn}
use Rattle.sspi_credssp.specs.Context.{Begun, IfContext, OnContext, ContextSetting, ForServer}
use Rattle.sspi_credssp.specs.Requests.{error_request, version_back}
use Rattle.sspi_credssp.specs.Noted.{noted_with}
use Rattle.sspi_credssp.specs.Proxy.{ProxyMeaning}
use Rattle.sspi_credssp.specs.Ends.{ServerView}
use Rattle.sspi_credssp.specs.ServerTurn.{OnStep, ServerTurn, UnlessMade, IsNew, is_made, IsUnstepped}
use Rattle.sspi_credssp.specs.ServerStage.{BeginRefused}
use Rattle.sspi_credssp.proofs.ClientReady.{not_yet}
use Rattle.sspi_credssp.proofs.Counting.{unused_counts}

pub refused_both : {T E : Type 0} (r : Result T E) (Q R : Type 0) → OnErr r Q → OnErr r R → OnErr r (Q × R)
refused_both (Ok x) Q R q r = tt
refused_both (Err e) Q R q r = (q, r)

pub context_there : {C : Type 0} (o : Option C) (Q : C → Type 0) → IsSome o → OnContext o Q → IfContext o Q
context_there None Q some h = absurd cc
context_there (Some m) Q some h = h

pub there_or_not : {C : Type 0} (o : Option C) (Q : C → Type 0) → IfContext o Q → OnContext o Q
there_or_not None Q h = tt
there_or_not (Some m) Q h = h

module _ {C : Type 0} (c : Meaning ContextSetting C) where
  unmade_before : (o : Option C) (Q : C → Type 0) → IfContext o Q → UnlessMade c None o Q
  unmade_before None Q h = tt
  unmade_before (Some m) Q h = h

  unless_map : (o o2 : Option C) (Q R : C → Type 0) → ((m : C) → Q m → R m) → UnlessMade c o o2 Q → UnlessMade c o o2 R
  unless_map None None Q R more h = tt
  unless_map None (Some m) Q R more h = more m h
  unless_map (Some m) None Q R more h = h
  unless_map (Some m) (Some m2) Q R more h = h

  back_again : (o : Option C) (noted : Option ℕ) (version own : ℕ) → noted ≡ None → version_back o noted version own ≡ version
  back_again None noted version own none = refl
  back_again (Some m) noted version own none = rw none refl

  module _ {P : Type 0} where
    as_new : (told : Option (List AuthIdentity)) (old new : ServerView C P) (o : Option C) →
        IfContext o (λ m. Begun c old.context old.handle (ForServer old.settings.mode told) Inbound None new.handle m) →
        IfContext o (IsNew c old new)
    as_new told old new None h = h
    as_new told old new (Some m) h = is_made told h

    -- the first version that a new context met was refused
    pub new_refused : {T E : Type 0} (told : Option (List AuthIdentity)) (r : Result T E) (old new : ServerView C P) (version : ℕ) →
        old.context ≡ None → old.noted ≡ None → old.state ≡ NegoToken → IsUnusedIn c new.context →
        IfContext new.context (λ m. Begun c old.context old.handle (ForServer old.settings.mode told) Inbound None new.handle m) →
        new.noted ≡ noted_with old.settings.least old.noted version → OnErr r (new.noted ≡ old.noted) →
        OnErr r (BeginRefused c old version new)
    new_refused told (Ok x) old new version none unnoted state unused begun noted same = tt
    new_refused told (Err e) old new version none unnoted state unused begun noted same =
        let fresh = unused_counts c new.context unused in
        record {
          handle = λ some. absurd (cc (some, none));
          noted = λ some. noted;
          unnoted = λ gone. same;
          unstepped = subst (λ (o : Option C). UnlessMade c o new.context (IsNew c old new))
              (sym none) (unmade_before new.context _ (as_new told old new new.context begun));
          back = λ own. back_again new.context new.noted version own (same ∙ unnoted);
          counts = inl (fresh.0 ∙ rw none refl, fresh.1 ∙ rw none refl);
          bare = not_yet old.state _ state;
        }

    -- what a server keeps of its last call does not concern its context
    new_still : (old new : ServerView C P) (acts : Acts) (output : List ℕ) (m : C) →
        IsNew c (record old { acts = acts; output = output }) new m → IsNew c old new m
    new_still old new acts output m (is_made told begun) = is_made told begun

    unstepped_still : (old new : ServerView C P) (acts : Acts) (output : List ℕ) →
        IsUnstepped c (record old { acts = acts; output = output }) new →
        IsUnstepped c old new
    unstepped_still old new acts output h = unless_map old.context new.context _ _ (new_still old new acts output) h

    -- the turn that such a call is
    pub begin_halted : (old new : ServerView C P) (d : TsRequest) (error : Error) (refusal : ServerError) (state : CredSspState) →
        BeginRefused c (record old { acts = no_acts; output = [] }) d.version new →
        new ≡ record old {
          proxy = new.proxy;
          context = new.context;
          handle = new.handle;
          noted = new.noted;
          acts = no_acts;
          output = [];
        } → state ≡ old.state →
        refusal ≡ record { ts_request = Some (error_request state d.version error.error_type d); error = error } →
        ServerTurn c old d (outcome.Refused refusal.error.error_type refusal.ts_request) new
    begin_halted old new d error refusal state refused is stays given =
        let idle : new.acts ≡ no_acts = ap (λ (v : ServerView C P). v.acts) is in
        let negotiated : new.acts.negotiated ≡ false = ap (λ (a : Acts). a.negotiated) idle in
        let status : new.acts.status ≡ None = ap (λ (a : Acts). a.status) idle in
        let checked : new.acts.checked ≡ false = ap (λ (a : Acts). a.checked) idle in
        let proved : new.acts.proved ≡ false = ap (λ (a : Acts). a.proved) idle in
        let opened : new.acts.opened ≡ false = ap (λ (a : Acts). a.opened) idle in
        subst (λ (r : ServerError). ServerTurn c old d (outcome.Refused r.error.error_type r.ts_request) new) (sym given)
        (record {
          turn = record {
            shown = record {
              version = tt;
              acts = record {
                negotiated = λ was. absurd (cc (was, negotiated));
                answered = λ some. absurd (cc (some, status));
                checked = λ was. absurd (cc (was, checked));
                proved = λ was. absurd (cc (was, proved));
                opened = λ was. absurd (cc (was, opened));
                sealed = ap (λ (a : Acts). a.sealed) idle;
              };
              reply = record { version = inl refl; reply = rw stays refl };
            };
            held = record {
              checked = λ was. absurd (cc (was, checked));
              proved = λ was. absurd (cc (was, proved));
              reply = sym (refused.back new.settings.version);
            };
          };
          moves = record {
            same = ap (λ (v : ServerView C P). v.settings) is;
            handle = refused.handle;
            state = ap (λ (v : ServerView C P). v.state) is;
            noted = refused.noted;
            unnoted = refused.unnoted;
            begun = tt;
            noted_proved = λ was. absurd (cc (was, proved));
            noted_checked = λ was. absurd (cc (was, checked));
            noted_opened = λ was. absurd (cc (was, opened));
            counts = subst (λ (a : Acts). CountsEachAct c old.state old.context a new.context) (sym idle) refused.counts;
            bare = refused.bare;
            unstepped = λ none. unstepped_still old new no_acts [] refused.unstepped;
            unanswered = λ none. ap (λ (v : ServerView C P). v.output) is;
            ended = proved;
          };
        })

    -- a call without a step says nothing of one
    pub no_step : (p : ProxyMeaning P) (negotiated : Bool) (Q : Type 0) → negotiated ≡ false → OnStep c p negotiated Q
    no_step p true Q none = absurd (cc (none))
    no_step p false Q none = tt

-- The server's last turn, from what opening the credentials did to it.
use Rattle.std.proofs.Common.{◌≡◌, ℕ, List, [], Option, None, Some, IsSome, Ok, false, refl, sym, ◌∙◌, ap, subst, add-zero, arith}
use Rattle.sspi_names.specs.declared.identity.AuthIdentity.{AuthIdentity}
use Rattle.sspi_tsreq.specs.declared.request.TsRequest.{TsRequest}
use Rattle.sspi_mech.specs.Meaning.{Meaning}
use Rattle.sspi_credssp.specs.declared.acts.Acts.{Acts}
use Rattle.sspi_credssp.specs.declared.server_state.ServerState.TheVariants.{Finished}
use Rattle.sspi_credssp.specs.declared.state.CredSspState.{CredSspState}
use Rattle.sspi_credssp.specs.declared.state.CredSspState.TheVariants.{NegoToken, PubKeyInfo, AuthInfo, Final}
use Rattle.sspi_credssp.specs.Acts.{SameBut}
use Rattle.sspi_credssp.specs.Context.{ContextSetting}
use Rattle.sspi_credssp.specs.Ends.{ServerView}
use Rattle.sspi_credssp.specs.Requests.{IsLong}
use Rattle.sspi_credssp.specs.ServerStage.{IsReady, ServerOpens}
use Rattle.sspi_credssp.specs.ServerTurn.{HoldsIdentity, IsNew, ServerGoes, UnlessMade}
use Rattle.sspi_credssp.specs.Turn.{AtNoted, OnceNegotiated}
use Rattle.sspi_credssp.proofs.Counting.{counts_more}

module _ {C : Type 0} (c : Meaning ContextSetting C) where
  begun_by : (o : Option C) (field : Option (List ℕ)) (identity : AuthIdentity) → HoldsIdentity c o field identity → IsSome o
  begun_by None field identity h = absurd h
  begun_by (Some m) field identity h = refl

  same_still : (x y z : Option C) → SameBut c x y → SameBut c y z → SameBut c x z
  same_still None None None first then = tt
  same_still None None (Some m3) first then = then
  same_still None (Some m2) z first then = absurd first
  same_still (Some m) None z first then = absurd first
  same_still (Some m) (Some m2) None first then = then
  same_still (Some m) (Some m2) (Some m3) first then = then ∙ first

  bare_still : (state : CredSspState) (x y z : Option C) → OnceNegotiated state (SameBut c x y) → SameBut c y z →
      OnceNegotiated state (SameBut c x z)
  bare_still NegoToken x y z first then = tt
  bare_still PubKeyInfo x y z first then = same_still x y z first then
  bare_still AuthInfo x y z first then = same_still x y z first then
  bare_still Final x y z first then = same_still x y z first then

  unmade : (x z : Option C) (Made : C → Type 0) → SameBut c x z → UnlessMade c x z Made
  unmade None None Made same = tt
  unmade None (Some m2) Made same = absurd same
  unmade (Some m) None Made same = same
  unmade (Some m) (Some m2) Made same = same

  pub finished : {P : Type 0} (start old new : ServerView C P) (d : TsRequest) (field : Option (List ℕ)) (identity : AuthIdentity) →
      IsReady c start d old → old.state ≡ AuthInfo → old.output ≡ [] → field ≡ d.auth_info → ServerOpens c old field (Ok identity) new →
      ServerGoes c start d (Ok (Finished identity)) (record new { state = Final })
  finished {P = P} start old new d field identity ready state output same (blob, was_opened, holds) =
      let auth : start.state ≡ AuthInfo = sym ready.state ∙ state in
      let negotiated : new.acts.negotiated ≡ false = ap (λ (a : Acts). a.negotiated) blob.acts in
      let status : new.acts.status ≡ None = ap (λ (a : Acts). a.status) blob.acts in
      let checked : new.acts.checked ≡ false = ap (λ (a : Acts). a.checked) blob.acts in
      let proved : new.acts.proved ≡ false = ap (λ (a : Acts). a.proved) blob.acts in
      let sealed : new.acts.sealed ≡ false = ap (λ (a : Acts). a.sealed) blob.acts in
      let kept : new.noted ≡ old.noted = ap (λ (v : ServerView C P). v.noted) blob.rest in
      let begun : IsSome new.context = begun_by new.context field identity holds in
      let bare : OnceNegotiated start.state (SameBut c start.context new.context) =
      bare_still start.state start.context old.context new.context ready.unspent.bare blob.bare in (
        record {
          turn = record {
            shown = record {
              version = subst (λ x. AtNoted x (λ noted. d.version ≡ noted)) (sym kept) ready.fits;
              acts = record {
                negotiated = λ was. absurd (cc (was, negotiated));
                answered = λ some. absurd (cc (some, status));
                checked = λ was. absurd (cc (was, checked));
                proved = λ was. absurd (cc (was, proved));
                opened = λ was. (auth, subst IsLong same (blob.opened was));
                sealed = sealed;
              };
              reply = (auth, was_opened);
            };
            held = record { checked = λ was. absurd (cc (was, checked)); proved = λ was. absurd (cc (was, proved)); reply = tt };
          };
          moves = record {
            same = ap (λ (v : ServerView C P). v.settings) blob.rest ∙ ready.same;
            handle = λ some. (ap (λ (v : ServerView C P). v.handle) blob.rest ∙ (ready.handle some).0, begun);
            state = refl;
            noted = λ some. kept ∙ ready.noted;
            unnoted = λ gone. absurd (cc (begun, gone));
            begun = begun;
            noted_proved = λ was. kept ∙ ready.noted;
            noted_checked = λ was. kept ∙ ready.noted;
            noted_opened = λ was. kept ∙ ready.noted;
            counts = counts_more c start.state start.context old.context new.acts new.context ready.unspent.counts (
              rw (proved, sealed) (blob.sealings ∙ sym (add-zero _)),
              rw checked (omega (arith, blob.unsealings)),
            );
            bare = bare;
            unstepped = λ none. unmade start.context new.context (IsNew c start (record new { state = Final }))
                (subst (λ (s : CredSspState). OnceNegotiated s (SameBut c start.context new.context)) auth bare);
            unanswered = λ none. ap (λ (v : ServerView C P). v.output) blob.rest ∙ output;
            ended = tt;
          };
        },
        subst (λ x. HoldsIdentity c new.context x identity) same holds,
      )

-- A server comes to wait for credentials only by a call in which it checked its client's proof and proved its own key.
use Rattle.std.proofs.Common.{◌≡◌, ◌⊎◌, inl, inr, ℕ, Bool, true, false, List, [], ◌∷◌, Option, None, Some, Result, Ok, Err}
use Rattle.std.proofs.Common.{refl, sym, ◌∙◌, ap, subst}
use Rattle.sspi_types.specs.declared.security_status.SecurityStatus.{SecurityStatus}
use Rattle.sspi_types.specs.declared.security_status.SecurityStatus.TheVariants as statuses
use Rattle.sspi_names.specs.declared.identity.AuthIdentity.{AuthIdentity}
use Rattle.sspi_mech.specs.Meaning.{Meaning}
use Rattle.sspi_tsreq.specs.declared.request.TsRequest.{TsRequest}
use Rattle.sspi_credssp.specs.declared.server_state.ServerError.{ServerError}
use Rattle.sspi_credssp.specs.declared.server_state.ServerState.{ServerState}
use Rattle.sspi_credssp.specs.declared.server_state.ServerState.TheVariants as ends
use Rattle.sspi_credssp.specs.declared.state.CredSspState.{CredSspState}
use Rattle.sspi_credssp.specs.declared.state.CredSspState.TheVariants.{NegoToken, PubKeyInfo, AuthInfo, Final}
use Rattle.sspi_credssp.specs.declared.turn.Outcome.TheVariants as outcome
use Rattle.sspi_credssp.specs.Context.{ContextSetting}
use Rattle.sspi_credssp.specs.Ends.{ServerView}
use Rattle.sspi_credssp.specs.Proxy.{ProxyMeaning}
use Rattle.sspi_credssp.specs.ServerTurn.{ServerTurn, after_status, after_reply}
use Rattle.sspi_desk.specs.declared.answer.DeskError.{DeskError}
use Rattle.sspi_desk.specs.declared.answer.DeskError.TheVariants.{NoSession, Unread, Refused, TooLong, InsufficientMemory}
use Rattle.sspi_desk.specs.declared.answer.Served.{Served}
use Rattle.sspi_desk.specs.declared.answer.Served.TheVariants as served
use Rattle.sspi_desk.specs.Alone.{Alone}
use Rattle.sspi_desk.specs.Call.{IsServed, Takes}
use Rattle.sspi_desk.specs.Proving.{ProvesIn}

-- before the server has proved its key
abbrev IsEarly : CredSspState → Type 0
IsEarly NegoToken = Unit {0}
IsEarly PubKeyInfo = Unit {0}
IsEarly AuthInfo = ⊥
IsEarly Final = ⊥

early_status : (status : Option SecurityStatus) → IsEarly (after_status status)
early_status None = tt
early_status (Some statuses.ContinueNeeded) = tt
early_status (Some statuses.Ok) = tt
early_status (Some statuses.CompleteNeeded) = tt
early_status (Some statuses.CompleteAndContinue) = tt
early_status (Some statuses.LocalLogon) = tt
early_status (Some statuses.ContextExpired) = tt
early_status (Some statuses.IncompleteCredentials) = tt
early_status (Some statuses.Renegotiate) = tt
early_status (Some statuses.NoLsaContext) = tt

early_reply : (state : CredSspState) (status : Option SecurityStatus) → IsEarly state → IsEarly (after_reply state false status)
early_reply NegoToken status h = early_status status
early_reply PubKeyInfo status h = tt
early_reply AuthInfo status h = absurd h
early_reply Final status h = absurd h

module _ {C P : Type 0} (c : Meaning ContextSetting C) (p : ProxyMeaning P) where
  abbrev HasProved : ServerView C P → Type 0
  HasProved new = (new.acts.checked ≡ true) × (new.acts.proved ≡ true)

  same_early : (old new : CredSspState) → new ≡ old → IsEarly old → IsEarly new
  same_early old new same h = subst IsEarly (sym same) h

  replied : (proved : Bool) (old : ServerView C P) (d reply : TsRequest) (new : ServerView C P) → new.acts.proved ≡ proved →
      ServerTurn c old d (outcome.Reply reply) new → IsEarly old.state → IsEarly new.state ⊎ HasProved new
  replied true old d reply new is turn h = inr ((turn.turn.shown.acts.proved is).0, is)
  replied false old d reply new is turn h = inl (subst IsEarly
      (sym (turn.moves.state ∙ ap (λ (b : Bool). after_reply old.state b new.acts.status) is)) (early_reply old.state new.acts.status h))

  taken : (old : ServerView C P) (bytes : List ℕ) (result : Result ServerState ServerError) (new : ServerView C P) →
      Takes c p old bytes result new → IsEarly old.state → IsEarly new.state ⊎ HasProved new
  taken old bytes (Ok (ends.ReplyNeeded reply)) new takes h =
      replied new.acts.proved old takes.request reply new refl takes.process.turn h
  taken old bytes (Ok (ends.Finished identity)) new takes h =
      absurd (subst IsEarly takes.process.turn.0.turn.shown.reply.0 h)
  taken old bytes (Err refusal) new takes h = inl (same_early old.state new.state takes.process.turn.moves.state h)

  once_served : (old : ServerView C P) (bytes : List ℕ) (answer : Result Served DeskError) (new : ServerView C P) →
      IsServed c p old bytes answer new → IsEarly old.state → IsEarly new.state ⊎ HasProved new
  once_served old bytes (Ok (served.Answer text)) new h early = taken old bytes (Ok (ends.ReplyNeeded h.0)) new h.1 early
  once_served old bytes (Ok (served.Finished identity)) new h early = taken old bytes (Ok (ends.Finished identity)) new h early
  once_served old bytes (Err NoSession) new h early = absurd h
  once_served old bytes (Err (Unread kind)) new h early =
      inl (same_early old.state new.state (ap (λ (x : ServerView C P). x.state) h.1) early)
  once_served old bytes (Err (Refused error text)) new h early =
      taken old bytes (Err (record { ts_request = h.0; error = error })) new h.1 early
  once_served old bytes (Err TooLong) new h early = taken old bytes (Ok (ends.ReplyNeeded h.0)) new h.1 early
  once_served old bytes (Err InsufficientMemory) new (inl h) early =
      inl (same_early old.state new.state (ap (λ (x : ServerView C P). x.state) h.1) early)
  once_served old bytes (Err InsufficientMemory) new (inr h) early = taken old bytes h.0 new h.1 early

  -- one more call at the head
  one_more : (first mid now : ServerView C P) (bytes : List ℕ) (answer : Result Served DeskError) (calls : List (List ℕ))
      (answers : List (Result Served DeskError)) → IsServed c p first bytes answer mid → ProvesIn c p mid calls answers now →
      ProvesIn c p first (bytes ∷ calls) (answer ∷ answers) now
  one_more first mid now bytes answer calls answers call proves = record {
    early = bytes ∷ proves.early;
    bytes = proves.bytes;
    later = proves.later;
    calls_are = ap (λ (l : List (List ℕ)). bytes ∷ l) proves.calls_are;
    early_answers = answer ∷ proves.early_answers;
    answer = proves.answer;
    later_answers = proves.later_answers;
    answers_are = ap (λ (l : List (Result Served DeskError)). answer ∷ l) proves.answers_are;
    before = proves.before;
    after = proves.after;
    led = (mid, call, proves.led);
    served = proves.served;
    checked = proves.checked;
    proved = proves.proved;
    went_on = proves.went_on;
  }

  this_one : (first mid now : ServerView C P) (bytes : List ℕ) (answer : Result Served DeskError) (calls : List (List ℕ))
      (answers : List (Result Served DeskError)) → IsServed c p first bytes answer mid → HasProved mid → Alone c p mid calls answers now →
      ProvesIn c p first (bytes ∷ calls) (answer ∷ answers) now
  this_one first mid now bytes answer calls answers call proved rest = record {
    early = [];
    bytes = bytes;
    later = calls;
    calls_are = refl;
    early_answers = [];
    answer = answer;
    later_answers = answers;
    answers_are = refl;
    before = first;
    after = mid;
    led = refl;
    served = call;
    checked = proved.0;
    proved = proved.1;
    went_on = rest;
  }

  pub proves_in : (first now : ServerView C P) (calls : List (List ℕ)) (answers : List (Result Served DeskError)) →
      IsEarly first.state → Alone c p first calls answers now → now.state ≡ AuthInfo → ProvesIn c p first calls answers now
  proves_in first now [] [] early alone at =
      absurd (subst IsEarly (sym (ap (λ (x : ServerView C P). x.state) alone) ∙ at) early)
  proves_in first now [] (answer ∷ answers) early alone at = absurd alone
  proves_in first now (bytes ∷ calls) [] early alone at = absurd alone
  proves_in first now (bytes ∷ calls) (answer ∷ answers) early alone at =
      elim (once_served first bytes answer alone.0 alone.1 early) [
        | inl still ↦ one_more first alone.0 now bytes answer calls answers alone.1
            (proves_in alone.0 now calls answers still alone.2 at)
        | inr proved ↦ this_one first alone.0 now bytes answer calls answers alone.1 proved alone.2
      ]

  -- a session that finished had waited for credentials
  pub finished_after : (first old new : ServerView C P) (calls : List (List ℕ)) (answers : List (Result Served DeskError))
      (bytes : List ℕ) (identity : AuthIdentity) → first.state ≡ NegoToken → Alone c p first calls answers old →
      IsServed c p old bytes (Ok (served.Finished identity)) new → ProvesIn c p first calls answers old
  finished_after first old new calls answers bytes identity at alone call =
      proves_in first old calls answers (subst IsEarly (sym at) tt) alone call.process.turn.0.turn.shown.reply.0

-- How far a client has come in one call.
use Rattle.std.specs.Prelude.{◌+◌, ◌≡◌, List, ℕ, Some, Result, IsSome, IsErr, true, ◌-◌, Option}
use Rattle.std.specs.Prelude.{None, Ok, Err}
use Rattle.sspi_types.specs.declared.error.Error.{Error}
use Rattle.sspi_types.specs.declared.security_status.SecurityStatus.{SecurityStatus}
use Rattle.sspi_tsreq.specs.declared.request.TsRequest.{TsRequest}
use Rattle.sspi_mech.specs.declared.step.Progressing.{Progressing}
use Rattle.sspi_mech.specs.Meaning.{Meaning}
use Rattle.sspi_credssp.specs.declared.acts.Acts.{Acts}
use Rattle.sspi_credssp.specs.Ends.{ClientView}
use Rattle.sspi_credssp.specs.Context.{ContextSetting}
use Rattle.sspi_credssp.specs.Acts.{SameBut, is_waiting_in, sealings_in, SealsIn, unsealings_in}
use Rattle.sspi_credssp.specs.Acts.{OpensIn, no_acts, count_of}
use Rattle.sspi_credssp.specs.declared.client_state.ClientState.{ClientState}
use Rattle.sspi_credssp.specs.Exchange.{delegated_text, IfText, prescribed}
use Rattle.sspi_credssp.specs.declared.turn.Outcome.TheVariants as outcome
use Rattle.sspi_credssp.specs.ClientTurn.{ClientTurn, CompletedTurn}
use Rattle.sspi_credssp.specs.Requests.{IsLong}
use Rattle.sspi_credssp.specs.declared.public_key.EndpointType.TheVariants.{Client, Server}
use Rattle.sspi_credssp.specs.Turn.{AtNoted}

module _ {C : Type 0} (c : Meaning ContextSetting C) where
  -- Sealing the client's proof: a refusal leaves the client unchanged; otherwise the blob is the
  -- context's last message.
  pub record Proved (old : ClientView C) (blob : List ℕ) (new : ClientView C) : Type 0 where
    pub rest : new ≡ record old { context = new.context; acts = record old.acts { proved = true } }
    pub noted : IsSome old.noted
    pub proof : AtNoted old.noted (λ noted. SealsIn c new.context (sealings_in c new.context - 1)
        (prescribed Client noted old.settings.nonce old.settings.public_key) (Some blob))
    pub sealings : sealings_in c new.context ≡ sealings_in c old.context + 1
    pub unsealings : unsealings_in c new.context ≡ unsealings_in c old.context
    pub begun : IsSome new.context

  -- Opening the server's proof, and sealing the credentials if it was the right one.
  pub record ClientOpens (old : ClientView C) (field : Option (List ℕ)) (new : ClientView C) : Type
      0 where
    pub rest : new ≡ record old { context = new.context; acts = new.acts }
    pub acts : new.acts ≡ record no_acts { checked = new.acts.checked; sealed = new.acts.sealed }
    pub checked : new.acts.checked ≡ true → IsLong field
    pub sealed : new.acts.sealed ≡ true → (new.acts.checked ≡ true) ×
        AtNoted old.noted (λ noted. OpensIn c new.context (unsealings_in c new.context - 1) field
        (prescribed Server noted old.settings.nonce old.settings.public_key))
    pub sealings : sealings_in c new.context ≡ sealings_in c old.context + count_of new.acts.sealed
    pub unsealings : unsealings_in c new.context ≡ unsealings_in c old.context + count_of
        new.acts.checked
    pub bare : SameBut c old.context new.context

-- it has a context, and `did` is what this call did on it
pub record HasDone {C : Type 0} (did : Acts) (now : ClientView C) : Type 0 where
  pub acts : now.acts ≡ did
  pub begun : IsSome now.context

module _ {C : Type 0} (c : Meaning ContextSetting C) where
  -- its context has taken its step, and the settings, which no call changes, are as before
  pub record HasGoneOn (old new : ClientView C) : Type 0 where
    pub same : new.settings ≡ old.settings
    pub negotiated : new.acts.negotiated ≡ true
    pub begun : IsSome new.context

  -- what follows a step's answer keeps that answer, and changes at most the context's counts
  pub record KeepsStep (old : ClientView C) (came : SecurityStatus) (token : List ℕ)
      (new : ClientView C) : Type 0 where
    pub on : HasGoneOn old new
    pub kept : new.kept ≡ old.kept
    pub moved : SameBut c old.context new.context
    pub handle : new.handle ≡ old.handle
    pub status : new.acts.status ≡ Some came
    pub output : new.output ≡ token

  -- A refused step: the client is unchanged, and keeps the request if its context waits again.
  pub record KeepsRequest (old : ClientView C) (progress : Result Progressing Error)
      (request : TsRequest) (new : ClientView C) :
      Type 0 where
    pub refused : (new ≡ record old { kept = new.kept }) × IsErr progress
    pub kept : is_waiting_in c new.context ≡ true → new.kept ≡ Some request

module _ {C : Type 0} (c : Meaning ContextSetting C) where
  abbrev pub ClientProves : ClientView C → Result (List ℕ) Error → ClientView C → Type 0
  ClientProves old (Ok blob) new = Proved c old blob new
  ClientProves old (Err error) new = new ≡ old

  pub record ClientSeals (old : ClientView C) (blob : List ℕ) (new : ClientView C) : Type 0 where
    pub begun : IsSome new.context
    pub noted : IsSome old.noted
    pub checked : new.acts.checked ≡ true
    pub sealed : new.acts.sealed ≡ true
    pub credentials : IfText (delegated_text old.settings.credentials old.settings.delegation)
        (λ text. SealsIn c new.context (sealings_in c new.context - 1) text (Some blob))

  abbrev pub ClientDelivers : ClientView C → Option (List ℕ) → Result (List ℕ) Error →
      ClientView C → Type 0
  ClientDelivers old field (Ok blob) new = ClientOpens c old field new × ClientSeals old blob new
  ClientDelivers old field (Err error) new = ClientOpens c old field new

  abbrev pub ClientAnswers : ClientView C → TsRequest → Result ClientState Error → ClientView C →
      Type 0
  ClientAnswers old d (Ok state) new = CompletedTurn c old d state new
  ClientAnswers old d (Err error) new = ClientTurn c old d (outcome.Refused error.error_type None)
      new

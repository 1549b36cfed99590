-- What a server answers to bytes, by the result of its turn.
use Rattle.std.proofs.Common.{◌≡◌, ◌≢◌, ℕ, inr, List, Option, Err, refl, sym, subst}
use Rattle.sspi_types.specs.declared.error.Error.{Error}
use Rattle.sspi_types.specs.declared.error_kind.ErrorKind.TheVariants as kinds
use Rattle.sspi_ber.specs.declared.wire_kind.WireKind.{WireKind}
use Rattle.sspi_ber.specs.declared.wire_kind.WireKind.TheVariants as wire
use Rattle.sspi_mech.specs.Meaning.{Meaning}
use Rattle.sspi_tsreq.specs.declared.request.TsRequest.{TsRequest}
use Rattle.sspi_tsreq.specs.Answer.{IsAnswer}
use Rattle.sspi_credssp.specs.Context.{ContextSetting}
use Rattle.sspi_credssp.specs.Proxy.{ProxyMeaning}
use Rattle.sspi_credssp.specs.Ends.{ServerView}
use Rattle.sspi_desk.specs.declared.answer.DeskError.{DeskError}
use Rattle.sspi_desk.specs.declared.answer.DeskError.TheVariants.{NoSession, Unread, Refused, TooLong, InsufficientMemory}
use Rattle.sspi_desk.specs.Call.{HasFault, HasNoRoom, Takes, IsServed}
use Rattle.sspi_desk.specs.Refusing.{Tells}

pub no_room : (bytes : List ℕ) → IsAnswer bytes (Err wire.InsufficientMemory) → HasNoRoom bytes
no_room bytes h = record { request = h.0; count = h.1; read = h.2; octets = h.3 }

pub unread : (bytes : List ℕ) (kind : WireKind) → (kind ≡ wire.InsufficientMemory → ⊥) → IsAnswer bytes (Err kind) → HasFault bytes kind
unread bytes wire.UnexpectedEof other h = h
unread bytes wire.InvalidData other h = h
unread bytes wire.ReadFault other h = absurd h
unread bytes wire.WriteFault other h = absurd h
unread bytes wire.InsufficientMemory other h = absurd (other refl)

module _ {C P : Type 0} (c : Meaning ContextSetting C) (p : ProxyMeaning P) where
  -- for a turn that was refused
  pub refusal_served : (old new : ServerView C P) (bytes : List ℕ) (request : Option TsRequest) (error : Error) (answer : DeskError) →
      Takes c p old bytes (Err (record { ts_request = request; error = error })) new → Tells request error answer →
      IsServed c p old bytes (Err answer) new
  refusal_served old new bytes request error NoSession takes tells = absurd tells
  refusal_served old new bytes request error (Unread kind) takes tells = absurd tells
  refusal_served old new bytes request error (Refused told text) takes tells = (
    request,
    subst (λ (e : Error). Takes c p old bytes (Err (record { ts_request = request; error = e })) new) (sym tells.0) takes,
    subst (λ (e : Error). e.error_type ≢ kinds.InsufficientMemory) (sym tells.0) tells.1,
    tells.2,
  )
  refusal_served old new bytes request error TooLong takes tells = absurd tells
  refusal_served old new bytes request error InsufficientMemory takes tells =
      inr (Err (record { ts_request = request; error = error }), takes, tells)

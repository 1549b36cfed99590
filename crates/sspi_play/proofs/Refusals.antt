-- Why an end of a play refused: the cause of its newest turn, over the chain of turns before it.
use Rattle.std.proofs.Common.{◌≡◌, List, [], ◌∷◌, Option, None, Some, Err, sym, ◌∙◌, ap, refl}
use Rattle.sspi_types.specs.declared.error.Error.{Error}
use Rattle.sspi_types.specs.declared.error_kind.ErrorKind.{ErrorKind}
use Rattle.sspi_ber.specs.declared.wire_kind.WireKind.{WireKind}
use Rattle.sspi_mech.specs.Context.{IsContext}
use Rattle.sspi_mech.specs.Meaning.{Meaning}
use Rattle.sspi_tsreq.specs.declared.request.TsRequest.{TsRequest}
use Rattle.sspi_credssp.specs.Context.{ContextSetting}
use Rattle.sspi_credssp.specs.Ends.{ClientView, IsFreshClient, ServerView, IsFreshServer}
use Rattle.sspi_credssp.specs.ClientTurn.{client_turn}
use Rattle.sspi_credssp.specs.Proxy.{ProxyMeaning}
use Rattle.sspi_credssp.specs.ServerCall.{ServerCall}
use Rattle.sspi_credssp.specs.ServerTurn.{server_turn}
use Rattle.sspi_credssp.specs.declared.turn.Outcome.{Outcome}
use Rattle.sspi_credssp.specs.declared.turn.Outcome.TheVariants as outcome
use Rattle.sspi_credssp.specs.declared.turn.Turn.{Turn}
use Rattle.sspi_delegate.specs.Chain.{KdcCalls}
use Rattle.sspi_delegate.specs.Turns.{OthersGoOn, OthersUnrefused}
use Rattle.sspi_delegate.specs.History.{ClientTakes, ClientMakes, ClientHistory, ClientRefused}
use Rattle.sspi_delegate.specs.History.{ServerMakes, ServerHistory, ServerRefused}
use Rattle.sspi_delegate.proofs.Refused.{client_refused, server_refused}
use Rattle.sspi_play.specs.declared.played.Ending.{Ending}
use Rattle.sspi_play.specs.History.{IfRefused}
use Rattle.sspi_play.specs.Plays.{refusal_in, last_refusal, ending_by}

-- what holds of the newest refusal holds of an end that refused
pub if_refused : (ending : Ending) (refusal : Option ErrorKind) (unread : Option WireKind) (Q : Error → Type 0) →
    ending ≡ ending_by refusal unread →
    ((kind : ErrorKind) → refusal ≡ Some kind → (error : Error) × (error.error_type ≡ kind) × Q error) → IfRefused ending Q
if_refused ending (Some kind) unread Q is h = rw is (h kind refl)
if_refused ending None (Some kind) Q is h = rw is tt
if_refused ending None None Q is h = rw is tt

module _ {C D P : Type 0} (c : Meaning ContextSetting C) (law : IsContext c) (p : ProxyMeaning P) (k : KdcCalls D) where
  -- a client's turn that was refused with this kind
  client_makes : (old mid : ClientView C) (kdc kdc2 : D) (d : TsRequest) (out : Outcome) (kind : ErrorKind) →
      refusal_in out ≡ Some kind → ClientMakes c k old kdc d out mid kdc2 →
      (error : Error) × (error.error_type ≡ kind) × (out ≡ outcome.Refused error.error_type None) ×
      ClientTakes c k old kdc d (Err error) mid kdc2
  client_makes old mid kdc kdc2 d (outcome.Reply reply) kind is makes = absurd (cc (is))
  client_makes old mid kdc kdc2 d (outcome.Final reply) kind is makes = absurd (cc (is))
  client_makes old mid kdc kdc2 d outcome.Finished kind is makes = absurd makes
  client_makes old mid kdc kdc2 d (outcome.Refused of None) kind is makes =
      (makes.0, cc (makes.1, is), ap (λ (e : ErrorKind). outcome.Refused e None) (sym makes.1), makes.2)
  client_makes old mid kdc kdc2 d (outcome.Refused of (Some reply)) kind is makes = absurd makes

  pub client_cause : (first now : ClientView C) (kdc kdc2 : D) (turns : List Turn) → IsFreshClient first → OthersGoOn turns →
      ClientHistory c k first kdc turns now kdc2 → (kind : ErrorKind) → last_refusal turns ≡ Some kind →
      (error : Error) × (error.error_type ≡ kind) × ClientRefused c k first kdc error now kdc2 turns
  client_cause first now kdc kdc2 [] fresh others h kind is = absurd (cc (is))
  client_cause first now kdc kdc2 (t ∷ past) fresh others h kind is =
      let made = h.3 in
      let why = client_makes h.0 made.mid h.1 kdc2 t.delivered t.outcome kind is made.makes in (
        why.0,
        why.1,
        client_refused c law p k first now kdc kdc2 (t ∷ past) why.0 fresh others (record {
          old = h.0;
          kdc1 = h.1;
          mid = made.mid;
          d = t.delivered;
          past = past;
          newest = ap (λ (x : Turn). x ∷ past) (made.turn ∙ ap (λ (o : Outcome). client_turn c t.delivered o made.mid) why.2);
          before = h.2;
          takes = why.3;
          rest = made.rest;
        }),
      )

  -- a server's turn that was refused with this kind
  server_makes : (old mid : ServerView C P) (d : TsRequest) (out : Outcome) (kind : ErrorKind) → refusal_in out ≡ Some kind →
      ServerMakes c p old d out mid →
      (error : Error) × (reply : Option TsRequest) × (error.error_type ≡ kind) × (out ≡ outcome.Refused error.error_type reply) ×
      ServerCall c p old d (Err (record { ts_request = reply; error = error })) mid
  server_makes old mid d (outcome.Reply reply) kind is makes = absurd (cc (is))
  server_makes old mid d (outcome.Final reply) kind is makes = absurd makes
  server_makes old mid d outcome.Finished kind is makes = absurd (cc (is))
  server_makes old mid d (outcome.Refused of reply) kind is makes =
      (makes.0, reply, cc (makes.1, is), ap (λ (e : ErrorKind). outcome.Refused e reply) (sym makes.1), makes.2)

  pub server_cause : (first now : ServerView C P) (turns : List Turn) → IsFreshServer first → OthersUnrefused turns →
      ServerHistory c p first turns now → (kind : ErrorKind) → last_refusal turns ≡ Some kind →
      (error : Error) × (error.error_type ≡ kind) × ServerRefused c p first error now turns
  server_cause first now [] fresh others h kind is = absurd (cc (is))
  server_cause first now (t ∷ past) fresh others h kind is =
      let made = h.2 in
      let why = server_makes h.0 made.mid t.delivered t.outcome kind is made.makes in (
        why.0,
        why.2,
        server_refused c law p k first now (t ∷ past) why.0 fresh others (record {
          old = h.0;
          mid = made.mid;
          d = t.delivered;
          reply = why.1;
          past = past;
          newest = ap (λ (x : Turn). x ∷ past) (made.turn ∙ ap (λ (o : Outcome). server_turn c t.delivered o made.mid) why.3);
          before = h.1;
          call = why.4;
          rest = made.rest;
        }),
      )

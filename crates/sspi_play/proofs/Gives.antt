-- The identity that a play gives, after one more turn of the server.
use Rattle.std.proofs.Common.{◌≡◌, ◌∙◌, sym, subst, false, List, [], ◌∷◌, Option, None, Some, Ok, ap, refl}
use Rattle.sspi_mech.specs.Meaning.{Meaning}
use Rattle.sspi_names.specs.declared.identity.AuthIdentity.{AuthIdentity}
use Rattle.sspi_credssp.specs.Context.{ContextSetting}
use Rattle.sspi_credssp.specs.Proxy.{ProxyMeaning}
use Rattle.sspi_credssp.specs.Ends.{ServerView}
use Rattle.sspi_credssp.specs.declared.turn.End.TheVariants.{Server}
use Rattle.sspi_credssp.specs.declared.turn.Outcome.{Outcome}
use Rattle.sspi_credssp.specs.declared.turn.Outcome.TheVariants as outcome
use Rattle.sspi_credssp.specs.declared.turn.Turn.{Turn}
use Rattle.sspi_delegate.specs.Log.{IsServerRefusal, IsFinished}
use Rattle.sspi_delegate.specs.Turns.{server_turns, is_finished, GoesOn}
use Rattle.sspi_delegate.specs.History.{ServerHistory, ServerGave}
use Rattle.sspi_delegate.specs.Rounds.{newest_alone}
use Rattle.sspi_play.specs.declared.hand.Handed.TheVariants as handed
use Rattle.sspi_play.specs.declared.played.Ending.{Ending}
use Rattle.sspi_play.specs.declared.played.Ending.TheVariants.{Running, Refused, Unread}
use Rattle.sspi_play.specs.Hands.{TurnsSo, EndsSo, ServerHandMade}
use Rattle.sspi_play.specs.History.{Gave}
use Rattle.sspi_play.proofs.Parts.{server_more}

went_unfinished : (out : Outcome) → GoesOn out → is_finished out ≡ false
went_unfinished (outcome.Reply reply) went = refl
went_unfinished (outcome.Final reply) went = refl
went_unfinished outcome.Finished went = absurd went
went_unfinished (outcome.Refused kind reply) went = absurd went

refused_unfinished : (kind : _) (out : Outcome) → IsServerRefusal kind out → is_finished out ≡ false
refused_unfinished kind (outcome.Reply reply) is = absurd is
refused_unfinished kind (outcome.Final reply) is = absurd is
refused_unfinished kind outcome.Finished is = absurd is
refused_unfinished kind (outcome.Refused refused reply) is = refl

module _ {C P : Type 0} (c : Meaning ContextSetting C) (p : ProxyMeaning P) where
  -- one more turn that does not finish
  gave_more : (first old now : ServerView C P) (identity : Option AuthIdentity) (t : Turn) (turns : List Turn) →
      is_finished t.outcome ≡ false → ServerHistory c p old (t ∷ []) now → Gave c p first identity turns old →
      Gave c p first identity (t ∷ turns) now
  gave_more first old now None t turns un made h = rw un h
  gave_more first old now (Some identity) t turns un made h = record {
    later = t ∷ h.later;
    turn = h.turn;
    before = h.before;
    parts = ap (λ (l : List Turn). t ∷ l) h.parts;
    finished = h.finished;
    server = h.server;
    gave = h.gave;
    since = (
      made.0,
      subst (λ (v : ServerView C P). ServerHistory c p h.server h.later v) (sym made.1) h.since,
      made.2,
    );
  }

  gave_turn : (first old now : ServerView C P) (identity : Option AuthIdentity) (P2 : Outcome → Type 0) (bytes : _)
      (turns new : List Turn) → ((out : Outcome) → P2 out → is_finished out ≡ false) → TurnsSo Server false bytes P2 turns new →
      ServerHistory c p old (server_turns (newest_alone new)) now → Gave c p first identity (server_turns turns) old →
      Gave c p first identity (server_turns new) now
  gave_turn first old now identity P2 bytes turns [] un h made gave = absurd h.1
  gave_turn first old now identity P2 bytes turns (t ∷ before) un h made gave =
      subst (λ (l : List Turn). Gave c p first identity l now)
      (sym (server_more t before h.1.1 ∙ ap (λ (l : List Turn). t ∷ server_turns l) h.1.0))
      (gave_more first old now identity t (server_turns turns) (un t.outcome h.1.3)
      (subst (λ (l : List Turn). ServerHistory c p old l now) (server_more t [] h.1.1) made) gave)

  pub gave_on : (first old now : ServerView C P) (identity : Option AuthIdentity) (ending : Ending) (bytes : _) (turns new : List Turn) →
      EndsSo Server IsServerRefusal false bytes ending turns new → ServerHandMade c p old (Ok (handed.Stands ending)) new now →
      Gave c p first identity (server_turns turns) old → Gave c p first identity (server_turns new) now
  gave_on first old now identity Running bytes turns new h made gave =
      gave_turn first old now identity GoesOn bytes turns new went_unfinished h made gave
  gave_on first old now identity (Refused kind) bytes turns new h made gave =
      gave_turn first old now identity (IsServerRefusal kind) bytes turns new (refused_unfinished kind) h.1 made gave
  gave_on first old now identity (Unread kind) bytes turns new h made gave = rw (h.1, made) gave

  -- the turn that finishes
  pub gave_now : (first now : ServerView C P) (identity : AuthIdentity) (bytes : _) (turns new : List Turn) →
      TurnsSo Server false bytes IsFinished turns new → ServerGave c p first identity (server_turns new) now →
      Gave c p first (Some identity) (server_turns new) now
  gave_now first now identity bytes turns [] h gave = absurd h.1
  gave_now first now identity bytes turns (t ∷ before) h gave =
      subst (λ (l : List Turn). Gave c p first (Some identity) l now) (sym (server_more t before h.1.1)) (record {
        later = [];
        turn = t;
        before = server_turns before;
        parts = refl;
        finished = h.1.3;
        server = now;
        gave = subst (λ (l : List Turn). ServerGave c p first identity l now) (server_more t before h.1.1) gave;
        since = refl;
      })

-- The runs of two ends over channels, as agreement takes them.
use Rattle.std.proofs.Common.{◌≡◌, ℕ, List, [], ◌∷◌, Some, Result, Ok, Err, length, refl, ap, ◌∙◌, subst}
use Rattle.sspi_names.specs.declared.identity.AuthIdentity.{AuthIdentity}
use Rattle.sspi_mech.specs.Context.{IsContext}
use Rattle.sspi_mech.specs.Meaning.{Meaning}
use Rattle.sspi_credssp.specs.declared.turn.End.TheVariants.{Server}
use Rattle.sspi_credssp.specs.declared.turn.Turn.{Turn}
use Rattle.sspi_credssp.specs.Context.{ContextSetting}
use Rattle.sspi_credssp.specs.Ends.{ClientSettings, ClientView, IsFreshServer, ServerView}
use Rattle.sspi_credssp.specs.Proxy.{ProxyMeaning}
use Rattle.sspi_delegate.specs.declared.answer.Delegation.{Delegation}
use Rattle.sspi_delegate.specs.declared.answer.DelegateError.{DelegateError}
use Rattle.sspi_delegate.specs.History.{ServerGave, ServerPast}
use Rattle.sspi_delegate.specs.Log.{IsFinished, NewestIs}
use Rattle.sspi_delegate.specs.Turns.{ClientRan, client_end, client_turns, server_end, server_turns}
use Rattle.sspi_live.specs.Answers.{Serves}
use Rattle.sspi_live.specs.Channel.{Channel}
use Rattle.sspi_live.specs.Fresh.{ServedFresh}
use Rattle.sspi_live_laws.specs.Identities.{identity_of}
use Rattle.sspi_play.specs.Agreement.{AgreesIfFaithful}
use Rattle.sspi_play.specs.History.{GaveIn}
use Rattle.sspi_play.proofs.Agreed.{agreement}

module _ {C P : Type 0} (c : Meaning ContextSetting C) (law : IsContext c) (p : ProxyMeaning P) where
  gave_newest : (server server2 : ServerView C P) (identity : AuthIdentity) (turns : List Turn) → NewestIs Server IsFinished turns →
      ServerGave c p server identity turns server2 → GaveIn c p server identity turns server2
  gave_newest server server2 identity [] newest gave = absurd newest
  gave_newest server server2 identity (t ∷ past) newest gave = record {
    later = [];
    turn = t;
    before = past;
    parts = refl;
    finished = newest.1;
    server = server2;
    gave = gave;
    since = refl;
  }

  gave_in : (server server2 : ServerView C P) (limit : ℕ) (before after : Channel) (answer : Result Delegation DelegateError)
      (turns : List Turn) → Serves limit before after answer turns → ServerPast c p server answer turns server2 →
      (given : AuthIdentity) → identity_of answer ≡ Some given → GaveIn c p server given turns server2
  gave_in server server2 limit before after (Ok delegation) turns serves past given is =
      let same : delegation.credentials ≡ given = cc (is) in
      subst (λ (identity : AuthIdentity). GaveIn c p server identity turns server2) same
      (gave_newest server server2 delegation.credentials turns serves.1 past)
  gave_in server server2 limit before after (Err error) turns serves past given is = absurd (cc (is))

  pub two_agree : (server server2 : ServerView C P) (limit : ℕ) (before after : Channel) (answer : Result Delegation DelegateError)
      (client client2 : ClientView C) (turns : List Turn) → IsFreshServer server → Serves limit before after answer (server_turns turns) →
      ServerPast c p server answer (server_turns turns) server2 → ServedFresh c p server answer (server_turns turns) server2 →
      ClientRan c client client2 (client_turns turns) → length client.settings.nonce ≡ 32 →
      AgreesIfFaithful c (client_end client2) (server_end server2) turns (identity_of answer)
  two_agree server server2 limit before after answer client client2 turns fresh serves past served ran long = λ opens.
      agreement c (client_end client2) (server_end server2) law p server server2 turns (identity_of answer) fresh refl
      (gave_in server server2 limit before after answer (server_turns turns) serves past)
      (record {
        client_each = ran.each;
        client_others = ran.others;
        server_each = served.the_turns_are_a_run.each;
        server_others = served.the_turns_are_a_run.others;
        opens = opens;
      }) (ap (λ (s : ClientSettings). length s.nonce) ran.same ∙ long)

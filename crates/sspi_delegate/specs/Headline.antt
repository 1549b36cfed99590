-- What `delegate` promises, and what holds of each exchange between two fresh ends, whatever its
-- link delivers.
use Rattle.std.specs.Prelude.{◌≡◌, ℕ, ◌<◌, List, [], ◌∷◌, length, Option, IsSome, Bool, true, false}
use Rattle.std.specs.Prelude.{◌+◌, ◌&&◌, ◌||◌, ◌≤◌, Result, Err}
use Rattle.std.specs.Prelude.{IfOk, OnOk}
use Rattle.sspi_types.specs.declared.error_kind.ErrorKind.TheVariants.{DowngradeDetected}
use Rattle.sspi_mech.specs.Meaning.{Meaning}
use Rattle.sspi_credssp.specs.declared.public_key.EndpointType.TheVariants as endpoint
use Rattle.sspi_credssp.specs.declared.state.CredSspState.TheVariants.{AuthInfo}
use Rattle.sspi_credssp.specs.declared.turn.End.TheVariants.{Client}
use Rattle.sspi_credssp.specs.declared.turn.Outcome.{Outcome}
use Rattle.sspi_credssp.specs.declared.turn.Outcome.TheVariants as outcome
use Rattle.sspi_credssp.specs.declared.turn.Turn.{Turn}
use Rattle.sspi_credssp.specs.Acts.{no_acts, count_of, OpensIn}
use Rattle.sspi_credssp.specs.Context.{ContextSetting, NeverRefuses}
use Rattle.sspi_credssp.specs.Ends.{ClientView, IsFreshClient, ServerView, IsFreshServer}
use Rattle.sspi_credssp.specs.Exchange.{prescribed}
use Rattle.sspi_credssp.specs.Noted.{differs}
use Rattle.sspi_credssp.specs.Requests.{is_code}
use Rattle.sspi_credssp.specs.Turn.{AtNoted}
use Rattle.sspi_delegate.specs.declared.carried.Carried.{Carried}
use Rattle.sspi_delegate.specs.Turns.{ClientEnd, client_state, client_noted, ClientRan}
use Rattle.sspi_delegate.specs.Turns.{server_noted, ServerRan, client_turns, server_turns}
use Rattle.sspi_delegate.specs.Turns.{opened_in, Alternates, client_end, server_end, GivesNewest}
use Rattle.sspi_delegate.specs.Log.{HasLog, IsDue, RunEnds, Exactly}
use Rattle.sspi_names.specs.declared.network.NetworkRequest.{NetworkRequest}
use Rattle.sspi_mech.specs.declared.step.Reply.{Reply}
use Rattle.sspi_credssp.specs.Proxy.{list_calls, ProxyMeaning, HasAsked}
use Rattle.sspi_delegate.specs.declared.answer.Delegation.{Delegation}
use Rattle.sspi_delegate.specs.declared.answer.DelegateError.{DelegateError}
use Rattle.sspi_delegate.specs.declared.answer.DelegateError.TheVariants.{TurnsSpent}
use Rattle.sspi_delegate.specs.declared.edit.Edit.{Edit}
use Rattle.sspi_delegate.specs.Chain.{KdcCalls, kdc_calls, client_stage, ClientChained}
use Rattle.sspi_delegate.specs.Chain.{server_stage, ServerChain}
use Rattle.sspi_delegate.specs.History.{ClientPast, ServerPast, RefusedBy, KdcStays, ProxyStays}
use Rattle.sspi_delegate.specs.Link.{StaysTold, AnswerTold}

-- ---- A turn that would pin its peer's version is refused if that is too old: a client's second,
-- as its first request is its own, or a server's first. A context may refuse so; a plain one never.

abbrev pub IsDowngrade : Outcome → Type 0
IsDowngrade (outcome.Refused kind reply) = kind ≡ DowngradeDetected
IsDowngrade other = ⊥

-- a client's turn after these finds its server below the least version, and gets as far as looking:
-- the server reports no error
pub record FindsOldServer (least : ℕ) (past : List Turn) (t : Turn) : Type 0 where
  pub second : length past ≡ 1
  pub code : is_code t.delivered.error_code ≡ false
  pub old : t.delivered.version < least

-- a server's turn after these finds its client below the least version, and gets as far as looking:
-- it has made its context
pub record FindsOldClient {C : Type 0} (context : Option C) (least : ℕ) (past : List Turn)
    (t : Turn) : Type 0 where
  pub first : length past ≡ 0
  pub begun : IsSome context
  pub old : t.delivered.version < least

module _ {C : Type 0} (c : Meaning ContextSetting C) where
  -- exactly then it is refused for that; and a client that is sent an error, or a version that is
  -- not the pinned one, does nothing
  pub record HeedsServer (least : ℕ) (past : List Turn) (t : Turn) : Type 0 where
    pub refuses : FindsOldServer least past t → IsDowngrade t.outcome
    pub only : NeverRefuses c DowngradeDetected → IsDowngrade t.outcome →
        FindsOldServer least past t
    pub told : is_code t.delivered.error_code ≡ true → t.acts ≡ no_acts
    pub altered : differs (client_noted least past) t.delivered.version ≡ true → t.acts ≡ no_acts

  pub record HeedsClient (context : Option C) (least : ℕ) (past : List Turn) (t : Turn) : Type 0
    where
      pub refuses : FindsOldClient context least past t → IsDowngrade t.outcome
      pub only : NeverRefuses c DowngradeDetected → IsDowngrade t.outcome →
          FindsOldClient context least past t
      pub altered : differs (server_noted least past) t.delivered.version ≡ true → t.acts ≡ no_acts

  -- each of these turns of a client with this least version
  abbrev pub EachHeedsServer : ℕ → List Turn → Type 0
  EachHeedsServer least [] = Unit {0}
  EachHeedsServer least (t ∷ past) = HeedsServer least past t × EachHeedsServer least past

  -- each of these turns of a server with this least version and context
  abbrev pub EachHeedsClient : Option C → ℕ → List Turn → Type 0
  EachHeedsClient context least [] = Unit {0}
  EachHeedsClient context least (t ∷ past) = HeedsClient context least past t ×
      EachHeedsClient context least past

-- ---- what holds

-- both ends as they were made
pub record IsFresh {C P : Type 0} (client : ClientView C) (server : ServerView C P) : Type 0 where
  pub client_is : IsFreshClient client
  pub server_is : IsFreshServer server

-- the number of turns in which credentials were sealed, refused turns included
abbrev pub sealed_turns : List Turn → ℕ
sealed_turns [] = 0
sealed_turns (t ∷ past) = sealed_turns past + count_of t.acts.sealed

-- in one of the turns the client's proof was checked and the server's own was sealed
abbrev pub any_exchange : List Turn → Bool
any_exchange [] = false
any_exchange (t ∷ past) = (t.acts.checked && t.acts.proved) || any_exchange past

-- in a turn before the newest
abbrev pub HasExchanged : List Turn → Type 0
HasExchanged [] = ⊥
HasExchanged (t ∷ past) = any_exchange past ≡ true

module _ {C : Type 0} (c : Meaning ContextSetting C) where
  -- the client sealed only once authenticated, sent no error, and given a pubKeyAuth that opens to
  -- the proof that the server must give
  abbrev pub SealsAfterProof : ClientEnd C → List Turn → Type 0
  SealsAfterProof e [] = Unit {0}
  SealsAfterProof e (t ∷ past) =
      (t.acts.sealed ≡ true → (client_state past ≡ AuthInfo) ×
      (is_code t.delivered.error_code ≡ false)
      × AtNoted (client_noted e.settings.least (t ∷ past))
      (λ noted. OpensIn c e.context (opened_in past) t.delivered.pub_key_auth
      (prescribed endpoint.Server noted e.settings.nonce e.settings.public_key)))
      × SealsAfterProof e past

  module _ {P : Type 0} where
    -- the turns alternate, each is one of its end that heeds its peer, and each has its entry in
    -- the log, except perhaps the newest
    pub record IsRun (client client2 : ClientView C) (server server2 : ServerView C P)
        (base log : List Carried)
        (turns : List Turn) : Type 0 where
      pub order : Alternates turns
      pub entries : HasLog base turns log
      pub client_ran : ClientRan c client client2 (client_turns turns)
      pub server_ran : ServerRan c server server2 (server_turns turns)
      pub client_heeds : EachHeedsServer c client2.settings.least (client_turns turns)
      pub server_heeds : EachHeedsClient c server2.context server2.settings.least
          (server_turns turns)

-- what the three around the ends expose: the proxy, the link and the KDC
pub record Around (P L D : Type 0) : Type 0 where
  pub proxy : ProxyMeaning P
  pub log : L → List Carried
  pub edits : L → Option (List Edit)
  pub link_faults : L → ℕ
  -- the KDC's reply to each question by the number of the call, how often it was asked, and how
  -- often it failed
  pub replies : D → Option (ℕ → NetworkRequest → Reply)
  pub asked : D → ℕ
  pub kdc_faults : D → ℕ

abbrev pub around_by : {P L D : Type 0} → ProxyMeaning P → (L → List Carried) →
    (L → Option (List Edit)) → (L → ℕ) →
    (D → Option (ℕ → NetworkRequest → Reply)) → (D → ℕ) → (D → ℕ) → Around P L D
around_by proxy log edits link_faults replies asked kdc_faults = record {
  proxy = proxy;
  log = log;
  edits = edits;
  link_faults = link_faults;
  replies = replies;
  asked = asked;
  kdc_faults = kdc_faults;
}

-- all that takes part in an exchange, at one moment
pub record Parties (C P L D : Type 0) : Type 0 where
  pub client : ClientView C
  pub server : ServerView C P
  pub link : L
  pub kdc : D
  -- the transcript's turns
  pub turns : List Turn

abbrev pub parties : {C P L D : Type 0} → ClientView C → ServerView C P → L → D → List Turn →
    Parties C P L D
parties client server link kdc turns = record {
  client = client;
  server = server;
  link = link;
  kdc = kdc;
  turns = turns;
}

-- limit: how many turns the client may make
module _ {P L D : Type 0} (around : Around P L D) where
  abbrev pub calls_of_kdc : KdcCalls D
  calls_of_kdc = kdc_calls around.replies around.asked around.kdc_faults

  -- what stays the same of the three around the ends, in every exchange
  pub record Stays {C : Type 0} (old : Parties C P L D) (limit : ℕ)
      (result : Result Delegation DelegateError)
      (new : Parties C P L D) : Type 0 where
    pub the_proxy_tells_what_it_told : ProxyStays around.proxy old.server.proxy new.server.proxy
    pub the_kdc_tells_what_it_told : KdcStays around.replies around.kdc_faults old.kdc new.kdc
    pub the_link_tells_what_it_told : StaysTold (around.edits old.link) (around.edits new.link)
        (around.log old.link) (around.log new.link)
    pub the_link_fails_where_its_edits_say_so : AnswerTold (around.edits old.link)
        (around.link_faults old.link)
        (around.link_faults new.link) result (around.log new.link) new.turns
    pub no_turns_are_spent_at_once : limit ≡ 0 → result ≡ Err TurnsSpent
    pub ok_comes_within_the_limit : IfOk result (λ delegation. delegation.rounds ≤ limit)

-- c: what the context of either end means
module _ {C P L D : Type 0} (c : Meaning ContextSetting C) (around : Around P L D) where
  -- of every exchange
  pub record Accounts (old : Parties C P L D) (limit : ℕ) (result : Result Delegation DelegateError)
      (new : Parties C P L D) : Type 0 where
    pub turns_and_log_show_the_answer : RunEnds (around.log old.link) (around.link_faults old.link)
        limit result new.turns
        (around.log new.link) (around.link_faults new.link)
    pub no_other_answer_fits : Exactly (around.log old.link) limit result new.turns
        (around.log new.link)
    -- each turn of an end was one of its calls, and nothing changed it in between; the last one
    -- refused with the error, or gave the identity
    pub client_turns_are_its_calls : ClientPast c (calls_of_kdc around)
        (IsDue (around.log old.link) Client new.turns (around.log new.link)) old.client old.kdc
        result
        (client_turns new.turns) new.client new.kdc
    pub server_turns_are_its_calls : ServerPast c around.proxy old.server result
        (server_turns new.turns) new.server

  -- of an exchange between two fresh ends
  pub record Delegates (old : Parties C P L D) (limit : ℕ)
      (result : Result Delegation DelegateError) (new : Parties C P L D) : Type 0 where
    pub the_turns_are_a_run : IsRun c old.client new.client old.server new.server
        (around.log old.link) (around.log new.link) new.turns
    pub credentials_are_sealed_at_most_once : sealed_turns new.turns ≤ 1
    pub the_client_seals_after_the_proof : SealsAfterProof c (client_end new.client)
        (client_turns new.turns)
    pub the_server_never_seals : sealed_turns (server_turns new.turns) ≡ 0
    pub the_identity_is_what_was_opened_last : IfOk result (λ delegation.
        GivesNewest c (server_end new.server) (server_turns new.turns) delegation.credentials)
    pub both_proofs_came_before_ok : OnOk result (HasExchanged (server_turns new.turns))
    -- the list, if a negotiation was made with it, and the look-up of the peer
    pub no_call_of_the_proxy_before_ok_was_to_fail : OnOk result
        (HasAsked around.proxy (list_calls old.server.settings.mode + 1) old.server.proxy
        new.server.proxy)
    -- so what an end offered, chose, signed and verified in a turn is what its context did in that
    -- step
    pub the_client_has_the_context_of_its_chain : ClientChained c (calls_of_kdc around) old.client
        (IsDue (around.log old.link) Client new.turns (around.log new.link)) old.kdc result
        (client_turns new.turns)
        (client_stage new.client new.kdc)
    pub the_server_has_the_context_of_its_chain : ServerChain c around.proxy old.server
        (server_turns new.turns) (server_stage new.server)
    pub a_refusal_has_its_cause : RefusedBy c around.proxy (calls_of_kdc around) old.client old.kdc
        new.client new.kdc
        old.server new.server result (client_turns new.turns) (server_turns new.turns)
    pub accounts : Accounts old limit result new
    pub stays : Stays around old limit result new

-- Ends made as in an example match, and come to its answer.
use Rattle.std.proofs.Common.{◌≡◌, ℕ, List, [], ◌∷◌, length, Option, None, Some, Result, Ok, Err, refl, ap, sym, ◌∙◌, subst}
use Rattle.std.specs.Prelude.{IfOk}
use Rattle.std.proofs.Common.{arith}
use Rattle.sspi_names.specs.declared.identity.AuthIdentity.{AuthIdentity}
use Rattle.sspi_names.specs.Equality.{ignoring_case-equiv}
use Rattle.sspi_names.specs.declared.network.NetworkRequest.{NetworkRequest}
use Rattle.sspi_mech.specs.declared.step.Reply.{Reply}
use Rattle.sspi_mech.specs.PlainKdc.{PlainKdcState}
use Rattle.sspi_tsreq.specs.declared.mode.CredSspMode.{CredSspMode}
use Rattle.sspi_credssp.specs.declared.mode.ClientMode.{ClientMode}
use Rattle.sspi_credssp.specs.declared.mode.ServerMode.{ServerMode}
use Rattle.sspi_credssp.specs.Ends.{ClientView, ServerView}
use Rattle.sspi_credssp.specs.Proxy.{entry_of}
use Rattle.sspi_credssp.specs.Table.{TableView, table_meaning}
use Rattle.sspi_delegate.specs.declared.answer.Delegation.{Delegation}
use Rattle.sspi_delegate.specs.declared.answer.DelegateError.{DelegateError}
use Rattle.sspi_delegate.specs.declared.carried.Carried.{Carried}
use Rattle.sspi_delegate.specs.declared.edit.Edit.{Edit}
use Rattle.sspi_delegate.specs.Link.{MemoryLinkView}
use Rattle.sspi_delegate.specs.Headline.{IsFresh, Parties, parties, Delegates}
use Rattle.sspi_completeness.specs.Examples.{example_target}
use Rattle.sspi_completeness.specs.Matching.{AreMatching, HasEntry, MatchModes, messages_of}
use Rattle.sspi_completeness.specs.Matching.{messages_in}
use Rattle.sspi_credssp.specs.Exchange.{delegated_as}
use Rattle.sspi_completeness.specs.Matching.{AreWholePast, NoneFailed, none_told, IsUndisturbed, unedited, NothingDisturbs}
use Rattle.sspi_completeness.specs.Worked.{Example, IsClientOf, IsServerOf, Matches}
use Rattle.sspi_completeness.specs.WorkedOut.{Plain, plain_meaning, kdc_told, in_memory, WorkedOut}
use Rattle.sspi_completeness.specs.Answered.{AnswersIn}

-- a table that begins with an identity has it
pub own_entry : (identity : AuthIdentity) → HasEntry (identity ∷ []) identity
unfolding entry_of
own_entry identity = record {
  entry = identity;
  found = rw (ignoring_case-equiv.refl identity.username) refl;
  password = refl;
}

-- a new link without edits disturbs nothing
pub undisturbed : {new : List Carried} {before now : ℕ} (link : MemoryLinkView) (edits : List Edit) →
    link ≡ record { log = []; edits = edits; faults = 0; most = None } → edits ≡ [] →
    IsUndisturbed (Some link.edits) link.log new before now
undisturbed link edits is none =
    unedited (ap (λ (l : MemoryLinkView). Some l.edits) is ∙ ap Some none)
    (subst (λ (l : MemoryLinkView). AreWholePast 0 l.log) (sym is) tt)

-- what holds of modes holds of equal ones
module _ (told : Option (ℕ → NetworkRequest → Reply)) (call messages : ℕ) (identity : AuthIdentity) where
  abbrev pub MatchesAt : List ℕ → ClientMode → ServerMode → Type 0
  MatchesAt target client server =
      (modes : MatchModes told call target identity client server)
      × (messages_of told call target identity client server modes ≡ messages)

  pub carried : (target : List ℕ) (client client2 : ClientMode) (server server2 : ServerMode) → target ≡ example_target → client ≡ client2 →
      server ≡ server2 → MatchesAt example_target client2 server2 → MatchesAt target client server
  carried target client client2 server server2 at same same2 matches =
      subst (λ (t : List ℕ). MatchesAt t client server) (sym at)
      (subst (λ (c : ClientMode). MatchesAt example_target c server) (sym same)
      (subst (λ (s : ServerMode). MatchesAt example_target client2 s) (sym same2) matches))

module _ {C : Type 0} (told : Option (ℕ → NetworkRequest → Reply)) (call messages : ℕ) (x : Example) (client : ClientView C)
    (server : ServerView C TableView) (client_is : IsClientOf x client) (server_is : IsServerOf x server)
    (matches : Matches told call messages x) where
  abbrev pub modes : MatchesAt told call messages x.identity client.settings.target client.settings.mode server.settings.mode
  modes = carried told call messages x.identity client.settings.target client.settings.mode x.client server.settings.mode x.server
      client_is.target client_is.mode server_is.mode (matches.modes, matches.counted)

  abbrev pub matched : AreMatching table_meaning told call client server
  matched = record {
    identity = x.identity;
    modes = modes.0;
    key_same = server_is.public_key ∙ sym client_is.public_key;
    key_short = omega (arith, ap length client_is.public_key, matches.key_short);
    versions = rw (client_is.version, server_is.version) matches.versions;
    client_takes = omega (arith, client_is.least, server_is.version, matches.client_takes);
    server_takes = omega (arith, server_is.least, client_is.version, matches.server_takes);
    credentials_are = client_is.credentials;
    short = matches.short;
    entries = x.identity ∷ [];
    tells = ap (λ (proxy : TableView). Some proxy.entries) server_is.proxy;
    entry = own_entry x.identity;
    identity_is = matches.identity_is;
    client_version = omega (arith, client_is.version, matches.client_version);
    server_version = omega (arith, server_is.version, matches.server_version);
    nonce = client_is.nonce;
  }

  pub counted : messages_in matched ≡ messages
  counted = modes.1

  pub fresh_ends : IsFresh client server
  fresh_ends = record { client_is = client_is.fresh; server_is = server_is.fresh }

  -- no look-up of its proxy fails
  pub none_fails : {now : ℕ} → NoneFailed (Some server.proxy.failing) server.proxy.faults now
  none_fails = none_told (ap (λ (proxy : TableView). Some proxy.failing) server_is.proxy)
      (let faults = ap (λ (proxy : TableView). proxy.faults) server_is.proxy in omega (arith, faults))

  pub answered : (limit : ℕ) (answer : Result Delegation DelegateError) →
      ((m : AreMatching table_meaning told call client server) →
      AnswersIn (messages_in m) limit (delegated_as client.settings.delegation m.identity) answer) →
      AnswersIn messages limit (delegated_as x.delegation x.identity) answer
  answered limit answer answers =
      subst (λ (n : ℕ). AnswersIn n limit (delegated_as x.delegation x.identity) answer) counted
      (subst (λ (d : CredSspMode). AnswersIn (messages_in matched) limit (delegated_as d x.identity) answer) client_is.delegation
      (answers matched))

-- what such ends leave when run over a link without edits
pub worked_out : (x : Example) (messages limit : ℕ) (client : ClientView Plain) (server : ServerView Plain TableView) (kdc : PlainKdcState) →
    IsClientOf x client → IsServerOf x server → Matches (kdc_told kdc) kdc.asked messages x → (link : MemoryLinkView) (edits : List Edit) →
    link ≡ record { log = []; edits = edits; faults = 0; most = None } → edits ≡ [] →
    (answer : Result Delegation DelegateError) (new : Parties Plain TableView MemoryLinkView PlainKdcState) →
    (IsFresh client server → Delegates plain_meaning in_memory (parties client server link kdc []) limit answer new) →
    ((m : AreMatching table_meaning (kdc_told kdc) kdc.asked client server) →
    NothingDisturbs in_memory (parties client server link kdc []) new →
    AnswersIn (messages_in m) limit (delegated_as client.settings.delegation m.identity) answer) →
    WorkedOut x messages limit answer new
worked_out x messages limit client server kdc client_is server_is matches link edits link_is none answer new delegates answers =
    let told = kdc_told kdc in
    let fresh = fresh_ends told kdc.asked messages x client server client_is server_is matches in
    let calm : NothingDisturbs in_memory (parties client server link kdc []) new = record {
      fresh = fresh;
      link = undisturbed link edits link_is none;
      proxy = none_fails told kdc.asked messages x client server client_is server_is matches;
    } in
    record {
      old = parties client server link kdc [];
      client_is = client_is;
      server_is = server_is;
      matching = matched told kdc.asked messages x client server client_is server_is matches;
      undisturbed = calm;
      delegates = delegates fresh;
      answers = answered told kdc.asked messages x client server client_is server_is matches limit answer (λ m. answers m calm);
    }

-- what holds of every value holds of a result's value
pub of_each : {A E : Type 0} (P : A → Type 0) (made : Result A E) → ((x : A) → P x) → IfOk made P
of_each P (Ok x) all = all x
of_each P (Err error) all = tt

-- The ends of a matching scenario match, and nothing disturbs their exchange.
use Rattle.std.proofs.Common.{◌≡◌, ℕ, List, length, Option, Some, refl, ap, sym, ◌∙◌, subst, arith}
use Rattle.sspi_names.specs.declared.network.NetworkRequest.{NetworkRequest}
use Rattle.sspi_mech.specs.declared.step.Reply.{Reply}
use Rattle.sspi_mech.specs.PlainKdc.{PlainKdcState, told_by}
use Rattle.sspi_credssp.specs.declared.mode.ClientMode.{ClientMode}
use Rattle.sspi_credssp.specs.declared.mode.ServerMode.{ServerMode}
use Rattle.sspi_credssp.specs.Ends.{ClientSettings, ClientView, ServerSettings, ServerView}
use Rattle.sspi_credssp.specs.Table.{TableView, table_meaning}
use Rattle.sspi_delegate.specs.Link.{MemoryLinkView}
use Rattle.sspi_delegate.specs.declared.carried.Carried.{Carried}
use Rattle.sspi_completeness.specs.Matching.{IsNtlmServer, MatchModes, messages_of, AreMatching, AreWholePast, IsUndisturbed}
use Rattle.sspi_completeness.specs.Matching.{unedited, NoneFailed}
use Rattle.sspi_completeness.specs.Matching.{none_told, messages_in as matching_messages}
use Rattle.sspi_scenario.specs.declared.scenario.Mode.{Mode}
use Rattle.sspi_scenario.specs.declared.scenario.Mode.TheVariants.{Ntlm}
use Rattle.sspi_scenario.specs.declared.scenario.Scenario.{Scenario}
use Rattle.sspi_scenario.specs.Held.{HoldsValues}
use Rattle.sspi_program.specs.Ends.{PlainContext, credentials_by, client_mode_in, server_mode_by, IsClientOf, IsServerOf, link_in, kdc_in}
use Rattle.sspi_program.specs.Outcome.{user_identity, kdc_told, messages_in, IsMatching}

pub ntlm_server : (s : Scenario) (server : ServerView PlainContext TableView) → IsServerOf s server → s.mode ≡ Ntlm →
    IsNtlmServer server.settings.mode
ntlm_server s server named matching =
    subst (λ (v : ServerSettings). IsNtlmServer v.mode) (sym named.settings)
    (subst (λ (mode : Mode). IsNtlmServer (server_mode_by mode s)) (sym matching) tt)

-- the same for the ends and the KDC that the scenario names, with the same number of messages
pub record Modes (s : Scenario) (matching : IsMatching s) (told : Option (ℕ → NetworkRequest → Reply)) (call : ℕ) (target : List ℕ)
    (client : ClientMode) (server : ServerMode) : Type 0 where
  pub modes : MatchModes told call target (user_identity s) client server
  pub messages : messages_of told call target (user_identity s) client server modes ≡ messages_in s matching

pub modes_at : (s : Scenario) (matching : IsMatching s) (client : ClientView PlainContext) (server : ServerView PlainContext TableView)
    (kdc : PlainKdcState) → IsClientOf s client → IsServerOf s server → kdc ≡ kdc_in s →
    Modes s matching (Some (told_by kdc.users kdc.script)) kdc.asked client.settings.target client.settings.mode server.settings.mode
modes_at s matching client server kdc client_named server_named made =
    subst (λ (k : PlainKdcState). Modes s matching (Some (told_by k.users k.script)) k.asked client.settings.target client.settings.mode
    server.settings.mode) (sym made)
    (subst (λ (c : ClientSettings). Modes s matching (kdc_told s) 0 c.target c.mode server.settings.mode) (sym client_named)
    (subst (λ (v : ServerSettings). Modes s matching (kdc_told s) 0 s.target (client_mode_in s) v.mode) (sym server_named.settings)
    (record { modes = matching.mode; messages = refl })))

abbrev pub ends_match : (s : Scenario) (client : ClientView PlainContext) (server : ServerView PlainContext TableView)
    (kdc : PlainKdcState) → IsClientOf s client → IsServerOf s server → kdc ≡ kdc_in s → HoldsValues s → IsMatching s →
    AreMatching table_meaning (Some (told_by kdc.users kdc.script)) kdc.asked client server
ends_match s client server kdc client_named server_named made held matching = record {
  identity = user_identity s;
  modes = (modes_at s matching client server kdc client_named server_named made).modes;
  key_same = ap (λ (v : ServerSettings). v.public_key) server_named.settings ∙ matching.key_same
      ∙ sym (ap (λ (c : ClientSettings). c.public_key) client_named);
  key_short = omega (arith, ap (λ (c : ClientSettings). length c.public_key) client_named, matching.key_short);
  versions = rw (client_named, server_named.settings) matching.versions;
  client_takes = rw (client_named, server_named.settings) matching.client_takes;
  server_takes = rw (server_named.settings, client_named) matching.server_takes;
  credentials_are = ap (λ (c : ClientSettings). c.credentials) client_named
      ∙ ap (λ (keytab : Option (List ℕ)). credentials_by keytab s.user s.password) matching.no_keytab;
  short = matching.short;
  entries = s.account;
  tells = ap (λ (p : TableView). Some p.entries) server_named.proxy;
  entry = matching.entry;
  identity_is = record { name = held.name; password_text = held.password_text };
  client_version = omega (arith, ap (λ (c : ClientSettings). c.version) client_named, held.client_bits);
  server_version = omega (arith, ap (λ (v : ServerSettings). v.version) server_named.settings, held.server_bits);
  nonce = ap (λ (c : ClientSettings). length c.nonce) client_named ∙ held.nonce_length;
}

pub match_messages : (s : Scenario) (client : ClientView PlainContext) (server : ServerView PlainContext TableView) (kdc : PlainKdcState)
    (client_named : IsClientOf s client) (server_named : IsServerOf s server) (made : kdc ≡ kdc_in s) (held : HoldsValues s)
    (matching : IsMatching s) →
    matching_messages (ends_match s client server kdc client_named server_named made held matching) ≡ messages_in s matching
match_messages s client server kdc client_named server_named made held matching =
    (modes_at s matching client server kdc client_named server_named made).messages

pub unedited_link : (s : Scenario) (link : MemoryLinkView) (new : List Carried) (now : ℕ) → link ≡ link_in s → IsMatching s →
    IsUndisturbed (Some link.edits) link.log new link.faults now
unedited_link s link new now is matching =
    unedited (ap (λ (l : MemoryLinkView). Some l.edits) is ∙ ap Some matching.no_edit)
    (subst (λ (l : MemoryLinkView). AreWholePast 0 l.log) (sym is) tt)

pub calm_proxy : (s : Scenario) (server : ServerView PlainContext TableView) (now : ℕ) → IsServerOf s server → IsMatching s →
    NoneFailed (Some server.proxy.failing) server.proxy.faults now
calm_proxy s server now named matching =
    let none : server.proxy.faults ≡ 0 = ap (λ (p : TableView). p.faults) named.proxy in
    none_told (ap (λ (p : TableView). Some p.failing) named.proxy ∙ ap Some matching.no_failure) (omega (arith, none))

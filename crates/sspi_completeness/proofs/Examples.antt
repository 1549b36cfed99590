-- Negotiating ends, as in the examples.
use Rattle.std.proofs.Common.{◌≡◌, ◌↔◌, ◌<◌, ◌≤◌, ◌==◌, inl, inr, ℕ, ◌++◌, Bool, true, false, IsTrue, List, [], ◌∷◌, length, codes, decimal}
use Rattle.std.proofs.Common.{Option, None, Some, Ok, refl, sym, ap, subst, ◌∙◌, arith, option_map, if◌then◌else◌, append_assoc}
use Rattle.std.proofs.Common.{replicate, slice_index}
use Rattle.std.proofs.lemmas.Fmt.{decimal_is_IsNumeral}
use Rattle.std.proofs.lemmas.List.{length-append}
use Rattle.std.specs.Char.{digit_value}
use Rattle.std.specs.Net.Grammar.{IsDotted, IsGroups}
use Rattle.std.specs.Net.Text.{dotted_text}
use Rattle.std.specs.Str.Parse.{IsNumeral}
use Rattle.std.specs.declared.net.ip_addr.IpAddr.TheVariants.{V4, V6}
use Rattle.sha2.proofs.Facts256.{length-sha256}
use Rattle.sspi_names.specs.declared.identity.AuthIdentity.{AuthIdentity}
use Rattle.sspi_names.specs.declared.network.NetworkRequest.{NetworkRequest}
use Rattle.sspi_names.specs.Identity.{buffers_of}
use Rattle.sspi_names.specs.Name.{domain_of, inner_of}
use Rattle.sspi_names.specs.declared.kdc_table.KdcEntry.{KdcEntry}
use Rattle.sspi_names.specs.Kdcs.{url_of}
use Rattle.sspi_names.specs.Utf16.{text_of}
use Rattle.sspi_mech.specs.declared.step.Reply.{Reply}
use Rattle.sspi_mech.specs.declared.step.Reply.TheVariants.{Answered}
use Rattle.sspi_mech.specs.KerberosLogon.{request_at}
use Rattle.sspi_mech.specs.KerberosMessages.{as_request, as_reply, tgs_request, tgs_reply}
use Rattle.sspi_mech.specs.PlainKdc.{first_key, session_key, told_by}
use Rattle.sspi_mech.proofs.Opened.{same_bytes}
use Rattle.sspi_tokens.specs.Oids.{kind_of}
use Rattle.sspi_negotiate.specs.declared.negotiate_config.NegotiateConfig.{NegotiateConfig}
use Rattle.sspi_negotiate.specs.declared.pick.Choice.TheVariants as choices
use Rattle.sspi_negotiate.specs.declared.pick.Picked.{Picked}
use Rattle.sspi_negotiate.specs.declared.protocol.Protocol.{Protocol}
use Rattle.sspi_negotiate.specs.declared.protocol.Protocol.TheVariants as protocols
use Rattle.sspi_negotiate.specs.declared.protocol_config.ProtocolConfig.TheVariants as configs
use Rattle.sspi_negotiate.specs.declared.state.Role.TheVariants.{Client, Server}
use Rattle.sspi_negotiate.specs.Hand.{Origin, Configured}
use Rattle.sspi_negotiate.specs.New.{first_in_hand, packages_in}
use Rattle.sspi_negotiate.specs.IpText.{IsIpText}
use Rattle.sspi_negotiate.specs.Pick.{pick, offered}
use Rattle.sspi_negotiate.specs.Rows.{is_guest_text}
use Rattle.sspi_negotiate.specs.Target.{IsNamedByIp}
use Rattle.sspi_completeness.specs.Examples.{example_target, example_ntlm, example_kerberos, example_ticket, example_kdc}
use Rattle.sspi_negotiate.specs.Rule.{url_for}
use Rattle.sspi_completeness.specs.Negotiating.{AreNegotiating, HasFirstKey, HasSessionKey, Needs}
use Rattle.sspi_completeness.specs.Negotiating.{protocol_of, kdc_url, begins_with, messages_by}

-- ---- the target

abbrev host : List ℕ
host = codes "host.example.com"

-- it begins with no digit, not with a hexadecimal one either
no_digits : (radix : ℕ) (digits rest : List ℕ) → radix ≤ 16 → IsNumeral radix digits → host ≡ digits ++ rest → ⊥
no_digits radix [] rest small numeral is = omega (arith, numeral.0)
no_digits radix (first ∷ digits) rest small numeral is =
    let letter : 104 ≡ first = ap (λ text. slice_index text 0) is in
    let digit : digit_value 104 < radix = subst (λ byte. digit_value byte < radix) (sym letter) numeral.1.0 in
    omega (arith, small, digit)

-- what follows the first number of an IPv4 address
abbrev behind : ℕ → ℕ → ℕ → List ℕ → List ℕ
behind b c d rest = 46 ∷ decimal b ++ (46 ∷ decimal c ++ (46 ∷ decimal d ++ rest))

parted : (a b c d : ℕ) (rest : List ℕ) → dotted_text a b c d ++ rest ≡ decimal a ++ behind b c d rest
parted a b c d rest = simp append_assoc refl

no_dotted : (text octets rest : List ℕ) → IsDotted text octets → host ≡ text ++ rest → ⊥
no_dotted text octets rest dotted is =
    let numeral = decimal_is_IsNumeral dotted.a (omega (arith, dotted.fit.0)) in
    no_digits 10 (decimal dotted.a) _ (omega arith) numeral.0
    (is ∙ ap (λ t. t ++ rest) dotted.spelled ∙ parted dotted.a dotted.b dotted.c dotted.d rest)

no_groups : (ipv4 : Bool) (text : List ℕ) (first : ℕ) (segments rest : List ℕ) → IsGroups ipv4 text (first ∷ segments) →
    host ≡ text ++ rest → ⊥
no_groups ipv4 text first segments rest (inl (group, others, spelled, is_group, more)) is =
    no_digits 16 group (others ++ rest) (omega arith) is_group.0.0 (is ∙ ap (λ t. t ++ rest) spelled ∙ append_assoc group others rest)
no_groups ipv4 text first segments rest (inr (last, octets, may, spelled, dotted, value)) is =
    no_dotted last octets rest dotted (is ∙ ap (λ t. t ++ rest) spelled)

-- no groups at all are not eight, and not the letter before a `::`
no_eight : (segments : List ℕ) → IsGroups true host segments → length segments ≡ 8 → ⊥
no_eight [] groups eight = omega (arith, eight)
no_eight (first ∷ segments) groups eight = no_groups true host first segments [] groups refl

no_head : (text rest segments : List ℕ) → IsGroups false text segments → host ≡ text ++ 58 ∷ rest → ⊥
no_head text rest [] groups is =
    let letter : 104 ≡ 58 = ap (λ t. slice_index t 0) (is ∙ ap (λ t. t ++ 58 ∷ rest) groups) in omega (arith, letter)
no_head text rest (first ∷ segments) groups is = no_groups false text first segments (58 ∷ rest) groups is

never_ip : IsIpText host → ⊥
never_ip (V4 address, dotted) = no_dotted host _ [] dotted refl
never_ip (V6 address, inl (groups, eight)) = no_eight _ groups eight
never_ip (V6 address, inr elided) =
    no_head elided.head_text (58 ∷ elided.tail_text) elided.head elided.head_groups
    (elided.spelled ∙ append_assoc elided.head_text (codes "::") elided.tail_text)

pub not_named : IsTrue false ↔ IsNamedByIp (Some example_target)
not_named = (λ is. absurd (cc (is)), λ named. absurd (never_ip named))

-- ---- the KDC

pub length-first_key : (name : List ℕ) → length (first_key name) ≡ 32
unfolding first_key
length-first_key name = length-sha256 _

pub length-session_key : (both : List ℕ) → length (session_key both) ≡ 32
unfolding session_key
length-session_key both = length-sha256 _

pub first_replied : (name url : List ℕ) (call : ℕ) →
    told_by (name ∷ []) [] call (request_at url (as_request name)) ≡ Answered (as_reply (first_key name))
first_replied name url call = rw (same_bytes name name refl) refl

pub session_replied : (users : List (List ℕ)) (key ticket url : List ℕ) (call : ℕ) → length key ≡ 32 → length ticket ≡ 32 →
    told_by users [] call (request_at url (tgs_request key ticket)) ≡ Answered (tgs_reply (session_key (key ++ ticket)))
session_replied users key ticket url call one two =
    let both : length (key ++ ticket) ≡ 64 = omega (arith, length-append key ticket, one, two) in rw both refl

-- it has a first key for the client that it knows, and a session key for this ticket
abbrev pub first_served : (identity : AuthIdentity) (at : List ℕ) (url : Option (List ℕ)) → url ≡ Some at →
    HasFirstKey (example_kdc identity) 0 url identity.username
first_served identity at url is = record {
  at = at;
  url_is = is;
  replies = told_by (inner_of identity.username ∷ []) [];
  tells = refl;
  key = first_key (inner_of identity.username);
  key_length = length-first_key (inner_of identity.username);
  reply = first_replied (inner_of identity.username) at 0;
}

abbrev pub session_served : (identity : AuthIdentity) (at ticket : List ℕ) (url : Option (List ℕ)) → url ≡ Some at → length ticket ≡ 32 →
    HasSessionKey (example_kdc identity) 0 url identity.username (Some ticket)
session_served identity at ticket url is long = record {
  first = first_served identity at url is;
  sent = ticket;
  ticket_is = refl;
  ticket_length = long;
  key = session_key (first_key (inner_of identity.username) ++ ticket);
  key_length = length-session_key (first_key (inner_of identity.username) ++ ticket);
  reply = session_replied (inner_of identity.username ∷ []) (first_key (inner_of identity.username)) ticket at 1
      (length-first_key (inner_of identity.username)) long;
}

-- ---- the picks

pub picked_kerberos : pick (offered protocols.Kerberos (record { ntlm = true; kerberos = true })) (record { ntlm = true; kerberos = true })
    protocols.Kerberos ≡ Some (record { choice = choices.MsKerberos; index = 0 })
unfolding kind_of
picked_kerberos = refl

picked_ntlm : pick (offered protocols.Kerberos (record { ntlm = true; kerberos = true })) (record { ntlm = true; kerberos = true })
    protocols.Ntlm ≡ Some (record { choice = choices.Ntlm; index = 2 })
unfolding kind_of
picked_ntlm = refl

pub picked_first : pick (offered protocols.Ntlm (record { ntlm = true; kerberos = true })) (record { ntlm = true; kerberos = true })
    protocols.Ntlm ≡ Some (record { choice = choices.Ntlm; index = 0 })
unfolding kind_of
picked_first = refl

-- ---- the ends

-- an empty table serves no domain
none_served : (domain : List ℕ) → url_of [] domain ≡ None
unfolding url_of
none_served domain = at (length domain == 0)
  where
    at : (b : Bool) → (if b then None else option_map (λ (entry : KdcEntry). entry.url) None) ≡ None
    at true = refl
    at false = refl

pub never_served : (domain : Option (List ℕ)) → protocols.Ntlm ≡ begins_with false (record { ntlm = true; kerberos = true }) protocols.Ntlm
    (url_for [] domain)
never_served None = refl
never_served (Some domain) =
    ap (λ (url : Option (List ℕ)). begins_with false (record { ntlm = true; kerberos = true }) protocols.Ntlm url)
    (sym (none_served domain))

-- ends that have these selected and begin with this, where the server picks this and what they need is there
abbrev pub negotiating : {told : Option (ℕ → NetworkRequest → Reply)} {call : ℕ} {client server : NegotiateConfig}
    {identity : AuthIdentity} →
    (hand hand2 : Origin) (begins : Protocol) (picked : Picked) → first_in_hand Client client ≡ Ok hand →
    first_in_hand Server server ≡ Ok hand2 →
    begins ≡ begins_with false (packages_in client) (protocol_of hand) (url_for client.kdcs (domain_of identity.username)) →
    pick (offered begins (packages_in client)) (packages_in server) (protocol_of hand2) ≡ Some picked →
    Needs told call begins picked.choice (kdc_url client hand identity.username) hand2 identity →
    AreNegotiating told call client server example_target identity
negotiating hand hand2 begins picked first first2 begins_is picks needs = record {
  client_hand = hand;
  server_hand = hand2;
  client_first = first;
  server_first = first2;
  ip = false;
  ip_is = not_named;
  begins = begins;
  begins_is = begins_is;
  picked = picked;
  picks = picks;
  needs = needs;
}

abbrev ntlm_hand : List ℕ → Origin
ntlm_hand computer = Configured (configs.Ntlm (record { client_computer_name = Some computer; challenge = replicate 8 0 }))

abbrev kerberos_hand : List ℕ → List ℕ → Origin
kerberos_hand url computer = Configured (configs.Kerberos (record { kdc_url = Some url; kdcs = []; client_computer_name = computer }))

abbrev ticket_hand : List ℕ → List ℕ → Origin
ticket_hand ticket computer = Configured
    (configs.KerberosServer (record { kdc_url = None; kdcs = []; client_computer_name = computer }) (record { ticket = Some ticket }))

pub kerberos_ends : (identity : AuthIdentity) (url ticket computer : List ℕ) → length ticket ≡ 32 →
    (ends : AreNegotiating (example_kdc identity) 0 (example_kerberos url computer) (example_ticket ticket computer) example_target
    identity)
    × (messages_by ends.begins ends.picked.choice ≡ 4)
kerberos_ends identity url ticket computer long = (
  negotiating (kerberos_hand url computer) (ticket_hand ticket computer) protocols.Kerberos
      (record { choice = choices.MsKerberos; index = 0 }) refl refl refl picked_kerberos
      (session_served identity url ticket (Some url) refl long),
  refl,
)

pub changed_ends : (identity : AuthIdentity) (url computer : List ℕ) → is_guest_text (text_of (buffers_of identity).user) ≡ false →
    (ends : AreNegotiating (example_kdc identity) 0 (example_kerberos url computer) (example_ntlm computer) example_target identity)
    × (messages_by ends.begins ends.picked.choice ≡ 5)
changed_ends identity url computer no_guest = (
  negotiating (kerberos_hand url computer) (ntlm_hand computer) protocols.Kerberos (record { choice = choices.Ntlm; index = 2 })
      refl refl refl picked_ntlm
      (first_served identity url (Some url) refl, record { no_guest = no_guest; challenge = refl }),
  refl,
)

pub ntlm_ends : (told : Option (ℕ → NetworkRequest → Reply)) (call : ℕ) (identity : AuthIdentity) (computer : List ℕ) →
    is_guest_text (text_of (buffers_of identity).user) ≡ false →
    (ends : AreNegotiating told call (example_ntlm computer) (example_ntlm computer) example_target identity)
    × (messages_by ends.begins ends.picked.choice ≡ 4)
ntlm_ends told call identity computer no_guest = (
  negotiating (ntlm_hand computer) (ntlm_hand computer) protocols.Ntlm (record { choice = choices.Ntlm; index = 0 }) refl refl
      (never_served (domain_of identity.username)) picked_first
      (record { no_guest = no_guest; challenge = refl }),
  refl,
)

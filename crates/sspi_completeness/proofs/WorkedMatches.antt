-- The ends of the examples match.
use Rattle.std.proofs.Common.{◌≡◌, ℕ, ◌<◌, ◌≤◌, ◌^◌, ◌∷◌, [], List, length, codes, replicate, false, nat_lt, Option, Some, Result}
use Rattle.std.proofs.Common.{Ok, Err, refl, ap, sym, subst, arith, lit≤}
use Rattle.std.specs.Prelude.{IfOk}
use Rattle.std.specs.Str.{IsUtf8, chars, is_utf8}
use Rattle.std.proofs.lemmas.Str.{IsUtf8-from_is_utf8}
use lib.Utf8.{encode}
use Rattle.sspi_names.specs.declared.identity.AuthIdentity.{AuthIdentity}
use Rattle.sspi_names.specs.declared.network.NetworkRequest.{NetworkRequest}
use Rattle.sspi_names.specs.Identity.{IsIdentity, buffers_of}
use Rattle.sspi_names.specs.Kdcs.{url_of}
use Rattle.sspi_names.specs.Name.{domain_of, inner_of, parse_name, down_level, principal}
use Rattle.sspi_names.specs.Utf16.{units_of, text_of}
use Rattle.sspi_names.proofs.CodeUnits.{text_of-units_of}
use Rattle.sspi_mech.specs.declared.step.Reply.{Reply}
use Rattle.sspi_mech.specs.PlainKdc.{PlainKdcState, told_by}
use Rattle.sspi_tokens.specs.Oids.{kind_of}
use Rattle.sspi_negotiate.specs.declared.negotiate_config.NegotiateConfig.{NegotiateConfig}
use Rattle.sspi_negotiate.specs.declared.pick.Choice.TheVariants as choices
use Rattle.sspi_negotiate.specs.declared.protocol.Protocol.TheVariants as protocols
use Rattle.sspi_negotiate.specs.declared.protocol_config.ProtocolConfig.TheVariants as configs
use Rattle.sspi_negotiate.specs.declared.state.Role.TheVariants.{Server}
use Rattle.sspi_negotiate.specs.Hand.{Origin, Configured}
use Rattle.sspi_negotiate.specs.New.{first_in_hand, packages_in}
use Rattle.sspi_negotiate.specs.PackageList.{is_name_of}
use Rattle.sspi_negotiate.specs.Pick.{pick, offered}
use Rattle.sspi_negotiate.specs.Rows.{is_guest_text}
use Rattle.sspi_tsreq.specs.declared.mode.CredSspMode.{CredSspMode}
use Rattle.sspi_completeness.specs.Examples.{example_target, example_kdc}
use Rattle.sspi_completeness.specs.Matching.{IsShort, key_limit}
use Rattle.sspi_completeness.specs.Negotiating.{AreNegotiating, kdc_url, messages_by}
use Rattle.sspi_completeness.specs.Worked.{Example, Matches, realm_kerberos, client_ntlm, server_ntlm}
use Rattle.sspi_completeness.specs.Answered.{ann, ann_of_realm}
use Rattle.sspi_completeness.specs.Worked.{with_ntlm, with_kerberos, with_ticket, with_ntlm_alone, ntlm_example}
use Rattle.sspi_completeness.specs.Worked.{negotiated, negotiated_at_version_4, negotiated_with_a_long_key}
use Rattle.sspi_completeness.specs.Worked.{user_to_user, given_up_for_ntlm, realm_kdc}
use Rattle.sspi_completeness.proofs.Examples.{first_served, session_served, picked_kerberos, picked_first, never_served, negotiating}

-- ---- who they are

utf8 : (IsUtf8 (codes "ann")) × (IsUtf8 (codes "DOM")) × (IsUtf8 (codes "example.com")) × (IsUtf8 (codes "ann@example.com"))
    × (IsUtf8 (codes "pw")) × (IsUtf8 (codes "fourteenletter"))
unfolding is_utf8 chars encode
utf8 = (
  IsUtf8-from_is_utf8 (codes "ann") refl,
  IsUtf8-from_is_utf8 (codes "DOM") refl,
  IsUtf8-from_is_utf8 (codes "example.com") refl,
  IsUtf8-from_is_utf8 (codes "ann@example.com") refl,
  IsUtf8-from_is_utf8 (codes "pw") refl,
  IsUtf8-from_is_utf8 (codes "fourteenletter") refl,
)

pub ann_parsed : parse_name (codes "DOM\\ann") ≡ Some (down_level (codes "ann") (codes "DOM"))
unfolding parse_name
ann_parsed = refl

pub realm_parsed : parse_name (codes "ann@example.com") ≡ Some (principal (codes "ann") (codes "example.com"))
unfolding parse_name
realm_parsed = refl

pub realm_shown : inner_of (principal (codes "ann") (codes "example.com")) ≡ codes "ann@example.com"
unfolding inner_of
realm_shown = refl

ann_is : IsIdentity ann
ann_is = record {
  name = record { allowed = (refl, refl); account_text = utf8.0; domain_text = utf8.1 };
  password_text = utf8.4;
}

realm_is : (password : List ℕ) → IsUtf8 password → IsIdentity (ann_of_realm password)
realm_is password is = record {
  name = record { allowed = (refl, refl); account_text = utf8.0; domain_text = utf8.2 };
  password_text = is;
}

short_ann : IsShort ann
unfolding buffers_of units_of chars
short_ann = record { user_units = lit≤ tt; domain_units = lit≤ tt; password_units = lit≤ tt }

short_realm : IsShort (ann_of_realm (codes "pw")) × IsShort (ann_of_realm (codes "fourteenletter"))
unfolding buffers_of units_of chars inner_of
short_realm = (
  record { user_units = lit≤ tt; domain_units = lit≤ tt; password_units = lit≤ tt },
  record { user_units = lit≤ tt; domain_units = lit≤ tt; password_units = lit≤ tt },
)

ann_no_guest : is_guest_text (text_of (buffers_of ann).user) ≡ false
unfolding buffers_of
ann_no_guest = rw (text_of-units_of (codes "ann") utf8.0) refl

realm_no_guest : (password : List ℕ) → is_guest_text (text_of (buffers_of (ann_of_realm password)).user) ≡ false
unfolding buffers_of
realm_no_guest password = rw (realm_shown, text_of-units_of (codes "ann@example.com") utf8.3) refl

-- ends that negotiate at one version match
negotiated_match : {told : Option (ℕ → NetworkRequest → Reply)} {call messages : ℕ} {key : List ℕ} {identity : AuthIdentity}
    {version least : ℕ} {client server : NegotiateConfig} → IsIdentity identity → IsShort identity → length key ≤ key_limit →
    least ≤ version → version < 2 ^ 32 → (ends : AreNegotiating told call client server example_target identity) →
    messages_by ends.begins ends.picked.choice ≡ messages →
    Matches told call messages (negotiated key identity version least client server)
negotiated_match is short key_short takes small ends counted = record {
  identity_is = is;
  short = short;
  key_short = key_short;
  versions = refl;
  client_takes = takes;
  server_takes = takes;
  client_version = small;
  server_version = small;
  modes = ends;
  counted = counted;
}

-- ---- NTLM without a negotiation

module _ (told : Option (ℕ → NetworkRequest → Reply)) (call : ℕ) where
  pub ntlm_matches : (delegation : CredSspMode) (client server least : ℕ) → nat_lt client 5 ≡ nat_lt server 5 → least ≤ server →
      least ≤ client → client < 2 ^ 32 → server < 2 ^ 32 → Matches told call 3 (ntlm_example delegation client server least)
  ntlm_matches delegation client server least versions takes takes2 small small2 = record {
    identity_is = ann_is;
    short = short_ann;
    key_short = lit≤ tt;
    versions = versions;
    client_takes = takes;
    server_takes = takes2;
    client_version = small;
    server_version = small2;
    modes = refl;
    counted = refl;
  }

  -- ---- a negotiation of NTLM

  ntlm_ends : (identity : AuthIdentity) → is_guest_text (text_of (buffers_of identity).user) ≡ false →
      AreNegotiating told call (with_ntlm client_ntlm) (with_ntlm server_ntlm) example_target identity
  ntlm_ends identity no_guest =
      negotiating (Configured (configs.Ntlm client_ntlm)) (Configured (configs.Ntlm server_ntlm)) protocols.Ntlm
      (record { choice = choices.Ntlm; index = 0 }) refl refl (never_served (domain_of identity.username)) picked_first
      (record { no_guest = no_guest; challenge = refl })

  pub version_4_matches : Matches told call 4 negotiated_at_version_4
  unfolding ntlm_ends
  version_4_matches = negotiated_match ann_is short_ann (lit≤ tt) (lit≤ tt) (omega arith) (ntlm_ends ann ann_no_guest) refl

  pub long_key_matches : Matches told call 4 negotiated_with_a_long_key
  unfolding ntlm_ends
  long_key_matches =
      negotiated_match (realm_is (codes "fourteenletter") utf8.5) short_realm.1 (lit≤ tt) (lit≤ tt) (omega arith)
      (ntlm_ends (ann_of_realm (codes "fourteenletter")) (realm_no_guest (codes "fourteenletter"))) refl

-- ---- a negotiation that begins with Kerberos

abbrev kerberos_hand : Origin
kerberos_hand = Configured (configs.Kerberos realm_kerberos)

abbrev ticket : List ℕ
ticket = replicate 32 0x11

abbrev who : AuthIdentity
who = ann_of_realm (codes "pw")

found : kdc_url with_kerberos kerberos_hand who.username ≡ Some (codes "tcp://kdc")
unfolding url_of domain_of
found = refl

kerberos_ends : AreNegotiating (example_kdc who) 0 with_kerberos with_ticket example_target who
kerberos_ends =
    negotiating kerberos_hand (Configured (configs.KerberosServer realm_kerberos (record { ticket = Some ticket }))) protocols.Kerberos
    (record { choice = choices.MsKerberos; index = 0 }) refl refl refl picked_kerberos
    (session_served who (codes "tcp://kdc") ticket (kdc_url with_kerberos kerberos_hand who.username) found refl)

picked_alone : pick (offered protocols.Kerberos (packages_in with_kerberos)) (packages_in with_ntlm_alone) protocols.Ntlm
    ≡ Some (record { choice = choices.Ntlm; index = 2 })
unfolding kind_of is_name_of
picked_alone = refl

alone_first : first_in_hand Server with_ntlm_alone ≡ Ok (Configured (configs.Ntlm server_ntlm))
unfolding is_name_of
alone_first = refl

changed_ends : AreNegotiating (example_kdc who) 0 with_kerberos with_ntlm_alone example_target who
changed_ends =
    negotiating kerberos_hand (Configured (configs.Ntlm server_ntlm)) protocols.Kerberos (record { choice = choices.Ntlm; index = 2 })
    refl alone_first refl picked_alone (
      first_served who (codes "tcp://kdc") (kdc_url with_kerberos kerberos_hand who.username) found,
      record { no_guest = realm_no_guest (codes "pw"); challenge = refl },
    )

user_to_user_matches : Matches (example_kdc who) 0 4 user_to_user
unfolding kerberos_ends
user_to_user_matches =
    negotiated_match (realm_is (codes "pw") utf8.4) short_realm.0 (lit≤ tt) (lit≤ tt) (omega arith) kerberos_ends refl

given_up_matches : Matches (example_kdc who) 0 5 given_up_for_ntlm
unfolding changed_ends
given_up_matches =
    negotiated_match (realm_is (codes "pw") utf8.4) short_realm.0 (lit≤ tt) (lit≤ tt) (omega arith) changed_ends refl

-- ---- by the KDC that is made

kdc_is : example_kdc who ≡ Some (told_by realm_kdc.users realm_kdc.script)
kdc_is = ap (λ (name : List ℕ). Some (told_by (name ∷ []) [])) realm_shown

abbrev MatchBy : ℕ → Example → PlainKdcState → Type 0
MatchBy messages x kdc = Matches (Some (told_by kdc.users kdc.script)) kdc.asked messages x

matches_by : {E : Type 0} (messages : ℕ) (x : Example) (kdc : Result PlainKdcState E) → IfOk kdc (λ kdc. kdc ≡ realm_kdc) →
    Matches (example_kdc who) 0 messages x → IfOk kdc (MatchBy messages x)
matches_by messages x (Ok kdc) is matches =
    subst (MatchBy messages x) (sym is) (subst (λ (told : Option (ℕ → NetworkRequest → Reply)). Matches told 0 messages x) kdc_is matches)
matches_by messages x (Err error) is matches = tt

pub user_to_user_by : {E : Type 0} (kdc : Result PlainKdcState E) → IfOk kdc (λ kdc. kdc ≡ realm_kdc) → IfOk kdc (MatchBy 4 user_to_user)
user_to_user_by kdc is = matches_by 4 user_to_user kdc is user_to_user_matches

pub given_up_by : {E : Type 0} (kdc : Result PlainKdcState E) → IfOk kdc (λ kdc. kdc ≡ realm_kdc) → IfOk kdc (MatchBy 5 given_up_for_ntlm)
given_up_by kdc is = matches_by 5 given_up_for_ntlm kdc is given_up_matches

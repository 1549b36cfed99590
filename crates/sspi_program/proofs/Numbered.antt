-- The ends of a numbered scenario match if nothing prevents it, or if only the turns are too few.
use Rattle.std.proofs.Common.{◌≡◌, ℕ, ◌<◌, ◌≤◌, ◌^◌, ◌%◌, ◌==◌, inl, inr, Bool, true, false, List, [], ◌∷◌, ◌++◌, codes}
use Rattle.std.proofs.Common.{decimal, length, replicate}
use Rattle.std.proofs.Common.{option_map, suc, Option, None, Some, Result, Ok, Err, refl, sym, ap, ◌∙◌, subst, arith, if◌then◌else◌}
use Rattle.std.specs.Prelude.{IsSome}
use Rattle.std.specs.Char.Escape.{encode_utf16}
use Rattle.std.specs.List.{flat_map}
use Rattle.std.specs.Str.{IsAscii}
use Rattle.std.proofs.lemmas.Fmt.{length-decimal-le}
use Rattle.std.proofs.lemmas.Str.{IsUtf8-from_ascii, chars-IsAscii}
use Rattle.std.proofs.str.Utf16.{one_unit}
use Rattle.sspi_names.specs.declared.identity.AuthIdentity.{AuthIdentity}
use Rattle.sspi_names.specs.Equality.{ignoring_case-equiv}
use Rattle.sspi_names.specs.Identity.{buffers_of}
use Rattle.sspi_names.specs.Name.{Name}
use Rattle.sspi_names.specs.Utf16.{text_of, units_of}
use Rattle.sspi_names.proofs.CodeUnits.{text_of-units_of}
use Rattle.sspi_credssp.specs.Proxy.{entry_of}
use Rattle.sspi_names.specs.declared.kdc_table.KdcEntry.{KdcEntry}
use Rattle.sspi_names.specs.Kdcs.{url_of}
use Rattle.sspi_names.specs.Name.{domain_of}
use Rattle.sspi_names.specs.declared.network.NetworkRequest.{NetworkRequest}
use Rattle.sspi_mech.specs.declared.step.Reply.{Reply}
use Rattle.sspi_mech.specs.PlainKdc.{told_by}
use Rattle.sspi_tokens.specs.Oids.{kind_of}
use Rattle.sspi_negotiate.specs.declared.negotiate_config.NegotiateConfig.{NegotiateConfig}
use Rattle.sspi_negotiate.specs.declared.pick.Choice.TheVariants as choices
use Rattle.sspi_negotiate.specs.declared.protocol.Protocol.TheVariants as protocols
use Rattle.sspi_negotiate.specs.declared.protocol_config.ProtocolConfig.TheVariants as configs
use Rattle.sspi_negotiate.specs.Hand.{Configured}
use Rattle.sspi_negotiate.specs.Pick.{pick, offered}
use Rattle.sspi_negotiate.specs.Rows.{is_guest_text}
use Rattle.sspi_negotiate.specs.Rule.{url_for}
use Rattle.sspi_delegate.specs.declared.answer.Delegation.{Delegation}
use Rattle.sspi_delegate.specs.declared.answer.DelegateError.{DelegateError}
use Rattle.sspi_delegate.specs.declared.answer.DelegateError.TheVariants as errors
use Rattle.sspi_completeness.specs.Examples.{example_ntlm, example_target}
use Rattle.sspi_completeness.specs.Negotiating.{AreNegotiating, begins_with, messages_by}
use Rattle.sspi_completeness.proofs.Examples.{kerberos_ends, ntlm_ends}
use Rattle.sspi_completeness.specs.Matching.{HasEntry, IsShort, ComesToOkIn, IsCutShort}
use Rattle.sspi_tsreq.specs.declared.mode.CredSspMode.TheVariants.{WithCredentials}
use Rattle.sspi_scenario.specs.declared.scenario.Mode.{Mode}
use Rattle.sspi_scenario.specs.declared.scenario.Mode.TheVariants.{Ntlm, Negotiate}
use Rattle.sspi_scenario.specs.declared.scenario.Scenario.{Scenario}
use Rattle.sspi_scenario.specs.Numbered.{numbered, set_apart, usual, usual_at, mode_at, version_at, least_at, is_old, user_at}
use Rattle.sspi_scenario.specs.Numbered.{password_at, key_at, with_kerberos}
use Rattle.sspi_scenario.specs.Scenario.{own_identity}
use Rattle.sspi_scenario.proofs.Numbering.{lettered_ascii}
use Rattle.sspi_program.specs.declared.record.Record.{Record}
use Rattle.sspi_program.specs.declared.record.RunOutcome.{RunOutcome}
use Rattle.sspi_program.specs.declared.record.RunOutcome.TheVariants.{Delegated}
use Rattle.sspi_program.specs.Delegate.{HasExchange}
use Rattle.sspi_program.specs.Generate.{HasDelegated, IsFree, IsNumbered, messages_at}
use Rattle.sspi_program.specs.Outcome.{IsMatching, IsOutcome, messages_in, user_identity}
use Rattle.sspi_program.specs.Said.{delegated_status, status_of}

-- ---- the user of a number

-- an ASCII text has a code unit for each byte
ascii_units : (text : List ℕ) → IsAscii text → length (flat_map encode_utf16 text) ≡ length text
ascii_units [] ascii = refl
ascii_units (b ∷ text) ascii =
    let first : b < 128 = ascii 0 in
    let one : encode_utf16 b ≡ b ∷ [] = one_unit b (omega (arith, first)) in
    let more : length (flat_map encode_utf16 text) ≡ length text = ascii_units text (λ i. ascii (suc i)) in
    rw one (ap suc more)

units_length : (text : List ℕ) → IsAscii text → length (units_of text) ≡ length text
unfolding units_of
units_length text ascii = rw (chars-IsAscii text ascii) (ascii_units text ascii)

module _ (i : ℕ) (fits : i < 2 ^ 32) where
  short_number : length (decimal i) ≤ 10
  short_number = length-decimal-le 10 i (omega arith) (omega (arith, fits)) (omega (arith, fits))

  short_units : (letter : ℕ) → letter < 128 → length (units_of (letter ∷ decimal i)) ≤ 11
  short_units letter small =
      let units = units_length (letter ∷ decimal i) (lettered_ascii i fits letter small) in
      let few = short_number in
      omega (arith, units, few)

  short_user : IsShort (own_identity (user_at i) (password_at i))
  unfolding buffers_of
  short_user =
      let user = short_units 117 (omega arith) in
      let domain = short_units 68 (omega arith) in
      let password = short_units 112 (omega arith) in
      record {
        user_units = omega (arith, user);
        domain_units = omega (arith, domain);
        password_units = omega (arith, password);
      }

  no_guest : is_guest_text (text_of (buffers_of (own_identity (user_at i) (password_at i))).user) ≡ false
  unfolding buffers_of
  no_guest =
      rw (text_of-units_of (codes "u" ++ decimal i) (IsUtf8-from_ascii (117 ∷ decimal i) (lettered_ascii i fits 117 (omega arith)))) refl

-- a table that begins with an identity has it
own_entry : (identity : AuthIdentity) → HasEntry (identity ∷ []) identity
unfolding entry_of
own_entry identity = record {
  entry = identity;
  found = rw (ignoring_case-equiv.refl identity.username) refl;
  password = refl;
}

-- ---- a negotiation of NTLM

-- an empty table serves no domain
none_served : (domain : List ℕ) → url_of [] domain ≡ None
unfolding url_of
none_served domain = at (length domain == 0)
  where
    at : (b : Bool) → (if b then None else option_map (λ (entry : KdcEntry). entry.url) None) ≡ None
    at true = refl
    at false = refl

begins_ntlm : (ip : Bool) (domain : Option (List ℕ)) → protocols.Ntlm ≡ begins_with ip (record { ntlm = true; kerberos = true })
    protocols.Ntlm (url_for [] domain)
begins_ntlm true domain = refl
begins_ntlm false None = refl
begins_ntlm false (Some domain) =
    ap (λ (url : Option (List ℕ)). begins_with false (record { ntlm = true; kerberos = true }) protocols.Ntlm url)
    (sym (none_served domain))

picks_ntlm : pick (offered protocols.Ntlm (record { ntlm = true; kerberos = true })) (record { ntlm = true; kerberos = true })
    protocols.Ntlm ≡ Some (record { choice = choices.Ntlm; index = 0 })
unfolding kind_of
picks_ntlm = refl

-- a server that names no computer as its own
abbrev ntlm_server : List ℕ → NegotiateConfig
ntlm_server computer = record {
  protocol_config = configs.Ntlm (record { client_computer_name = None; challenge = replicate 8 0 });
  package_list = None;
  client_computer_name = computer;
  kdcs = [];
}

ntlm_negotiation : (told : Option (ℕ → NetworkRequest → Reply)) (identity : AuthIdentity) (computer : List ℕ) →
    is_guest_text (text_of (buffers_of identity).user) ≡ false →
    (ends : AreNegotiating told 0 (example_ntlm computer) (ntlm_server computer) example_target identity)
    × (messages_by ends.begins ends.picked.choice ≡ 4)
ntlm_negotiation told identity computer no_guest =
    let example = (ntlm_ends told 0 identity computer no_guest).0 in (
      record {
        client_hand = Configured (configs.Ntlm (record { client_computer_name = Some computer; challenge = replicate 8 0 }));
        server_hand = Configured (configs.Ntlm (record { client_computer_name = None; challenge = replicate 8 0 }));
        client_first = refl;
        server_first = refl;
        ip = example.ip;
        ip_is = example.ip_is;
        begins = protocols.Ntlm;
        begins_is = begins_ntlm example.ip (domain_of identity.username);
        picked = record { choice = choices.Ntlm; index = 0 };
        picks = picks_ntlm;
        needs = record { no_guest = no_guest; challenge = refl };
      },
      refl,
    )

-- ---- scenarios that match

-- a scenario whose ends match, with the number of messages that the client makes and may make
pub record Matches (messages limit : ℕ) (s : Scenario) : Type 0 where
  pub matching : IsMatching s
  pub made : messages_in s matching ≡ messages
  pub limited : s.turns ≡ limit
  pub delegates : s.delegation ≡ WithCredentials

module _ (version least : ℕ) (user : Name) (password key : List ℕ) (takes : least ≤ version) (short_key : length key ≡ 40)
    (short : IsShort (own_identity user password)) where
  by_ntlm : Matches 3 5 (usual Ntlm version least user password key)
  by_ntlm = record {
    matching = record {
      mode = refl;
      no_edit = refl;
      no_failure = refl;
      no_keytab = refl;
      key_same = refl;
      key_short = omega (arith, short_key);
      versions = refl;
      client_takes = takes;
      server_takes = takes;
      entry = own_entry (own_identity user password);
      short = short;
    };
    made = refl;
    limited = refl;
    delegates = refl;
  }

  by_few : Matches 3 2 (record (usual Ntlm version least user password key) { turns = 2 })
  by_few = record {
    matching = record {
      mode = refl;
      no_edit = refl;
      no_failure = refl;
      no_keytab = refl;
      key_same = refl;
      key_short = omega (arith, short_key);
      versions = refl;
      client_takes = takes;
      server_takes = takes;
      entry = own_entry (own_identity user password);
      short = short;
    };
    made = refl;
    limited = refl;
    delegates = refl;
  }

  by_negotiation : is_guest_text (text_of (buffers_of (own_identity user password)).user) ≡ false →
      Matches 4 5 (usual Negotiate version least user password key)
  by_negotiation no_guest =
      let ends = ntlm_negotiation (Some (told_by [] [])) (own_identity user password) (codes "CLIENT") no_guest in
      record {
        matching = record {
          mode = ends.0;
          no_edit = refl;
          no_failure = refl;
          no_keytab = refl;
          key_same = refl;
          key_short = omega (arith, short_key);
          versions = refl;
          client_takes = takes;
          server_takes = takes;
          entry = own_entry (own_identity user password);
          short = short;
        };
        made = ends.1;
        limited = refl;
        delegates = refl;
      }

  by_kerberos : Matches 4 5 (with_kerberos (usual Negotiate version least user password key))
  by_kerberos =
      let ends = kerberos_ends (own_identity user password) (codes "tcp://kdc") (replicate 32 0) (codes "CLIENT") refl in
      record {
        matching = record {
          mode = ends.0;
          no_edit = refl;
          no_failure = refl;
          no_keytab = refl;
          key_same = refl;
          key_short = omega (arith, short_key);
          versions = refl;
          client_takes = takes;
          server_takes = takes;
          entry = own_entry (own_identity user password);
          short = short;
        };
        made = ends.1;
        limited = refl;
        delegates = refl;
      }

-- ---- the scenario of a number

takes_at : (old : Bool) → (if old then 4 else 5) ≤ (if old then 4 else 6)
takes_at true = omega arith
takes_at false = omega arith

long_key : (i : ℕ) → length (key_at i) ≡ 40
long_key i = refl

module _ (i : ℕ) (fits : i < 2 ^ 32) where
  even_mode : i % 2 ≡ 0 → mode_at i ≡ Ntlm
  even_mode even = rw even refl

  odd_mode : i % 2 ≡ 1 → mode_at i ≡ Negotiate
  odd_mode odd = rw odd refl

  abbrev as_in : Mode → Scenario
  as_in mode = usual mode (version_at i) (least_at i) (user_at i) (password_at i) (key_at i)

  apart_at : (remainder : ℕ) (mode : Mode) → i % 8 ≡ remainder → mode_at i ≡ mode → numbered i ≡ set_apart remainder (as_in mode)
  apart_at remainder mode e is =
      ap (λ (r : ℕ). set_apart r (usual_at i)) e ∙ ap (λ (m : Mode). set_apart remainder (as_in m)) is

  even_messages : i % 2 ≡ 0 → messages_at i ≡ 3
  even_messages even = rw even refl

  odd_messages : i % 2 ≡ 1 → messages_at i ≡ 4
  odd_messages odd = rw odd refl

  matches_ntlm : (remainder : ℕ) → i % 8 ≡ remainder → i % 2 ≡ 0 → set_apart remainder (as_in Ntlm) ≡ as_in Ntlm →
      Matches (messages_at i) 5 (numbered i)
  matches_ntlm remainder e even stays =
      rw (even_messages even) (subst (Matches 3 5) (sym (apart_at remainder Ntlm e (even_mode even) ∙ stays))
      (by_ntlm (version_at i) (least_at i) (user_at i) (password_at i) (key_at i) (takes_at (is_old i)) (long_key i) (short_user i fits)))

  matches_negotiation : i % 8 ≡ 1 → i % 2 ≡ 1 → Matches (messages_at i) 5 (numbered i)
  matches_negotiation e odd =
      rw (odd_messages odd) (subst (Matches 4 5) (sym (apart_at 1 Negotiate e (odd_mode odd)))
      (by_negotiation (version_at i) (least_at i) (user_at i) (password_at i) (key_at i) (takes_at (is_old i)) (long_key i)
      (short_user i fits) (no_guest i fits)))

  matches_kerberos : i % 8 ≡ 5 → i % 2 ≡ 1 → Matches (messages_at i) 5 (numbered i)
  matches_kerberos e odd =
      rw (odd_messages odd) (subst (Matches 4 5) (sym (apart_at 5 Negotiate e (odd_mode odd)))
      (by_kerberos (version_at i) (least_at i) (user_at i) (password_at i) (key_at i) (takes_at (is_old i)) (long_key i)
      (short_user i fits)))

  matches_free : IsFree i → Matches (messages_at i) 5 (numbered i)
  matches_free (inl e) = matches_ntlm 0 e (omega (arith, e)) refl
  matches_free (inr (inl e)) = matches_negotiation e (omega (arith, e))
  matches_free (inr (inr (inl e))) = matches_ntlm 2 e (omega (arith, e)) refl
  matches_free (inr (inr (inr e))) = matches_kerberos e (omega (arith, e))

  matches_few : i % 8 ≡ 4 → Matches 3 2 (numbered i)
  matches_few e =
      subst (Matches 3 2) (sym (apart_at 4 Ntlm e (even_mode (omega (arith, e)))))
      (by_few (version_at i) (least_at i) (user_at i) (password_at i) (key_at i) (takes_at (is_old i)) (long_key i) (short_user i fits))

-- ---- what the exchange comes to

delegated_in : (messages : ℕ) (identity : AuthIdentity) (answer : Result Delegation DelegateError) → ComesToOkIn messages identity answer →
    IsSome (delegated_status answer) → HasDelegated messages identity (Delegated answer)
delegated_in messages identity (Ok delegation) comes memory = comes
delegated_in messages identity (Err (errors.Client error)) comes memory = comes
delegated_in messages identity (Err (errors.Server error)) comes memory = comes
delegated_in messages identity (Err (errors.Read to kind)) comes memory = comes
delegated_in messages identity (Err (errors.Write from)) comes memory = comes
delegated_in messages identity (Err errors.LinkFault) comes memory = comes
delegated_in messages identity (Err errors.TurnsSpent) comes memory = comes
delegated_in messages identity (Err errors.InsufficientMemory) comes memory = absurd cc

cut_in : (answer : Result Delegation DelegateError) → IsCutShort answer → IsSome (delegated_status answer) →
    Delegated answer ≡ Delegated (Err errors.TurnsSpent)
cut_in (Ok delegation) short memory = absurd short
cut_in (Err (errors.Client error)) short memory = absurd short
cut_in (Err (errors.Server error)) short memory = absurd short
cut_in (Err (errors.Read to kind)) short memory = absurd short
cut_in (Err (errors.Write from)) short memory = absurd short
cut_in (Err errors.LinkFault) short memory = absurd short
cut_in (Err errors.TurnsSpent) short memory = refl
cut_in (Err errors.InsufficientMemory) short memory = absurd cc

module _ (s : Scenario) (answer : Result Delegation DelegateError) (comes : IsOutcome s answer)
    (memory : IsSome (delegated_status answer)) where
  delegated_by : (messages limit : ℕ) → Matches messages limit s → messages ≤ limit →
      HasDelegated messages (user_identity s) (Delegated answer)
  delegated_by messages limit matches enough =
      let all : messages_in s matches.matching ≤ s.turns = omega (arith, matches.made, matches.limited, enough) in
      let came = comes.comes matches.matching all in
      delegated_in messages (user_identity s) answer (rw (matches.made, matches.delegates) at came) memory

  cut_by : (messages limit : ℕ) → Matches messages limit s → limit < messages → Delegated answer ≡ Delegated (Err errors.TurnsSpent)
  cut_by messages limit matches few =
      let less : s.turns < messages_in s matches.matching = omega (arith, matches.made, matches.limited, few) in
      cut_in answer (comes.short matches.matching less) memory

few_messages : (i : ℕ) → messages_at i ≤ 5
few_messages i = at ((i % 2) == 0)
  where
    at : (even : Bool) → (if even then 3 else 4) ≤ 5
    at true = omega arith
    at false = omega arith

module _ (i : ℕ) (fits : i < 2 ^ 32) (r : Record) (is : r.scenario ≡ numbered i) (has : HasExchange r)
    (memory : IsSome (status_of r.outcome)) where
  outcome : IsOutcome (numbered i) has.exchange.answer
  outcome = subst (λ (s : Scenario). IsOutcome s has.exchange.answer) is has.comes

  answered : IsSome (delegated_status has.exchange.answer)
  answered = subst (λ (o : RunOutcome). IsSome (status_of o)) has.exchange.outcome_is memory

  pub numbered_exchange : IsNumbered i r
  numbered_exchange = record {
    scenario_is = is;
    exchange = has;
    had_memory = memory;
    free = λ f. subst (λ (o : RunOutcome). HasDelegated (messages_at i) (user_identity (numbered i)) o) (sym has.exchange.outcome_is)
        (delegated_by (numbered i) has.exchange.answer outcome answered (messages_at i) 5 (matches_free i fits f) (few_messages i));
    spent = λ e. has.exchange.outcome_is
        ∙ cut_by (numbered i) has.exchange.answer outcome answered 3 2 (matches_few i fits e) (omega arith);
  }

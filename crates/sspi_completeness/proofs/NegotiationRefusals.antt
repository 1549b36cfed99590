-- The steps of a negotiation refuse nothing as `DowngradeDetected`, if its mechanisms do not.
use Rattle.std.proofs.Common.{◌≢◌, ◌&&◌, ℕ, filter, take, Bool, true, false, Option, Ok}
use Rattle.std.proofs.Common.{refl, sym, subst, if◌then◌else◌}
use Rattle.sspi_types.specs.declared.credential_use.CredentialUse.{CredentialUse}
use Rattle.sspi_types.specs.declared.error.Error.{Error}
use Rattle.sspi_types.specs.declared.error_kind.ErrorKind.{ErrorKind}
use Rattle.sspi_types.specs.declared.error_kind.ErrorKind.TheVariants.{DowngradeDetected, InternalError, NoCredentials}
use Rattle.sspi_names.specs.declared.credentials.Credentials.{Credentials}
use Rattle.sspi_mech.specs.declared.step.Answer.{Answer}
use Rattle.sspi_mech.specs.declared.step.Answer.TheVariants.{Done, Ask, Refused}
use Rattle.sspi_mech.specs.Calls.{Call, StepArgs, AcceptArgs, ToAcquire, ToName, ToIdentify, ToComplete, ToSeal, ToUnseal, ToSign}
use Rattle.sspi_mech.specs.Calls.{ToVerify, ToDescribe, ToShowKey}
use Rattle.sspi_mech.specs.Meaning.{Meaning}
use Rattle.sspi_mech.specs.Settings.{Setting}
use Rattle.sspi_mech.specs.Sum.{sum, taking}
use Rattle.sspi_mech.specs.NtlmIdentities.{has_password}
use Rattle.sspi_credssp.specs.Context.{NeverRefuses}
use Rattle.sspi_negotiate.specs.declared.negotiate_config.NegotiateConfig.{NegotiateConfig}
use Rattle.sspi_negotiate.specs.declared.package_list.PackageListConfig.{PackageListConfig}
use Rattle.sspi_negotiate.specs.declared.protocol.NegotiatedProtocol.{NegotiatedProtocol}
use Rattle.sspi_negotiate.specs.declared.protocol_config.ProtocolConfig.{ProtocolConfig}
use Rattle.sspi_negotiate.specs.declared.protocol_config.ProtocolConfig.TheVariants as configs
use Rattle.sspi_negotiate.specs.declared.state.Role.{Role}
use Rattle.sspi_negotiate.specs.declared.state.Role.TheVariants.{Client, Server}
use Rattle.sspi_negotiate.specs.Acquire.{is_outbound, lacks, RefusedBy}
use Rattle.sspi_negotiate.specs.Does.{Does}
use Rattle.sspi_negotiate.specs.Hand.{Origin, Configured, configured, hand, hand_of, as_sum, of_sum}
use Rattle.sspi_negotiate.specs.Negotiate.{negotiate}
use Rattle.sspi_negotiate.specs.New.{NegotiateSetting, ForClient, ForServer, packages_in, without_ntlm, without_kerberos, first_by}
use Rattle.sspi_negotiate.specs.New.{IsUnmade, UnmadeOf}
use Rattle.sspi_negotiate.specs.Plan.{Plan}
use Rattle.sspi_negotiate.specs.Values.{Values, Negotiation, values_of}
use Rattle.sspi_negotiate.proofs.ClientLeads.{StepCases, ClientCases, client_leads, resumed_leads}
use Rattle.sspi_negotiate.proofs.Leads.{Leads, IsOwn, bad_token, bad_order, bad_handle, unwritten, nobody}
use Rattle.sspi_negotiate.proofs.Leads.{Comes, by_itself, by_step, by_resume, by_accept, by_call}
use Rattle.sspi_negotiate.proofs.ServerLeads.{ServerCases, server_leads}
use Rattle.sspi_completeness.proofs.NeverRefusing.{sum_never, taking_never, seen_never}

abbrev IsOther : ErrorKind → Type 0
IsOther kind = kind ≢ DowngradeDetected

-- a step is refused so only if its mechanism refuses so
abbrev Any : Values → Type 0
Any v = Unit {0}

abbrev Spares : {M : Type 0} → M → Answer → Values → Type 0
Spares m (Done step) v = Unit {0}
Spares m (Ask request) v = Unit {0}
Spares m (Refused error) v = IsOther error.error_type

own_so : (kind : ErrorKind) → IsOwn kind → IsOther kind
own_so kind (bad_token is) = λ e. absurd (cc (is, e))
own_so kind (bad_order is) = λ e. absurd (cc (is, e))
own_so kind (bad_handle is) = λ e. absurd (cc (is, e))
own_so kind (unwritten is) = λ e. absurd (cc (is, e))
own_so kind (nobody is) = λ e. absurd (cc (is, e))

module _ {M : Type 0} (c : Meaning Origin M) (never : NeverRefuses c DowngradeDetected) where
  comes_so : (kind : ErrorKind) → Comes c kind → IsOther kind
  comes_so kind (by_itself own) = own_so kind own
  comes_so kind (by_step m m2 args error h is) = subst IsOther is (never.steps m m2 args error h)
  comes_so kind (by_resume m m2 reply error h is) = subst IsOther is (never.resumes m m2 reply error h)
  comes_so kind (by_accept m m2 args error h is) = subst IsOther is (never.accepts m m2 args error h)
  comes_so kind (by_call m call h) = λ is. never.calls m call (subst (c.refuses m call) is h)

  steps_spare : StepCases c Spares Any Any
  steps_spare = record {
    after = record {
      offers = λ m v token text is g. tt;
      unopened = λ m v branch error comes g. comes_so error.error_type comes;
      refuses = λ m v branch error comes g. comes_so error.error_type comes;
      goes_on = λ m v step on g. tt;
      hands_mic = λ m v output g. tt;
      is_over = λ m v output why g. tt;
    };
    opening = λ m v first q g. tt;
    falls = λ v usable g. tt;
    answering = λ m v token q g. tt;
  }

  client_spares : (args : StepArgs) → ClientCases c args Spares Any Any Any
  client_spares args = record {
    step = steps_spare;
    addressed = λ v usable g. tt;
    kept = λ v kept g. tt;
    ruled = λ v usable g. tt;
    unready = λ m v error comes g. comes_so error.error_type comes;
    opens = λ v at g. tt;
    unchosen = λ v at chosen g. tt;
    kerberos = λ v at chosen usable held g. tt;
    to_kerberos = λ v at chosen usable g. tt;
    to_ntlm = λ v at chosen usable g. tt;
    confirms = λ v at g. tt;
  }

  server_spares : (args : AcceptArgs) → ServerCases c args Spares Any (λ p. Any) Any
  server_spares args = record {
    unready = λ m v error comes g. comes_so error.error_type comes;
    chooses = λ v token list p hand at read listed is taken g. tt;
    unpicked = λ m v p error comes g. comes_so error.error_type comes;
    tells = λ m v p output need state late still is g. tt;
    at_once = λ m v p output b at none g. tt;
    later = λ v late still g. tt;
    refuses = λ m v error comes g. comes_so error.error_type comes;
    goes_on = λ m v step on g. tt;
    hands_mic = λ m v output g. tt;
    ends = λ m v output why g. tt;
    excuses = λ m v output guest g. tt;
  }

  refused_so : (m : M) (error : Error) → Comes c error.error_type → IsOther error.error_type
  refused_so m error comes = comes_so error.error_type comes

-- ---- a negotiation

module _ {N K : Type 0} (n : Meaning Setting N) (k : Meaning Setting K) (first : NeverRefuses n DowngradeDetected)
    (second : NeverRefuses k DowngradeDetected) where
  hand_never : NeverRefuses (hand n k) DowngradeDetected
  hand_never = seen_never configured as_sum of_sum (sum (taking (filter has_password) n) (taking (take 1) k)) DowngradeDetected
      (sum_never (taking (filter has_password) n) (taking (take 1) k) DowngradeDetected
      (taking_never (filter has_password) n DowngradeDetected first) (taking_never (take 1) k DowngradeDetected second))

  steps_so : (p : Plan) (s s2 : Negotiation (NegotiatedProtocol N K)) (error : Error) → Leads (hand n k) Spares p s.mech →
      Does n k p s (Refused error) s2 → IsOther error.error_type
  steps_so p s s2 error leads does = λ is.
      leads.ends s2.mech (Refused error) (values_of s2) (does.as_planned (λ memory. absurd (cc (is, memory)))) is

  other_without : (config : NegotiateConfig) (o : ProtocolConfig) (b d : Bool) (kind : ErrorKind) →
      IsUnmade (if b then Ok (Configured o) else without_kerberos config d) kind → IsOther kind
  other_without config o true d kind h = absurd h
  other_without config o false false kind h = subst IsOther h (own_so NoCredentials (nobody refl))
  other_without config o false true kind h = absurd h

  other_first : (role : Role) (config : NegotiateConfig) (o : ProtocolConfig) (packages : PackageListConfig) (kind : ErrorKind) →
      IsUnmade (first_by role config o packages) kind → IsOther kind
  other_first role config (configs.Ntlm ntlm) packages kind h = at role packages.ntlm packages.kerberos h
    where
      at : (role : Role) (b d : Bool) → IsUnmade (if b then Ok (Configured (configs.Ntlm ntlm)) else without_ntlm role config d) kind →
          IsOther kind
      at role true d h = absurd h
      at role false false h = subst IsOther h (own_so NoCredentials (nobody refl))
      at Client false true h = absurd h
      at Server false true h = subst IsOther h (own_so InternalError (unwritten refl))
  other_first role config (configs.Kerberos kerberos) packages kind h =
      other_without config (configs.Kerberos kerberos) packages.kerberos packages.ntlm kind h
  other_first role config (configs.KerberosServer kerberos server) packages kind h =
      other_without config (configs.KerberosServer kerberos server) packages.kerberos packages.ntlm kind h

  unmade_so : (s : NegotiateSetting) → UnmadeOf s DowngradeDetected → ⊥
  unmade_so (ForClient config) h = other_first Client config config.protocol_config (packages_in config) DowngradeDetected h refl
  unmade_so (ForServer config known) h = other_first Server config config.protocol_config (packages_in config) DowngradeDetected h refl

  acquires_so : (b : Bool) (s : Negotiation (NegotiatedProtocol N K)) (use_of : CredentialUse) (asked : Option Credentials) →
      RefusedBy n k b s use_of asked DowngradeDetected → ⊥
  acquires_so true s use_of asked h = own_so NoCredentials (nobody refl) (sym h)
  acquires_so false s use_of asked h = hand_never.calls h.0 (ToAcquire use_of asked) h.2

  calls_so : (requests : ℕ) (s : Negotiation (NegotiatedProtocol N K)) (call : Call) →
      (negotiate requests n k).refuses s call DowngradeDetected → ⊥
  calls_so requests s (ToAcquire use_of asked) h = acquires_so (is_outbound use_of && lacks (hand_of s.mech) asked) s use_of asked h
  calls_so requests s ToDescribe h = h
  calls_so requests s ToName h = hand_never.calls s.mech ToName h
  calls_so requests s (ToIdentify identities) h = hand_never.calls s.mech (ToIdentify identities) h
  calls_so requests s ToComplete h = hand_never.calls s.mech ToComplete h
  calls_so requests s (ToSeal text) h = hand_never.calls s.mech (ToSeal text) h
  calls_so requests s (ToUnseal blob) h = hand_never.calls s.mech (ToUnseal blob) h
  calls_so requests s (ToSign text) h = hand_never.calls s.mech (ToSign text) h
  calls_so requests s (ToVerify mic text) h = hand_never.calls s.mech (ToVerify mic text) h
  calls_so requests s ToShowKey h = hand_never.calls s.mech ToShowKey h

  pub negotiate_never : (requests : ℕ) → NeverRefuses (negotiate requests n k) DowngradeDetected
  negotiate_never requests = record {
    makes = unmade_so;
    calls = calls_so requests;
    steps = λ s s2 args error h. steps_so _ s s2 error (client_leads (hand n k) args Spares Any Any Any
        (client_spares (hand n k) hand_never args) h.ip (values_of s) s.mech (refused_so (hand n k) hand_never) (λ opened. tt))
        h.moves.follows;
    resumes = λ s s2 reply error h. steps_so _ s s2 error (resumed_leads (hand n k) Spares Any Any (steps_spare (hand n k) hand_never)
        (values_of s) reply s.mech (refused_so (hand n k) hand_never) (λ first is. tt) (λ token is. tt)) h.follows;
    accepts = λ s s2 args error h. steps_so _ s s2 error (server_leads (hand n k) args Spares Any (λ p. Any) Any
        (server_spares (hand n k) hand_never args) (values_of s) s.mech tt) h.moves.follows;
  }

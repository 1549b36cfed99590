-- How the contexts of negotiations begin: the selected mechanism, and what comes before each step of a client.
use Rattle.std.proofs.Common.{◌≡◌, ◌&&◌, ◌||◌, Bool, true, false, List, [], ℕ, Option, None, Some, Result, Ok, refl, ap}
use Rattle.std.proofs.Common.{◌∙◌, subst, if◌then◌else◌, is_some, replicate}
use Rattle.sspi_types.specs.declared.credential_use.CredentialUse.TheVariants.{Inbound, Outbound}
use Rattle.sspi_types.specs.declared.error_kind.ErrorKind.{ErrorKind}
use Rattle.sspi_types.specs.declared.error_kind.ErrorKind.TheVariants.{OutOfSequence}
use Rattle.sspi_names.specs.Identity.{IsIdentity, buffers_of}
use Rattle.sspi_names.specs.Name.{Name, domain_of}
use Rattle.sspi_names.specs.declared.credentials.Credentials.TheVariants as credentials
use Rattle.sspi_names.specs.declared.credentials.CredentialsBuffers.{CredentialsBuffers}
use Rattle.sspi_names.specs.declared.credentials.CredentialsBuffers.TheVariants as buffers
use Rattle.sspi_names.specs.declared.identity.AuthIdentity.{AuthIdentity}
use Rattle.sspi_names.proofs.Identities.{buffers_back}
use Rattle.sspi_mech.specs.declared.kerberos.realms.Realms.{Realms}
use Rattle.sspi_mech.specs.Calls.{StepArgs, ToAcquire}
use Rattle.sspi_mech.specs.Kerberos.{kerberos_with}
use Rattle.sspi_mech.specs.KerberosLogon.{url_by}
use Rattle.sspi_mech.specs.Ntlm.{ntlm_with}
use Rattle.sspi_negotiate.specs.declared.branch.Branch.TheVariants.{Idle}
use Rattle.sspi_negotiate.specs.declared.negotiate_config.NegotiateConfig.{NegotiateConfig}
use Rattle.sspi_negotiate.specs.declared.package_list.PackageListConfig.{PackageListConfig}
use Rattle.sspi_negotiate.specs.declared.protocol.NegotiatedProtocol.TheVariants as hands
use Rattle.sspi_negotiate.specs.declared.protocol.Protocol.{Protocol}
use Rattle.sspi_negotiate.specs.declared.protocol.Protocol.TheVariants.{Ntlm, Kerberos}
use Rattle.sspi_negotiate.specs.declared.protocol_config.ProtocolConfig.{ProtocolConfig}
use Rattle.sspi_negotiate.specs.declared.protocol_config.ProtocolConfig.TheVariants as configs
use Rattle.sspi_negotiate.specs.declared.state.NegotiateState.{NegotiateState}
use Rattle.sspi_negotiate.specs.declared.state.Role.{Role}
use Rattle.sspi_negotiate.specs.declared.state.Role.TheVariants.{Client}
use Rattle.sspi_negotiate.specs.Client.{is_closed, spnego_client, by_target, with_handle, converts, passwords_of, keeps, ruled, client_at}
use Rattle.sspi_negotiate.specs.Hand.{Origin, Configured, InPlaceOfNtlm, hand_of, is_ntlm_hand, is_kerberos_hand, in_place_of_kerberos}
use Rattle.sspi_negotiate.specs.New.{IsFirst, first_in_hand, first_by, without_ntlm, without_kerberos, packages_in}
use Rattle.sspi_negotiate.specs.Plan.{Plan, Stops}
use Rattle.sspi_negotiate.specs.Rows.{in_ntlm}
use Rattle.sspi_negotiate.specs.Rule.{url_for, TakenBy}
use Rattle.sspi_negotiate.specs.Values.{Values}
use Rattle.sspi_completeness.specs.Negotiating.{protocol_of, begins_with, kdc_url, challenge_of, ticket_of}
use Rattle.sspi_completeness.proofs.Runs.{M, h, runs, made_of, made_is}

-- ---- the selected mechanism

pub hand_is : (o : Origin) → hand_of (made_of o) ≡ protocol_of o
hand_is (Configured (configs.Ntlm config)) = refl
hand_is (Configured (configs.Kerberos config)) = refl
hand_is (Configured (configs.KerberosServer config server)) = refl
hand_is (InPlaceOfNtlm url kdcs computer) = refl

pub first_is : (origin : Origin) (o : Result Origin ErrorKind) (m : M) → o ≡ Ok origin → IsFirst h o m → m ≡ made_of origin
first_is origin o m is first = made_is origin m (subst (λ (x : Result Origin ErrorKind). IsFirst h x m) is first)

-- Kerberos takes the place of NTLM if a KDC serves the domain of the client's name
abbrev pub taken : Option (List ℕ) → NegotiateConfig → Origin → Origin
taken None config origin = origin
taken (Some url) config origin = InPlaceOfNtlm (Some url) config.kdcs config.client_computer_name

abbrev pub served : Protocol → PackageListConfig → Option (List ℕ) → Option (List ℕ)
served protocol packages url = if is_ntlm_hand protocol && packages.kerberos then url else None

pub taken_is : (url : Option (List ℕ)) (config : NegotiateConfig) (o : Origin) (m : M) →
    TakenBy h url config.kdcs config.client_computer_name (made_of o) m → m ≡ made_of (taken url config o)
taken_is None config o m it = it
taken_is (Some url) config o m it = made_is (InPlaceOfNtlm (Some url) config.kdcs config.client_computer_name) m it

abbrev pub handle_of : AuthIdentity → Option CredentialsBuffers
handle_of i = Some (buffers.AuthIdentity (buffers_of i))

-- a client acquires the buffers of its identity, and a server nothing
pub acquires_so : (m m2 : M) (i : AuthIdentity) (g : Option CredentialsBuffers) →
    h.acquires m Outbound (Some (credentials.AuthIdentity i)) g m2 → (g ≡ handle_of i) × (m2 ≡ m)
acquires_so (hands.Ntlm m) (hands.Ntlm m2) i g it = (let e = it.0 in cc, ap hands.Ntlm it.1)
acquires_so (hands.Kerberos m) (hands.Kerberos m2) i g it = (let e = it.0 in cc, ap hands.Kerberos it.1)
acquires_so (hands.Ntlm m) (hands.Kerberos m2) i g it = absurd it
acquires_so (hands.Kerberos m) (hands.Ntlm m2) i g it = absurd it

pub acquires_none : (m m2 : M) (g : Option CredentialsBuffers) → h.acquires m Inbound None g m2 → (g ≡ None) × (m2 ≡ m)
acquires_none (hands.Ntlm m) (hands.Ntlm m2) g it = (let e = it.0 in cc, ap hands.Ntlm it.1)
acquires_none (hands.Kerberos m) (hands.Kerberos m2) g it = (let e = it.0 in cc, ap hands.Kerberos it.1)
acquires_none (hands.Ntlm m) (hands.Kerberos m2) g it = absurd it
acquires_none (hands.Kerberos m) (hands.Ntlm m2) g it = absurd it

pub never_unacquired : (m : M) (i : AuthIdentity) (kind : ErrorKind) →
    h.refuses m (ToAcquire Outbound (Some (credentials.AuthIdentity i))) kind → ⊥
never_unacquired (hands.Ntlm m) i kind refuses = cc (refuses)
never_unacquired (hands.Kerberos m) i kind refuses = cc (refuses)

pub never_unserved : (m : M) (kind : ErrorKind) → h.refuses m (ToAcquire Inbound None) kind → ⊥
never_unserved (hands.Ntlm m) kind refuses = cc (refuses)
never_unserved (hands.Kerberos m) kind refuses = cc (refuses)

-- ---- what a client begins with

-- a target named by its IP address, if NTLM may be used, selects NTLM and rules out Kerberos
abbrev pub hand_first : Bool → Protocol → Protocol
hand_first true protocol = Ntlm
hand_first false protocol = protocol

abbrev pub packages_first : Bool → PackageListConfig → PackageListConfig
packages_first true packages = record packages { kerberos = false }
packages_first false packages = packages

abbrev pub object_first : Bool → Protocol → List ℕ → M → M
object_first true Ntlm computer m = m
object_first true Kerberos computer m = made_of (in_place_of_kerberos computer)
object_first false protocol computer m = m

abbrev by_url : Option (List ℕ) → Protocol → Protocol
by_url None protocol = protocol
by_url (Some url) protocol = Kerberos

taken_hand : (url : Option (List ℕ)) (config : NegotiateConfig) (o : Origin) → protocol_of (taken url config o) ≡ by_url url (protocol_of o)
taken_hand None config o = refl
taken_hand (Some url) config o = refl

by_served : (p : Protocol) (k : Bool) (u : Option (List ℕ)) →
    by_url (if is_ntlm_hand p && k then u else None) p ≡ (if is_kerberos_hand p || (k && is_some u) then Kerberos else Ntlm)
by_served Ntlm true (Some url) = refl
by_served Ntlm true None = refl
by_served Ntlm false u = refl
by_served Kerberos k u = refl

pub begins_same : (ip : Bool) (packages : PackageListConfig) (config : NegotiateConfig) (o : Origin) (url : Option (List ℕ)) →
    hand_first (ip && packages.ntlm) (hand_of (made_of (taken (served (protocol_of o) packages url) config o)))
    ≡ begins_with ip packages (protocol_of o) url
begins_same ip packages config o url = at (ip && packages.ntlm)
  where
    at : (b : Bool) → hand_first b (hand_of (made_of (taken (served (protocol_of o) packages url) config o)))
        ≡ (if b then Ntlm else if is_kerberos_hand (protocol_of o) || (packages.kerberos && is_some url) then Kerberos else Ntlm)
    at true = refl
    at false =
        hand_is (taken (served (protocol_of o) packages url) config o)
        ∙ taken_hand (served (protocol_of o) packages url) config o ∙ by_served (protocol_of o) packages.kerberos url

-- nothing is left to be taken
none_left : (p : Protocol) (k : Bool) (u : Option (List ℕ)) →
    (if is_ntlm_hand (by_url (if is_ntlm_hand p && k then u else None) p) && k then u else None) ≡ None
none_left Ntlm true (Some url) = refl
none_left Ntlm true None = refl
none_left Ntlm false u = refl
none_left Kerberos k u = refl

pub never_again : (packages : PackageListConfig) (config : NegotiateConfig) (o : Origin) (url : Option (List ℕ)) →
    served (hand_of (made_of (taken (served (protocol_of o) packages url) config o))) packages url ≡ None
never_again packages config o url =
    ap (λ (q : Protocol). served q packages url) (hand_is (taken (served (protocol_of o) packages url) config o)
    ∙ taken_hand (served (protocol_of o) packages url) config o)
    ∙ none_left (protocol_of o) packages.kerberos url

-- an NTLM with some challenge
pub ntlm_begins : (b : Bool) (o : Origin) (computer : List ℕ) → hand_first b (hand_of (made_of o)) ≡ Ntlm →
    (own : List ℕ) × (object_first b (hand_of (made_of o)) computer (made_of o) ≡ hands.Ntlm (ntlm_with own))
ntlm_begins true (Configured (configs.Ntlm config)) computer is = (config.challenge, refl)
ntlm_begins true (Configured (configs.Kerberos config)) computer is = (replicate 8 0, refl)
ntlm_begins true (Configured (configs.KerberosServer config server)) computer is = (replicate 8 0, refl)
ntlm_begins true (InPlaceOfNtlm url kdcs own) computer is = (replicate 8 0, refl)
ntlm_begins false (Configured (configs.Ntlm config)) computer is = (config.challenge, refl)
ntlm_begins false (Configured (configs.Kerberos config)) computer is = absurd cc
ntlm_begins false (Configured (configs.KerberosServer config server)) computer is = absurd cc
ntlm_begins false (InPlaceOfNtlm url kdcs own) computer is = absurd cc

-- or a Kerberos with a URL
pub record BeginsByKerberos (b : Bool) (packages : PackageListConfig) (name : Name) (url : Option (List ℕ)) (m : M) : Type 0 where
  pub realms : Realms
  pub ticket : Option (List ℕ)
  pub object : m ≡ hands.Kerberos (kerberos_with realms.kdc_url realms.kdcs ticket)
  pub url_is : url_by realms.kdc_url realms.kdcs name ≡ url
  pub aside : b ≡ false

pub kerberos_begins : (b : Bool) (packages : PackageListConfig) (config : NegotiateConfig) (o : Origin) (name : Name) →
    hand_first b (hand_of (made_of (taken (served (protocol_of o) packages (url_for config.kdcs (domain_of name))) config o))) ≡ Kerberos →
    BeginsByKerberos b packages name (kdc_url config o name)
    (made_of (taken (served (protocol_of o) packages (url_for config.kdcs (domain_of name))) config o))
kerberos_begins true packages config o name is = absurd cc
kerberos_begins false packages config (Configured (configs.Kerberos k)) name is =
    record { realms = record { kdc_url = k.kdc_url; kdcs = k.kdcs }; ticket = None; object = refl; url_is = refl; aside = refl }
kerberos_begins false packages config (Configured (configs.KerberosServer k server)) name is =
    record { realms = record { kdc_url = k.kdc_url; kdcs = k.kdcs }; ticket = server.ticket; object = refl; url_is = refl; aside = refl }
kerberos_begins false packages config (InPlaceOfNtlm url kdcs computer) name is =
    record { realms = record { kdc_url = url; kdcs = kdcs }; ticket = None; object = refl; url_is = refl; aside = refl }
kerberos_begins false packages config (Configured (configs.Ntlm ntlm)) name is =
    at packages.kerberos (url_for config.kdcs (domain_of name)) is
  where
    at : (k : Bool) (url : Option (List ℕ)) →
        hand_of (made_of (taken (if k then url else None) config (Configured (configs.Ntlm ntlm)))) ≡ Kerberos →
        BeginsByKerberos false packages name url (made_of (taken (if k then url else None) config (Configured (configs.Ntlm ntlm))))
    at true (Some url) is = record {
      realms = record { kdc_url = Some url; kdcs = config.kdcs };
      ticket = None;
      object = refl;
      url_is = refl;
      aside = refl;
    }
    at true None is = absurd cc
    at false url is = absurd cc

-- an end with Kerberos selected may use it
pub may_kerberos : (role : Role) (config : NegotiateConfig) (pc : ProtocolConfig) (packages : PackageListConfig) (o : Origin) →
    first_by role config pc packages ≡ Ok o → protocol_of o ≡ Kerberos → packages.kerberos ≡ true
may_kerberos role config (configs.Ntlm ntlm) packages o first is = at role packages.ntlm packages.kerberos first
  where
    at : (role : Role) (b d : Bool) → (if b then Ok (Configured (configs.Ntlm ntlm)) else without_ntlm role config d) ≡ Ok o → d ≡ true
    at role true d first = absurd (let e : Configured (configs.Ntlm ntlm) ≡ o = cc in cc (e, is))
    at role false true first = refl
    at role false false first = absurd cc
may_kerberos role config (configs.Kerberos kerberos) packages o first is = at packages.kerberos packages.ntlm first
  where
    at : (b d : Bool) → (if b then Ok (Configured (configs.Kerberos kerberos)) else without_kerberos config d) ≡ Ok o → b ≡ true
    at true d first = refl
    at false true first = absurd (let e : in_place_of_kerberos config.client_computer_name ≡ o = cc in cc (e, is))
    at false false first = absurd cc
may_kerberos role config (configs.KerberosServer kerberos server) packages o first is = at packages.kerberos packages.ntlm first
  where
    at : (b d : Bool) → (if b then Ok (Configured (configs.KerberosServer kerberos server)) else without_kerberos config d) ≡ Ok o → b ≡
        true
    at true d first = refl
    at false true first = absurd (let e : in_place_of_kerberos config.client_computer_name ≡ o = cc in cc (e, is))
    at false false first = absurd cc

-- a client that begins with Kerberos may use it
allowed : (b : Bool) (p : Protocol) (k : Bool) (u : Option (List ℕ)) → (p ≡ Kerberos → k ≡ true) →
    (if b then Ntlm else if is_kerberos_hand p || (k && is_some u) then Kerberos else Ntlm) ≡ Kerberos → k ≡ true
allowed true p k u may begins = absurd (cc (begins))
allowed false Kerberos k u may begins = may refl
allowed false Ntlm true u may begins = refl
allowed false Ntlm false u may begins = absurd (cc (begins))

pub begins_allowed : (ip : Bool) (config : NegotiateConfig) (o : Origin) (url : Option (List ℕ)) → first_in_hand Client config ≡ Ok o →
    begins_with ip (packages_in config) (protocol_of o) url ≡ Kerberos → (packages_in config).kerberos ≡ true
begins_allowed ip config o url first begins =
    allowed (ip && (packages_in config).ntlm) (protocol_of o) (packages_in config).kerberos url
    (may_kerberos Client config config.protocol_config (packages_in config) o first) begins

-- ---- what a server has selected

-- once it picked NTLM: the one that it had, or one in place of Kerberos
pub ntlm_taken : (o : Origin) (computer : List ℕ) (rest : Plan) →
    runs (in_ntlm (hand_of (made_of o)) computer rest) (made_of o) ≡ runs rest (hands.Ntlm (ntlm_with (challenge_of o)))
ntlm_taken (Configured (configs.Ntlm config)) computer rest = refl
ntlm_taken (Configured (configs.Kerberos config)) computer rest = refl
ntlm_taken (Configured (configs.KerberosServer config server)) computer rest = refl
ntlm_taken (InPlaceOfNtlm url kdcs own) computer rest = refl

-- a Kerberos with a ticket
pub with_ticket : (o : Origin) (ticket : List ℕ) → ticket_of o ≡ Some ticket →
    (realms : Realms) × (made_of o ≡ hands.Kerberos (kerberos_with realms.kdc_url realms.kdcs (Some ticket)))
with_ticket (Configured (configs.Ntlm config)) ticket is = absurd cc
with_ticket (Configured (configs.Kerberos config)) ticket is = absurd cc
with_ticket (Configured (configs.KerberosServer config server)) ticket is = (
  record { kdc_url = config.kdc_url; kdcs = config.kdcs },
  ap (λ (t : Option (List ℕ)). hands.Kerberos (kerberos_with config.kdc_url config.kdcs t)) is,
)
with_ticket (InPlaceOfNtlm url kdcs computer) ticket is = absurd cc

-- ---- what comes before each step of a client

module _ (config : NegotiateConfig) (i : AuthIdentity) (is : IsIdentity i) where
  abbrev pub client_values : Protocol → PackageListConfig → NegotiateState → List (List ℕ) → Bool → Values
  client_values protocol packages state list need = record {
    role = Client;
    state = state;
    hand = protocol;
    packages = packages;
    list = list;
    need = need;
    kept = handle_of i;
    known = [];
    computer = config.client_computer_name;
    kdcs = config.kdcs;
    branch = Idle;
  }

  abbrev rule : Protocol → PackageListConfig → Option (List ℕ)
  rule protocol packages = served protocol packages (url_for config.kdcs (domain_of i.username))

  handled : (p : Protocol) (packages : PackageListConfig) (state : NegotiateState) (list : List (List ℕ)) (need : Bool) (args : StepArgs) →
      args.handle ≡ handle_of i → rule p packages ≡ None →
      with_handle (client_values p packages state list need) args ≡ client_at state (client_values p packages state list need) args
  unfolding with_handle keeps
  handled p packages state list need args had none =
      ap (λ (g : Option CredentialsBuffers). converts (passwords_of g) (client_values p packages state list need) args) had
      ∙ ap (λ (o : Option AuthIdentity). keeps o (client_values p packages state list need) args) (buffers_back i is)
      ∙ ap (λ (u : Option (List ℕ)). ruled u (client_values p packages state list need) args) none

  aimed : (b : Bool) (p : Protocol) (packages : PackageListConfig) (state : NegotiateState) (list : List (List ℕ)) (need : Bool)
      (args : StepArgs) (m : M) → args.handle ≡ handle_of i → (b ≡ false → rule p packages ≡ None) →
      runs (if b
      then in_ntlm p config.client_computer_name
      (with_handle (client_values Ntlm (record packages { kerberos = false }) state list need) args)
      else with_handle (client_values p packages state list need) args) m
      ≡ runs (client_at state (client_values (hand_first b p) (packages_first b packages) state list need) args)
      (object_first b p config.client_computer_name m)
  aimed true Ntlm packages state list need args m had none =
      ap (λ (q : Plan). runs q m) (handled Ntlm (record packages { kerberos = false }) state list need args had refl)
  aimed true Kerberos packages state list need args m had none =
      ap (λ (q : Plan). runs q (made_of (in_place_of_kerberos config.client_computer_name)))
      (handled Ntlm (record packages { kerberos = false }) state list need args had refl)
  aimed false p packages state list need args m had none =
      ap (λ (q : Plan). runs q m) (handled p packages state list need args had (none refl))

  pub led : (ip : Bool) (p : Protocol) (packages : PackageListConfig) (state : NegotiateState) (list : List (List ℕ)) (need : Bool)
      (args : StepArgs) (m : M) →
      is_closed Client state Idle ≡ false → args.handle ≡ handle_of i → ((ip && packages.ntlm) ≡ false → rule p packages ≡ None) →
      runs (spnego_client ip (client_values p packages state list need) args) m
      ≡ runs (client_at state (client_values (hand_first (ip && packages.ntlm) p) (packages_first (ip && packages.ntlm) packages) state
      list need)
      args) (object_first (ip && packages.ntlm) p config.client_computer_name m)
  led ip p packages state list need args m begins had none =
      ap (λ (b : Bool). runs (if b then Stops (client_values p packages state list need) OutOfSequence
      else by_target ip (client_values p packages state list need) args) m) begins
      ∙ aimed (ip && packages.ntlm) p packages state list need args m had none

  -- once NTLM is selected and Kerberos may not be used, nothing changes
  pub led_ntlm : (ip : Bool) (state : NegotiateState) (list : List (List ℕ)) (need : Bool) (args : StepArgs) (m : M) →
      is_closed Client state Idle ≡ false → args.handle ≡ handle_of i →
      runs (spnego_client ip (client_values Ntlm (record { ntlm = true; kerberos = false }) state list need) args) m
      ≡ runs (client_at state (client_values Ntlm (record { ntlm = true; kerberos = false }) state list need) args) m
  led_ntlm ip state list need args m begins had =
      led ip Ntlm (record { ntlm = true; kerberos = false }) state list need args m begins had (λ b. refl) ∙ at (ip && true)
    where
      at : (b : Bool) → runs (client_at state (client_values (hand_first b Ntlm)
          (packages_first b (record { ntlm = true; kerberos = false })) state list need) args)
          (object_first b Ntlm config.client_computer_name m)
          ≡ runs (client_at state (client_values Ntlm (record { ntlm = true; kerberos = false }) state list need) args) m
      at true = refl
      at false = refl

  -- nor if Kerberos is selected and stays so
  pub led_kerberos : (ip : Bool) (packages : PackageListConfig) (state : NegotiateState) (list : List (List ℕ)) (need : Bool)
      (args : StepArgs) (m : M) → is_closed Client state Idle ≡ false → args.handle ≡ handle_of i → (ip && packages.ntlm) ≡ false →
      runs (spnego_client ip (client_values Kerberos packages state list need) args) m
      ≡ runs (client_at state (client_values Kerberos packages state list need) args) m
  led_kerberos ip packages state list need args m begins had aside =
      led ip Kerberos packages state list need args m begins had (λ b. refl)
      ∙ ap (λ (b : Bool). runs (client_at state (client_values (hand_first b Kerberos) (packages_first b packages) state list need) args)
      (object_first b Kerberos config.client_computer_name m)) aside

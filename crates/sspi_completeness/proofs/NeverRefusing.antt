-- With which kinds a context of plain NTLM refuses.
use Rattle.std.proofs.Common.{◌≡◌, ◌≢◌, ℕ, ◌==◌, ◌^◌, ◌-◌, List, [], length, Bool, true, false, Option, None, Some, Result, Ok, Err}
use Rattle.std.proofs.Common.{inl, inr, ◌⊎◌, nat_lt, refl, subst, filter, take, if◌then◌else◌}
use Rattle.std.specs.List.{list_any}
use Rattle.std.specs.Result.{result_err}
use Rattle.std.specs.Str.{is_utf8}
use Rattle.sspi_types.specs.declared.credential_use.CredentialUse.{CredentialUse}
use Rattle.sspi_types.specs.declared.credential_use.CredentialUse.TheVariants as purposes
use Rattle.sspi_types.specs.declared.error_kind.ErrorKind.{ErrorKind}
use Rattle.sspi_types.specs.declared.error_kind.ErrorKind.TheVariants.{DowngradeDetected, InsufficientMemory, NoCredentials}
use Rattle.sspi_types.specs.declared.error_kind.ErrorKind.TheVariants.{InvalidToken, MessageAltered, ContextExpired}
use Rattle.sspi_names.specs.Name.{Name, inner_of}
use Rattle.sspi_names.specs.declared.credentials.Credentials.{Credentials}
use Rattle.sspi_names.specs.declared.credentials.Credentials.TheVariants as credentials
use Rattle.sspi_names.specs.declared.credentials.CredentialsBuffers.{CredentialsBuffers}
use Rattle.sspi_names.specs.declared.credentials.CredentialsBuffers.TheVariants as buffers
use Rattle.sspi_mech.specs.declared.ntlm.login.Login.{Login}
use Rattle.sspi_mech.specs.declared.ntlm.stage.Claim.{Claim}
use Rattle.sspi_mech.specs.declared.ntlm.stage.Stage.{Stage}
use Rattle.sspi_mech.specs.declared.ntlm.stage.Stage.TheVariants.{Unused, NegotiateSent, AuthenticateSent, ChallengeSent, Claimed}
use Rattle.sspi_mech.specs.Calls.{Call, ToAcquire, ToName, ToIdentify, ToComplete, ToSeal, ToUnseal, ToSign, ToVerify, ToDescribe}
use Rattle.sspi_mech.specs.Calls.{ToShowKey}
use Rattle.sspi_mech.specs.Meaning.{Meaning}
use Rattle.sspi_mech.specs.Ntlm.{ntlm_meaning, ntlm_refusal, absence}
use Rattle.sspi_mech.specs.NtlmAcquire.{acquired}
use Rattle.sspi_mech.specs.NtlmClaims.{claim_in, claim_under, claim_of}
use Rattle.sspi_mech.specs.NtlmIdentities.{has_password, key_by, key_at, with_key, identified}
use Rattle.sspi_mech.specs.Named.{Named}
use Rattle.sspi_mech.specs.NtlmMessages.{read_challenge, is_negotiate}
use Rattle.sspi_mech.specs.NtlmStage.{NtlmState, peer_direction, name_at}
use Rattle.sspi_mech.specs.NtlmSteps.{Outcome, Goes, Stops, login_by, login_of, authenticates, authenticates_as, challenges, claims}
use Rattle.sspi_mech.specs.NtlmSteps.{client_step, server_step}
use Rattle.sspi_mech.specs.declared.protection.Direction.{Direction}
use Rattle.sspi_mech.specs.Protection.{unless_spent, making_refusal, unseal_refusal, verify_refusal}
use Rattle.sspi_mech.specs.Settings.{Setting}
use Rattle.sspi_mech.specs.Sum.{in_hand, Both, sum, taking, taken, seen}
use Rattle.sspi_credssp.specs.Context.{either, made_of, as_sum, of_sum, NeverRefuses}
use Rattle.sspi_credssp.specs.Peers.{knowing, listed_setting}
use Rattle.sspi_negotiate.specs.Negotiate.{negotiate}
use Rattle.sspi_negotiate.specs.New.{NegotiateSetting}
use Rattle.sspi_negotiate.specs.Values.{Negotiation}

abbrev pub IsOther : Option ErrorKind → Type 0
IsOther None = Unit {0}
IsOther (Some kind) = kind ≢ DowngradeDetected

abbrev pub IfOther : {A : Type 0} → Result A ErrorKind → Type 0
IfOther (Ok x) = Unit {0}
IfOther (Err kind) = kind ≢ DowngradeDetected

abbrev StopsOther : Outcome → Type 0
StopsOther (Goes m step) = Unit {0}
StopsOther (Stops kind) = kind ≢ DowngradeDetected

-- ---- calls on messages, and those that look

other_if : (b : Bool) (x y : Option ErrorKind) → IsOther x → IsOther y → IsOther (if b then x else y)
other_if true x y h k = h
other_if false x y h k = k

other_spent : (n : ℕ) (refusal : Option ErrorKind) → IsOther refusal → IsOther (unless_spent n refusal)
other_spent n refusal h = other_if (n == 2 ^ 64 - 1) (Some ContextExpired) refusal (λ e. absurd (cc (e))) h

pub other_making : (key : Option (List ℕ)) (n : ℕ) → IsOther (making_refusal key n)
other_making None n = λ e. absurd (cc (e))
other_making (Some key) n = other_spent n None tt

pub other_unseal : (key : Option (List ℕ)) (direction : Direction) (n : ℕ) (blob : List ℕ) → IsOther (unseal_refusal key direction n blob)
other_unseal None direction n blob = λ e. absurd (cc (e))
other_unseal (Some key) direction n blob =
    other_spent n _ (other_if (nat_lt (length blob) 16) (Some InvalidToken) _ (λ e. absurd (cc (e)))
    (other_if _ None (Some MessageAltered) tt (λ e. absurd (cc (e)))))

pub other_verify : (key : Option (List ℕ)) (direction : Direction) (n : ℕ) (mic text : List ℕ) →
    IsOther (verify_refusal key direction n mic text)
other_verify None direction n mic text = λ e. absurd (cc (e))
other_verify (Some key) direction n mic text = other_spent n _ (other_if _ None (Some MessageAltered) tt (λ e. absurd (cc (e))))

pub other_absence : {X : Type 0} (o : Option X) → IsOther (absence o)
other_absence None = λ e. absurd (cc (e))
other_absence (Some x) = tt

pub other_result : {A : Type 0} (r : Result A ErrorKind) → IfOther r → IsOther (result_err r)
other_result (Ok x) h = tt
other_result (Err kind) h = h

other_acquired : (use_of : CredentialUse) (asked : Option Credentials) → IfOther (acquired use_of asked)
other_acquired use_of (Some (credentials.Keytab identity)) = λ e. absurd (cc (e))
other_acquired use_of (Some (credentials.AuthIdentity identity)) = tt
other_acquired purposes.Inbound None = tt
other_acquired purposes.Outbound None = λ e. absurd (cc (e))
other_acquired purposes.Both None = tt
other_acquired purposes.Default None = tt

other_key_by : (challenge : List ℕ) (claim : Claim) (found : Option Credentials) → IfOther (key_by challenge claim found)
other_key_by challenge claim None = λ e. absurd (cc (e))
other_key_by challenge claim (Some (credentials.AuthIdentity identity)) = tt
other_key_by challenge claim (Some (credentials.Keytab identity)) = λ e. absurd (cc (e))

other_claimed : (b : Bool) (r : Result (List ℕ) ErrorKind) → IfOther r → IfOther (if b then r else Err NoCredentials)
other_claimed true r h = h
other_claimed false r h = λ e. absurd (cc (e))

other_key_at : (stage : Stage) (challenge : List ℕ) (identities : List Credentials) → IfOther (key_at stage challenge identities)
other_key_at Unused challenge identities = λ e. absurd (cc (e))
other_key_at NegotiateSent challenge identities = λ e. absurd (cc (e))
other_key_at (AuthenticateSent name) challenge identities = λ e. absurd (cc (e))
other_key_at ChallengeSent challenge identities = λ e. absurd (cc (e))
other_key_at (Claimed claim) challenge identities =
    other_claimed (list_any has_password identities) _ (other_key_by challenge claim _)

other_with_key : (m : NtlmState) (r : Result (List ℕ) ErrorKind) → IfOther r → IfOther (with_key m r)
other_with_key m (Ok key) h = tt
other_with_key m (Err kind) h = h

other_refusal : (m : NtlmState) (call : Call) → IsOther (ntlm_refusal m call)
other_refusal m (ToAcquire use_of asked) = other_result (acquired use_of asked) (other_acquired use_of asked)
other_refusal m ToName = other_absence (name_at m.stage)
other_refusal m (ToIdentify identities) =
    other_result (identified m identities) (other_with_key m (key_at m.stage m.challenge identities)
    (other_key_at m.stage m.challenge identities))
other_refusal m ToComplete = other_absence m.protection.key
other_refusal m (ToSeal text) = other_making m.protection.key m.protection.sealings
other_refusal m (ToUnseal blob) = other_unseal m.protection.key (peer_direction m.stage) m.protection.unsealings blob
other_refusal m (ToSign text) = other_making m.protection.key m.protection.signings
other_refusal m (ToVerify mic text) = other_verify m.protection.key (peer_direction m.stage) m.protection.verifications mic text
other_refusal m ToDescribe = tt
other_refusal m ToShowKey = other_absence m.protection.key

-- ---- steps

other_named : (b : Bool) (login : Login) (kind : ErrorKind) → kind ≢ DowngradeDetected → IfOther (if b then Err kind else Ok login)
other_named true login kind h = h
other_named false login kind h = tt

other_login_by : (name : Option Name) (password : List ℕ) → IfOther (login_by name password)
other_login_by None password = λ e. absurd (cc (e))
other_login_by (Some name) password = other_named (nat_lt 65535 (length (inner_of name))) _ _ (λ e. absurd (cc (e)))

other_login : (handle : Option CredentialsBuffers) → IfOther (login_of handle)
other_login None = λ e. absurd (cc (e))
other_login (Some (buffers.Keytab identity)) = λ e. absurd (cc (e))
other_login (Some (buffers.AuthIdentity identity)) = other_login_by _ _

stops_as : (m : NtlmState) (challenge : List ℕ) (r : Result Login ErrorKind) → IfOther r → StopsOther (authenticates_as m challenge r)
stops_as m challenge (Ok login) h = tt
stops_as m challenge (Err kind) h = h

stops_authenticates : (m : NtlmState) (challenge : Option (List ℕ)) (handle : Option CredentialsBuffers) →
    StopsOther (authenticates m challenge handle)
stops_authenticates m None handle = λ e. absurd (cc (e))
stops_authenticates m (Some challenge) handle = stops_as m challenge (login_of handle) (other_login handle)

stops_client : (stage : Stage) (m : NtlmState) (handle : Option CredentialsBuffers) (input : List ℕ) →
    StopsOther (client_step stage m handle input)
stops_client Unused m handle input = tt
stops_client NegotiateSent m handle input = stops_authenticates m (read_challenge input) handle
stops_client (AuthenticateSent name) m handle input = λ e. absurd (cc (e))
stops_client ChallengeSent m handle input = λ e. absurd (cc (e))
stops_client (Claimed claim) m handle input = λ e. absurd (cc (e))

stops_challenges : (m : NtlmState) (b : Bool) → StopsOther (challenges m b)
stops_challenges m false = λ e. absurd (cc (e))
stops_challenges m true = tt

other_under : (read : Named) (name : Option Name) → IfOther (claim_under read name)
other_under read None = λ e. absurd (cc (e))
other_under read (Some name) = tt

other_utf8 : (b : Bool) (r : Result Claim ErrorKind) → IfOther r → IfOther (if b then r else Err InvalidToken)
other_utf8 true r h = h
other_utf8 false r h = λ e. absurd (cc (e))

other_claim : (read : Option Named) → IfOther (claim_in read)
other_claim None = λ e. absurd (cc (e))
other_claim (Some read) = other_utf8 (is_utf8 read.name) _ (other_under read _)

stops_claims : (m : NtlmState) (r : Result Claim ErrorKind) → IfOther r → StopsOther (claims m r)
stops_claims m (Ok claim) h = tt
stops_claims m (Err kind) h = h

stops_server : (stage : Stage) (m : NtlmState) (input : List ℕ) → StopsOther (server_step stage m input)
stops_server Unused m input = stops_challenges m (is_negotiate input)
stops_server NegotiateSent m input = λ e. absurd (cc (e))
stops_server (AuthenticateSent name) m input = λ e. absurd (cc (e))
stops_server ChallengeSent m input = stops_claims m (claim_of input) (other_claim _)
stops_server (Claimed claim) m input = λ e. absurd (cc (e))

stopped_other : (out : Outcome) (kind : ErrorKind) → StopsOther out → (kind ≢ InsufficientMemory → out ≡ Stops kind) →
    kind ≢ DowngradeDetected
stopped_other out kind other stops = λ is.
    subst StopsOther (stops (λ memory. absurd (cc (is, memory)))) other is

pub refused_other : (refusal : Option ErrorKind) → IsOther refusal → refusal ≡ Some DowngradeDetected → ⊥
refused_other refusal other is = subst IsOther is other refl

pub ntlm_never : NeverRefuses ntlm_meaning DowngradeDetected
ntlm_never = record {
  makes = λ s never. never;
  calls = λ m call is. refused_other (ntlm_refusal m call) (other_refusal m call) is;
  steps = λ m m2 a error h. stopped_other (client_step m.stage m a.handle a.input) error.error_type
      (stops_client m.stage m a.handle a.input) h.0;
  resumes = λ m m2 reply error h. λ is. let kind = h.0 in absurd (cc (kind, is));
  accepts = λ m m2 a error h. stopped_other (server_step m.stage m a.input) error.error_type (stops_server m.stage m a.input) h.0;
}

-- ---- what chooses among contexts

-- by the one selected
in_hand_never : {A B : Type 0} (P : A → Type 0) (Q : B → Type 0) → ((x : A) → P x → ⊥) → ((y : B) → Q y → ⊥) → (m : A ⊎ B) →
    in_hand P Q m → ⊥
in_hand_never P Q first second (inl x) h = first x h
in_hand_never P Q first second (inr y) h = second y h

both_other : {S T A B : Type 0} (P : S → A → Type 0) (Q : T → B → Type 0) (R : Type 0) → ((s : S) (x : A) → P s x → R) →
    ((t : T) (y : B) → Q t y → R) →
    (m : S ⊎ T) (m2 : A ⊎ B) → Both P Q m m2 → R
both_other P Q R first second (inl s) (inl x) h = first s x h
both_other P Q R first second (inl s) (inr y) h = absurd h
both_other P Q R first second (inr t) (inl x) h = absurd h
both_other P Q R first second (inr t) (inr y) h = second t y h

module _ {S T A B : Type 0} (n : Meaning S A) (k : Meaning T B) (kind : ErrorKind) (first : NeverRefuses n kind)
    (second : NeverRefuses k kind) where
  pub sum_never : NeverRefuses (sum n k) kind
  sum_never = record {
    makes = λ s h. in_hand_never (λ x. n.unmade x kind) (λ y. k.unmade y kind) first.makes second.makes s (hand_at n.unmade k.unmade s h);
    calls = λ m call h. in_hand_never (λ x. n.refuses x call kind) (λ y. k.refuses y call kind) (λ x. first.calls x call)
        (λ y. second.calls y call) m
        (call_at m call h);
    steps = λ m m2 a error h. both_other _ _ _ (λ x x2. first.steps x x2 a error) (λ y y2. second.steps y y2 a error) m m2 h;
    resumes = λ m m2 reply error h. both_other _ _ _ (λ x x2. first.resumes x x2 reply error)
        (λ y y2. second.resumes y y2 reply error) m m2 h;
    accepts = λ m m2 a error h. both_other _ _ _ (λ x x2. first.accepts x x2 a error) (λ y y2. second.accepts y y2 a error) m m2 h;
  }
    where
      hand_at : (f : S → ErrorKind → Type 0) (g : T → ErrorKind → Type 0) (s : S ⊎ T) → in_hand f g s kind →
          in_hand (λ x. f x kind) (λ y. g y kind) s
      hand_at f g (inl x) h = h
      hand_at f g (inr y) h = h

      call_at : (m : A ⊎ B) (call : Call) → in_hand n.refuses k.refuses m call kind →
          in_hand (λ x. n.refuses x call kind) (λ y. k.refuses y call kind) m
      call_at (inl x) call h = h
      call_at (inr y) call h = h

pub taking_never : {S C : Type 0} (some : List Credentials → List Credentials) (c : Meaning S C) (kind : ErrorKind) →
    NeverRefuses c kind → NeverRefuses (taking some c) kind
taking_never some c kind never = record {
  makes = never.makes;
  calls = λ m call h. never.calls m (taken some call) h;
  steps = never.steps;
  resumes = never.resumes;
  accepts = never.accepts;
}

pub seen_never : {R S C D : Type 0} (parts : R → S) (view : C → D) (back : D → C) (c : Meaning S D) (kind : ErrorKind) →
    NeverRefuses c kind →
    NeverRefuses (seen parts view back c) kind
seen_never parts view back c kind never = record {
  makes = λ s h. never.makes (parts s) h;
  calls = λ m call h. never.calls (view m) call h;
  steps = λ m m2 a error h. never.steps (view m) (view m2) a error h;
  resumes = λ m m2 reply error h. never.resumes (view m) (view m2) reply error h;
  accepts = λ m m2 a error h. never.accepts (view m) (view m2) a error h;
}

knowing_never : {M : Type 0} (c : Meaning NegotiateSetting (Negotiation M)) (kind : ErrorKind) → NeverRefuses c kind →
    NeverRefuses (knowing c) kind
knowing_never c kind never = record {
  makes = λ s h. never.makes (listed_setting s []) h;
  calls = never.calls;
  steps = never.steps;
  resumes = never.resumes;
  accepts = never.accepts;
}

pub either_never : {N K : Type 0} (requests : ℕ) (n : Meaning Setting N) (k : Meaning Setting K) (kind : ErrorKind) →
    NeverRefuses n kind → NeverRefuses k kind →
    NeverRefuses (negotiate requests n k) kind → NeverRefuses (either requests n k) kind
either_never requests n k kind first second third =
    seen_never made_of as_sum of_sum (sum (sum (taking (filter has_password) n) (taking (take 1) k)) (knowing (negotiate requests n k)))
    kind
    (sum_never (sum (taking (filter has_password) n) (taking (take 1) k)) (knowing (negotiate requests n k)) kind
    (sum_never (taking (filter has_password) n) (taking (take 1) k) kind
    (taking_never (filter has_password) n kind first) (taking_never (take 1) k kind second))
    (knowing_never (negotiate requests n k) kind third))

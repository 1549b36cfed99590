-- What a refused first step leaves selected, from one part of the step to the next.
use Rattle.std.proofs.Common.{◌≡◌, ℕ, List, Option, None, Some, Result, Ok, Err, OnErr, true, false, refl, sym, subst, ap, ◌∙◌}
use Rattle.std.proofs.lemmas.Bool.{false≢true}
use Rattle.sspi_types.specs.declared.error.Error.{Error}
use Rattle.sspi_types.specs.declared.error_kind.ErrorKind.{ErrorKind}
use Rattle.sspi_names.specs.Identity.{identity_of}
use Rattle.sspi_names.specs.Name.{Name}
use Rattle.sspi_names.specs.declared.credentials.CredentialsBuffers.{CredentialsBuffers}
use Rattle.sspi_names.specs.declared.credentials.CredentialsBuffers.TheVariants.{AuthIdentity}
use Rattle.sspi_names.specs.declared.identity.AuthIdentityBuffers.{AuthIdentityBuffers}
use Rattle.sspi_names.specs.declared.identity.AuthIdentity.{AuthIdentity as Identity}
use Rattle.sspi_mech.specs.declared.step.Answer.TheVariants.{Refused}
use Rattle.sspi_mech.specs.declared.step.Reply.{Reply}
use Rattle.sspi_mech.specs.Calls.{StepArgs}
use Rattle.sspi_mech.specs.Meaning.{Meaning}
use Rattle.sspi_negotiate.specs.declared.package_list.PackageListConfig.{PackageListConfig}
use Rattle.sspi_negotiate.specs.declared.protocol.NegotiatedProtocol.{NegotiatedProtocol}
use Rattle.sspi_negotiate.specs.declared.protocol.Protocol.{Protocol}
use Rattle.sspi_negotiate.specs.declared.protocol.Protocol.TheVariants.{Kerberos, Ntlm}
use Rattle.sspi_negotiate.specs.declared.state.NegotiateState.TheVariants.{Initial}
use Rattle.sspi_negotiate.specs.Beginning.{SameHand, OnlyNtlm, FallsBy, unmoved, by_cause, Falls, FallsResumed}
use Rattle.sspi_negotiate.specs.Beginning.{MayBegin, unchanged, by_url, by_address, by_refusal}
use Rattle.sspi_negotiate.specs.Client.{handle_for}
use Rattle.sspi_negotiate.specs.Fallback.{is_fallback}
use Rattle.sspi_negotiate.specs.Hand.{Origin, hand_of, is_kerberos_hand}
use Rattle.sspi_negotiate.specs.Holding.{user_of, user_url}
use Rattle.sspi_negotiate.specs.Rule.{TakenBy, rule_url, ruled_values}
use Rattle.sspi_negotiate.specs.Values.{Values, Negotiation, values_of}

pub on_err : {T E : Type 0} {P Q : Type 0} (result : Result T E) → (P → Q) → OnErr result P → OnErr result Q
on_err (Ok x) f h = tt
on_err (Err error) f h = f h

pub fell_past : {A B : Type 0} {old mid new : Values} → (A → B) → SameHand old mid → FallsBy A mid new → FallsBy B old new
fell_past cause before (unmoved h) =
    unmoved (record { hand = h.hand ∙ before.hand; packages = h.packages ∙ before.packages })
fell_past cause before (by_cause a only) = by_cause (cause a) (record {
  hand = only.hand;
  packages = only.packages ∙ ap (λ (packages : PackageListConfig). record packages { kerberos = false }) before.packages;
})

kerberos_is : (p : Protocol) → is_kerberos_hand p ≡ true → p ≡ Kerberos
kerberos_is Kerberos h = refl
kerberos_is Ntlm h = absurd (false≢true h)

no_rule_for : (v : Values) (p : Protocol) (identity : Identity) →
    rule_url (record v { hand = p; packages = record v.packages { kerberos = false } }) identity.username ≡ None
no_rule_for v Kerberos identity = refl
no_rule_for v Ntlm identity = refl

pub no_rule : (v : Values) (user : Option Identity) →
    user_url (record v { packages = record v.packages { kerberos = false } }) user ≡ None
no_rule v None = refl
no_rule v (Some identity) = no_rule_for v v.hand identity

pub handed_user : (handle : Option CredentialsBuffers) (buffers : AuthIdentityBuffers) → handle ≡ Some (AuthIdentity buffers) →
    user_of handle ≡ identity_of buffers
handed_user handle buffers is = ap user_of is

module _ {N K : Type 0} (c : Meaning Origin (NegotiatedProtocol N K)) where
  pub fell_resumed : (m m2 : NegotiatedProtocol N K) (reply : Reply) (error : Error) (kind : ErrorKind) →
      c.resumes m reply (Refused error) m2 → hand_of m2 ≡ hand_of m → kind ≡ error.error_type →
      (is_fallback kind ≡ true) × (is_kerberos_hand (hand_of m2) ≡ true) → FallsResumed c m reply
  fell_resumed m m2 reply error kind resumed named same h =
      (sym named ∙ kerberos_is (hand_of m2) h.1, error, m2, resumed, sym (ap is_fallback same) ∙ h.0)

  pub fell_stepped : (m m2 : NegotiatedProtocol N K) (args : StepArgs) (kept : Option CredentialsBuffers) (error : Error)
      (kind : ErrorKind) → c.steps m (record args { handle = handle_for (hand_of m) kept args.handle }) (Refused error) m2 →
      hand_of m2 ≡ hand_of m → kind ≡ error.error_type →
      (is_fallback kind ≡ true) × (is_kerberos_hand (hand_of m2) ≡ true) → Falls c m args
  fell_stepped m m2 args kept error kind stepped named same h = let p = sym named ∙ kerberos_is (hand_of m2) h.1 in (
    p,
    error,
    m2,
    subst (λ (q : Protocol). c.steps m (record args { handle = handle_for q kept args.handle }) (Refused error) m2) p stepped,
    sym (ap is_fallback same) ∙ h.0,
  )

  pub begun_ruled : (url : Option (List ℕ)) (args : StepArgs) (old mid new : Negotiation (NegotiatedProtocol N K)) →
      TakenBy c url old.kdcs old.computer old.mech mid.mech → values_of mid ≡ ruled_values url (values_of old) →
      FallsBy (Falls c mid.mech args) (values_of mid) (values_of new) → MayBegin c ⊥ url args old new
  begun_ruled None args old mid new taken same (unmoved h) = unchanged (record {
    hand = h.hand ∙ ap (λ (v : Values). v.hand) same;
    packages = h.packages ∙ ap (λ (v : Values). v.packages) same;
  })
  begun_ruled (Some url) args old mid new taken same (unmoved h) =
      by_url url refl (h.hand ∙ ap (λ (v : Values). v.hand) same) (h.packages ∙ ap (λ (v : Values). v.packages) same)
  begun_ruled None args old mid new taken same (by_cause fell only) = by_refusal mid.mech taken fell (record {
    hand = only.hand;
    packages = only.packages ∙ ap (λ (v : Values). record v.packages { kerberos = false }) same;
  })
  begun_ruled (Some url) args old mid new taken same (by_cause fell only) = by_refusal mid.mech taken fell (record {
    hand = only.hand;
    packages = only.packages ∙ ap (λ (v : Values). record v.packages { kerberos = false }) same;
  })

  first_ruled : (url : Option (List ℕ)) (v : Values) → v.state ≡ Initial → (ruled_values url v).state ≡ Initial
  first_ruled None v h = h
  first_ruled (Some url) v h = h

  -- the protocol rule, and what follows it
  pub begun_by_rule : {T E : Type 0} (result : Result T E) (url : Option (List ℕ)) (args : StepArgs)
      (old mid new : Negotiation (NegotiatedProtocol N K)) →
      TakenBy c url old.kdcs old.computer old.mech mid.mech → values_of mid ≡ ruled_values url (values_of old) →
      (mid.state ≡ Initial → OnErr result (FallsBy (Falls c mid.mech args) (values_of mid) (values_of new))) →
      old.state ≡ Initial → OnErr result (MayBegin c ⊥ url args old new)
  begun_by_rule result url args old mid new taken same h first =
      on_err result (begun_ruled url args old mid new taken same)
      (h (ap (λ (v : Values). v.state) same ∙ first_ruled url (values_of old) first))

  -- if there is no rule
  pub begun_plain : {T E : Type 0} (result : Result T E) (url : Option (List ℕ)) (args : StepArgs)
      (old new : Negotiation (NegotiatedProtocol N K)) → url ≡ None →
      (old.state ≡ Initial → OnErr result (FallsBy (Falls c old.mech args) (values_of old) (values_of new))) →
      old.state ≡ Initial → OnErr result (MayBegin c ⊥ url args old new)
  begun_plain result url args old new none h first =
      subst (λ (u : Option (List ℕ)). OnErr result (MayBegin c ⊥ u args old new)) (sym none)
      (on_err result (begun_ruled None args old old new refl refl) (h first))

  kept_before : {A : Type 0} {url : Option (List ℕ)} {args : StepArgs} (old new : Negotiation (NegotiatedProtocol N K))
      (kept : Option CredentialsBuffers) → MayBegin c A url args (record old { kept = kept }) new → MayBegin c A url args old new
  kept_before old new kept (unchanged h) = unchanged (record { hand = h.hand; packages = h.packages })
  kept_before old new kept (by_url found is hand packages) = by_url found is hand packages
  kept_before old new kept (by_address a only) = by_address a (record { hand = only.hand; packages = only.packages })
  kept_before old new kept (by_refusal held taken fell only) =
      by_refusal held taken fell (record { hand = only.hand; packages = only.packages })

  pub begun_kept : {T E : Type 0} (result : Result T E) (name : Name) (args : StepArgs)
      (old new : Negotiation (NegotiatedProtocol N K)) (kept : Option CredentialsBuffers) →
      (old.state ≡ Initial → OnErr result (MayBegin c ⊥ (rule_url (values_of old) name) args (record old { kept = kept }) new)) →
      old.state ≡ Initial → OnErr result (MayBegin c ⊥ (rule_url (values_of old) name) args old new)
  begun_kept result name args old new kept h first = on_err result (kept_before old new kept) (h first)

  -- what the handle of a call says of its user
  pub begun_identified : {T E : Type 0} (result : Result T E) (v : Values) (user o : Option Identity) (args : StepArgs)
      (old new : Negotiation (NegotiatedProtocol N K)) → user ≡ o →
      (old.state ≡ Initial → OnErr result (MayBegin c ⊥ (user_url v o) args old new)) →
      old.state ≡ Initial → OnErr result (MayBegin c ⊥ (user_url v user) args old new)
  begun_identified result v user o args old new is h first =
      subst (λ (x : Option Identity). OnErr result (MayBegin c ⊥ (user_url v x) args old new)) (sym is) (h first)

  pub only_ntlm : (old new : Negotiation (NegotiatedProtocol N K)) (user : Option Identity) (args : StepArgs) →
      hand_of old.mech ≡ Ntlm →
      MayBegin c ⊥ (user_url (record (values_of old) { packages = record old.packages { kerberos = false } }) user) args
      (record old { packages = record old.packages { kerberos = false } }) new → OnlyNtlm (values_of old) (values_of new)
  only_ntlm old new user args ntlm (unchanged h) = record { hand = h.hand ∙ ntlm; packages = h.packages }
  only_ntlm old new user args ntlm (by_url found is hand packages) = let none = sym is ∙ no_rule (values_of old) user in absurd (cc (none))
  only_ntlm old new user args ntlm (by_address never only) = absurd never
  only_ntlm old new user args ntlm (by_refusal held taken fell only) = record { hand = only.hand; packages = only.packages }

  pub begun_left : {T E : Type 0} (result : Result T E) (old mid new : Negotiation (NegotiatedProtocol N K)) →
      values_of mid ≡ record (values_of old) { hand = Ntlm } →
      (mid.state ≡ Initial → hand_of mid.mech ≡ Ntlm → OnErr result (OnlyNtlm (values_of mid) (values_of new))) →
      old.state ≡ Initial → OnErr result (FallsBy (Unit {0}) (values_of old) (values_of new))
  begun_left result old mid new same h first =
      on_err result (λ only. by_cause tt (record {
        hand = only.hand;
        packages = only.packages ∙ ap (λ (v : Values). record v.packages { kerberos = false }) same;
      })) (h (ap (λ (v : Values). v.state) same ∙ first) (ap (λ (v : Values). v.hand) same))

  pub begun_addressed : {A : Type 0} (url : Option (List ℕ)) (args : StepArgs) (old new : Negotiation (NegotiatedProtocol N K)) → A →
      FallsBy (Unit {0}) (values_of old) (values_of new) → MayBegin c A url args old new
  begun_addressed url args old new a (unmoved h) = unchanged h
  begun_addressed url args old new a (by_cause u only) = by_address a only

  pub begun_by : {A B : Type 0} {url : Option (List ℕ)} {args : StepArgs} {old new : Negotiation (NegotiatedProtocol N K)} → (A → B) →
      MayBegin c A url args old new → MayBegin c B url args old new
  begun_by address (unchanged h) = unchanged h
  begun_by address (by_url found is hand packages) = by_url found is hand packages
  begun_by address (by_address a only) = by_address (address a) only
  begun_by address (by_refusal held taken fell only) = by_refusal held taken fell only

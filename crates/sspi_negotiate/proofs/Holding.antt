-- What a client may hold and keep, from one part of a step to the next.
use Rattle.std.proofs.Common.{◌≡◌, ◌≢◌, ℕ, List, Option, None, Some, Bool, false, refl, sym, subst, ◌∙◌}
use Rattle.std.proofs.lemmas.Bool.{false≢true}
use Rattle.sspi_types.specs.declared.client_request_flags.ClientRequestFlags.{ClientRequestFlags}
use Rattle.sspi_names.specs.Identity.{identity_of}
use Rattle.sspi_names.specs.declared.credentials.CredentialsBuffers.{CredentialsBuffers}
use Rattle.sspi_names.specs.declared.credentials.CredentialsBuffers.TheVariants.{AuthIdentity}
use Rattle.sspi_names.specs.declared.identity.AuthIdentityBuffers.{AuthIdentityBuffers}
use Rattle.sspi_names.specs.declared.identity.AuthIdentity.{AuthIdentity as Identity}
use Rattle.sspi_negotiate.specs.declared.package_list.PackageListConfig.{PackageListConfig}
use Rattle.sspi_negotiate.specs.declared.protocol.Protocol.{Protocol}
use Rattle.sspi_negotiate.specs.declared.protocol.Protocol.TheVariants.{Kerberos, Ntlm}
use Rattle.sspi_negotiate.specs.declared.state.NegotiateState.TheVariants.{Initial}
use Rattle.sspi_negotiate.specs.Choices.{chosen_at}
use Rattle.sspi_negotiate.specs.Holding.{MayHold, as_before, as_chosen, as_addressed, as_ruled, MayKeep, user_of, user_url}
use Rattle.sspi_negotiate.specs.Holding.{MayAllow, as_allowed, as_named, kerberos_chosen, ntlm_chosen, MayHave}
use Rattle.sspi_negotiate.specs.Holding.{MayNeed, as_needed, as_asked}
use Rattle.sspi_negotiate.specs.Rule.{rule_url, ruled_values}
use Rattle.sspi_negotiate.specs.Values.{Values}
use Rattle.sspi_negotiate.proofs.Beginning.{no_rule}

hold_by : {A B : Type 0} {u w : Option (List ℕ)} {choice : Option Protocol} {held new : Protocol} → (A → B) →
    ((found : List ℕ) → u ≡ Some found → w ≡ Some found) → MayHold A u choice held new → MayHold B w choice held new
hold_by address url (as_before same) = as_before same
hold_by address url (as_chosen is) = as_chosen is
hold_by address url (as_addressed a same) = as_addressed (address a) same
hold_by address url (as_ruled found is same) = as_ruled found (url found is) same

allow_by : {A B : Type 0} {choice : Option Protocol} {allowed left : PackageListConfig} → (A → B) → MayAllow A choice allowed left →
    MayAllow B choice allowed left
allow_by address (as_allowed same) = as_allowed same
allow_by address (as_named a only) = as_named (address a) only
allow_by address (kerberos_chosen is usable only) = kerberos_chosen is usable only
allow_by address (ntlm_chosen is usable only) = ntlm_chosen is usable only

pub held_by : {A B : Type 0} {u w : Option (List ℕ)} {choice : Option Protocol} {held new : Protocol}
    {allowed left : PackageListConfig} → (A → B) → ((found : List ℕ) → u ≡ Some found → w ≡ Some found) →
    MayHold A u choice held new × MayAllow A choice allowed left → MayHold B w choice held new × MayAllow B choice allowed left
held_by address url h = (hold_by address url h.0, allow_by address h.1)

-- Kerberos was disabled, with NTLM selected, because of the target's address
left_hand : (v : Values) (user : Option Identity) {choice : Option Protocol} {new : Protocol} →
    MayHold ⊥ (user_url (record v { hand = Ntlm; packages = record v.packages { kerberos = false } }) user) choice Ntlm new →
    MayHold (Unit {0}) None choice v.hand new
left_hand v user (as_before same) = as_addressed tt same
left_hand v user (as_chosen is) = as_chosen is
left_hand v user (as_addressed never same) = absurd never
left_hand v user (as_ruled found is same) =
    let none = sym is ∙ no_rule (record v { hand = Ntlm }) user in absurd (cc (none))

left_packages : (old new : PackageListConfig) {choice : Option Protocol} → MayAllow ⊥ choice (record old { kerberos = false }) new →
    MayAllow (Unit {0}) choice old new
left_packages old new (as_allowed same) = as_named tt same
left_packages old new (as_named never only) = absurd never
left_packages old new (kerberos_chosen is usable only) = absurd (false≢true usable)
left_packages old new (ntlm_chosen is usable only) = as_named tt only

pub held_left : (v mid : Values) (user : Option Identity) (input : List ℕ) (new : Values) → mid ≡ record v { hand = Ntlm } →
    (mid.state ≢ Initial → MayHave ⊥ (user_url (record mid { packages = record mid.packages { kerberos = false } }) user)
    (chosen_at mid.state input) (record mid { packages = record mid.packages { kerberos = false } }) new) →
    v.state ≢ Initial → MayHave (Unit {0}) None (chosen_at v.state input) v new
held_left v mid user input new is h late =
    let left = subst (λ (w : Values). w.state ≢ Initial →
    MayHave ⊥ (user_url (record w { packages = record w.packages { kerberos = false } }) user)
    (chosen_at w.state input) (record w { packages = record w.packages { kerberos = false } }) new) is h late in
    (left_hand v user left.0, left_packages v.packages new.packages left.1)

by_url : (url : List ℕ) {choice : Option Protocol} {held new : Protocol} → MayHold ⊥ None choice Kerberos new →
    MayHold ⊥ (Some url) choice held new
by_url url (as_before same) = as_ruled url refl same
by_url url (as_chosen is) = as_chosen is
by_url url (as_addressed a same) = absurd a
by_url url (as_ruled found none same) = absurd (cc (none))

-- the protocol rule, and what follows it
by_rule : (url : Option (List ℕ)) (v : Values) (input : List ℕ) (new : Values) →
    (v.state ≢ Initial → MayHave ⊥ None (chosen_at v.state input) (ruled_values url v) new) →
    v.state ≢ Initial → MayHave ⊥ url (chosen_at v.state input) v new
by_rule None v input new h late = h late
by_rule (Some url) v input new h late = (by_url url (h late).0, (h late).1)

pub held_ruled : (url : Option (List ℕ)) (v mid : Values) (input : List ℕ) (new : Values) → mid ≡ ruled_values url v →
    (mid.state ≢ Initial → MayHave ⊥ None (chosen_at mid.state input) mid new) →
    v.state ≢ Initial → MayHave ⊥ url (chosen_at v.state input) v new
held_ruled None v mid input new is h =
    by_rule None v input new (subst (λ (w : Values). w.state ≢ Initial → MayHave ⊥ None (chosen_at w.state input) w new) is h)
held_ruled (Some url) v mid input new is h =
    by_rule (Some url) v input new (subst (λ (w : Values). w.state ≢ Initial → MayHave ⊥ None (chosen_at w.state input) w new) is h)

-- what the handle of a call says of its user
pub held_handed : (v : Values) (handle : Option CredentialsBuffers) (buffers : AuthIdentityBuffers) {choice : Option Protocol}
    (new : Values) → handle ≡ Some (AuthIdentity buffers) → MayHave ⊥ (user_url v (identity_of buffers)) choice v new →
    MayHave ⊥ (user_url v (user_of handle)) choice v new
held_handed v handle buffers {choice = choice} new is h =
    subst (λ (x : Option CredentialsBuffers). MayHave ⊥ (user_url v (user_of x)) choice v new) (sym is) h

pub kept_handed : (handle : Option CredentialsBuffers) (buffers : AuthIdentityBuffers) {kept new : Option CredentialsBuffers} →
    handle ≡ Some (AuthIdentity buffers) → MayKeep (identity_of buffers) kept new → MayKeep (user_of handle) kept new
kept_handed handle buffers {kept = kept} {new = new} is h = subst (λ x. MayKeep (user_of x) kept new) (sym is) h

pub held_identified : (v : Values) (o : Option Identity) (identity : Identity) {choice : Option Protocol} (new : Values) →
    o ≡ Some identity → MayHave ⊥ (rule_url v identity.username) choice v new → MayHave ⊥ (user_url v o) choice v new
held_identified v o identity {choice = choice} new is h =
    subst (λ (x : Option Identity). MayHave ⊥ (user_url v x) choice v new) (sym is) h

pub kept_identified : (o : Option Identity) (identity : Identity) {kept new : Option CredentialsBuffers} → o ≡ Some identity →
    MayKeep (Some identity) kept new → MayKeep o kept new
kept_identified o identity {kept = kept} {new = new} is h = subst (λ x. MayKeep x kept new) (sym is) h

pub kept_past : (v mid : Values) {user : Option Identity} {new : Option CredentialsBuffers} → mid ≡ v →
    MayKeep user mid.kept new → MayKeep user v.kept new
kept_past v mid {user = user} {new = new} is h = subst (λ (w : Values). MayKeep user w.kept new) is h

-- the first step, from one part to the next
pub need_past : {flags : ClientRequestFlags} {old mid new : Bool} → mid ≡ old → MayNeed flags mid new → MayNeed flags old new
need_past same (as_needed is) = as_needed (is ∙ same)
need_past same (as_asked is) = as_asked is

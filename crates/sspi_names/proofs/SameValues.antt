-- Equality of names, identities and credentials is equality of their values.
use Rattle.std.proofs.Common.{◌≡◌, ℕ, List, Bool, true, ◌&&◌, refl, ap, sym, ◌∙◌, subst}
use Rattle.std.proofs.lemmas.Bool.{and_parts, and_from, false≢true}
use Rattle.std.specs.Cmp.Lexicographic.{bytes_decides}
use Rattle.std.specs.Str.{bytes_eq}
use Rattle.sspi_names.specs.Name.{Name, name_eq}
use Rattle.sspi_names.specs.Equality.{name_eq-equiv}
use Rattle.sspi_names.specs.Same.{ComparesValues}
use Rattle.sspi_names.specs.declared.identity.AuthIdentity.{AuthIdentity}
use Rattle.sspi_names.specs.declared.identity.AuthIdentityBuffers.{AuthIdentityBuffers}
use Rattle.sspi_names.specs.declared.identity.KeytabIdentity.{KeytabIdentity}
use Rattle.sspi_names.specs.declared.credentials.Credentials.{Credentials}
use Rattle.sspi_names.specs.declared.credentials.Credentials.TheVariants as credentials
use Rattle.sspi_names.specs.declared.credentials.CredentialsBuffers.{CredentialsBuffers}
use Rattle.sspi_names.specs.declared.credentials.CredentialsBuffers.TheVariants as buffered
use Rattle.sspi_names.specs.contracts.credentials.CredentialsPartialEq.TheImpl as credentials_impl
use Rattle.sspi_names.specs.contracts.credentials.CredentialsBuffersPartialEq.TheImpl as buffers_impl
use Rattle.sspi_names.proofs.Folded.{equal_names}

-- an equality that implies equality of the values, and holds of each value with itself
decides : {K : Type 0} (same : K → K → Bool) → ((a b : K) → same a b ≡ true → a ≡ b) → ((a : K) → same a a ≡ true) → ComparesValues same
decides {K} same is itself a b = (is a b, λ e. subst (λ (z : K). same a z ≡ true) e (itself a))

pub name_decided : ComparesValues name_eq
name_decided = decides name_eq equal_names name_eq-equiv.refl

same_bytes : (a b : List ℕ) → bytes_eq a b ≡ true → a ≡ b
same_bytes a b e = (bytes_decides a b).0 e

bytes_themselves : (a : List ℕ) → bytes_eq a a ≡ true
bytes_themselves a = (bytes_decides a a).1 refl

-- ---- identities

abbrev same_identity : AuthIdentity → AuthIdentity → Bool
same_identity a b = name_eq a.username b.username && bytes_eq a.password.value b.password.value

identity_of : Name → List ℕ → AuthIdentity
identity_of name password = record { username = name; password = record { value = password } }

identity_again : (i : AuthIdentity) → identity_of i.username i.password.value ≡ i
unfolding identity_of
identity_again i = refl

identity_is : (a b : AuthIdentity) → same_identity a b ≡ true → a ≡ b
identity_is a b e =
    let parts = and_parts _ _ e in
    let same : identity_of a.username a.password.value ≡ identity_of b.username
    b.password.value = rw (equal_names a.username b.username parts.0, same_bytes a.password.value b.password.value parts.1) refl in
    sym (identity_again a) ∙ same ∙ identity_again b

pub identity_decided : ComparesValues same_identity
identity_decided = decides same_identity identity_is (λ a. and_from _ _ (name_eq-equiv.refl a.username) (bytes_themselves a.password.value))

-- ---- keytabs

abbrev same_keytab : KeytabIdentity → KeytabIdentity → Bool
same_keytab a b = name_eq a.username b.username && bytes_eq a.keytab b.keytab

keytab_of : Name → List ℕ → KeytabIdentity
keytab_of name keytab = record { username = name; keytab = keytab }

keytab_again : (i : KeytabIdentity) → keytab_of i.username i.keytab ≡ i
unfolding keytab_of
keytab_again i = refl

keytab_is : (a b : KeytabIdentity) → same_keytab a b ≡ true → a ≡ b
keytab_is a b e =
    let parts = and_parts _ _ e in
    let same : keytab_of a.username a.keytab ≡ keytab_of b.username b.keytab = rw (
      equal_names a.username b.username parts.0,
      same_bytes a.keytab b.keytab parts.1,
    ) refl in
    sym (keytab_again a) ∙ same ∙ keytab_again b

pub keytab_decided : ComparesValues same_keytab
keytab_decided = decides same_keytab keytab_is (λ a. and_from _ _ (name_eq-equiv.refl a.username) (bytes_themselves a.keytab))

-- ---- buffers

abbrev same_buffers : AuthIdentityBuffers → AuthIdentityBuffers → Bool
same_buffers a b = bytes_eq a.user b.user && (bytes_eq a.domain b.domain && bytes_eq a.password.value b.password.value)

buffers_of : List ℕ → List ℕ → List ℕ → AuthIdentityBuffers
buffers_of user domain password = record { user = user; domain = domain; password = record { value = password } }

buffers_again : (b : AuthIdentityBuffers) → buffers_of b.user b.domain b.password.value ≡ b
unfolding buffers_of
buffers_again b = refl

buffers_are : (a b : AuthIdentityBuffers) → same_buffers a b ≡ true → a ≡ b
buffers_are a b e =
    let parts = and_parts _ _ e in
    let others = and_parts _ _ parts.1 in
    let same : buffers_of a.user a.domain a.password.value ≡ buffers_of b.user b.domain b.password.value =
    rw (
      same_bytes a.user b.user parts.0,
      same_bytes a.domain b.domain others.0,
      same_bytes a.password.value b.password.value others.1,
    ) refl in
    sym (buffers_again a) ∙ same ∙ buffers_again b

buffers_themselves : (a : AuthIdentityBuffers) → same_buffers a a ≡ true
buffers_themselves a = and_from _ _ (bytes_themselves a.user) (and_from _ _ (bytes_themselves a.domain) (bytes_themselves a.password.value))

-- ---- credentials

abbrev same_credentials : Credentials → Credentials → Bool
same_credentials = (credentials_impl.ghosts).eq

credentials_are : (a b : Credentials) → same_credentials a b ≡ true → a ≡ b
credentials_are (credentials.AuthIdentity x) (credentials.AuthIdentity y) e =
    ap (λ (i : AuthIdentity). credentials.AuthIdentity i) (identity_is x y e)
credentials_are (credentials.AuthIdentity x) (credentials.Keytab y) e = absurd (false≢true e)
credentials_are (credentials.Keytab x) (credentials.AuthIdentity y) e = absurd (false≢true e)
credentials_are (credentials.Keytab x) (credentials.Keytab y) e = ap (λ (i : KeytabIdentity). credentials.Keytab i) (keytab_is x y e)

credentials_themselves : (a : Credentials) → same_credentials a a ≡ true
credentials_themselves (credentials.AuthIdentity x) = (identity_decided x x).1 refl
credentials_themselves (credentials.Keytab x) = (keytab_decided x x).1 refl

pub credentials_decided : ComparesValues same_credentials
credentials_decided = decides same_credentials credentials_are credentials_themselves

abbrev same_credentials_buffers : CredentialsBuffers → CredentialsBuffers → Bool
same_credentials_buffers = (buffers_impl.ghosts).eq

credentials_buffers_are : (a b : CredentialsBuffers) → same_credentials_buffers a b ≡ true → a ≡ b
credentials_buffers_are (buffered.AuthIdentity x) (buffered.AuthIdentity y) e = ap (λ (b : AuthIdentityBuffers).
    buffered.AuthIdentity b) (buffers_are x y e)
credentials_buffers_are (buffered.AuthIdentity x) (buffered.Keytab y) e = absurd (false≢true e)
credentials_buffers_are (buffered.Keytab x) (buffered.AuthIdentity y) e = absurd (false≢true e)
credentials_buffers_are (buffered.Keytab x) (buffered.Keytab y) e = ap (λ (i : KeytabIdentity). buffered.Keytab i) (keytab_is x y e)

credentials_buffers_themselves : (a : CredentialsBuffers) → same_credentials_buffers a a ≡ true
credentials_buffers_themselves (buffered.AuthIdentity x) = buffers_themselves x
credentials_buffers_themselves (buffered.Keytab x) = (keytab_decided x x).1 refl

pub credentials_buffers_decided : ComparesValues same_credentials_buffers
credentials_buffers_decided = decides same_credentials_buffers credentials_buffers_are credentials_buffers_themselves

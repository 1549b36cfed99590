-- What the steps of plain NTLM come to, when each end is given the other's message.
use Rattle.std.proofs.Common.{◌≡◌, ℕ, ◌+◌, ◌≤◌, ◌<◌, ◌^◌, List, [], ◌∷◌, length, map, filter, find, Bool, true, false, Option, None}
use Rattle.std.proofs.Common.{Some, Ok, option_map, refl, ap, sym, ◌∙◌, arith}
use Rattle.std.proofs.lemmas.Bool.{le-ltb}
use Rattle.std.proofs.lemmas.List.{length-append}
use Rattle.std.proofs.lemmas.Str.{is_utf8-from_IsUtf8}
use Rattle.sha2.proofs.Facts256.{length-sha256}
use Rattle.sspi_names.specs.declared.credentials.Credentials.TheVariants as credentials
use Rattle.sspi_names.specs.declared.credentials.CredentialsBuffers.TheVariants as buffers
use Rattle.sspi_names.specs.declared.format.UserNameFormat.{UserNameFormat}
use Rattle.sspi_names.specs.declared.format.UserNameFormat.TheVariants.{UserPrincipalName, DownLevelLogonName}
use Rattle.sspi_names.specs.declared.identity.AuthIdentity.{AuthIdentity}
use Rattle.sspi_names.specs.Identity.{IsIdentity, buffers_of, identity_of}
use Rattle.sspi_names.specs.Name.{Name, IsName, inner_of, shown}
use Rattle.sspi_names.proofs.Identities.{buffers_back, inner_of-IsUtf8}
use Rattle.sspi_names.proofs.Joined.{inner_back}
use Rattle.sspi_mech.specs.declared.ntlm.stage.Claim.{Claim}
use Rattle.sspi_mech.specs.NtlmClaims.{claim_of}
use Rattle.sspi_mech.specs.NtlmIdentities.{has_password, proves, claimed_key}
use Rattle.sspi_mech.specs.NtlmMessages.{proof_of, key_of, authenticate_message}
use Rattle.sspi_mech.specs.NtlmSteps.{login_by, login_of}
use Rattle.sspi_mech.proofs.Messages.{authenticate_is_read}
use Rattle.sspi_mech.proofs.Opened.{same_bytes}

-- the client's last token: its name and its proof
abbrev pub last_token : AuthIdentity → List ℕ → List ℕ
last_token i challenge = authenticate_message (inner_of i.username) (proof_of challenge (inner_of i.username) i.password.value)

-- a name is as long as its parts and what joins them
shown_length : (format : UserNameFormat) (account domain : List ℕ) →
    length (shown format account domain) ≤ length account + length domain + 1
shown_length UserPrincipalName account domain = let e = length-append account (64 ∷ domain) in omega arith
shown_length DownLevelLogonName account [] = omega arith
shown_length DownLevelLogonName account (b ∷ domain) = let e = length-append (b ∷ domain) (92 ∷ account) in omega arith

pub inner_length : (n : Name) → length (inner_of n) ≤ length n.account + length n.domain + 1
unfolding inner_of
inner_length n = shown_length n.format n.account n.domain

pub proof_length : (challenge name password : List ℕ) → length (proof_of challenge name password) ≡ 32
unfolding proof_of
proof_length challenge name password = length-sha256 _

pub token_length : (i : AuthIdentity) (challenge : List ℕ) → length (inner_of i.username) ≤ 49153 → length (last_token i challenge) ≤ 49189
token_length i challenge short =
    let name = inner_of i.username in
    let proof = proof_of challenge name i.password.value in
    let whole = length-append name proof in
    let long = proof_length challenge name i.password.value in
    omega (arith, short, whole, long)

-- ---- the client's last step

named : (x : Option Name) (password : List ℕ) (i : AuthIdentity) →
    option_map (λ name. record { username = name; password = record { value = password } }) x ≡ Some i →
    length (inner_of i.username) ≤ 65535 → login_by x password ≡ Ok (record { name = i.username; password = i.password.value })
named None password i e short = absurd cc
named (Some n) password i e short =
    let whole : AuthIdentity = record { username = n; password = record { value = password } } in
    let same : whole ≡ i = cc in
    let name : n ≡ i.username = ap (λ (x : AuthIdentity). x.username) same in
    let secret : password ≡ i.password.value = ap (λ (x : AuthIdentity). x.password.value) same in
    rw (name, secret, le-ltb 65535 (length (inner_of i.username)) short) refl

-- a client logs on under the name and the password that it was made with
pub logs_on : (i : AuthIdentity) → IsIdentity i → length (inner_of i.username) ≤ 65535 →
    login_of (Some (buffers.AuthIdentity (buffers_of i))) ≡ Ok (record { name = i.username; password = i.password.value })
unfolding identity_of
logs_on i is short = named _ _ i (buffers_back i is) short

-- ---- the server's last step

-- the message of that client is the claim of its name
pub claimed : (n : Name) (proof : List ℕ) → IsName n → length (inner_of n) < 2 ^ 16 → length proof ≡ 32 →
    claim_of (authenticate_message (inner_of n) proof) ≡ Ok (record { name = n; text = inner_of n; proof = proof })
claimed n proof is short long =
    rw (authenticate_is_read (inner_of n) proof short long, is_utf8-from_IsUtf8 (inner_of n) (inner_of-IsUtf8 n is), inner_back n is) refl

-- ---- the identity that the server finds

-- the elements that pass a test begin with the first that does
pub first_found : {A : Type 0} (test : A → Bool) (xs : List A) (x : A) → find test xs ≡ Some x → (rest : List A) ×
    (filter test xs ≡ x ∷ rest)
first_found test [] x found = absurd cc
first_found test (y ∷ ys) x found = at test y ys x (test y) refl found (first_found test ys x)
  where
    at : {A : Type 0} (test : A → Bool) (y : A) (ys : List A) (x : A) (b : Bool) → test y ≡ b → find test (y ∷ ys) ≡ Some x →
        (find test ys ≡ Some x → (rest : List A) × (filter test ys ≡ x ∷ rest)) → (rest : List A) × (filter test (y ∷ ys) ≡ x ∷ rest)
    at test y ys x true is found later = let here : Some y ≡ Some x = rw is at found in let same : y ≡ x =
        cc in (filter test ys, rw (is, same) refl)
    at test y ys x false is found later = let there : find test ys ≡ Some x = rw is at found in let e = later there in (e.0, rw is e.1)

key_found : (challenge : List ℕ) (claim : Claim) (e : AuthIdentity) (rest : List AuthIdentity) →
    proves challenge claim (credentials.AuthIdentity e) ≡ true →
    claimed_key challenge claim (filter has_password (map credentials.AuthIdentity (e ∷ rest))) ≡ Ok
    (key_of challenge claim.text e.password.value)
key_found challenge claim e rest right = rw right refl

-- the key of the claim, if the first candidate has the client's password
pub key_is : (challenge : List ℕ) (claim : Claim) (password : List ℕ) (e : AuthIdentity) (rest : List AuthIdentity) →
    claim.proof ≡ proof_of challenge claim.text password → e.password.value ≡ password →
    claimed_key challenge claim (filter has_password (map credentials.AuthIdentity (e ∷ rest))) ≡ Ok (key_of challenge claim.text password)
key_is challenge claim password e rest made same =
    let right : proves challenge claim (credentials.AuthIdentity e) ≡ true =
    same_bytes _ _ (ap (λ p. proof_of challenge claim.text p) same ∙ sym made) in
    key_found challenge claim e rest right ∙ ap (λ p. Ok (key_of challenge claim.text p)) same

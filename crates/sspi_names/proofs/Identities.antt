-- An identity and its buffers: the buffers convert back to the identity.
use Rattle.std.proofs.Common.{◌≡◌, ℕ, ◌<◌, List, [], ◌∷◌, ◌++◌, Some, refl, sym, ap, ◌∙◌, subst, arith}
use Rattle.std.specs.Str.{IsUtf8}
use Rattle.std.proofs.lemmas.Str.{IsUtf8-append, IsUtf8-from_ascii, IsUtf8-nil}
use Rattle.std.proofs.lemmas.Str.Ascii.{IsAscii-cons, IsAscii-nil}
use Rattle.sspi_names.specs.Name.{Name, IsName, IsAllowed, inner_of, shown, new_name, at_sign, backslash}
use Rattle.sspi_names.specs.Utf16.{units_of, text_of, IsUtf16}
use Rattle.sspi_names.specs.Identity.{user_text, domain_text, buffers_of, identity_of, IsIdentity, AreBuffers}
use Rattle.sspi_names.specs.declared.format.UserNameFormat.{UserNameFormat}
use Rattle.sspi_names.specs.declared.format.UserNameFormat.TheVariants.{UserPrincipalName, DownLevelLogonName}
use Rattle.sspi_names.specs.declared.identity.AuthIdentity.{AuthIdentity}
use Rattle.sspi_names.proofs.CodeUnits.{text_of-units_of, units_of-IsUtf16}
use Rattle.sspi_names.proofs.Joined.{inner_back, parts_back}

-- a text around one ASCII character
utf8_around : (xs ys : List ℕ) (c : ℕ) → c < 128 → IsUtf8 xs → IsUtf8 ys → IsUtf8 (xs ++ c ∷ ys)
utf8_around xs ys c ascii first last =
    IsUtf8-append xs (c ∷ ys) first (IsUtf8-append (c ∷ []) ys (IsUtf8-from_ascii (c ∷ []) (IsAscii-cons c [] ascii IsAscii-nil)) last)

shown_text : (format : UserNameFormat) (account domain : List ℕ) → IsUtf8 account → IsUtf8 domain → IsUtf8 (shown format account domain)
shown_text UserPrincipalName account domain a d = utf8_around account domain at_sign (omega arith) a d
shown_text DownLevelLogonName account [] a d = a
shown_text DownLevelLogonName account (b ∷ domain) a d = utf8_around (b ∷ domain) account backslash (omega arith) d a

pub inner_of-IsUtf8 : (n : Name) → IsName n → IsUtf8 (inner_of n)
unfolding inner_of
inner_of-IsUtf8 n h = shown_text n.format n.account n.domain h.account_text h.domain_text

user_utf8 : (format : UserNameFormat) (n : Name) → IsName n → IsUtf8 (user_text format n)
user_utf8 UserPrincipalName n h = inner_of-IsUtf8 n h
user_utf8 DownLevelLogonName n h = h.account_text

domain_utf8 : (format : UserNameFormat) (n : Name) → IsName n → IsUtf8 (domain_text format n)
domain_utf8 UserPrincipalName n h = IsUtf8-nil
domain_utf8 DownLevelLogonName n h = h.domain_text

parts_of : (format : UserNameFormat) (n : Name) → n.format ≡ format → IsName n →
    new_name (user_text format n) (domain_text format n) ≡ Some n
unfolding new_name
parts_of UserPrincipalName n is h = inner_back n h
parts_of DownLevelLogonName n is h =
    let allowed : IsAllowed DownLevelLogonName n.account n.domain = subst (λ f. IsAllowed f n.account n.domain) is h.allowed in
    parts_back n.account n.domain allowed.0 allowed.1
    ∙ ap (λ f. Some (record { format = f; account = n.account; domain = n.domain })) (sym is)

pub identity_by : (i : AuthIdentity) (user domain password : List ℕ) → IsIdentity i
    → user ≡ units_of (user_text i.username.format i.username) → domain ≡ units_of (domain_text i.username.format i.username) →
    password ≡ units_of i.password.value
    → identity_of (record { user = user; domain = domain; password = record { value = password } }) ≡ Some i
unfolding identity_of
identity_by i user domain password h u d p =
    let n = i.username in
    let user_is : text_of user ≡ user_text n.format n = ap text_of u ∙ text_of-units_of _ (user_utf8 n.format n h.name) in
    let domain_is : text_of domain ≡ domain_text n.format n = ap text_of d ∙ text_of-units_of _ (domain_utf8 n.format n h.name) in
    let password_is : text_of password ≡ i.password.value = ap text_of p ∙ text_of-units_of _ h.password_text in
    rw (user_is, domain_is, password_is, parts_of n.format n refl h.name)

-- the buffers of an identity convert back to it
pub buffers_back : (i : AuthIdentity) → IsIdentity i → identity_of (buffers_of i) ≡ Some i
unfolding buffers_of
buffers_back i h = identity_by i _ _ _ h refl refl refl

pub buffers_by : (i : AuthIdentity) (user domain password : List ℕ) → IsIdentity i
    → user ≡ units_of (user_text i.username.format i.username) → domain ≡ units_of (domain_text i.username.format i.username) →
    password ≡ units_of i.password.value
    → AreBuffers (record { user = user; domain = domain; password = record { value = password } })
buffers_by i user domain password h u d p = record {
  user_text = subst IsUtf16 (sym u) (units_of-IsUtf16 _ (user_utf8 i.username.format i.username h.name));
  domain_text = subst IsUtf16 (sym d) (units_of-IsUtf16 _ (domain_utf8 i.username.format i.username h.name));
  password_text = subst IsUtf16 (sym p) (units_of-IsUtf16 _ h.password_text);
}

pub buffers_of-AreBuffers : (i : AuthIdentity) → IsIdentity i → AreBuffers (buffers_of i)
unfolding buffers_of
buffers_of-AreBuffers i h = buffers_by i _ _ _ h refl refl refl

-- User names. The two forms of MS-ADTS 5.1.1.1.1 and the Windows user name formats are a grammar
-- over texts in UTF-8:
--
--     name       = principal / down-level
--     principal  = account "@" domain         the last "@" splits it; no "\"
--     down-level = [ domain "\" ] account     no "@" and no further "\"
use Rattle.std.specs.Prelude.{◌≡◌, ◌++◌, ◌==◌, ◌&&◌, ◌||◌, ℕ, List, [], ◌∷◌, Bool, false, Option}
use Rattle.std.specs.Prelude.{Some, None, map, if◌then◌else◌, true}
use Rattle.std.specs.Char.{to_ascii_lowercase}
use Rattle.std.specs.List.{list_any, before_first, after_first, before_last, after_last}
use Rattle.std.specs.Str.{IsUtf8, bytes_eq}
use Rattle.sspi_types.specs.declared.error.Error.{Error}
use Rattle.sspi_types.specs.declared.error_kind.ErrorKind.TheVariants.{UnknownCredentials}
use Rattle.sspi_types.specs.declared.error_kind.ErrorKind.TheVariants.{InvalidParameter}
use Rattle.sspi_types.specs.declared.reason.Reason.TheVariants.{UserName}
use Rattle.sspi_types.specs.Errors.{memory_error}
use Rattle.sspi_names.specs.declared.error.UsernameError.{UsernameError}
use Rattle.sspi_names.specs.declared.error.UsernameError.TheVariants as username
use Rattle.sspi_names.specs.declared.format.UserNameFormat.{UserNameFormat}
use Rattle.sspi_names.specs.declared.format.UserNameFormat.TheVariants.{UserPrincipalName}
use Rattle.sspi_names.specs.declared.format.UserNameFormat.TheVariants.{DownLevelLogonName}

-- a user name, with its texts in UTF-8
pub record Name : Type 0 where
  pub format : UserNameFormat
  pub account : List ℕ
  pub domain : List ℕ

abbrev pub principal : List ℕ → List ℕ → Name
principal account domain = record { format = UserPrincipalName; account = account; domain = domain }

abbrev pub down_level : List ℕ → List ℕ → Name
down_level account domain = record {
  format = DownLevelLogonName;
  account = account;
  domain = domain;
}

-- the codes of `@` and `\`
abbrev pub at_sign : ℕ
at_sign = 64

abbrev pub backslash : ℕ
backslash = 92

abbrev pub is_at_sign : ℕ → Bool
is_at_sign b = b == at_sign

abbrev pub is_backslash : ℕ → Bool
is_backslash b = b == backslash

-- whether a text contains `@`, `\`, or either
abbrev pub has_at_sign : List ℕ → Bool
has_at_sign text = list_any is_at_sign text

abbrev pub has_backslash : List ℕ → Bool
has_backslash text = list_any is_backslash text

abbrev pub has_separator : List ℕ → Bool
has_separator text = has_at_sign text || has_backslash text

-- the name that a text is, or none if the text mixes the forms
unfoldable pub parse_name : List ℕ → Option Name
parse_name text =
    if has_at_sign text
    then (if has_backslash text then None
    else Some (principal (before_last is_at_sign text) (after_last is_at_sign text)))
    else if has_backslash text
    then (if has_backslash (after_first is_backslash text)
    then None
    else Some (down_level (after_first is_backslash text) (before_first is_backslash text)))
    else Some (down_level text [])

-- the name of an account and a domain given separately; an empty domain counts as none
unfoldable pub new_name : List ℕ → List ℕ → Option Name
new_name account [] = parse_name account
new_name account (b ∷ domain) =
    if has_separator account || has_separator (b ∷ domain) then None
    else Some (down_level account (b ∷ domain))

-- the one text that shows a name
abbrev pub shown : UserNameFormat → List ℕ → List ℕ → List ℕ
shown UserPrincipalName account domain = account ++ at_sign ∷ domain
shown DownLevelLogonName account [] = account
shown DownLevelLogonName account (b ∷ domain) = (b ∷ domain) ++ backslash ∷ account

unfoldable pub inner_of : Name → List ℕ
inner_of n = shown n.format n.account n.domain

-- the domain, which a down-level name may lack
abbrev pub domain_by : UserNameFormat → List ℕ → Option (List ℕ)
domain_by UserPrincipalName domain = Some domain
domain_by DownLevelLogonName [] = None
domain_by DownLevelLogonName (b ∷ domain) = Some (b ∷ domain)

unfoldable pub domain_of : Name → Option (List ℕ)
domain_of n = domain_by n.format n.domain

-- the texts that the grammar allows in a name of either form
abbrev pub IsAllowed : UserNameFormat → List ℕ → List ℕ → Type 0
IsAllowed UserPrincipalName account domain = (has_backslash account ≡ false) ×
    (has_separator domain ≡ false)
IsAllowed DownLevelLogonName account domain = (has_separator account ≡ false) ×
    (has_separator domain ≡ false)

-- what is true of each name that is made
pub record IsName (n : Name) : Type 0 where
  pub allowed : IsAllowed n.format n.account n.domain
  pub account_text : IsUtf8 n.account
  pub domain_text : IsUtf8 n.domain

-- a text with its ASCII letters in lower case
abbrev pub folded : List ℕ → List ℕ
folded text = map to_ascii_lowercase text

abbrev pub same_text : List ℕ → List ℕ → Bool
same_text a b = bytes_eq (folded a) (folded b)

-- whether two forms of a name are the same
abbrev pub same_format : UserNameFormat → UserNameFormat → Bool
same_format UserPrincipalName UserPrincipalName = true
same_format UserPrincipalName DownLevelLogonName = false
same_format DownLevelLogonName UserPrincipalName = false
same_format DownLevelLogonName DownLevelLogonName = true

-- whether two names have the same form, and texts that the given test finds the same
abbrev pub by_parts : (List ℕ → List ℕ → Bool) → Name → Name → Bool
by_parts same a b = same_format a.format b.format &&
    (same a.account b.account && same a.domain b.domain)

-- whether two names are equal
unfoldable pub name_eq : Name → Name → Bool
name_eq = by_parts bytes_eq

-- whether two names are equal, ignoring the case of ASCII letters
unfoldable pub equals_ignoring_case : Name → Name → Bool
equals_ignoring_case = by_parts same_text

-- ---- what a refused name becomes

abbrev pub mixed_format : Error
mixed_format = record { error_type = UnknownCredentials; description = UserName; nstatus = None }

-- a name of mixed format in the buffers of an identity
abbrev pub bad_name : Error
bad_name = record { error_type = InvalidParameter; description = UserName; nstatus = None }

abbrev pub username_refusal : UsernameError → Error
username_refusal username.MixedFormat = mixed_format
username_refusal username.InsufficientMemory = memory_error

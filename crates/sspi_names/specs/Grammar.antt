-- The grammar of user names, as a relation between a text and a name.
use Rattle.std.specs.Prelude.{◌≡◌, ◌++◌, ◌⊎◌, ℕ, List, [], ◌∷◌, true}
use Rattle.std.specs.List.{after_first}
use Rattle.sspi_names.specs.Name.{Name, IsAllowed, folded, at_sign, backslash, is_backslash}
use Rattle.sspi_names.specs.Name.{has_at_sign, has_backslash}
use Rattle.sspi_names.specs.declared.format.UserNameFormat.{UserNameFormat}
use Rattle.sspi_names.specs.declared.format.UserNameFormat.TheVariants.{UserPrincipalName}
use Rattle.sspi_names.specs.declared.format.UserNameFormat.TheVariants.{DownLevelLogonName}

-- how a name of each form is written
abbrev pub IsForm : UserNameFormat → List ℕ → List ℕ → List ℕ → Type 0
IsForm UserPrincipalName account domain text = text ≡ account ++ at_sign ∷ domain
IsForm DownLevelLogonName account domain text = (text ≡ domain ++ backslash ∷ account) ⊎
    ((domain ≡ []) × (text ≡ account))

-- the text is this name
pub record IsSpelled (text : List ℕ) (n : Name) : Type 0 where
  pub form : IsForm n.format n.account n.domain text
  pub allowed : IsAllowed n.format n.account n.domain

-- the text has both separators, or a `\` after its first one
abbrev pub IsMixed : List ℕ → Type 0
IsMixed text =
    ((has_at_sign text ≡ true) × (has_backslash text ≡ true)) ⊎
    (has_backslash (after_first is_backslash text) ≡ true)

-- the names are equal, ignoring the case of ASCII letters
pub record IsSameName (a b : Name) : Type 0 where
  pub format : a.format ≡ b.format
  pub account : folded a.account ≡ folded b.account
  pub domain : folded a.domain ≡ folded b.domain

-- How many bytes TSCredentials take, from the sizes of their texts.
use Rattle.std.specs.Prelude.{ℕ, ◌+◌, ◌≤◌}
use Rattle.sspi_ber.specs.Forms.{max_content}
use Rattle.sspi_ber.specs.Short.{element_size}

-- the content of TSPasswordCreds
abbrev pub password_fields_size : ℕ → ℕ → ℕ → ℕ
password_fields_size domain user password = element_size (element_size domain) +
    (element_size (element_size user) + element_size (element_size password))

-- the content of TSCredentials
abbrev pub body_size : ℕ → ℕ → ℕ → ℕ
body_size domain user password = 5 + element_size
    (element_size (element_size (password_fields_size domain user password)))

-- each element fits into the one around it
pub record FitTexts (domain user password : ℕ) : Type 0 where
  pub domain_text : domain ≤ max_content
  pub domain_octets : element_size domain ≤ max_content
  pub user_text : user ≤ max_content
  pub user_octets : element_size user ≤ max_content
  pub password_text : password ≤ max_content
  pub password_octets : element_size password ≤ max_content
  pub fields : password_fields_size domain user password ≤ max_content
  pub sequence : element_size (password_fields_size domain user password) ≤ max_content
  pub octets : element_size (element_size (password_fields_size domain user password)) ≤ max_content
  pub body : body_size domain user password ≤ max_content

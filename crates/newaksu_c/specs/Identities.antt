-- What the calls on a list of identities do.
use Rattle.std.specs.Prelude.{◌≡◌, ◌≢◌, ℕ, ◌++◌, List, [], ◌∷◌, Option, None, Some, Result, Ok, Err}
use Rattle.sspi_names.specs.declared.identity.AuthIdentity.{AuthIdentity}
use Rattle.newaksu_c.specs.declared.object.Object.{Object}
use Rattle.newaksu_c.specs.declared.object.Object.TheVariants.{Identities}
use Rattle.newaksu_c.specs.Status.{ok, invalid_handle, insufficient_memory}

-- the identity is added at the end of the list, or not, if memory runs out or it is refused
pub record Adds (list : List AuthIdentity) (identity : Result AuthIdentity ℕ)
    (before after : Option Object) (status : ℕ) : Type 0 where
  pub added : status ≡ ok → (it : AuthIdentity) × (identity ≡ Ok it) ×
      (after ≡ Some (Identities (list ++ it ∷ [])))
  pub kept : status ≢ ok → after ≡ before
  pub cause : status ≢ ok → status ≢ insufficient_memory → identity ≡ Err status

abbrev pub HasAdded : Option (List AuthIdentity) → Result AuthIdentity ℕ → Option Object →
    Option Object → ℕ → Type 0
HasAdded None identity before after status = (status ≡ invalid_handle) × (after ≡ before)
HasAdded (Some list) identity before after status = Adds list identity before after status

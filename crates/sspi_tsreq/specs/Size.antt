-- Sizes that are exact up to the limit, and past it when the exact size is.
use Rattle.std.specs.Prelude.{◌≡◌, ℕ, ◌<◌, ◌≤◌}
use Rattle.sspi_ber.specs.Forms.{max_content}
use Rattle.sspi_ber.specs.Short.{element_size}

pub record IsCapped (size exact : ℕ) : Type 0 where
  pub same : exact ≤ max_content → size ≡ exact
  pub past : max_content < exact → max_content < size

-- A token of n bytes fits into each of the elements around it.
pub record IsTokenSize (n : ℕ) : Type 0 where
  pub octets : n ≤ max_content
  pub inner : element_size n ≤ max_content
  pub item : element_size (element_size n) ≤ max_content
  pub list : element_size (element_size (element_size n)) ≤ max_content
  pub field : element_size (element_size (element_size (element_size n))) ≤ max_content

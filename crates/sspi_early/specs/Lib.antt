pub mod Policy
pub mod Heard
pub mod Hearing
pub mod Authorizes
pub mod Early
pub mod Completes

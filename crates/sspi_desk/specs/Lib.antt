pub mod Call
pub mod Refusing
pub mod Alone
pub mod Desk
pub mod Proving
pub mod All

pub mod Judged
pub mod Turns
pub mod Decided

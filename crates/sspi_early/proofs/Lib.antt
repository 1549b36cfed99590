pub mod Taking
pub mod Heard
pub mod Honest
pub mod Undisturbed

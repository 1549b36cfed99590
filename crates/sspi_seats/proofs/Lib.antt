pub mod Lists
pub mod Turning
pub mod Speaking
pub mod Seating
pub mod Leaving
pub mod OneKind

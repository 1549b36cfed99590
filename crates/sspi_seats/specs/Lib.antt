pub mod Messages
pub mod Outcomes
pub mod Seat
pub mod Guest
pub mod Hearing
pub mod Table
pub mod Sessions
pub mod Keeping

pub mod Front
pub mod Way
pub mod Next
pub mod Step
pub mod Relay
pub mod Decided

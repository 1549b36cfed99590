pub mod Examples
pub mod Matching
pub mod Negotiating
pub mod Worked
pub mod WorkedOut
pub mod Answered
pub mod LastMic

pub mod Telling
pub mod PlayLines
pub mod SummaryLines
pub mod SeatLines

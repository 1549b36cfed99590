pub mod Frames
pub mod Left
pub mod Refusals
pub mod Run
pub mod RunVerdicts
pub mod Shown
pub mod Standings
pub mod Verdicts

pub mod Channel
pub mod Sides
pub mod Reading
pub mod Writing
pub mod Answers
pub mod Pasts
pub mod Fresh
pub mod Steps

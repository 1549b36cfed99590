pub mod Carrying
pub mod Stepping
pub mod Stopping
pub mod Calling
pub mod Newly

pub mod Buffers
pub mod Pair
pub mod Messages
pub mod Protecting
pub mod Unsupported

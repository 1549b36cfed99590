pub mod Front
pub mod Taking
pub mod Parts

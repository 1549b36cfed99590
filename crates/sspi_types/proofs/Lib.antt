pub mod BufferTypeBits
pub mod Numbers
pub mod Places
pub mod Variants

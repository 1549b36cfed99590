pub mod Forms
pub mod Pieces
pub mod Kinds
pub mod Outside
pub mod Sized
pub mod Short
pub mod Identifier

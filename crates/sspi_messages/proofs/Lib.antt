pub mod Asked
pub mod Left
pub mod Long
pub mod Pairs

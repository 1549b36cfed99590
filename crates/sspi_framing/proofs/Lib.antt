pub mod Wanted
pub mod Headers
pub mod Contents
pub mod Whole
pub mod Fronts

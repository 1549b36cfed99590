pub mod Coming
pub mod Said
mod Fronts

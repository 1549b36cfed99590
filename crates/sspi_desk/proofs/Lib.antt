pub mod Sessions
mod Proved
mod Serving
mod Kept

pub mod Oids
pub mod Nested
pub mod Grammar
pub mod Reading
pub mod Parts
pub mod Spelling
pub mod Writing
pub mod Answers

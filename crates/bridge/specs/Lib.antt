pub mod States
pub mod Soundness
pub mod Answers
pub mod Shelves

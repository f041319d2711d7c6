pub mod CommandTexts
pub mod Commands
pub mod Answers
pub mod Inputs
pub mod Echoes

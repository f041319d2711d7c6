pub mod Splitting
pub mod Fields
pub mod OwnTexts
pub mod CommandLines
pub mod Echoing

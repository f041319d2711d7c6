pub mod Writing
pub mod Printing

pub mod Checking
pub mod Finding
pub mod Tickets
pub mod Seeing

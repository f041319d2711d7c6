pub mod Leading
pub mod Starting
pub mod Refused
pub mod Listing
pub mod Called
pub mod Answered

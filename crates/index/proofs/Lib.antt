pub mod Changes
pub mod Leasts
pub mod Nth
pub mod Orders
pub mod Ranked
pub mod Slots

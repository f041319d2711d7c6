pub mod Agreement
pub mod Calls
pub mod Each
pub mod Limits
pub mod Opening
pub mod Refusals
pub mod Walking

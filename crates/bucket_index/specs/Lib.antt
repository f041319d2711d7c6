pub mod Buckets
pub mod Chains
pub mod Limits
pub mod Slots

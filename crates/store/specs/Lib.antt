pub mod Law
pub mod Tickets
pub mod Lists

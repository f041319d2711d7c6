pub mod Orders
pub mod Refusals
pub mod VehicleDigits
pub mod VehicleOrder
pub mod Vehicles

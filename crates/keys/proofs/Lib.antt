pub mod VehicleDigits

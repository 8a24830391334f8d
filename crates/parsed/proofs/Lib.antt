pub mod Bounds
pub mod Placing

pub mod Fields
pub mod Shown
pub mod Tables
pub mod Readings
pub mod Faults
pub mod Refusals
pub mod Judge
pub mod Chain

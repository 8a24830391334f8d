pub mod Put
pub mod Slots
pub mod Records
pub mod Fitting

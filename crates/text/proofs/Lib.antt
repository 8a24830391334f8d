pub mod Heads
pub mod Runs
pub mod Cutting
pub mod Tables
pub mod Ends

pub mod Machine
pub mod Contents
pub mod Skips
pub mod Cuts
pub mod Whole

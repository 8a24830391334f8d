pub mod Chars
pub mod Cuts

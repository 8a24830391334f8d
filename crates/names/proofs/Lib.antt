pub mod Alike
pub mod Entries
pub mod Taken

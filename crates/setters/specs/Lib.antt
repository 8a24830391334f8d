pub mod Names
pub mod Setters
pub mod Laws

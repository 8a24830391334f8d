pub mod Examples
mod Hours
mod Listed
pub mod Refused

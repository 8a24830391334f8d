pub mod Words
pub mod Fields
pub mod Commands
pub mod Lines

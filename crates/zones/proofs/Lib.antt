pub mod Places
pub mod Named

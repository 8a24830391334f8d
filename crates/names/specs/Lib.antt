pub mod Days
pub mod Names

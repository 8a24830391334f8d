pub mod Kinds
pub mod Steps
pub mod Singles
pub mod Numbers
pub mod Precisions
pub mod Letters

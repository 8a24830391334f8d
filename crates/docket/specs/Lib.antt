pub mod Entries
pub mod Noted
pub mod Listed
pub mod Shown
pub mod Held
pub mod Pushed

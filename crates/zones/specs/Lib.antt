pub mod Separators
pub mod Offsets
pub mod Signs
pub mod Mail
pub mod ColonSeparatorLemmas

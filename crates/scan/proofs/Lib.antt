pub mod Digits
pub mod Fractions
pub mod Leaves
pub mod Marks
pub mod Words

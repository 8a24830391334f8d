pub mod Comments
pub mod Grammar

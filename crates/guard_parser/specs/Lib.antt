pub mod Grammar
pub mod File
pub mod code

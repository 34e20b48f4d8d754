pub mod Outside
pub mod code

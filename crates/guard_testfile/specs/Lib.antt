pub mod code
pub mod Cases
pub mod Refusals
pub mod Shape
pub mod Texts

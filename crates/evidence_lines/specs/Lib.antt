pub mod Headers
pub mod Lines
pub mod Shapes
pub mod Versioned
pub mod code

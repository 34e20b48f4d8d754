pub mod Blocks
mod Controls
pub mod LookUps
pub mod Places

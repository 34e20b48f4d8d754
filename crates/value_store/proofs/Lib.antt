pub mod Beyond
pub mod HeldPatterns
mod KeptLiterals
mod MadeLists
pub mod Nodes
pub mod Patternless

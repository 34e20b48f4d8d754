-- What serves the code and its proofs alone: nobody has to believe it.
pub mod Cuts
pub mod LiteralDepth
pub mod LiteralReading
pub mod LiteralReads
pub mod Parser
pub mod Reads
pub mod TokenClasses

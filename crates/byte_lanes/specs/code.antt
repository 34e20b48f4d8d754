-- What serves the code and its proofs alone: nobody has to believe it.
pub mod Controls
pub mod LineStarts
pub mod Members
pub mod Tables

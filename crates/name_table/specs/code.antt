-- What serves the code and its proofs alone: nobody has to believe it.
pub mod Measured
pub mod Measures
pub mod Picked
pub mod Refused
pub mod Tables

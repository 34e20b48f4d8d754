-- What serves the code and its proofs alone: nobody has to believe it.
pub mod Agreement
pub mod Digits
pub mod Dots
pub mod Endings
pub mod Refusals

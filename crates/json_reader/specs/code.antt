-- What serves the code and its proofs alone: nobody has to believe it.
pub mod Memory
pub mod Numbers
pub mod Reading
pub mod Refused
pub mod Steps

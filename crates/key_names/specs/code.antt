-- What serves the code and its proofs alone: nobody has to believe it.
pub mod NameSlots
pub mod Names
pub mod TextNumbers

-- What serves the code and its proofs alone: nobody has to believe it.
pub mod Entries
pub mod Making
pub mod Meetings
pub mod Settled

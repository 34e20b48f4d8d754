-- What serves the code and its proofs. Public clauses name `Memory`, by which want of memory is told only where a line is to be
-- held; nobody has to believe the rest.
pub mod Memory
pub mod Reading
pub mod Seen

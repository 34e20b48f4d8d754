-- What serves the code and its proofs alone: nobody has to believe it.
pub mod Cells
pub mod Entering
pub mod Filled
pub mod Frames
pub mod Scoping
pub mod Seen

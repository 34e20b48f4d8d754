-- What serves the code and its proofs alone: nobody has to believe it.
pub mod HeldTrees
pub mod KnownLines
pub mod LineFails

-- What serves the code and its proofs alone: nobody has to believe it.
pub mod Printing
pub mod RulePieces
pub mod Spellable

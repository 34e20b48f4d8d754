-- What serves the code and its proofs alone: nobody has to believe it.
pub mod FileEdges
pub mod FilterEdges
pub mod OwnEdges
pub mod RuleIndexes

pub mod CountLemmas
pub mod DrillCounts
pub mod SpellingLemmas
pub mod WalkSteps
pub mod TakenWords
pub mod RequestLemmas

pub mod BlockTexts
mod Examples
pub mod LinesInTurn
pub mod Merging
pub mod PartTexts
pub mod PartsAppended
pub mod TextInPieces
pub mod KeptApart
pub mod SoundWords
pub mod GrammarSpelled

pub mod NumeralEnds
pub mod TokenEnds
pub mod PieceTokens
pub mod Quotes
pub mod Words
pub mod Escapes
pub mod Zeros
pub mod Decimals
pub mod NumberWords
pub mod Apart
pub mod MeantWords
mod Examples
pub mod Opened

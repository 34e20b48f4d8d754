mod LeanLines
mod LinesPlaced
mod RulesInTurn
mod RulesListed
mod SoundLines
mod VerdictsListed

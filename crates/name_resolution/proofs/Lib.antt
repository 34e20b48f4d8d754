mod LinksInTurn
mod HomesInTurn

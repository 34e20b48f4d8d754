mod LeadsInTurn
mod EdgesToParts
mod StepsAt
mod CycleFaults
mod LastSteps
mod BodyEdges
mod EdgesInTurn

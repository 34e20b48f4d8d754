pub mod InARow
pub mod QueryStarts
mod KeywordTable
mod NodeTexts
mod NodesWithin

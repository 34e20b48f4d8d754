pub mod Agree
pub mod AgreeLess
pub mod BlockFed
pub mod BlockHeads
pub mod BlockLaw
pub mod BlockLonger
pub mod BlockShown
mod BlockStays
pub mod BlockTorn
pub mod ColonKept
pub mod DotEscapes
pub mod DotFilled
pub mod DotLines
pub mod DotPieces
pub mod DotPlain
pub mod DotQuoted
pub mod Dotless
pub mod Dotted
pub mod EscapeLonger
mod EscapeWanted
mod Examples
mod FlowFed
pub mod KeyGrown
pub mod KeyLines
pub mod KeyReturned
pub mod LineEnds
pub mod Longer
pub mod PlainClosed
pub mod PlainDead
mod PlainEnds
pub mod PlainFed
mod PlainFollowed
pub mod PlainLaw
pub mod PlainLettered
pub mod PlainLines
pub mod PlainLonger
pub mod PlainPointed
mod PlainReached
pub mod PlainShown
pub mod PlainStays
mod QuotedAlike
mod QuotedBounds
mod QuotedDead
mod QuotedEnds
mod QuotedFollowed
pub mod QuotedLaw
pub mod QuotedLonger
mod QuotedStays
pub mod Returns
pub mod ScalarEnds
pub mod ScalarFollowed
pub mod ScalarLaw
mod ScalarLonger
pub mod ScalarStays
mod SyntaxLaw

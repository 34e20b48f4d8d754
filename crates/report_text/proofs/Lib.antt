pub mod Appended
mod LoopBytes
pub mod Downwards
pub mod LineStarts
pub mod RuleNames
mod ShownTexts
pub mod DataPaths

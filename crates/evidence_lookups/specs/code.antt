-- What serves the code and its proofs alone: nobody has to believe it.
pub mod FoundRows
pub mod Grounds
pub mod JudgedSites
pub mod Owned
pub mod Places
pub mod Said
pub mod Tables

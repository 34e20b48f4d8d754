pub mod Conjoined
mod FirstSites
pub mod FramePlaces

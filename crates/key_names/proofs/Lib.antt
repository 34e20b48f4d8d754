pub mod TextLinks
pub mod NameSlots
pub mod Table
pub mod Joining

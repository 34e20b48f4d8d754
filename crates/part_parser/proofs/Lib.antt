pub mod Rooms
pub mod CodeSteps
pub mod BodySteps
pub mod SeenForms
pub mod Leads

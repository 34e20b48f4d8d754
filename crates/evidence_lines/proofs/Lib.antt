pub mod HeldLines
pub mod NodeRows
pub mod SameRows

-- What the laws of this crate cite, and what serves the proofs.
pub mod Shown
pub mod PrintedDepth
pub mod Unplaced

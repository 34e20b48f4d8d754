-- What serves the code and its proofs alone: nobody has to believe it.
pub mod Fixpoint
pub mod SeeingEnvironments
pub mod StoreCode
pub mod StoreEnvironments

pub mod FollowingShapes
pub mod LinesBehind

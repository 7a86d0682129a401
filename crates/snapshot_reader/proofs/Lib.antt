-- `WalkLaws` has the laws of walking a snapshot with `advance`: each row is given once, and then all were given.
pub mod WalkLaws

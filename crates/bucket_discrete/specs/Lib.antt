pub mod DiscreteBucket
pub mod DiscreteBucketLaws
pub mod ElapsedLaws
pub mod Handed
pub mod LevelLaws

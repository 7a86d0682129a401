pub mod LentBucketLaws

pub mod ByteBucket
pub mod Handed
pub mod Natural
pub mod NaturalLaws
pub mod ByteBucketLaws
pub mod KeptLaws

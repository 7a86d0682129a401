pub mod Buckets
pub mod Pruning

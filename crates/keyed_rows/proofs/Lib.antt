-- `Stores` has the laws of a row stored under its key among raw rows, which the proof of `change` cites; `Ground` what the walks of
-- `find` stand on.
pub mod Ground
pub mod Stores

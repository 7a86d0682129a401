-- `StdOrder`: the orders of `specs/Order` are those of the standard library.
pub mod StdOrder

-- `Judged` has what every call begins with, `Carried` rows written, `Branches` each call by its cases.
pub mod Judged
pub mod Carried
pub mod Branches

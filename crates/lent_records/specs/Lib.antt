pub mod Lent
pub mod One
pub mod Two
pub mod PartsLaws

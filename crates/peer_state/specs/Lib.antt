pub mod Entry
pub mod Private
pub mod EntryLaws
pub mod Ingress
pub mod IngressLaws

pub mod Layout
pub mod SlotLaws
pub mod LayoutLaws
pub mod PlaceLaws

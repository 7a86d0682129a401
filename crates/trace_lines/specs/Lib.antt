pub mod Lines
pub mod LinesLaws
pub mod Spelling
pub mod SpellingLaws

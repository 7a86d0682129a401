pub mod Words
pub mod Answers
pub mod CauseWords
pub mod Private
pub mod LeavesLaws

pub mod Answers
pub mod AnswersLaws
pub mod Limit
pub mod LimitLaws

-- `Answers` has the laws of a call's answer in the trace's words, `Handing` those of the calls that hand out a line.
pub mod Answers
pub mod Handing

-- What programs print in answer: a call's answer, a desk and a tape, the reader's answers.
pub mod Answers
pub mod Desks
pub mod Messages

-- What the promises speak of, beside the rules' second writing in the crates below: the cases and how they are judged; what is
-- said of answers, which bytes count a line, that a function's calls end, and what one answer of it is; a day at the desk, and one with its
-- tape; a tape that was torn off, and what comes back of its day.
pub mod Cases
pub mod Asking
pub mod Answers
pub mod Counted
pub mod Ends
pub mod OneAnswer
pub mod Days
pub mod TapeDays
pub mod Replays

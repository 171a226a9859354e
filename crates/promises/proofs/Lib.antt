-- The promises, in the order in which an auditor reads them: the cases; the three demands; the auditor's questions; a message asked for
-- a field; the tape; the day book from it; the lister; and that every public function ends and states one answer. Behind them the laws that they cite.
pub mod CaseLaws
pub mod DemandOne
pub mod DemandTwo
pub mod DemandThree
pub mod Questions
pub mod TheFields
pub mod TheTape
pub mod TheReplay
pub mod TheLister
pub mod Ends
pub mod OneAnswer
pub mod TapeAnswers
pub mod TapeDays
pub mod Secrets
pub mod Answers
pub mod Asked
pub mod Placing
pub mod Turns
pub mod OtherDays
pub mod Counted
pub mod Settled
pub mod Openings
pub mod ReplayedDays

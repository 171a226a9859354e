-- What the rules say of a message, as it is computed, in the order in which one file needs the other; believed/ says it a second time, for
-- a reader to believe.
pub mod Reading
pub mod Refusals
pub mod Limits
pub mod Objects
pub mod Fields
pub mod Message
pub mod Shortest
pub mod Digits
pub mod Values
pub mod Answers
pub mod Heard
pub mod Listed
pub mod Name
pub mod Listing
pub mod believed

-- The rules written a second time, by what they mean: what an auditor has to believe. The laws say that both writings agree.
pub mod Grids
pub mod Writing
pub mod Grammar
pub mod Digits
pub mod Values
pub mod Shortest
pub mod Answers
pub mod Rows
pub mod Faults
pub mod Found
pub mod Names
pub mod Listing

-- The rules of a payment's course and of the day book, as they are computed; believed/ says them a second time, for a reader to believe.
pub mod Numbers
pub mod Kinds
pub mod Lanes
pub mod Openings
pub mod Course
pub mod Desk
pub mod Runs
pub mod Memory
pub mod Payments
pub mod Turnover
pub mod believed

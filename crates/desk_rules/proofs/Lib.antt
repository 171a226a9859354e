-- The laws of the course, by subject: what opening writes, which opening bytes are, and the table of refusals; then runs, what is due for a
-- payment, the day book, order, grouping and turnover; then what every desk is, and the laws that the desk's functions are proved by.
pub mod Commands
pub mod Supposed
pub mod Recognised
pub mod Judge
pub mod LastSale
pub mod NamedSale
pub mod Rows
pub mod Heard
pub mod Calls
pub mod Lanes
pub mod LineCount
pub mod Runs
pub mod Due
pub mod Payment
pub mod Kept
pub mod DayBook
pub mod Order
pub mod Grouping
pub mod Net
pub mod Amounts
pub mod Memory
pub mod Answers
pub mod Sums

-- The laws of the definitions, by subject.
pub mod Tests
pub mod Lists
pub mod Text
pub mod Exits

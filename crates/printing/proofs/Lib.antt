-- The laws of what is printed, by subject.
pub mod Prints
pub mod Lengths
pub mod Listed
pub mod Signed

-- The laws of a listing, by subject.
pub mod LineLaws
pub mod NextLaws

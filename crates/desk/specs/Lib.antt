-- Steps of the code. What a reader has to believe of the desk stands in crate desk_rules.
pub mod Hear
pub mod Steps

-- Steps of the code that lists. What its contracts cite stands in crate zvt_rules.
pub mod Lines

-- The rules a second time, as facts, in the words of docs/RULES.md: what an auditor has to believe. Laws in proofs/ tie them to the
-- definitions beside this folder, both ways.
pub mod LastSale
pub mod Due
pub mod Grouping
pub mod Table
pub mod Answers

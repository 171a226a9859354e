-- The laws that the proofs of the functions cite, by subject.
pub mod HearLaws
pub mod DeskLaws
pub mod CallLaws

-- Steps of the code, private: what the functions behind the public ones answer. What a reader has to believe stands in crate zvt_rules.
pub mod ObjectSteps
pub mod FieldSteps
pub mod HeaderSteps
pub mod BodySteps
pub mod AskingSteps
pub mod WritingSteps
pub mod ListSteps
pub mod ValueSteps
pub mod ToldSteps

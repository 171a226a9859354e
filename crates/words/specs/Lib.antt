-- What a line means: its words, numbers and bytes, the shapes of lines, and what a line asks for; and steps of the code.
pub mod Split
pub mod Notation
pub mod Shapes
pub mod Lines
pub mod Steps

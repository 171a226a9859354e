-- The laws of words, of numbers and bytes, and of shapes.
pub mod SplitLaws
pub mod NotationLaws
pub mod ShapeLaws

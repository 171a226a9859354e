-- The laws of text in a buffer, of a copy, of a part behind another, and the length of a buffer of zeros.
pub mod Behind
pub mod Copies
pub mod TextLaws
pub mod Zeros

-- What a reader has to believe of lists and of text.
pub mod Lists
pub mod Text

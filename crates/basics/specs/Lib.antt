-- What no rule of messages says, as it is computed; believed/ says what of it a reader has to believe.
pub mod Choice
pub mod Lists
pub mod Buffers
pub mod Text
pub mod believed

pub mod FrontLaws
pub mod Digits
pub mod ReadingLaws
pub mod Begins
pub mod Words

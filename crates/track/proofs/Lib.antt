pub mod Lists
pub mod History
pub mod Whole

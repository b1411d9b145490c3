pub mod Sheet
pub mod Plain
pub mod Ruled
pub mod Replies
pub mod Outcomes
pub mod Wording
pub mod Winches

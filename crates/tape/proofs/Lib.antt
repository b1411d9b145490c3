pub mod Numbered
pub mod Puts
pub mod Tapes
pub mod Back

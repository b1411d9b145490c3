pub mod Scan
pub mod Rulings
pub mod Questions
pub mod Words
pub mod Sheet
pub mod Plain
pub mod Limits
pub mod Said

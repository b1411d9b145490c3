pub mod Few
pub mod Rows
pub mod Lawful
pub mod Totals
pub mod Bound
pub mod Priced
pub mod Net
pub mod Ways

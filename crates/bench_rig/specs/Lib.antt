pub mod Given
pub mod Costs

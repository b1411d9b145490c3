pub mod Cases
pub mod Remarks

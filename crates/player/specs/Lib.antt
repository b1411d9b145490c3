pub mod Faults
pub mod Lines
pub mod Writing
pub mod Play
pub mod Obeying
pub mod Roundtrip
pub mod Copies

pub mod Letters
pub mod Commands
pub mod Refusals
pub mod Reading
pub mod Tape
pub mod Buffers

pub mod Desks
pub mod Asking
pub mod Looking

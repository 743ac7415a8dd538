pub mod Below
pub mod Machine
pub mod Filled
pub mod Told
pub mod Upward
pub mod Agree

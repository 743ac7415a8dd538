pub mod Judging
pub mod Call

pub mod Numbers
pub mod Lent

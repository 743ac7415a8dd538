pub mod Reading
pub mod Writes
pub mod Contents

pub mod Tables
pub mod Loop
pub mod Operation

-- document 01, section by section
pub mod Lists
pub mod Counting
pub mod Sheet
pub mod Step
pub mod Clauses
pub mod Circuit
pub mod Operations
pub mod Answers
pub mod Program
-- the words of demands 2 and 3
pub mod Planning
pub mod Sets
pub mod Meaning
-- words for contracts inside the compiler and the planner
pub mod View
pub mod Memory
pub mod Limits
pub mod Search

-- tools: Booleans, lists, bits
pub mod Basic
pub mod Any
pub mod Lists
pub mod Bits
-- the sheet's bytes
pub mod Decoded
-- the parts of a clause set, the five lines, and the circuit as a tree
pub mod Make
pub mod Flood
pub mod PartLaws
pub mod CircuitValue
pub mod Forgetting
pub mod Decomposable
pub mod Projection
pub mod Lines
pub mod UnitLaw
pub mod Finest
pub mod FiveLines
-- the circuit as rows
pub mod RowLaws
pub mod RowTheorem
pub mod Mono
pub mod Makers
pub mod Again
pub mod Shared
-- what T(P) says, and demand 3
pub mod Groups
pub mod OneStep
pub mod Ends
pub mod Runs
pub mod Model
pub mod Means
pub mod Serial
pub mod Tidy
pub mod Size
pub mod Demand3
-- for the compiler: views, the memory of parts, the limits
pub mod View
pub mod ViewParts
pub mod AtView
pub mod Keys
pub mod Memory
pub mod PartKey
pub mod Limits
-- for the planner: the first schedule, the search, and demand 2
pub mod Search
pub mod FirstSchedule
pub mod SearchLoop
pub mod Passes
pub mod Demand2
-- answers and buffers
pub mod Buffers
pub mod Permitted
pub mod ReadBack
pub mod Left
pub mod Called
-- document 01's cases, computed
pub mod Sheets
pub mod Cases
-- document 01's readings that look right, refuted
pub mod Readings

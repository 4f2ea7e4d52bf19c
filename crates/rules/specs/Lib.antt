pub mod Contents
pub mod Tests
pub mod Verdict
pub mod Job
pub mod Outcome
pub mod Theorems

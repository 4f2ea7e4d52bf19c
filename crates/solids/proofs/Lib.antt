pub mod Law
pub mod Chains
pub mod Verdicts
pub mod Tables

pub mod Solids
pub mod Tables
pub mod TableLaw
pub mod Pairs
pub mod Chains

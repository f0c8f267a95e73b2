pub mod Listed
pub mod Mixed
pub mod Slotted
pub mod Chained
pub mod Kept
pub mod Asked

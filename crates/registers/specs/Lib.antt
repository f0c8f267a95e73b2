pub mod Pairs
pub mod Holding
pub mod Places
pub mod Rowed
pub mod Mixing
pub mod Chains
pub mod Bucketed
pub mod Asking

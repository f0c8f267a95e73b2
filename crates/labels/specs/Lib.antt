pub mod Spellings
pub mod Kinds

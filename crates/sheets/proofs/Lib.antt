pub mod Backward
pub mod Typed
pub mod Printed
pub mod Below

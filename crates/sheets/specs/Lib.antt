pub mod Typing
pub mod Back
pub mod Children
pub mod SheetLaws

pub mod Joins
pub mod WorkedRight

pub mod Trusted
pub mod Promises
pub mod FastListLaws
pub mod FastLongest

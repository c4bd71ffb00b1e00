pub mod Trusted
pub mod OneMore
pub mod Grown
pub mod GrownLaws
pub mod OneMoreLaws
pub mod GrownTrees
pub mod MoreSettled

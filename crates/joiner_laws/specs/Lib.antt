pub mod Joining
pub mod JoiningLaws
pub mod Writing
pub mod WritingLaws
pub mod NoneJoined
pub mod NoneJoinedLaws

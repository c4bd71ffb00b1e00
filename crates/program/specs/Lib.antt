pub mod Trusted
pub mod Promises
pub mod ProgramLaws
pub mod AnsweredLaws
pub mod RoomLaws

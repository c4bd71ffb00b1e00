pub mod FastFrontLaws
pub mod FastProgramLaws
pub mod FastRoomLaws

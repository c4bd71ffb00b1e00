pub mod RoomLaws
pub mod LinesLaws
pub mod UnreadLaws

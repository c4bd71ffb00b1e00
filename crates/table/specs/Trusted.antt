pub mod Limits
pub mod Records
pub mod Rules
pub mod RecordTest

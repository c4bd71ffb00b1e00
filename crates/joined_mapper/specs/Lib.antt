pub mod JoinedMap
pub mod CoverLaws

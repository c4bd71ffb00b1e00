pub mod JoinedFast

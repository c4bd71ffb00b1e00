pub mod Trusted
pub mod ListReservationLaws
pub mod Examples

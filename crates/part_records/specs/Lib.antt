pub mod Trusted
pub mod ReservationLaws
pub mod Uses
pub mod UseLaws

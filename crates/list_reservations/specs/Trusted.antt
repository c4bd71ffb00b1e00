pub mod ListReservations

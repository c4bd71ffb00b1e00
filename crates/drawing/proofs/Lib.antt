pub mod Checks
pub mod RoundTrip
pub mod OneText

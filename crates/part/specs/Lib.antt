pub mod Trusted
pub mod SoundLaws
pub mod ExtendedLaws
pub mod Readable
pub mod ReadingLaws
pub mod ExtendLaws
pub mod Storing

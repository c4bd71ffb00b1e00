pub mod LibraryTests

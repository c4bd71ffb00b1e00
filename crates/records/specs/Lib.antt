pub mod RunTest

pub mod Like

pub mod FastOpening

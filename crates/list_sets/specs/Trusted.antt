pub mod ListSets

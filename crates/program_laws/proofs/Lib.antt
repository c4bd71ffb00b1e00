pub mod ChainLaws
pub mod DeterminedLaws
pub mod Examples
pub mod FrontLaws

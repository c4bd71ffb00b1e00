pub mod Arrays
pub mod ArrayLaws
pub mod Askable
pub mod GateLaws
pub mod BackLaws
pub mod Alike
pub mod AlikeLaws

pub mod FanSteps
pub mod FanLaws

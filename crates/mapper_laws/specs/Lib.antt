-- Mapping a sheet. First on lists: Run (the run of a gate's plan on tables) and Mapping (a sheet gate by gate); their laws are RunLaws,
-- SafeLaws, CountLaws and MappingLaws. Then what the code does, as that: CodeRun, CodePair (a gate of two fanins) and CodeMap, which has
-- THE PROMISE OF THE MAPPING, `SheetMapped`; their laws are CodeRunLaws, CodeMapLaws, PairLaws, SheetLaws, for any plans, and BestLaws, for plans
-- with the best keys.
pub mod Run
pub mod Mapping
pub mod CodeRun
pub mod CodeMap
pub mod CodePair
pub mod RunLaws
pub mod SafeLaws
pub mod CountLaws
pub mod MappingLaws
pub mod CodeRunLaws
pub mod CodeMapLaws
pub mod PairLaws
pub mod SheetLaws
pub mod BestLaws

-- PlanMapped has THE PROMISE of a mapping by given plans, and FastMapping that of the mapping to the fewest levels. MeetLaws has the laws on lists,
-- PlanSheetLaws and FastLaws those of the code's mappings.
pub mod PlanMapped
pub mod MeetLaws
pub mod PlanSheetLaws
pub mod FastMapping
pub mod FastLaws

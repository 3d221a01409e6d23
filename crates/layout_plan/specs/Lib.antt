-- What a layout record means: its fields and the plan of a page.
pub mod Record
pub mod Plan
pub mod SectorPlan

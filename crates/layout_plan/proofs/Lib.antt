-- Laws of plans.
pub mod Plans
pub mod SectorPlans

-- What the calls that write, read, judge and check pages ask of a plan.
pub mod Plans

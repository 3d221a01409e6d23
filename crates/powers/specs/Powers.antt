-- Inner promises: tables of powers.
--
-- Powers f table   as in `stored_tables/Powers`
pub use Rattle.stored_tables.specs.Powers.{Powers}

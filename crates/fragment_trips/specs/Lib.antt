-- Export and import one after the other: what a reader must believe.
pub mod RoundTrip

-- Partial remainders: numbers that stand for a remainder, multiples of the divisor that clear their highest digits, and such multiples in rows.
pub mod Partial
pub mod Clearing

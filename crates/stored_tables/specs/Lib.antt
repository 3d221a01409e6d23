-- What a table of powers, a table of logarithms and a copied part are.
pub mod Powers
pub mod Logs
pub mod Copied

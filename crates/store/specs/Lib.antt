-- What the calls of the store answer, and the plain list that it stands for.
pub mod Answers

-- Laws of states: numbers in words, a started state, the replies.
pub mod Words
pub mod Starting
pub mod Replies

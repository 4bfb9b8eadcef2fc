pub mod Ends
pub mod Heaps
pub mod RingRule
pub mod Answers
pub mod NumberAnswers
pub mod Rings

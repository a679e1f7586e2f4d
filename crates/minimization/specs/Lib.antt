-- What a result of reduction is (Reduction), which one is given (Kept), and the tests that compute (Search, Checking): theorems tie them to the definitions.
-- Then the examples, and what is proved, a file of statements to a topic.
pub mod Reduction
pub mod Search
pub mod Kept
pub mod Checking
pub mod Examples
pub mod ContainmentTheorems
pub mod ReductionTheorems

-- The definitions that a reader must believe, in the order in which to read them; then what is proved of them, a file of statements to a topic.
pub mod Query
pub mod Database
pub mod Answer
pub mod Chase
pub mod Containment
pub mod Codes
pub mod AnswerTheorems
pub mod OrderTheorems
pub mod ChaseTheorems
pub mod CodeTheorems

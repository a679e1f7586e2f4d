-- What is known where a test or an evaluation goes ahead, and which refusal comes first where it does not.
pub mod Admitted

pub mod Gathering
pub mod Faulty
pub mod Answers
pub mod Program

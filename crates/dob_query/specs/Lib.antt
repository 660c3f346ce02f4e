pub mod Questions
pub mod Program
pub mod QuestionsEach
pub mod Shows
pub mod Sizes
pub mod Records

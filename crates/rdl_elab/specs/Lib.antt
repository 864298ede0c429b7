pub mod Answers
pub mod Envs
pub mod Grown
pub mod Nodes
pub mod Surveying
pub mod Topped
pub mod Trees

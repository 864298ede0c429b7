pub mod Answers
pub mod Dependencies
pub mod Follows
pub mod Graph
pub mod Items
pub mod Leads
pub mod Tables
pub mod Walk

pub mod Nodes
pub mod Slaves

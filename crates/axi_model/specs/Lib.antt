pub mod Axi
pub mod Channels
pub mod Ports
pub mod Transfers

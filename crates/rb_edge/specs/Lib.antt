pub mod Count
pub mod CountSink
pub mod Flows
pub mod Lookup
pub mod MemShelf
pub mod MemSink
pub mod Shelf
pub mod Sink

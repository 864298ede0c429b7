pub mod Layout
pub mod Module
pub mod TextOf
pub mod TextSink

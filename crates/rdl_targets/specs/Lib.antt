pub mod At
pub mod Contents
pub mod Noted
pub mod Steps
pub mod Trails

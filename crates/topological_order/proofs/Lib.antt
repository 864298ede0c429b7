mod Cuts
mod Held
mod Ranked
mod Rings
mod Shorter
mod Steps
mod Waited

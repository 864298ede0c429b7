mod Apart
mod Starting

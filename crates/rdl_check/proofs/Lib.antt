mod Made
mod Named

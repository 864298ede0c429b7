mod Filing
mod Planning

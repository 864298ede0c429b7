mod Down
mod Listed

mod Further
mod Knowing
mod Numbered
mod Own
mod Round

mod AfterLast
mod Fields
mod Hexadecimal

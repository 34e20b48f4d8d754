mod CallArguments
mod Joins
mod Plain
mod Replacing
mod Rows

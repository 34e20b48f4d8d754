pub mod Decimals
pub mod NumberText
pub mod NumberValue
pub mod DecimalRange
pub mod Numbers

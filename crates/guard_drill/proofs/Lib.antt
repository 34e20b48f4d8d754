pub mod TemplateLengths

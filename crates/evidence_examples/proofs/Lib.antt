mod AcceptedExample
mod CalledExample
mod DecidedExample
mod GivenLines
mod KindsExample
mod RememberedExample

mod ReadTexts
mod Signs
mod TextRows
mod Zeros

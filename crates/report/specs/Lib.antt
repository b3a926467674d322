-- In reading order: where the first line of an input ends; the lines that the program prints; which of them on which input.
pub mod LineEnd
pub mod Lines
pub mod Prints

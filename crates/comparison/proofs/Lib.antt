pub mod LineByLine

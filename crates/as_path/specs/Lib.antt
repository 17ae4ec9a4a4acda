pub mod Reading
pub mod Leading
pub mod Numbers

pub mod Reading
pub mod Counting
pub mod Gathering
pub mod Keeping
pub mod AsStated
pub mod Judging
pub mod Making
pub mod Framing
pub mod Fitting
mod Refuted

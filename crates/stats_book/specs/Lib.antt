pub mod Stats
pub mod Standing
pub mod Others

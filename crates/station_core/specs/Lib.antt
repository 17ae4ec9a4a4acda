pub mod Machine
pub mod Schedule
pub mod Taking
pub mod Standing
pub mod Laws

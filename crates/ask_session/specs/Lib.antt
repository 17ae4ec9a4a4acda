pub mod Lines
pub mod Replies
pub mod Dialogue
pub mod Copies
pub mod Connection
pub mod Sessions
pub mod Hearing
pub mod Taking

pub mod Agreeing
pub mod Cursor
pub mod Drafting
pub mod KeysKept
pub mod Marking
pub mod Opened
pub mod Rooms

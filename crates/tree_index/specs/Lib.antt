pub mod Changes
pub mod Layouts
pub mod Links
pub mod Nodes
pub mod Trees

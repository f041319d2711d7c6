mod Changes
mod Layouts
mod Links
mod Lookups
mod Nodes
mod Soundness
mod Steps

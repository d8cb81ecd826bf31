pub mod Dragging

-- How the code keeps the table and the stack: not to be believed.
pub mod Rows
pub mod Held

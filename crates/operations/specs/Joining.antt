-- What joins the functions of src/ to the machine's definitions. No entry's contract cites it.
pub mod Here
pub mod Did

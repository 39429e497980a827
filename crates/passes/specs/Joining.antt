-- What joins the functions of src/: nobody who reads the crate's promises needs it.
pub mod Tables

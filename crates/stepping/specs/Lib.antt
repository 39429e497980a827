-- What a step does is the machine's (crate `machine`); here is only what joins the code's step to it.
pub mod Joining

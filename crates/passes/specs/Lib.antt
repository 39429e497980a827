-- What the contracts of `passes` cite is the verdict (crate `verdict`); here is only what joins its functions.
pub mod Joining

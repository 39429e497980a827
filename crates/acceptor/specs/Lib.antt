-- What the answers of `acceptor` mean is the verdict (crate `verdict`); here is only what joins its functions.
pub mod Joining

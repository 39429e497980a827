-- `Promises` is the page of the demands; the others hold work behind it.
pub mod Numbers
pub mod Leaving
pub mod Telling
pub mod Reporting
pub mod Promises

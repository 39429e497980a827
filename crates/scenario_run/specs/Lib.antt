-- The definitions of `setting_run`.
pub mod Runs

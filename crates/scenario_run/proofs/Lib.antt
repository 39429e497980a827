-- The work behind the contract of `setting_run`.
mod Runs

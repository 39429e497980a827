-- The version of tool and archives: include/lilivrez.h has the same.
use Rattle.std.specs.Prelude.{ℕ, ◌+◌, ◌*◌}

abbrev pub major : ℕ
major = 0

abbrev pub minor : ℕ
minor = 3

abbrev pub patch : ℕ
patch = 0

-- as one number, by which versions are compared
abbrev pub version_number : ℕ
version_number = major * 10000 + minor * 100 + patch

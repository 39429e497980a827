use Rattle.listing.proofs.Numbering.{fits_at, fits_eight}
use native.Mathlib.Omega.{arith}
use Rattle.listing.proofs.numbers.fits.Goals as goal

pub returns-in-1 : goal.returns-in-1
returns-in-1 c = fits_at 1 _ _ c.in-1.is

pub returns-in-2 : goal.returns-in-2
returns-in-2 c = fits_at 2 _ _ c.in-2.is

pub returns-in-4 : goal.returns-in-4
returns-in-4 c = fits_at 4 _ _ c.in-4.is

pub returns-in_default : goal.returns-in_default
returns-in_default c = fits_eight c.args.value _ c.requires (((tt, λ z. omega arith), λ z. omega arith), λ z. omega arith) (omega arith)

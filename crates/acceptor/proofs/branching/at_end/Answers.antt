use native.Mathlib.Omega.{arith}
use Rattle.acceptor.proofs.AlongJumps.{turned_end}
use Rattle.acceptor.proofs.branching.at_end.Goals as goal

pub returns : goal.returns
returns g c =
    turned_end c.requires.0 c.requires.1 (omega (arith, c.requires.0.stands.inside)) _ c.max-longest.ensures c.in_ok-from_jumps.ensures

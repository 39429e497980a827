use borrow.Author.Rules.{rules}
use mathlib.Core.Path.{sym}
use Rattle.logic.proofs.Promises.{no_true}
use Rattle.acceptor.proofs.AlongJumps.{joining, joins_at, turned_on, turned_if, turned_goto}
use Rattle.acceptor.proofs.branching.at_start.Goals as goal

pub jump-requires : goal.jump-requires
jump-requires g c = (search rules, (joining c.requires c.in_ok-s.ensures, (rw c.in-IfGoto.is at c.in_ok-onward.ensures).jump))

pub jump-requires-in-Goto : goal.jump-requires-in-Goto
jump-requires-in-Goto g c = (search rules, (joining c.requires c.in_ok-s.ensures, (rw c.in-Goto.is at c.in_ok-onward.ensures).jump))

pub at_end-requires : goal.at_end-requires
at_end-requires g c = (search rules, (joining c.requires c.in_ok-s.ensures, rw c.in-End.is at c.in_ok-onward.ensures))

pub returns-in-On : goal.returns-in-On
returns-in-On g c =
    let w = rw c.in-On.is at c.in_ok-onward.ensures in
    rw (c.behind.ensures, ← joins_at _ _ _ _ c.in_ok-s.ensures) (turned_on (joining c.requires c.in_ok-s.ensures) w.0 (λ z. (z, w.1)))

pub returns-in-Sets : goal.returns-in-Sets
returns-in-Sets g c =
    let w = rw c.in-Sets.is at c.in_ok-onward.ensures in
    rw (c.behind-in-Sets.ensures, ← joins_at _ _ _ _ c.in_ok-s.ensures) (turned_on (joining c.requires c.in_ok-s.ensures) w (λ z. no_true (sym z)))

pub returns-in_ok-jump-in-IfGoto : goal.returns-in_ok-jump-in-IfGoto
returns-in_ok-jump-in-IfGoto g c =
    rw (← joins_at _ _ _ _ c.in_ok-s.ensures)
    (turned_if (joining c.requires c.in_ok-s.ensures) (rw c.in-IfGoto.is at c.in_ok-onward.ensures) c.in_ok-jump-in-IfGoto.ensures)

pub returns-in_ok-from_jumps-in-Goto : goal.returns-in_ok-from_jumps-in-Goto
returns-in_ok-from_jumps-in-Goto g c =
    rw (← joins_at _ _ _ _ c.in_ok-s.ensures)
    (turned_goto (joining c.requires c.in_ok-s.ensures) (rw c.in-Goto.is at c.in_ok-onward.ensures) c.in_ok-jump-in-Goto.ensures c.in_ok-from_jumps-in-Goto.ensures)

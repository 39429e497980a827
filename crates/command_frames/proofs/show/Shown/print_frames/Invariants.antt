use Rattle.command_frames.proofs.show.Shown.print_frames.Given as goal

abbrev pub decreases-loop-frame : goal.decreases-loop-frame
decreases-loop-frame l = l.place

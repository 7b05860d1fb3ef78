use Rattle.wire_names.proofs.recent.down_to.Given as goal

abbrev pub decreases-loop-suffix : goal.decreases-loop-suffix
decreases-loop-suffix l = l.suffix.size

use Rattle.word_lowering.proofs.stored.+base_within.Given as goal

abbrev pub decreases-base_within : goal.decreases-base_within
decreases-base_within l = l.left

use Rattle.plain_values.proofs.texts.+below.Given as goal

abbrev pub decreases-below : goal.decreases-below
decreases-below l = l.often

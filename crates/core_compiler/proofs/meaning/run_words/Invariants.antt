use Rattle.core_compiler.proofs.meaning.run_words.Given as goal

abbrev pub ghost-mean_words : goal.ghost-mean_words
ghost-mean_words g a = g.most

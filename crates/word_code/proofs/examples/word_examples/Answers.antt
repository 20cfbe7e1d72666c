use Rattle.std.proofs.Common.{refl}
use Rattle.rv32_isa.specs.Words.{word_bytes}
use Rattle.word_code.specs.Words.{start}
use Rattle.word_code.proofs.examples.word_examples.Goals as goal

pub returns-clause-summing : goal.returns-clause-summing
unfolding start word_bytes
returns-clause-summing c = λ fresh. refl

pub returns-clause-overflowing : goal.returns-clause-overflowing
unfolding start word_bytes
returns-clause-overflowing c = λ fresh. record { events = refl; phase = refl }

pub returns-clause-echoing : goal.returns-clause-echoing
unfolding start word_bytes
returns-clause-echoing c = λ fresh. record { events = refl; phase = refl }

pub returns-clause-joining : goal.returns-clause-joining
unfolding start word_bytes
returns-clause-joining c = λ fresh. record { events = refl; phase = refl }

pub returns-clause-hooking : goal.returns-clause-hooking
unfolding start
returns-clause-hooking c = λ fresh. refl

pub returns-clause-careless : goal.returns-clause-careless
unfolding start
returns-clause-careless c = λ fresh. refl

pub returns-clause-nameless : goal.returns-clause-nameless
returns-clause-nameless c = λ fresh. refl

pub returns-clause-diving : goal.returns-clause-diving
unfolding start
returns-clause-diving c = λ fresh. refl

pub returns-clause-still_diving : goal.returns-clause-still_diving
unfolding start
returns-clause-still_diving c = λ fresh. refl

pub returns-clause-uncounted : goal.returns-clause-uncounted
unfolding start
returns-clause-uncounted c = λ fresh. refl

pub returns-clause-summing_work : goal.returns-clause-summing_work
unfolding start word_bytes
returns-clause-summing_work c = λ fresh. refl

pub returns-clause-not_yet_careless : goal.returns-clause-not_yet_careless
unfolding start
returns-clause-not_yet_careless c = λ fresh. refl

pub returns-clause-strange : goal.returns-clause-strange
returns-clause-strange c = λ fresh. refl

pub returns-clause-seen_start : goal.returns-clause-seen_start
returns-clause-seen_start c = λ fresh. refl

pub returns-clause-unwritten : goal.returns-clause-unwritten
unfolding start word_bytes
returns-clause-unwritten c = refl

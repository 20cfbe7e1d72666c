use Rattle.hook_code.proofs.Ordered.{is_ordered}
use Rattle.hook_code.proofs.HookRankings.{are_ranks}
use Rattle.hook_code.proofs.HookRanks.{all_ranked}
use Rattle.hook_code.proofs.laws.hook_levels.Goals as goal

pub returns-clause-ordered : goal.returns-clause-ordered
returns-clause-ordered c = λ table is_table formed short. is_ordered table is_table formed short

pub returns-clause-ranks : goal.returns-clause-ranks
returns-clause-ranks c = λ table first base level others few copy release text_copy seq_new.
    are_ranks table first level base others few copy release text_copy seq_new

pub returns-clause-ranked : goal.returns-clause-ranked
returns-clause-ranked c = λ table first base level rank ordered ranks. all_ranked table first level base rank ordered ranks

use Rattle.std.proofs.Common.{◌≤◌, sym, ap, subst, ◌∙◌, arith, length}
use Rattle.std.proofs.lemmas.Result.{IfOk-weaker}
use Rattle.word_code.specs.declared.word.WordCode.{WordCode}
use Rattle.word_code.specs.Joined.{joined, AreApart, HaveRoom}
use Rattle.word_code.proofs.ForCallers.{routines_room}
use Rattle.core_compiler.specs.Stages.{AreWordsOf}
use Rattle.core_compiler.proofs.FewLevels.{are_marked}
use Rattle.reachable_procs.specs.Reachable.{IsPruned}
use Rattle.core_compiler.proofs.Composing.{both_of, words_of_flat, front_small}
use Rattle.core_compiler.proofs.MayLower.{may_be, some_blocks}
use Rattle.core_compiler.proofs.program.words_of.Goals as goal

-- `join` asks that no procedure is in both, and that data begins at numbers of 32 bits
pub join-requires-clause-apart : goal.join-requires-clause-apart
join-requires-clause-apart c =
    (c.in_ok-words.ensures.apart (both_of c.in_ok-runtimes.runtimes.heap c.in_ok-runtimes.runtimes.others c.in_ok-runtimes.ensures)).0

pub join-requires-clause-small : goal.join-requires-clause-small
join-requires-clause-small c = omega (arith, c.in_ok-runtimes.ensures.is_heap.long)

pub join-requires-clause-room : goal.join-requires-clause-room
join-requires-clause-room c =
    subst (λ n. HaveRoom n c.in_ok-words.words.procs) (sym c.in_ok-runtimes.ensures.is_heap.long) c.in_ok-words.ensures.room

pub join-requires-2-clause-apart : goal.join-requires-2-clause-apart
join-requires-2-clause-apart c =
    subst (λ (w : WordCode). AreApart w.procs c.in_ok-runtimes.runtimes.others.procs) (sym c.in_ok-front.ensures)
    (c.in_ok-words.ensures.apart (both_of c.in_ok-runtimes.runtimes.heap c.in_ok-runtimes.runtimes.others c.in_ok-runtimes.ensures)).1

pub join-requires-2-clause-small : goal.join-requires-2-clause-small
join-requires-2-clause-small c =
    subst (λ (w : WordCode). length w.statics ≤ 4294967295) (sym c.in_ok-front.ensures)
    (front_small c.in_ok-words.words (both_of c.in_ok-runtimes.runtimes.heap c.in_ok-runtimes.runtimes.others c.in_ok-runtimes.ensures)
    c.in_ok-words.ensures)

pub join-requires-2-clause-room : goal.join-requires-2-clause-room
join-requires-2-clause-room c =
    subst (λ (w : WordCode). HaveRoom (length w.statics) c.in_ok-runtimes.runtimes.others.procs) (sym c.in_ok-front.ensures)
    (routines_room (length (joined c.in_ok-runtimes.runtimes.heap c.in_ok-words.words).statics) c.in_ok-runtimes.runtimes.others.procs
    c.in_ok-runtimes.ensures.is_others.routines
    (front_small c.in_ok-words.words (both_of c.in_ok-runtimes.runtimes.heap c.in_ok-runtimes.runtimes.others c.in_ok-runtimes.ensures)
    c.in_ok-words.ensures))

-- `words` asks for marks of types, and that block code may become word code
pub words-requires-clause-marked : goal.words-requires-clause-marked
words-requires-clause-marked c =
    are_marked c.args.types.now c.as_slice.result.now (c.as_slice.ensures ∙ c.in_ok-shallow.ensures)

pub words-requires-clause-may : goal.words-requires-clause-may
words-requires-clause-may c =
    may_be c.args.plan.now c.args.types.now c.args.flat.now c.in_ok-owned.owned c.in_ok-blocks.blocks (c.in_ok-owned.ensures c.requires.ordered)
    c.in_ok-blocks.ensures c.requires.may c.requires.enums c.requires.table

pub words-requires-clause-some : goal.words-requires-clause-some
words-requires-clause-some c =
    some_blocks c.args.plan.now c.args.types.now c.args.flat.now c.in_ok-owned.owned c.in_ok-blocks.blocks (c.in_ok-owned.ensures c.requires.ordered)
    c.in_ok-blocks.ensures c.requires.may

pub returns : goal.returns
returns c =
    IfOk-weaker c.prune.result _ _
    (λ pruned is. words_of_flat c.agreement.ensures.law c.agreement.ensures.pace c.args.types.now c.args.plan.now c.args.flat.now
    c.in_ok-owned.owned c.in_ok-blocks.blocks c.in_ok-words.words
    (both_of c.in_ok-runtimes.runtimes.heap c.in_ok-runtimes.runtimes.others c.in_ok-runtimes.ensures)
    (c.in_ok-owned.ensures c.requires.ordered) c.in_ok-blocks.ensures c.in_ok-words.ensures
    c.owned_codes.ensures.units c.block_codes.ensures.units c.requires.table c.requires.forms
    (record {
      meaning = c.pruning.ensures.meaning;
      by_units = c.pruning.ensures.by_units;
      formed = c.pruning.ensures.formed;
      no_circle = c.pruning.ensures.no_circle;
      chain = c.pruning.ensures.chain;
    })
    pruned
    (subst (λ (w : WordCode). IsPruned w pruned)
    (c.in_ok-whole.ensures ∙ ap (λ (w : WordCode). joined w c.in_ok-runtimes.runtimes.others) c.in_ok-front.ensures) is))
    c.prune.ensures

use Rattle.std.proofs.Common.{◌∙◌, [], ap, sym}
use Rattle.std.specs.Prelude.{take, drop}
use Rattle.nim_program.specs.View.{stmts_of}
use Rattle.decl_rules.specs.Occurrences.{in_block}
use Rattle.decl_rules.specs.Whole.{item_rule, occurrences_rule, if_in_time}
use Rattle.check_uses.specs.Uses.{seen}
use Rattle.check_uses.specs.Known.{all_procs}
use Rattle.check_uses.specs.View.{item_of}
use Rattle.check_uses.proofs.Listing.{body_listed}
use Rattle.check_uses.proofs.Answering.{says_as}
use Rattle.check_uses.proofs.text.check_item.Goals as goal

pub returns-in-Announces : goal.returns-in-Announces
returns-in-Announces c = λ rest h.
    let all = all_procs c.args.known.now in
    says_as (item_rule all (item_of [] c.args.known.now.procs.now.items c.args.start.now.items c.args.item) rest) (if_in_time c.has.result c.in-Announces.at)
    c.if_in_time.result
    (ap (λ i. item_rule all (item_of [] c.args.known.now.procs.now.items c.args.start.now.items i) rest) c.in-Announces.is ∙
    ap (λ b. if_in_time b c.in-Announces.at) (sym (c.has.ensures ∙ h c.in-Announces.proc)))
    c.if_in_time.ensures

pub returns-in-Completes : goal.returns-in-Completes
returns-in-Completes c = λ rest h.
    let all = all_procs c.args.known.now in
    let known = c.args.known.now in
    says_as (item_rule all (item_of [] known.procs.now.items c.args.start.now.items c.args.item) rest) (occurrences_rule all (seen c.uses_of.result.now))
    c.check_each.result
    (ap (λ i. item_rule all (item_of [] known.procs.now.items c.args.start.now.items i) rest) c.in-Completes.is ∙
    ap (occurrences_rule all) (sym (c.uses_of.ensures ∙ body_listed known.procs.now.items known.uses.items c.in-Completes.proc known.listed)))
    c.check_each.ensures

pub returns-in-Code : goal.returns-in-Code
returns-in-Code c = λ rest h.
    let all = all_procs c.args.known.now in
    let known = c.args.known.now in
    let stmts = c.part-stmts.ensures ∙ ap (λ l. take c.in-Code.count (drop c.in-Code.first l)) c.as_slice.ensures.value in
    says_as (item_rule all (item_of [] known.procs.now.items c.args.start.now.items c.args.item) rest)
    (occurrences_rule all (in_block (stmts_of [] c.part-stmts.result.now))) c.check_start.result
    (ap (λ i. item_rule all (item_of [] known.procs.now.items c.args.start.now.items i) rest) c.in-Code.is ∙
    ap (λ l. occurrences_rule all (in_block (stmts_of [] l))) (sym stmts))
    c.check_start.ensures

use Rattle.std.proofs.Common.{ap, ◌∙◌, sym, subst, length}
use Rattle.std.specs.Prelude.{map}
use Rattle.nim_program.specs.View.{if_type}
use Rattle.expr_parts.specs.declared.scope.What.{What}
use Rattle.expr_parts.specs.View.{parameter_of, entry_by, WhatWithin}
use Rattle.expr_parts.proofs.ForCallers.{is_procedure}
use Rattle.decl_rules.specs.Heads.{completion_rule, earlier_by}
use Rattle.decl_heads.proofs.Earlier.{stands_against}
use Rattle.decl_heads.proofs.completion.completion_at.Goals as goal

pub returns-in-Some : goal.returns-in-Some
returns-in-Some c = λ ts facts b st at x more u h e k.
    let ps = map (parameter_of ts) c.args.params.now in
    let is = is_procedure c.args.what.now c.in-Some.procedure.now (sym c.in-Some.ensures) in
    ap (λ (w : What). completion_rule st at c.args.has_body ps (if_type ts c.args.gives) (earlier_by ps (entry_by ts x w) more)) is
    ∙ c.completion_by.ensures ts facts b st at x more u h e k

pub returns-in-None : goal.returns-in-None
returns-in-None c = λ ts facts b st at x more u h e k.
    let ps = map (parameter_of ts) c.args.params.now in
    ap (completion_rule st at c.args.has_body ps (if_type ts c.args.gives)) (stands_against ts x c.args.what.now ps more (sym c.in-None.ensures))

pub completion_by-requires-clause-own : goal.completion_by-requires-clause-own
completion_by-requires-clause-own c =
    (subst (WhatWithin (length c.args.types.now)) (is_procedure c.args.what.now c.in-Some.procedure.now (sym c.in-Some.ensures)) c.requires.what).0

pub completion_by-requires-clause-known : goal.completion_by-requires-clause-known
completion_by-requires-clause-known c =
    (subst (WhatWithin (length c.args.types.now)) (is_procedure c.args.what.now c.in-Some.procedure.now (sym c.in-Some.ensures)) c.requires.what).1

use Rattle.std.proofs.Common.{◌≡◌, ap, ◌∙◌, sym, refl, List, Bool, true, false, subst, length}
use Rattle.std.specs.Prelude.{map, if◌then◌else◌}
use Rattle.nim_program.specs.View.{if_type}
use Rattle.expr_parts.specs.declared.scope.Parameter.{Parameter}
use Rattle.expr_parts.specs.View.{parameter_of, procedure_of, ParametersWithin}
use Rattle.decl_rules.specs.State.{Item}
use Rattle.decl_rules.specs.Heads.{same_types, completes_if, completion_rule, one_earlier, is_completion}
use Rattle.decl_heads.proofs.completion.completion_by.Goals as goal

pub returns-then-not-same_types : goal.returns-then-not-same_types
returns-then-not-same_types c = λ ts facts b st at x more u h e k.
    let ps = map (parameter_of ts) c.args.params.now in
    let gives = if_type ts c.args.gives in
    let p = procedure_of ts c.args.procedure.now in
    let differ : same_types p.params ps ≡ false =
    ap (λ (l : List Parameter). same_types (map (parameter_of ts) l) ps) (sym c.as_slice.ensures) ∙ c.same_types.ensures ts facts u
    ∙ c.if-not-same_types.true in
    ap (λ (z : Bool). completion_rule st at c.args.has_body ps gives (if z then one_earlier p else more)) differ ∙ k

pub returns : goal.returns
returns c = λ ts facts b st at x more u h e k.
    let ps = map (parameter_of ts) c.args.params.now in
    let gives = if_type ts c.args.gives in
    let p = procedure_of ts c.args.procedure.now in
    let equal : same_types p.params ps ≡ true =
    ap (λ (l : List Parameter). same_types (map (parameter_of ts) l) ps) (sym c.as_slice.ensures) ∙ c.same_types.ensures ts facts u
    ∙ c.if-not-same_types.false in
    ap (λ (z : Bool). completion_rule st at c.args.has_body ps gives (if z then one_earlier p else more)) equal
    ∙ ap (λ (text : List Item). completes_if (is_completion text c.args.has_body ps gives p) at p) e
    ∙ ap (λ (z : Bool). completes_if z at p) (c.is_completion.ensures ts facts b u h)
    ∙ c.completion_of.ensures at p refl

pub same_types-requires-clause-ps : goal.same_types-requires-clause-ps
same_types-requires-clause-ps c = subst (ParametersWithin (length c.args.types.now)) (sym c.as_slice.ensures) c.requires.known

use Rattle.std.proofs.Common.{◌+◌, List, drop, sym, ap, ◌∙◌}
use Rattle.std.specs.Prelude.{map, ◌||◌}
use Rattle.indent_scanner.specs.Words.{is_named}
use Rattle.nim_tree.specs.declared.types.TypeDef.{TypeDef}
use Rattle.nim_tree.specs.Types.{declaration_of}
use Rattle.expr_rules.specs.Constructions.{is_among}
use Rattle.decl_rules.specs.LeftOut.{declared_types}
use Rattle.check_forms.proofs.Naming.{next_item, named_back}
use Rattle.check_forms.proofs.declared.is_type.Goals as goal

pub returns-then-is_named : goal.returns-then-is_named
returns-then-is_named c =
    let xs = c.args.defs.now in
    let k = c.args.name.now in
    let d = c.def-item.result in
    let i = c.loop-def.def-index in
    let split = next_item xs i d c.def-item.is c.loop-def-test.true in
    let rest = declared_types (map declaration_of (drop (i + 1) xs)) in
    let among = λ (ds : List TypeDef). is_among k (declared_types (map declaration_of ds)) in
    sym (c.loop-def.invariant ∙ ap among split
    ∙ ap (λ b. b || is_among k rest) (sym (named_back d.name.text k) ∙ ap (λ t. is_named t k) (sym c.as_slice.ensures)
    ∙ sym c.is_named.ensures ∙ c.if-is_named.true))

pub loop-def-preserved : goal.loop-def-preserved
loop-def-preserved c =
    let xs = c.args.defs.now in
    let k = c.args.name.now in
    let d = c.def-item.result in
    let i = c.loop-def.def-index in
    let split = next_item xs i d c.def-item.is c.loop-def-test.true in
    let rest = declared_types (map declaration_of (drop (i + 1) xs)) in
    let among = λ (ds : List TypeDef). is_among k (declared_types (map declaration_of ds)) in
    c.loop-def.invariant ∙ ap among split
    ∙ ap (λ b. b || is_among k rest) (sym (named_back d.name.text k) ∙ ap (λ t. is_named t k) (sym c.as_slice.ensures)
    ∙ sym c.is_named.ensures ∙ c.if-is_named.false)

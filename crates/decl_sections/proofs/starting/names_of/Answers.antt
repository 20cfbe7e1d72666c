use Rattle.std.proofs.Common.{◌≡◌, ◌+◌, ◌∷◌, drop, ap, subst, sym, ◌∙◌}
use Rattle.std.specs.Prelude.{map}
use Rattle.indent_scanner.specs.Words.{normal}
use Rattle.nim_tree.specs.Types.{declaration_of}
use Rattle.expr_parts.proofs.ForCallers.{next_item}
use Rattle.decl_rules.specs.Sections.{type_names}
use Rattle.decl_sections.proofs.Starts.{NamesLeft, names_next}
use Rattle.decl_sections.proofs.starting.names_of.Goals as goal

pub loop-def-preserved : goal.loop-def-preserved
loop-def-preserved c =
    let at = c.loop-def in
    let defs = c.args.defs.now in
    let i = at.def-index in
    let x = c.def-item.result in
    let all = type_names (map declaration_of defs) in
    let rest = type_names (map declaration_of (drop (i + 1) defs)) in
    let e = next_item defs i x c.def-item.is c.loop-def-test.true in
    let left = subst (λ l. NamesLeft at.set all (type_names (map declaration_of l))) e at.invariant in
    let name : c.in_ok-name.name ≡ normal x.name.text = c.in_ok-name.ensures ∙ ap normal c.as_slice.ensures in
    names_next at.set c.insert.new.self all rest c.in_ok-name.name (subst (λ y. NamesLeft at.set all (y ∷ rest)) (sym name) left)
    c.in_ok-insert.ensures.updates.0

use Rattle.std.proofs.Common.{◌+◌, ◌-◌, refl, sym, ap, ◌∙◌, arith}
use Rattle.std.specs.Prelude.{is_some}
use Rattle.nim_tree.specs.Terms.{term_of, levels, place_of, field}
use Rattle.parse_exprs.specs.Look.{name_on}
use Rattle.parse_exprs.specs.Input.{origin_of, from_at}
use Rattle.parse_exprs.proofs.Standing.{behind_one, behind_two, stands}
use Rattle.parse_exprs.proofs.Coming.{stuck_here}
use Rattle.parse_exprs.proofs.Going.{field_stuck, field_got}
use Rattle.parse_exprs.proofs.Finding.{found_at}
use Rattle.parse_exprs.proofs.read.operators.read_field.Goals as goal

pub returns-in_default : goal.returns-in_default
returns-in_default c =
    let back = behind_one c.args.a.next c.args.input.now.tokens.now in
    let none = ap (name_on c.args.layout) back ∙ sym c.name_on.ensures ∙ c.in_default.is in
    stuck_here c.args.input.now (c.args.a.next + 1) (field_stuck (origin_of c.args.input.now) c.args.layout (c.args.left - 1) (term_of c.args.a.tree)
    (from_at c.args.input.now c.args.a.next) none) back

pub returns : goal.returns
returns c =
    let tokens = c.args.input.now.tokens.now in
    let is = sym c.name_on.ensures ∙ c.in-Some.is in
    let some = ap (name_on c.args.layout) (behind_one c.args.a.next tokens) ∙ is in
    let made = ap (λ s. field (place_of (term_of c.args.a.tree)) (term_of c.args.a.tree) s) (sym c.spelling.ensures) ∙ sym c.in_ok-tree.ensures.ok in
    let high = ap levels c.in_ok-tree.ensures.ok in
    found_at c.args.input.now (field_got (origin_of c.args.input.now) c.args.layout (c.args.left - 1) (term_of c.args.a.tree)
    (from_at c.args.input.now c.args.a.next) c.in-Some.token some)
    made (behind_two c.args.a.next tokens) (let d = c.requires.depth in omega (arith, d, high)) (let f = c.requires.few in omega (arith, f)) (omega arith)
    (let w = stands (λ all. is_some (name_on c.args.layout all)) (c.args.a.next + 1) tokens refl (ap is_some is) in omega (arith, w))

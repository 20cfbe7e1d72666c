use Rattle.std.proofs.Common.{◌≡◌, ℕ, Option, Some, sym, ap, ◌∙◌}
use Rattle.std.specs.Prelude.{if◌then◌else◌}
use Rattle.std.specs.HashMap.{get}
use Rattle.rv32_codegen.specs.Places.{key_of, same_key}
use Rattle.rv32_codegen.proofs.LayoutPlaces.{name_put, line_put}
use Rattle.rv32_codegen.proofs.layout_places.put_label.Goals as goal

pub returns-in_ok-insert-in-Some : goal.returns-in_ok-insert-in-Some
returns-in_ok-insert-in-Some c =
    let old = c.args.labels.now in
    let new = c.insert.new.self in
    let left = c.args.left in
    let put : (key : ℕ × Option ℕ) → get same_key new key ≡ (if same_key (key_of c.in-Some.name) key then Some left else get same_key old key) =
    λ key. c.in_ok-insert-in-Some.ensures.updates.0 key ∙ ap (λ k. if same_key k key then Some left else get same_key old key) c.key_of.ensures in
    λ lines are is. name_put c.args.line.now c.in-Some.name lines old new left (sym c.label_of.ensures ∙ c.in-Some.is) are put is

pub returns-in-None : goal.returns-in-None
returns-in-None c = λ lines are is. line_put c.args.line.now lines c.args.labels.now (sym c.label_of.ensures ∙ c.in-None.is) are

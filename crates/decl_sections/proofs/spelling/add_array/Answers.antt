use Rattle.std.proofs.Common.{◌∷◌, [], length, sym, ap, ◌∙◌, to_z, of_z, w32, to_z-of_z}
use Rattle.std.specs.Prelude.{codes, Err}
use Rattle.nim_types.specs.Table.{type_at}
use Rattle.expr_rules.specs.Demands.{former_of}
use Rattle.expr_rules.specs.Names.{array_by}
use Rattle.expr_parts.specs.View.{former_in}
use Rattle.expr_parts.proofs.ForCallers.{answers_as}
use Rattle.decl_types.specs.ViewNodes.{node_types, node_type, names_env_of}
use Rattle.decl_sections.proofs.Noding.{adds, adds_stops}
use Rattle.decl_sections.proofs.Seeing.{former_alike}
use Rattle.decl_sections.proofs.Productions.{passes}
use Rattle.decl_sections.proofs.spelling.add_array.Goals as goal

pub returns-in-Ok : goal.returns-in-Ok
returns-in-Ok c = λ names.
    let at = c.args.at in
    let k = c.args.len in
    let scope = c.args.scope.now in
    adds c.args.out.now.items c.add.new.nodes.items c.in-Ok.node scope names
    (λ env done. array_by at (former_of env (codes "array")) k (type_at done c.args.of))
    (λ ty. record { at = at; of = ty } ∷ []) c.add.result c.add.ensures.nodes c.add.ensures.number c.add.ensures.memory
    (λ ts before keys.
    let done = node_types ts keys c.args.out.now.items in
    ap (λ f. array_by at f k (type_at done c.args.of)) (former_alike ts before before keys names scope (codes "array") ∙ c.former_of.ensures ts before)
    ∙ ap (λ z. array_by at (former_in c.former_of.result) z (type_at done c.args.of)) (sym (to_z-of_z c.ranges.len))
    ∙ c.in-Ok.ensures.answers ts keys done) c.in-Ok.ensures.formed (c.in-Ok.ensures.made (length c.args.out.now.items) c.requires)
    (λ n m o. c.in-Ok.ensures.sound n m)

pub returns-in-Err : goal.returns-in-Err
returns-in-Err c = λ names.
    let out = c.args.out.now.items in
    let at = c.args.at in
    let k = c.args.len in
    let scope = c.args.scope.now in
    adds_stops out out scope names (λ env done. array_by at (former_of env (codes "array")) k (type_at done c.args.of))
    (λ ty. record { at = at; of = ty } ∷ []) c.in-Err.stop
    (λ ts before keys done.
    let types = node_types ts keys out in
    let of = type_at types c.args.of in
    let said = array_by at (former_in c.former_of.result) (to_z w32 (of_z w32 k)) of in
    passes (type_at done) (node_type ts keys types) (array_by at (former_of (names_env_of ts before keys names scope) (codes "array")) k of) c.in-Err.stop
    (answers_as (node_type ts keys types) (array_by at (former_of (names_env_of ts before keys names scope) (codes "array")) k of) said (Err c.in-Err.stop)
    (ap (λ f. array_by at f k of) (former_alike ts before before keys names scope (codes "array") ∙ c.former_of.ensures ts before)
    ∙ ap (λ z. array_by at (former_in c.former_of.result) z of) (sym (to_z-of_z c.ranges.len)))
    (c.in-Err.ensures.answers ts keys types)))

use Rattle.std.proofs.Common.{[], ap}
use Rattle.std.specs.Prelude.{Ok}
use Rattle.arc_base.specs.Refusal.{and_then}
use Rattle.nim_tree.specs.Types.{fields_of, object}
use Rattle.expr_parts.proofs.ForCallers.{grown_same, stops}
use Rattle.decl_rules.specs.Meanings.{an_object}
use Rattle.decl_rules.specs.Sections.{if_plain, is_plain_object}
use Rattle.decl_rules.specs.Written.{later, parts_spelled}
use Rattle.decl_rules.specs.Written.{fields_of as object_fields}
use Rattle.expr_parts.specs.View.{env_of}
use Rattle.decl_types.specs.ViewNodes.{node_types, names_env_of}
use Rattle.decl_sections.specs.ViewSpelled.{formed_since}
use Rattle.decl_types.specs.ViewKnown.{MeaningWithin}
use Rattle.decl_sections.specs.ViewBodies.{meant_in, said_with, said_by}
use Rattle.decl_sections.proofs.Noding.{spells_as, spells_err}
use Rattle.decl_sections.proofs.bodies.plain_object.Goals as goal

pub returns-in-Ok : goal.returns-in-Ok
returns-in-Ok c =
    let inside = fields_of c.args.fields.now in
    spells_as (λ sizing env. said_by sizing env (object c.args.at c.args.is_ref c.args.parent.now inside)) c.object.ensures (λ ts facts before keys u.
    let sizing = later (env_of ts facts c.args.scope.now) in
    let env = names_env_of ts before keys c.args.names.now c.args.scope.now in
    ap (λ z. and_then z (λ _. and_then (parts_spelled sizing env [] inside) (λ all. Ok (said_with (an_object (object_fields all.parts)) all.formed))))
    c.in-Ok.ensures)

pub returns-in-Err : goal.returns-in-Err
returns-in-Err c =
    let inside = fields_of c.args.fields.now in
    let out = c.args.out.now.items in
    spells_err meant_in (λ sizing env. said_by sizing env (object c.args.at c.args.is_ref c.args.parent.now inside)) MeaningWithin c.in-Err.stop
    (grown_same c.args.types.now) (λ ts facts before keys u.
    let sizing = later (env_of ts facts c.args.scope.now) in
    let env = names_env_of ts before keys c.args.names.now c.args.scope.now in
    stops (meant_in (node_types ts keys out) (formed_since ts keys out out)) (λ (_ : Unit {0}). tt)
    (if_plain (is_plain_object c.args.is_ref c.args.parent.now) c.args.at)
    (λ _. and_then (parts_spelled sizing env [] inside) (λ all. Ok (said_with (an_object (object_fields all.parts)) all.formed))) c.in-Err.stop
    c.in-Err.ensures)

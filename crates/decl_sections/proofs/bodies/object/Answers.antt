use Rattle.std.proofs.Common.{[], length, sym, ap, ◌∙◌}
use Rattle.std.specs.Prelude.{Ok}
use Rattle.std.proofs.lemmas.Result.{err_from_is_err_and}
use Rattle.arc_base.specs.Refusal.{and_then}
use Rattle.nim_tree.specs.Types.{fields_of}
use Rattle.expr_parts.proofs.ForCallers.{grown_same}
use Rattle.decl_rules.specs.Meanings.{an_object}
use Rattle.decl_rules.specs.Written.{later, parts_spelled}
use Rattle.decl_rules.specs.Written.{fields_of as object_fields}
use Rattle.decl_types.specs.declared.known.Meaning.TheVariants as M
use Rattle.decl_sections.specs.ViewSpelled.{parts_in}
use Rattle.decl_types.specs.ViewKnown.{MeaningWithin}
use Rattle.decl_sections.specs.ViewBodies.{all_field_names, meant_in, said_with}
use Rattle.decl_sections.proofs.Noding.{spells_map, spells_stops, spells_forgets}
use Rattle.decl_sections.proofs.Saying.{name_count, object_whole, object_stops}
use Rattle.decl_sections.proofs.bodies.object.Goals as goal

pub returns-in_err-declared : goal.returns-in_err-declared
returns-in_err-declared c =
    let inside = fields_of c.args.fields.now in
    let p = err_from_is_err_and c.from_residual.result c.from_residual.ensures.1 in
    rw (p.1, p.2) (spells_forgets meant_in (λ sizing env. and_then (parts_spelled sizing env [] inside)
    (λ all. Ok (said_with (an_object (object_fields all.parts)) all.formed))) MeaningWithin _ (grown_same c.args.types.now) c.in_err-declared.ensures.memory)

pub returns-in-Ok : goal.returns-in-Ok
returns-in-Ok c =
    let inside = fields_of c.args.fields.now in
    let names = c.in_ok-declared.declared in
    spells_map c.in-Ok.parts meant_in (λ sizing env. and_then (parts_spelled sizing env [] inside)
    (λ all. Ok (said_with (an_object (object_fields all.parts)) all.formed))) MeaningWithin (M.Object names c.in-Ok.parts.types) c.in-Ok.ensures
    (λ known env done fs h.
    object_stops (later known) env inside ∙ ap (λ z. and_then z (object_whole (all_field_names inside))) h
    ∙ ap (λ ns. object_whole ns (parts_in done fs c.in-Ok.parts)) (sym c.in_ok-declared.ensures.names))
    (λ n h. (h.0, ap length c.in_ok-declared.ensures.names ∙ name_count inside ∙ sym h.1))

pub returns-in-Err : goal.returns-in-Err
returns-in-Err c =
    let inside = fields_of c.args.fields.now in
    spells_stops c.parts.new.out.items meant_in (λ _ _ a. object_whole (all_field_names inside) a)
    (λ sizing env. and_then (parts_spelled sizing env [] inside) (λ all. Ok (said_with (an_object (object_fields all.parts)) all.formed))) MeaningWithin
    c.in-Err.stop c.in-Err.ensures (λ known env. object_stops (later known) env inside)

use Rattle.std.proofs.Common.{refl, ap}
use Rattle.std.specs.Prelude.{Ok}
use Rattle.arc_base.specs.Refusal.{and_then}
use Rattle.nim_tree.specs.Types.{written_of}
use Rattle.decl_rules.specs.Meanings.{an_alias}
use Rattle.decl_rules.specs.Written.{spelled}
use Rattle.decl_types.specs.declared.known.Meaning.TheVariants as M
use Rattle.decl_types.specs.ViewKnown.{MeaningWithin}
use Rattle.decl_sections.specs.ViewBodies.{meant_in, said_with}
use Rattle.decl_sections.proofs.Noding.{spells_map, spells_stops}
use Rattle.decl_sections.proofs.bodies.alias.Goals as goal

pub returns-in-Ok : goal.returns-in-Ok
returns-in-Ok c =
    let tree = written_of c.args.of.now in
    spells_map c.in-Ok.of meant_in (λ sizing env. and_then (spelled sizing env tree) (λ t. Ok (said_with (an_alias t.of) t.formed))) MeaningWithin
    (M.Alias c.in-Ok.of) c.in-Ok.ensures (λ known env done fs h. ap (λ z. and_then z (λ t. Ok (said_with (an_alias t.of) t.formed))) h) (λ n h. h)

pub returns-in-Err : goal.returns-in-Err
returns-in-Err c =
    let tree = written_of c.args.of.now in
    spells_stops c.spelled.new.out.items meant_in (λ _ _ t. Ok (said_with (an_alias t.of) t.formed))
    (λ sizing env. and_then (spelled sizing env tree) (λ t. Ok (said_with (an_alias t.of) t.formed))) MeaningWithin c.in-Err.stop c.in-Err.ensures
    (λ known env. refl)

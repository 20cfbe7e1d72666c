use Rattle.std.proofs.Common.{◌≡◌, ◌+◌, Vec, Global, length, drop, sym, subst, ◌∙◌, Ok, Err, arith}
use Rattle.std.specs.Prelude.{map}
use Rattle.arc_base.specs.Refusal.{Answers}
use Rattle.nim_types.specs.Table.{type_at}
use Rattle.expr_parts.specs.declared.parts.Found.{Found}
use Rattle.expr_rules.specs.Constructions.{field_or_unknown, field_named}
use Rattle.expr_parts.specs.View.{env_of, found_of}
use Rattle.expr_builds.specs.ViewBuilt.{FoundsWithin, fields_found}
use Rattle.expr_builds.proofs.Planning.{one_found, no_found, all_found, founds_end, behind_nothing}
use Rattle.expr_parts.proofs.ForCallers.{next_item, none_left}
use Rattle.expr_builds.proofs.plans.fields_named.Goals as goal

pub loop-name-init : goal.loop-name-init
loop-name-init c = record {
  within = subst (FoundsWithin (length c.args.types.now)) (sym c.new-chosen.ensures.items) tt;
  left = λ ts facts u.
      let said = fields_found (env_of ts facts c.args.scope.now) c.args.at (type_at ts c.args.ty) c.args.names.now in
      behind_nothing ts c.new-chosen.result.items said c.new-chosen.ensures.items;
}

pub loop-name-preserved : goal.loop-name-preserved
loop-name-preserved c =
    let at = c.loop-name in
    let names = c.args.names.now in
    let i = at.name-index in
    let x = c.name-item.result in
    let f = c.in-Ok.found in
    let split = next_item names i x c.name-item.is c.loop-name-test.true in
    record {
      within = subst (FoundsWithin (length c.args.types.now)) (sym c.in_ok-push-in-Ok.ensures.items)
          (founds_end (length c.args.types.now) at.chosen.items f at.invariant.within c.in-Ok.ensures.within);
      left = λ ts facts u.
          let env = env_of ts facts c.args.scope.now in
          let ty = type_at ts c.args.ty in
          one_found ts env c.args.at ty at.chosen.items c.push.new.self.items x (drop (i + 1) names) (drop i names) f split c.in_ok-push-in-Ok.ensures.items
          (subst (λ y. field_or_unknown c.args.at (field_named env y ty) ≡ Ok (found_of ts f)) c.as_slice.ensures (c.in-Ok.ensures.answers ts facts u))
          ∙ at.invariant.left ts facts u;
    }

pub returns-in-Err-clause-answers : goal.returns-in-Err-clause-answers
returns-in-Err-clause-answers c = λ ts facts u.
    let at = c.loop-name in
    let names = c.args.names.now in
    let i = at.name-index in
    let x = c.name-item.result in
    let env = env_of ts facts c.args.scope.now in
    let ty = type_at ts c.args.ty in
    no_found (λ (fs : Vec Found Global). map (found_of ts) fs.items) ts env c.args.at ty at.chosen.items x (drop (i + 1) names) (drop i names)
    (fields_found env c.args.at ty names) c.in-Err.stop (next_item names i x c.name-item.is c.loop-name-test.true) (at.invariant.left ts facts u)
    (subst (λ y. Answers (found_of ts) (field_or_unknown c.args.at (field_named env y ty)) (Err c.in-Err.stop)) c.as_slice.ensures
    (c.in-Err.ensures.answers ts facts u))

pub returns-clause-answers : goal.returns-clause-answers
returns-clause-answers c = λ ts facts u.
    let at = c.loop-name in
    let names = c.args.names.now in
    let env = env_of ts facts c.args.scope.now in
    let ty = type_at ts c.args.ty in
    all_found ts env c.args.at ty at.chosen.items (drop at.name-index names) (fields_found env c.args.at ty names)
    (none_left names at.name-index (omega (arith, c.loop-name-test.false))) (at.invariant.left ts facts u)

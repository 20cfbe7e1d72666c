use Rattle.std.proofs.Common.{ℕ, true, ◌++◌, ◌∷◌, [], ap, ap₂, sym, ◌∙◌}
use Rattle.std.specs.Prelude.{map}
use Rattle.nim_types.specs.Table.{types_in, facts_in}
use Rattle.nim_types.specs.Forms.{hooked}
use Rattle.nim_program.specs.Sizes.{is_global}
use Rattle.nim_program.specs.View.{declared_of, program_under}
use Rattle.flat_code.specs.Codes.{proc_of}
use Rattle.flattening.specs.Flattened.{known_of}
use Rattle.flattening.specs.PlaceViews.{marked}
use Rattle.flattening.proofs.GivenCode.{procs_are, all_given}
use Rattle.flattening.proofs.program.flatten.Goals as goal

pub invariant_of-around : goal.invariant_of-around
invariant_of-around c = record {
  hooks = λ ty says l h.
      let f = c.requires.forms ty l in
      h true f.0 f.1 ∙ ap hooked (sym (c.type_forms.ensures.computed _ _ f.0 f.1));
}

pub returns-clause-procs : goal.returns-clause-procs
returns-clause-procs c =
    let p = c.args.program.now in
    let ts = types_in p.types in
    let plan = c.args.plan.now in
    let globals = marked c.in_ok-globals.globals.items in
    let same = λ (n : ℕ). c.in_ok-globals.ensures ts n ∙ ap (λ gs. is_global (map (declared_of ts) gs) n) c.as_slice.ensures in
    c.in_ok-push.ensures.ok ∙ ap₂ (λ xs x. xs ++ x ∷ []) c.in_ok-procs.ensures c.in_ok-start.ensures
    ∙ all_given ts (facts_in p.types) p plan globals same

pub returns-clause-code : goal.returns-clause-code
returns-clause-code c =
    let p = c.args.program.now in
    let ts = types_in p.types in
    let facts = facts_in p.types in
    ap (map (proc_of (known_of (program_under ts facts p)))) (returns-clause-procs c) ∙ procs_are ts facts p c.args.plan.now

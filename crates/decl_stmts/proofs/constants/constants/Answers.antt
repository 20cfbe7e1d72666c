use Rattle.std.proofs.Common.{◌+◌, ◌∙◌, refl, List, ap, drop, drop_of_length-le}
use Rattle.std.specs.Prelude.{map, Ok}
use Rattle.arc_base.specs.Refusal.{and_then}
use Rattle.nim_tree.specs.Statements.{definition_of}
use Rattle.nim_types.specs.Types.{Ty}
use Rattle.decl_rules.specs.State.{State}
use Rattle.decl_rules.specs.Definitions.{constants_in, constants_rule}
use Rattle.decl_parts.specs.View.{state_of, Beside}
use Rattle.decl_parts.proofs.ForCallers.{left_whole, left_goes, left_stops, left_ends, next_name, keeps, then_as}
use Rattle.decl_stmts.proofs.constants.constants.Goals as goal

pub loop-def-init : goal.loop-def-init
loop-def-init c = record {
  left =
      left_whole c.args.state.now (λ ts b. constants_rule (state_of ts b c.args.state.now) (map definition_of c.args.defs.now))
      (λ (ts : List Ty) (st : State). st)
      c.requires.ready (λ ts a. refl);
}

pub loop-def-preserved : goal.loop-def-preserved
loop-def-preserved c =
    let at = c.loop-def in
    let item = c.def-item.result in
    let e = next_name c.args.defs.now at.def-index item c.def-item.is c.loop-def-test.true in
    let rest = map definition_of (drop (at.def-index + 1) c.args.defs.now) in
    let same = λ (st : State). st in
    record {
      left =
          left_goes (λ ts (b : Beside) (y : State). constants_rule y rest) (λ (ts : List Ty) (y st : State). st)
          (λ (ts : List Ty) (st : State). st) at.invariant.left
          (λ ts b. ap (λ l. constants_rule (state_of ts b at.state) (map definition_of l)) e
          ∙ then_as (λ y. constants_rule y rest) (λ y. and_then (constants_rule y rest) (λ st. Ok (same st)))
          (λ y. keeps same (λ st. refl) (constants_rule y rest)) (constants_in (state_of ts b at.state) (definition_of item)))
          c.in-Ok.ensures (λ ts b a. refl);
    }

pub returns : goal.returns
returns c =
    let at = c.loop-def in
    let e = drop_of_length-le c.args.defs.now c.loop-def-test.false in
    left_ends (λ ts b (_ : Unit {0}). state_of ts b at.state) (λ ts b. state_of ts b at.state) tt at.invariant.left
    (λ ts b. ap (λ l. constants_rule (state_of ts b at.state) (map definition_of l)) e) (λ ts b. refl)

pub returns-in-Err : goal.returns-in-Err
returns-in-Err c =
    let at = c.loop-def in
    let item = c.def-item.result in
    let e = next_name c.args.defs.now at.def-index item c.def-item.is c.loop-def-test.true in
    let rest = map definition_of (drop (at.def-index + 1) c.args.defs.now) in
    left_stops (λ ts b (_ : Unit {0}). state_of ts b c.constants_in.new.state) (λ ts (b : Beside) (y : State). constants_rule y rest) at.invariant.left
    (λ ts b. ap (λ l. constants_rule (state_of ts b at.state) (map definition_of l)) e) c.in-Err.ensures

pub constants_in-requires : goal.constants_in-requires
constants_in-requires c = record { ready = c.loop-def.invariant.left.stands.ready }

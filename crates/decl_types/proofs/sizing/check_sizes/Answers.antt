use Rattle.std.proofs.Common.{ℕ, ◌+◌, length, drop, ap, sym, subst, ◌∙◌, arith}
use Rattle.std.specs.Prelude.{Err}
use Rattle.arc_base.specs.Refusal.{and_then}
use Rattle.expr_parts.proofs.ForCallers.{answers_as, grown_on, next_item, none_left, stops}
use Rattle.decl_rules.specs.Sections.{formed_within, meant_within, sizes_rule}
use Rattle.decl_types.specs.ViewReading.{defined_by, all_defined}
use Rattle.decl_types.proofs.Enclosing.{get_drop}
use Rattle.decl_types.proofs.Ordering.{below_more, holds_more, stands_more}
use Rattle.decl_types.proofs.Declaring.{kept_grown}
use Rattle.decl_types.specs.ViewKnown.{Stands}
use Rattle.decl_types.proofs.Sizes.{sizes_next}
use Rattle.decl_types.proofs.sizing.check_sizes.Goals as goal

pub returns-in-Err-clause-answers : goal.returns-in-Err-clause-answers
returns-in-Err-clause-answers c = λ n m ts facts keys k u reads known same.
    let at = c.loop-definition in
    let read = c.args.read.now in
    let i = at.definition-index in
    let d = c.definition-item.result in
    let rest = drop (i + 1) read in
    let e = next_item read i d c.definition-item.is c.loop-definition-test.true in
    let sound = reads.sound i d (get_drop read i d rest e) in
    let v = c.check_definition.ensures.grown.under ts facts u in
    let one = defined_by ts keys d in
    let said = and_then (formed_within facts k one.formed) (λ _. meant_within facts one.key one.meant) in
    let behind = sizes_rule facts k (all_defined ts keys rest) in
    answers_as (λ (_ : Unit {0}). tt) (sizes_rule facts k (all_defined ts keys read)) (and_then said (λ _. behind)) (Err c.in-Err.stop)
    (at.invariant.left n m ts facts keys k v reads known same ∙ ap (λ l. sizes_rule facts k (all_defined ts keys l)) e
    ∙ sizes_next facts k one (all_defined ts keys rest))
    (stops (λ (_ : Unit {0}). tt) (λ (_ : Unit {0}). tt) said (λ _. behind) c.in-Err.stop
    (c.in-Err.ensures.answers n m ts facts keys k u sound known same))

pub loop-definition-preserved : goal.loop-definition-preserved
loop-definition-preserved c =
    let at = c.loop-definition in
    let read = c.args.read.now in
    let i = at.definition-index in
    let d = c.definition-item.result in
    let rest = drop (i + 1) read in
    let e = next_item read i d c.definition-item.is c.loop-definition-test.true in
    record {
      number = ap (λ (k : ℕ). k + 1) at.invariant.number;
      grown = grown_on at.invariant.grown c.check_definition.ensures.grown;
      left = λ n m ts facts keys k u reads known same.
          let sound = reads.sound i d (get_drop read i d rest e) in
          let v = c.check_definition.ensures.grown.under ts facts u in
          let one = defined_by ts keys d in
          at.invariant.left n m ts facts keys k v reads known same ∙ ap (λ l. sizes_rule facts k (all_defined ts keys l)) e
          ∙ sizes_next facts k one (all_defined ts keys rest)
          ∙ ap (λ z. and_then z (λ _. sizes_rule facts k (all_defined ts keys rest))) (c.in-Ok.ensures.answers n m ts facts keys k u sound known same);
    }

pub check_definition-requires-clause-ordered : goal.check_definition-requires-clause-ordered
check_definition-requires-clause-ordered c =
    let at = c.loop-definition in
    let read = c.args.read.now in
    let i = at.definition-index in
    let d = c.definition-item.result in
    let rest = drop (i + 1) read in
    c.requires.holds.order i d (get_drop read i d rest (next_item read i d c.definition-item.is c.loop-definition-test.true))

pub check_definition-requires-clause-sound : goal.check_definition-requires-clause-sound
check_definition-requires-clause-sound c =
    let at = c.loop-definition in
    let read = c.args.read.now in
    let i = at.definition-index in
    let d = c.definition-item.result in
    let rest = drop (i + 1) read in
    let kept = kept_grown c.args.types.now at.types at.invariant.grown in
    let h = holds_more c.args.types.now at.types c.args.known.now read kept c.requires.holds in
    h.sound i d (get_drop read i d rest (next_item read i d c.definition-item.is c.loop-definition-test.true))

pub check_definition-requires-clause-known : goal.check_definition-requires-clause-known
check_definition-requires-clause-known c =
    below_more (length c.args.types.now) (length c.loop-definition.types) c.args.known.now c.loop-definition.invariant.grown.length c.requires.holds.below

pub check_definition-requires-clause-stands : goal.check_definition-requires-clause-stands
check_definition-requires-clause-stands c =
    let at = c.loop-definition in
    let read = c.args.read.now in
    let i = at.definition-index in
    let d = c.definition-item.result in
    let rest = drop (i + 1) read in
    let known = c.args.known.now in
    let get = get_drop read i d rest (next_item read i d c.definition-item.is c.loop-definition-test.true) in
    subst (λ k. Stands at.types known k d) (sym at.invariant.number)
    (stands_more c.args.types.now at.types known i d (kept_grown c.args.types.now at.types at.invariant.grown) (c.requires.holds.stands i d get))

pub returns-clause-answers : goal.returns-clause-answers
returns-clause-answers c = λ n m ts facts keys k u reads known same.
    let at = c.loop-definition in
    let none = none_left c.args.read.now at.definition-index (omega (arith, c.loop-definition-test.false)) in
    at.invariant.left n m ts facts keys k u reads known same ∙ ap (λ l. sizes_rule facts k (all_defined ts keys l)) none

pub check_definition-requires-clause-room : goal.check_definition-requires-clause-room
check_definition-requires-clause-room c =
    let at = c.loop-definition in
    omega (arith, at.invariant.number, c.loop-definition-test.true, c.requires.room)

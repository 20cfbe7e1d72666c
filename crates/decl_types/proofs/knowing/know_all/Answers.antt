use Rattle.std.proofs.Common.{◌≡◌, ℕ, List, Some, ap, ◌+◌, ◌<◌, length, drop, refl, subst, ◌∙◌, arith}
use Rattle.std.specs.Prelude.{true, map, IfSome, Option, slice_get}
use Rattle.decl_types.specs.ViewMarks.{is_next, Stuck}
use Rattle.decl_types.specs.declared.known.Definition.{Definition}
use Rattle.decl_types.proofs.Enclosing.{get_there}
use Rattle.decl_types.specs.ViewMarks.{is_unknown}
use Rattle.decl_types.proofs.Counting.{all_stuck, found_marked, unknowns, unknowns_less, unknowns_most}
use Rattle.expr_parts.proofs.ForCallers.{grown_same, next_item, none_left}
use Rattle.decl_types.proofs.Declaring.{kept_grown, kept_on}
use Rattle.decl_types.proofs.Growing.{IsNext, KnowsLeft, knows_end, knows_first, knows_none, knows_step}
use Rattle.decl_types.proofs.knowing.know_all.Goals as goal

pub loop-definition-init : goal.loop-definition-init
loop-definition-init c = record {
  kept = kept_grown c.args.types.now c.args.types.now (grown_same c.args.types.now);
  count = refl;
  holds = c.requires.holds;
  few = unknowns_most (length c.args.read.now) c.args.known.now.items;
  ready = λ r. r;
  left = knows_first c.args.types.now c.args.scope.now c.args.names.now c.args.known.now.items c.args.read.now;
}

pub loop-definition-preserved : goal.loop-definition-preserved
loop-definition-preserved c =
    let at = c.loop-definition in
    let read = c.args.read.now in
    let i = at._definition-index in
    let x = c._definition-item.result in
    let from = c.args.types.now in
    let before = c.args.scope.now in
    let names = c.args.names.now in
    let first = c.args.known.now.items in
    let known = at.known.items in
    let e = next_item read i x c._definition-item.is c.loop-definition-test.true in
    let next = subst (IsNext known read) c.in-Some.is
    (subst (λ ks. IsNext ks read c.in_ok-number.field-0) c.as_slice.ensures.value c.in_ok-number.ensures.next) in
    let left = subst (KnowsLeft from at.types before at.scope names first known read) e at.invariant.left in
    let found = subst (λ o. IfSome o (λ n. n < length read)) c.in-Some.is c.in_ok-number.ensures.within in
    record {
      kept = kept_on from at.types c.know.new.types at.invariant.kept c.know.ensures.kept;
      count = c.in_ok-know-in-Some.ensures.count ∙ at.invariant.count;
      holds = c.in_ok-know-in-Some.ensures.holds;
      few =
          let noted = c.in_ok-know-in-Some.ensures.noted in
          let n = length read in
          let there = get_there read c.in-Some.number found in
          let is_found =
          subst (λ (ks : List (Option ℕ)). (d : Definition) → slice_get read c.in-Some.number ≡ Some d
          → is_next (map is_unknown ks) c.in-Some.number d ≡ true) c.as_slice.ensures.value
          (subst (λ o. IfSome o (λ m. (d : Definition) → slice_get read m ≡ Some d → is_next (map is_unknown c.as_slice.result.now) m d ≡ true))
          c.in-Some.is c.in_ok-number.ensures.found) in
          let marked = found_marked (map is_unknown known) c.in-Some.number there.0 (is_found there.0 there.1) in
          let less = unknowns_less n known c.in-Some.number noted.0 found marked in
          let after = ap (unknowns n) noted.1 in
          let l = ap length e in
          omega (arith, at.invariant.few, less, after, l);
      ready = λ r. c.in_ok-know-in-Some.ensures.ready (at.invariant.ready r);
      left = knows_step from at.types c.know.new.types before at.scope c.know.new.scope names first known c.know.new.known.items read (drop (i + 1) read) x
          c.in-Some.number left c.know.ensures.kept next found c.in_ok-know-in-Some.ensures.knows;
    }

pub returns-in_err-number-clause-kept : goal.returns-in_err-number-clause-kept
returns-in_err-number-clause-kept c = c.loop-definition.invariant.kept

pub returns-in_err-know-in-Some-clause-kept : goal.returns-in_err-know-in-Some-clause-kept
returns-in_err-know-in-Some-clause-kept c =
    kept_on c.args.types.now c.loop-definition.types c.know.new.types c.loop-definition.invariant.kept c.know.ensures.kept

pub returns-in-None-clause-kept : goal.returns-in-None-clause-kept
returns-in-None-clause-kept c = c.loop-definition.invariant.kept

pub returns-in-None-clause-ready : goal.returns-in-None-clause-ready
returns-in-None-clause-ready c = λ r. c.loop-definition.invariant.ready r

pub returns-in-None-clause-knows : goal.returns-in-None-clause-knows
returns-in-None-clause-knows c =
    let at = c.loop-definition in
    let read = c.args.read.now in
    let i = at._definition-index in
    let x = c._definition-item.result in
    let from = c.args.types.now in
    let before = c.args.scope.now in
    let names = c.args.names.now in
    let first = c.args.known.now.items in
    let known = at.known.items in
    let e = next_item read i x c._definition-item.is c.loop-definition-test.true in
    let next = subst (IsNext known read) c.in-None.is
    (subst (λ ks. IsNext ks read c.in_ok-number.field-0) c.as_slice.ensures.value c.in_ok-number.ensures.next) in
    let left = subst (KnowsLeft from at.types before at.scope names first known read) e at.invariant.left in
    knows_none from at.types before at.scope names first known read (drop (i + 1) read) x left next

pub returns-clause-kept : goal.returns-clause-kept
returns-clause-kept c = c.loop-definition.invariant.kept

pub returns-clause-ready : goal.returns-clause-ready
returns-clause-ready c = λ r. c.loop-definition.invariant.ready r

pub returns-clause-knows : goal.returns-clause-knows
returns-clause-knows c =
    let at = c.loop-definition in
    let read = c.args.read.now in
    let none = none_left read at._definition-index (omega (arith, c.loop-definition-test.false)) in
    knows_end c.args.types.now at.types c.args.scope.now at.scope c.args.names.now c.args.known.now.items at.known.items read
    (subst (KnowsLeft c.args.types.now at.types c.args.scope.now at.scope c.args.names.now c.args.known.now.items at.known.items read) none
    at.invariant.left)

pub returns-in-None-clause-count : goal.returns-in-None-clause-count
returns-in-None-clause-count c = c.loop-definition.invariant.count

pub returns-clause-count : goal.returns-clause-count
returns-clause-count c = c.loop-definition.invariant.count

pub returns-in-None-clause-holds : goal.returns-in-None-clause-holds
returns-in-None-clause-holds c = c.loop-definition.invariant.holds

pub returns-clause-holds : goal.returns-clause-holds
returns-clause-holds c = c.loop-definition.invariant.holds

pub returns-in-None-clause-stuck : goal.returns-in-None-clause-stuck
returns-in-None-clause-stuck c =
    subst (λ ks. Stuck (map is_unknown ks) c.args.read.now) c.as_slice.ensures.value (c.in_ok-number.ensures.stuck c.in-None.is)

pub returns-clause-stuck : goal.returns-clause-stuck
returns-clause-stuck c =
    let at = c.loop-definition in
    let read = c.args.read.now in
    let l = ap length (none_left read at._definition-index (omega (arith, c.loop-definition-test.false))) in
    all_stuck at.known.items read (omega (arith, at.invariant.few, l))

pub know-requires-clause-holds : goal.know-requires-clause-holds
know-requires-clause-holds c = c.loop-definition.invariant.holds

pub know-requires-clause-next : goal.know-requires-clause-next
know-requires-clause-next c =
    let read = c.args.read.now in
    subst (λ (ks : List (Option ℕ)). (d : Definition) → slice_get read c.in-Some.number ≡ Some d
    → is_next (map is_unknown ks) c.in-Some.number d ≡ true) c.as_slice.ensures.value
    (subst (λ o. IfSome o (λ m. (d : Definition) → slice_get read m ≡ Some d → is_next (map is_unknown c.as_slice.result.now) m d ≡ true))
    c.in-Some.is c.in_ok-number.ensures.found)

pub know-requires-clause-found : goal.know-requires-clause-found
know-requires-clause-found c = subst (λ o. IfSome o (λ n. n < length c.args.read.now)) c.in-Some.is c.in_ok-number.ensures.within

pub know-requires-clause-room : goal.know-requires-clause-room
know-requires-clause-room c =
    let found = subst (λ o. IfSome o (λ n. n < length c.args.read.now)) c.in-Some.is c.in_ok-number.ensures.within in
    omega (arith, found, c.requires.room, c.loop-definition.invariant.count)

use Rattle.std.specs.Prelude.{Option, false, map}
use Rattle.decl_types.specs.ViewMarks.{definition_mark, is_unknown}
use Rattle.decl_types.proofs.Counting.{found_named}
use Rattle.std.proofs.Common.{◌≡◌, ℕ, List, length, ap, sym, subst, ◌∙◌, Some}
use Rattle.std.proofs.lemmas.List.{length-set}
use Rattle.decl_types.specs.ViewKnown.{Becomes, IsSound, KnownBelow}
use Rattle.decl_types.specs.ViewScoped.{declaration_from}
use Rattle.decl_types.proofs.Growing.{knows_one}
use Rattle.decl_types.proofs.Ordering.{holds_known}
use Rattle.decl_types.proofs.Readying.{ready_mended}
use Rattle.decl_types.proofs.knowing.know.Goals as goal

pub returns-clause-ready : goal.returns-clause-ready
returns-clause-ready c = λ r.
    ready_mended c.args.types.now c.add_known.new.types c.args.scope.now c.mend.new.scope c.args.names.now.start
    (declaration_from 0 c.args.names.now.numbers.items c.args.number) c.in_ok-id.id c.add_known.ensures.kept c.in_ok-id.ensures.becomes.within
    c.mend.ensures.decls c.mend.ensures.kinds r

pub returns-clause-knows : goal.returns-clause-knows
returns-clause-knows c =
    let d = c.definition_at.result.now in
    let becomes = subst (λ known. Becomes c.args.types.now c.add_known.new.types known d c.in_ok-id.id) c.as_slice.ensures.value
    c.in_ok-id.ensures.becomes in
    knows_one c.args.types.now c.add_known.new.types c.args.scope.now c.mend.new.scope c.args.names.now c.args.known.now.items c.note.new.known.items
    c.args.read.now c.args.number c.in_ok-id.id d c.definition_at.ensures becomes c.note.ensures c.mend.ensures.decls c.mend.ensures.home

pub returns-clause-count : goal.returns-clause-count
returns-clause-count c =
    ap length c.note.ensures ∙ length-set c.args.known.now.items c.args.number (Some c.in_ok-id.id)

pub returns-clause-holds : goal.returns-clause-holds
returns-clause-holds c =
    holds_known c.args.types.now c.add_known.new.types c.args.known.now.items c.note.new.known.items c.args.read.now c.args.number c.in_ok-id.id
    c.definition_at.result.now c.add_known.ensures.kept c.in_ok-id.ensures.becomes.within c.requires.found c.note.ensures c.definition_at.ensures
    c.in_ok-id.ensures.typed c.requires.holds

pub returns-clause-noted : goal.returns-clause-noted
returns-clause-noted c = (c.in_ok-id.id, c.note.ensures)

pub add_known-requires-clause-ordered : goal.add_known-requires-clause-ordered
add_known-requires-clause-ordered c = c.requires.holds.order c.args.number c.definition_at.result.now c.definition_at.ensures

pub add_known-requires-clause-sound : goal.add_known-requires-clause-sound
add_known-requires-clause-sound c =
    subst (λ (ks : List (Option ℕ)). IsSound (length c.args.types.now) (length ks) c.definition_at.result.now) (sym c.as_slice.ensures.value)
    (c.requires.holds.sound c.args.number c.definition_at.result.now c.definition_at.ensures)

pub add_known-requires-clause-named : goal.add_known-requires-clause-named
add_known-requires-clause-named c =
    let d = c.definition_at.result.now in
    subst (λ (ks : List (Option ℕ)). definition_mark (map is_unknown ks) d ≡ false) (sym c.as_slice.ensures.value)
    (found_named (map is_unknown c.args.known.now.items) c.args.number d (c.requires.next d c.definition_at.ensures))

pub add_known-requires-clause-known : goal.add_known-requires-clause-known
add_known-requires-clause-known c = subst (KnownBelow (length c.args.types.now)) (sym c.as_slice.ensures.value) c.requires.holds.below

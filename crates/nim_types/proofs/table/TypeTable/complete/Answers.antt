use Rattle.std.proofs.Common.{◌≡◌, ◌++◌, List, length, take, drop, sym, ap, ◌∙◌, arith, subst}
use Rattle.std.specs.Prelude.{slice_get, Option}
use Rattle.nim_types.specs.declared.types.TypeDef.{TypeDef}
use Rattle.nim_types.specs.declared.storage.Storage.{Storage}
use Rattle.nim_types.specs.Table.{MayComplete, AllBelow, completed}
use Rattle.nim_types.specs.Kept.{Stale, Settled, Waits}
use Rattle.nim_types.proofs.Completing.{stale_by, kept_completed, grows_by_parts, written, completed_length}
use Rattle.nim_types.proofs.table.TypeTable.complete.Goals as goal

pub take_up-self-inside-requires-clause-stale : goal.take_up-self-inside-requires-clause-stale
take_up-self-inside-requires-clause-stale c =
    let ds = c.self.inside.defs.items in
    let i = c.args.id in
    let given = c.args.parts in
    let due : MayComplete (slice_get ds i) given = subst (λ (z : List TypeDef). MayComplete (slice_get z i) given) (sym c.self.view_is) c.requires.due in
    let done : c.give.new.defs ≡ completed ds i given = c.give.ensures ∙ ap (λ z. completed z i given) c.deref_mut.ensures.value in
    let long : c.self.inside.defs.len ≡ length c.give.new.defs =
    omega (arith, ap length done, completed_length ds i given, c.deref_mut.ensures.len, ap length c.deref_mut.ensures.value) in
    let new : c.deref.result.now ≡ completed ds i given =
    c.deref.ensures.value ∙ written c.self.inside.defs.len c.give.new.defs (drop (length c.give.new.defs) ds) long ∙ done in
    subst (λ (z : List (Option Storage)). Stale c.deref.result.now i z c.self.inside.waiting) (sym c.deref_mut-2.ensures.value)
    (stale_by ds c.deref.result.now i given c.self.inside.known.items c.self.inside.waiting due c.self.invariant.settled c.self.invariant.waits new)

pub invariant_of-self : goal.invariant_of-self
invariant_of-self c =
    let ds = c.self.inside.defs.items in
    let old = c.self.inside.known.items in
    let i = c.args.id in
    let given = c.args.parts in
    let due : MayComplete (slice_get ds i) given = subst (λ (z : List TypeDef). MayComplete (slice_get z i) given) (sym c.self.view_is) c.requires.due in
    let all_below : AllBelow (length ds) given = subst (λ (z : List TypeDef). AllBelow (length z) given) (sym c.self.view_is) c.requires.below in
    let done : c.give.new.defs ≡ completed ds i given = c.give.ensures ∙ ap (λ z. completed z i given) c.deref_mut.ensures.value in
    let long : c.self.inside.defs.len ≡ length c.give.new.defs =
    omega (arith, ap length done, completed_length ds i given, c.deref_mut.ensures.len, ap length c.deref_mut.ensures.value) in
    let new = take c.self.inside.defs.len (c.give.new.defs ++ drop (length c.give.new.defs) ds) in
    let is : new ≡ completed ds i given = written c.self.inside.defs.len c.give.new.defs (drop (length c.give.new.defs) ds) long ∙ done in
    let seen : c.deref.result.now ≡ new = c.deref.ensures.value in
    let found = c.take_up-self-inside.new.known in
    let long_known : c.self.inside.known.len ≡ length found = omega (arith, c.deref_mut-2.ensures.len, c.take_up-self-inside.auto.known) in
    let known = take c.self.inside.known.len (found ++ drop (length found) old) in
    let known_is : known ≡ found = written c.self.inside.known.len found (drop (length found) old) long_known in
    kept_completed ds new i given c.self.inside.index.heads.items c.self.inside.index.nexts.items old known c.self.inside.waiting c.take_up-self-inside.result
    c.self.invariant due all_below is
    (subst (λ (z : List TypeDef). Settled z known) seen
    (subst (λ (k : List (Option Storage)). Settled c.deref.result.now k) (sym known_is) c.take_up-self-inside.ensures.settled))
    (subst (λ (z : List TypeDef). Waits c.take_up-self-inside.result z known) seen
    (subst (λ (k : List (Option Storage)). Waits c.take_up-self-inside.result c.deref.result.now k) (sym known_is) c.take_up-self-inside.ensures.waits))

pub returns-clause-grows : goal.returns-clause-grows
returns-clause-grows c =
    let ds = c.self.inside.defs.items in
    let i = c.args.id in
    let given = c.args.parts in
    let due : MayComplete (slice_get ds i) given = subst (λ (z : List TypeDef). MayComplete (slice_get z i) given) (sym c.self.view_is) c.requires.due in
    let all_below : AllBelow (length ds) given = subst (λ (z : List TypeDef). AllBelow (length z) given) (sym c.self.view_is) c.requires.below in
    let done : c.give.new.defs ≡ completed ds i given = c.give.ensures ∙ ap (λ z. completed z i given) c.deref_mut.ensures.value in
    let long : c.self.inside.defs.len ≡ length c.give.new.defs =
    omega (arith, ap length done, completed_length ds i given, c.deref_mut.ensures.len, ap length c.deref_mut.ensures.value) in
    let new = take c.self.inside.defs.len (c.give.new.defs ++ drop (length c.give.new.defs) ds) in
    let is : new ≡ completed ds i given = written c.self.inside.defs.len c.give.new.defs (drop (length c.give.new.defs) ds) long ∙ done in
    grows_by_parts ds c.args.self.now new i given c.self.view_is c.self.invariant.table due all_below is

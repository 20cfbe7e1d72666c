use Rattle.std.proofs.Common.{◌≡◌, ℕ, List, [], ◌∷◌, ◌++◌, Some, length, sym, ap, ◌∙◌, arith, subst}
use Rattle.std.specs.Prelude.{true, false, Option, slice_set}
use Rattle.nim_types.specs.declared.types.TypeDef.{TypeDef}
use Rattle.nim_types.specs.Table.{MayAdd, Adds}
use Rattle.nim_types.specs.Kept.{at_number, is_at, storage_in}
use Rattle.nim_types.proofs.Keeping.{keeps, appends, slot_below, kept_by, adds_by, grows_more}
use Rattle.nim_types.proofs.table.TypeTable.add.Goals as goal

pub returns-in-Some-clause-ok : goal.returns-in-Some-clause-ok
returns-in-Some-clause-ok c =
    let ds = c.self.inside.defs.items in
    let d = c.args.t in
    let id = c.in-Some.id in
    let is : is_at ds id d ≡ true = ap (λ z. is_at z id d) (sym c.deref.ensures.value) ∙ c.in-Some.ensures.some in
    subst (λ (z : List TypeDef). Adds z d id z) c.self.view_is (keeps ds d id c.self.invariant.table is)

pub push-requires-clause-slots : goal.push-requires-clause-slots
push-requires-clause-slots c = omega (arith, c.slot_of.ensures, slot_below c.args.t, c.in_ok-make_room.ensures.slots)

pub invariant_of-self-2 : goal.invariant_of-self-2
invariant_of-self-2 c =
    let ds = c.self.inside.defs.items in
    let d = c.args.t in
    let old = c.self.inside.index in
    let wide = c.make_room.new.self.heads.items in
    let known = c.self.inside.known.items in
    let none : (id : ℕ) → is_at ds id d ≡ false = λ id. ap (λ z. is_at z id d) (sym c.deref.ensures.value) ∙ c.in_default.ensures.none id in
    let may : MayAdd ds d = subst (λ (z : List TypeDef). MayAdd z d) (sym c.self.view_is) c.requires in
    let same_nexts : c.make_room.new.self.nexts.items ≡ old.nexts.items = c.make_room.ensures.nexts in
    kept_by ds old.heads.items wide old.nexts.items known c.self.inside.waiting c.waits_with-self-inside.result d c.storage_of-storage.result c.slot_of.result
    c.push_reserved-2.new.self.items c.push.new.self.heads.items c.push.new.self.nexts.items c.push_reserved.new.self.items
    c.self.invariant may none (omega arith) c.make_room.ensures.heads c.in_ok-make_room.ensures.slots c.waits_with-self-inside.ensures
    (c.storage_of-storage.ensures ∙ ap (λ z. storage_in z d) (c.deref-2.ensures.value ∙ c.reserve.ensures.items))
    c.slot_of.ensures
    (c.push_reserved-2.ensures.items ∙ ap (λ z. z ++ d ∷ []) c.reserve-2.ensures.items)
    (c.push.ensures.heads ∙ ap (λ (z : List (Option ℕ)). slice_set wide c.slot_of.result (Some (length z))) same_nexts)
    (c.push.ensures.nexts ∙ ap (λ (z : List (Option ℕ)). z ++ at_number wide c.slot_of.result ∷ []) same_nexts)
    (c.push_reserved.ensures.items ∙ ap (λ z. z ++ c.storage_of-storage.result ∷ []) c.reserve.ensures.items)

pub returns-clause-ok : goal.returns-clause-ok
returns-clause-ok c =
    let ds = c.self.inside.defs.items in
    let d = c.args.t in
    let none : (id : ℕ) → is_at ds id d ≡ false = λ id. ap (λ z. is_at z id d) (sym c.deref.ensures.value) ∙ c.in_default.ensures.none id in
    let may : MayAdd ds d = subst (λ (z : List TypeDef). MayAdd z d) (sym c.self.view_is) c.requires in
    let more = c.push_reserved-2.ensures.items ∙ ap (λ z. z ++ d ∷ []) c.reserve-2.ensures.items in
    adds_by ds c.args.self.now c.push_reserved-2.new.self.items d c.len-count.result c.self.view_is (omega arith) more
    (appends ds d c.self.invariant.table may.0 none)

pub returns-clause-grows : goal.returns-clause-grows
returns-clause-grows c =
    let ds = c.self.inside.defs.items in
    let d = c.args.t in
    let none : (id : ℕ) → is_at ds id d ≡ false = λ id. ap (λ z. is_at z id d) (sym c.deref.ensures.value) ∙ c.in_default.ensures.none id in
    let may : MayAdd ds d = subst (λ (z : List TypeDef). MayAdd z d) (sym c.self.view_is) c.requires in
    let more = c.push_reserved-2.ensures.items ∙ ap (λ z. z ++ d ∷ []) c.reserve-2.ensures.items in
    grows_more ds c.args.self.now c.push_reserved-2.new.self.items d c.self.view_is more c.self.invariant.table may none (omega arith)

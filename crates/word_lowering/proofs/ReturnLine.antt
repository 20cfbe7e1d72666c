-- The line that returns, in the start code and in other procedures.
use Rattle.std.proofs.Common.{◌≡◌, ℕ, suc, ◌*◌, ◌≤◌, List, [], ◌∷◌, Option, Some, None, true, false, not, ◌⊎◌, inl, inr, ap₂}
use Rattle.std.proofs.Common.{refl, sym, ap, subst, ◌∙◌, arith}
use Rattle.std.proofs.lemmas.Bool.{eqb-true, and_parts, cases_Bool}
use Rattle.arc_base.specs.Behaviour.{no_objects}
use Rattle.nim_types.specs.Types.{Ty}
use Rattle.nim_meaning.specs.Places.{place_at}
use Rattle.nim_meaning.specs.State.{held, load, slot_at}
use Rattle.nim_meaning.specs.Acts.{branch}
use Rattle.nim_meaning.specs.Values.{Value, Parts, Nil, bytes, is_full, nothing, Slot, Holds, Number, Handle, Fixed, Ref, Resource, Gone, Vacant}
use Rattle.flat_code.specs.declared.block.BlockLine.{BlockLine}
use Rattle.flat_code.specs.declared.line.Line.TheVariants as L
use Rattle.flat_code.specs.Fits.{if_type_of, is_declared, is_own, is_value, place_named, place_type, result_at, same_place}
use Rattle.flat_code.specs.declared.place.FlatPlace.{FlatPlace}
use Rattle.flat_code.specs.Lines.{hands, is_there}
use Rattle.flat_code.specs.Running.{scene_of}
use Rattle.flat_code.specs.Scene.{Returns, Fails}
use Rattle.word_code.specs.declared.word.WordInstr.{WordInstr}
use Rattle.word_lowering.specs.declared.homes.Housed.{Housed}
use Rattle.word_lowering.specs.Layouts.{found, result_in, holds_address}
use Rattle.word_lowering.specs.LineCode.{back_code, return_code, exit_code}
use Rattle.word_lowering.specs.Spots.{spot_of}
use Rattle.word_lowering.proofs.ControlLines.{FollowedHere, plain}
use Rattle.word_lowering.proofs.EndLines.{zero_exits}
use Rattle.word_lowering.proofs.Lines.{Basis, fits_here, starts, IsGood, known, lower, Settles, branch_settles}
use Rattle.word_lowering.proofs.MovedLines.{own_declared}
use Rattle.word_lowering.proofs.Options.{none_some}
use Rattle.word_lowering.proofs.ReadFacts.{read_item, item_read}
use Rattle.word_lowering.proofs.Related.{Both, Waits, low, high, code_behind, within, MayAnswer, store_of}
use Rattle.word_lowering.proofs.Returned.{called}
use Rattle.word_lowering.proofs.ReturnFollowed.{unwanted, wanted, wanted_bits}
use Rattle.word_lowering.proofs.ReturnLines.{HandsBack, hands_back, hands_nothing}
use Rattle.word_lowering.proofs.Scenes.{IsNumbers, house, of_place, IsThere, address_of, is_fixed, looked}
use Rattle.word_lowering.proofs.Settling.{LabelsLead, stops_more}
use Rattle.word_lowering.proofs.ShapeFacts.{never}
use Rattle.word_lowering.proofs.Sites.{Among, Body, IsBody, ResultIs, There, around, has_hooks, is_one_word}
use Rattle.word_lowering.proofs.ValueFacts.{place_there, type_in, numbers_there, housed_inside}
use Rattle.word_code.proofs.ForCallers.{AlwaysStops, at}
use Rattle.flat_code.specs.Shapes.{Shape, number, reference, block, elements, row, parts, resource, has_shape}
use Rattle.word_lowering.proofs.FullValues.{full_shape}
use Rattle.word_lowering.proofs.Keeping.{from_home, spot_memory}
use Rattle.word_lowering.proofs.Moves.{is_single}
use Rattle.word_lowering.proofs.SitesApart.{houses}

slot_there : (o : Option Slot) → is_there o ≡ true → (slot : Slot) × (o ≡ Some slot)
slot_there None h = never h
slot_there (Some slot) h = (slot, refl)

-- the place of a result is the one that the layout has
module _ (x : Basis) (all : List Housed) where
  result_named : (p : ℕ) (o : Option ℕ) (r : Option Housed) → same_place (Some p) o ≡ true → ResultIs x.table x.blocks all o r
      → ResultIs x.table x.blocks all (Some p) r
  result_named p None r h i = never h
  result_named p (Some q) r h i = subst (λ n. ResultIs x.table x.blocks all (Some n) r) (sym (eqb-true p q h)) i

  result_none : (o : Option ℕ) (r : Option Housed) → same_place None o ≡ true → ResultIs x.table x.blocks all o r → r ≡ None
  result_none None r h i = i
  result_none (Some q) r h i = never h

declared_there : (all : List Housed) (p : ℕ) → There all is_own p → found is_own p all ≡ found is_declared p all
    → is_declared (found is_declared p all).kind ≡ true → There all is_declared p
declared_there all p there same kind = record {
  among = subst (λ h. Among h all) same there.among;
  number = subst (λ h. h.number ≡ p) same there.number;
  kind = kind;
}

-- what is no word isn't moved as one
many_single : (v : Value) (s : Shape) → is_one_word s ≡ false → has_shape v s ≡ true → is_single v ≡ false
many_single (Number z) (number values) many h = never (sym many)
many_single (Number z) reference many h = never h
many_single (Number z) block many h = never h
many_single (Number z) (elements s) many h = never h
many_single (Number z) (row n s) many h = never h
many_single (Number z) (parts ss) many h = never h
many_single (Number z) (resource ss) many h = never h
many_single (Parts vs) s many h = refl
many_single (Handle n k) s many h = refl
many_single (Fixed text) s many h = refl
many_single (Ref to) s many h = refl
many_single (Resource vs i) s many h = refl
many_single (Gone v f) s many h = refl
many_single Vacant s many h = refl

-- what has no type isn't there
untyped : (x : Basis) (b : Body) (t : ℕ) → IsBody x.table x.blocks b → type_in x is_value b t ≡ None → There b.own.all is_value t → ⊥
untyped x b t is e there = is.unnamed is_value t (no_place (place_named is_value b.proc.places t) e) there
  where
    no_place : (o : Option FlatPlace) → if_type_of (known x) o ≡ None → o ≡ None
    no_place None e = refl
    no_place (Some p) e = absurd (none_some (place_type (known x) p) (sym e))

module _ (x : Basis) (h : Both) (rest : List BlockLine) where
  -- ---- to a caller

  module _ (w : Waits) (ws : List Waits) where
    -- without a result
    return_none : (y : IsGood x (starts (called x h w ws (plain (L.Return None)) rest) (plain (L.Return None)) rest))
        → Settles x (starts (called x h w ws (plain (L.Return None)) rest) (plain (L.Return None)) rest) rest (Returns nothing 1)
    return_none y =
        let line = plain (L.Return None) in
        let k : List WordInstr = code_behind x.table x.blocks h.call.site.body rest in
        let no = result_none x h.call.site.body.own.all (result_at (known x) h.call.site.body.proc.places) (result_in h.call.site.body.own.all)
        (fits_here x.table x.blocks h.call.site.body line rest y.stands) y.linked.0.result in
        let code : code_behind x.table x.blocks h.call.site.body (line ∷ rest) ≡ return_code (around x.table x.blocks h.call.site.body) false None k
        = ap (λ b. return_code (around x.table x.blocks h.call.site.body) b None k) y.linked.1 in
        unwanted x h w ws line rest y refl nothing (λ named. let may = y.answers.0.may named in absurd (none_some may.result (sym no ∙ may.is)))
        (Parts Nil) 1 (omega arith)
        (subst (HandsBack x h w ws line rest y (Parts Nil)) (sym code) (hands_nothing x h w ws line rest y (Parts Nil) k refl))

    module _ (p : ℕ) (y : IsGood x (starts (called x h w ws (plain (L.Return (Some p))) rest) (plain (L.Return (Some p))) rest)) where
      abbrev line : BlockLine
      line = plain (L.Return (Some p))

      abbrev g : Both
      g = called x h w ws line rest

      abbrev all : List Housed
      all = h.call.site.body.own.all

      abbrev k : List WordInstr
      k = code_behind x.table x.blocks h.call.site.body rest

      place_is : ResultIs x.table x.blocks all (Some p) (result_in all)
      place_is = result_named x all p (result_at (known x) h.call.site.body.proc.places) (result_in all)
          (fits_here x.table x.blocks h.call.site.body line rest y.stands) y.linked.0.result

      code_is : code_behind x.table x.blocks h.call.site.body (line ∷ rest)
          ≡ back_code (house h.call.site (of_place p)).is_word (spot_of (house h.call.site (of_place p))) k
      code_is =
          ap (λ b. return_code (around x.table x.blocks h.call.site.body) b (Some p) k) y.linked.1
          ∙ ap (λ r. back_code r.is_word (spot_of r) k) (y.linked.0.own p place_is.1)

      handed : (v : Value) → IsNumbers x.table h.memory h.call (of_place p) v
          → HandsBack x h w ws line rest y v (code_behind x.table x.blocks h.call.site.body (line ∷ rest))
      handed v item =
          subst (HandsBack x h w ws line rest y v) (sym code_is)
          (hands_back x h w ws line rest y (house h.call.site (of_place p)) v k (read_item x g line rest y (of_place p) v item))

      -- the caller gets it, or has no place for it
      finish : (v : Value) → HandsBack x h w ws line rest y v (code_behind x.table x.blocks h.call.site.body (line ∷ rest))
          → (MayAnswer x.table x.blocks h.call.site.body w → Settles x (starts g line rest) rest (Returns v (suc (bytes v))))
          → Settles x (starts g line rest) rest (Returns v (suc (bytes v)))
      finish v back gets = by (type_in x is_value w.call.site.body w.to) refl
        where
          by : (o : Option Ty) → type_in x is_value w.call.site.body w.to ≡ o → Settles x (starts g line rest) rest (Returns v (suc (bytes v)))
          by (Some ty) e = let n = y.linked.5.0.named is_value w.to ty e in gets (y.answers.0.may n.0)
          by None e =
              unwanted x h w ws line rest y refl v (λ named. untyped x w.call.site.body w.to y.linked.5.0 e named) v (suc (bytes v)) (omega arith) back

      -- what the place of the result has
      return_by : ((v : Value) → IsThere h.call.site (of_place p) → slot_at h.world h.call.site.level p ≡ Some (Holds v) → is_full v ≡ true
          → Settles x (starts g line rest) rest (Returns v (suc (bytes v))))
          → Settles x (starts g line rest) rest (hands (scene_of (high x.table x.blocks (starts g line rest))) (Some p))
      return_by go =
          let v : Value = load h.world (place_at h.call.site.level p) in
          let back = Returns v (suc (bytes v)) in
          branch_settles x (starts g line rest) rest (is_there (slot_at h.world h.call.site.level p)) (branch (is_full v) back Fails) Fails
          (λ has. branch_settles x (starts g line rest) rest (is_full v) back Fails (λ full.
          let i = place_is in
          let there = place_there x h.call.site p y.linked.0
          (declared_there all p i.1 (y.linked.0.own p i.1) (own_declared (found is_declared p all).kind
          (and_parts (is_own (found is_declared p all).kind) (not (holds_address (found is_declared p all))) i.2).0)) in
          let u = (y.hold.0.filled p there (slot_there (slot_at h.world h.call.site.level p) has)).own i.2 in
          let same : load h.world (place_at h.call.site.level p) ≡ u.0 = ap held u.1 in
          subst (λ z. Settles x (starts g line rest) rest (Returns z (suc (bytes z)))) (sym same)
          (go u.0 there u.1 (subst (λ z. is_full z ≡ true) same full))) (λ no before. tt))
          (λ no before. tt)

      -- numbers, or what has hooks, by its bits
      return_some : Settles x (starts g line rest) rest (hands (scene_of (high x.table x.blocks (starts g line rest))) (Some p))
      return_some = return_by (λ v there slot full. by v there slot full (cases_Bool (has_hooks x.table (house h.call.site (of_place p)))))
        where
          numbers : (v : Value) → IsThere h.call.site (of_place p) → slot_at h.world h.call.site.level p ≡ Some (Holds v)
              → has_hooks x.table (house h.call.site (of_place p)) ≡ false
              → Settles x (starts (called x h w ws (plain (L.Return (Some p))) rest) (plain (L.Return (Some p))) rest) rest (Returns v (suc (bytes v)))
          numbers v there slot unhooked =
              let item = item_read x g line rest y (of_place p) v there (numbers_there x h.call.site (of_place p) y.linked.0 there unhooked) slot in
              let back = handed v item in
              finish v back (λ may. wanted x h w ws line rest y refl v p item may place_is.0 back)

          bits : (v : Value) → IsThere h.call.site (of_place p) → slot_at h.world h.call.site.level p ≡ Some (Holds v) → is_full v ≡ true
              → has_hooks x.table (house h.call.site (of_place p)) ≡ true
              → Settles x (starts (called x h w ws (plain (L.Return (Some p))) rest) (plain (L.Return (Some p))) rest) rest (Returns v (suc (bytes v)))
          bits v there slot full hooks =
              let many = (y.linked.0.built (house h.call.site (of_place p)) there.among hooks).1 in
              let item = y.hold.0.items (of_place p) v there slot in
              let origin = houses x.table x.blocks h.call.site (of_place p) y.linked.0 there in
              let inside = housed_inside x h.call.site.body (house h.call.site (of_place p)) origin item.plain many in
              let stored = from_home (store_of h) h.call.site.base h.call.vars (looked x.table h.call.site (of_place p)) (house h.call.site (of_place p)) v
              item.plain inside item.at in
              let shaped = full_shape (is_fixed h.ground) h.ground.blocks h.memory (address_of h.call.site.base (house h.call.site (of_place p)).home)
              (looked x.table h.call.site (of_place p)) v stored full in
              let back : HandsBack x h w ws line rest y v (code_behind x.table x.blocks h.call.site.body (line ∷ rest))
              = subst (HandsBack x h w ws line rest y v)
              (sym (code_is ∙ ap₂ (λ c q. back_code c q k) (sym origin.word ∙ many) (spot_memory (house h.call.site (of_place p)) item.plain inside)))
              (hands_nothing x h w ws line rest y v k (many_single v (looked x.table h.call.site (of_place p)) many shaped)) in
              finish v back (λ may. wanted_bits x h w ws line rest y refl v p item full many may place_is.0 back)

          by : (v : Value) → IsThere h.call.site (of_place p) → slot_at h.world h.call.site.level p ≡ Some (Holds v) → is_full v ≡ true
              → (has_hooks x.table (house h.call.site (of_place p)) ≡ true) ⊎ (has_hooks x.table (house h.call.site (of_place p)) ≡ false)
              → Settles x (starts (called x h w ws (plain (L.Return (Some p))) rest) (plain (L.Return (Some p))) rest) rest (Returns v (suc (bytes v)))
          by v there slot full (inl hooks) = bits v there slot full hooks
          by v there slot full (inr unhooked) = numbers v there slot unhooked

  -- ---- the start code ends

  abbrev alone : Both
  alone = record h { waiting = [] }

  start_ends : (result : Option ℕ) → IsGood x (starts alone (plain (L.Return result)) rest) → (v : Value) (work : ℕ) → 1 ≤ work
      → Settles x (starts alone (plain (L.Return result)) rest) rest (Returns v work)
  start_ends result y v work some =
      let k : List WordInstr = code_behind x.table x.blocks h.call.site.body rest in
      let s = zero_exits x alone k in
      let code : code_behind x.table x.blocks h.call.site.body (plain (L.Return result) ∷ rest)
      ≡ return_code (around x.table x.blocks h.call.site.body) true result k
      = ap (λ b. return_code (around x.table x.blocks h.call.site.body) b result k) y.linked.1 in
      subst (λ c. AlwaysStops (lower x) (record (low x.table x.blocks (starts alone (plain (L.Return result)) rest))
      { frame = record (low x.table x.blocks (starts alone (plain (L.Return result)) rest)).frame { left = c } }) [] (256 * work) 0 no_objects)
      (sym code) (stops_more (lower x) (at (within x.table x.blocks alone) h.memory (exit_code k) h.call.vars h.words) 2 (256 * work) 0 [] no_objects
      (omega (arith, some)) s) x.fresh

  start_some : (p : ℕ) (y : IsGood x (starts alone (plain (L.Return (Some p))) rest))
      → Settles x (starts alone (plain (L.Return (Some p))) rest) rest
      (hands (scene_of (high x.table x.blocks (starts alone (plain (L.Return (Some p))) rest))) (Some p))
  start_some p y =
      let v : Value = load h.world (place_at h.call.site.level p) in
      let here = starts alone (plain (L.Return (Some p))) rest in
      let back = Returns v (suc (bytes v)) in
      branch_settles x here rest (is_there (slot_at h.world h.call.site.level p)) (branch (is_full v) back Fails) Fails
      (λ has. branch_settles x here rest (is_full v) back Fails (λ full. start_ends (Some p) y v (suc (bytes v)) (omega arith)) (λ no before. tt))
      (λ no before. tt)

  by_waiting : (result : Option ℕ) (ws : List Waits) → IsGood x (starts (record h { waiting = ws }) (plain (L.Return result)) rest)
      → Settles x (starts (record h { waiting = ws }) (plain (L.Return result)) rest) rest
      (hands (scene_of (high x.table x.blocks (starts (record h { waiting = ws }) (plain (L.Return result)) rest))) result)
  by_waiting None [] y = start_ends None y nothing 1 (omega arith)
  by_waiting (Some p) [] y = start_some p y
  by_waiting None (w ∷ ws) y = return_none w ws y
  by_waiting (Some p) (w ∷ ws) y = return_some w ws p y

pub return_line : (x : Basis) (labels : LabelsLead x) (h : Both) (rest : List BlockLine) (result : Option ℕ) → FollowedHere x labels h rest (L.Return result)
return_line x labels h rest result names y = by_waiting x h rest result h.waiting y

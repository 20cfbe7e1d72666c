-- Lines that move a value to a temporary, or to a declared place of the call.
use Rattle.std.proofs.Common.{◌≡◌, ℕ, ◌+◌, ◌*◌, ◌≤◌, List, [], ◌∷◌, Option, Some, None, Bool, true, false, refl, sym, ap, subst, ◌∙◌, arith, not, ◌&&◌}
use Rattle.std.proofs.lemmas.Bool.{and_parts, not-true}
use Rattle.nim_plan.specs.declared.plan.Act.{Act}
use Rattle.nim_types.specs.Types.{Ty}
use Rattle.nim_types.specs.Forms.{hooked, form_of}
use Rattle.nim_types.specs.Table.{facts_in}
use Rattle.flat_code.specs.declared.line.UseAt.{UseAt}
use Rattle.nim_program.specs.declared.program.Mode.TheVariants.{Plain, Sink, Var}
use Rattle.nim_program.specs.View.{if_type}
use Rattle.nim_program.specs.Kinds.{is_of}
use Rattle.nim_meaning.specs.Values.{Value, bytes, Holds}
use Rattle.nim_meaning.specs.State.{World, is_full_at, load, with_slot}
use Rattle.nim_meaning.specs.Deeds.{Answers, costs, give, unless_gone}
use Rattle.nim_meaning.specs.Here.{gives_hooked, form_for}
use Rattle.nim_meaning.specs.Places.{fetched, taken_by, place_at, put}
use Rattle.flat_code.specs.declared.block.BlockLine.{BlockLine}
use Rattle.flat_code.specs.declared.block.BlockLine.TheVariants as block_line
use Rattle.flat_code.specs.declared.owned.OwnedLine.TheVariants as owned_line
use Rattle.flat_code.specs.declared.line.Line.TheVariants as L
use Rattle.flat_code.specs.declared.place.PlaceKind.{PlaceKind}
use Rattle.flat_code.specs.declared.place.PlaceKind.TheVariants as K
use Rattle.flat_code.specs.Codes.{block_does}
use Rattle.flat_code.specs.Fits.{is_value, is_location, is_own, is_declared}
use Rattle.flat_code.specs.Scene.{Where, Passes, with_value, location_at}
use Rattle.flat_code.specs.Shapes.{has_shape, shape_of}
use Rattle.flat_code.specs.Lines.{acts, fills, gives}
use Rattle.flat_code.specs.Running.{scene_of}
use Rattle.word_lowering.specs.declared.homes.Housed.{Housed}
use Rattle.word_lowering.specs.Layouts.{found, owns, address_by, holds_address}
use Rattle.word_lowering.specs.LineCode.{is_copied, location}
use Rattle.word_lowering.specs.WaitingCode.{gives_hooked as code_hooked}
use Rattle.word_lowering.proofs.HookFree.{got_plain, same_hooks}
use Rattle.word_lowering.specs.OwnedCode.{entry_of, is_text as is_text_entry}
use Rattle.std.specs.Prelude.{not}
use Rattle.word_lowering.specs.Spots.{moves}
use Rattle.word_lowering.proofs.LineFits.{are_of, single_is, single_number}
use Rattle.word_lowering.proofs.Targets.{Target, target, pointed}
use Rattle.word_lowering.proofs.Related.{high, within, Both, body_of}
use Rattle.word_lowering.proofs.Lines.{known, Basis, IsGood, Settles, all_sites, changed, fits_here, goes_on, stands_next, starts, using_settles, bound_for}
use Rattle.word_lowering.proofs.Lines.{where_there}
use Rattle.word_lowering.proofs.ReadFacts.{Read, ValueRead, read_value, read_location}
use Rattle.word_lowering.proofs.ControlLines.{FollowedHere, plain}
use Rattle.word_lowering.proofs.Settling.{code_here, code_next, LabelsLead}
use Rattle.word_lowering.proofs.Sites.{type_of, around, Among, is_one_word}
use Rattle.word_lowering.proofs.Gets.{Gets, gets_moved, gets_word, good_place, same_temps, value_settles}
use Rattle.word_lowering.proofs.InMemory.{bytes_some}
use Rattle.word_lowering.proofs.Moves.{is_single}
use Rattle.word_lowering.proofs.Options.{some_same}
use Rattle.word_lowering.proofs.Scenes.{IsNamed, IsThere, house, looked, of_place, of_value, of_location}
use Rattle.word_lowering.proofs.ShapeFacts.{never, of_numbers, values_of_numbers}
use Rattle.word_lowering.proofs.SitesApart.{houses}
use Rattle.word_lowering.proofs.Sources.{to_word_by}
use Rattle.word_lowering.proofs.ValueFacts.{has_type, in_word, look_of, place_there, type_in, value_plain, value_there, IsPlain, PlainNames}

-- ---- kinds of declared places

pub own_plain : (place : Housed) → owns place ≡ true → holds_address place ≡ false
own_plain place h = not-true (holds_address place) (and_parts (is_own place.kind) (not (holds_address place)) h).1

owned_by : (k : PlaceKind) → is_own k ≡ true → (is_own k && not (address_by false k)) ≡ true
owned_by (K.Param Plain) h = refl
owned_by (K.Param Sink) h = refl
owned_by (K.Param Var) h = never h
owned_by k h = h

-- a place of its own that stands for no other one
pub owned : (place : Housed) → place.lent ≡ false → is_own place.kind ≡ true → owns place ≡ true
owned place e h = ap (λ b. is_own place.kind && not (address_by b place.kind)) e ∙ owned_by place.kind h

pub own_declared : (k : PlaceKind) → is_own k ≡ true → is_declared k ≡ true
own_declared (K.Param Plain) h = refl
own_declared (K.Param Sink) h = refl
own_declared (K.Param Var) h = never h
own_declared K.Temp h = never h
own_declared K.Location h = never h
own_declared K.Within h = never h
own_declared K.Counter h = never h
own_declared k h = refl

module _ (x : Basis) (g : Both) (line : BlockLine) (rest : List BlockLine) (y : IsGood x (starts g line rest)) where
  -- ---- to a temporary

  pub moved_value : (to : ℕ) (ty : Ty) (v : Value) → Target x g line rest y to ty → has_shape v (shape_of (facts_in x.table) ty) ≡ true
      → (from : Housed) (all : Bool) → Read x g line rest y all from v
      → code_here x g line rest y ≡ moves (house g.call.site (of_value to)) from (code_next x g line rest y) → (work : ℕ)
      → 10 + 2 * bytes v ≤ 256 * work
      → Settles x (starts g line rest) rest (Passes (Answers [] work (with_value to g.call.temps v) g.world))
  moved_value to ty v t shaped from all r code work le =
      let look : has_shape v (looked x.table g.call.site (of_value to)) ≡ true = subst (λ s. has_shape v s ≡ true) (sym t.look) shaped in
      value_settles x g line rest y to v (10 + 2 * bytes v) work t.there t.here look
      (subst (λ l. Gets x g line rest y l (code_next x g line rest y) (of_value to) v (10 + 2 * bytes v)) (sym code)
      (gets_moved x g line rest y (of_value to) t.there (value_plain (house g.call.site (of_value to)) t.there.kind) v t.here look
      (code_next x g line rest y) from r.word r.size r.small all r.source))
      le

  -- a word is moved by two lines at most
  pub moved_word : (to : ℕ) (ty : Ty) (v : Value) → Target x g line rest y to ty → has_shape v (shape_of (facts_in x.table) ty) ≡ true
      → is_one_word (shape_of (facts_in x.table) ty) ≡ true
      → (from : Housed) (all : Bool) → Read x g line rest y all from v
      → code_here x g line rest y ≡ moves (house g.call.site (of_value to)) from (code_next x g line rest y)
      → Settles x (starts g line rest) rest (Passes (Answers [] 1 (with_value to g.call.temps v) g.world))
  moved_word to ty v t shaped one from all r code =
      let look : has_shape v (looked x.table g.call.site (of_value to)) ≡ true = subst (λ s. has_shape v s ≡ true) (sym t.look) shaped in
      let w = in_word x g.call.site to y.linked.0 t.there (ap is_one_word t.look ∙ one) in
      let plain_is = value_plain (house g.call.site (of_value to)) t.there.kind in
      let single : is_single v ≡ true = single_is v (shape_of (facts_in x.table) ty) t.numbers shaped ∙ one in
      let n = single_number v single in
      value_settles x g line rest y to v 2 1 t.there t.here look
      (subst (λ l. Gets x g line rest y l (code_next x g line rest y) (of_value to) v 2) (sym code)
      (gets_word x g line rest y (of_value to) t.there plain_is v t.here look (moves (house g.call.site (of_value to)) from (code_next x g line rest y))
      (code_next x g line rest y) w.variable w.home
      (to_word_by x (all_sites x g line rest y) y.linked (within x.table x.blocks g) refl g.words g.memory y.memory (code_next x g line rest y) g.call.vars
      (house g.call.site (of_value to)) from v r.word r.size r.small w.variable w.spot w.high n.0 n.1 all r.source)))
      (omega arith)

  -- ---- to a declared place of the call

  pub record OwnPlace (n : ℕ) (ty : Ty) : Type 0 where
    pub there : IsThere g.call.site (of_place n)
    pub here : of_numbers (looked x.table g.call.site (of_place n)) ≡ true
    pub look : looked x.table g.call.site (of_place n) ≡ shape_of (facts_in x.table) ty
    pub numbers : of_numbers (shape_of (facts_in x.table) ty) ≡ true
    pub unhooked : hooked (form_of (facts_in x.table) ty) ≡ false
    pub own : owns (house g.call.site (of_place n)) ≡ true
    pub same : found is_own n (body_of g).own.all ≡ house g.call.site (of_place n)

  pub own_place : (n : ℕ) (ty : Ty) → type_in x is_own (body_of g) n ≡ Some ty → IsPlain x g.call.site (of_place n) → OwnPlace n ty
  own_place n ty is plain =
      let m = y.linked.0.named is_own n ty is in
      let same : found is_own n (body_of g).own.all ≡ house g.call.site (of_place n) = y.linked.0.own n m.0 in
      let named : IsNamed g.call.site (of_place n) = record {
        among = subst (λ h. Among h (body_of g).own.all) same m.0.among;
        number = subst (λ h. h.number ≡ n) same m.0.number;
        kind = subst (λ h. is_declared h.kind ≡ true) same (own_declared (found is_own n (body_of g).own.all).kind m.0.kind);
      } in
      let there = place_there x g.call.site n y.linked.0 named in
      let typed : type_of x.table (house g.call.site (of_place n)) ≡ ty = subst (λ h. type_of x.table h ≡ ty) same m.1 in
      let h = houses x.table x.blocks g.call.site (of_place n) y.linked.0 there in
      record {
        there = there;
        here = h.numbers (plain there);
        look = ap (shape_of (facts_in x.table)) typed;
        numbers = subst (λ t. of_numbers (shape_of (facts_in x.table) t) ≡ true) typed (h.numbers (plain there));
        unhooked = subst (λ t. hooked (form_of (facts_in x.table) t) ≡ false) typed (h.unhooked (plain there));
        own = owned (house g.call.site (of_place n)) (h.unlent (h.unhooked (plain there))) (subst (λ h. is_own h.kind ≡ true) same m.0.kind);
        same = same;
      }

  pub place_settles : (n : ℕ) (ty : Ty) (v : Value) (most work : ℕ) → OwnPlace n ty → has_shape v (shape_of (facts_in x.table) ty) ≡ true
      → Gets x g line rest y (code_here x g line rest y) (code_next x g line rest y) (of_place n) v most → most ≤ 256 * work
      → Settles x (starts g line rest) rest (Passes (Answers [] work g.call.temps (with_slot g.world g.call.site.level n (Some (Holds v)))))
  place_settles n ty v most work o shaped r le =
      let look : has_shape v (looked x.table g.call.site (of_place n)) ≡ true = subst (λ s. has_shape v s ≡ true) (sym o.look) shaped in
      let world : World = with_slot g.world g.call.site.level n (Some (Holds v)) in
      goes_on x (starts g line rest) (changed g rest g.call.temps r.vars r.memory r.words r.awaits world) rest
      (good_place x g line rest y n o.there o.own v rest (stands_next x.table x.blocks (body_of g) line rest y.stands) g.call.temps
      (same_temps x g line rest y) (code_here x g line rest y) (code_next x g line rest y) most o.here look
      (own_plain (house g.call.site (of_place n)) o.own) r)
      r.steps work g.call.temps world r.runs r.some (let h = r.few in omega (arith, h, le)) refl

  pub moved_place : (n : ℕ) (ty : Ty) (v : Value) → OwnPlace n ty → has_shape v (shape_of (facts_in x.table) ty) ≡ true
      → (from : Housed) (all : Bool) → Read x g line rest y all from v
      → code_here x g line rest y ≡ moves (found is_own n (body_of g).own.all) from (code_next x g line rest y) → (work : ℕ)
      → 10 + 2 * bytes v ≤ 256 * work
      → Settles x (starts g line rest) rest (Passes (Answers [] work g.call.temps (with_slot g.world g.call.site.level n (Some (Holds v)))))
  moved_place n ty v o shaped from all r code work le =
      let look : has_shape v (looked x.table g.call.site (of_place n)) ≡ true = subst (λ s. has_shape v s ≡ true) (sym o.look) shaped in
      let next = code_next x g line rest y in
      place_settles n ty v (10 + 2 * bytes v) work o shaped
      (subst (λ l. Gets x g line rest y l next (of_place n) v (10 + 2 * bytes v)) (sym (code ∙ ap (λ h. moves h from next) o.same))
      (gets_moved x g line rest y (of_place n) o.there (own_plain (house g.call.site (of_place n)) o.own) v o.here look next from r.word r.size r.small all
      r.source)) le

  -- ---- what lines move

  -- a value of the type of what gets it
  pub value_read : (t : ℕ) (v : Value) (ty : Ty) → type_in x is_value (body_of g) t ≡ Some ty → of_numbers (shape_of (facts_in x.table) ty) ≡ true
      → g.call.temps.values t ≡ Some v → ValueRead x g line rest y t v × (has_shape v (shape_of (facts_in x.table) ty) ≡ true)
  value_read t v ty typed numbers e =
      let n = has_type x g.call.site (of_value t) ty y.linked.0 typed in
      let look = look_of x g.call.site (of_value t) ty n in
      let r = read_value x g line rest y t v (value_there x g.call.site t y.linked.0 n.named (ap of_numbers look ∙ numbers))
      (ap of_numbers look ∙ numbers) e in
      (r, subst (λ s. has_shape v s ≡ true) look r.shaped)

  -- a value that isn't hooked is what stands there, whatever the plan says
  pub fetched_settles : (to : ℕ) (ty : Ty) (from : ℕ) (there : Where) → IsPlain x g.call.site (of_location from) → Target x g line rest y to ty
      → type_in x is_location (body_of g) from ≡ Some ty
      → g.call.temps.places from ≡ Some there
      → code_here x g line rest y
      ≡ moves (house g.call.site (of_value to)) (location (around x.table x.blocks (body_of g)) from) (code_next x g line rest y)
      → Settles x (starts g line rest) rest
      (gives (scene_of (high x.table x.blocks (starts g line rest))) to (fetched (location_at g.call.temps there)))
  fetched_settles to ty from there plain_from t typed e code =
      let p = pointed x g line rest y from ty typed in
      let v = load g.world (location_at g.call.temps there) in
      where_there x (starts g line rest) rest (is_full_at g.world (location_at g.call.temps there))
      (λ b. gives (scene_of (high x.table x.blocks (starts g line rest))) to (unless_gone b (costs (bytes v) (give v)))) (λ before. tt)
      (λ seen. let r = read_location x g line rest y from there p.named plain_from e seen in
      let shaped : has_shape v (shape_of (facts_in x.table) ty) ≡ true = subst (λ s. has_shape v s ≡ true) p.look r.shaped in
      let some = bytes_some v (values_of_numbers v (shape_of (facts_in x.table) ty) t.numbers shaped) in
      moved_value to ty v t shaped (location (around x.table x.blocks (body_of g)) from) r.all r.read code (bytes v + 0) (omega (arith, some)))

  pub taken_settles : (to : ℕ) (ty : Ty) (o : Option Ty) (how : UseAt) (act : Option Act) (from : ℕ) (there : Where)
      → IsPlain x g.call.site (of_location from) → Target x g line rest y to ty
      → o ≡ Some ty
      → type_in x is_location (body_of g) from ≡ Some ty → g.call.temps.places from ≡ Some there
      → code_here x g line rest y
      ≡ moves (house g.call.site (of_value to)) (location (around x.table x.blocks (body_of g)) from) (code_next x g line rest y)
      → Settles x (starts g line rest) rest (gives (scene_of (high x.table x.blocks (starts g line rest))) to
      (taken_by (gives_hooked (facts_in x.table) o) (form_for (facts_in x.table) o) (bound_for g how) act (location_at g.call.temps there)))
  taken_settles to ty o how act from there plain_from t is typed e code =
      subst (λ b. Settles x (starts g line rest) rest (gives (scene_of (high x.table x.blocks (starts g line rest))) to
      (taken_by b (form_for (facts_in x.table) o) (bound_for g how) act (location_at g.call.temps there))))
      (sym (ap (gives_hooked (facts_in x.table)) is ∙ t.unhooked))
      (fetched_settles to ty from there plain_from t typed e code)

module _ (x : Basis) (labels : LabelsLead x) (g : Both) (rest : List BlockLine) where
  module _ (to from : ℕ) where
    pub look_line : FollowedHere x labels g rest (L.Look to from)
    look_line names y =
        let line = plain (L.Look to from) in
        let f = are_of (type_in x is_value (body_of g) to) (type_in x is_location (body_of g) from)
        (and_parts (is_of (type_in x is_value (body_of g) to) (type_in x is_location (body_of g) from)) _
        (fits_here x.table x.blocks (body_of g) line rest y.stands)).0 in
        using_settles x (starts g line rest) rest (g.call.temps.places from)
        (λ there. gives (scene_of (high x.table x.blocks (starts g line rest))) to (fetched (location_at g.call.temps there)))
        (λ there e. fetched_settles x g line rest y to f.ty from there names.1.0 (target x g line rest y to f.ty refl refl f.is names.0) f.is_other e refl)

    pub get_line : (how : UseAt) (ty : Option ℕ) → FollowedHere x labels g rest (L.Get to from how ty)
    get_line how ty names y =
        let line = plain (L.Get to from how ty) in
        let parts = and_parts (is_of (type_in x is_value (body_of g) to) (if_type (known x).types ty))
        (is_of (type_in x is_value (body_of g) to) (type_in x is_location (body_of g) from))
        (fits_here x.table x.blocks (body_of g) line rest y.stands) in
        let a = are_of (type_in x is_value (body_of g) to) (if_type (known x).types ty) parts.0 in
        let f = are_of (type_in x is_value (body_of g) to) (type_in x is_location (body_of g) from) parts.1 in
        let same : a.ty ≡ f.ty = some_same a.ty f.ty (sym a.is ∙ f.is) in
        using_settles x (starts g line rest) rest (g.call.temps.places from)
        (λ there. gives (scene_of (high x.table x.blocks (starts g line rest))) to
        (taken_by (gives_hooked (facts_in x.table) (if_type (known x).types ty)) (form_for (facts_in x.table) (if_type (known x).types ty))
        (bound_for g how) None (location_at g.call.temps there)))
        (λ there e. taken_settles x g line rest y to f.ty (if_type (known x).types ty) how None from there names.1.0
        (target x g line rest y to f.ty refl refl f.is names.0)
        (a.is_other ∙ ap Some same) f.is_other e
        (got_plain (around x.table x.blocks (body_of g)) (code_hooked x.table ty) (is_copied how.how) (not (is_text_entry (entry_of x.table ty))) ty
        (house g.call.site (of_value to)) (location (around x.table x.blocks (body_of g)) from) (code_next x g line rest y)
        (same_hooks x ty ∙ (ap (gives_hooked (facts_in x.table)) (a.is_other ∙ ap Some same)
        ∙ (target x g line rest y to f.ty refl refl f.is names.0).unhooked))))

    pub take_line : (how : UseAt) (act : Option Act) (ty : Option ℕ)
        → PlainNames x g.call.site (of_value to ∷ of_location from ∷ []) →
        (y : IsGood x (starts g (block_line.Plain (owned_line.Take to from how act ty)) rest))
        → Settles x (starts g (block_line.Plain (owned_line.Take to from how act ty)) rest) rest
        (block_does (known x) (scene_of (high x.table x.blocks (starts g (block_line.Plain (owned_line.Take to from how act ty)) rest)))
        (block_line.Plain (owned_line.Take to from how act ty)))
    take_line how act ty names y =
        let line = block_line.Plain (owned_line.Take to from how act ty) in
        let parts = and_parts (is_of (type_in x is_value (body_of g) to) (if_type (known x).types ty))
        (is_of (type_in x is_value (body_of g) to) (type_in x is_location (body_of g) from))
        (fits_here x.table x.blocks (body_of g) line rest y.stands) in
        let a = are_of (type_in x is_value (body_of g) to) (if_type (known x).types ty) parts.0 in
        let f = are_of (type_in x is_value (body_of g) to) (type_in x is_location (body_of g) from) parts.1 in
        let same : a.ty ≡ f.ty = some_same a.ty f.ty (sym a.is ∙ f.is) in
        using_settles x (starts g line rest) rest (g.call.temps.places from)
        (λ there. gives (scene_of (high x.table x.blocks (starts g line rest))) to
        (taken_by (gives_hooked (facts_in x.table) (if_type (known x).types ty)) (form_for (facts_in x.table) (if_type (known x).types ty))
        (bound_for g how) act (location_at g.call.temps there)))
        (λ there e. taken_settles x g line rest y to f.ty (if_type (known x).types ty) how act from there names.1.0
        (target x g line rest y to f.ty refl refl f.is names.0)
        (a.is_other ∙ ap Some same) f.is_other e
        (got_plain (around x.table x.blocks (body_of g)) (code_hooked x.table ty) (is_copied how.how) (not (is_text_entry (entry_of x.table ty))) ty
        (house g.call.site (of_value to)) (location (around x.table x.blocks (body_of g)) from) (code_next x g line rest y)
        (same_hooks x ty ∙ (ap (gives_hooked (facts_in x.table)) (a.is_other ∙ ap Some same)
        ∙ (target x g line rest y to f.ty refl refl f.is names.0).unhooked))))

  module _ (n from : ℕ) where
    pub fill_line : FollowedHere x labels g rest (L.Fill n from)
    fill_line names y =
        let line = plain (L.Fill n from) in
        let f = are_of (type_in x is_own (body_of g) n) (type_in x is_value (body_of g) from)
        (fits_here x.table x.blocks (body_of g) line rest y.stands) in
        let o = own_place x g line rest y n f.ty f.is names.0 in
        using_settles x (starts g line rest) rest (g.call.temps.values from)
        (λ v. acts (scene_of (high x.table x.blocks (starts g line rest))) (costs 1 (fills g.call.site.level n v)))
        (λ v e. let r = value_read x g line rest y from v f.ty f.is_other o.numbers e in
        moved_place x g line rest y n f.ty v o r.1 (house g.call.site (of_value from)) true r.0.read refl (1 + (bytes v + 0)) (omega arith))

    pub give_line : FollowedHere x labels g rest (L.Give n from)
    give_line names y =
        let line = plain (L.Give n from) in
        let f = are_of (type_in x is_own (body_of g) n) (type_in x is_value (body_of g) from)
        (fits_here x.table x.blocks (body_of g) line rest y.stands) in
        let o = own_place x g line rest y n f.ty f.is names.0 in
        using_settles x (starts g line rest) rest (g.call.temps.values from)
        (λ v. acts (scene_of (high x.table x.blocks (starts g line rest))) (costs 1 (put (place_at g.call.site.level n) v)))
        (λ v e. let r = value_read x g line rest y from v f.ty f.is_other o.numbers e in
        moved_place x g line rest y n f.ty v o r.1 (house g.call.site (of_value from)) true r.0.read refl (1 + (bytes v + 0)) (omega arith))

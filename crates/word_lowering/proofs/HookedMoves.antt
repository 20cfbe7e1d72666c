-- Lines that move a value by its bits, whatever it has: what is looked at, what declared places get, and what these start at. It is no word.
use Rattle.std.proofs.Common.{◌≡◌, inl, ℕ, ◌+◌, ◌*◌, ◌%◌, ◌≤◌, List, [], length, map, Option, Some, None, Bool, true, false, refl, sym, ap}
use Rattle.std.proofs.Common.{subst, ◌∙◌, ◌⊎◌, inr}
use Rattle.std.proofs.Common.{arith}
use Rattle.std.proofs.lemmas.Bool.{and_parts, cases_Bool}
use Rattle.nim_types.specs.Types.{Facts, Ty}
use Rattle.std.specs.Prelude.{◌||◌}
use Rattle.nim_types.specs.Table.{facts_in, type_at}
use Rattle.nim_program.specs.Kinds.{is_of, is_ordinal, is_selected, is_text, kind_if, kind_of}
use Rattle.nim_program.specs.View.{if_type}
use Rattle.nim_meaning.specs.Deeds.{Answers, costs, give, unless_gone}
use Rattle.nim_meaning.specs.Places.{fetched, place_at, put}
use Rattle.nim_meaning.specs.State.{World, is_full_at, load, with_slot}
use Rattle.nim_meaning.specs.Values.{Value, Location, bytes, Holds, default_of}
use Rattle.flat_code.specs.Codes.{block_does, block_plain}
use Rattle.flat_code.specs.Fits.{is_location, is_own, is_value}
use Rattle.flat_code.specs.Lines.{acts, fills, gives}
use Rattle.flat_code.specs.Running.{scene_of}
use Rattle.flat_code.specs.Scene.{Passes, Temps, Where, location_at, with_value}
use Rattle.flat_code.specs.Shapes.{Shape, has_shape, shape_of}
use Rattle.flat_code.specs.declared.block.BlockLine.{BlockLine}
use Rattle.flat_code.specs.declared.line.Line.TheVariants as L
use Rattle.word_code.specs.RoutineTable.{Separate, ZeroWords}
use Rattle.word_code.specs.declared.word.WordInstr.{WordInstr}
use Rattle.word_lowering.specs.Aliases.{alias_by, texts_of, value_to}
use Rattle.word_lowering.specs.Layouts.{found, holds_address, owns}
use Rattle.word_lowering.specs.LineCode.{location}
use Rattle.word_lowering.specs.Spots.{moves, clears}
use Rattle.word_lowering.specs.declared.homes.Alias.TheVariants as alias
use Rattle.word_lowering.specs.declared.homes.Housed.{Housed}
use Rattle.word_lowering.proofs.AddressFacts.{in_memory}
use Rattle.word_lowering.proofs.BitMoves.{Bits, bits_moved, item_moved}
use Rattle.word_lowering.proofs.ControlLines.{plain}
use Rattle.word_lowering.proofs.Gets.{Changes, good_item_place, item_settles, same_temps}
use Rattle.word_lowering.proofs.HookedReads.{LiesAs, bytes_of, location_lies, some_bytes, value_lies}
use Rattle.word_lowering.proofs.Keeping.{call, to_home}
use Rattle.word_lowering.proofs.JoinedTypes.{text_looks}
use Rattle.word_lowering.proofs.LineFits.{are_of, ordinal_shape}
use Rattle.word_lowering.proofs.Lines.{Basis, IsGood, Settles, all_sites, bound_for, changed, fits_here, goes_on, known, stands_next, starts, using_settles}
use Rattle.word_lowering.proofs.Lines.{all_procs, where_there}
use Rattle.word_lowering.proofs.MovedLines.{own_declared, own_plain, owned}
use Rattle.word_lowering.proofs.Related.{Both, body_of, high, store_of, store_with, within}
use Rattle.word_lowering.proofs.Scenes.{IsItem, IsNamed, IsThere, Name, StoredIn, address_of, house, looked, of_place, of_value, is_fixed}
use Rattle.word_lowering.proofs.Settling.{LabelsLead, code_here, code_next}
use Rattle.word_lowering.proofs.Located.{AreBits}
use Rattle.word_lowering.proofs.ShapeFacts.{of_numbers, shape_bytes}
use Rattle.word_lowering.proofs.Sites.{Among, InMemory, around, has_hooks, is_one_word, type_of}
use Rattle.word_lowering.proofs.SitesApart.{houses}
use Rattle.word_lowering.proofs.Sources.{lying_all}
use Rattle.word_lowering.proofs.StoredLater.{shape_some, shape_whole}
use Rattle.word_lowering.proofs.Targets.{own_either, pointed, value_alias}
use Rattle.word_lowering.proofs.ValueFacts.{IsHomed, has_type, look_of, place_there, type_in, value_plain, with_home}
use Rattle.word_lowering.proofs.BitClears.{bits_cleared}
use Rattle.word_lowering.proofs.BlankShapes.{blank_in, of_handles, zeros_stored}
use Rattle.word_lowering.proofs.FullValues.{stored_bytes}
use Rattle.word_lowering.proofs.Options.{some_same}
use Rattle.word_lowering.proofs.RoutineCalls.{awaiting}
use Rattle.word_code.proofs.ForCallers.{Runs, at}
use Rattle.word_code.specs.Memory.{Memory}
use Rattle.word_lowering.proofs.Clears.{blank_numbers}

-- an ordinal or a text
selected_bits : (facts : Facts) (ty : Ty) → is_selected (kind_of facts ty) ≡ true → AreBits (shape_of facts ty)
selected_bits facts ty h = by (is_ordinal (kind_of facts ty)) refl
  where
    by : (b : Bool) → is_ordinal (kind_of facts ty) ≡ b → AreBits (shape_of facts ty)
    by true e = inl (ap of_numbers (ordinal_shape facts ty e).1)
    by false e = inr (text_looks facts ty (sym (ap (λ b. b || is_text (kind_of facts ty)) e) ∙ h))

module _ (x : Basis) (g : Both) (line : BlockLine) (rest : List BlockLine) (y : IsGood x (starts g line rest)) where
  -- ---- bits come to a home

  pub record BitsTo (f : Name) (s : Shape) : Type 0 where
    pub there : IsThere g.call.site f
    pub plain_is : holds_address (house g.call.site f) ≡ false
    pub inside : InMemory (house g.call.site f).home
    pub look : looked x.table g.call.site f ≡ s

  pub record Arrived (lines k : List WordInstr) (f : Name) (v : Value) (most : ℕ) : Type 0 where
    pub changes : Changes x g line rest y lines k f most
    pub item : (temps : Temps) → IsItem x.table (store_with g changes.memory) (call g.call.site temps changes.vars) f v

  pub arrived : (f : Name) (s : Shape) (v : Value) → BitsTo f s → (from : Housed) → LiesAs x g line rest y from s v
      → code_here x g line rest y ≡ moves (house g.call.site f) from (code_next x g line rest y)
      → Arrived (code_here x g line rest y) (code_next x g line rest y) f v (10 + 2 * bytes v)
  arrived f s v to from r code =
      let next = code_next x g line rest y in
      let n : ℕ = (house g.call.site f).bytes in
      let h = houses x.table x.blocks g.call.site f y.linked.0 to.there in
      let size : shape_bytes s ≡ (house g.call.site f).bytes = ap shape_bytes (sym to.look) ∙ h.bytes in
      let bits : Bits x g line rest y r.home r.address n = subst (λ k. Bits x g line rest y r.home r.address k) size r.bits in
      let whole : n % 4 ≡ 0 = subst (λ k. k % 4 ≡ 0) size (shape_whole s) in
      let some : 4 ≤ n = subst (λ k. 4 ≤ k) size (shape_some s) in
      let apart : Separate (address_of g.call.site.base (house g.call.site f).home) r.address n
      = bits.readable.separate (address_of g.call.site.base (house g.call.site f).home)
      (lying_all x (all_sites x g line rest y) y.linked g.call.site f n (inl refl) to.there to.inside refl) refl in
      let moved = bits_moved x g line rest y f to.there to.inside to.plain_is whole some from r.home r.lies r.word (r.size ∙ size) r.address bits apart next in
      let stored : StoredIn (store_of g) r.address (looked x.table g.call.site f) v
      = subst (λ t. StoredIn (store_of g) r.address t v) (sym to.look) r.stored in
      let shaped : has_shape v (looked x.table g.call.site f) ≡ true = subst (λ t. has_shape v t ≡ true) (sym to.look) r.shaped in
      subst (λ l. Arrived l next f v (10 + 2 * bytes v)) (sym code)
      (subst (λ k. Arrived (moves (house g.call.site f) from next) next f v (10 + 2 * k)) (sym (bytes_of x g line rest y r ∙ size)) (record {
        changes = moved.changes;
        item = λ temps. item_moved x g line rest y f v temps to.there to.inside to.plain_is (λ asked. shaped) stored moved;
      }))

  -- what its type starts at is zeros
  pub blank_arrived : (f : Name) (ty : ℕ) → BitsTo f (shape_of (facts_in x.table) (type_at (known x).types ty))
      → of_handles (shape_of (facts_in x.table) (type_at (known x).types ty)) ≡ true
      → is_one_word (shape_of (facts_in x.table) (type_at (known x).types ty)) ≡ false → (k : List WordInstr)
      → Arrived (clears (house g.call.site f) k) k f (default_of (facts_in x.table) (type_at (known x).types ty))
      (9 + bytes (default_of (facts_in x.table) (type_at (known x).types ty)))
  blank_arrived f ty to handles many k =
      let s : Shape = shape_of (facts_in x.table) (type_at (known x).types ty) in
      let v : Value = default_of (facts_in x.table) (type_at (known x).types ty) in
      let h = houses x.table x.blocks g.call.site f y.linked.0 to.there in
      let to_house : Housed = house g.call.site f in
      let size : shape_bytes s ≡ to_house.bytes = ap shape_bytes (sym to.look) ∙ h.bytes in
      let whole : to_house.bytes % 4 ≡ 0 = subst (λ i. i % 4 ≡ 0) size (shape_whole s) in
      let some : 4 ≤ to_house.bytes = subst (λ i. 4 ≤ i) size (shape_some s) in
      let no_word : to_house.is_word ≡ false = sym h.word ∙ (ap is_one_word to.look ∙ many) in
      let r = bits_cleared x g line rest y f to.there to.inside to.plain_is whole some no_word k in
      let m : Memory = r.changes.memory in
      let a : ℕ = address_of g.call.site.base to_house.home in
      let blank_shaped : has_shape (blank_in s) s ≡ true = subst (λ u. has_shape u s ≡ true) (x.blanks ty) (x.defaults ty) in
      let zeros_at : ZeroWords m a (shape_bytes s) = subst (ZeroWords m a) (sym size) r.zeros_there in
      let stored : StoredIn (store_with g m) a s v
      = subst (λ u. StoredIn (store_with g m) a s u) (sym (x.blanks ty))
      (zeros_stored (is_fixed g.ground) g.ground.blocks m a s handles blank_shaped zeros_at) in
      let full : bytes v ≡ to_house.bytes = stored_bytes (is_fixed g.ground) g.ground.blocks m a s v stored (x.defaults ty) ∙ size in
      subst (λ i. Arrived (clears to_house k) k f v (9 + i)) (sym full) (record {
        changes = r.changes;
        item = λ temps. record {
          there = to.there;
          plain = to.plain_is;
          shaped = λ asked. subst (λ t. has_shape v t ≡ true) (sym to.look) (x.defaults ty);
          at = to_home (store_with g m) g.call.site.base r.changes.vars (looked x.table g.call.site f) to_house v to.plain_is to.inside
              (subst (λ t. StoredIn (store_with g m) a t v) (sym to.look) stored);
        };
      })

  -- ---- to a temporary

  pub bits_target : (to : ℕ) (ty : Ty) → value_to (block_plain line) ≡ Some to
      → alias_by (block_plain line) (length (texts_of (map block_plain rest))) ≡ alias.Own → type_in x is_value (body_of g) to ≡ Some ty
      → is_one_word (shape_of (facts_in x.table) ty) ≡ false → BitsTo (of_value to) (shape_of (facts_in x.table) ty)
  bits_target to ty is own typed many =
      let n = has_type x g.call.site (of_value to) ty y.linked.0 typed in
      let there : IsThere g.call.site (of_value to)
      = with_home x n.named (own_either (house g.call.site (of_value to)).alias (value_alias x g line rest y to alias.Own is own)) tt in
      let look = look_of x g.call.site (of_value to) ty n in
      let plain_is = value_plain (house g.call.site (of_value to)) there.kind in
      record {
        there = there;
        plain_is = plain_is;
        inside = in_memory x g line rest y (of_value to) there plain_is (ap is_one_word look ∙ many);
        look = look;
      }

  pub bits_to_value : (to : ℕ) (s : Shape) (v : Value) → BitsTo (of_value to) s → (from : Housed) → LiesAs x g line rest y from s v
      → code_here x g line rest y ≡ moves (house g.call.site (of_value to)) from (code_next x g line rest y) → (work : ℕ) → 10 + 2 * bytes v ≤ 16 * work
      → Settles x (starts g line rest) rest (Passes (Answers [] work (with_value to g.call.temps v) g.world))
  bits_to_value to s v t from r code work le =
      let a = arrived (of_value to) s v t from r code in
      item_settles x g line rest y to v (10 + 2 * bytes v) work t.there a.changes (a.item (with_value to g.call.temps v)) (omega (arith, le))

  -- ---- to a declared place of the call

  pub record OwnThere (n : ℕ) (ty : Ty) : Type 0 where
    pub there : IsThere g.call.site (of_place n)
    pub look : looked x.table g.call.site (of_place n) ≡ shape_of (facts_in x.table) ty
    pub kind : is_own (house g.call.site (of_place n)).kind ≡ true
    pub same : found is_own n (body_of g).own.all ≡ house g.call.site (of_place n)

  pub own_there : (n : ℕ) (ty : Ty) → type_in x is_own (body_of g) n ≡ Some ty → OwnThere n ty
  own_there n ty is =
      let m = y.linked.0.named is_own n ty is in
      let same : found is_own n (body_of g).own.all ≡ house g.call.site (of_place n) = y.linked.0.own n m.0 in
      let kind : is_own (house g.call.site (of_place n)).kind ≡ true = subst (λ h. is_own h.kind ≡ true) same m.0.kind in
      let named : IsNamed g.call.site (of_place n) = record {
        among = subst (λ h. Among h (body_of g).own.all) same m.0.among;
        number = subst (λ h. h.number ≡ n) same m.0.number;
        kind = own_declared (house g.call.site (of_place n)).kind kind;
      } in
      let typed : type_of x.table (house g.call.site (of_place n)) ≡ ty = subst (λ h. type_of x.table h ≡ ty) same m.1 in
      record {
        there = place_there x g.call.site n y.linked.0 named;
        look = ap (shape_of (facts_in x.table)) typed;
        kind = kind;
        same = same;
      }

  pub record OwnBits (n : ℕ) (ty : Ty) : Type 0 where
    pub to : BitsTo (of_place n) (shape_of (facts_in x.table) ty)
    pub own : owns (house g.call.site (of_place n)) ≡ true
    pub same : found is_own n (body_of g).own.all ≡ house g.call.site (of_place n)

  pub own_bits : (n : ℕ) (ty : Ty) → type_in x is_own (body_of g) n ≡ Some ty → is_one_word (shape_of (facts_in x.table) ty) ≡ false
      → (house g.call.site (of_place n)).lent ≡ false → OwnBits n ty
  own_bits n ty is many unlent =
      let o = own_there n ty is in
      let own : owns (house g.call.site (of_place n)) ≡ true = owned (house g.call.site (of_place n)) unlent o.kind in
      let plain_is = own_plain (house g.call.site (of_place n)) own in
      record {
        to = record {
          there = o.there;
          plain_is = plain_is;
          inside = in_memory x g line rest y (of_place n) o.there plain_is (ap is_one_word o.look ∙ many);
          look = o.look;
        };
        own = own;
        same = o.same;
      }

  pub bits_to_place : (n : ℕ) (ty : Ty) (v : Value) → OwnBits n ty → (from : Housed)
      → LiesAs x g line rest y from (shape_of (facts_in x.table) ty) v
      → code_here x g line rest y ≡ moves (found is_own n (body_of g).own.all) from (code_next x g line rest y) → (work : ℕ)
      → 10 + 2 * bytes v ≤ 16 * work
      → Settles x (starts g line rest) rest (Passes (Answers [] work g.call.temps (with_slot g.world g.call.site.level n (Some (Holds v)))))
  bits_to_place n ty v o from r code work le =
      let next = code_next x g line rest y in
      let a = arrived (of_place n) (shape_of (facts_in x.table) ty) v o.to from r (code ∙ ap (λ h. moves h from next) o.same) in
      let c = a.changes in
      let world : World = with_slot g.world g.call.site.level n (Some (Holds v)) in
      goes_on x (starts g line rest) (changed g rest g.call.temps c.vars c.memory c.words c.awaits world) rest
      (good_item_place x g line rest y n o.to.there o.own v rest (stands_next x.table x.blocks (body_of g) line rest y.stands) g.call.temps
      (same_temps x g line rest y) (code_here x g line rest y) next (10 + 2 * bytes v) c (a.item g.call.temps))
      c.steps work g.call.temps world c.runs c.some (let h = c.few in omega (arith, h, le)) refl

  pub blank_to_place : (n ty : ℕ) → OwnBits n (type_at (known x).types ty) → of_handles (shape_of (facts_in x.table) (type_at (known x).types ty)) ≡ true
      → is_one_word (shape_of (facts_in x.table) (type_at (known x).types ty)) ≡ false
      → code_here x g line rest y ≡ clears (found is_own n (body_of g).own.all) (code_next x g line rest y)
      → Settles x (starts g line rest) rest (Passes (Answers [] (1 + (bytes (default_of (facts_in x.table) (type_at (known x).types ty)) + 0)) g.call.temps
      (with_slot g.world g.call.site.level n (Some (Holds (default_of (facts_in x.table) (type_at (known x).types ty)))))))
  blank_to_place n ty o handles many code =
      let v : Value = default_of (facts_in x.table) (type_at (known x).types ty) in
      let next = code_next x g line rest y in
      let to_house : Housed = house g.call.site (of_place n) in
      let a = blank_arrived (of_place n) ty o.to handles many next in
      let c = a.changes in
      let world : World = with_slot g.world g.call.site.level n (Some (Holds v)) in
      goes_on x (starts g line rest) (changed g rest g.call.temps c.vars c.memory c.words c.awaits world) rest
      (good_item_place x g line rest y n o.to.there o.own v rest (stands_next x.table x.blocks (body_of g) line rest y.stands) g.call.temps
      (same_temps x g line rest y) (clears to_house next) next (9 + bytes v) c (a.item g.call.temps))
      c.steps (1 + (bytes v + 0)) g.call.temps world
      (subst (λ l. Runs x.live (all_procs x) c.steps (at (within x.table x.blocks g) g.memory l g.call.vars g.words)
      (at (awaiting (within x.table x.blocks g) c.awaits) c.memory next c.vars c.words)) (sym (code ∙ ap (λ i. clears i next) o.same)) c.runs)
      c.some (let f = c.few in omega (arith, f)) refl

  -- ---- what stands at a location is looked at

  pub fetched_bits : (to : ℕ) (ty : Ty) (from : ℕ) (there : Where) → IsHomed x g.call.site from → BitsTo (of_value to) (shape_of (facts_in x.table) ty)
      → is_one_word (shape_of (facts_in x.table) ty) ≡ false → AreBits (shape_of (facts_in x.table) ty)
      → type_in x is_location (body_of g) from ≡ Some ty → g.call.temps.places from ≡ Some there
      → code_here x g line rest y
      ≡ moves (house g.call.site (of_value to)) (location (around x.table x.blocks (body_of g)) from) (code_next x g line rest y)
      → Settles x (starts g line rest) rest
      (gives (scene_of (high x.table x.blocks (starts g line rest))) to (fetched (location_at g.call.temps there)))
  fetched_bits to ty from there homed t many are typed e code =
      let p = pointed x g line rest y from ty typed in
      let v = load g.world (location_at g.call.temps there) in
      let h : Housed = location (around x.table x.blocks (body_of g)) from in
      where_there x (starts g line rest) rest (is_full_at g.world (location_at g.call.temps there))
      (λ b. gives (scene_of (high x.table x.blocks (starts g line rest))) to (unless_gone b (costs (bytes v) (give v)))) (λ before. tt)
      (λ seen. let r = subst (λ s. LiesAs x g line rest y h s v) p.look
      (location_lies x g line rest y from there p.named homed e (ap is_one_word p.look ∙ many) (subst AreBits (sym p.look) are) seen) in
      let some = some_bytes x g line rest y r in
      bits_to_value to (shape_of (facts_in x.table) ty) v t h r code (bytes v + 0) (omega (arith, some)))

  -- ---- the value of a temporary

  pub bits_read : (t : ℕ) (v : Value) (ty : Ty) → type_in x is_value (body_of g) t ≡ Some ty → IsThere g.call.site (of_value t)
      → is_one_word (shape_of (facts_in x.table) ty) ≡ false → g.call.temps.values t ≡ Some v
      → LiesAs x g line rest y (house g.call.site (of_value t)) (shape_of (facts_in x.table) ty) v
  bits_read t v ty typed there many e =
      let look = look_of x g.call.site (of_value t) ty (has_type x g.call.site (of_value t) ty y.linked.0 typed) in
      subst (λ s. LiesAs x g line rest y (house g.call.site (of_value t)) s v) look
      (value_lies x g line rest y t v there (ap is_one_word look ∙ many) e)

module _ (x : Basis) (g : Both) (rest : List BlockLine) where
  -- no word is what a temporary has
  abbrev pub NoWord : ℕ → Type 0
  NoWord t = is_one_word (looked x.table g.call.site (of_value t)) ≡ false

  abbrev pub BitsHere : BlockLine → Type 0
  BitsHere line = (y : IsGood x (starts g line rest)) → Settles x (starts g line rest) rest
      (block_does (known x) (scene_of (high x.table x.blocks (starts g line rest))) line)

  no_word : (line : BlockLine) (y : IsGood x (starts g line rest)) (t : ℕ) (ty : Ty) → NoWord t → type_in x is_value (body_of g) t ≡ Some ty
      → is_one_word (shape_of (facts_in x.table) ty) ≡ false
  no_word line y t ty many typed =
      sym (ap is_one_word (look_of x g.call.site (of_value t) ty (has_type x g.call.site (of_value t) ty y.linked.0 typed))) ∙ many

  module _ (to from : ℕ) (many : NoWord to) (homed : IsHomed x g.call.site from) where
    pub look_bits : BitsHere (plain (L.Look to from))
    look_bits y =
        let line = plain (L.Look to from) in
        let p = and_parts (is_of (type_in x is_value (body_of g) to) (type_in x is_location (body_of g) from))
        (is_selected (kind_if (facts_in x.table) (type_in x is_location (body_of g) from))) (fits_here x.table x.blocks (body_of g) line rest y.stands) in
        let f = are_of (type_in x is_value (body_of g) to) (type_in x is_location (body_of g) from) p.0 in
        let word = no_word line y to f.ty many f.is in
        let are = selected_bits (facts_in x.table) f.ty (subst (λ o. is_selected (kind_if (facts_in x.table) o) ≡ true) f.is_other p.1) in
        using_settles x (starts g line rest) rest (g.call.temps.places from)
        (λ there. gives (scene_of (high x.table x.blocks (starts g line rest))) to (fetched (location_at g.call.temps there)))
        (λ there e. fetched_bits x g line rest y to f.ty from there homed (bits_target x g line rest y to f.ty refl refl f.is word) word are f.is_other e refl)

  pub blank_bits : (n ty : ℕ) → is_one_word (shape_of (facts_in x.table) (type_at (known x).types ty)) ≡ false
      → of_handles (shape_of (facts_in x.table) (type_at (known x).types ty)) ≡ true → (house g.call.site (of_place n)).lent ≡ false
      → BitsHere (plain (L.Blank n ty))
  blank_bits n ty many handles unlent y =
      let line = plain (L.Blank n ty) in
      let of : Ty = type_at (known x).types ty in
      let f = are_of (type_in x is_own (body_of g) n) (Some of) (fits_here x.table x.blocks (body_of g) line rest y.stands) in
      let same : of ≡ f.ty = some_same of f.ty f.is_other in
      blank_to_place x g line rest y n ty (own_bits x g line rest y n of (f.is ∙ ap Some (sym same)) many unlent) handles many refl

  -- whatever a place starts at
  pub blank_line : (labels : LabelsLead x) (n ty : ℕ)
      → (IsThere g.call.site (of_place n) → has_hooks x.table (house g.call.site (of_place n)) ≡ true → (house g.call.site (of_place n)).lent ≡ false)
      → BitsHere (plain (L.Blank n ty))
  blank_line labels n ty unlent y = by (cases_Bool (has_hooks x.table (house g.call.site (of_place n))))
    where
      by : (has_hooks x.table (house g.call.site (of_place n)) ≡ true) ⊎ (has_hooks x.table (house g.call.site (of_place n)) ≡ false)
          → Settles x (starts g (plain (L.Blank n ty)) rest) rest
          (block_does (known x) (scene_of (high x.table x.blocks (starts g (plain (L.Blank n ty)) rest))) (plain (L.Blank n ty)))
      by (inr unhooked) = blank_numbers x labels g rest n ty (λ there. unhooked) y
      by (inl hooks) =
          let line = plain (L.Blank n ty) in
          let of : Ty = type_at (known x).types ty in
          let f = are_of (type_in x is_own (body_of g) n) (Some of) (fits_here x.table x.blocks (body_of g) line rest y.stands) in
          let same : of ≡ f.ty = some_same of f.ty f.is_other in
          let o = own_there x g line rest y n of (f.is ∙ ap Some (sym same)) in
          let built = y.linked.0.built (house g.call.site (of_place n)) o.there.among hooks in
          blank_bits n ty (sym (ap is_one_word o.look) ∙ built.1) (sym (ap of_handles o.look) ∙ built.0) (unlent o.there hooks) y

  module _ (n from : ℕ) (many : NoWord from) (there_is : IsThere g.call.site (of_value from)) (unlent : (house g.call.site (of_place n)).lent ≡ false)
    where
      pub fill_bits : BitsHere (plain (L.Fill n from))
      fill_bits y =
          let line = plain (L.Fill n from) in
          let f = are_of (type_in x is_own (body_of g) n) (type_in x is_value (body_of g) from)
          (fits_here x.table x.blocks (body_of g) line rest y.stands) in
          let word = no_word line y from f.ty many f.is_other in
          using_settles x (starts g line rest) rest (g.call.temps.values from)
          (λ v. acts (scene_of (high x.table x.blocks (starts g line rest))) (costs 1 (fills g.call.site.level n v)))
          (λ v e. bits_to_place x g line rest y n f.ty v (own_bits x g line rest y n f.ty f.is word unlent) (house g.call.site (of_value from))
          (bits_read x g line rest y from v f.ty f.is_other there_is word e) refl (1 + (bytes v + 0)) (omega arith))

      pub give_bits : BitsHere (plain (L.Give n from))
      give_bits y =
          let line = plain (L.Give n from) in
          let f = are_of (type_in x is_own (body_of g) n) (type_in x is_value (body_of g) from)
          (fits_here x.table x.blocks (body_of g) line rest y.stands) in
          let word = no_word line y from f.ty many f.is_other in
          using_settles x (starts g line rest) rest (g.call.temps.values from)
          (λ v. acts (scene_of (high x.table x.blocks (starts g line rest))) (costs 1 (put (place_at g.call.site.level n) v)))
          (λ v e. bits_to_place x g line rest y n f.ty v (own_bits x g line rest y n f.ty f.is word unlent) (house g.call.site (of_value from))
          (bits_read x g line rest y from v f.ty f.is_other there_is word e) refl (1 + (bytes v + 0)) (omega arith))

-- How long a text is that a location leads to: what lines that ask for it do.
use Rattle.std.proofs.Common.{◌≡◌, ◌+◌, inl, inr, ℕ, ◌<◌, ◌^◌, List, [], ◌∷◌, Ok, Option, Some, None, Bool, true, false, length, pos, ℤ, refl, sym, ap, subst}
use Rattle.std.proofs.Common.{◌∙◌, arith}
use Rattle.std.proofs.lemmas.Bool.{and_parts}
use Rattle.std.proofs.lemmas.Int.{ints}
use Rattle.std.specs.Ordering.{int_eq}
use Rattle.nim_types.specs.Types.{Ty}
use Rattle.nim_types.specs.Table.{facts_in}
use Rattle.nim_types.specs.declared.types.TypeDef.TheVariants as D
use Rattle.nim_program.specs.declared.operation.Measure.{Measure}
use Rattle.nim_program.specs.declared.operation.Measure.TheVariants.{Len}
use Rattle.nim_program.specs.declared.operation.Operation.TheVariants as O
use Rattle.nim_program.specs.Ints.{fits as is_int_number}
use Rattle.nim_program.specs.Kinds.{has_length, is_int, kind_if}
use Rattle.nim_program.specs.Traps.{LengthChanged}
use Rattle.nim_program.specs.View.{if_type}
use Rattle.nim_meaning.specs.Values.{At, Fixed, Handle, Location, Number, Operand, Parts, Vacant, Value, length_of, location_of, nothing, number_of}
use Rattle.nim_meaning.specs.State.{is_seen, is_there, is_whole, load, text_of}
use Rattle.nim_meaning.specs.Deeds.{Answers, Deed, costs, give, sees, stop, unless_gone, ◌>>=◌}
use Rattle.nim_meaning.specs.Deeds as deeds
use Rattle.nim_meaning.specs.Places.{length_at}
use Rattle.nim_meaning.specs.Table.{measured}
use Rattle.flat_code.specs.declared.block.BlockLine.{BlockLine}
use Rattle.flat_code.specs.declared.line.From.{From}
use Rattle.flat_code.specs.declared.line.From.TheVariants as F
use Rattle.flat_code.specs.declared.line.Line.TheVariants as L
use Rattle.flat_code.specs.declared.line.UseAt.{UseAt}
use Rattle.flat_code.specs.Fits.{is_location, is_value}
use Rattle.flat_code.specs.Lines.{acts, fetch, gives, still, using_number}
use Rattle.flat_code.specs.Running.{scene_of}
use Rattle.flat_code.specs.Scene.{Passes, Where, location_at, with_value}
use Rattle.flat_code.specs.Shapes.{block, shape_of}
use Rattle.rv32_isa.specs.declared.micro_op.Size.TheVariants.{Word}
use Rattle.word_code.specs.Memory.{number_at}
use Rattle.word_code.specs.declared.word.WordInstr.{WordInstr}
use Rattle.word_code.specs.declared.word.WordInstr.TheVariants.{Branch}
use Rattle.word_code.specs.declared.word.Test.TheVariants as test
use Rattle.word_lowering.specs.declared.homes.Home.{Home as Place}
use Rattle.word_lowering.specs.declared.homes.Home.TheVariants.{Placed, Static, Variable}
use Rattle.word_lowering.specs.declared.homes.Housed.{Housed}
use Rattle.word_lowering.specs.declared.homes.TheConstants.{FIRST}
use Rattle.word_lowering.specs.LineCode.{location, measure_code}
use Rattle.word_lowering.specs.Lowered.{any_branches}
use Rattle.word_lowering.specs.Operations.{trap_label}
use Rattle.heap_memory.specs.AppendRoutine.{source_at}
use Rattle.word_lowering.specs.OwnedCode.{each_bytes, has_handle, measured_code}
use Rattle.word_lowering.specs.Stored.{entry_at}
use Rattle.word_lowering.proofs.AddressFacts.{AtAddress, at_homed}
use Rattle.word_lowering.proofs.ApplyFits.{apply_line}
use Rattle.word_lowering.proofs.Arithmetic.{signed_fits}
use Rattle.word_lowering.proofs.Blocks.{Stored}
use Rattle.word_lowering.proofs.ControlLines.{int_read, kind_at, plain}
use Rattle.word_lowering.proofs.FixedTexts.{fixed_closed, fixed_there}
use Rattle.word_lowering.proofs.HookedMoves.{BitsHere}
use Rattle.word_lowering.proofs.HouseHooks.{homed}
use Rattle.word_lowering.proofs.LengthLines.{counted_settles}
use Rattle.word_lowering.proofs.LengthRows.{text_house}
use Rattle.word_lowering.proofs.LineFits.{same_type}
use Rattle.word_lowering.proofs.LentLocations.{located_here}
use Rattle.word_lowering.proofs.Lines.{Basis, IsGood, Settles, all_sites, fits_here, known, starts, using_settles, where_there}
use Rattle.word_lowering.proofs.Located.{led_stored}
use Rattle.word_lowering.proofs.LocationHouses.{homed_house}
use Rattle.word_lowering.proofs.MeasuredSequences.{plain_int}
use Rattle.word_lowering.proofs.MeasureLines.{measured_fits}
use Rattle.word_lowering.proofs.NumberLines.{int_target, variable}
use Rattle.word_lowering.proofs.OperandTexts.{at_place, typed_parts}
use Rattle.word_lowering.proofs.OwnedFits.{FitsRow, OwnedRow, fits_row}
use Rattle.word_lowering.proofs.Related.{Both, body_of, high}
use Rattle.word_lowering.proofs.RowOperands.{text_short}
use Rattle.word_lowering.proofs.Scenes.{Leads, LeadsHere, is_fixed, looked, of_location}
use Rattle.word_lowering.proofs.SeenHandles.{led_full, text_handle}
use Rattle.word_lowering.proofs.SequenceElementLines.{still_counted}
use Rattle.word_lowering.proofs.Settling.{TrapsStop, code_next}
use Rattle.word_lowering.proofs.ShapeFacts.{never, of_numbers}
use Rattle.word_lowering.proofs.Sites.{around, is_one_word}
use Rattle.word_lowering.proofs.TextOperands.{IsText, text_at_handle, text_block, text_is}
use Rattle.word_lowering.proofs.TextRowRuns.{IsAt}
use Rattle.word_lowering.proofs.TextsRead.{may_write}
use Rattle.word_lowering.proofs.ValueFacts.{HasType, has_type, look_of, type_in}
use Rattle.word_lowering.proofs.WrittenLines.{Writing}

module _ (x : Basis) (said : Writing x) (g : Both) (line : BlockLine) (rest : List BlockLine) (y : IsGood x (starts g line rest)) where
  abbrev at_house : ℕ → Housed
  at_house t = location (around x.table x.blocks (body_of g)) t

  -- a text's handle says how long it is
  long_as : (a : ℕ) (v : Value) → IsText (is_fixed g.ground) v → Stored (is_fixed g.ground) g.ground.blocks g.memory a block v → is_whole g.world v ≡ true
      → length_of v ≡ length (text_of g.world v)
  long_as a (Handle n None) text stored whole = let e = stored.empty in omega (arith, e)
  long_as a (Handle n (Some i)) text stored whole =
      let t = text_block (is_fixed g.ground) g.ground.blocks g.world g.memory y.heap a n i stored whole in
      let e = ap length (text_is (is_fixed g.ground) g.ground.blocks g.world g.memory y.heap n i t) in
      let l = t.long in
      omega (arith, e, l)
  long_as a (Fixed t) text stored whole = refl
  long_as a (Number z) text stored whole = absurd text
  long_as a (Parts vs) text stored whole = absurd text
  long_as a Vacant text stored whole = absurd text
  long_as a v text stored whole = absurd text

  pub record TextHere (t : ℕ) (l : Location) : Type 0 where
    pub handled : has_handle (entry_at x.table (location (around x.table x.blocks (body_of g)) t).ty) ≡ true
    pub each : each_bytes x.table (entry_at x.table (location (around x.table x.blocks (body_of g)) t).ty) ≡ 1
    pub home : Place
    pub home_is : (location (around x.table x.blocks (body_of g)) t).home ≡ home
    pub address : ℕ
    pub at_home : IsAt g.call.site.base g.call.vars home address
    pub long : ℕ
    pub long_is : length_of (load g.world l) ≡ long
    pub long_at : number_at g.memory address Word ≡ Ok long
    pub fits : is_int_number (pos long) ≡ true
    pub near : address + 4 < 2 ^ 32
    pub place : ℕ
    pub place_at : number_at g.memory (address + 4) Word ≡ Ok place
    pub place_near : place < 2 ^ 32
    pub stored : Stored (is_fixed g.ground) g.ground.blocks g.memory address block (load g.world l)
    pub whole : is_whole g.world (load g.world l) ≡ true
    pub text : IsText (is_fixed g.ground) (load g.world l)
    pub leads : LeadsHere x.table x.blocks (all_sites x g line rest y) g.ground g.world l address block

  pub text_here : (t : ℕ) (there : Where) (ty : Ty) → type_in x is_location (body_of g) t ≡ Some ty → shape_of (facts_in x.table) ty ≡ block
      → g.call.temps.places t ≡ Some there → is_seen g.world (location_at g.call.temps there) ≡ true → TextHere t (location_at g.call.temps there)
  text_here t there ty typed shape at seen =
      let l : Location = location_at g.call.temps there in
      let v : Value = load g.world (location_at g.call.temps there) in
      let has : HasType x g.call.site (of_location t) ty = has_type x g.call.site (of_location t) ty y.linked.0 typed in
      let look : looked x.table g.call.site (of_location t) ≡ block = look_of x g.call.site (of_location t) ty has ∙ shape in
      let p = and_parts (is_there g.world l) (is_whole g.world (load g.world l)) seen in
      let a : AtAddress x g line rest y (at_house t) there (looked x.table g.call.site (of_location t))
      = at_homed x g line rest y t there has.named (homed x g.call.site y.linked.0 t has.named) at (ap is_one_word look) in
      let leads : Leads x.table x.blocks (all_sites x g line rest y) g.ground g.world g.call.site g.call.temps there a.address block
      = subst (Leads x.table x.blocks (all_sites x g line rest y) g.ground g.world g.call.site g.call.temps there a.address) look a.leads_to in
      let m = located_here x g line rest y t has.named (ap of_numbers look) there at in
      let full = led_full x (starts g line rest) y g.call (inl refl) there a.address block tt seen leads in
      let r = led_stored x (starts g line rest) y g.call (inl refl) (inl refl) there a.address block (inr refl) full leads in
      let near = r.readable.near in
      let text : IsText (is_fixed g.ground) v = text_handle (is_fixed g.ground) g.ground.blocks g.world g.memory a.address v r.stored p.1 in
      let is_text_at = text_at_handle (is_fixed g.ground) g.ground.blocks g.world g.memory y.heap y.memory.sized y.memory.bytes
      (fixed_there x (starts g line rest) y) a.address v text r.stored p.1 in
      let short : length (text_of g.world v) < 2 ^ 31
      = text_short x said g line rest y (fixed_closed x (starts g line rest) y) a.address v text r.stored p.1 in
      let housed = homed_house x g line rest y t there has.named (homed x g.call.site y.linked.0 t has.named) at in
      let entry : entry_at x.table (at_house t).ty ≡ Some D.Text
      = text_house x said (at_house t) (ap (shape_of (facts_in x.table)) (housed.typed ∙ has.typed) ∙ shape) in
      record {
        handled = ap has_handle entry;
        each = ap (each_bytes x.table) entry;
        home = a.home;
        home_is = a.home_is;
        address = a.address;
        at_home = record { points = a.points; high = a.high_is; small = omega (arith, near) };
        long = length (text_of g.world v);
        long_is = long_as a.address v text r.stored p.1;
        long_at = is_text_at.handle.long ∙ ap (λ t. Ok (length t)) is_text_at.bytes;
        fits = signed_fits (pos (length (text_of g.world v))) (omega (arith, short, ints));
        near = omega (arith, near);
        place = source_at is_text_at.source;
        place_at = is_text_at.handle.there;
        place_near = (may_write (is_fixed g.ground) g.ground.blocks g.world.heap g.memory y.heap y.memory.sized a.address (text_of g.world v) is_text_at).small;
        stored = r.stored;
        whole = p.1;
        text = text;
        leads = subst (λ k. LeadsHere x.table x.blocks (all_sites x g line rest y) g.ground g.world k a.address block) (sym (ap (location_at g.call.temps) m.1))
            (subst (λ z. Leads x.table x.blocks (all_sites x g line rest y) g.ground g.world g.call.site g.call.temps z a.address block) m.1 leads);
      }

module _ (x : Basis) (said : Writing x) (g : Both) (rest : List BlockLine) where
  -- ---- its length

  pub length_text : (to from : ℕ) (ty : Ty) → type_in x is_location (body_of g) from ≡ Some ty → shape_of (facts_in x.table) ty ≡ block
      → BitsHere x g rest (plain (L.Length to from))
  length_text to from ty typed shape y =
      let line = plain (L.Length to from) in
      let kinds = and_parts (is_int (kind_at x g line rest y to)) (has_length (kind_if (facts_in x.table) (type_in x is_location (body_of g) from)))
      (fits_here x.table x.blocks (body_of g) line rest y.stands) in
      using_settles x (starts g line rest) rest (g.call.temps.places from)
      (λ there. gives (scene_of (high x.table x.blocks (starts g line rest))) to
      (costs 1 (length_at (location_at g.call.temps there) >>= (λ n. give (Number (pos n))))))
      (λ there at. where_there x (starts g line rest) rest (is_seen g.world (location_at g.call.temps there))
      (λ b. gives (scene_of (high x.table x.blocks (starts g line rest))) to
      (costs 1 (unless_gone b (give (length_of (load g.world (location_at g.call.temps there)))) >>= (λ n. give (Number (pos n)))))) (λ before. tt)
      (λ seen. let r = text_here x said g line rest y from there ty typed shape at seen in
      subst (λ n. Settles x (starts g line rest) rest (Passes (Answers [] 1 (with_value to g.call.temps (Number (pos n))) g.world))) (sym r.long_is)
      (counted_settles x g line rest y r.long r.address r.home r.at_home r.long_at r.fits to Len
      (int_target x g line rest y to refl refl (plain_int x g line rest y to kinds.0) kinds.0 (pos r.long) r.fits)
      (ap (λ b. measure_code (around x.table x.blocks (body_of g)) b Len (variable x g line rest y to)
      (location (around x.table x.blocks (body_of g)) from) (code_next x g line rest y)) r.handled
      ∙ ap (λ h. measured_code Len (variable x g line rest y to) h (code_next x g line rest y)) r.home_is))))

  -- ---- that a loop checks

  pub still_text : (traps : TrapsStop x) (from len : ℕ) (ty : Ty) → type_in x is_location (body_of g) from ≡ Some ty → shape_of (facts_in x.table) ty ≡ block
      → BitsHere x g rest (plain (L.Still from len))
  still_text traps from len ty typed shape y =
      let line = plain (L.Still from len) in
      let kinds = and_parts (has_length (kind_if (facts_in x.table) (type_in x is_location (body_of g) from))) (is_int (kind_at x g line rest y len))
      (fits_here x.table x.blocks (body_of g) line rest y.stands) in
      using_settles x (starts g line rest) rest (g.call.temps.places from)
      (λ there. using_number g.call.temps len (λ n. acts (scene_of (high x.table x.blocks (starts g line rest)))
      (costs 1 (still (location_at g.call.temps there) n))))
      (λ there at. using_settles x (starts g line rest) rest (g.call.temps.values len)
      (λ w. acts (scene_of (high x.table x.blocks (starts g line rest))) (costs 1 (still (location_at g.call.temps there) (number_of w))))
      (λ w f. let o = int_read x g line rest y len w kinds.1 f in
      by line there (number_of w) y (λ seen. let r = text_here x said g line rest y from there ty typed shape at seen in
      let held : ℕ = variable x g line rest y len in
      still_counted x g line rest y (location_at g.call.temps there) r.long r.long_is r.address r.long_at r.home r.at_home r.fits traps held o.high
      (number_of w) o.fits o.word_is
      (ap (λ b. still_at b held (location (around x.table x.blocks (body_of g)) from) (code_next x g line rest y)) r.handled
      ∙ ap (λ h. measured_code Len FIRST h (Branch test.Unequal held FIRST (trap_label LengthChanged) ∷ code_next x g line rest y)) r.home_is)
      (λ lines. subst (λ b. any_branches (trap_label LengthChanged) (still_at b held (location (around x.table x.blocks (body_of g)) from) lines) ≡ true)
      (sym r.handled) (still_branches (location (around x.table x.blocks (body_of g)) from).home held lines)))))
    where
      still_at : Bool → ℕ → Housed → List WordInstr → List WordInstr
      still_at b held h k = measure_code (around x.table x.blocks (body_of g)) b Len FIRST h (Branch test.Unequal held FIRST (trap_label LengthChanged) ∷ k)

      still_branches : (home : Place) (held : ℕ) (k : List WordInstr)
          → any_branches (trap_label LengthChanged) (measured_code Len FIRST home (Branch test.Unequal held FIRST (trap_label LengthChanged) ∷ k)) ≡ true
      still_branches (Variable n) held k = refl
      still_branches (Placed at) held k = refl
      still_branches (Static at) held k = refl

      -- what isn't seen is at a fault
      by : (line : BlockLine) (there : Where) (z : ℤ) (y : IsGood x (starts g line rest))
          → (is_seen g.world (location_at g.call.temps there) ≡ true
          → Settles x (starts g line rest) rest (acts (scene_of (high x.table x.blocks (starts g line rest)))
          (costs 1 (still (location_at g.call.temps there) z))))
          → Settles x (starts g line rest) rest (acts (scene_of (high x.table x.blocks (starts g line rest)))
          (costs 1 (still (location_at g.call.temps there) z)))
      by line there z y go = at_a (is_seen g.world (location_at g.call.temps there)) refl
        where
          Still_by : Bool → Type 0
          Still_by b = Settles x (starts g line rest) rest (acts (scene_of (high x.table x.blocks (starts g line rest))) (costs 1 (unless_gone b
              (deeds.branch (int_eq (pos (length_of (load g.world (location_at g.call.temps there)))) z) (give nothing) (stop LengthChanged)))))

          at_a : (b : Bool) → is_seen g.world (location_at g.call.temps there) ≡ b → Still_by (is_seen g.world (location_at g.call.temps there))
          at_a true e = go e
          at_a false e = subst Still_by (sym e) (λ before. tt)

  -- ---- that is measured

  module _ (to : ℕ) (how : UseAt) (m : Measure) (ty a : Option ℕ) (t : ℕ) where
    abbrev measuring : BlockLine
    measuring = apply_line x g rest to (O.Measure m) how ty (a ∷ []) (F.Place t ∷ [])

    abbrev gives_it : Deed Value → Type 0
    gives_it d = Settles x (starts g measuring rest) rest (gives (scene_of (high x.table x.blocks (starts g measuring rest))) to (costs 1 d >>= (λ v. give v)))

    measure_one : (of : Ty) → if_type (known x).types a ≡ Some of → shape_of (facts_in x.table) of ≡ block → (y : IsGood x (starts g measuring rest))
        (z : Operand) → fetch g.call.temps (F.Place t) ≡ Some z → gives_it (sees (location_of z) (λ world v. give (Number (measured m (length_of v)))))
    measure_one of is shape y z have =
        let r : FitsRow x g rest to (O.Measure m) how ty (a ∷ []) (F.Place t ∷ []) y
        = fits_row x g rest to (O.Measure m) how ty (a ∷ []) (F.Place t ∷ []) y in
        let kinds = and_parts (is_int (kind_if (facts_in x.table) (if_type (known x).types ty))) (has_length
        (kind_if (facts_in x.table) (if_type (known x).types a))) r.row in
        let int_to : is_int (kind_at x g measuring rest y to) ≡ true
        = subst (λ o. is_int (kind_if (facts_in x.table) o) ≡ true) (sym (same_type (type_in x is_value (body_of g) to) (if_type (known x).types ty) r.given))
        kinds.0 in
        let typed : type_in x is_location (body_of g) t ≡ Some of = (typed_parts x g (F.Place t) (if_type (known x).types a) [] [] r.typed).0 ∙ is in
        let p = at_place (g.call.temps.places t) (λ there. At (location_at g.call.temps there)) z have in
        subst (λ u. gives_it (sees (location_of u) (λ world v. give (Number (measured m (length_of v)))))) p.is
        (where_there x (starts g measuring rest) rest (is_seen g.world (location_at g.call.temps p.there))
        (λ b. gives (scene_of (high x.table x.blocks (starts g measuring rest))) to
        (costs 1 (unless_gone b (give (Number (measured m (length_of (load g.world (location_at g.call.temps p.there))))))) >>= (λ v. give v)))
        (λ before. tt)
        (λ seen. let w = text_here x said g measuring rest y t p.there of typed shape p.has seen in
        subst (λ n. Settles x (starts g measuring rest) rest (Passes (Answers [] 1 (with_value to g.call.temps (Number (measured m n))) g.world)))
        (sym w.long_is)
        (counted_settles x g measuring rest y w.long w.address w.home w.at_home w.long_at w.fits to m
        (int_target x g measuring rest y to refl refl (plain_int x g measuring rest y to int_to) int_to (measured m w.long) (measured_fits m w.long w.fits))
        (ap (λ b. measure_code (around x.table x.blocks (body_of g)) b m (variable x g measuring rest y to)
        (location (around x.table x.blocks (body_of g)) t) (code_next x g measuring rest y)) w.handled
        ∙ ap (λ h. measured_code m (variable x g measuring rest y to) h (code_next x g measuring rest y)) w.home_is))))

  pub measure_text_row : (to : ℕ) (how : UseAt) (m : Measure) (ty a : Option ℕ) (of : Ty) → if_type (known x).types a ≡ Some of
      → shape_of (facts_in x.table) of ≡ block → (from : List From) → OwnedRow x g rest to how (O.Measure m) ty (a ∷ []) from
  measure_text_row to how m ty a of is shape [] y xs have seen = never (fits_row x g rest to (O.Measure m) how ty (a ∷ []) [] y).typed
  measure_text_row to how m ty a of is shape (f ∷ h ∷ from) y xs have seen =
      never (typed_parts x g f (if_type (known x).types a) [] (h ∷ from) (fits_row x g rest to (O.Measure m) how ty (a ∷ []) (f ∷ h ∷ from) y).typed).1
  measure_text_row to how m ty a of is shape (F.Value t ∷ []) y xs have seen =
      never (fits_row x g rest to (O.Measure m) how ty (a ∷ []) (F.Value t ∷ []) y).placed
  measure_text_row to how m ty a of is shape (F.Place t ∷ []) y [] have seen = absurd have
  measure_text_row to how m ty a of is shape (F.Place t ∷ []) y (z ∷ w ∷ xs) have seen = absurd have.1
  measure_text_row to how m ty a of is shape (F.Place t ∷ []) y (z ∷ []) have seen = measure_one to how m ty a t of is shape y z have.0

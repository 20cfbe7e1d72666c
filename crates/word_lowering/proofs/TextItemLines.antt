-- Lines that lead to a character of a text are followed. Where the text of a literal is in a place no character of it is led to: that is a fault.
use Rattle.std.proofs.Common.{◌≡◌, ◌⊎◌, inl, inr, ℕ, ◌+◌, ◌*◌, ◌^◌, ◌<◌, ◌≤◌, ℤ, pos, negsuc, unsigned_abs, min, List, [], ◌∷◌, ◌++◌, length, Ok, Some}
use Rattle.std.proofs.Common.{None, Bool, true, false, refl, sym, ap, subst, ◌∙◌, arith, append-nil}
use Rattle.std.specs.Prelude.{◌&&◌, int_le, int_lt, nat_lt}
use Rattle.std.proofs.lemmas.Bool.{and_parts, ltb-false}
use Rattle.std.proofs.lemmas.Int.{ints}
use Rattle.std.proofs.lemmas.Option.{same_Some}
use Rattle.arc_base.specs.Event.{writes}
use Rattle.arc_base.specs.declared.outside.Stream.TheVariants.{Err}
use Rattle.nim_types.specs.Types as type
use Rattle.nim_types.specs.Table.{facts_in}
use Rattle.nim_program.specs.Ints.{fits as is_int_number, inside}
use Rattle.nim_program.specs.Kinds.{TypeKind, element_of, is_int, is_of, is_sequence, kind_if}
use Rattle.nim_program.specs.Traps.{IndexOutOfBounds, trap_text}
use Rattle.nim_meaning.specs.Acts.{line_of}
use Rattle.nim_meaning.specs.Deeds.{Answers, Finishes, costs, give, stop, unless_gone}
use Rattle.nim_meaning.specs.Deeds as deeds
use Rattle.nim_meaning.specs.Places.{has_items, to_item, to_one}
use Rattle.nim_meaning.specs.State.{is_seen, is_whole, load}
use Rattle.nim_meaning.specs.Values.{Value, Number, Parts, Handle, Fixed, Ref, Resource, Gone, Vacant, Base, Standing, Waiting, InBlock, InHand, InException}
use Rattle.nim_meaning.specs.Values.{Made, Location, item_of, length_of, number_of}
use Rattle.flat_code.specs.declared.block.BlockLine.{BlockLine}
use Rattle.flat_code.specs.declared.line.Line.TheVariants as L
use Rattle.flat_code.specs.Fits.{if_kind, is_location, is_standing, place_named, same_bool}
use Rattle.flat_code.specs.Lines.{leads, using_number}
use Rattle.flat_code.specs.Running.{scene_of}
use Rattle.flat_code.specs.Scene.{Located, Passes, Where, Within, led, location_at, with_place}
use Rattle.flat_code.specs.Shapes.{block}
use Rattle.word_code.specs.declared.word.WordInstr.{WordInstr}
use Rattle.rv32_isa.specs.declared.micro_op.Size.TheVariants.{Word}
use Rattle.word_code.specs.Memory.{number_at, own_data_at}
use Rattle.heap_memory.specs.HeapState.{Standing as BlockStanding}
use Rattle.heap_memory.specs.HeapUse.{IsThere as IsStanding}
use Rattle.heap_memory.proofs.ForCallers.{is_there as block_is_there}
use Rattle.word_lowering.specs.declared.homes.Alias.TheVariants as alias
use Rattle.word_lowering.specs.declared.homes.Home.{Home as Place}
use Rattle.word_lowering.specs.declared.homes.Home.TheVariants.{Placed, Static, Variable}
use Rattle.word_lowering.specs.LineCode.{item_at, variable_of}
use Rattle.word_lowering.specs.Lowered.{any_branches}
use Rattle.word_lowering.specs.Operands.{Around, location}
use Rattle.word_lowering.specs.Operations.{least, trap_label, word}
use Rattle.word_lowering.specs.OwnedCode.{each_bytes, owned_item_code}
use Rattle.word_lowering.specs.Stored.{entry_at}
use Rattle.word_lowering.proofs.Arithmetic.{fits_signed}
use Rattle.word_lowering.proofs.Blocks.{IsLiteralHandle, Stored}
use Rattle.word_lowering.proofs.ControlLines.{int_read, kind_at, plain}
use Rattle.word_lowering.proofs.HookedMoves.{BitsHere}
use Rattle.word_lowering.proofs.FixedTexts.{IsFixedText, fixed_text}
use Rattle.word_lowering.proofs.GoodLeads.{data_linked, owned_or_data}
use Rattle.word_lowering.proofs.ItemRuns.{item_given, item_past}
use Rattle.word_lowering.proofs.LentLocations.{located_here}
use Rattle.word_lowering.proofs.LineFits.{are_of, no_handle, some_kind}
use Rattle.word_lowering.proofs.LinkedReads.{linked_load, linked_text}
use Rattle.word_lowering.proofs.Lines.{Basis, IsGood, Settles, all_sites, fits_here, starts, using_settles, where_there}
use Rattle.word_lowering.proofs.NumberLines.{variable}
use Rattle.word_lowering.proofs.OrdinalChecks.{inside_is}
use Rattle.word_lowering.proofs.PartLines.{leads_settles, led_variable, own_location}
use Rattle.word_lowering.proofs.Related.{Both, body_of, high}
use Rattle.word_lowering.proofs.Scenes.{FromData, FromFixed, FromLinked, FromText, IsMade, IsOwned, IsThere, house, is_fixed, looked, of_location}
use Rattle.word_lowering.proofs.Settling.{TrapsStop, code_here, code_next}
use Rattle.word_lowering.proofs.ShapeFacts.{letter, never, of_numbers}
use Rattle.word_lowering.proofs.Sites.{around}
use Rattle.word_lowering.proofs.Targets.{location_alias, own_alias, pointed}
use Rattle.word_lowering.proofs.TextElements.{text_by}
use Rattle.word_lowering.proofs.TextOperands.{IsText, TextBlock, text_block, text_long}
use Rattle.word_lowering.proofs.TextReads.{TextHere, text_here}
use Rattle.word_lowering.proofs.ValueFacts.{HasType, Operand, has_type, look_of, type_in, with_home}
use Rattle.word_lowering.proofs.WrittenLines.{Writing}

-- a text of a literal has no places where something is owned
no_items : (b : Base) (text : List ℕ) → IsOwned b → has_items (Fixed text) b ≡ false
no_items (Standing level n) text owned = refl
no_items (Waiting level node) text owned = refl
no_items (InBlock k) text owned = refl
no_items (InHand i) text owned = absurd owned
no_items (InException i) text owned = absurd owned
no_items (Made v) text owned = absurd owned

fixed_is : (s t : List ℕ) → Fixed s ≡ Fixed t → s ≡ t
fixed_is s t e = cc

item_branches : (lead : ℕ) (home : Place) (held size : ℕ) (k : List WordInstr)
    → any_branches (trap_label IndexOutOfBounds) (owned_item_code lead home held size k) ≡ true
item_branches lead (Variable n) held size k = refl
item_branches lead (Placed at) held size k = refl
item_branches lead (Static at) held size k = refl

-- in a block, wherever the text stands
is_led : (there : Where) (n k i : ℕ) (l : Location) → led there (item_of (Handle n (Some k)) l i) ≡ Located (item_of (Handle n (Some k)) l i)
is_led (Located old) n k i l = refl
is_led (Within t path) n k i l = refl

none_inside : (z : ℤ) → inside z 0 ≡ true → ⊥
none_inside (pos n) h = let q = (and_parts (int_le (pos 0) (pos n)) (int_lt (pos n) (pos 0)) h).1 in absurd (omega (arith, ints, q))
none_inside (negsuc n) h = never h

module _ (x : Basis) (said : Writing x) (g : Both) (rest : List BlockLine) (traps : TrapsStop x) (to from index : ℕ) where
  abbrev line : BlockLine
  line = plain (L.Item to from index)

  module _ (y : IsGood x (starts g line rest)) (there : Where) (typed : type_in x is_location (body_of g) from ≡ Some type.text)
      (at : g.call.temps.places from ≡ Some there) (there_to : IsThere g.call.site (of_location to))
      (look : looked x.table g.call.site (of_location to) ≡ letter) (w : Value) (o : Operand x g.call index w)
      (r : TextHere x said g line rest y from (location_at g.call.temps there)) where
    abbrev l : Location
    l = location_at g.call.temps there

    abbrev held : ℕ
    held = variable x g line rest y index

    abbrev here : Around
    here = around x.table x.blocks (body_of g)

    abbrev next : List WordInstr
    next = code_next x g line rest y

    code : code_here x g line rest y ≡ owned_item_code (led_variable x g line rest y to) r.home held 1 next
    code =
        ap (λ b. item_at here b to from index next) r.handled
        ∙ ap (λ u. owned_item_code (variable_of u) (location here from).home held (each_bytes x.table (entry_at x.table (location here from).ty)) next)
        (own_location x g line rest y to there_to)
        ∙ ap (λ k. owned_item_code (led_variable x g line rest y to) k held (each_bytes x.table (entry_at x.table (location here from).ty)) next) r.home_is
        ∙ ap (λ n. owned_item_code (led_variable x g line rest y to) r.home held n next) r.each

    located : (m : Location) × (there ≡ Located m)
    located =
        let has : HasType x g.call.site (of_location from) type.text = has_type x g.call.site (of_location from) type.text y.linked.0 typed in
        located_here x g line rest y from has.named (ap of_numbers (look_of x g.call.site (of_location from) type.text has)) there at

    -- what is led to is owned, or a text in a constant
    owned_or_linked : IsOwned l.base ⊎ FromLinked g.ground l r.address block
    owned_or_linked = by (owned_or_data x (starts g line rest) y l r.address block r.leads)
      where
        by : IsOwned l.base ⊎ FromData x.table x.blocks g.ground l r.address block → IsOwned l.base ⊎ FromLinked g.ground l r.address block
        by (inl owned) = inl owned
        by (inr f) = inr (data_linked x (starts g line rest) y l r.address block refl f)

    -- a character that is there
    module _ (n k : ℕ) (stored : Stored (is_fixed g.ground) g.ground.blocks g.memory r.address block (Handle n (Some k)))
        (whole : is_whole g.world (Handle n (Some k)) ≡ true) (i : ℕ) (less : i < n) where
      t : TextBlock (is_fixed g.ground) g.ground.blocks g.world g.memory n k
      t = text_block (is_fixed g.ground) g.ground.blocks g.world g.memory y.heap r.address n k stored whole

      there_is : IsStanding g.memory t.is.standing
      there_is = block_is_there own_data_at g.world.heap.classes g.ground.blocks.stands g.memory y.heap.kept k t.is.standing t.is.stands y.memory.sized

      abbrev start : ℕ
      start = t.is.standing.place

      -- its address
      character_end : start + i * 1 + 4 < 2 ^ 32
      character_end =
          let few = text_long (is_fixed g.ground) g.ground.blocks g.world g.memory y.heap n k t in
          let high = there_is.high in
          let most = y.memory.sized.heap_most in
          omega (arith, few, high, most, less)

      character_from : FromText g.ground (item_of (Handle n (Some k)) l i) (start + i * 1) letter
      character_from = record {
        block = k;
        base = refl;
        leads = record {
          position = i;
          is = refl;
          born = stored.is.0;
          inside = t.inside;
          shape = refl;
          address = λ z stands.
              let same : z ≡ t.is.standing = same_Some z t.is.standing (sym stands ∙ t.is.stands) in
              let at : z.place ≡ start = ap (λ (u : BlockStanding). u.place) same in
              omega (arith, at);
        };
        near = character_end;
      }

      character_settles : g.call.vars held ≡ Some i → Settles x (starts g line rest) rest
          (Passes (Answers [] 1 (with_place to g.call.temps (Located (item_of (Handle n (Some k)) l i))) g.world))
      character_settles is =
          let end = character_end in
          let place_at : number_at g.memory (r.address + 4) Word ≡ Ok start = stored.there ∙ ap Ok (stored.is.2 t.is.standing t.is.stands) in
          leads_settles x g line rest y to (Located (item_of (Handle n (Some k)) l i)) (start + i * 1) 1 (omega arith) there_to (λ e. inl tt)
          (inr (inl (subst (FromText g.ground (item_of (Handle n (Some k)) l i) (start + i * 1)) (sym look) character_from)))
          (item_given x g line rest y r.address r.near n start stored.long stored.few place_at (omega (arith, end)) r.home r.at_home 1 (omega arith) to held
          o.high i is code there_to less (omega (arith, end)))

    -- one of a text in a constant
    module _ (text : List ℕ) (f : FromLinked g.ground l r.address block) (same : load g.world l ≡ Fixed text) (i : ℕ) (less : i < length text) where
      has : (t : List ℕ) × (load g.world l ≡ Fixed t) × IsLiteralHandle (is_fixed g.ground) g.memory r.address t
      has = linked_text x (starts g line rest) y l r.address f

      handle : IsLiteralHandle (is_fixed g.ground) g.memory r.address text
      handle = subst (IsLiteralHandle (is_fixed g.ground) g.memory r.address) (fixed_is has.0 text (sym has.1 ∙ same)) has.2

      standing : IsFixedText x handle.place text
      standing = fixed_text x (starts g line rest) y handle.place text handle.stands

      character_near : handle.place + i * 1 + 4 < 2 ^ 32
      character_near = let high = standing.room in omega (arith, high, less)

      constant_from : FromFixed g.ground (item_of (Fixed text) l i) (handle.place + i * 1) letter
      constant_from = record {
        value = f.value;
        base = f.base;
        above = l.path;
        position = i;
        path = refl;
        text = text;
        is = sym (linked_load x (starts g line rest) y l r.address block f) ∙ same;
        place = handle.place;
        stands = handle.stands;
        inside = less;
        shape = refl;
        address = omega arith;
        near = character_near;
      }

      constant_settles : g.call.vars held ≡ Some i → Settles x (starts g line rest) rest
          (Passes (Answers [] 1 (with_place to g.call.temps (Located (item_of (Fixed text) l i))) g.world))
      constant_settles is =
          let end = character_near in
          leads_settles x g line rest y to (Located (item_of (Fixed text) l i)) (handle.place + i * 1) 1 (omega arith) there_to
          (λ e. inr (subst IsMade (sym f.base) tt))
          (inr (inr (subst (FromFixed g.ground (item_of (Fixed text) l i) (handle.place + i * 1)) (sym look) constant_from)))
          (item_given x g line rest y r.address r.near (length text) handle.place handle.long handle.few handle.there (omega (arith, end)) r.home r.at_home 1
          (omega arith) to held o.high i is code there_to less (omega (arith, end)))

    -- ---- what the line does with the text

    abbrev Leads_by : Bool → Value → Type 0
    Leads_by b v = Settles x (starts g line rest) rest (leads (scene_of (high x.table x.blocks (starts g line rest))) to there
        (costs 1 (deeds.branch b (to_one v l (unsigned_abs (number_of w))) (stop IndexOutOfBounds))))

    -- past its end
    past : (v : Value) → length_of v ≡ r.long → inside (number_of w) (length_of v) ≡ false → Leads_by false v
    past v long out =
        let m : min r.long least ≡ r.long = (let c = fits_signed (pos r.long) r.fits in omega (arith, ints)) in
        let out_here : inside (number_of w) r.long ≡ false = subst (λ n. inside (number_of w) n ≡ false) long out in
        let behind : r.long ≤ word (number_of w)
        = ltb-false (word (number_of w)) r.long (ap (λ n. nat_lt (word (number_of w)) n) (sym m) ∙ inside_is (number_of w) r.long o.fits ∙ out_here) in
        let few : r.long < 2 ^ 32 = (let c = fits_signed (pos r.long) r.fits in omega (arith, ints)) in
        subst (λ d. Settles x (starts g line rest) rest d)
        (ap (λ es. Passes (Finishes es (1 + length (line_of (trap_text IndexOutOfBounds))) 1 g.world))
        (sym (append-nil (writes Err (line_of (trap_text IndexOutOfBounds))))))
        (item_past x g line rest y r.address r.near r.long r.place r.long_at few r.place_at r.place_near r.home r.at_home 1 (omega arith) to held o.high
        (word (number_of w)) o.word_is code behind traps
        (λ lines. subst (λ b. any_branches (trap_label IndexOutOfBounds) (item_at here b to from index lines) ≡ true) (sym r.handled)
        (item_branches (variable_of (location here to)) (location here from).home held (each_bytes x.table (entry_at x.table (location here from).ty)) lines)))

    -- within a text that nobody owns: in a constant, or at a fault
    fixed_found : (t : List ℕ) → load g.world l ≡ Fixed t → IsOwned l.base ⊎ FromLinked g.ground l r.address block
        → inside (number_of w) (length t) ≡ true → Leads_by true (Fixed t)
    fixed_found t loaded (inl owned) h =
        subst (λ b. Settles x (starts g line rest) rest (leads (scene_of (high x.table x.blocks (starts g line rest))) to there
        (costs 1 (unless_gone b (give (item_of (Fixed t) l (unsigned_abs (number_of w)))))))) (sym (no_items l.base t owned)) (λ before. tt)
    fixed_found t loaded (inr f) h =
        subst (λ b. Settles x (starts g line rest) rest (leads (scene_of (high x.table x.blocks (starts g line rest))) to there
        (costs 1 (unless_gone b (give (item_of (Fixed t) l (unsigned_abs (number_of w)))))))) (sym (ap (has_items (Fixed t)) f.base))
        (by (number_of w) refl h)
      where
        by : (z : ℤ) → number_of w ≡ z → inside z (length t) ≡ true → Settles x (starts g line rest) rest
            (Passes (Answers [] 1 (with_place to g.call.temps (led there (item_of (Fixed t) l (unsigned_abs (number_of w))))) g.world))
        by (negsuc i) is h = never h
        by (pos i) is h =
            let fz : is_int_number (pos i) ≡ true = subst (λ z. is_int_number z ≡ true) is o.fits in
            let less : i < length t = (let q = (and_parts (int_le (pos 0) (pos i)) (int_lt (pos i) (pos (length t))) h).1 in omega (arith, ints, q)) in
            let wi : word (pos i) ≡ i = (let q = fits_signed (pos i) fz in omega (arith, ints)) in
            subst (λ z. Settles x (starts g line rest) rest
            (Passes (Answers [] 1 (with_place to g.call.temps (led there (item_of (Fixed t) l (unsigned_abs z)))) g.world))) (sym is)
            (subst (λ place. Settles x (starts g line rest) rest (Passes (Answers [] 1 (with_place to g.call.temps place) g.world)))
            (ap (λ z. led z (item_of (Fixed t) l i)) (sym located.1))
            (constant_settles t f loaded i less (o.word_is ∙ ap Some (ap word is ∙ wi))))

    -- within it
    found : (v : Value) → load g.world l ≡ v → IsText (is_fixed g.ground) v → Stored (is_fixed g.ground) g.ground.blocks g.memory r.address block v
        → is_whole g.world v ≡ true → inside (number_of w) (length_of v) ≡ true → Leads_by true v
    found (Handle n (Some k)) loaded text stored whole h = by (number_of w) refl h
      where
        by : (z : ℤ) → number_of w ≡ z → inside z n ≡ true → Settles x (starts g line rest) rest
            (Passes (Answers [] 1 (with_place to g.call.temps (led there (item_of (Handle n (Some k)) l (unsigned_abs (number_of w))))) g.world))
        by (negsuc i) is h = never h
        by (pos i) is h =
            let fz : is_int_number (pos i) ≡ true = subst (λ z. is_int_number z ≡ true) is o.fits in
            let less : i < n = (let q = (and_parts (int_le (pos 0) (pos i)) (int_lt (pos i) (pos n)) h).1 in omega (arith, ints, q)) in
            let wi : word (pos i) ≡ i = (let q = fits_signed (pos i) fz in omega (arith, ints)) in
            subst (λ z. Settles x (starts g line rest) rest
            (Passes (Answers [] 1 (with_place to g.call.temps (led there (item_of (Handle n (Some k)) l (unsigned_abs z)))) g.world))) (sym is)
            (subst (λ place. Settles x (starts g line rest) rest (Passes (Answers [] 1 (with_place to g.call.temps place) g.world)))
            (sym (is_led there n k i l)) (character_settles n k stored whole i less (o.word_is ∙ ap Some (ap word is ∙ wi))))
    found (Handle n None) loaded text stored whole h =
        let none : n ≡ 0 = stored.empty in absurd (none_inside (number_of w) (subst (λ m. inside (number_of w) m ≡ true) none h))
    found (Fixed t) loaded text stored whole h = fixed_found t loaded owned_or_linked h
    found (Number z) loaded text stored whole h = absurd text
    found (Parts vs) loaded text stored whole h = absurd text
    found (Ref object) loaded text stored whole h = absurd text
    found (Resource vs j) loaded text stored whole h = absurd text
    found (Gone u final) loaded text stored whole h = absurd text
    found Vacant loaded text stored whole h = absurd text

    leads_there : Leads_by (inside (number_of w) (length_of (load g.world l))) (load g.world l)
    leads_there = by (inside (number_of w) (length_of (load g.world l))) refl
      where
        by : (b : Bool) → inside (number_of w) (length_of (load g.world l)) ≡ b → Leads_by b (load g.world l)
        by true h = found (load g.world l) refl r.text r.stored r.whole h
        by false h = past (load g.world l) r.long_is h

  pub item_text : type_in x is_location (body_of g) from ≡ Some type.text → BitsHere x g rest line
  item_text typed y =
      let to_may : Bool = if_kind is_standing (place_named is_location (body_of g).proc.places to) in
      let from_may : Bool = if_kind is_standing (place_named is_location (body_of g).proc.places from) in
      let f = and_parts (is_of (type_in x is_location (body_of g) to) (element_of (kind_if (facts_in x.table) (type_in x is_location (body_of g) from))))
      (is_int (kind_at x g line rest y index) && same_bool to_may from_may) (fits_here x.table x.blocks (body_of g) line rest y.stands) in
      let i = and_parts (is_int (kind_at x g line rest y index)) (same_bool to_may from_may) f.1 in
      let of = are_of (type_in x is_location (body_of g) to) (Some type.char)
      (subst (λ u. is_of (type_in x is_location (body_of g) to) (element_of (kind_if (facts_in x.table) u)) ≡ true) typed f.0) in
      let q = pointed x g line rest y to type.char (of.is ∙ sym of.is_other) in
      let there_to : IsThere g.call.site (of_location to) = with_home x q.named
      (own_alias (house g.call.site (of_location to)).alias (location_alias x g line rest y to alias.Own refl refl)) tt in
      using_settles x (starts g line rest) rest (g.call.temps.places from)
      (λ there. using_number g.call.temps index (λ z. leads (scene_of (high x.table x.blocks (starts g line rest))) to there
      (to_item (location_at g.call.temps there) z)))
      (λ there at. using_settles x (starts g line rest) rest (g.call.temps.values index)
      (λ w. leads (scene_of (high x.table x.blocks (starts g line rest))) to there (to_item (location_at g.call.temps there) (number_of w)))
      (λ w h. where_there x (starts g line rest) rest (is_seen g.world (location_at g.call.temps there))
      (λ b. leads (scene_of (high x.table x.blocks (starts g line rest))) to there
      (costs 1 (unless_gone b (deeds.branch (inside (number_of w) (length_of (load g.world (location_at g.call.temps there))))
      (to_one (load g.world (location_at g.call.temps there)) (location_at g.call.temps there) (unsigned_abs (number_of w))) (stop IndexOutOfBounds)))))
      (λ before. tt)
      (λ seen. leads_there y there typed at there_to q.look w (int_read x g line rest y index w i.0 h)
      (text_here x said g line rest y from there type.text typed refl at seen))))

  -- of what has elements and a handle, and is no sequence
  pub item_other : is_sequence (kind_if (facts_in x.table) (type_in x is_location (body_of g) from)) ≡ false
      → no_handle (looked x.table g.call.site (of_location from)) ≡ false → BitsHere x g rest line
  item_other other handled y =
      let kind : TypeKind = kind_if (facts_in x.table) (type_in x is_location (body_of g) from) in
      let f = and_parts (is_of (type_in x is_location (body_of g) to) (element_of kind)) _ (fits_here x.table x.blocks (body_of g) line rest y.stands) in
      let v = are_of (type_in x is_location (body_of g) to) (element_of kind) f.0 in
      let s = some_kind (facts_in x.table) (type_in x is_location (body_of g) from) (λ k. is_of (Some v.ty) (element_of k)) refl
      (subst (λ o. is_of o (element_of kind) ≡ true) v.is f.0) in
      let n = has_type x g.call.site (of_location from) s.0 y.linked.0 s.1 in
      let is : s.0 ≡ type.text
      = text_by (facts_in x.table) s.0 v.ty s.2 (sym (ap (λ o. is_sequence (kind_if (facts_in x.table) o)) s.1) ∙ other)
      (sym (ap no_handle (look_of x g.call.site (of_location from) s.0 n)) ∙ handled) in
      item_text (s.1 ∙ ap Some is) y

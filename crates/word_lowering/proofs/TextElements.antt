-- A temporary gets a character of a text at a location, which is there: the line is followed.
use Rattle.std.proofs.Common.{◌≡◌, inl, inr, ℕ, List, [], ◌∷◌, ◌++◌, length, Some, None, Ok, true, refl, sym, ap, subst, ◌∙◌, arith}
use Rattle.std.proofs.Common.{negsuc, pos, unsigned_abs, ℤ, ◌*◌, ◌+◌, ◌<◌, ◌^◌, Option, false}
use Rattle.std.specs.Prelude.{◌&&◌, int_le, int_lt, not}
use Rattle.nim_meaning.specs.Here.{gives_hooked}
use Rattle.word_lowering.proofs.OrdinalRuns.{AllSame, but_one, put_here}
use Rattle.nim_meaning.specs.Acts.{branch}
use Rattle.nim_meaning.specs.Deeds.{Answers, costs, give, unless_gone}
use Rattle.heap_memory.specs.TextRoutines.{AreBytes}
use Rattle.word_lowering.proofs.AddressFacts.{AtAddress, at_homed}
use Rattle.word_lowering.proofs.Lines.{Basis, IsGood, Settles, all_procs, all_sites, branch_settles, fits_here, starts, using_settles, where_there}
use Rattle.word_lowering.proofs.HookedMoves.{BitsHere}
use Rattle.flat_code.specs.declared.block.BlockLine.{BlockLine}
use Rattle.word_lowering.proofs.Related.{Both, body_of, high, within}
use Rattle.rv32_isa.specs.declared.micro_op.Size.TheVariants.{Byte, Word}
use Rattle.word_code.specs.declared.word.WordInstr.TheVariants.{Copy, Load}
use Rattle.word_lowering.specs.declared.homes.Home.{Home as Place}
use Rattle.word_lowering.specs.declared.homes.TheConstants.{FIFTH, FIRST}
use Rattle.nim_meaning.specs.Values.{Fixed, Gone, Handle, Location, Number, Parts, bytes, characters, Ref, Resource, Vacant, Value, item_of, length_of, nth}
use Rattle.nim_meaning.specs.Values.{nth_part, number_of, part}
use Rattle.word_lowering.proofs.OperationRuns.{Given}
use Rattle.word_lowering.proofs.ValueFacts.{HasType, Operand, has_type, in_word, look_of, type_in}
use Rattle.word_lowering.specs.declared.spots.Spot.TheVariants.{Held}
use Rattle.word_lowering.specs.declared.homes.Housed.{Housed}
use Rattle.word_lowering.proofs.Blocks.{Stored}
use Rattle.word_lowering.proofs.TextRowRuns.{IsAt}
use Rattle.word_lowering.proofs.TextOperands.{IsSourceIn, IsText, TextAt, text_at_handle, text_block, text_is}
use Rattle.word_lowering.proofs.Scenes.{Leads, house, is_fixed, looked, of_location, of_value}
use Rattle.word_code.specs.Memory.{bytes_at, number_at}
use Rattle.heap_memory.specs.AppendRoutine.{Inside, Outside, Source, source_at, source_bytes}
use Rattle.flat_code.specs.Scene.{Fails, Passes, Where, location_at, with_value}
use Rattle.word_code.proofs.ForCallers.{Runs, Within, at, run_copy, run_load, then_runs}
use Rattle.word_lowering.proofs.Targets.{Target, target}
use Rattle.word_code.specs.Words.{Vars, put}
use Rattle.word_code.specs.declared.word.WordInstr.{WordInstr}
use Rattle.word_lowering.proofs.WrittenLines.{Writing}
use Rattle.std.proofs.lemmas.Bool.{and_parts}
use Rattle.word_lowering.proofs.LineFits.{are_of, no_handle, some_kind}
use Rattle.word_lowering.proofs.Sites.{around, is_one_word}
use Rattle.flat_code.specs.Shapes.{block, has_shape, number, shape_of}
use Rattle.word_lowering.proofs.Settling.{code_here, code_next, gives_settles}
use Rattle.nim_meaning.specs.State.{contents_value, is_full_at, is_seen, is_there, is_whole, load, object_in, text_of, whole_at}
use Rattle.word_lowering.specs.OwnedCode.{each_bytes, element_read, has_handle, is_text as is_text_entry, owned_element_code}
use Rattle.flat_code.specs.Lines.{element_at, gives, using_number}
use Rattle.word_lowering.proofs.HandleReads.{element_found}
use Rattle.nim_program.specs.Kinds.{element_of, is_int, is_of, kind_if, TypeKind, declared_kind, is_sequence, kind_of}
use Rattle.word_lowering.specs.Stored.{entry_at}
use Rattle.nim_types.specs.Table.{facts_in}
use Rattle.nim_meaning.specs.Places.{fetched}
use Rattle.word_lowering.proofs.Arithmetic.{fits_signed}
use Rattle.word_lowering.proofs.FixedTexts.{fixed_there}
use Rattle.word_lowering.proofs.NumberLines.{getting, variable}
use Rattle.word_lowering.proofs.HouseHooks.{homed, plain_as}
use Rattle.word_lowering.proofs.LocationHouses.{homed_house}
use Rattle.nim_program.specs.Ints.{fits as is_int_number, inside}
use Rattle.word_lowering.proofs.ControlLines.{int_read, kind_at, plain}
use Rattle.std.proofs.lemmas.Int.{ints}
use Rattle.flat_code.specs.Fits.{is_location, is_value}
use Rattle.word_lowering.proofs.LetterReads.{letter_shaped, letter_word}
use Rattle.word_lowering.proofs.StoredParts.{part_last}
use Rattle.word_lowering.proofs.TextLetters.{ByteAt, Letter, byte_at, letter_at}
use Rattle.word_lowering.proofs.TextsRead.{may_write}
use Rattle.word_lowering.specs.Operations.{word}
use Rattle.word_lowering.proofs.SeenHandles.{led_full, text_handle}
use Rattle.word_lowering.proofs.Located.{led_stored}
use Rattle.word_lowering.specs.LineCode.{element_at as element_code_at, variable_of}
use Rattle.word_lowering.specs.Operands.{location}
use Rattle.word_lowering.specs.Spots.{moved}
use Rattle.word_lowering.proofs.ShapeFacts.{never}
use Rattle.word_lowering.proofs.SequenceRowRuns.{same_fifth}
use Rattle.word_lowering.proofs.Moves.{same_first, same_more}
use Rattle.flat_code.specs.Running.{scene_of}
use Rattle.word_lowering.proofs.LengthRows.{text_house}
use Rattle.nim_types.specs.Types.{Fact, Facts, Ty, members, fields, base, below, fact_of}
use Rattle.flat_code.specs.declared.line.Line.TheVariants as L
use Rattle.nim_types.specs.Types as type
use Rattle.nim_types.specs.declared.types.TypeDef.TheVariants as D

module _ (x : Basis) (said : Writing x) (g : Both) (rest : List BlockLine) (to from index : ℕ) where
  abbrev line : BlockLine
  line = plain (L.Element to from index)

  module _ (y : IsGood x (starts g line rest)) (there : Where) (typed : type_in x is_location (body_of g) from ≡ Some type.text)
      (at_from : g.call.temps.places from ≡ Some there) (seen : is_seen g.world (location_at g.call.temps there) ≡ true) where
    abbrev l : Location
    l = location_at g.call.temps there

    abbrev v : Value
    v = load g.world (location_at g.call.temps there)

    abbrev source_house : Housed
    source_house = location (around x.table x.blocks (body_of g)) from

    -- what stands there
    record TextThere : Type 0 where
      entry : entry_at x.table (location (around x.table x.blocks (body_of g)) from).ty ≡ Some D.Text
      home : Place
      home_is : (location (around x.table x.blocks (body_of g)) from).home ≡ home
      address : ℕ
      at_home : IsAt g.call.site.base g.call.vars home address
      near : address + 4 < 2 ^ 32
      whole : is_whole g.world (load g.world (location_at g.call.temps there)) ≡ true
      stored : Stored (is_fixed g.ground) g.ground.blocks g.memory address block (load g.world (location_at g.call.temps there))
      text : IsText (is_fixed g.ground) (load g.world (location_at g.call.temps there))
      text_at : TextAt g.world.heap g.ground.blocks.stands g.memory address (text_of g.world (load g.world (location_at g.call.temps there)))

    text_there : TextThere
    text_there =
        let has : HasType x g.call.site (of_location from) type.text = has_type x g.call.site (of_location from) type.text y.linked.0 typed in
        let look : looked x.table g.call.site (of_location from) ≡ block = look_of x g.call.site (of_location from) type.text has in
        let p = and_parts (is_there g.world l) (is_whole g.world (load g.world l)) seen in
        let homed_from = homed x g.call.site y.linked.0 from has.named in
        let a : AtAddress x g line rest y source_house there (looked x.table g.call.site (of_location from))
        = at_homed x g line rest y from there has.named homed_from at_from (ap is_one_word look) in
        let leads : Leads x.table x.blocks (all_sites x g line rest y) g.ground g.world g.call.site g.call.temps there a.address block
        = subst (Leads x.table x.blocks (all_sites x g line rest y) g.ground g.world g.call.site g.call.temps there a.address) look a.leads_to in
        let full = led_full x (starts g line rest) y g.call (inl refl) there a.address block tt seen leads in
        let r = led_stored x (starts g line rest) y g.call (inl refl) (inl refl) there a.address block (inr refl) full leads in
        let near = r.readable.near in
        let text : IsText (is_fixed g.ground) v = text_handle (is_fixed g.ground) g.ground.blocks g.world g.memory a.address v r.stored p.1 in
        let housed = homed_house x g line rest y from there has.named homed_from at_from in
        record {
          entry = text_house x said source_house (ap (shape_of (facts_in x.table)) (housed.typed ∙ has.typed));
          home = a.home;
          home_is = a.home_is;
          address = a.address;
          at_home = record { points = a.points; high = a.high_is; small = omega (arith, near) };
          near = omega (arith, near);
          whole = p.1;
          stored = r.stored;
          text = text;
          text_at = text_at_handle (is_fixed g.ground) g.ground.blocks g.world g.memory y.heap y.memory.sized y.memory.bytes
              (fixed_there x (starts g line rest) y) a.address v text r.stored p.1;
        }

    -- what a character of it is in the meaning
    loaded : (u : Value) → IsText (is_fixed g.ground) u → (a : ℕ) → Stored (is_fixed g.ground) g.ground.blocks g.memory a block u
        → is_whole g.world u ≡ true → load g.world l ≡ u → (i : ℕ) → i < length (text_of g.world u) → (r : Letter (text_of g.world u) i)
        → load g.world (item_of u l i) ≡ Number (pos r.letter)
    loaded (Handle n None) text a stored whole is i less r = absurd (omega (arith, less))
    loaded (Handle n (Some k)) text a stored whole is i less r =
        let t = text_block (is_fixed g.ground) g.ground.blocks g.world g.memory y.heap a n k stored whole in
        ap (λ o. nth_part (contents_value o) i) t.there ∙ ap (λ c. nth_part (object_in c) i) t.contents
        ∙ ap (λ s. nth (characters s) i) (sym (text_is (is_fixed g.ground) g.ground.blocks g.world g.memory y.heap n k t)) ∙ r.is
    loaded (Fixed s) text a stored whole is i less r =
        part_last (whole_at g.world l.base) l.path i ∙ ap (λ u. nth_part u i) is ∙ r.is
    loaded (Number z) text a stored whole is i less r = absurd text
    loaded (Parts vs) text a stored whole is i less r = absurd text
    loaded (Ref o) text a stored whole is i less r = absurd text
    loaded (Resource vs o) text a stored whole is i less r = absurd text
    loaded (Gone u final) text a stored whole is i less r = absurd text
    loaded Vacant text a stored whole is i less r = absurd text

    -- a text is as long as its handle says
    long_as : (u : Value) → IsText (is_fixed g.ground) u → (a : ℕ) → Stored (is_fixed g.ground) g.ground.blocks g.memory a block u
        → is_whole g.world u ≡ true → length_of u ≡ length (text_of g.world u)
    long_as (Handle n None) text a stored whole = let e = stored.empty in omega (arith, e)
    long_as (Handle n (Some k)) text a stored whole =
        let t = text_block (is_fixed g.ground) g.ground.blocks g.world g.memory y.heap a n k stored whole in
        let e = ap length (text_is (is_fixed g.ground) g.ground.blocks g.world g.memory y.heap n k t) in
        let o = t.long in
        omega (arith, e, o)
    long_as (Fixed s) text a stored whole = refl
    long_as (Number z) text a stored whole = absurd text
    long_as (Parts vs) text a stored whole = absurd text
    long_as (Ref o) text a stored whole = absurd text
    long_as (Resource vs o) text a stored whole = absurd text
    long_as (Gone u final) text a stored whole = absurd text
    long_as Vacant text a stored whole = absurd text

    are_bytes : (s : Source) → IsSourceIn g.ground.blocks.stands g.memory s → AreBytes (source_bytes s)
    are_bytes (Outside a letters) is = is.0
    are_bytes (Inside b count) is = is.2

    module _ (typed_to : type_in x is_value (body_of g) to ≡ Some type.char) (w : Value) (o : Operand x g.call index w) where
      abbrev held : ℕ
      held = variable x g line rest y index

      abbrev into : Housed
      into = house g.call.site (of_value to)

      abbrev next : List WordInstr
      next = code_next x g line rest y

      abbrev c : Within
      c = within x.table x.blocks g

      target_is : Target x g line rest y to type.char
      target_is = target x g line rest y to type.char refl refl typed_to (plain_as x g.call.site y.linked.0 (of_value to) type.char typed_to refl)

      char_settles : (t : TextThere) (i : ℕ) → g.call.vars held ≡ Some i → i < length (text_of g.world v) → Settles x (starts g line rest) rest
          (gives (scene_of (high x.table x.blocks (starts g line rest))) to (costs 1 (fetched (item_of v l i))))
      char_settles t i index_is less =
          let text : List ℕ = text_of g.world v in
          let r : Letter text i = letter_at text i less in
          let read = may_write (is_fixed g.ground) g.ground.blocks g.world.heap g.memory y.heap y.memory.sized t.address text t.text_at in
          let start : ℕ = source_at t.text_at.source in
          let here : bytes_at g.memory start (length text) ≡ Some text
          = subst (λ bs. bytes_at g.memory start (length bs) ≡ Some bs) t.text_at.bytes read.here in
          let few_read : start < 2 ^ 32 = read.small in
          let are : AreBytes text = subst AreBytes t.text_at.bytes (are_bytes t.text_at.source t.text_at.is) in
          let byte : ByteAt g.memory y.memory.sized (start + i) r.letter = byte_at g.memory y.memory.sized start text here i less r in
          let one : start + i ≡ start + i * 1 = omega arith in
          let reads : number_at g.memory (start + i * 1) Byte ≡ Ok r.letter = subst (λ k. number_at g.memory k Byte ≡ Ok r.letter) one byte.reads in
          let end = byte.small in
          let small : r.letter < 256 = r.small are in
          let long : number_at g.memory t.address Word ≡ Ok (length text)
          = subst (λ bs. number_at g.memory t.address Word ≡ Ok (length bs)) t.text_at.bytes t.text_at.handle.long in
          let few : length text < 2 ^ 32 = subst (λ bs. length bs < 2 ^ 32) t.text_at.bytes t.text_at.few in
          let low : word (pos r.letter) ≡ r.letter = letter_word r.letter small in
          let shaped : has_shape (Number (pos r.letter)) (number (Some 256)) ≡ true = letter_shaped r.letter small in
          let got_it = getting x g line rest y to type.char (Some 256) (pos r.letter) target_is refl shaped in
          let z = in_word x g.call.site to y.linked.0 target_is.there got_it.one in
          let reading : List WordInstr = Load FIRST FIFTH Byte ∷ Copy z.variable FIRST ∷ next in
          let f = element_found x.law x.live (all_procs x) c refl g.memory reading g.call.vars g.words t.home t.address t.at_home FIFTH held 1 i
          (length text) start o.high index_is t.near (omega arith) long few t.text_at.handle.there few_read (omega (arith, end)) in
          let v1 : Vars = put f.vars FIFTH (start + i * 1) in
          let v2 : Vars = put v1 FIRST r.letter in
          let same2 : AllSame g.call.vars v2
          = same_more g.call.vars f.vars v2 f.same (same_more f.vars v1 v2 (same_fifth f.vars (start + i * 1)) (same_first v1 r.letter)) in
          let runs : Runs x.live (all_procs x) 8
          (at c g.memory (owned_element_code FIFTH t.home held 1 reading) g.call.vars g.words) (at c g.memory next (put v2 z.variable r.letter) g.words)
          = then_runs x.live (all_procs x) f.runs (then_runs x.live (all_procs x)
          (run_load x.live (all_procs x) c g.memory (Copy z.variable FIRST ∷ next) v1 g.words FIRST FIFTH Byte
          (put_here f.vars FIFTH (start + i * 1) (omega (arith, end))) reads)
          (run_copy x.live (all_procs x) c g.memory next v2 g.words z.variable FIRST (put_here v1 FIRST r.letter (omega (arith, small))))) in
          let code : code_here x g line rest y ≡ owned_element_code FIFTH t.home held 1 reading
          = ap (λ d. element_code_at (around x.table x.blocks (body_of g)) (has_handle d) from index into next) t.entry
          ∙ ap (λ h. owned_element_code FIFTH h held (each_bytes x.table (entry_at x.table source_house.ty))
          (element_read (is_text_entry (entry_at x.table source_house.ty)) into next)) t.home_is
          ∙ ap (λ d. owned_element_code FIFTH t.home held (each_bytes x.table d) (element_read (is_text_entry d) into next)) t.entry
          ∙ ap (λ q. owned_element_code FIFTH t.home held 1 (Load FIRST FIFTH Byte ∷ moved true into.bytes q (Held FIRST) next)) z.spot in
          let is_item : load g.world (item_of v l i) ≡ Number (pos r.letter) = loaded v t.text t.address t.stored t.whole refl i less r in
          where_there x (starts g line rest) rest (is_full_at g.world (item_of v l i))
          (λ b. gives (scene_of (high x.table x.blocks (starts g line rest))) to (costs 1 (unless_gone b
          (costs (bytes (load g.world (item_of v l i))) (give (load g.world (item_of v l i))))))) (λ before. tt)
          (λ full. subst (λ u. Settles x (starts g line rest) rest (Passes (Answers [] (1 + (bytes u + 0)) (with_value to g.call.temps u) g.world)))
          (sym is_item)
          (gives_settles x g line rest y to (pos r.letter) (1 + (bytes (Number (pos r.letter)) + 0)) (omega arith) got_it
          (subst (λ lines. Given x.live (all_procs x) c g.memory g.words lines g.call.vars (variable_of into) (word (pos r.letter)) next) (sym code)
          (subst (λ n. Given x.live (all_procs x) c g.memory g.words (owned_element_code FIFTH t.home held 1 reading) g.call.vars n (word (pos r.letter)) next)
          (sym z.is) (record {
            steps = 8;
            some = omega arith;
            few = omega arith;
            gives = record {
              vars = put v2 z.variable r.letter;
              given = put_here v2 z.variable r.letter (omega (arith, small)) ∙ ap Some (sym low);
              but = but_one g.call.vars v2 z.variable r.letter z.high same2;
              runs = runs;
            };
          })))))

      found : inside (number_of w) (length_of v) ≡ true → Settles x (starts g line rest) rest
          (gives (scene_of (high x.table x.blocks (starts g line rest))) to (costs 1 (fetched (item_of v l (unsigned_abs (number_of w))))))
      found h = by (number_of w) refl h
        where
          by : (z : ℤ) → number_of w ≡ z → inside z (length_of v) ≡ true → Settles x (starts g line rest) rest
              (gives (scene_of (high x.table x.blocks (starts g line rest))) to (costs 1 (fetched (item_of v l (unsigned_abs z)))))
          by (negsuc i) is h = never h
          by (pos i) is h =
              let t = text_there in
              let fz : is_int_number (pos i) ≡ true = subst (λ z. is_int_number z ≡ true) is o.fits in
              let wi : word (pos i) ≡ i = (let q = fits_signed (pos i) fz in omega (arith, ints)) in
              let e = long_as v t.text t.address t.stored t.whole in
              let less : i < length (text_of g.world v)
              = (let q = (and_parts (int_le (pos 0) (pos i)) (int_lt (pos i) (pos (length_of v))) h).1 in omega (arith, ints, q, e)) in
              char_settles t i (o.word_is ∙ ap Some (ap word is ∙ wi)) less

  pub element_text : type_in x is_location (body_of g) from ≡ Some type.text → BitsHere x g rest line
  element_text typed y =
      let f = and_parts (is_of (type_in x is_value (body_of g) to) (element_of (kind_if (facts_in x.table) (type_in x is_location (body_of g) from))))
      (is_int (kind_at x g line rest y index) && not (gives_hooked (facts_in x.table) (type_in x is_value (body_of g) to)))
      (fits_here x.table x.blocks (body_of g) line rest y.stands) in
      let k = and_parts (is_int (kind_at x g line rest y index)) (not (gives_hooked (facts_in x.table) (type_in x is_value (body_of g) to))) f.1 in
      let w_of = are_of (type_in x is_value (body_of g) to) (Some type.char)
      (subst (λ u. is_of (type_in x is_value (body_of g) to) (element_of (kind_if (facts_in x.table) u)) ≡ true) typed f.0) in
      using_settles x (starts g line rest) rest (g.call.temps.places from)
      (λ there. using_number g.call.temps index (λ z. branch (inside z (length_of (load g.world (location_at g.call.temps there))))
      (gives (scene_of (high x.table x.blocks (starts g line rest))) to (costs 1 (element_at (location_at g.call.temps there) z))) Fails))
      (λ there e. using_settles x (starts g line rest) rest (g.call.temps.values index)
      (λ w. branch (inside (number_of w) (length_of (load g.world (location_at g.call.temps there))))
      (gives (scene_of (high x.table x.blocks (starts g line rest))) to (costs 1 (element_at (location_at g.call.temps there) (number_of w)))) Fails)
      (λ w h. branch_settles x (starts g line rest) rest (inside (number_of w) (length_of (load g.world (location_at g.call.temps there))))
      (gives (scene_of (high x.table x.blocks (starts g line rest))) to (costs 1 (element_at (location_at g.call.temps there) (number_of w)))) Fails
      (λ within_it. where_there x (starts g line rest) rest (is_seen g.world (location_at g.call.temps there))
      (λ b. gives (scene_of (high x.table x.blocks (starts g line rest))) to (costs 1 (unless_gone b
      (fetched (item_of (load g.world (location_at g.call.temps there)) (location_at g.call.temps there) (unsigned_abs (number_of w))))))) (λ before. tt)
      (λ seen. found y there typed e seen (w_of.is ∙ sym w_of.is_other) w (int_read x g line rest y index w k.0 h) within_it)) (λ i before. tt)))

-- ---- what has elements and a handle, and is no sequence, is a text

declared_single : (o : Option Fact) (of : Ty) → is_of (Some of) (element_of (declared_kind o)) ≡ true → ⊥
declared_single None of h = never h
declared_single (Some (members names)) of h = never h
declared_single (Some (fields all own)) of h = never h
declared_single (Some (base t)) of h = never h
declared_single (Some (below parent)) of h = never h

pub text_by : (facts : Facts) (ty of : Ty) → is_of (Some of) (element_of (kind_of facts ty)) ≡ true → is_sequence (kind_of facts ty) ≡ false
    → no_handle (shape_of facts ty) ≡ false → ty ≡ type.text
text_by facts type.text of h s n = refl
text_by facts (type.sequence e) of h s n = never (sym s)
text_by facts (type.array i t) of h s n = never (sym n)
text_by facts type.int of h s n = never h
text_by facts type.bool of h s n = never h
text_by facts type.char of h s n = never h
text_by facts (type.tuple names ts) of h s n = never h
text_by facts (type.parameter i) of h s n = never h
text_by facts (type.ref name t) of h s n = never h
text_by facts (type.enum key) of h s n = absurd (declared_single (fact_of facts (type.enum key)) of h)
text_by facts (type.object key arguments) of h s n = absurd (declared_single (fact_of facts (type.object key arguments)) of h)
text_by facts (type.distinct key) of h s n = absurd (declared_single (fact_of facts (type.distinct key)) of h)
text_by facts (type.exception key) of h s n = absurd (declared_single (fact_of facts (type.exception key)) of h)

module _ (x : Basis) (said : Writing x) (g : Both) (rest : List BlockLine) (to from index : ℕ) where
  pub element_other : is_sequence (kind_if (facts_in x.table) (type_in x is_location (body_of g) from)) ≡ false
      → no_handle (looked x.table g.call.site (of_location from)) ≡ false → BitsHere x g rest (plain (L.Element to from index))
  element_other other handled y =
      let line : BlockLine = plain (L.Element to from index) in
      let from_kind : TypeKind = kind_if (facts_in x.table) (type_in x is_location (body_of g) from) in
      let f = and_parts (is_of (type_in x is_value (body_of g) to) (element_of from_kind)) _
      (fits_here x.table x.blocks (body_of g) line rest y.stands) in
      let v = are_of (type_in x is_value (body_of g) to) (element_of from_kind) f.0 in
      let s = some_kind (facts_in x.table) (type_in x is_location (body_of g) from) (λ k. is_of (Some v.ty) (element_of k)) refl
      (subst (λ o. is_of o (element_of from_kind) ≡ true) v.is f.0) in
      let n = has_type x g.call.site (of_location from) s.0 y.linked.0 s.1 in
      let is : s.0 ≡ type.text
      = text_by (facts_in x.table) s.0 v.ty s.2 (sym (ap (λ o. is_sequence (kind_if (facts_in x.table) o)) s.1) ∙ other)
      (sym (ap no_handle (look_of x g.call.site (of_location from) s.0 n)) ∙ handled) in
      element_text x said g rest to from index (s.1 ∙ ap Some is) y

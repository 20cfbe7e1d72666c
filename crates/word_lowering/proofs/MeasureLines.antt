-- Lines about the lengths of arrays are followed.
use Rattle.std.proofs.Common.{◌≡◌, ℕ, List, [], ◌∷◌, Option, true, ℤ, pos, refl, sym, ap, subst, ◌∙◌, arith, None, append-nil, length, Bool, Some, ◌^◌}
use Rattle.std.proofs.Common.{◌<◌, ◌+◌, false}
use Rattle.std.proofs.lemmas.Int.{ints}
use Rattle.std.proofs.lemmas.Bool.{and_parts}
use Rattle.nim_meaning.specs.Deeds as deeds
use Rattle.arc_base.specs.Event.{writes}
use Rattle.arc_base.specs.declared.outside.Stream.TheVariants.{Err}
use Rattle.word_code.specs.Words.{put, from_label}
use Rattle.word_code.proofs.ForCallers.{at, none, got}
use Rattle.flat_code.specs.declared.line.From.{From}
use Rattle.flat_code.specs.Lines.{still, gives, acts, using_number}
use Rattle.nim_meaning.specs.Deeds.{stop, Answers, costs, give, ◌>>=◌, sees, unless_gone, Finishes}
use Rattle.nim_program.specs.declared.operation.Measure.{Measure}
use Rattle.nim_program.specs.declared.operation.Measure.TheVariants.{Len, High}
use Rattle.nim_program.specs.Ints.{fits as is_int_number}
use Rattle.flat_code.specs.declared.block.BlockLine.{BlockLine}
use Rattle.flat_code.specs.declared.line.From.TheVariants as F
use Rattle.flat_code.specs.declared.line.Line.TheVariants as L
use Rattle.nim_program.specs.declared.operation.Operation.TheVariants as O
use Rattle.word_code.specs.declared.word.Test.TheVariants as test
use Rattle.word_code.specs.declared.word.WordInstr.TheVariants.{Constant, Branch}
use Rattle.flat_code.specs.Fits.{is_location}
use Rattle.flat_code.specs.Running.{scene_of}
use Rattle.flat_code.specs.Scene.{Passes, Where, location_at, with_value}
use Rattle.nim_meaning.specs.Here.{gives_hooked}
use Rattle.nim_meaning.specs.Places.{length_at, kept_if}
use Rattle.nim_meaning.specs.State.{is_seen, load}
use Rattle.nim_meaning.specs.Table.{measured}
use Rattle.nim_meaning.specs.Values.{Number, length_of, At, location_of, Value, number_of, nothing}
use Rattle.nim_program.specs.Kinds.{has_length, is_int, kind_if, same_value}
use Rattle.nim_program.specs.View.{if_type}
use Rattle.flat_code.specs.declared.line.UseAt.{UseAt}
use Rattle.nim_types.specs.Table.{facts_in}
use Rattle.word_lowering.proofs.ApplyFits.{applies, RowHere}
use Rattle.word_lowering.proofs.Arithmetic.{fits_signed, signed_fits, equal_is}
use Rattle.word_lowering.proofs.ControlLines.{FollowedHere, kind_at, plain, value_type, int_read}
use Rattle.word_lowering.proofs.LineFits.{int_shape, no_handle, numbers_no_handle, same_type, some_kind}
use Rattle.word_lowering.proofs.Lines.{Basis, IsGood, Settles, all_procs, fits_here, known, mapped_settles, starts, using_settles, lower, bound_for}
use Rattle.word_lowering.proofs.Lines.{where_there}
use Rattle.word_lowering.proofs.LocationHouses.{RowAt, row_at, row_with}
use Rattle.word_lowering.proofs.NumberLines.{constant_given, getting, int_target, variable}
use Rattle.word_lowering.proofs.OperandLines.{value_type_by}
use Rattle.word_lowering.proofs.OperationRuns.{Given, Led}
use Rattle.word_lowering.proofs.Related.{Both, body_of, high, within}
use Rattle.word_lowering.proofs.Settling.{Getting, LabelsLead, code_here, code_next, gives_settles, Comes, TrapsStop, passes_settles, trap_settles}
use Rattle.word_lowering.proofs.Sites.{around, word_of}
use Rattle.word_lowering.proofs.Targets.{target}
use Rattle.word_lowering.proofs.ValueFacts.{homed_plain, location_of_numbers, type_in, IsHomed, IsPlain, Operand}
use Rattle.word_lowering.specs.LineCode.{location, measure_code, measure_word}
use Rattle.word_lowering.specs.Lowered.{any_branches}
use Rattle.word_lowering.specs.OwnedCode.{has_handle}
use Rattle.word_lowering.specs.Stored.{count_in, entry_at}
use Rattle.word_lowering.specs.Operations.{word, trap_label}
use Rattle.nim_meaning.specs.Acts.{line_of}
use Rattle.nim_program.specs.Traps.{LengthChanged, trap_text}
use Rattle.std.proofs.lemmas.Bool.Decides.{Decides-int_eq, same_from_decides}
use Rattle.std.specs.Ordering.{int_eq}
use Rattle.std.specs.Prelude.{not, ◌==◌}
use Rattle.word_code.specs.declared.word.WordInstr.{WordInstr}
use Rattle.word_lowering.proofs.Gets.{same_temps}
use Rattle.word_lowering.proofs.Moves.{all_same}
use Rattle.word_lowering.proofs.OpRuns.{leads_constant, leads_off, leads_past}
use Rattle.word_lowering.proofs.OrdinalRuns.{put_low, Leads}
use Rattle.word_lowering.specs.declared.homes.TheConstants.{FIRST}
use Rattle.word_lowering.proofs.ShapeFacts.{never}
use Rattle.word_lowering.proofs.HookedMoves.{BitsHere}
use Rattle.word_lowering.proofs.Scenes.{IsNamed, looked, of_location, of_value}

-- ---- words of lengths

pub measured_word : (m : Measure) (n : ℕ) → is_int_number (pos n) ≡ true → measure_word m n ≡ word (measured m n)
measured_word Len n f = let h = fits_signed (pos n) f in omega (arith, ints)
measured_word High n f = let h = fits_signed (pos n) f in omega (arith, ints)

pub measured_fits : (m : Measure) (n : ℕ) → is_int_number (pos n) ≡ true → is_int_number (measured m n) ≡ true
measured_fits Len n f = f
measured_fits High n f = let h = fits_signed (pos n) f in signed_fits (measured High n) (omega (arith, ints))

module _ (x : Basis) (g : Both) (line : BlockLine) (rest : List BlockLine) (y : IsGood x (starts g line rest)) where
  abbrev count_at_location : ℕ → ℕ
  count_at_location from = count_in (entry_at x.table (location (around x.table x.blocks (body_of g)) from).ty)

  pub measured_settles : (to : ℕ) (m : Measure) (from : ℕ) (there : Where) (r : RowAt x g line rest y from there)
      → is_seen g.world (location_at g.call.temps there) ≡ true → Getting x g line rest y to (measured m r.count)
      → code_here x g line rest y ≡ measure_code (around x.table x.blocks (body_of g))
      (has_handle (entry_at x.table (location (around x.table x.blocks (body_of g)) from).ty))
      m (variable x g line rest y to) (location (around x.table x.blocks (body_of g)) from) (code_next x g line rest y)
      → Settles x (starts g line rest) rest
      (Passes (Answers [] 1 (with_value to g.call.temps (Number (measured m (length_of (load g.world (location_at g.call.temps there)))))) g.world))
  measured_settles to m from there r seen n code =
      let z : ℤ = measured m r.count in
      let is : measure_word m (count_at_location from) ≡ word z = ap (measure_word m) r.count_is ∙ measured_word m r.count r.fits in
      let lines : Constant (variable x g line rest y to) (word z) ∷ code_next x g line rest y ≡ code_here x g line rest y
      = sym (code ∙ ap (λ b. measure_code (around x.table x.blocks (body_of g)) b m (variable x g line rest y to)
      (location (around x.table x.blocks (body_of g)) from) (code_next x g line rest y)) r.no_handle
      ∙ ap (λ k. Constant (variable x g line rest y to) k ∷ code_next x g line rest y) is) in
      subst (λ k. Settles x (starts g line rest) rest (Passes (Answers [] 1 (with_value to g.call.temps (Number (measured m k))) g.world))) (sym (r.long seen))
      (gives_settles x g line rest y to z 1 (omega arith) n
      (subst (λ l. Given x.live (all_procs x) (within x.table x.blocks g) g.memory g.words l g.call.vars (variable x g line rest y to) (word z)
      (code_next x g line rest y)) lines (constant_given x g line rest y to z n)))

module _ (x : Basis) (labels : LabelsLead x) (g : Both) (rest : List BlockLine) where
  -- of an array, whatever its elements have
  pub length_bits : (to from : ℕ) → IsPlain x g.call.site (of_value to) → (IsNamed g.call.site (of_location from) → IsHomed x g.call.site from)
      → (IsNamed g.call.site (of_location from) → no_handle (looked x.table g.call.site (of_location from)) ≡ true)
      → BitsHere x g rest (plain (L.Length to from))
  length_bits to from plain_to homed row_like y =
      let line = plain (L.Length to from) in
      let kinds = and_parts (is_int (kind_at x g line rest y to)) (has_length (kind_if (facts_in x.table) (type_in x is_location (body_of g) from)))
      (fits_here x.table x.blocks (body_of g) line rest y.stands) in
      using_settles x (starts g line rest) rest (g.call.temps.places from)
      (λ there. gives (scene_of (high x.table x.blocks (starts g line rest))) to
      (costs 1 (length_at (location_at g.call.temps there) >>= (λ n. give (Number (pos n))))))
      (λ there e. let r = row_with x g line rest y from there kinds.1 homed row_like e in
      where_there x (starts g line rest) rest (is_seen g.world (location_at g.call.temps there))
      (λ b. gives (scene_of (high x.table x.blocks (starts g line rest))) to
      (costs 1 (unless_gone b (give (length_of (load g.world (location_at g.call.temps there)))) >>= (λ n. give (Number (pos n)))))) (λ before. tt)
      (λ seen. measured_settles x g line rest y to Len from there r seen (int_target x g line rest y to refl refl plain_to kinds.0 (pos r.count) r.fits) refl))

  pub length_line : (to from : ℕ) → FollowedHere x labels g rest (L.Length to from)
  length_line to from names y =
      length_bits to from names.0 (λ n. homed_plain x g.call.site from y.linked.0 n names.1.0)
      (λ n. numbers_no_handle (looked x.table g.call.site (of_location from)) (location_of_numbers x g.call.site from y.linked.0 n names.1.0)) y

  pub measure_line : (m : Measure) (to : ℕ) (how : UseAt) (ty a : Option ℕ) (from : ℕ)
      → RowHere x g rest to (O.Measure m) how ty (a ∷ []) (F.Place from ∷ [])
  measure_line m to how ty a from names y =
      let line = plain (L.Apply to (O.Measure m) how ty (a ∷ []) (F.Place from ∷ [])) in
      let fit = applies x g rest to (O.Measure m) how ty (a ∷ []) (F.Place from ∷ []) names y in
      let kinds = and_parts (is_int (kind_if (facts_in x.table) (if_type (known x).types ty))) (has_length
      (kind_if (facts_in x.table) (if_type (known x).types a))) fit.row in
      let s = some_kind (facts_in x.table) (if_type (known x).types ty) is_int refl kinds.0 in
      let typed = value_type_by (value_type x g line rest y to) (if_type (known x).types ty) s.0 fit.given s.1 in
      let t = target x g line rest y to s.0 refl refl typed names.0 in
      let v = same_type (type_in x is_location (body_of g) from) (if_type (known x).types a)
      (and_parts (same_value (type_in x is_location (body_of g) from) (if_type (known x).types a)) true fit.typed).0 in
      let long = subst (λ o. has_length (kind_if (facts_in x.table) o) ≡ true) (sym v) kinds.1 in
      mapped_settles x (starts g line rest) rest (g.call.temps.places from) (λ place. At (location_at g.call.temps place))
      (λ u. gives (scene_of (high x.table x.blocks (starts g line rest))) to
      (costs 1 (sees (location_of u) (λ world v. give (Number (measured m (length_of v)))))
      >>= kept_if (gives_hooked (facts_in x.table) (if_type (known x).types ty)) (bound_for g how)))
      (λ there e. let r = row_at x g line rest y from there long names.1.0 e in
      subst (λ b. Settles x (starts g line rest) rest (gives (scene_of (high x.table x.blocks (starts g line rest))) to
      (costs 1 (sees (location_at g.call.temps there) (λ world v. give (Number (measured m (length_of v)))))
      >>= kept_if b (bound_for g how)))) (sym (ap (gives_hooked (facts_in x.table)) s.1 ∙ t.unhooked))
      (where_there x (starts g line rest) rest (is_seen g.world (location_at g.call.temps there))
      (λ b. gives (scene_of (high x.table x.blocks (starts g line rest))) to
      (costs 1 (unless_gone b (give (Number (measured m (length_of (load g.world (location_at g.call.temps there)))))))
      >>= kept_if false (bound_for g how))) (λ before. tt)
      (λ seen. measured_settles x g line rest y to m from there r seen
      (getting x g line rest y to s.0 None (measured m r.count) t (int_shape (facts_in x.table) s.0 s.2) (measured_fits m r.count r.fits)) refl)))

-- ---- a length that a loop checks

pub turned : (a b : ℤ) → int_eq a b ≡ int_eq b a
turned a b = same_from_decides (int_eq a b) (int_eq b a) (Decides-int_eq a b)
    (λ e. sym ((Decides-int_eq b a).0 e), λ e. (Decides-int_eq b a).1 (sym e))

module _ (x : Basis) (traps : TrapsStop x) (labels : LabelsLead x) (g : Both) (rest : List BlockLine) (from len : ℕ) where
  abbrev still_here : BlockLine
  still_here = plain (L.Still from len)

  abbrev Still_does : (y : IsGood x (starts g still_here rest)) → Bool → Type 0
  Still_does y b = Settles x (starts g still_here rest) rest
      (acts (scene_of (high x.table x.blocks (starts g still_here rest))) (costs 1 (deeds.branch b (give nothing) (stop LengthChanged))))

  module _ (y : IsGood x (starts g still_here rest)) (there : Where) (r : RowAt x g still_here rest y from there) (w : Value) (o : Operand x g.call len w)
    where
      abbrev k : List WordInstr
      k = code_next x g still_here rest y

      abbrev behind_count : List WordInstr
      behind_count = Branch test.Unequal (variable x g still_here rest y len) FIRST (trap_label LengthChanged) ∷ k

      code_is : Constant FIRST r.count ∷ behind_count ≡ code_here x g still_here rest y
      code_is =
          ap (λ n. Constant FIRST n ∷ behind_count) (sym r.count_is)
          ∙ ap (λ b. measure_code (around x.table x.blocks (body_of g)) b Len FIRST (location (around x.table x.blocks (body_of g)) from) behind_count)
          (sym r.no_handle)

      small : r.count < 2 ^ 32
      small = let h = fits_signed (pos r.count) r.fits in omega (arith, ints)

      reads : put g.call.vars FIRST r.count (variable x g still_here rest y len) ≡ Some (word (number_of w))
      reads = put_low g.call.vars FIRST r.count (variable x g still_here rest y len) (omega arith) o.high ∙ o.word_is

      test_is : (word (number_of w) == r.count) ≡ int_eq (pos r.count) (number_of w)
      test_is =
          let c : r.count ≡ word (pos r.count) = (let h = fits_signed (pos r.count) r.fits in omega (arith, ints)) in
          ap (λ n. word (number_of w) == n) c ∙ equal_is (number_of w) (pos r.count) o.fits r.fits ∙ turned (number_of w) (pos r.count)

      stays : Leads x.live (all_procs x) (within x.table x.blocks g) g.memory g.words k (put g.call.vars FIRST r.count) k 0
      stays = record {
        vars = put g.call.vars FIRST r.count;
        same = all_same (put g.call.vars FIRST r.count);
        runs = none (lower x) (at (within x.table x.blocks g) g.memory k (put g.call.vars FIRST r.count) g.words);
      }

      passes : int_eq (pos r.count) (number_of w) ≡ true → Comes x g still_here rest y k
      passes h = subst (λ l. Led x.live (all_procs x) (within x.table x.blocks g) g.memory g.words l g.call.vars k) code_is (record {
        steps = 1 + (1 + 0);
        some = omega arith;
        few = omega arith;
        leads = leads_constant x.live (all_procs x) (within x.table x.blocks g) g.memory g.words behind_count k g.call.vars (1 + 0) FIRST r.count
            (omega arith) (omega arith)
            (leads_past x.live (all_procs x) (within x.table x.blocks g) g.memory g.words k k (put g.call.vars FIRST r.count) 0 test.Unequal
            (variable x g still_here rest y len) FIRST (trap_label LengthChanged) (word (number_of w)) r.count reads (got r.count small)
            (ap not (test_is ∙ h)) stays);
      })

      leads_away : int_eq (pos r.count) (number_of w) ≡ false → (there : List WordInstr)
          → from_label (trap_label LengthChanged) (word_of x.table x.blocks (body_of g)).lines ≡ Some there → Comes x g still_here rest y there
      leads_away h there stands = subst (λ l. Led x.live (all_procs x) (within x.table x.blocks g) g.memory g.words l g.call.vars there) code_is (record {
        steps = 1 + 1;
        some = omega arith;
        few = omega arith;
        leads = leads_constant x.live (all_procs x) (within x.table x.blocks g) g.memory g.words behind_count there g.call.vars 1 FIRST r.count
            (omega arith) (omega arith)
            (leads_off x.live (all_procs x) (within x.table x.blocks g) g.memory g.words k there (put g.call.vars FIRST r.count) test.Unequal
            (variable x g still_here rest y len) FIRST (trap_label LengthChanged) (word (number_of w)) r.count reads (got r.count small)
            (ap not (test_is ∙ h)) stands);
      })

      still_by : (b : Bool) → int_eq (pos r.count) (number_of w) ≡ b → Still_does y b
      still_by true h = passes_settles x g still_here rest y g.call.temps (same_temps x g still_here rest y) 1 (omega arith) (passes h)
      still_by false h =
          subst (λ d. Settles x (starts g still_here rest) rest d)
          (ap (λ es. Passes (Finishes es (1 + length (line_of (trap_text LengthChanged))) 1 g.world))
          (sym (append-nil (writes Err (line_of (trap_text LengthChanged))))))
          (trap_settles x g still_here rest y traps LengthChanged 1 (omega arith)
          (λ l. subst (λ b. any_branches (trap_label LengthChanged) (measure_code (around x.table x.blocks (body_of g)) b Len FIRST
          (location (around x.table x.blocks (body_of g)) from) (Branch test.Unequal (variable x g still_here rest y len) FIRST (trap_label LengthChanged) ∷ l))
          ≡ true) (sym r.no_handle) refl) (leads_away h))

  pub still_bits : (IsNamed g.call.site (of_location from) → IsHomed x g.call.site from)
      → (IsNamed g.call.site (of_location from) → no_handle (looked x.table g.call.site (of_location from)) ≡ true) → BitsHere x g rest still_here
  still_bits homed row_like y =
      let kinds = and_parts (has_length (kind_if (facts_in x.table) (type_in x is_location (body_of g) from))) (is_int (kind_at x g still_here rest y len))
      (fits_here x.table x.blocks (body_of g) still_here rest y.stands) in
      using_settles x (starts g still_here rest) rest (g.call.temps.places from)
      (λ there. using_number g.call.temps len (λ n. acts (scene_of (high x.table x.blocks (starts g still_here rest)))
      (costs 1 (still (location_at g.call.temps there) n))))
      (λ there e. using_settles x (starts g still_here rest) rest (g.call.temps.values len)
      (λ w. acts (scene_of (high x.table x.blocks (starts g still_here rest))) (costs 1 (still (location_at g.call.temps there) (number_of w))))
      (λ w f. let r = row_with x g still_here rest y from there kinds.0 homed row_like e in
      where_there x (starts g still_here rest) rest (is_seen g.world (location_at g.call.temps there))
      (λ b. acts (scene_of (high x.table x.blocks (starts g still_here rest))) (costs 1 (unless_gone b
      (deeds.branch (int_eq (pos (length_of (load g.world (location_at g.call.temps there)))) (number_of w)) (give nothing) (stop LengthChanged)))))
      (λ before. tt)
      (λ seen. subst (λ n. Still_does y (int_eq (pos n) (number_of w))) (sym (r.long seen))
      (still_by y there r w (int_read x g still_here rest y len w kinds.1 f) (int_eq (pos r.count) (number_of w)) refl))))

  pub still_line : FollowedHere x labels g rest (L.Still from len)
  still_line names y =
      still_bits (λ n. homed_plain x g.call.site from y.linked.0 n names.0)
      (λ n. numbers_no_handle (looked x.table g.call.site (of_location from)) (location_of_numbers x g.call.site from y.linked.0 n names.0)) y

-- ---- the row, whatever stands in the line

module _ (x : Basis) (labels : LabelsLead x) (g : Both) (rest : List BlockLine) where
  pub measure_row : (m : Measure) (to : ℕ) (how : UseAt) (ty : Option ℕ) (of : List (Option ℕ)) (from : List From)
      → RowHere x g rest to (O.Measure m) how ty of from
  measure_row m to how ty (a ∷ []) (F.Place from ∷ []) names y = measure_line x labels g rest m to how ty a from names y
  measure_row m to how ty [] from names y = never (applies x g rest to (O.Measure m) how ty [] from names y).row
  measure_row m to how ty (a ∷ b ∷ of) from names y = never (applies x g rest to (O.Measure m) how ty (a ∷ b ∷ of) from names y).row
  measure_row m to how ty (a ∷ []) [] names y = never (applies x g rest to (O.Measure m) how ty (a ∷ []) [] names y).typed
  measure_row m to how ty (a ∷ []) (F.Value t ∷ others) names y = never (applies x g rest to (O.Measure m) how ty (a ∷ []) (F.Value t ∷ others) names y).placed
  measure_row m to how ty (a ∷ []) (F.Place from ∷ other ∷ others) names y =
      never (and_parts (same_value (type_in x is_location (body_of g) from) (if_type (known x).types a)) false
      (applies x g rest to (O.Measure m) how ty (a ∷ []) (F.Place from ∷ other ∷ others) names y).typed).1

-- Places that get what their type starts at: zeros.
use Rattle.std.proofs.Common.{◌≡◌, inl, ℕ, ◌+◌, List, Some, pos, true, false, refl, sym, ap, ap₂, subst, ◌∙◌, arith, None, Option, ◌∷◌, []}
use Rattle.nim_types.specs.Table.{type_at, facts_in}
use Rattle.nim_types.specs.Forms.{form_of}
use Rattle.nim_meaning.specs.Values.{Value, Number, Parts, bytes, default_of, Fixed, Gone, Handle, Ref, Resource, Vacant, nothing}
use Rattle.nim_program.specs.declared.operation.Operation.TheVariants as O
use Rattle.flat_code.specs.declared.block.BlockLine.{BlockLine}
use Rattle.flat_code.specs.declared.line.Line.TheVariants as L
use Rattle.word_code.specs.declared.word.WordInstr.{WordInstr}
use Rattle.word_code.specs.Words.{put}
use Rattle.flat_code.specs.Shapes.{has_shape, shape_of}
use Rattle.flat_code.specs.Fits.{is_own}
use Rattle.word_lowering.proofs.ShapeFacts.{never, values_of_numbers, of_numbers}
use Rattle.word_code.proofs.ForCallers.{run_constant}
use Rattle.word_lowering.specs.declared.spots.Spot.TheVariants.{Lies}
use Rattle.word_lowering.specs.declared.texts.TheConstants.{FIXED_BYTES}
use Rattle.word_lowering.specs.Layouts.{holds_address}
use Rattle.word_lowering.specs.Spots.{spot_of, cleared, clears, starts as started}
use Rattle.word_lowering.specs.Operations.{word}
use Rattle.word_lowering.proofs.Options.{some_same}
use Rattle.word_lowering.proofs.InMemory.{AllZero, blank_zero, bytes_some}
use Rattle.word_lowering.proofs.OrdinalRuns.{put_here, but_one}
use Rattle.word_lowering.proofs.Moves.{is_single, single_word, all_same, ToVariable, ToMemory, zero_to_memory, zeros_to_memory, starts_there}
use Rattle.word_lowering.proofs.Sites.{room, Housing, in_variable, by_address, in_places, in_data, InMemory, data_end}
use Rattle.word_lowering.proofs.Scenes.{address_of, Name, of_value, of_place, house, IsThere, looked}
use Rattle.word_lowering.proofs.SitesApart.{houses}
use Rattle.word_lowering.proofs.Keeping.{spot_memory, spot_held, points_there}
use Rattle.word_lowering.proofs.Related.{Both, body_of, within, routines, high}
use Rattle.word_lowering.proofs.Lines.{Basis, all_procs, reaches, data_there, fits_here, starts, IsGood, known, all_sites, Settles, bound_for}
use Rattle.word_lowering.proofs.ValueFacts.{value_plain, type_in, IsPlain}
use Rattle.word_lowering.proofs.ControlLines.{plain, value_type}
use Rattle.word_lowering.proofs.Sources.{lying_all, lying_area, lying_near, size_is, word_is, more_steps}
use Rattle.word_lowering.proofs.Gets.{Gets, gets_word, gets_bytes, value_settles, nothing_temps}
use Rattle.flat_code.specs.Lines.{gives}
use Rattle.flat_code.specs.Running.{scene_of}
use Rattle.flat_code.specs.declared.line.From.{From}
use Rattle.nim_meaning.specs.Deeds.{costs, give, ◌>>=◌}
use Rattle.nim_meaning.specs.Places.{kept_if}
use Rattle.flat_code.specs.declared.line.UseAt.{UseAt}
use Rattle.nim_types.specs.Types.{Ty}
use Rattle.word_lowering.proofs.ApplyFits.{applies, RowHere}
use Rattle.word_lowering.proofs.LineFits.{are_of, no_type}
use Rattle.word_lowering.proofs.MovedLines.{own_place, own_plain, place_settles}
use Rattle.word_lowering.proofs.OperandLines.{value_type_by}
use Rattle.word_lowering.proofs.Settling.{LabelsLead, code_next, code_here, silent_settles}
use Rattle.word_lowering.proofs.Targets.{target, no_target, unnamed_value}
use Rattle.flat_code.specs.Scene.{with_value}
use Rattle.flat_code.specs.Codes.{block_does}

module _ (x : Basis) (g : Both) (line : BlockLine) (rest : List BlockLine) (y : IsGood x (starts g line rest)) where
  -- zeros in memory
  pub zeros_by : (f : Name) (there : IsThere g.call.site f) (inside : InMemory (house g.call.site f).home) (v : Value) → AllZero v
      → (house g.call.site f).bytes ≡ bytes v
      → (k : List WordInstr)
      → ToMemory x.law x.live (all_procs x) (within x.table x.blocks g) refl g.words g.memory
      (cleared (is_single v) (bytes v) (Lies (house g.call.site f).home) k) g.call.vars
      (address_of g.call.site.base (house g.call.site f).home) v (9 + bytes v) k
  zeros_by f there inside (Number z) zero_value size k =
      let lying = lying_all x (all_sites x g line rest y) y.linked g.call.site f 4 (inl refl) there inside size in
      let area = lying_area x (all_sites x g line rest y) y.linked g.memory (address_of g.call.site.base (house g.call.site f).home) 4 y.memory lying 1
      (omega arith) in
      let near = lying_near x (all_sites x g line rest y) y.linked (address_of g.call.site.base (house g.call.site f).home) 4 lying in
      subst (λ u. ToMemory x.law x.live (all_procs x) (within x.table x.blocks g) refl g.words g.memory
      (cleared true 4 (Lies (house g.call.site f).home) k) g.call.vars
      (address_of g.call.site.base (house g.call.site f).home) (Number u) 13 k) (sym zero_value)
      (more_steps x (all_sites x g line rest y) y.linked (within x.table x.blocks g) refl g.words g.memory y.memory k g.call.vars
      (cleared true 4 (Lies (house g.call.site f).home) k)
      (address_of g.call.site.base (house g.call.site f).home) 4 13 (Number (pos 0)) (omega arith)
      (zero_to_memory x.law x.live (all_procs x) (within x.table x.blocks g) refl g.words g.memory y.memory.sized k g.call.vars
      (house g.call.site f).home
      (address_of g.call.site.base (house g.call.site f).home) (points_there g.call.site.base g.call.vars (house g.call.site f).home inside) 4 area.0
      (omega (arith, near))))
  zeros_by f there inside (Handle n b) zero_value size k = absurd zero_value
  zeros_by f there inside (Fixed text) zero_value size k = absurd zero_value
  zeros_by f there inside (Ref object) zero_value size k = absurd zero_value
  zeros_by f there inside (Resource all n) zero_value size k = absurd zero_value
  zeros_by f there inside (Gone value final) zero_value size k = absurd zero_value
  zeros_by f there inside Vacant zero_value size k = absurd zero_value
  zeros_by f there inside (Parts vs) zero_value size k =
      let lying = lying_all x (all_sites x g line rest y) y.linked g.call.site f (bytes (Parts vs)) (inl refl) there inside size in
      zeros_to_memory x.law x.live (all_procs x) (within x.table x.blocks g) refl g.words g.memory y.memory.sized k g.call.vars
      (house g.call.site f).home
      (address_of g.call.site.base (house g.call.site f).home) (points_there g.call.site.base g.call.vars (house g.call.site f).home inside)
      (routines x.table x.blocks) x.runtimes.others.statics (reaches x) (data_there x (all_sites x g line rest y) g.memory y.memory) vs zero_value
      (lying_area x (all_sites x g line rest y) y.linked g.memory (address_of g.call.site.base (house g.call.site f).home) (bytes (Parts vs)) y.memory lying)
      (lying_near x (all_sites x g line rest y) y.linked (address_of g.call.site.base (house g.call.site f).home) (bytes (Parts vs)) lying)

  zero_word : (v : Value) → AllZero v → is_single v ≡ true → single_word v ≡ 0
  zero_word (Number z) zero_value h = ap word zero_value
  zero_word (Parts vs) zero_value h = never h
  zero_word (Handle n b) zero_value h = absurd zero_value
  zero_word (Fixed text) zero_value h = absurd zero_value
  zero_word (Ref object) zero_value h = absurd zero_value
  zero_word (Resource all n) zero_value h = absurd zero_value
  zero_word (Gone value final) zero_value h = absurd zero_value
  zero_word Vacant zero_value h = absurd zero_value

  pub gets_cleared : (f : Name) → IsThere g.call.site f → holds_address (house g.call.site f) ≡ false → (v : Value)
      → of_numbers (looked x.table g.call.site f) ≡ true → has_shape v (looked x.table g.call.site f) ≡ true → AllZero v → (k : List WordInstr) →
      Gets x g line rest y
      (clears (house g.call.site f) k) k f v (9 + bytes v)
  gets_cleared f there plain v numbers shaped zero_value k = by (houses x.table x.blocks g.call.site f y.linked.0 there).where_is
    where
      size : (house g.call.site f).bytes ≡ bytes v
      size = size_is x (all_sites x g line rest y) y.linked g.call (inl refl) f there plain v numbers shaped

      single : (house g.call.site f).is_word ≡ is_single v
      single = word_is x (all_sites x g line rest y) y.linked g.call (inl refl) f there plain v numbers shaped

      bytes_in : InMemory (house g.call.site f).home → Gets x g line rest y (clears (house g.call.site f) k) k f v (9 + bytes v)
      bytes_in inside = gets_bytes x g line rest y f there plain v numbers shaped (clears (house g.call.site f) k) k (9 + bytes v) inside
          (subst (λ l. ToMemory x.law x.live (all_procs x) (within x.table x.blocks g) refl g.words g.memory l g.call.vars
          (address_of g.call.site.base (house g.call.site f).home) v (9 + bytes v) k)
          (sym (ap₂ (λ a b. cleared a b (spot_of (house g.call.site f)) k) single size ∙ ap (λ p. cleared (is_single v) (bytes v) p k)
          (spot_memory (house g.call.site f) plain inside)))
          (zeros_by f there inside v zero_value size k))

      more : Gets x g line rest y (clears (house g.call.site f) k) k f v 2 → Gets x g line rest y (clears (house g.call.site f) k) k f v (9 + bytes v)
      more r = record {
        vars = r.vars;
        memory = r.memory;
        words = r.words;
        awaits = r.awaits;
        good = r.good;
        heap = r.heap;
        edit = r.edit;
        variables = r.variables;
        left = r.left;
        at_place = r.at_place;
        steps = r.steps;
        some = r.some;
        few = (let h = r.few in omega (arith, h));
        runs = r.runs;
      }

      by : Housing (room (body_of g)) FIXED_BYTES (data_end x.table x.blocks) (body_of g).start (house g.call.site f) → Gets x g line rest y
          (clears (house g.call.site f) k) k f v (9 + bytes v)
      by (in_variable t e p low is_word) = more (gets_word x g line rest y f there plain v numbers shaped (clears (house g.call.site f) k) k t e
          (subst (λ l. ToVariable x.law x.live (all_procs x) (within x.table x.blocks g) refl g.words g.memory l g.call.vars t v k)
          (sym (ap (λ q. cleared (house g.call.site f).is_word (house g.call.site f).bytes q k) (spot_held (house g.call.site f) t p e))) (record {
            vars = put g.call.vars t 0;
            given = put_here g.call.vars t 0 (omega arith) ∙ ap Some (sym (zero_word v zero_value (sym single ∙ is_word)));
            but = but_one g.call.vars g.call.vars t 0 low (all_same g.call.vars);
            steps = 1;
            some = omega arith;
            few = omega arith;
            runs = run_constant x.live (all_procs x) (within x.table x.blocks g) g.memory k g.call.vars g.words t 0;
          })))
      by (by_address t e address low) = never (sym plain ∙ address)
      by (in_places n e p whole within) = bytes_in (subst InMemory (sym e) tt)
      by (in_data n e p whole low within start) = bytes_in (subst InMemory (sym e) tt)

-- ---- lines

module _ (x : Basis) (labels : LabelsLead x) (g : Both) (rest : List BlockLine) where
  abbrev start_of : ℕ → Ty
  start_of ty = type_at (known x).types ty

  -- of a type without hooks
  pub blank_numbers : (n ty : ℕ) → IsPlain x g.call.site (of_place n) → (y : IsGood x (starts g (plain (L.Blank n ty)) rest))
      → Settles x (starts g (plain (L.Blank n ty)) rest) rest
      (block_does (known x) (scene_of (high x.table x.blocks (starts g (plain (L.Blank n ty)) rest))) (plain (L.Blank n ty)))
  blank_numbers n ty plain_place y =
      let line = plain (L.Blank n ty) in
      let v : Value = default_of (facts_in x.table) (start_of ty) in
      let f = are_of (type_in x is_own (body_of g) n) (Some (start_of ty)) (fits_here x.table x.blocks (body_of g) line rest y.stands) in
      let same : start_of ty ≡ f.ty = some_same (start_of ty) f.ty f.is_other in
      let o = own_place x g line rest y n (start_of ty) (f.is ∙ ap Some (sym same)) plain_place in
      let look : has_shape v (looked x.table g.call.site (of_place n)) ≡ true = subst (λ s. has_shape v s ≡ true) (sym o.look) (x.defaults ty) in
      let next = code_next x g line rest y in
      let r = gets_cleared x g line rest y (of_place n) o.there (own_plain (house g.call.site (of_place n)) o.own) v o.here look
      (blank_zero (form_of (facts_in x.table) (start_of ty)) o.unhooked) next in
      place_settles x g line rest y n (start_of ty) v (9 + bytes v) (1 + (bytes v + 0)) o (x.defaults ty)
      (subst (λ h. Gets x g line rest y (clears h next) next (of_place n) v (9 + bytes v)) (sym o.same) r) (omega arith)

  -- an operation that gives the default of its type
  pub default_line : (to : ℕ) (how : UseAt) (ty : Option ℕ) (from : List From) → RowHere x g rest to O.Default how ty [] from
  default_line to how (Some ty) [] names y =
      let line = plain (L.Apply to O.Default how (Some ty) [] []) in
      let fit = applies x g rest to O.Default how (Some ty) [] [] names y in
      let v : Value = default_of (facts_in x.table) (start_of ty) in
      let typed = value_type_by (value_type x g line rest y to) (Some (start_of ty)) (start_of ty) fit.given refl in
      let t = target x g line rest y to (start_of ty) refl refl typed names.0 in
      let look : has_shape v (looked x.table g.call.site (of_value to)) ≡ true = subst (λ s. has_shape v s ≡ true) (sym t.look) (x.defaults ty) in
      let some = bytes_some v (values_of_numbers v (shape_of (facts_in x.table) (start_of ty)) t.numbers (x.defaults ty)) in
      let size = size_is x (all_sites x g line rest y) y.linked g.call (inl refl) (of_value to) t.there
      (value_plain (house g.call.site (of_value to)) t.there.kind) v t.here look in
      let code : code_here x g line rest y ≡ clears (house g.call.site (of_value to)) (code_next x g line rest y)
      = starts_there (house g.call.site (of_value to)).bytes (house g.call.site (of_value to)) (code_next x g line rest y) (omega (arith, some, size)) in
      subst (λ b. Settles x (starts g line rest) rest (gives (scene_of (high x.table x.blocks (starts g line rest))) to
      (costs 1 (costs (bytes v) (give v)) >>= kept_if b (bound_for g how)))) (sym t.unhooked)
      (value_settles x g line rest y to v (9 + bytes v) (1 + (bytes v + 0)) t.there t.here look
      (subst (λ l. Gets x g line rest y l (code_next x g line rest y) (of_value to) v (9 + bytes v)) (sym code)
      (gets_cleared x g line rest y (of_value to) t.there (value_plain (house g.call.site (of_value to)) t.there.kind) v t.here look
      (blank_zero (form_of (facts_in x.table) (start_of ty)) t.unhooked) (code_next x g line rest y))) (omega arith))
  default_line to how None [] names y =
      let line = plain (L.Apply to O.Default how None [] []) in
      let fit = applies x g rest to O.Default how None [] [] names y in
      let none = no_type (value_type x g line rest y to) fit.given in
      silent_settles x g line rest y (with_value to g.call.temps nothing)
      (nothing_temps x g line rest y to nothing (no_target x g line rest y to none)) (1 + (bytes nothing + 0))
      (ap (λ h. started h.bytes h (code_next x g line rest y)) (unnamed_value x g line rest y to none))
  default_line to how ty (from ∷ others) names y = never (applies x g rest to O.Default how ty [] (from ∷ others) names y).typed

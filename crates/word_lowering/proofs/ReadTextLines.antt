-- A line of the input is read into the text at a location: the line is followed.
use Rattle.std.proofs.Common.{◌≡◌, ◌⊎◌, inl, inr, ℕ, List, [], ◌∷◌, Option, Some, None, Bool, true, false, refl, sym, ap, subst, ◌∙◌, arith}
use Rattle.std.proofs.lemmas.Bool.{and_parts}
use Rattle.nim_types.specs.Table.{facts_in, type_at, types_in}
use Rattle.nim_types.specs.Types.{Ty}
use Rattle.nim_program.specs.declared.operation.Operation.TheVariants as O
use Rattle.nim_program.specs.Ints.{truth}
use Rattle.nim_program.specs.Kinds.{is_bool, is_text, kind_if, kind_of}
use Rattle.nim_program.specs.View.{if_type}
use Rattle.nim_meaning.specs.Deeds.{Deed, behind, costs, give, looks, perform, unless_gone, ◌>>=◌}
use Rattle.nim_meaning.specs.OwnedRows.{line_into, line_or_none, owned}
use Rattle.nim_meaning.specs.State.{World, bytes_left, is_seen, load}
use Rattle.nim_meaning.specs.Table.{does}
use Rattle.nim_meaning.specs.Texts.{are_seen}
use Rattle.nim_meaning.specs.Values.{At, Location, Number, Operand, Value, is_handle, location_of}
use Rattle.rv32_isa.specs.Regions.{as_bytes}
use Rattle.heap_memory.specs.LineRoutine.{IsKeptOn}
use Rattle.heap_memory.specs.TextReading.{reads_text}
use Rattle.flat_code.specs.declared.block.BlockLine.{BlockLine}
use Rattle.flat_code.specs.declared.line.From.{From}
use Rattle.flat_code.specs.declared.line.From.TheVariants as F
use Rattle.flat_code.specs.declared.line.UseAt.{UseAt}
use Rattle.flat_code.specs.Fits as fit
use Rattle.flat_code.specs.Lines.{gives}
use Rattle.flat_code.specs.Running.{scene_of}
use Rattle.flat_code.specs.Scene.{Passes, Temps, location_at, with_value}
use Rattle.flat_code.specs.Shapes.{block, has_shape, number, shape_of}
use Rattle.word_code.proofs.ForCallers.{at}
use Rattle.word_code.specs.Joined.{joined}
use Rattle.word_code.specs.Memory.{Memory, own_data_at}
use Rattle.word_code.specs.Words.{Vars, no_words}
use Rattle.word_lowering.specs.declared.homes.Home.{Home as Place}
use Rattle.word_lowering.specs.Lowered.{lowered}
use Rattle.word_lowering.specs.Operands.{location}
use Rattle.word_lowering.specs.Operations.{word}
use Rattle.word_lowering.specs.RoutineCode.{read_code}
use Rattle.word_lowering.proofs.AllOperands.{Have}
use Rattle.word_lowering.proofs.ApplyFits.{apply_line}
use Rattle.word_lowering.proofs.ChangedTexts.{IsHandleOf, handle_of, text_there}
use Rattle.word_lowering.proofs.ControlLines.{value_type}
use Rattle.word_lowering.proofs.DeedFrames.{IsPutSo}
use Rattle.word_lowering.proofs.Gets.{same_temps}
use Rattle.word_lowering.proofs.GoodHomes.{HomeOf, good_homes, homes_apart}
use Rattle.word_lowering.proofs.GoodLeads.{owned_to}
use Rattle.word_lowering.proofs.GoodRows.{later_ground_of}
use Rattle.word_lowering.proofs.HandleLines.{HandleThere, block_is, can_have, handle_is, mine}
use Rattle.word_lowering.proofs.JoinedTypes.{text_looks}
use Rattle.word_lowering.proofs.JoinedRoutines.{joined_again}
use Rattle.word_lowering.proofs.LineFits.{bool_shape, some_kind}
use Rattle.word_lowering.proofs.LineReadRuns.{LineRead, read_runs}
use Rattle.word_lowering.proofs.Lines.{Basis, IsGood, Settles, all_procs, changed, changed_later, known, stands_next, starts}
use Rattle.word_lowering.proofs.Moves.{all_same}
use Rattle.word_lowering.proofs.NewLines.{value_deed}
use Rattle.word_lowering.proofs.NumberLines.{high_target, variable}
use Rattle.word_lowering.proofs.OperandLines.{truth_shaped, value_type_by}
use Rattle.word_lowering.proofs.OperandTexts.{at_place, typed_parts}
use Rattle.word_lowering.proofs.OrdinalRuns.{AllBut}
use Rattle.word_lowering.proofs.OwnedFits.{FitsRow, OwnedRow, fits_row}
use Rattle.word_lowering.proofs.Related.{Both, body_of, high, low, sites_of, within}
use Rattle.word_lowering.proofs.RowGood.{IsLeftHere, good_put_at}
use Rattle.word_lowering.proofs.RowRuns.{RowDoes}
use Rattle.word_lowering.proofs.RowSettles.{LeavesGood, row_settles}
use Rattle.word_lowering.proofs.Scenes.{Ground, is_fixed, looked, of_value}
use Rattle.word_lowering.proofs.Settling.{Getting, code_here, code_next}
use Rattle.word_lowering.proofs.ShapeFacts.{never, number_numbers}
use Rattle.word_lowering.proofs.Sites.{around, globals_of, is_one_word, sigs}
use Rattle.word_lowering.proofs.Targets.{given}
use Rattle.word_lowering.proofs.TextRowRuns.{TEXT_SPARE}
use Rattle.word_lowering.proofs.Told.{good_told, told_none}
use Rattle.word_lowering.proofs.ValueFacts.{good_word}
use Rattle.word_lowering.proofs.WrittenLines.{Writing}

-- the runtime's routine keeps what it promises, whatever the program is joined with
reading_kept : (x : Basis) (input : List ℕ) → IsKeptOn x.live (all_procs x) input (reads_text own_data_at (as_bytes input))
reading_kept x input =
    subst (λ c. IsKeptOn x.live c.procs input (reads_text own_data_at (as_bytes input)))
    (sym (joined_again x.runtimes.heap (lowered x.table x.blocks) x.runtimes.others))
    (x.runtimes.is_heap.reads_texts x.live (joined (lowered x.table x.blocks) x.runtimes.others) input)

module _ (x : Basis) (said : Writing x) (g : Both) (line : BlockLine) (rest : List BlockLine) (y : IsGood x (starts g line rest)) (l : Location) (n : ℕ)
    (k : Option ℕ) (home : Place) (q : HandleThere x g line rest y y.memory.bytes l n k home) (to : ℕ)
    (getting : (told : Bool) → Getting x g line rest y to (truth told))
    (code : code_here x g line rest y ≡ read_code (variable x g line rest y to) home (code_next x g line rest y)) where
  abbrev here : Both
  here = starts g line rest

  abbrev goes : ℕ
  goes = variable x g line rest y to

  abbrev Behind : Value → World → Memory → Vars → Type 0
  Behind v after other vars =
      LineRead (is_fixed g.ground) (HomeOf x here) (homes_apart x here y) x.law x.live (all_procs x) (reading_kept x) (within x.table x.blocks g) refl
      g.ground.blocks g.world (sym y.input) g.memory (good_homes x here y) y.memory.bytes (code_next x g line rest y) g.call.vars g.words l q.address n k q.is
      (owned_to x here y l q.address block q.owned) (handle_is x g line rest y y.memory.bytes l n k home q)
      (block_is x g line rest y y.memory.bytes l n k home q) (mine x g line rest y y.memory.bytes l n k home q q.owned)
      (can_have x g line rest y y.memory.bytes l n k home q) home q.at_home goes
      (let h = high_target x g line rest y to (truth true) (getting true) in omega (arith, h)) v after other vars

  row : RowDoes x.live (all_procs x) (within x.table x.blocks g) (code_next x g line rest y) goes TEXT_SPARE Behind (low x.table x.blocks here)
      (perform (line_or_none l (bytes_left g.world)) g.world)
  row =
      subst (λ lines. RowDoes x.live (all_procs x) (within x.table x.blocks g) (code_next x g line rest y) goes TEXT_SPARE Behind
      (at (within x.table x.blocks g) g.memory lines g.call.vars g.words) (perform (line_or_none l (bytes_left g.world)) g.world)) (sym code)
      (read_runs (is_fixed g.ground) (HomeOf x here) (homes_apart x here y) x.law x.live (all_procs x) (reading_kept x) (within x.table x.blocks g) refl
      g.ground.blocks g.world (sym y.input) g.memory (good_homes x here y) y.memory.bytes (code_next x g line rest y) g.call.vars g.words l q.address n k q.is
      (owned_to x here y l q.address block q.owned) (handle_is x g line rest y y.memory.bytes l n k home q)
      (block_is x g line rest y y.memory.bytes l n k home q) (mine x g line rest y y.memory.bytes l n k home q q.owned)
      (can_have x g line rest y y.memory.bytes l n k home q) home q.at_home goes
      (let h = high_target x g line rest y to (truth true) (getting true) in omega (arith, h)))

  abbrev answers : Bool → Temps
  answers told = with_value to g.call.temps (Number (truth told))

  -- nothing has changed
  same_good : (told : Bool) (vars : Vars) → vars goes ≡ Some (word (truth told)) → AllBut g.call.vars goes vars
      → IsGood x (changed_later g rest (answers told) vars g.memory no_words goes g.world g.ground g.world.input)
  same_good told vars gave but =
      let quiet : Both = changed g rest g.call.temps g.call.vars g.memory no_words goes g.world in
      let good : IsGood x (starts (changed g rest g.call.temps g.call.vars g.memory no_words goes g.world) line rest)
      = good_told x said.least g line rest y (line ∷ rest) g.call.temps (same_temps x g line rest y) g.call.vars no_words goes g.memory
      (told_none x said.least (sites_of g) g.memory y.memory) (all_same g.call.vars) y.stands in
      let w = getting told in
      subst (λ i. IsGood x (changed_later g rest (answers told) vars g.memory no_words goes g.world g.ground i)) (sym y.input)
      (good_word x quiet line rest good rest to (Number (truth told)) vars w.there
      (number_numbers (truth told) (looked x.table g.call.site (of_value to)) w.shaped) w.shaped w.one but gave
      (stands_next x.table x.blocks (body_of g) line rest y.stands) goes)

  -- the text has
  put_good : (told : Bool) (after : World) (other : Memory) (vars : Vars) (left : IsLeftHere x g line rest y after other q.address 8) → IsPutSo l g.world after
      → vars goes ≡ Some (word (truth told)) → AllBut g.call.vars goes vars
      → IsGood x (changed_later g rest (answers told) vars other no_words goes after (later_ground_of x g line rest y left.later) after.input)
  put_good told after other vars left put gave but =
      let then : Both
      = changed_later g (line ∷ rest) g.call.temps g.call.vars other no_words goes after (later_ground_of x g line rest y left.later) after.input in
      let good : IsGood x (starts (changed_later g (line ∷ rest) g.call.temps g.call.vars other no_words goes after
      (later_ground_of x g line rest y left.later) after.input) line rest)
      = good_put_at x g line rest y l q.address block refl q.live put.0 after other left put.1 (line ∷ rest) y.stands q.owned g.call.temps
      (same_temps x g line rest y) g.call.vars no_words goes (all_same g.call.vars) in
      let w = getting told in
      good_word x then line rest good rest to (Number (truth told)) vars w.there
      (number_numbers (truth told) (looked x.table g.call.site (of_value to)) w.shaped) w.shaped w.one but gave
      (stands_next x.table x.blocks (body_of g) line rest y.stands) goes

  leaves : LeavesGood x g line rest y goes (λ v. with_value to g.call.temps v) Behind (perform (line_or_none l (bytes_left g.world)) g.world)
  leaves es work v w e other vars z =
      let r = by z.put in (
        r.0,
        subst (λ u. IsGood x (changed_later g rest (with_value to g.call.temps u) vars other no_words goes w r.0 w.input))
            (sym z.value) r.1,
      )
    where
      by : ((w ≡ g.world) × (other ≡ g.memory)) ⊎ IsPutSo l g.world w
          → (ground : Ground) × IsGood x (changed_later g rest (answers z.told) vars other no_words goes w ground w.input)
      by (inl p) = (
        g.ground,
        subst (λ m. IsGood x (changed_later g rest (answers z.told) vars m no_words goes w g.ground w.input)) (sym p.1)
            (subst (λ (u : World). IsGood x (changed_later g rest (answers z.told) vars g.memory no_words goes u g.ground u.input)) (sym p.0)
            (same_good z.told vars z.given z.but)),
      )
      by (inr p) = (later_ground_of x g line rest y z.left.later, put_good z.told w other vars z.left p z.given z.but)

  pub read_settles : Settles x here rest
      (gives (scene_of (high x.table x.blocks here)) to (costs 1 (line_or_none l (bytes_left g.world)) >>= (λ v. give v)))
  read_settles =
      subst (λ done. Settles x here rest (Passes (behind [] 1 done)))
      (sym (value_deed (line_or_none l (bytes_left g.world)) (λ v. with_value to g.call.temps v) g.world))
      (row_settles x g line rest y goes TEXT_SPARE (λ v. with_value to g.call.temps v) Behind (perform (line_or_none l (bytes_left g.world)) g.world)
      leaves row)

-- ---- what nobody owns can't be read into: of that nothing is said

module _ (x : Basis) (g : Both) (line : BlockLine) (rest : List BlockLine) (to : ℕ) (l : Location) where
  abbrev Settled_by : (seen handled : Bool) → Type 0
  Settled_by seen handled = Settles x (starts g line rest) rest (Passes (perform ((costs 1 (unless_gone seen (unless_gone handled
      (line_or_none l (bytes_left g.world)))) >>= (λ v. give v)) >>= (λ v. give (with_value to g.call.temps v))) g.world))

  by_handle : is_seen g.world l ≡ true → (b : Bool) → is_handle (load g.world l) ≡ b → (b ≡ true → Settled_by true true)
      → Settles x (starts g line rest) rest (gives (scene_of (high x.table x.blocks (starts g line rest))) to
      (costs 1 (looks (λ world. line_into l (bytes_left world))) >>= (λ v. give v)))
  by_handle seen true is read =
      subst (Settled_by (is_seen g.world l)) (sym is) (subst (λ b. Settled_by b true) (sym seen) (read refl))
  by_handle seen false is read =
      subst (Settled_by (is_seen g.world l)) (sym is) (subst (λ b. Settled_by b false) (sym seen) (λ before. tt))

-- ---- as a row

module _ (x : Basis) (said : Writing x) (g : Both) (rest : List BlockLine) (to : ℕ) (how : UseAt) where
  abbrev type : ℕ → Ty
  type n = type_at (types_in x.table) n

  module _ (ty : Option ℕ) (a t : ℕ) where
    abbrev reading : BlockLine
    reading = apply_line x g rest to O.ReadLineInto how ty (Some a ∷ []) (F.Place t ∷ [])

    abbrev gives_it : Deed Value → Type 0
    gives_it d = Settles x (starts g reading rest) rest (gives (scene_of (high x.table x.blocks (starts g reading rest))) to (costs 1 d >>= (λ v. give v)))

    read_one : (y : IsGood x (starts g reading rest)) (z : Operand) → Have g.call.temps (F.Place t ∷ []) (z ∷ []) → are_seen g.world (z ∷ []) ≡ true
        → gives_it (owned O.ReadLineInto (facts_in x.table) (if_type (known x).types ty) (Some (type a) ∷ []) (z ∷ [])
        (does O.ReadLineInto (facts_in x.table) (if_type (known x).types ty) (Some (type a) ∷ []) (z ∷ [])))
    read_one y z have seen =
        let p = at_place (g.call.temps.places t) (λ there. At (location_at g.call.temps there)) z have.0 in
        let l : Location = location_at g.call.temps p.there in
        let r : FitsRow x g rest to O.ReadLineInto how ty (Some a ∷ []) (F.Place t ∷ []) y
        = fits_row x g rest to O.ReadLineInto how ty (Some a ∷ []) (F.Place t ∷ []) y in
        let q = and_parts (is_bool (kind_if (facts_in x.table) (if_type (known x).types ty))) (is_text (kind_of (facts_in x.table) (type a))) r.row in
        let t1 = typed_parts x g (F.Place t) (Some (type a)) [] [] r.typed in
        let s1 = and_parts (is_seen g.world (location_of z)) (are_seen g.world []) seen in
        let there_seen : is_seen g.world (location_at g.call.temps p.there) ≡ true
        = subst (λ u. is_seen g.world (location_of u) ≡ true) (sym p.is) s1.0 in
        let may = (and_parts (fit.may_write (known x) (sigs x.table x.blocks) (globals_of x.table x.blocks) (body_of g).proc.places t) true r.written).0 in
        let k0 = some_kind (facts_in x.table) (if_type (known x).types ty) is_bool refl q.0 in
        let typed = value_type_by (value_type x g reading rest y to) (if_type (known x).types ty) k0.0 r.given k0.1 in
        let shape : shape_of (facts_in x.table) k0.0 ≡ number (Some 2) = bool_shape (facts_in x.table) k0.0 k0.2 in
        let into = given x g reading rest y to k0.0 refl refl typed in
        let getting : (told : Bool) → Getting x g reading rest y to (truth told)
        = λ told. record {
          there = into.there;
          one = ap is_one_word (into.look ∙ shape);
          shaped = subst (λ s. has_shape (Number (truth told)) s ≡ true) (sym (into.look ∙ shape)) (truth_shaped told);
        } in
        subst (λ u. gives_it (looks (λ world. line_into (location_of u) (bytes_left world)))) p.is
        (by_handle x g reading rest to l there_seen (is_handle (load g.world l)) refl
        (λ handled.
        let h : IsHandleOf (load g.world l) = handle_of (load g.world l) handled in
        let there = text_there x g reading rest y t (type a) p.there t1.0 (text_looks (facts_in x.table) (type a) q.1) may p.has there_seen h in
        read_settles x said g reading rest y l h.long h.block (location (around x.table x.blocks (body_of g)) t).home there to getting refl))

  pub read_row : (ty : Option ℕ) (of : List (Option ℕ)) (from : List From) → OwnedRow x g rest to how O.ReadLineInto ty of from
  read_row ty [] from y xs have seen = never (fits_row x g rest to O.ReadLineInto how ty [] from y).row
  read_row ty (a ∷ b ∷ of) from y xs have seen = never (fits_row x g rest to O.ReadLineInto how ty (a ∷ b ∷ of) from y).row
  read_row ty (None ∷ []) from y xs have seen =
      never (and_parts (is_bool (kind_if (facts_in x.table) (if_type (known x).types ty))) false
      (fits_row x g rest to O.ReadLineInto how ty (None ∷ []) from y).row).1
  read_row ty (Some a ∷ []) [] y xs have seen = never (fits_row x g rest to O.ReadLineInto how ty (Some a ∷ []) [] y).typed
  read_row ty (Some a ∷ []) (f ∷ h ∷ from) y xs have seen =
      never (typed_parts x g f (Some (type a)) [] (h ∷ from) (fits_row x g rest to O.ReadLineInto how ty (Some a ∷ []) (f ∷ h ∷ from) y).typed).1
  read_row ty (Some a ∷ []) (F.Value t ∷ []) y xs have seen = never (fits_row x g rest to O.ReadLineInto how ty (Some a ∷ []) (F.Value t ∷ []) y).placed
  read_row ty (Some a ∷ []) (F.Place t ∷ []) y [] have seen = absurd have
  read_row ty (Some a ∷ []) (F.Place t ∷ []) y (z ∷ w ∷ xs) have seen = absurd have.1
  read_row ty (Some a ∷ []) (F.Place t ∷ []) y (z ∷ []) have seen = read_one ty a t y z have seen

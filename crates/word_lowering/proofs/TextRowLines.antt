-- Rows of texts as lines, however their operands are given: two are joined or compared, and the text of a value is made.
use Rattle.std.proofs.Common.{◌≡◌, ℕ, List, [], ◌∷◌, Option, Some, None, Bool, true, false, inl, ℤ, pos, refl, sym, ap, subst, ◌∙◌, arith}
use Rattle.std.specs.Prelude.{◌&&◌, ◌||◌}
use Rattle.std.proofs.lemmas.Bool.{and_parts}
use Rattle.nim_types.specs.declared.types.TypeDef.TheVariants as D
use Rattle.nim_types.specs.Table.{facts_in, type_at, types_in}
use Rattle.nim_types.specs.Forms.{form_of, hooked}
use Rattle.nim_types.specs.Types.{Ty}
use Rattle.nim_program.specs.declared.operation.Comparison.{Comparison}
use Rattle.nim_program.specs.declared.operation.Operation.TheVariants as O
use Rattle.nim_program.specs.declared.operation.Use.TheVariants.{Lent}
use Rattle.nim_program.specs.Ints.{compared, truth}
use Rattle.nim_program.specs.Kinds.{is_bool, is_compared, is_joined, is_of, is_text, kind_if, kind_of, plain_kind}
use Rattle.nim_program.specs.View.{if_type}
use Rattle.nim_meaning.specs.Deeds.{costs, give, ◌>>=◌}
use Rattle.nim_meaning.specs.OwnedRows.{order, owned}
use Rattle.nim_meaning.specs.State.{is_seen}
use Rattle.nim_meaning.specs.Table.{does}
use Rattle.nim_meaning.specs.Texts.{are_seen, shown}
use Rattle.nim_meaning.specs.Here.{any_hooked}
use Rattle.nim_meaning.specs.Values.{Number, Operand, location_of}
use Rattle.flat_code.specs.declared.block.BlockLine.{BlockLine}
use Rattle.flat_code.specs.declared.line.From.{From}
use Rattle.flat_code.specs.declared.line.UseAt.{UseAt}
use Rattle.flat_code.specs.declared.line.From.TheVariants as F
use Rattle.flat_code.specs.Fits.{is_location, is_value}
use Rattle.flat_code.specs.Lines.{gives}
use Rattle.flat_code.specs.Running.{scene_of}
use Rattle.flat_code.specs.Shapes.{block, has_shape, number, shape_of}
use Rattle.word_code.specs.declared.word.WordInstr.{WordInstr}
use Rattle.word_lowering.specs.declared.handed.TheConstants.{LEFT_HANDLE_AT, RIGHT_HANDLE_AT}
use Rattle.word_lowering.specs.declared.homes.Home.{Home as Place}
use Rattle.word_lowering.specs.Operands.{Around, operand}
use Rattle.word_lowering.specs.LineCode.{compared_code}
use Rattle.word_lowering.specs.OwnedCode.{text_home, text_made}
use Rattle.word_lowering.specs.OwnedCode.{is_text as is_text_entry}
use Rattle.word_lowering.specs.RoutineCode.{join_code, text_compare_code}
use Rattle.word_lowering.specs.Stored.{entry_at}
use Rattle.word_lowering.proofs.AllOperands.{Have}
use Rattle.word_lowering.proofs.ApplyFits.{apply_line, of_types}
use Rattle.word_lowering.proofs.BlankShapes.{of_handles}
use Rattle.word_lowering.proofs.CompareTextLines.{compare_settles}
use Rattle.word_lowering.proofs.ControlLines.{value_type}
use Rattle.word_lowering.proofs.HookedMoves.{BitsTo, bits_target}
use Rattle.word_lowering.proofs.JoinedTypes.{text_looks}
use Rattle.word_lowering.proofs.JoinLines.{join_settles}
use Rattle.word_lowering.proofs.LineFits.{are_of, bool_shape, some_kind}
use Rattle.word_lowering.proofs.Lines.{Basis, IsGood, Settles, known, starts}
use Rattle.word_lowering.proofs.NumberLines.{variable}
use Rattle.word_lowering.proofs.OperandLines.{truth_shaped, value_type_by}
use Rattle.word_lowering.proofs.Options.{some_same}
use Rattle.word_lowering.proofs.OperandTexts.{TextsBuilt, hooked_many, operand_has, placed_parts, typed_parts, type_from}
use Rattle.word_lowering.proofs.OwnedFits.{FitsRow, OwnedRow, fits_row}
use Rattle.word_lowering.proofs.Related.{Both, body_of, high}
use Rattle.word_lowering.proofs.RowOperands.{HasHandleAt}
use Rattle.word_lowering.proofs.Scenes.{house, of_location, of_value}
use Rattle.word_lowering.proofs.Settling.{Getting, code_here, code_next}
use Rattle.word_lowering.proofs.ShapeFacts.{never}
use Rattle.word_lowering.proofs.Sites.{around, is_one_word}
use Rattle.word_lowering.proofs.Targets.{given}
use Rattle.word_lowering.proofs.TwoHandles.{first_at, first_good}
use Rattle.word_lowering.proofs.ValueFacts.{has_type, look_of}
use Rattle.word_lowering.proofs.WrittenLines.{Writing}

module _ (x : Basis) (said : Writing x) (texts : TextsBuilt x) (g : Both) (rest : List BlockLine) (to : ℕ) (how : UseAt) where
  abbrev type : ℕ → Ty
  type n = type_at (types_in x.table) n

  -- ---- two texts are joined

  join_two : (ty : Option ℕ) (a b : ℕ) (f h : From) (y : IsGood x (starts g (apply_line x g rest to O.Join how ty (Some a ∷ Some b ∷ []) (f ∷ h ∷ [])) rest))
      (z w : Operand) → Have g.call.temps (f ∷ h ∷ []) (z ∷ w ∷ []) → are_seen g.world (z ∷ w ∷ []) ≡ true
      → Settles x (starts g (apply_line x g rest to O.Join how ty (Some a ∷ Some b ∷ []) (f ∷ h ∷ [])) rest) rest
      (gives (scene_of (high x.table x.blocks (starts g (apply_line x g rest to O.Join how ty (Some a ∷ Some b ∷ []) (f ∷ h ∷ [])) rest))) to
      (costs 1 (owned O.Join (facts_in x.table) (if_type (known x).types ty) (Some (type a) ∷ Some (type b) ∷ []) (z ∷ w ∷ [])
      (does O.Join (facts_in x.table) (if_type (known x).types ty) (Some (type a) ∷ Some (type b) ∷ []) (z ∷ w ∷ []))) >>= (λ v. give v)))
  join_two ty a b f h y z w have seen =
      let line = apply_line x g rest to O.Join how ty (Some a ∷ Some b ∷ []) (f ∷ h ∷ []) in
      let here : Around = around x.table x.blocks (body_of g) in
      let r : FitsRow x g rest to O.Join how ty (Some a ∷ Some b ∷ []) (f ∷ h ∷ []) y =
      fits_row x g rest to O.Join how ty (Some a ∷ Some b ∷ []) (f ∷ h ∷ []) y in
      let p = and_parts (is_text (kind_if (facts_in x.table) (if_type (known x).types ty)))
      (is_joined (kind_of (facts_in x.table) (type a)) && is_joined (kind_of (facts_in x.table) (type b))) r.row in
      let q = and_parts (is_joined (kind_of (facts_in x.table) (type a))) (is_joined (kind_of (facts_in x.table) (type b))) p.1 in
      let t1 = typed_parts x g f (Some (type a)) (Some (type b) ∷ []) (h ∷ []) r.typed in
      let t2 = typed_parts x g h (Some (type b)) [] [] t1.1 in
      let l1 = placed_parts (facts_in x.table) Lent f (Some (type a)) (Some (type b) ∷ []) (h ∷ []) r.placed in
      let l2 = placed_parts (facts_in x.table) Lent h (Some (type b)) [] [] l1.1 in
      let s1 = and_parts (is_seen g.world (location_of z)) (are_seen g.world (w ∷ [])) seen in
      let s2 = and_parts (is_seen g.world (location_of w)) (are_seen g.world []) s1.1 in
      let k0 = some_kind (facts_in x.table) (if_type (known x).types ty) is_text refl p.0 in
      let typed = value_type_by (value_type x g line rest y to) (if_type (known x).types ty) k0.0 r.given k0.1 in
      let shape : shape_of (facts_in x.table) k0.0 ≡ block = text_looks (facts_in x.table) k0.0 k0.2 in
      let t : BitsTo x g line rest y (of_value to) (shape_of (facts_in x.table) k0.0)
      = bits_target x g line rest y to k0.0 refl refl typed (ap is_one_word shape) in
      let left : Place = text_home here LEFT_HANDLE_AT (Some a) (operand here f) in
      let right : Place = text_home here RIGHT_HANDLE_AT (Some b) (operand here h) in
      let k : List WordInstr = join_code (house g.call.site (of_value to)).home left right (code_next x g line rest y) in
      let middle : List WordInstr = text_made here RIGHT_HANDLE_AT (Some b) (operand here h) k in
      let first : List ℕ = shown (facts_in x.table) g.world (Some (type a)) z in
      let second : List ℕ = shown (facts_in x.table) g.world (Some (type b)) w in
      let one : HasHandleAt x said g line rest y LEFT_HANDLE_AT (code_here x g line rest y) middle left first
      = operand_has x said texts g line rest y LEFT_HANDLE_AT (omega arith) (omega arith) (omega arith) middle a z s1.0 f have.0 t1.0
      (said.joined a q.0) l1.0 in
      let two : HasHandleAt x said (first_at x said g line rest y middle k left right first second one) line rest
      (first_good x said g line rest y middle k left right first second one) RIGHT_HANDLE_AT middle k right second
      = operand_has x said texts (first_at x said g line rest y middle k left right first second one) line rest
      (first_good x said g line rest y middle k left right first second one) RIGHT_HANDLE_AT (omega arith) (omega arith) (omega arith) k b w s2.0 h have.1.0
      t2.0 (said.joined b q.1) l2.0 in
      join_settles x said g line rest y to t.there t.inside (t.look ∙ shape) middle left right first second one two

  pub join_row : (ty : Option ℕ) (of : List (Option ℕ)) (from : List From) → OwnedRow x g rest to how O.Join ty of from
  join_row ty [] from y xs have seen = never (fits_row x g rest to O.Join how ty [] from y).row
  join_row ty (a ∷ []) from y xs have seen = never (fits_row x g rest to O.Join how ty (a ∷ []) from y).row
  join_row ty (a ∷ b ∷ c ∷ of) from y xs have seen = never (fits_row x g rest to O.Join how ty (a ∷ b ∷ c ∷ of) from y).row
  join_row ty (None ∷ b ∷ []) from y xs have seen =
      never (and_parts (is_text (kind_if (facts_in x.table) (if_type (known x).types ty))) _ (fits_row x g rest to O.Join how ty (None ∷ b ∷ []) from y).row).1
  join_row ty (Some a ∷ None ∷ []) from y xs have seen =
      let p = and_parts (is_text (kind_if (facts_in x.table) (if_type (known x).types ty))) _
      (fits_row x g rest to O.Join how ty (Some a ∷ None ∷ []) from y).row in
      never (and_parts (is_joined (kind_of (facts_in x.table) (type a))) _ p.1).1
  join_row ty (Some a ∷ Some b ∷ []) [] y xs have seen = never (fits_row x g rest to O.Join how ty (Some a ∷ Some b ∷ []) [] y).typed
  join_row ty (Some a ∷ Some b ∷ []) (f ∷ []) y xs have seen =
      never (typed_parts x g f (Some (type a)) (Some (type b) ∷ []) [] (fits_row x g rest to O.Join how ty (Some a ∷ Some b ∷ []) (f ∷ []) y).typed).1
  join_row ty (Some a ∷ Some b ∷ []) (f ∷ h ∷ i ∷ from) y xs have seen =
      let t = typed_parts x g f (Some (type a)) (Some (type b) ∷ []) (h ∷ i ∷ from)
      (fits_row x g rest to O.Join how ty (Some a ∷ Some b ∷ []) (f ∷ h ∷ i ∷ from) y).typed in
      never (typed_parts x g h (Some (type b)) [] (i ∷ from) t.1).1
  join_row ty (Some a ∷ Some b ∷ []) (f ∷ h ∷ []) y [] have seen = absurd have
  join_row ty (Some a ∷ Some b ∷ []) (f ∷ h ∷ []) y (z ∷ []) have seen = absurd have.1
  join_row ty (Some a ∷ Some b ∷ []) (f ∷ h ∷ []) y (z ∷ w ∷ u ∷ xs) have seen = absurd have.1.1
  join_row ty (Some a ∷ Some b ∷ []) (f ∷ h ∷ []) y (z ∷ w ∷ []) have seen = join_two ty a b f h y z w have seen

  -- ---- two texts are compared

  -- what an operand of a hooked type looks like is no word
  operand_many : (line : BlockLine) (y : IsGood x (starts g line rest)) (f : From) (ty : Ty) → type_from x g f ≡ Some ty
      → hooked (form_of (facts_in x.table) ty) ≡ true
      → (of_handles (shape_of (facts_in x.table) ty) ≡ true) × (is_one_word (shape_of (facts_in x.table) ty) ≡ false)
  operand_many line y (F.Value t) ty typed hooks =
      let has = has_type x g.call.site (of_value t) ty y.linked.0 typed in
      let look = look_of x g.call.site (of_value t) ty has in
      let m = hooked_many x (body_of g) y.linked.0 is_value t has.named (ap (λ u. hooked (form_of (facts_in x.table) u)) has.typed ∙ hooks) in
      (ap of_handles (sym look) ∙ m.0, ap is_one_word (sym look) ∙ m.1)
  operand_many line y (F.Place t) ty typed hooks =
      let has = has_type x g.call.site (of_location t) ty y.linked.0 typed in
      let look = look_of x g.call.site (of_location t) ty has in
      let m = hooked_many x (body_of g) y.linked.0 is_location t has.named (ap (λ u. hooked (form_of (facts_in x.table) u)) has.typed ∙ hooks) in
      (ap of_handles (sym look) ∙ m.0, ap is_one_word (sym look) ∙ m.1)

  first_hooked : (p q : Bool) → q ≡ p → (p || (q || false)) ≡ true → p ≡ true
  first_hooked true q e h = refl
  first_hooked false q e h = never (sym (ap (λ b. b || false) e) ∙ h)

  compare_two : (comparison : Comparison) (ty : Option ℕ) (a b : ℕ) (f h : From)
      (y : IsGood x (starts g (apply_line x g rest to (O.Compare comparison) how ty (Some a ∷ Some b ∷ []) (f ∷ h ∷ [])) rest))
      (z w : Operand) → Have g.call.temps (f ∷ h ∷ []) (z ∷ w ∷ []) → are_seen g.world (z ∷ w ∷ []) ≡ true
      → any_hooked (facts_in x.table) (Some (type a) ∷ Some (type b) ∷ []) ≡ true
      → Settles x (starts g (apply_line x g rest to (O.Compare comparison) how ty (Some a ∷ Some b ∷ []) (f ∷ h ∷ [])) rest) rest
      (gives (scene_of (high x.table x.blocks (starts g (apply_line x g rest to (O.Compare comparison) how ty (Some a ∷ Some b ∷ []) (f ∷ h ∷ [])) rest))) to
      (costs 1 (owned (O.Compare comparison) (facts_in x.table) (if_type (known x).types ty) (Some (type a) ∷ Some (type b) ∷ []) (z ∷ w ∷ [])
      (does (O.Compare comparison) (facts_in x.table) (if_type (known x).types ty) (Some (type a) ∷ Some (type b) ∷ []) (z ∷ w ∷ []))) >>= (λ v. give v)))
  compare_two comparison ty a b f h y z w have seen hooks =
      let line = apply_line x g rest to (O.Compare comparison) how ty (Some a ∷ Some b ∷ []) (f ∷ h ∷ []) in
      let here : Around = around x.table x.blocks (body_of g) in
      let r : FitsRow x g rest to (O.Compare comparison) how ty (Some a ∷ Some b ∷ []) (f ∷ h ∷ []) y
      = fits_row x g rest to (O.Compare comparison) how ty (Some a ∷ Some b ∷ []) (f ∷ h ∷ []) y in
      let p = and_parts (is_bool (kind_if (facts_in x.table) (if_type (known x).types ty)))
      (is_of (Some (type a)) (Some (type b)) && is_compared comparison (plain_kind (facts_in x.table) (type a))) r.row in
      let q = and_parts (is_of (Some (type a)) (Some (type b))) (is_compared comparison (plain_kind (facts_in x.table) (type a))) p.1 in
      let n = are_of (Some (type a)) (Some (type b)) q.0 in
      let same : type b ≡ type a = some_same (type b) (type a) (n.is_other ∙ sym n.is) in
      let t1 = typed_parts x g f (Some (type a)) (Some (type b) ∷ []) (h ∷ []) r.typed in
      let t2 = typed_parts x g h (Some (type b)) [] [] t1.1 in
      let l1 = placed_parts (facts_in x.table) Lent f (Some (type a)) (Some (type b) ∷ []) (h ∷ []) r.placed in
      let l2 = placed_parts (facts_in x.table) Lent h (Some (type b)) [] [] l1.1 in
      let s1 = and_parts (is_seen g.world (location_of z)) (are_seen g.world (w ∷ [])) seen in
      let s2 = and_parts (is_seen g.world (location_of w)) (are_seen g.world []) s1.1 in
      let many = operand_many line y f (type a) t1.0
      (first_hooked (hooked (form_of (facts_in x.table) (type a))) (hooked (form_of (facts_in x.table) (type b)))
      (ap (λ u. hooked (form_of (facts_in x.table) u)) same) hooks) in
      let text_a : entry_at x.table a ≡ Some D.Text = said.compared a comparison q.1 many.1 many.0 in
      let text_b : entry_at x.table b ≡ Some D.Text
      = said.compared b comparison (subst (λ u. is_compared comparison (plain_kind (facts_in x.table) u) ≡ true) (sym same) q.1)
      (subst (λ u. is_one_word (shape_of (facts_in x.table) u) ≡ false) (sym same) many.1)
      (subst (λ u. of_handles (shape_of (facts_in x.table) u) ≡ true) (sym same) many.0) in
      let k0 = some_kind (facts_in x.table) (if_type (known x).types ty) is_bool refl p.0 in
      let typed = value_type_by (value_type x g line rest y to) (if_type (known x).types ty) k0.0 r.given k0.1 in
      let shape : shape_of (facts_in x.table) k0.0 ≡ number (Some 2) = bool_shape (facts_in x.table) k0.0 k0.2 in
      let t = given x g line rest y to k0.0 refl refl typed in
      let left : Place = text_home here LEFT_HANDLE_AT (Some a) (operand here f) in
      let right : Place = text_home here RIGHT_HANDLE_AT (Some b) (operand here h) in
      let k : List WordInstr = text_compare_code comparison (variable x g line rest y to) left right (code_next x g line rest y) in
      let middle : List WordInstr = text_made here RIGHT_HANDLE_AT (Some b) (operand here h) k in
      let first : List ℕ = shown (facts_in x.table) g.world (Some (type a)) z in
      let second : List ℕ = shown (facts_in x.table) g.world (Some (type b)) w in
      let answer : ℤ = truth (compared comparison (order first second) (pos 0)) in
      let getting : Getting x g line rest y to answer
      = record {
        there = t.there;
        one = ap is_one_word (t.look ∙ shape);
        shaped = subst (λ s. has_shape (Number answer) s ≡ true) (sym (t.look ∙ shape)) (truth_shaped (compared comparison (order first second) (pos 0)));
      } in
      let code : text_made here LEFT_HANDLE_AT (Some a) (operand here f) middle ≡ code_here x g line rest y
      = sym (ap (λ d. compared_code here (is_text_entry d) comparison (variable x g line rest y to) (Some a ∷ Some b ∷ [])
      (operand here f ∷ operand here h ∷ []) (code_next x g line rest y)) text_a) in
      let one : HasHandleAt x said g line rest y LEFT_HANDLE_AT (code_here x g line rest y) middle left first
      = subst (λ l. HasHandleAt x said g line rest y LEFT_HANDLE_AT l middle left first) code
      (operand_has x said texts g line rest y LEFT_HANDLE_AT (omega arith) (omega arith) (omega arith) middle a z s1.0 f have.0 t1.0 (inl text_a) l1.0) in
      let two : HasHandleAt x said (first_at x said g line rest y middle k left right first second one) line rest
      (first_good x said g line rest y middle k left right first second one) RIGHT_HANDLE_AT middle k right second
      = operand_has x said texts (first_at x said g line rest y middle k left right first second one) line rest
      (first_good x said g line rest y middle k left right first second one) RIGHT_HANDLE_AT (omega arith) (omega arith) (omega arith) k b w s2.0 h have.1.0
      t2.0 (inl text_b) l2.0 in
      compare_settles x said g line rest y comparison to middle left right first second getting one two

  pub compare_row : (comparison : Comparison) (ty : Option ℕ) (of : List (Option ℕ)) (from : List From)
      → any_hooked (facts_in x.table) (of_types x g rest to (O.Compare comparison) how ty of from) ≡ true
      → OwnedRow x g rest to how (O.Compare comparison) ty of from
  compare_row c ty [] from hooks y xs have seen = never hooks
  compare_row c ty (a ∷ []) from hooks y xs have seen = never (fits_row x g rest to (O.Compare c) how ty (a ∷ []) from y).row
  compare_row c ty (a ∷ b ∷ d ∷ of) from hooks y xs have seen = never (fits_row x g rest to (O.Compare c) how ty (a ∷ b ∷ d ∷ of) from y).row
  compare_row c ty (None ∷ b ∷ []) from hooks y xs have seen =
      never (and_parts (is_bool (kind_if (facts_in x.table) (if_type (known x).types ty))) _
      (fits_row x g rest to (O.Compare c) how ty (None ∷ b ∷ []) from y).row).1
  compare_row c ty (Some a ∷ None ∷ []) from hooks y xs have seen =
      never (and_parts (is_bool (kind_if (facts_in x.table) (if_type (known x).types ty))) _
      (fits_row x g rest to (O.Compare c) how ty (Some a ∷ None ∷ []) from y).row).1
  compare_row c ty (Some a ∷ Some b ∷ []) [] hooks y xs have seen = never (fits_row x g rest to (O.Compare c) how ty (Some a ∷ Some b ∷ []) [] y).typed
  compare_row c ty (Some a ∷ Some b ∷ []) (f ∷ []) hooks y xs have seen =
      never (typed_parts x g f (Some (type a)) (Some (type b) ∷ []) [] (fits_row x g rest to (O.Compare c) how ty (Some a ∷ Some b ∷ []) (f ∷ []) y).typed).1
  compare_row c ty (Some a ∷ Some b ∷ []) (f ∷ h ∷ i ∷ from) hooks y xs have seen =
      let t = typed_parts x g f (Some (type a)) (Some (type b) ∷ []) (h ∷ i ∷ from)
      (fits_row x g rest to (O.Compare c) how ty (Some a ∷ Some b ∷ []) (f ∷ h ∷ i ∷ from) y).typed in
      never (typed_parts x g h (Some (type b)) [] (i ∷ from) t.1).1
  compare_row c ty (Some a ∷ Some b ∷ []) (f ∷ h ∷ []) hooks y [] have seen = absurd have
  compare_row c ty (Some a ∷ Some b ∷ []) (f ∷ h ∷ []) hooks y (z ∷ []) have seen = absurd have.1
  compare_row c ty (Some a ∷ Some b ∷ []) (f ∷ h ∷ []) hooks y (z ∷ w ∷ u ∷ xs) have seen = absurd have.1.1
  compare_row c ty (Some a ∷ Some b ∷ []) (f ∷ h ∷ []) hooks y (z ∷ w ∷ []) have seen = compare_two c ty a b f h y z w have seen hooks

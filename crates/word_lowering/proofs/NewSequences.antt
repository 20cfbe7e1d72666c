-- Rows that make a sequence, as lines: of operands, or of so many elements that start at 0.
use Rattle.std.proofs.Common.{◌≡◌, inl, inr, ℕ, List, [], ◌∷◌, length, map, Option, Some, true, refl, sym, ap, subst, suc, ◌∙◌, arith, ◌*◌, ◌<◌, ◌^◌}
use Rattle.word_lowering.proofs.Targets.{AmongFrom}
use Rattle.word_lowering.proofs.OperandTexts.{AreTyped, typed_parts}
use Rattle.word_lowering.proofs.Lines.{Basis, IsGood, Settles, known, starts}
use Rattle.flat_code.specs.declared.block.BlockLine.{BlockLine}
use Rattle.word_lowering.proofs.Related.{Both, body_of, high}
use Rattle.nim_meaning.specs.Deeds.{Deed, costs, give, ◌>>=◌}
use Rattle.nim_meaning.specs.Heap.{Elements}
use Rattle.nim_types.specs.Types.{Facts, Ty}
use Rattle.word_lowering.proofs.OwnedFits.{FitsRow, OwnedRow, fits_row}
use Rattle.flat_code.specs.declared.line.From.{From}
use Rattle.word_lowering.proofs.AllOperands.{Have, given_value}
use Rattle.word_lowering.proofs.SequenceLines.{HaveElements, houses_of, sequence_settles}
use Rattle.nim_program.specs.declared.operation.Use.TheVariants.{Held}
use Rattle.word_lowering.specs.declared.homes.Housed.{Housed}
use Rattle.word_lowering.proofs.Sites.{InMemory, around, is_one_word}
use Rattle.nim_meaning.specs.Values.{Operand, Value, Values, blank, count, number_of, repeated, value_of, values_in}
use Rattle.nim_program.specs.Traps.{OutOfRange}
use Rattle.word_lowering.proofs.SequenceTypes.{SequencesKnown}
use Rattle.flat_code.specs.Shapes.{Shape, shape_of}
use Rattle.word_lowering.proofs.Settling.{TrapsStop, code_next}
use Rattle.flat_code.specs.declared.line.UseAt.{UseAt}
use Rattle.word_code.specs.declared.word.WordInstr.{WordInstr}
use Rattle.std.proofs.lemmas.Bool.{and_parts}
use Rattle.word_lowering.proofs.ApplyFits.{apply_line}
use Rattle.word_lowering.proofs.LineFits.{are_of, same_type}
use Rattle.nim_program.specs.Fitting.{are_parts}
use Rattle.word_lowering.proofs.HookedMoves.{bits_target}
use Rattle.word_lowering.proofs.SequencePlaces.{Goes, built_of_value, comes_from, goes_to, row_of_value, sequence_some, trap_at, zeros_blank}
use Rattle.nim_meaning.specs.OwnedRows.{counted, element_of}
use Rattle.word_lowering.specs.OwnedCode.{counted_code, sequence_code}
use Rattle.nim_program.specs.Kinds.{is_int, is_of, is_sequence, kind_if}
use Rattle.nim_types.specs.Table.{facts_in}
use Rattle.flat_code.specs.Lines.{fetch, gives}
use Rattle.nim_meaning.specs.Here.{form_for}
use Rattle.nim_types.specs.Forms.{form_of, size as form_size}
use Rattle.nim_meaning.specs.Lifted.{fresh, fresh_sequence}
use Rattle.word_lowering.proofs.Scenes.{house, of_value}
use Rattle.nim_program.specs.View.{if_type}
use Rattle.word_lowering.proofs.AddressFacts.{in_memory}
use Rattle.word_lowering.proofs.ControlLines.{int_read}
use Rattle.flat_code.specs.Fits.{is_value}
use Rattle.word_lowering.proofs.ShapeFacts.{never, shape_bytes}
use Rattle.word_lowering.specs.RoutineCode.{new_code}
use Rattle.word_lowering.proofs.NewSequenceLines.{new_sequence_settles}
use Rattle.word_lowering.proofs.ChangedSequences.{none_stands}
use Rattle.word_lowering.specs.LineCode.{variable_of}
use Rattle.word_lowering.specs.Operands.{operand}
use Rattle.flat_code.specs.Running.{scene_of}
use Rattle.word_lowering.proofs.StoredLater.{shape_some}
use Rattle.word_lowering.proofs.ValueFacts.{type_in, value_plain}
use Rattle.nim_program.specs.declared.operation.Operation.TheVariants as O
use Rattle.flat_code.specs.declared.line.From.TheVariants as F
use Rattle.flat_code.specs.Fits as fit
use Rattle.nim_types.specs.Types as type
use Rattle.nim_program.specs.Kinds as kind

module _ (x : Basis) (types : SequencesKnown x) (traps : TrapsStop x) (g : Both) (rest : List BlockLine) (to : ℕ) (how : UseAt) where
  abbrev facts : Facts
  facts = facts_in x.table

  abbrev type_at_number : Option ℕ → Option Ty
  type_at_number o = if_type (known x).types o

  -- ---- of so many elements

  module _ (ty a : Option ℕ) (u : ℕ) where
    abbrev making : BlockLine
    making = apply_line x g rest to O.NewSequence how ty (a ∷ []) (F.Value u ∷ [])

    abbrev gives_new : Deed Value → Type 0
    gives_new d = Settles x (starts g making rest) rest (gives (scene_of (high x.table x.blocks (starts g making rest))) to (costs 1 d >>= (λ v. give v)))

    new_one : (y : IsGood x (starts g making rest)) (w : Operand) → fetch g.call.temps (F.Value u) ≡ Some w
        → gives_new (counted (number_of (value_of w)) (λ n. fresh n (n * form_size (element_of (form_for facts (type_at_number ty))))
        (Elements (repeated n (blank (element_of (form_for facts (type_at_number ty))))))))
    new_one y w have =
        let r : FitsRow x g rest to O.NewSequence how ty (a ∷ []) (F.Value u ∷ []) y
        = fits_row x g rest to O.NewSequence how ty (a ∷ []) (F.Value u ∷ []) y in
        let q = and_parts (is_sequence (kind_if facts (type_at_number ty))) (is_int (kind_if facts (type_at_number a))) r.row in
        let s = sequence_some facts (type_at_number ty) q.0 in
        let typed = typed_parts x g (F.Value u) (type_at_number a) [] [] r.typed in
        let given : type_in x is_value (body_of g) to ≡ Some (type.sequence s.0)
        = same_type (type_in x is_value (body_of g) to) (type_at_number ty) r.given ∙ s.1 in
        let goes = goes_to x types g making rest y to (type.sequence s.0) refl refl given in
        let bits = bits_target x g making rest y to (type.sequence s.0) refl refl given refl in
        let row = row_of_value x types g making rest y to s.0 goes in
        let shape : Shape = shape_of facts s.0 in
        let o = int_read x g making rest y u (value_of w) (subst (λ k. is_int (kind_if facts k) ≡ true) (sym typed.0) q.1)
        (given_value (g.call.temps.values u) w have) in
        let some : 0 < shape_bytes shape = (let e = shape_some shape in omega (arith, e)) in
        let held : ℕ = variable_of (house g.call.site (of_value u)) in
        let h : Housed = house g.call.site (of_value to) in
        subst (λ k. gives_new (counted (number_of (value_of w)) (λ n. fresh n (n * form_size (element_of (form_for facts k)))
        (Elements (repeated n (blank (element_of (form_for facts k)))))))) (sym s.1)
        (subst (λ i. gives_new (counted (number_of (value_of w)) (λ n. fresh n (n * i) (Elements (repeated n (blank (form_of facts s.0))))))) (sym row.size)
        (new_sequence_settles x g making rest y y.memory.bytes to bits.there bits.inside shape bits.look some row.small
        (trap_at x g making rest OutOfRange (traps g making rest y OutOfRange (λ k. refl))) (number_of (value_of w)) o.fits held o.high o.word_is
        (blank (form_of facts s.0)) (zeros_blank x types g making rest y s.0 h.ty row (built_of_value x types g making rest y to s.0 goes))
        (ap (λ n. counted_code held (new_code h.home held n (code_next x g making rest y))) row.bytes)))

  pub new_row : (ty : Option ℕ) (of : List (Option ℕ)) (from : List From) → OwnedRow x g rest to how O.NewSequence ty of from
  new_row ty [] from y xs have seen = never (fits_row x g rest to O.NewSequence how ty [] from y).row
  new_row ty (a ∷ b ∷ of) from y xs have seen = never (fits_row x g rest to O.NewSequence how ty (a ∷ b ∷ of) from y).row
  new_row ty (a ∷ []) [] y xs have seen = never (fits_row x g rest to O.NewSequence how ty (a ∷ []) [] y).typed
  new_row ty (a ∷ []) (f ∷ h ∷ from) y xs have seen =
      never (typed_parts x g f (type_at_number a) [] (h ∷ from) (fits_row x g rest to O.NewSequence how ty (a ∷ []) (f ∷ h ∷ from) y).typed).1
  new_row ty (a ∷ []) (F.Place u ∷ []) y xs have seen =
      none_stands facts (type_at_number a) true (fits_row x g rest to O.NewSequence how ty (a ∷ []) (F.Place u ∷ []) y).placed
  new_row ty (a ∷ []) (F.Value u ∷ []) y [] have seen = absurd have
  new_row ty (a ∷ []) (F.Value u ∷ []) y (z ∷ w ∷ xs) have seen = absurd have.1
  new_row ty (a ∷ []) (F.Value u ∷ []) y (w ∷ []) have seen = new_one ty a u y w have.0

  -- ---- of operands

  module _ (ty : Option ℕ) (of : List (Option ℕ)) (from : List From) (y : IsGood x (starts g (apply_line x g rest to O.Sequence how ty of from) rest)) (e : Ty)
      (goes : Goes x types g (apply_line x g rest to O.Sequence how ty of from) rest y to (type.sequence e)) where
    abbrev listing : BlockLine
    listing = apply_line x g rest to O.Sequence how ty of from

    abbrev shape : Shape
    shape = shape_of facts e

    inside : InMemory (house g.call.site (of_value to)).home
    inside =
        in_memory x g listing rest y (of_value to) goes.there (value_plain (house g.call.site (of_value to)) goes.there.kind) (ap is_one_word goes.look)

    -- operands of a part of the line
    record Listed (some_from : List From) (vs : Values) : Type 0 where
      values : List ℕ
      have : HaveElements x g listing rest y to goes.there inside shape goes.look values vs
      homes : map (operand (around x.table x.blocks (body_of g))) some_from ≡ houses_of x g listing rest y to goes.there inside shape goes.look values
      many : count vs ≡ length some_from

    listed : (i : ℕ) (types_of : List (Option Ty)) (some_from : List From) (xs : List Operand) → are_parts (kind.sequence e) i types_of ≡ true
        → AreTyped x g types_of some_from → fit.are_placed facts Held 0 types_of some_from ≡ true
        → ((t : ℕ) → AmongFrom t some_from → AmongFrom t from) → Have g.call.temps some_from xs → Listed some_from (values_in xs)
    listed i [] [] [] parts typed placed among have = record { values = []; have = tt; homes = refl; many = refl }
    listed i [] [] (z ∷ xs) parts typed placed among have = absurd have
    listed i [] (f ∷ fs) xs parts typed placed among have = never typed
    listed i (o ∷ os) [] xs parts typed placed among have = never typed
    listed i (o ∷ os) (F.Place u ∷ fs) xs parts typed placed among have = none_stands facts o (fit.are_placed facts Held 0 os fs) placed
    listed i (o ∷ os) (F.Value u ∷ fs) [] parts typed placed among have = absurd have
    listed i (o ∷ os) (F.Value u ∷ fs) (z ∷ xs) parts typed placed among have =
        let p = and_parts (is_of o (Some e)) (are_parts (kind.sequence e) (suc i) os) parts in
        let w = are_of o (Some e) p.0 in
        let t = typed_parts x g (F.Value u) o os fs typed in
        let comes = comes_from x types g listing rest y u e (among u (inl refl)) (t.0 ∙ w.is ∙ sym w.is_other) in
        let more = listed (suc i) os fs xs p.1 t.1 placed (λ n m. among n (inr m)) have.1 in
        record {
          values = u ∷ more.values;
          have = (record { is_there = comes.there; has = given_value (g.call.temps.values u) z have.0; looks_so = comes.look }, more.have);
          homes = ap (λ hs. house g.call.site (of_value u) ∷ hs) more.homes;
          many = ap suc more.many;
        }

  pub sequence_row : (ty : Option ℕ) (of : List (Option ℕ)) (from : List From) → length from < 2 ^ 32 → OwnedRow x g rest to how O.Sequence ty of from
  sequence_row ty of from few y xs have seen =
      let listing : BlockLine = apply_line x g rest to O.Sequence how ty of from in
      let types_of : List (Option Ty) = map (if_type (known x).types) of in
      let r : FitsRow x g rest to O.Sequence how ty of from y = fits_row x g rest to O.Sequence how ty of from y in
      let q = and_parts (is_sequence (kind_if facts (type_at_number ty))) (are_parts (kind_if facts (type_at_number ty)) 0 types_of) r.row in
      let s = sequence_some facts (type_at_number ty) q.0 in
      let given : type_in x is_value (body_of g) to ≡ Some (type.sequence s.0)
      = same_type (type_in x is_value (body_of g) to) (type_at_number ty) r.given ∙ s.1 in
      let goes = goes_to x types g listing rest y to (type.sequence s.0) refl refl given in
      let row = row_of_value x types g listing rest y to s.0 goes in
      let shape : Shape = shape_of facts s.0 in
      let h : Housed = house g.call.site (of_value to) in
      let l = listed ty of from y s.0 goes 0 types_of from xs (subst (λ k. are_parts (kind_if facts k) 0 types_of ≡ true) s.1 q.1) r.typed r.placed (λ t i. i)
      have in
      let next : List WordInstr = code_next x g listing rest y in
      subst (λ k. Settles x (starts g listing rest) rest (gives (scene_of (high x.table x.blocks (starts g listing rest))) to
      (costs 1 (fresh_sequence (element_of (form_for facts k)) (values_in xs)) >>= (λ v. give v)))) (sym s.1)
      (sequence_settles x g listing rest y to goes.there (inside ty of from y s.0 goes) shape goes.look l.values (values_in xs) l.have row.small
      (subst (λ n. n < 2 ^ 32) (sym l.many) few) (form_of facts s.0) row.size
      (ap (λ n. sequence_code h.home n (map (operand (around x.table x.blocks (body_of g))) from) next) row.bytes
      ∙ ap (λ hs. sequence_code h.home (shape_bytes shape) hs next) l.homes))

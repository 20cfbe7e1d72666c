-- A sequence at a location gets another length, as a line, whether its elements have something to do at their end or not; and a text does.
use Rattle.std.proofs.Common.{◌≡◌, ℕ, List, [], ◌∷◌, map, Option, Some, None, Bool, true, false, refl, sym, ap, subst, ◌∙◌, arith, ◌≤◌, ◌+◌, ◌*◌, inl, inr}
use Rattle.std.proofs.Common.{suc, ◌-◌, ◌⊎◌}
use Rattle.std.specs.Prelude.{slice_get}
use Rattle.word_lowering.specs.LineCode.{label_before, variable_of}
use Rattle.word_lowering.specs.Operands.{Around, location}
use Rattle.nim_types.specs.declared.types.TypeDef.TheVariants as D
use Rattle.nim_program.specs.Kinds as kind
use Rattle.nim_meaning.specs.Values.{At, Location, Operand, Value, blank, location_of, number_of, value_of}
use Rattle.word_lowering.proofs.Lines.{Basis, IsGood, Settles, known, starts, where_there}
use Rattle.flat_code.specs.declared.block.BlockLine.{BlockLine}
use Rattle.word_lowering.proofs.Blocks.{Blocks, Stored}
use Rattle.word_lowering.proofs.Related.{Both, body_of, high, sites_of}
use Rattle.nim_meaning.specs.Deeds.{Deed, costs, give, unless_gone, ◌>>=◌}
use Rattle.nim_meaning.specs.Places.{may_change}
use Rattle.hook_lifting.specs.declared.lifted.Hook.TheVariants.{Ends}
use Rattle.nim_types.specs.Types.{Facts, Ty}
use Rattle.word_lowering.proofs.OwnedFits.{FitsRow, OwnedRow, fits_row}
use Rattle.flat_code.specs.declared.line.From.{From}
use Rattle.word_lowering.proofs.AllOperands.{Have, given_value}
use Rattle.word_lowering.proofs.HookBasis.{HookBasis, first_hook, routines_here, sequences_known}
use Rattle.word_lowering.specs.declared.homes.Housed.{Housed}
use Rattle.nim_types.specs.declared.types.TheConstants.{LIST_BYTES}
use Rattle.word_code.specs.Memory.{Memory}
use Rattle.nim_program.specs.Traps.{OutOfRange}
use Rattle.word_code.specs.declared.word.TheConstants.{SPARE_ROOM}
use Rattle.word_lowering.proofs.SequenceTypes.{SequencesKnown}
use Rattle.flat_code.specs.Shapes.{Shape, shape_of}
use Rattle.word_lowering.proofs.Settling.{TrapsStop, code_here, code_next}
use Rattle.nim_program.specs.Kinds.{TypeKind, is_int, is_resized, is_sequence, is_text, kind_if}
use Rattle.flat_code.specs.declared.line.UseAt.{UseAt}
use Rattle.word_code.specs.declared.word.WordInstr.{WordInstr}
use Rattle.word_lowering.proofs.WrittenLines.{Writing}
use Rattle.word_code.specs.RoutineTable.{ZeroWords}
use Rattle.std.proofs.lemmas.Bool.{and_parts}
use Rattle.word_lowering.proofs.ApplyFits.{apply_line}
use Rattle.nim_meaning.specs.Texts.{are_seen}
use Rattle.word_lowering.proofs.Sites.{around, globals_of, sigs}
use Rattle.word_lowering.proofs.OperandTexts.{at_place, typed_parts}
use Rattle.word_lowering.specs.Stored.{base_at, entry_at}
use Rattle.flat_code.specs.Codes.{block_plain}
use Rattle.word_lowering.proofs.HookedTypes.{built_form}
use Rattle.hook_code.specs.Kept.{chain_of, rank_in}
use Rattle.nim_meaning.specs.OwnedRows.{counted, length_to}
use Rattle.word_lowering.specs.OwnedCode.{counted_code, each_bytes, element_in, has_hooks as code_has_hooks, is_text as is_text_entry, resized_code, sized_code}
use Rattle.hook_code.specs.HookCode.{cut_number}
use Rattle.word_lowering.proofs.SequenceCutLines.{cut_settles, cut_tail}
use Rattle.nim_types.specs.Table.{facts_in, type_at, types_in}
use Rattle.flat_code.specs.Lines.{fetch, gives}
use Rattle.nim_meaning.specs.Here.{form_for}
use Rattle.nim_types.specs.Forms.{elements, form_of, hooked, levels, size as form_size}
use Rattle.word_lowering.proofs.Scenes.{house, is_fixed, of_value}
use Rattle.nim_program.specs.View.{if_type}
use Rattle.word_lowering.proofs.ControlLines.{int_read, value_type}
use Rattle.nim_meaning.specs.State.{is_seen}
use Rattle.nim_meaning.specs.Unbuilt.{is_unbuilt}
use Rattle.word_lowering.proofs.ChangedSequences.{length_two, none_stands}
use Rattle.flat_code.specs.Scene.{location_at}
use Rattle.word_lowering.proofs.ShapeFacts.{never, shape_bytes}
use Rattle.word_lowering.proofs.LineFits.{no_type}
use Rattle.word_lowering.proofs.StoreLines.{none_temps}
use Rattle.word_lowering.proofs.LabelsHere.{own_label_at, own_label_here}
use Rattle.flat_code.specs.Running.{scene_of}
use Rattle.word_lowering.proofs.SequencePlaces.{sequence_at, sequence_some, trap_at, zeros_blank}
use Rattle.rv32_isa.specs.Image.{stack_at}
use Rattle.word_lowering.proofs.LengthRows.{text_length_row}
use Rattle.word_lowering.proofs.HookCalls.{top}
use Rattle.nim_program.specs.declared.operation.Operation.TheVariants as O
use Rattle.flat_code.specs.declared.line.From.TheVariants as F
use Rattle.flat_code.specs.Fits as fit
use Rattle.nim_types.specs.Types as type

module _ (x : Basis) (b : HookBasis x) (traps : TrapsStop x) (g : Both) (rest : List BlockLine) (to : ℕ) (how : UseAt) where
  abbrev type_at_number : Option ℕ → Option Ty
  type_at_number o = if_type (known x).types o

  abbrev facts : Facts
  facts = facts_in x.table

  abbrev types : SequencesKnown x
  types = sequences_known x b

  module _ (c d : Option ℕ) (t u : ℕ) where
    abbrev sizing : BlockLine
    sizing = apply_line x g rest to O.SetLength how None (c ∷ d ∷ []) (F.Place t ∷ F.Value u ∷ [])

    abbrev gives_sized : Deed Value → Type 0
    gives_sized v = Settles x (starts g sizing rest) rest (gives (scene_of (high x.table x.blocks (starts g sizing rest))) to (costs 1 v >>= (λ v. give v)))

    abbrev held : ℕ
    held = variable_of (house g.call.site (of_value u))

    -- of elements with hooks
    cut_two : (y : IsGood x (starts g sizing rest)) (z w : Operand) → fetch g.call.temps (F.Place t) ≡ Some z → fetch g.call.temps (F.Value u) ≡ Some w
        → is_seen g.world (location_of z) ≡ true → may_change (location_of z).base ≡ true → (e : Ty) → type_at_number c ≡ Some (type.sequence e)
        → hooked (form_of facts e) ≡ true → gives_sized (counted (number_of (value_of w)) (λ n. length_to (form_for facts (type_at_number c)) n
        (location_of z)))
    cut_two y z w have have_value seen changes e is hooks =
        let r : FitsRow x g rest to O.SetLength how None (c ∷ d ∷ []) (F.Place t ∷ F.Value u ∷ []) y
        = fits_row x g rest to O.SetLength how None (c ∷ d ∷ []) (F.Place t ∷ F.Value u ∷ []) y in
        let k = and_parts (is_resized (kind_if facts (type_at_number c))) (is_int (kind_if facts (type_at_number d))) r.row in
        let typed = typed_parts x g (F.Place t) (type_at_number c) (type_at_number d ∷ []) (F.Value u ∷ []) r.typed in
        let typed_value = typed_parts x g (F.Value u) (type_at_number d) [] [] typed.1 in
        let may = (and_parts (fit.may_write (known x) (sigs x.table x.blocks) (globals_of x.table x.blocks) (body_of g).proc.places t) true r.written).0 in
        let p = at_place (g.call.temps.places t) (λ there. At (location_at g.call.temps there)) z have in
        let there_seen : is_seen g.world (location_at g.call.temps p.there) ≡ true
        = subst (λ v. is_seen g.world (location_of v) ≡ true) (sym p.is) seen in
        let m = sequence_at x types g sizing rest y t p.there e (typed.0 ∙ is) may p.has there_seen
        (subst (λ v. may_change (location_of v).base ≡ true) (sym p.is) changes) in
        let l : Location = location_at g.call.temps p.there in
        let o = int_read x g sizing rest y u (value_of w) (subst (λ k. is_int (kind_if facts k) ≡ true) (sym typed_value.0) k.1)
        (given_value (g.call.temps.values u) w have_value) in
        let s : Shape = shape_of facts e in
        let here : Around = around x.table x.blocks (body_of g) in
        let h : Housed = location (around x.table x.blocks (body_of g)) t in
        let label : ℕ = label_before (map block_plain rest) in
        let next : List WordInstr = code_next x g sizing rest y in
        let of : ℕ = m.row.of in
        let few : rank_in x.table of ≤ 63 = subst (λ v. levels (form_of facts v) ≤ 63) (sym m.row.is) m.few in
        let code : code_here x g sizing rest y
        ≡ counted_code held (cut_tail label (cut_number (first_hook x) h.ty) held (shape_bytes s) h.home next)
        = ap (λ v. counted_code held (sized_code here (is_text_entry v) label h.ty h.home held next)) m.row.entry
        ∙ ap (λ v. counted_code held (resized_code here (code_has_hooks x.table (element_in v)) label (base_at x.table h.ty) h.home held
        (each_bytes x.table (entry_at x.table h.ty)) next)) m.row.entry
        ∙ ap (λ v. counted_code held (resized_code here v label (base_at x.table h.ty) h.home held
        (each_bytes x.table (entry_at x.table h.ty)) next)) (ap (λ k. hooked (form_of facts k)) m.row.is ∙ hooks)
        ∙ ap (λ v. counted_code held (resized_code here true label v h.home held (each_bytes x.table (entry_at x.table h.ty)) next)) m.row.base
        ∙ ap (λ v. counted_code held (cut_tail label (cut_number (first_hook x) h.ty) held v h.home next)) m.row.bytes in
        subst (λ v. gives_sized (counted (number_of (value_of w)) (λ n. length_to (form_for facts v) n (location_of z)))) (sym is)
        (subst (λ v. gives_sized (counted (number_of (value_of w)) (λ n. length_to (elements (form_of facts e)) n (location_of v)))) p.is
        (subst (λ v. gives_sized (counted (number_of (value_of w)) (λ n. length_to (elements (form_of facts v)) n l))) m.row.is
        (cut_settles x g sizing rest y b.is_table b.have b.short (first_hook x) (routines_here x b g sizing rest y) b.hooks_there b.cuts_there h.ty of
        (subst (λ v. slice_get x.table v ≡ Some (D.Seq of)) m.row.base m.row.entry) (ap (λ v. hooked (form_of facts v)) m.row.is ∙ hooks)
        (built_form (form_of facts (type_at (types_in x.table) of)) (subst (λ v. is_unbuilt facts v ≡ false) (sym m.row.is) m.built))
        (room_for y of few)
        (subst (λ v. levels (form_of facts v) ≤ 64) (sym m.row.type_is) (let f = m.few in omega (arith, f))) (omega (arith, few)) l m.long m.block s h.home
        m.sequence (ap (shape_of facts) m.row.type_is) m.row.small
        (subst (λ v. form_size (form_of facts v) ≡ shape_bytes s) (sym m.row.is) m.row.size)
        (subst (λ v. (later : Blocks) (middle : Memory) (a : ℕ) → ZeroWords middle a (shape_bytes s) → Stored (is_fixed g.ground) later middle a s
        (blank (form_of facts v))) (sym m.row.is) (zeros_blank x types g sizing rest y e h.ty m.row m.built))
        (trap_at x g sizing rest OutOfRange (traps g sizing rest y OutOfRange (λ k. refl))) (number_of (value_of w)) o.fits held o.high o.word_is to
        (none_temps x g sizing rest y to (no_type (value_type x g sizing rest y to) r.given)) label
        (own_label_here x.table x.blocks (body_of g) sizing rest y.stands)
        (own_label_at x.table x.blocks (body_of g) 1 sizing rest y.stands (omega arith)) code)))
      where
        room_for : (y : IsGood x (starts g sizing rest)) (of : ℕ) → rank_in x.table of ≤ 63
            → top x g sizing rest y b.is_table b.have + LIST_BYTES * suc (chain_of Ends (rank_in x.table of)) ≤ stack_at + 268435456 - SPARE_ROOM
        room_for y of few = let r = b.room (sites_of (starts g sizing rest)) y.linked in omega (arith, few, r)

    -- of either
    sequence_by_hooks : (v : Bool) (e : Ty) → type_at_number c ≡ Some (type.sequence e) → hooked (form_of facts e) ≡ v
        → (y : IsGood x (starts g sizing rest)) (z w : Operand) → fetch g.call.temps (F.Place t) ≡ Some z → fetch g.call.temps (F.Value u) ≡ Some w
        → is_seen g.world (location_of z) ≡ true → may_change (location_of z).base ≡ true
        → gives_sized (counted (number_of (value_of w)) (λ n. length_to (form_for facts (type_at_number c)) n (location_of z)))
    sequence_by_hooks true e is h y z w have have_value seen changes = cut_two y z w have have_value seen changes e is h
    sequence_by_hooks false e is h y z w have have_value seen changes =
        length_two x types traps g rest to how c d t u y z w have have_value seen changes e is h

  -- ---- the row, of what may be resized

  kind_resized : (o : Option Ty) → is_resized (kind_if facts o) ≡ true → (is_sequence (kind_if facts o) ≡ true) ⊎ (is_text (kind_if facts o) ≡ true)
  kind_resized o h = by (kind_if facts o) h
    where
      by : (k : TypeKind) → is_resized k ≡ true → (is_sequence k ≡ true) ⊎ (is_text k ≡ true)
      by kind.text h = inr refl
      by (kind.sequence t) h = inl refl
      by k h = never h

  module _ (said : Writing x) where
    length_of_two : (c d : Option ℕ) (t u : ℕ) (y : IsGood x (starts g (sizing c d t u) rest)) (z w : Operand)
        → Have g.call.temps (F.Place t ∷ F.Value u ∷ []) (z ∷ w ∷ []) → are_seen g.world (z ∷ w ∷ []) ≡ true
        → gives_sized c d t u (unless_gone (may_change (location_of z).base)
        (counted (number_of (value_of w)) (λ n. length_to (form_for facts (type_at_number c)) n (location_of z))))
    length_of_two None d t u y z w have seen =
        never (and_parts (is_resized (kind_if facts None)) (is_int (kind_if facts (type_at_number d)))
        (fits_row x g rest to O.SetLength how None (None ∷ d ∷ []) (F.Place t ∷ F.Value u ∷ []) y).row).0
    length_of_two (Some c) None t u y z w have seen =
        never (and_parts (is_resized (kind_if facts (type_at_number (Some c)))) (is_int (kind_if facts None))
        (fits_row x g rest to O.SetLength how None (Some c ∷ None ∷ []) (F.Place t ∷ F.Value u ∷ []) y).row).1
    length_of_two (Some c) (Some d) t u y z w have seen =
        by (kind_resized (type_at_number (Some c))
        (and_parts (is_resized (kind_if facts (type_at_number (Some c)))) (is_int (kind_if facts (type_at_number (Some d))))
        (fits_row x g rest to O.SetLength how None (Some c ∷ Some d ∷ []) (F.Place t ∷ F.Value u ∷ []) y).row).0)
      where
        by : (is_sequence (kind_if facts (type_at_number (Some c))) ≡ true) ⊎ (is_text (kind_if facts (type_at_number (Some c))) ≡ true)
            → gives_sized (Some c) (Some d) t u (unless_gone (may_change (location_of z).base)
            (counted (number_of (value_of w)) (λ n. length_to (form_for facts (type_at_number (Some c))) n (location_of z))))
        by (inl sequence) =
            let s = sequence_some facts (type_at_number (Some c)) sequence in
            where_there x (starts g (sizing (Some c) (Some d) t u) rest) rest (may_change (location_of z).base)
            (λ b. gives (scene_of (high x.table x.blocks (starts g (sizing (Some c) (Some d) t u) rest))) to (costs 1 (unless_gone b
            (counted (number_of (value_of w)) (λ n. length_to (form_for facts (type_at_number (Some c))) n (location_of z)))) >>= (λ v. give v)))
            (λ before. tt)
            (λ changes. sequence_by_hooks (Some c) (Some d) t u (hooked (form_of facts s.0)) s.0 s.1 refl y z w have.0 have.1.0
            (and_parts (is_seen g.world (location_of z)) (are_seen g.world (w ∷ [])) seen).0 changes)
        by (inr text) = text_length_row x said g rest to how traps c d t u text y z w have seen

    pub length_row : (ty : Option ℕ) (of : List (Option ℕ)) (from : List From) → OwnedRow x g rest to how O.SetLength ty of from
    length_row (Some ty) of from y xs have seen = never (fits_row x g rest to O.SetLength how (Some ty) of from y).row
    length_row None [] from y xs have seen = never (fits_row x g rest to O.SetLength how None [] from y).row
    length_row None (c ∷ []) from y xs have seen = never (fits_row x g rest to O.SetLength how None (c ∷ []) from y).row
    length_row None (c ∷ d ∷ f ∷ of) from y xs have seen = never (fits_row x g rest to O.SetLength how None (c ∷ d ∷ f ∷ of) from y).row
    length_row None (c ∷ d ∷ []) [] y xs have seen = never (fits_row x g rest to O.SetLength how None (c ∷ d ∷ []) [] y).typed
    length_row None (c ∷ d ∷ []) (f ∷ []) y xs have seen =
        never (typed_parts x g f (type_at_number c) (type_at_number d ∷ []) [] (fits_row x g rest to O.SetLength how None (c ∷ d ∷ []) (f ∷ []) y).typed).1
    length_row None (c ∷ d ∷ []) (f ∷ h ∷ i ∷ from) y xs have seen =
        let t = typed_parts x g f (type_at_number c) (type_at_number d ∷ []) (h ∷ i ∷ from)
        (fits_row x g rest to O.SetLength how None (c ∷ d ∷ []) (f ∷ h ∷ i ∷ from) y).typed in
        never (typed_parts x g h (type_at_number d) [] (i ∷ from) t.1).1
    length_row None (c ∷ d ∷ []) (F.Value t ∷ f ∷ []) y xs have seen =
        never (fits_row x g rest to O.SetLength how None (c ∷ d ∷ []) (F.Value t ∷ f ∷ []) y).placed
    length_row None (c ∷ d ∷ []) (F.Place t ∷ F.Place u ∷ []) y xs have seen =
        none_stands facts (type_at_number d) true (fits_row x g rest to O.SetLength how None (c ∷ d ∷ []) (F.Place t ∷ F.Place u ∷ []) y).placed
    length_row None (c ∷ d ∷ []) (F.Place t ∷ F.Value u ∷ []) y [] have seen = absurd have
    length_row None (c ∷ d ∷ []) (F.Place t ∷ F.Value u ∷ []) y (z ∷ []) have seen = absurd have.1
    length_row None (c ∷ d ∷ []) (F.Place t ∷ F.Value u ∷ []) y (z ∷ w ∷ v ∷ xs) have seen = absurd have.1.1
    length_row None (c ∷ d ∷ []) (F.Place t ∷ F.Value u ∷ []) y (z ∷ w ∷ []) have seen = length_of_two c d t u y z w have seen

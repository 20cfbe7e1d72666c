-- Make, sequences, and an element that comes: what comes of them.
use Rattle.std.proofs.Common.{◌≡◌, refl, sym, ap, subst, ◌∙◌, arith, ℕ, ◌≤◌, Bool, true, inl, inr, ◌⊎◌, List, [], ◌∷◌, ◌++◌, Option, Some, None}
use Rattle.std.proofs.lemmas.Bool.{false≢true, and_parts, or_left}
use Rattle.nim_types.specs.Types.{Ty}
use Rattle.nim_program.specs.declared.expr.Node.{Node}
use Rattle.nim_program.specs.declared.operation.Use.{Use}
use Rattle.nim_program.specs.declared.operation.Use.TheVariants.{Owned, Given as ToPlace, Held, Lent, Looked}
use Rattle.nim_program.specs.declared.operation.Operation.{Operation}
use Rattle.nim_program.specs.declared.operation.Operation.TheVariants as O
use Rattle.nim_program.specs.Program.{Doing, Apply, Path, Args, NoArg, ByValue, ByPath, type_of, type_at, types_in}
use Rattle.nim_program.specs.Uses.{use_by}
use Rattle.nim_program.specs.Kinds.{kind_if, element_of, is_sequence, is_of}
use Rattle.nim_program.specs.Fitting.{fits, places_in}
use Rattle.nim_program.specs.Typed.{are_placed}
use Rattle.nim_program.specs.Scopes as scopes
use Rattle.nim_meaning.specs.Values.{Value, nothing, Location, Operand, Given, At}
use Rattle.nim_meaning.specs.Marks.{Member, Distinct}
use Rattle.nim_meaning.specs.State.{World}
use Rattle.nim_meaning.specs.Texts.{are_seen}
use Rattle.nim_meaning.specs.Here.{Here, gives_hooked, any_hooked, form_for}
use Rattle.nim_meaning.specs.Deeds.{give, ◌>>◌}
use Rattle.nim_meaning.specs.Waiting.{waiting_all}
use Rattle.nim_meaning.specs.Table.{acts, operates}
use Rattle.nim_meaning.specs.OwnedRows.{added, element_of as element_form_of}
use Rattle.holders.specs.Owned.{Full}
use Rattle.holders.specs.Sure.{Sure}
use Rattle.holders.specs.Becoming.{taken_in, times}
use Rattle.holders.specs.Territory.{Owner, Moves}
use Rattle.holders.specs.Ways.{Step}
use Rattle.holders.specs.Finding.{Found}
use Rattle.holders.specs.Running.{Region}
use Rattle.holders.specs.Staging.{Holding, StageWith}
use Rattle.holders.proofs.Sure.{sure_weaker, sure_answer}
use Rattle.holders.proofs.Owning.{in_first, plain_anywhere}
use Rattle.holders.proofs.Operations.{adds_element, sure_assigns}
use Rattle.holders.proofs.Staging.{stage_takes, out_as}
use Rattle.holders.specs.Asked.{Limits, IfSimple, ActAsked, AllAsked, AllWrite}
use Rattle.holders.specs.Evaluating.{operand_nodes, at_nodes}
use Rattle.holders.proofs.PartsInTurn.{in_is, operands_in}
use Rattle.holders.specs.Claimed.{ValueSo, ReadySo}
use Rattle.holders.proofs.Claims.{asked_at}
use Rattle.holders.proofs.OperandKinds.{AllRegular}
use Rattle.holders.proofs.FormKinds.{sequence_form, same_type}
use Rattle.holders.proofs.Table.{OutOf, At_stage, out_none, operated, has_hooks, hold_bare}
use Rattle.holders.proofs.PlaceRows.{found_chain}
use Rattle.holders.proofs.RowsOfOperands.{takes_held}
use Rattle.holders.proofs.Applying.{node_off, row_valued}
use Rattle.holders.proofs.WholeOperations.{apply_waits}
use Rattle.holders.proofs.WaitingTaken.{Taken, none_taken, bare_taken, held_taken, lent_taken, place_taken}
use Rattle.holders.proofs.TakenRows.{sequence_row, make_row, taken_seen}
use Rattle.holders.proofs.TakenOperations.{taken_so}
use Rattle.holders.proofs.Ledger.{times_both}

abbrev use_number : Use → ℕ
use_number Owned = 0
use_number ToPlace = 1
use_number Held = 2
use_number Lent = 3
use_number Looked = 4

other_use : {A : Type 0} {a b : Use} → a ≡ b → (use_number a ≡ use_number b → ⊥) → A
other_use e apart = absurd (apart (ap use_number e))

-- ---- an element comes

module _ (here : Here) (limits : Limits) (root : (global : Bool) → ℕ → ℕ) (r : Region) (ms os : List Owner) (first places : ℕ) (nodes old : List ℕ)
    (start now : World) where
  abbrev OutNone : Value → World → Type 0
  OutNone v after = OutOf here.facts r ms os first places nodes old start None v after

  add_holding : (a b : Option Ty) {steps : List Step} {n : ℕ} {l : Location} {v : Value} → IfSimple here.facts a →
      fits here.facts O.Add None (a ∷ b ∷ []) ≡ true → are_seen now (At l ∷ Given v ∷ []) ≡ true →
      Found (ms ++ os) now true n steps (form_for here.facts a) l → Holding (form_for here.facts b) v r ms os first places nodes old start now →
      Sure (operates O.Add here.facts None (a ∷ b ∷ []) (At l ∷ Given v ∷ [])) OutNone now
  add_holding a b {steps} {n} {l} {v} simple typed seen found held =
      let q = and_parts (is_sequence (kind_if here.facts a)) (is_of b (element_of (kind_if here.facts a))) typed in
      let e = sequence_form here.facts a simple q.0 in
      let same : form_for here.facts b ≡ e.form =
      ap (form_for here.facts) (same_type {a = b} {b = element_of (kind_if here.facts a)} q.1 ∙ e.element) ∙ e.form_is in
      let h = subst (λ g. Holding g v r ms os first places nodes old start now) same held in
      let c = found_chain (subst (λ f. Found (ms ++ os) now true n steps f l) e.is found) in
      let P : World → Type 0 = λ after. Moves (ms ++ os) h.under.given h.stage.runs.territory.blocks now after in
      let hooks = has_hooks here.facts r ms os first places nodes old start a e.is refl in
      operated here.facts r ms os first places nodes old start O.Add None (a ∷ b ∷ []) (At l ∷ Given v ∷ []) OutNone now (λ z. seen)
      (λ z. sure_assigns h.stage.runs.territory (found_chain found) (added (element_form_of (form_for here.facts a)) v l >> give nothing) OutNone
      (subst (λ f. Sure (added (element_form_of f) v l >> give nothing) OutNone now) (sym e.is)
      (out_none here.facts r ms os first places nodes old start (added e.form v l >> give nothing) now
      (sure_weaker (added e.form v l >> give nothing) (λ x after. P after × (x ≡ nothing))
      (λ x after. At_stage here.facts r ms os first places nodes old start after × (x ≡ nothing)) now
      (sure_answer (added e.form v l) nothing nothing P now (adds_element h.stage.runs.territory c h.under))
      (λ x after m. (stage_takes r os first places old start h m.0, m.1))))))
      (λ z. absurd (false≢true (sym z ∙ or_left (gives_hooked here.facts a) (any_hooked here.facts (b ∷ [])) hooks)))

  add_of : {out : ℕ → ℕ} (s : StageWith out r ms os first places nodes old start now) (ty : Option Ty) (args : Args) {xs : List Operand} {given : List ℕ} →
      ((path : Path) (rest : Args) → args ≡ ByPath path rest → IfSimple here.facts (type_at path)) →
      fits here.facts O.Add ty (types_in args) ≡ true → are_placed 1 args ≡ true → are_seen now xs ≡ true →
      Taken here limits root (λ j. Held) ms os s.runs.territory.blocks now args 0 xs given →
      ((k : ℕ) → Member k given → Member k old ⊎ (taken_in start ≤ k)) → ((k : ℕ) → times k given ≡ out k) →
      Sure (operates O.Add here.facts ty (types_in args) xs) (OutOf here.facts r ms os first places nodes old start ty) now
  add_of s (Some ty) args simple typed placed seen taken came is = absurd (false≢true typed)
  add_of s None NoArg simple typed placed seen taken came is = absurd (false≢true typed)
  add_of s None (ByValue value rest) simple typed placed seen taken came is = absurd (false≢true placed)
  add_of s None (ByPath path NoArg) simple typed placed seen taken came is = absurd (false≢true typed)
  add_of s None (ByPath path (ByPath other rest)) simple typed placed seen taken came is = absurd (false≢true placed)
  add_of s None (ByPath path (ByValue value (ByValue other rest))) simple typed placed seen taken came is = absurd (false≢true typed)
  add_of s None (ByPath path (ByValue value (ByPath other rest))) simple typed placed seen taken came is = absurd (false≢true typed)
  add_of s None (ByPath path (ByValue value NoArg)) simple typed placed seen (place_taken f e (bare_taken (inl unhooked) b none_taken)) came is =
      add_holding (type_at path) (type_of value) (simple path (ByValue value NoArg) refl) typed
      seen f (hold_bare here.facts r ms os first places nodes old start
      (out_as r os first places old start (λ k. omega (arith, is k)) s) (plain_anywhere now Full unhooked (b now)))
  add_of s None (ByPath path (ByValue value NoArg)) simple typed placed seen (place_taken f e (bare_taken (inr (inl q)) b none_taken)) came is =
      other_use q.0 (λ z. omega (arith, z))
  add_of s None (ByPath path (ByValue value NoArg)) simple typed placed seen (place_taken f e (bare_taken (inr (inr q)) b none_taken)) came is =
      other_use q (λ z. omega (arith, z))
  add_of s None (ByPath path (ByValue value NoArg)) simple typed placed seen (place_taken f e (lent_taken q hooks own a none_taken)) came is =
      other_use q (λ z. omega (arith, z))
  add_of s None (ByPath path (ByValue value NoArg)) simple typed placed seen (place_taken f e (held_taken purpose u none_taken apart)) came is =
      add_holding (type_at path) (type_of value) (simple path (ByValue value NoArg) refl) typed
      seen f (record {
        out = _;
        stage = s;
        under = u;
        came = λ k m. came k (in_first k u.given [] m);
        out_is = λ k. omega (arith, is k, times_both k u.given []);
      })

  add_row : {out : ℕ → ℕ} (s : StageWith out r ms os first places nodes old start now) (ty : Option Ty) (args : Args) {xs : List Operand} {given : List ℕ} →
      ((path : Path) (rest : Args) → args ≡ ByPath path rest → IfSimple here.facts (type_at path)) →
      fits here.facts O.Add ty (types_in args) ≡ true → are_placed 1 args ≡ true →
      Taken here limits root (λ j. Held) ms os s.runs.territory.blocks now args 0 xs given →
      ((k : ℕ) → Member k given → Member k old ⊎ (taken_in start ≤ k)) → ((k : ℕ) → times k given ≡ out k) →
      Sure (operates O.Add here.facts ty (types_in args) xs) (OutOf here.facts r ms os first places nodes old start ty) now
  add_row s ty args simple typed placed taken came is = add_of s ty args simple typed placed (taken_seen os s.runs.territory taken) taken came is

-- ---- all of them

module _ (here : Here) (scope : scopes.Here) (limits : Limits) (root : (global : Bool) → ℕ → ℕ) (first places : ℕ) (os : List Owner)
    (OfCall : ℕ → Args → Type 0) where
  all_values : (args : Args) → are_placed 0 args ≡ true → AllWrite limits args
  all_values NoArg placed = tt
  all_values (ByValue value rest) placed = all_values rest placed
  all_values (ByPath path rest) placed = absurd (false≢true placed)

  -- by the row
  one_so : (node : Node) (ty : Option Ty) (operation : Operation) (operands : Args) (how : Use) → ((j : ℕ) → use_by operation ≡ Held) →
      Distinct (node.number ∷ operand_nodes operands) → AllRegular here.facts operands → AllWrite limits operands →
      ReadySo here scope limits root first places os (λ j. use_by operation) operands 0 →
      ((ms : List Owner) (later old : List ℕ) (start now : World) (xs : List Operand) (given : List ℕ)
      (s : StageWith (λ k. times k given) (at_nodes here.level (node.number ∷ operand_nodes operands)) ms os first places later old start now) →
      Taken here limits root (λ j. use_by operation) ms os s.runs.territory.blocks now operands 0 xs given →
      ((k : ℕ) → Member k given → Member k old ⊎ (taken_in start ≤ k)) →
      Sure (operates operation here.facts ty (types_in operands) xs)
      (OutOf here.facts (at_nodes here.level (node.number ∷ operand_nodes operands)) ms os first places later old start ty) now) →
      ValueSo here scope limits root first places os (Apply node ty (Doing operation) operands) how
  one_so node ty operation operands how held d regular write ready row =
      taken_so here scope limits root first places os node ty (Doing operation) operands how (λ j. inl (held j)) d regular write ready
      (λ nodes later start world xs ms s b scene leaves st t.
      let R = at_nodes here.level (node.number ∷ operand_nodes operands) in
      let left = t.leaves nodes (waiting_all here.facts here.modes operands (λ j. use_by operation) 0) leaves in
      row_valued here first places os (Apply node ty (Doing operation) operands) (apply_waits here node ty (Doing operation) operands (λ how. refl))
      nodes t.later
      b.territory.blocks start t.own left how (acts (Doing operation) here.facts ty (types_in operands) xs) s
      (in_is node.number (node.number ∷ operand_nodes operands) (inl refl))
      (node_off (waiting_all here.facts here.modes operands (λ j. use_by operation) 0) t.own node.number b (inl refl)
      (λ m. d.0 (operands_in here.facts here.modes operands (λ j. use_by operation) 0 node.number m)) left.cells)
      (row t.own t.later b.territory.blocks start s.world xs t.given
      (out_as R os first places b.territory.blocks start (λ k. omega (arith, t.out_is k)) t.stage) t.taken
      (λ k m. simple b.territory.blocks start k (st.runs.came k (t.were k m)))))
    where
      simple : (old : List ℕ) (start : World) (k : ℕ) → Member k old ⊎ (Member k [] ⊎ (taken_in start ≤ k)) → Member k old ⊎ (taken_in start ≤ k)
      simple old start k (inl m) = inl m
      simple old start k (inr (inl m)) = elim m [ ]
      simple old start k (inr (inr le)) = inr le

  pub taken_operation_so : (node : Node) (ty : Option Ty) (operation : Operation) (operands : Args) (how : Use) → takes_held operation ≡ true →
      IfSimple here.facts ty → ActAsked here.facts limits OfCall (Doing operation) operands → AllAsked here.facts limits OfCall operands →
      AllRegular here.facts operands → fits here.facts operation ty (types_in operands) ≡ true → are_placed (places_in operation) operands ≡ true →
      Distinct (node.number ∷ operand_nodes operands) → ReadySo here scope limits root first places os (λ j. use_by operation) operands 0 →
      ValueSo here scope limits root first places os (Apply node ty (Doing operation) operands) how
  taken_operation_so node ty O.Make operands how takes simple act asked regular typed placed d ready =
      one_so node ty O.Make operands how (λ j. refl) d regular (all_values operands placed) ready
      (λ ms later old start now xs given s taken came.
      make_row here limits root (at_nodes here.level (node.number ∷ operand_nodes operands)) ms os first places later old start now s taken came ty simple
      typed placed)
  taken_operation_so node ty O.Sequence operands how takes simple act asked regular typed placed d ready =
      one_so node ty O.Sequence operands how (λ j. refl) d regular (all_values operands placed) ready
      (λ ms later old start now xs given s taken came.
      sequence_row here limits root (at_nodes here.level (node.number ∷ operand_nodes operands)) ms os first places later old start now s taken came ty
      simple typed
      placed)
  taken_operation_so node ty O.Add operands how takes simple act asked regular typed placed d ready =
      one_so node ty O.Add operands how (λ j. refl) d regular act ready
      (λ ms later old start now xs given s taken came.
      add_row here limits root (at_nodes here.level (node.number ∷ operand_nodes operands)) ms os first places later old start now s ty operands
      (λ path rest e. asked_at here.facts limits OfCall path (subst (λ z. AllAsked here.facts limits OfCall z) e asked).0) typed placed taken came (λ k. refl))
  taken_operation_so node ty O.Default operands how takes simple act asked regular typed placed d ready = absurd (false≢true takes)
  taken_operation_so node ty (O.Unary o) operands how takes simple act asked regular typed placed d ready = absurd (false≢true takes)
  taken_operation_so node ty (O.Binary o) operands how takes simple act asked regular typed placed d ready = absurd (false≢true takes)
  taken_operation_so node ty (O.Compare o) operands how takes simple act asked regular typed placed d ready = absurd (false≢true takes)
  taken_operation_so node ty O.Convert operands how takes simple act asked regular typed placed d ready = absurd (false≢true takes)
  taken_operation_so node ty O.Join operands how takes simple act asked regular typed placed d ready = absurd (false≢true takes)
  taken_operation_so node ty O.Show operands how takes simple act asked regular typed placed d ready = absurd (false≢true takes)
  taken_operation_so node ty O.NewSequence operands how takes simple act asked regular typed placed d ready = absurd (false≢true takes)
  taken_operation_so node ty (O.Measure m) operands how takes simple act asked regular typed placed d ready = absurd (false≢true takes)
  taken_operation_so node ty O.IsNil operands how takes simple act asked regular typed placed d ready = absurd (false≢true takes)
  taken_operation_so node ty O.Echo operands how takes simple act asked regular typed placed d ready = absurd (false≢true takes)
  taken_operation_so node ty O.Quit operands how takes simple act asked regular typed placed d ready = absurd (false≢true takes)
  taken_operation_so node ty O.ReadLine operands how takes simple act asked regular typed placed d ready = absurd (false≢true takes)
  taken_operation_so node ty O.ReadLineInto operands how takes simple act asked regular typed placed d ready = absurd (false≢true takes)
  taken_operation_so node ty O.Assign operands how takes simple act asked regular typed placed d ready = absurd (false≢true takes)
  taken_operation_so node ty (O.Update o) operands how takes simple act asked regular typed placed d ready = absurd (false≢true takes)
  taken_operation_so node ty O.Append operands how takes simple act asked regular typed placed d ready = absurd (false≢true takes)
  taken_operation_so node ty O.SetLength operands how takes simple act asked regular typed placed d ready = absurd (false≢true takes)
  taken_operation_so node ty O.Pop operands how takes simple act asked regular typed placed d ready = absurd (false≢true takes)
  taken_operation_so node ty O.Move operands how takes simple act asked regular typed placed d ready = absurd (false≢true takes)
  taken_operation_so node ty O.Swap operands how takes simple act asked regular typed placed d ready = absurd (false≢true takes)
  taken_operation_so node ty O.Discard operands how takes simple act asked regular typed placed d ready = absurd (false≢true takes)
  taken_operation_so node ty O.Destroy operands how takes simple act asked regular typed placed d ready = absurd (false≢true takes)
  taken_operation_so node ty O.Blank operands how takes simple act asked regular typed placed d ready = absurd (false≢true takes)

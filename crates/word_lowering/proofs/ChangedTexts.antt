-- Rows that change a text at a location, as lines: more characters come to it, or it gets another length.
use Rattle.std.proofs.Common.{◌≡◌, ℕ, ◌+◌, List, [], ◌∷◌, ◌++◌, length, map, Option, Some, None, Bool, true, false, inl, inr, refl, sym, ap}
use Rattle.std.proofs.Common.{subst, ◌∙◌, arith}
use Rattle.std.proofs.lemmas.Bool.{and_parts}
use Rattle.nim_types.specs.declared.types.TypeDef.{TypeDef}
use Rattle.nim_types.specs.declared.types.TypeDef.TheVariants as D
use Rattle.nim_types.specs.Table.{facts_in, type_at, types_in}
use Rattle.nim_types.specs.Types.{Ty}
use Rattle.nim_program.specs.declared.operation.Operation.TheVariants as O
use Rattle.nim_program.specs.declared.operation.Use.TheVariants.{Lent}
use Rattle.nim_program.specs.Kinds.{is_joined, is_text, kind_of}
use Rattle.nim_meaning.specs.Deeds.{Deed, branch, costs, frees, give, perform, refills, sets, unless_gone, ◌>>=◌, ◌>>◌}
use Rattle.nim_meaning.specs.Lifted.{fresh, has_place}
use Rattle.nim_meaning.specs.Heap.{Characters}
use Rattle.nim_meaning.specs.OwnedRows.{appended, owned}
use Rattle.nim_meaning.specs.State.{is_seen, is_there, is_whole, load, text_of}
use Rattle.nim_meaning.specs.Table.{does}
use Rattle.nim_meaning.specs.Texts.{are_seen, shown}
use Rattle.nim_meaning.specs.Values.{At, Fixed, Gone, Handle, Location, Number, Operand, Parts, Ref, Resource, Vacant, Value, block_of, is_handle, length_of}
use Rattle.nim_meaning.specs.Values.{location_of, nothing}
use Rattle.flat_code.specs.declared.block.BlockLine.{BlockLine}
use Rattle.flat_code.specs.declared.line.From.{From}
use Rattle.flat_code.specs.declared.line.From.TheVariants as F
use Rattle.flat_code.specs.declared.line.UseAt.{UseAt}
use Rattle.flat_code.specs.Codes.{block_plain}
use Rattle.flat_code.specs.Fits as fit
use Rattle.flat_code.specs.Lines.{gives}
use Rattle.flat_code.specs.Running.{scene_of}
use Rattle.flat_code.specs.Scene.{Located, Passes, Where, location_at, with_value}
use Rattle.flat_code.specs.Shapes.{block, shape_of}
use Rattle.word_code.specs.declared.word.WordInstr.{WordInstr}
use Rattle.word_code.specs.Memory.{Memory}
use Rattle.word_code.specs.Words.{Vars}
use Rattle.word_lowering.specs.declared.handed.TheConstants.{RIGHT_HANDLE_AT}
use Rattle.word_lowering.specs.declared.homes.Home.{Home as Place}
use Rattle.word_lowering.specs.LineCode.{label_before}
use Rattle.word_lowering.specs.Operands.{Around, location, operand, variable_of}
use Rattle.word_lowering.specs.OwnedCode.{appended_code, is_char, text_home}
use Rattle.word_lowering.specs.RoutineCode.{append_code}
use Rattle.word_lowering.specs.Stored.{entry_at}
use Rattle.word_lowering.proofs.AllOperands.{Have}
use Rattle.word_lowering.proofs.AppendLines.{AppendSettles, append_settles, then_at, then_good}
use Rattle.word_lowering.proofs.ApplyFits.{apply_line}
use Rattle.word_lowering.proofs.ControlLines.{value_type}
use Rattle.word_lowering.proofs.Gets.{SameTemps}
use Rattle.word_lowering.proofs.HandleLines.{HandleThere}
use Rattle.word_lowering.proofs.JoinedTypes.{text_looks}
use Rattle.word_lowering.proofs.LabelsHere.{own_label_at, own_label_here}
use Rattle.word_lowering.proofs.LetterLines.{letter_settles}
use Rattle.word_lowering.proofs.LineFits.{no_type}
use Rattle.word_lowering.proofs.Lines.{Basis, IsGood, Settles, all_sites, changed, known, starts}
use Rattle.word_lowering.proofs.OperandTexts.{IsAtPlace, IsLetter, TextsBuilt, at_place, letter_from, operand_has, placed_parts, typed_parts, type_from}
use Rattle.word_lowering.proofs.OwnedFits.{FitsRow, OwnedRow, fits_row}
use Rattle.word_lowering.proofs.OwnedHandles.{OwnedAt, owned_at}
use Rattle.word_lowering.proofs.Related.{Both, body_of, high}
use Rattle.word_lowering.proofs.RowOperands.{HasHandleAt}
use Rattle.word_lowering.proofs.GoodLeads.{data_linked}
use Rattle.word_lowering.proofs.LinkedReads.{linked_text}
use Rattle.word_lowering.proofs.Scenes.{FromData, FromOwned, looked, of_location}
use Rattle.word_lowering.proofs.Settling.{code_here, code_next}
use Rattle.word_lowering.proofs.ShapeFacts.{never}
use Rattle.word_lowering.proofs.Sites.{around, globals_of, sigs}
use Rattle.word_lowering.proofs.StoreLines.{none_temps}
use Rattle.word_lowering.proofs.ValueFacts.{HasType, has_type, look_of}
use Rattle.word_lowering.proofs.WrittenLines.{Writing}

-- a text with a block of its own, if it has one
pub record IsHandleOf (v : Value) : Type 0 where
  pub long : ℕ
  pub block : Option ℕ
  pub is : v ≡ Handle long block

pub handle_of : (v : Value) → is_handle v ≡ true → IsHandleOf v
handle_of (Handle n k) h = record { long = n; block = k; is = refl }
handle_of (Number z) h = never h
handle_of (Parts vs) h = never h
handle_of (Fixed text) h = never h
handle_of (Ref r) h = never h
handle_of (Resource vs i) h = never h
handle_of (Gone v final) h = never h
handle_of Vacant h = never h

module _ (x : Basis) (g : Both) (line : BlockLine) (rest : List BlockLine) (y : IsGood x (starts g line rest)) where
  -- the handle of a text at a location that may be written, to whose address the home of the location's house points
  pub text_there : (t : ℕ) (ty : Ty) (there : Where) → type_from x g (F.Place t) ≡ Some ty → shape_of (facts_in x.table) ty ≡ block
      → fit.may_write (known x) (sigs x.table x.blocks) (globals_of x.table x.blocks) (body_of g).proc.places t ≡ true
      → g.call.temps.places t ≡ Some there
      → is_seen g.world (location_at g.call.temps there) ≡ true → (h : IsHandleOf (load g.world (location_at g.call.temps there)))
      → HandleThere x g line rest y y.memory.bytes (location_at g.call.temps there) h.long h.block (location (around x.table x.blocks (body_of g)) t).home
  text_there t ty there typed is may e seen h =
      let has : HasType x g.call.site (of_location t) ty = has_type x g.call.site (of_location t) ty y.linked.0 typed in
      let look : looked x.table g.call.site (of_location t) ≡ block = look_of x g.call.site (of_location t) ty has ∙ is in
      let p = and_parts (is_there g.world (location_at g.call.temps there)) (is_whole g.world (load g.world (location_at g.call.temps there))) seen in
      let o : OwnedAt x g line rest y t there block
      = owned_at x g line rest y t there has.named (y.linked.0.standing t may) e block (λ l a at f. no_text l a at f h) tt look p.0 p.1 in
      let same : location_at g.call.temps there ≡ o.location_is = ap (location_at g.call.temps) o.is in
      record {
        is = h.is;
        live = p.0;
        whole = subst (λ v. is_whole g.world v ≡ true) h.is p.1;
        address = o.address;
        owned = subst (λ l. FromOwned x.table (all_sites x g line rest y) g.ground g.world l o.address block) (sym same) o.owned;
        at_home = o.at_home;
      }
    where
      -- what has a block isn't that of a literal
      fixed_no_handle : (text : List ℕ) (n : ℕ) (k : Option ℕ) → Fixed text ≡ Handle n k → ⊥
      fixed_no_handle text n k e = cc

      no_text : (l : Location) (a : ℕ) → there ≡ Located l → FromData x.table x.blocks g.ground l a block
          → IsHandleOf (load g.world (location_at g.call.temps there)) → ⊥
      no_text l a at f h =
          let t = linked_text x (starts g line rest) y l a (data_linked x (starts g line rest) y l a block refl f) in
          fixed_no_handle t.0 h.long h.block (sym (ap (λ w. load g.world (location_at g.call.temps w)) at ∙ t.1) ∙ h.is)

-- ---- a row that changes what nobody owns is at a fault: of that nothing is said

module _ (x : Basis) (g : Both) (line : BlockLine) (rest : List BlockLine) (to : ℕ) (l : Location) (more : List ℕ) where
  abbrev change : Deed (Unit {0})
  change = branch (has_place g.world (block_of (load g.world l)) (length_of (load g.world l) + length more))
      (refills (block_of (load g.world l)) (Characters (text_of g.world (load g.world l) ++ more))
      >> sets l (Handle (length_of (load g.world l) + length more) (block_of (load g.world l))))
      (fresh (length_of (load g.world l) + length more) (length_of (load g.world l) + length more) (Characters (text_of g.world (load g.world l) ++ more))
      >>= (λ new. sets l new >> frees (block_of (load g.world l))))

  abbrev Settled_by : (seen handled : Bool) → Type 0
  Settled_by seen handled = Settles x (starts g line rest) rest (Passes (perform ((costs 1 (costs (length more) (unless_gone seen (unless_gone handled change))
      >> give nothing) >>= (λ v. give v)) >>= (λ v. give (with_value to g.call.temps v))) g.world))

  gone_settles : is_seen g.world l ≡ true → is_handle (load g.world l) ≡ false
      → Settles x (starts g line rest) rest (gives (scene_of (high x.table x.blocks (starts g line rest))) to
      (costs 1 (appended more l >> give nothing) >>= (λ v. give v)))
  gone_settles seen gone =
      subst (Settled_by (is_seen g.world l)) (sym gone) (subst (λ b. Settled_by b false) (sym seen) (λ before. tt))

module _ (x : Basis) (said : Writing x) (texts : TextsBuilt x) (g : Both) (rest : List BlockLine) (to : ℕ) (how : UseAt) where
  abbrev type : ℕ → Ty
  type n = type_at (types_in x.table) n

  -- ---- more characters come

  module _ (a b t : ℕ) (f : From) where
    abbrev line : BlockLine
    line = apply_line x g rest to O.Append how None (Some a ∷ Some b ∷ []) (F.Place t ∷ f ∷ [])

    abbrev gives_it : Deed Value → Type 0
    gives_it d = Settles x (starts g line rest) rest (gives (scene_of (high x.table x.blocks (starts g line rest))) to (costs 1 d >>= (λ v. give v)))

    module _ (y : IsGood x (starts g line rest)) (z w : Operand) (have : Have g.call.temps (F.Place t ∷ f ∷ []) (z ∷ w ∷ []))
        (seen : are_seen g.world (z ∷ w ∷ []) ≡ true) where
      abbrev more : List ℕ
      more = shown (facts_in x.table) g.world (Some (type b)) w

      append_there : (p : IsAtPlace (g.call.temps.places t) (λ there. At (location_at g.call.temps there)) z)
          → is_handle (load g.world (location_at g.call.temps p.there)) ≡ true
          → gives_it (appended more (location_at g.call.temps p.there) >> give nothing)
      append_there p handled =
          let here : Around = around x.table x.blocks (body_of g) in
          let r : FitsRow x g rest to O.Append how None (Some a ∷ Some b ∷ []) (F.Place t ∷ f ∷ []) y
          = fits_row x g rest to O.Append how None (Some a ∷ Some b ∷ []) (F.Place t ∷ f ∷ []) y in
          let q = and_parts (is_text (kind_of (facts_in x.table) (type a))) (is_joined (kind_of (facts_in x.table) (type b))) r.row in
          let t1 = typed_parts x g (F.Place t) (Some (type a)) (Some (type b) ∷ []) (f ∷ []) r.typed in
          let t2 = typed_parts x g f (Some (type b)) [] [] t1.1 in
          let l2 = placed_parts (facts_in x.table) Lent f (Some (type b)) [] [] r.placed in
          let s1 = and_parts (is_seen g.world (location_of z)) (are_seen g.world (w ∷ [])) seen in
          let s2 = and_parts (is_seen g.world (location_of w)) (are_seen g.world []) s1.1 in
          let may = (and_parts (fit.may_write (known x) (sigs x.table x.blocks) (globals_of x.table x.blocks) (body_of g).proc.places t) true r.written).0 in
          let home : Place = (location here t).home in
          let next : List WordInstr = code_next x g line rest y in
          let l : Location = location_at g.call.temps p.there in
          let h : IsHandleOf (load g.world l) = handle_of (load g.world l) handled in
          let there_seen : is_seen g.world l ≡ true = subst (λ u. is_seen g.world (location_of u) ≡ true) (sym p.is) s1.0 in
          let none = no_type (value_type x g line rest y to) r.given in
          -- also in another memory, with other words for what comes between
          let there : (v : Vars) (m : Memory) (good : IsGood x (starts (changed g rest g.call.temps v m g.words g.awaits g.world) line rest))
          → HandleThere x (changed g rest g.call.temps v m g.words g.awaits g.world) line rest good good.memory.bytes l h.long h.block home
          = λ v m good. text_there x (changed g rest g.call.temps v m g.words g.awaits g.world) line rest good t (type a) p.there t1.0
          (text_looks (facts_in x.table) (type a) q.0) may p.has there_seen h in
          let nothing_there : (v : Vars) (m : Memory) (good : IsGood x (starts (changed g rest g.call.temps v m g.words g.awaits g.world) line rest))
          → SameTemps x (changed g rest g.call.temps v m g.words g.awaits g.world) line rest good (with_value to g.call.temps nothing)
          = λ v m good. none_temps x (changed g rest g.call.temps v m g.words g.awaits g.world) line rest good to none in
          let label : ℕ = label_before (map block_plain rest) in
          let code_is : (d : Option TypeDef) → entry_at x.table b ≡ d
          → code_here x g line rest y ≡ appended_code here (is_char d) label home (Some b) (operand here f) next
          = λ d e. ap (λ i. appended_code here (is_char i) label home (Some b) (operand here f) next) e in
          elim (said.joined b q.1) [
            | inl text ↦
                let from : Place = text_home here RIGHT_HANDLE_AT (Some b) (operand here f) in
                let k : List WordInstr = append_code home from next in
                let has : HasHandleAt x said g line rest y RIGHT_HANDLE_AT (code_here x g line rest y) k from more
                = subst (λ ls. HasHandleAt x said g line rest y RIGHT_HANDLE_AT ls k from more) (sym (code_is (Some D.Text) text))
                (operand_has x said texts g line rest y RIGHT_HANDLE_AT (omega arith) (omega arith) (omega arith) k b w s2.0 f have.1.0 t2.0 (inl text)
                l2.0) in
                let good : IsGood x (starts (then_at x said g line rest y (code_here x g line rest y) next home from more has) line rest)
                = then_good x said g line rest y (code_here x g line rest y) next home from more has in
                append_settles x said g line rest y to l more home from has good.memory.bytes h.long h.block (there has.vars has.memory good)
                (nothing_there has.vars has.memory good)
            | inr char ↦
                let s : IsLetter x said texts g line rest y f more
                = letter_from x said texts g line rest y RIGHT_HANDLE_AT (omega arith) (omega arith) (omega arith) [] b w s2.0 f have.1.0 t2.0 char.0 char.1
                l2.0 in
                subst (AppendSettles x said g line rest y to l) s.is
                (letter_settles x said g line rest y l h.long h.block home there
                (text_there x g line rest y t (type a) p.there t1.0 (text_looks (facts_in x.table) (type a) q.0) may p.has there_seen h)
                s.letter (variable_of (operand here f)) s.small s.high s.word_is to nothing_there (none_temps x g line rest y to none) label
                (own_label_here x.table x.blocks (body_of g) line rest y.stands)
                (own_label_at x.table x.blocks (body_of g) 1 line rest y.stands (omega arith)) (code_is (Some D.Char) char.0))
          ]

      -- what nobody owns can't be changed
      append_by : (p : IsAtPlace (g.call.temps.places t) (λ there. At (location_at g.call.temps there)) z) (b : Bool)
          → is_handle (load g.world (location_at g.call.temps p.there)) ≡ b
          → gives_it (appended more (location_at g.call.temps p.there) >> give nothing)
      append_by p true e = append_there p e
      append_by p false e =
          let s1 = and_parts (is_seen g.world (location_of z)) (are_seen g.world (w ∷ [])) seen in
          let l : Location = location_at g.call.temps p.there in
          let there_seen : is_seen g.world l ≡ true = subst (λ u. is_seen g.world (location_of u) ≡ true) (sym p.is) s1.0 in
          gone_settles x g line rest to l more there_seen e

      pub append_two : gives_it (owned O.Append (facts_in x.table) None (Some (type a) ∷ Some (type b) ∷ []) (z ∷ w ∷ [])
          (does O.Append (facts_in x.table) None (Some (type a) ∷ Some (type b) ∷ []) (z ∷ w ∷ [])))
      append_two =
          let p = at_place (g.call.temps.places t) (λ there. At (location_at g.call.temps there)) z have.0 in
          subst (λ u. gives_it (appended more (location_of u) >> give nothing)) p.is
          (append_by p (is_handle (load g.world (location_at g.call.temps p.there))) refl)

  pub append_row : (ty : Option ℕ) (of : List (Option ℕ)) (from : List From) → OwnedRow x g rest to how O.Append ty of from
  append_row (Some ty) of from y xs have seen = never (fits_row x g rest to O.Append how (Some ty) of from y).row
  append_row None [] from y xs have seen = never (fits_row x g rest to O.Append how None [] from y).row
  append_row None (a ∷ []) from y xs have seen = never (fits_row x g rest to O.Append how None (a ∷ []) from y).row
  append_row None (a ∷ b ∷ c ∷ of) from y xs have seen = never (fits_row x g rest to O.Append how None (a ∷ b ∷ c ∷ of) from y).row
  append_row None (None ∷ b ∷ []) from y xs have seen = never (fits_row x g rest to O.Append how None (None ∷ b ∷ []) from y).row
  append_row None (Some a ∷ None ∷ []) from y xs have seen =
      never (and_parts (is_text (kind_of (facts_in x.table) (type a))) _ (fits_row x g rest to O.Append how None (Some a ∷ None ∷ []) from y).row).1
  append_row None (Some a ∷ Some b ∷ []) [] y xs have seen = never (fits_row x g rest to O.Append how None (Some a ∷ Some b ∷ []) [] y).typed
  append_row None (Some a ∷ Some b ∷ []) (f ∷ []) y xs have seen =
      never (typed_parts x g f (Some (type a)) (Some (type b) ∷ []) [] (fits_row x g rest to O.Append how None (Some a ∷ Some b ∷ []) (f ∷ []) y).typed).1
  append_row None (Some a ∷ Some b ∷ []) (f ∷ h ∷ i ∷ from) y xs have seen =
      let t = typed_parts x g f (Some (type a)) (Some (type b) ∷ []) (h ∷ i ∷ from)
      (fits_row x g rest to O.Append how None (Some a ∷ Some b ∷ []) (f ∷ h ∷ i ∷ from) y).typed in
      never (typed_parts x g h (Some (type b)) [] (i ∷ from) t.1).1
  append_row None (Some a ∷ Some b ∷ []) (F.Value t ∷ f ∷ []) y xs have seen =
      never (fits_row x g rest to O.Append how None (Some a ∷ Some b ∷ []) (F.Value t ∷ f ∷ []) y).placed
  append_row None (Some a ∷ Some b ∷ []) (F.Place t ∷ f ∷ []) y [] have seen = absurd have
  append_row None (Some a ∷ Some b ∷ []) (F.Place t ∷ f ∷ []) y (z ∷ []) have seen = absurd have.1
  append_row None (Some a ∷ Some b ∷ []) (F.Place t ∷ f ∷ []) y (z ∷ w ∷ u ∷ xs) have seen = absurd have.1.1
  append_row None (Some a ∷ Some b ∷ []) (F.Place t ∷ f ∷ []) y (z ∷ w ∷ []) have seen = append_two a b t f y z w have seen

-- Lines that end the program are followed.
use Rattle.std.proofs.Common.{◌≡◌, ℕ, ◌%◌, List, [], ◌∷◌, Option, Some, None, true, sym, ap, subst, ◌∙◌, arith, false}
use Rattle.arc_base.specs.Behaviour.{no_objects}
use Rattle.arc_base.specs.Stepping.{Ends}
use Rattle.std.proofs.lemmas.Bool.{and_parts}
use Rattle.nim_program.specs.Ints.{low_byte}
use Rattle.nim_meaning.specs.Values.{number_of, Given, value_of}
use Rattle.nim_meaning.specs.Deeds.{end, costs, ◌>>=◌}
use Rattle.nim_program.specs.declared.operation.Operation.TheVariants as O
use Rattle.flat_code.specs.declared.block.BlockLine.{BlockLine}
use Rattle.flat_code.specs.declared.line.From.{From}
use Rattle.flat_code.specs.declared.line.From.TheVariants as F
use Rattle.flat_code.specs.declared.line.Line.TheVariants as L
use Rattle.word_code.specs.declared.word.WordInstr.{WordInstr}
use Rattle.word_code.specs.declared.word.WordInstr.TheVariants.{Exit}
use Rattle.word_code.specs.Words.{Vars, put, WordState, settled as word_settled, using as word_using, Exits as WordExits}
use Rattle.word_code.proofs.ForCallers.{got, at, run_constant, ends_one, stops_on, AlwaysStops}
use Rattle.word_lowering.specs.declared.homes.TheConstants.{FIRST}
use Rattle.word_lowering.specs.Operations.{word}
use Rattle.word_lowering.specs.LineCode.{exit_code}
use Rattle.word_lowering.proofs.Arithmetic.{exit_status}
use Rattle.word_lowering.proofs.Related.{low, Both, body_of, high, within}
use Rattle.flat_code.specs.Fits.{is_value}
use Rattle.flat_code.specs.Lines.{gives}
use Rattle.flat_code.specs.Running.{scene_of}
use Rattle.nim_meaning.specs.Places.{kept_if}
use Rattle.nim_program.specs.Kinds.{is_int, kind_if, same_value}
use Rattle.nim_program.specs.View.{if_type}
use Rattle.flat_code.specs.declared.line.UseAt.{UseAt}
use Rattle.nim_types.specs.Table.{facts_in}
use Rattle.word_lowering.proofs.ApplyFits.{applies, RowHere}
use Rattle.word_lowering.proofs.ControlLines.{int_read, kind_at, plain, value_type}
use Rattle.word_lowering.proofs.LineFits.{same_type}
use Rattle.word_lowering.proofs.Lines.{Basis, all_procs, known, lower, mapped_settles, starts, bound_for}
use Rattle.word_lowering.proofs.NumberLines.{variable}
use Rattle.word_lowering.proofs.Settling.{LabelsLead, code_next, stops_more}
use Rattle.word_lowering.proofs.ShapeFacts.{never}
use Rattle.word_lowering.proofs.ValueFacts.{type_in}

module _ (x : Basis) (g : Both) where
  -- a line that ends
  pub exits : (k : List WordInstr) (vars : Vars) (status a : ℕ) → vars status ≡ Some a
      → AlwaysStops (lower x) (at (within x.table x.blocks g) g.memory (Exit status ∷ k) vars g.words) [] 1 (a % 256) no_objects
  exits k vars status a e =
      let s : WordState = at (within x.table x.blocks g) g.memory (Exit status ∷ k) vars g.words in
      ends_one (lower x) s [] 1 (a % 256) no_objects
      (λ bytes. ap (λ o. word_settled x.live (all_procs x) bytes s k (word_using o (λ b. WordExits (b % 256)))) e ∙ ap (λ l. Ends [] 1 (a % 256) l)
      (x.none g.memory))

  pub zero_exits : (k : List WordInstr) → AlwaysStops (lower x) (at (within x.table x.blocks g) g.memory (exit_code k) g.call.vars g.words) [] 2 0 no_objects
  zero_exits k =
      let v1 : Vars = put g.call.vars FIRST 0 in
      let r1 = run_constant x.live (all_procs x) (within x.table x.blocks g) g.memory (Exit FIRST ∷ k) g.call.vars g.words FIRST 0 in
      stops_on (lower x) 1 1 1 0 (at (within x.table x.blocks g) g.memory (exit_code k) g.call.vars g.words)
      (at (within x.table x.blocks g) g.memory (Exit FIRST ∷ k) v1 g.words) [] [] no_objects r1
      (exits k v1 FIRST 0 (got 0 (omega arith)))

module _ (x : Basis) (labels : LabelsLead x) (g : Both) (rest : List BlockLine) (to : ℕ) (how : UseAt) where
  quit_zero : RowHere x g rest to O.Quit how None [] []
  quit_zero names y =
      let line = plain (L.Apply to O.Quit how None [] []) in
      stops_more (lower x) (low x.table x.blocks (starts g line rest)) 2 256 0 [] no_objects (omega arith)
      (zero_exits x g (code_next x g line rest y)) x.fresh

  quit_status : (a : Option ℕ) (status : ℕ) → RowHere x g rest to O.Quit how None (a ∷ []) (F.Value status ∷ [])
  quit_status a status names y =
      let line = plain (L.Apply to O.Quit how None (a ∷ []) (F.Value status ∷ [])) in
      let f = applies x g rest to O.Quit how None (a ∷ []) (F.Value status ∷ []) names y in
      let v = same_type (value_type x g line rest y status) (if_type (known x).types a)
      (and_parts (same_value (value_type x g line rest y status) (if_type (known x).types a)) true f.typed).0 in
      let k : is_int (kind_at x g line rest y status) ≡ true
      = subst (λ o. is_int (kind_if (facts_in x.table) o) ≡ true) (sym v) f.row in
      mapped_settles x (starts g line rest) rest (g.call.temps.values status) Given
      (λ z. gives (scene_of (high x.table x.blocks (starts g line rest))) to
      (costs 1 (end (low_byte (number_of (value_of z)))) >>= kept_if false (bound_for g how)))
      (λ v e. let o = int_read x g line rest y status v k e in
      let s = exits x g (code_next x g line rest y) g.call.vars (variable x g line rest y status) (word (number_of v)) o.word_is in
      subst (λ n. AlwaysStops (lower x) (low x.table x.blocks (starts g line rest)) [] 256 n no_objects) (exit_status (number_of v) o.fits)
      (stops_more (lower x) (low x.table x.blocks (starts g line rest)) 1 256 (word (number_of v) % 256) [] no_objects (omega arith) s) x.fresh)

  pub quit_line : (ty : Option ℕ) (of : List (Option ℕ)) (from : List From) → RowHere x g rest to O.Quit how ty of from
  quit_line None [] [] names y = quit_zero names y
  quit_line None (a ∷ []) (F.Value status ∷ []) names y = quit_status a status names y
  quit_line (Some ty) of from names y = never (applies x g rest to O.Quit how (Some ty) of from names y).row
  quit_line None [] (other ∷ from) names y = never (applies x g rest to O.Quit how None [] (other ∷ from) names y).typed
  quit_line None (a ∷ b ∷ of) from names y = never (applies x g rest to O.Quit how None (a ∷ b ∷ of) from names y).row
  quit_line None (a ∷ []) [] names y = never (applies x g rest to O.Quit how None (a ∷ []) [] names y).typed
  quit_line None (a ∷ []) (F.Place t ∷ others) names y = never (applies x g rest to O.Quit how None (a ∷ []) (F.Place t ∷ others) names y).placed
  quit_line None (a ∷ []) (F.Value status ∷ other ∷ others) names y =
      never (and_parts (same_value (type_in x is_value (body_of g) status) (if_type (known x).types a)) false
      (applies x g rest to O.Quit how None (a ∷ []) (F.Value status ∷ other ∷ others) names y).typed).1

-- Code that writes texts which are in memory from the beginning.
use Rattle.std.proofs.Common.{◌≡◌, ℕ, ◌+◌, ◌^◌, ◌<◌, ◌≤◌, List, [], ◌∷◌, ◌++◌, length, Some, true, ap, ap₂, ◌∙◌, arith}
use Rattle.std.specs.Set.{is_member}
use Rattle.arc_base.specs.Event.{writes}
use Rattle.arc_base.specs.declared.outside.Stream.TheVariants.{Out}
use Rattle.nim_types.specs.Types.{same_text}
use Rattle.flat_code.specs.declared.block.BlockLine.{BlockLine}
use Rattle.flat_code.specs.Sizes.{lines_texts}
use Rattle.word_code.specs.declared.word.WordInstr.{WordInstr}
use Rattle.word_code.specs.declared.word.WordInstr.TheVariants.{Constant}
use Rattle.word_code.specs.Memory.{Memory, bytes_at}
use Rattle.word_code.specs.Words.{Vars, WordState, put, scene_of as word_scene, settled, shows, using}
use Rattle.word_code.proofs.ForCallers.{at, got, on, one, run_constant, run_datum, then_runs, AlwaysSteps}
use Rattle.word_lowering.specs.Lowered.{data_at}
use Rattle.word_lowering.specs.declared.homes.TheConstants.{FIRST, SECOND}
use Rattle.word_lowering.specs.declared.texts.TheConstants.{FIXED_BYTES, LINE_END_AT}
use Rattle.word_lowering.specs.Aliases.{texts_of}
use Rattle.word_lowering.specs.LineCode.{text_code, write_code, literal_at, text_at}
use Rattle.word_lowering.proofs.Lines.{Basis, IsGood, all_procs, lower, starts}
use Rattle.word_lowering.proofs.Moves.{same_first, same_more, same_second}
use Rattle.rv32_isa.specs.Regions.{AreBytes}
use Rattle.word_lowering.proofs.Related.{Both, IsText, within, sites_of, is_text_of_data}
use Rattle.word_lowering.proofs.Sites.{Body, IsBody, around, data_end, lines_of}
use Rattle.word_lowering.proofs.Told.{Tells, none_tells, told_none}

-- a text in the data at the start, beside all places
pub record TextAt (x : Basis) (from : ℕ) (text : List ℕ) : Type 0 where
  pub is_text : IsText x.table x.blocks (data_at + from) (length text)
  pub small : data_at + from + length text < 2 ^ 32
  pub bytes : bytes_at x.first (data_at + from) (length text) ≡ Some text

-- the line end is there, and so are the texts of a procedure's lines, by where they stand among all and by what they are
pub record LiteralsThere (x : Basis) : Type 0 where
  pub line_end : TextAt x LINE_END_AT (10 ∷ [])
  pub laid : (b : Body) → IsBody x.table x.blocks b → (text : List ℕ) → is_member same_text (lines_texts (lines_of b)) text ≡ true
      → TextAt x (text_at (around x.table x.blocks b) text) text
  -- nothing changes them
  pub fixed : (b : Body) → IsBody x.table x.blocks b → (text : List ℕ) → is_member same_text (lines_texts (lines_of b)) text ≡ true → AreBytes text
      → is_text_of_data x.table x.blocks x.first (data_at + text_at (around x.table x.blocks b) text) text ≡ true
  pub literal : (b : Body) → IsBody x.table x.blocks b → (before text after : List ℕ) → texts_of (lines_of b) ≡ before ++ (text ++ after)
      → is_member same_text (lines_texts (lines_of b)) text ≡ true → TextAt x (literal_at (around x.table x.blocks b) (length before) (length text)) text

module _ (x : Basis) (least : FIXED_BYTES ≤ data_end x.table x.blocks) (g : Both) (line : BlockLine) (rest : List BlockLine)
    (y : IsGood x (starts g line rest)) where
  -- the last line of each
  pub write_one : (m : Memory) (k : List WordInstr) (v : Vars) (a n : ℕ) (text : List ℕ) → v FIRST ≡ Some a → v SECOND ≡ Some n → bytes_at m a n ≡ Some text
      → AlwaysSteps (lower x) 1 (at (within x.table x.blocks g) m (write_code k) v g.words) (writes Out text) 1 (at (within x.table x.blocks g) m k v g.words)
  write_one m k v a n text e1 e2 here =
      let s : WordState = at (within x.table x.blocks g) m (write_code k) v g.words in
      one (lower x) (λ fresh. ap₂ (λ o p. settled x.live (all_procs x) fresh s k
      (using o (λ b. using p (λ e. shows (word_scene s) Out (bytes_at m b e))))) e1 e2
      ∙ ap (λ o. settled x.live (all_procs x) fresh s k (shows (word_scene s) Out o)) here)

  -- a text that is in memory from the beginning
  pub text_still : (from : ℕ) (text : List ℕ) → TextAt x from text → bytes_at g.memory (data_at + from) (length text) ≡ Some text
  text_still from text t = y.memory.texts (data_at + from) (length text) t.is_text ∙ t.bytes

  pub text_tells : (parts from : ℕ) (text : List ℕ) (k : List WordInstr) → TextAt x from text
      → Tells x least g line rest y parts (text_code from (length text) k) k text
  text_tells parts from [] k t = none_tells x least g line rest y parts k
  text_tells parts from (c ∷ text) k t =
      let n : ℕ = length (c ∷ text) in
      let v1 : Vars = put g.call.vars FIRST (data_at + 0 + from) in
      let v2 : Vars = put v1 SECOND n in
      let small = t.small in
      let place : (data_at + 0 + from) ≡ data_at + from = omega arith in
      let e1 : v2 FIRST ≡ Some (data_at + from) = got (data_at + 0 + from) (omega (arith, small)) ∙ ap Some place in
      let e2 : v2 SECOND ≡ Some n = got n (omega (arith, small)) in
      let r1 = run_datum x.live (all_procs x) (within x.table x.blocks g) g.memory (Constant SECOND n ∷ write_code k) g.call.vars g.words FIRST from in
      let r2 = run_constant x.live (all_procs x) (within x.table x.blocks g) g.memory (write_code k) v1 g.words SECOND n in
      record {
        vars = v2;
        same = same_more g.call.vars v1 v2 (same_first g.call.vars (data_at + 0 + from)) (same_second v1 n);
        memory = g.memory;
        told = told_none x least (sites_of g) g.memory y.memory;
        words = g.words;
        awaits = g.awaits;
        count = 3;
        few = omega arith;
        steps = on (lower x) (then_runs x.live (all_procs x) r1 r2)
            (write_one g.memory k v2 (data_at + from) n (c ∷ text) e1 e2 (text_still from (c ∷ text) t));
      }

-- Where the labels of a procedure lead, from a line of it.
use Rattle.std.proofs.Common.{◌≡◌, ℕ, suc, ◌+◌, ◌*◌, ◌<◌, ◌≤◌, List, [], ◌∷◌, ◌++◌, length, map, Option, Some, None, Bool, true, false, ◌^◌}
use Rattle.std.proofs.Common.{refl, sym, ap, subst, ◌∙◌, arith, append_assoc}
use Rattle.std.specs.Prelude.{if◌then◌else◌}
use Rattle.std.proofs.lemmas.Bool.{and_parts}
use Rattle.nim_types.specs.declared.types.TypeDef.{TypeDef}
use Rattle.flat_code.specs.declared.block.BlockLine.{BlockLine}
use Rattle.flat_code.specs.declared.code.Code.{Code}
use Rattle.flat_code.specs.declared.line.Line.{Line}
use Rattle.word_code.specs.declared.word.WordInstr.{WordInstr}
use Rattle.word_code.specs.Words.{from_label}
use Rattle.flat_code.specs.Scene.{known_in}
use Rattle.flat_code.specs.Fits.{all_fit}
use Rattle.flat_code.specs.Running.{is_name, from_label as line_from}
use Rattle.flat_code.specs.Codes.{block_label, block_plain}
use Rattle.flat_code.specs.Whole.{label_in}
use Rattle.word_lowering.specs.declared.homes.Housed.{Housed}
use Rattle.word_lowering.specs.Layouts.{result_in}
use Rattle.word_lowering.specs.Spots.{spot_of}
use Rattle.word_code.specs.declared.word.WordInstr.TheVariants.{Constant}
use Rattle.word_lowering.specs.LineCode as code
use Rattle.word_lowering.specs.LineCode.{Around, arguments_of, label_before, labels_in}
use Rattle.word_lowering.specs.Lowered.{result_cleared, begin_code, code_of, last_code, any_branches}
use Rattle.word_lowering.specs.WaitingCode.{none_code}
use Rattle.word_lowering.specs.declared.homes.Layout.{Layout}
use Rattle.word_lowering.specs.declared.homes.Waiter.{Waiter}
use Rattle.word_lowering.proofs.Options.{none_some, some_same}
use Rattle.word_lowering.proofs.Fronts.{IsFront, front_none, front_more, front_on, cleared_front}
use Rattle.word_lowering.proofs.LabelFacts.{front_quiet, lines_append, code_from, label_found, labels_more, own_found, trap_found, any_behind, any_among}
use Rattle.word_lowering.proofs.Sites.{Body, lines_of, around, word_of, IsBody, sigs, globals_of}
use Rattle.word_lowering.proofs.Related.{code_last, code_behind, StandAt}

-- ---- all lines of a procedure: first nothing waits, and its result is cleared

result_front : (own : ℕ) (r : Option Housed) → IsFront own 0 (result_cleared r)
result_front own None = front_none own 0
result_front own (Some r) = cleared_front own 0 r.is_word r.bytes (spot_of r)

none_front : (own : ℕ) (ws : List Waiter) → IsFront own 0 (none_code ws)
none_front own [] = front_none own 0
none_front own (w ∷ ws) = front_more own 0 (Constant w.variable 0) (none_code ws) refl (none_front own ws)

begin_front : (own : ℕ) (l : Layout) → IsFront own 0 (begin_code l)
begin_front own l = front_on own 0 (none_code l.waiters) (result_cleared (result_in l.all)) (none_front own l.waiters) (result_front own (result_in l.all))

module _ (x : Around) (lines : List Line) where
  -- without what stands at the end
  abbrev pub first_lines : List WordInstr
  first_lines = begin_code x.own (code.lines_code x lines [])

  pub code_is : code_of x lines ≡ begin_code x.own (code.lines_code x lines (last_code first_lines))
  code_is =
      let r = begin_front 0 x.own in
      let front : List WordInstr = begin_code x.own [] in
      let last : List WordInstr = last_code first_lines in
      ap (λ l. l ++ last) (r.is (code.lines_code x lines []))
      ∙ append_assoc front (code.lines_code x lines []) last
      ∙ ap (λ l. front ++ l) (sym (lines_append x lines last))
      ∙ sym (r.is (code.lines_code x lines last))

  -- what comes first lets a search pass
  body_found : (n : ℕ) → from_label n (code_of x lines) ≡ from_label n (code.lines_code x lines (last_code first_lines))
  body_found n =
      ap (from_label n) code_is
      ∙ front_quiet (suc n) 0 n (λ i few e. absurd (omega (arith, e))) (begin_code x.own) (begin_front (suc n) x.own)
      (code.lines_code x lines (last_code first_lines))

  pub first_branches : (n : ℕ) → any_branches n (code.lines_code x lines []) ≡ true → any_branches n first_lines ≡ true
  first_branches n h =
      ap (any_branches n) ((begin_front 0 x.own).is (code.lines_code x lines []))
      ∙ any_behind n (begin_code x.own []) (code.lines_code x lines []) h

map_append : (before rest : List BlockLine) → map block_plain (before ++ rest) ≡ map block_plain before ++ map block_plain rest
map_append [] rest = refl
map_append (p ∷ before) rest = ap (λ l. block_plain p ∷ l) (map_append before rest)

-- lines of block code from a label on, as plain lines
abbrev plain_lines : Option (List BlockLine) → Option (List Line)
plain_lines None = None
plain_lines (Some rest) = Some (map block_plain rest)

map_from : (name : ℕ) (lines : List BlockLine) → line_from label_in name (map block_plain lines) ≡ plain_lines (line_from block_label name lines)
map_from name [] = refl
map_from name (line ∷ lines) = by (is_name name (label_in (block_plain line))) (map_from name lines)
  where
    by : (b : Bool) → line_from label_in name (map block_plain lines) ≡ plain_lines (line_from block_label name lines)
        → (if b then Some (block_plain line ∷ map block_plain lines) else line_from label_in name (map block_plain lines))
        ≡ plain_lines (if b then Some (line ∷ lines) else line_from block_label name lines)
    by true e = refl
    by false e = e

module _ (table : List TypeDef) (blocks : Code BlockLine) (b : Body) where
  -- the lines of a procedure, by where one stands
  split : (line : BlockLine) (rest : List BlockLine) (s : StandAt table blocks b (line ∷ rest))
      → lines_of b ≡ map block_plain s.before ++ block_plain line ∷ map block_plain rest
  split line rest s = ap (map block_plain) s.whole ∙ map_append s.before (line ∷ rest)

  -- a line has fewer operands than the procedure has labels
  pub few_operands : (line : BlockLine) (rest : List BlockLine) → IsBody table blocks b → StandAt table blocks b (line ∷ rest)
      → length (arguments_of (block_plain line)) < 2 ^ 32
  few_operands line rest is s =
      let most = is.labels in
      let all = ap labels_in (split line rest s) in
      let own = labels_more (map block_plain s.before) (block_plain line) (map block_plain rest) in
      omega (arith, most, all, own)

  -- a label of the line's own
  pub own_label_at : (i : ℕ) (line : BlockLine) (rest : List BlockLine) → StandAt table blocks b (line ∷ rest) → i ≤ length (arguments_of (block_plain line))
      → from_label (label_before (map block_plain rest) + 2 * i) (word_of table blocks b).lines
      ≡ from_label (label_before (map block_plain rest) + 2 * i) (code_behind table blocks b (line ∷ rest))
  own_label_at i line rest s few =
      let n : ℕ = label_before (map block_plain rest) + 2 * i in
      let x : Around = around table blocks b in
      body_found x (lines_of b) n
      ∙ ap (λ l. from_label n (code.lines_code x l (code_last table blocks b))) (split line rest s)
      ∙ own_found x (code_last table blocks b) i (map block_plain s.before) (block_plain line) (map block_plain rest) few

  pub own_label_here : (line : BlockLine) (rest : List BlockLine) → StandAt table blocks b (line ∷ rest)
      → from_label (label_before (map block_plain rest)) (word_of table blocks b).lines
      ≡ from_label (label_before (map block_plain rest)) (code_behind table blocks b (line ∷ rest))
  own_label_here line rest s =
      let n : ℕ = label_before (map block_plain rest) in
      let none : n + 2 * 0 ≡ n = omega arith in
      subst (λ m. from_label m (word_of table blocks b).lines ≡ from_label m (code_behind table blocks b (line ∷ rest))) none
      (own_label_at 0 line rest s (omega arith))

  -- the label of a trap
  pub trap_label_here : (n : ℕ) → n < 8 → from_label n (word_of table blocks b).lines ≡ from_label n (code_last table blocks b)
  trap_label_here n low =
      body_found (around table blocks b) (lines_of b) n ∙ trap_found (around table blocks b) (code_last table blocks b) n low (lines_of b)

  -- a branch of a line is one of all
  pub branches_here : (n : ℕ) (line : BlockLine) (rest : List BlockLine) → StandAt table blocks b (line ∷ rest)
      → any_branches n (code.line_code (around table blocks b) (block_plain line) (label_before (map block_plain rest))
      (code.behind_line (around table blocks b) (block_plain line) (code.lines_code (around table blocks b) (map block_plain rest) []))) ≡ true
      → any_branches n (first_lines (around table blocks b) (lines_of b)) ≡ true
  branches_here n line rest s h =
      let x : Around = around table blocks b in
      first_branches x (lines_of b) n
      (ap (λ l. any_branches n (code.lines_code x l [])) (split line rest s)
      ∙ any_among x n (map block_plain s.before) (block_plain line) (map block_plain rest) h)

  -- ---- a label of block code

  pub record LeadsTo (name : ℕ) (rest : List BlockLine) : Type 0 where
    pub there : from_label (code.own_label name) (word_of table blocks b).lines ≡ Some (code_behind table blocks b rest)
    pub stands : StandAt table blocks b rest

  -- what follows a label stands in the procedure
  record Suffix (lines rest : List BlockLine) : Type 0 where
    before : List BlockLine
    whole : lines ≡ before ++ rest

  suffix : (name : ℕ) (lines rest : List BlockLine) → line_from block_label name lines ≡ Some rest → Suffix lines rest
  suffix name [] rest e = absurd (none_some rest e)
  suffix name (line ∷ lines) rest e = by (λ f. suffix name lines rest f) (is_name name (block_label line)) e
    where
      by : (line_from block_label name lines ≡ Some rest → Suffix lines rest) → (t : Bool)
          → (if t then Some (line ∷ lines) else line_from block_label name lines) ≡ Some rest → Suffix (line ∷ lines) rest
      by later true e = record { before = []; whole = some_same (line ∷ lines) rest e }
      by later false e = let s = later e in record { before = line ∷ s.before; whole = ap (λ l. line ∷ l) s.whole }

  abbrev Fit : List Line → Type 0
  Fit lines = all_fit (known_in table) (sigs table blocks) (globals_of table blocks) b.proc.places lines ≡ true

  fit_behind : (before rest : List Line) → Fit (before ++ rest) → Fit rest
  fit_behind [] rest h = h
  fit_behind (line ∷ before) rest h = fit_behind before rest (and_parts _ _ h).1

  pub label_leads : (name : ℕ) (rest : List BlockLine) → IsBody table blocks b → line_from block_label name b.proc.lines ≡ Some rest
      → LeadsTo name rest
  label_leads name rest is e =
      let x : Around = around table blocks b in
      let k : List WordInstr = code_last table blocks b in
      let s = suffix name b.proc.lines rest e in
      record {
        there = body_found x (lines_of b) (code.own_label name) ∙ label_found x k name (lines_of b)
            ∙ ap (code_from x k (code.own_label name)) (map_from name b.proc.lines ∙ ap plain_lines e);
        stands = record {
          before = s.before;
          whole = s.whole;
          fits = fit_behind (map block_plain s.before) (map block_plain rest)
              (subst Fit (ap (map block_plain) s.whole ∙ map_append s.before rest) is.fits);
        };
      }

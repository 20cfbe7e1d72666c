-- What waits in a value: in its parts, and its own.
use Rattle.std.proofs.Common.{◌≡◌, ℕ, zero, suc, ◌+◌, ◌<◌, Bool, true, false, List, [], ◌∷◌, ◌++◌, length, take, get_or, Option, Some}
use Rattle.std.proofs.Common.{refl, sym, ap, ap₂, ◌∙◌, append_assoc, arith}
use Rattle.std.specs.Prelude.{◌&&◌}
use Rattle.std.proofs.lemmas.List.{append-nil}
use Rattle.nim_types.specs.Types.{Ty, Facts}
use Rattle.nim_types.specs.Forms.{Form}
use Rattle.nim_program.specs.declared.expr.Operand.{Operand as RustOperand}
use Rattle.nim_program.specs.declared.expr.Operand.TheVariants as A
use Rattle.nim_program.specs.declared.operation.Use.{Use}
use Rattle.nim_program.specs.declared.program.Mode.{Mode}
use Rattle.nim_program.specs.Program.{Expr, Apply, Read, Early, Choose, ByConditions, ByLabels, Args, NoArg, type_of, node_of}
use Rattle.nim_program.specs.View.{expr_of, path_of, operand_before, operands_of}
use Rattle.nim_meaning.specs.Here.{gives_hooked, form_for}
use Rattle.nim_meaning.specs.Shapes.{is_held}
use Rattle.nim_meaning.specs.Waiting.{Wait, wait_if, waiting, waiting_at, waiting_all, waiting_first, held_from, held_if}
use Rattle.flat_code.specs.declared.line.Owning.{Owning}
use Rattle.flat_code.specs.declared.line.Owning.TheVariants as W
use Rattle.flat_code.specs.declared.line.Line.{Line}
use Rattle.flat_code.specs.declared.line.Line.TheVariants as L
use Rattle.flattening.specs.Numbering.{number_or}
use Rattle.flattening.specs.ExprLines.{taken_lines}
use Rattle.flattening.specs.Views.{own_lines, waits_own, own_waits, inside_waits}

module _ (types : List Ty) where
  pub waits_both : (xs ys : List Wait) → waits_own types (xs ++ ys) ≡ waits_own types xs ++ waits_own types ys
  waits_both [] ys = refl
  waits_both (w ∷ xs) ys = ap (λ es. W.TemporaryEnds w.node (number_or types w.of) ∷ es) (waits_both xs ys)

  -- two pieces of what waits, one behind the other
  pub waits_two : (a b c : List Owning) (xs ys whole : List Wait) → b ≡ a ++ waits_own types xs → c ≡ b ++ waits_own types ys → xs ++ ys ≡ whole →
      c ≡ a ++ waits_own types whole
  waits_two a b c xs ys whole e f same =
      f ∙ ap (λ z. z ++ waits_own types ys) e ∙ append_assoc a (waits_own types xs) (waits_own types ys)
      ∙ ap (λ z. a ++ z) (sym (waits_both xs ys) ∙ ap (waits_own types) same)

  -- one that waits, or none
  pub wait_one : (b : Bool) (node : ℕ) (ty : Option Ty) (form : Form) → b ≡ true →
      W.TemporaryEnds node (number_or types ty) ∷ [] ≡ waits_own types (wait_if b node ty form)
  wait_one true node ty form e = refl
  wait_one false node ty form e = absurd cc

  pub wait_none : (b : Bool) (node : ℕ) (ty : Option Ty) (form : Form) → b ≡ false → waits_own types (wait_if b node ty form) ≡ []
  wait_none true node ty form e = absurd cc
  wait_none false node ty form e = refl

-- what waits in the parts, and the value itself
module _ (facts : Facts) (modes : (proc position : ℕ) → Mode) where
  pub waits_in_turn : (value : Expr) (how : Use) → inside_waits facts modes value ++ own_waits facts modes value how ≡ waiting facts modes value how
  waits_in_turn (Apply node ty act operands) how = refl
  waits_in_turn (Read path) how = refl
  waits_in_turn (Early node ty short left right) how =
      let both = inside_waits facts modes (Early node ty short left right) in
      ap (λ z. both ++ z) (none_if (gives_hooked facts (Some ty)) node.number (Some ty) (form_for facts (Some ty))) ∙ append-nil both
    where
      none_if : (b : Bool) (node : ℕ) (ty : Option Ty) (form : Form) → wait_if (b && false) node ty form ≡ []
      none_if true node ty form = refl
      none_if false node ty form = refl
  waits_in_turn (Choose node ty ByConditions parts) how = refl
  waits_in_turn (Choose node ty (ByLabels labels) parts) how = refl

  -- ---- operands in turn

  pub first_same : (ts : List Ty) (x : RustOperand) (rest : Args) →
      waiting_first facts modes (operand_before ts x NoArg) ≡ waiting_first facts modes (operand_before ts x rest)
  first_same ts (A.Value value) rest = refl
  first_same ts (A.At path) rest = refl

  pub waits_next : (ts : List Ty) (x : RustOperand) (rest : Args) (uses : ℕ → Use) (how : Use) (i n : ℕ) → how ≡ uses i → n ≡ suc i →
      waiting_all facts modes (operand_before ts x NoArg) (λ j. how) 0 ++ waiting_all facts modes rest uses n
      ≡ waiting_all facts modes (operand_before ts x rest) uses i
  waits_next ts (A.Value value) rest uses how i n e f =
      let v = expr_of ts value in
      ap₂ (λ h m. (waiting facts modes v h ++ []) ++ waiting_all facts modes rest uses m) e f
      ∙ ap (λ z. z ++ waiting_all facts modes rest uses (suc i)) (append-nil (waiting facts modes v (uses i)))
  waits_next ts (A.At path) rest uses how i n e f =
      let p = path_of ts path in
      ap (λ m. (waiting_at facts modes p ++ []) ++ waiting_all facts modes rest uses m) f
      ∙ ap (λ z. z ++ waiting_all facts modes rest uses (suc i)) (append-nil (waiting_at facts modes p))

  pub waits_turn : (types ts : List Ty) (before rest : List RustOperand) (x : RustOperand) (old new whole : List Owning) (uses : ℕ → Use) (how : Use)
      (i n : ℕ) → before ≡ x ∷ rest → new ≡ old ++ waits_own types (waiting_all facts modes (operand_before ts x NoArg) (λ j. how) 0) →
      how ≡ uses i → n ≡ suc i → old ++ waits_own types (waiting_all facts modes (operands_of ts before) uses i) ≡ whole →
      new ++ waits_own types (waiting_all facts modes (operands_of ts rest) uses n) ≡ whole
  waits_turn types ts before rest x old new whole uses how i n next h e f same =
      let first = waiting_all facts modes (operand_before ts x NoArg) (λ j. how) 0 in
      let left = waiting_all facts modes (operands_of ts rest) uses n in
      ap (λ z. z ++ waits_own types left) h ∙ append_assoc old (waits_own types first) (waits_own types left)
      ∙ ap (λ z. old ++ z) (sym (waits_both types first left) ∙ ap (waits_own types) (waits_next ts x (operands_of ts rest) uses how i n e f))
      ∙ ap (λ ys. old ++ waits_own types (waiting_all facts modes (operands_of ts ys) uses i)) (sym next) ∙ same

  held_two : (b : Bool) (node : ℕ) (nodes : List ℕ) (k : List Line) →
      taken_lines (held_if b node []) (taken_lines nodes k) ≡ taken_lines (held_if b node nodes) k
  held_two true node nodes k = refl
  held_two false node nodes k = refl

  pub taken_next : (ts : List Ty) (x : RustOperand) (rest : Args) (uses : ℕ → Use) (how : Use) (i n : ℕ) → how ≡ uses i → n ≡ suc i → (k : List Line) →
      taken_lines (held_from facts modes (operand_before ts x NoArg) (λ j. how) 0) (taken_lines (held_from facts modes rest uses n) k)
      ≡ taken_lines (held_from facts modes (operand_before ts x rest) uses i) k
  taken_next ts (A.Value value) rest uses how i n e f k =
      let v = expr_of ts value in
      let held = λ (h : Use). gives_hooked facts (type_of v) && is_held h in
      let node = (node_of v).number in
      ap₂ (λ h m. taken_lines (held_if (held h) node []) (taken_lines (held_from facts modes rest uses m) k)) e f
      ∙ held_two (held (uses i)) node (held_from facts modes rest uses (suc i)) k
  taken_next ts (A.At path) rest uses how i n e f k = ap (λ m. taken_lines (held_from facts modes rest uses m) k) f

-- ---- what ends, from the last one

pub own_turn : (es : List Owning) (i j : ℕ) (other : Owning) → i < length es → suc i ≡ j → (k : List Line) →
    L.Own (get_or es i other) [] ∷ own_lines (take i es) k ≡ own_lines (take j es) k
own_turn es i j other l e k = one_more es i l k ∙ ap (λ n. own_lines (take n es) k) e
  where
    one_more : (es : List Owning) (i : ℕ) → i < length es → (k : List Line) →
        L.Own (get_or es i other) [] ∷ own_lines (take i es) k ≡ own_lines (take (suc i) es) k
    one_more [] i l k = absurd (omega (arith, l))
    one_more (f ∷ es) zero l k = refl
    one_more (f ∷ es) (suc i) l k = one_more es i (omega (arith, l)) (L.Own f [] ∷ k)

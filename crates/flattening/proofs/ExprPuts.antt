-- What is put for an expression: the parts of each form, one after another.
use Rattle.std.proofs.Common.{◌≡◌, ℕ, suc, ◌+◌, ◌<◌, ◌≤◌, List, [], ◌∷◌, length, drop, get_or, Option, None, Bool, true, false}
use Rattle.std.proofs.Common.{refl, sym, ap, ap₂, subst, ◌∙◌, arith}
use Rattle.std.specs.Prelude.{◌&&◌, ◌||◌, not, if◌then◌else◌}
use Rattle.std.proofs.lemmas.List.{drop_more, drop_all}
use Rattle.nim_types.specs.Types.{Ty, Facts}
use Rattle.nim_program.specs.declared.expr.Node.{Node}
use Rattle.nim_program.specs.declared.expr.Operand.{Operand as RustOperand}
use Rattle.nim_program.specs.declared.expr.Operand.TheVariants as A
use Rattle.nim_program.specs.declared.expr.Pick.{Pick}
use Rattle.nim_program.specs.declared.operation.Short.{Short}
use Rattle.nim_program.specs.declared.operation.Use.{Use}
use Rattle.nim_program.specs.declared.operation.Use.TheVariants.{Owned}
use Rattle.nim_program.specs.declared.program.Mode.{Mode}
use Rattle.nim_program.specs.Program.{Label, Act, Declared, Expr, Apply, Read, Early, Choose, ByConditions, ByLabels, Path, Fresh, Args, NoArg}
use Rattle.nim_program.specs.Program.{ByValue, ByPath, types_in, type_of, type_at, constant_in}
use Rattle.nim_program.specs.Uses.{use_of}
use Rattle.nim_program.specs.View.{expr_of, path_of, operand_before, pick_labels}
use Rattle.nim_meaning.specs.Shapes.{is_lent, is_text, is_covered, selector_type, is_last_value}
use Rattle.nim_meaning.specs.Waiting.{held_from}
use Rattle.flat_code.specs.declared.line.From.{From}
use Rattle.flat_code.specs.declared.line.From.TheVariants as F
use Rattle.flat_code.specs.declared.line.UseAt.{UseAt}
use Rattle.flat_code.specs.declared.line.Line.{Line}
use Rattle.flat_code.specs.declared.line.Line.TheVariants as L
use Rattle.flattening.specs.declared.numbers.Purpose.TheVariants.{End, Next, Arm}
use Rattle.flattening.specs.Numbering.{width, width_at, looked_from, behind_selector, label}
use Rattle.flattening.specs.ExprLines.{use_at, has_hooks, is_copied, is_call, is_one_text, begin_line, waits_at, froms, find_lines, settle_lines}
use Rattle.flattening.specs.ExprLines.{taken_lines, value_tests}
use Rattle.flattening.specs.ExprLines.{act_line, back_line, early_lines, value_ends, lines, aim_lines, copied_lines, ready_lines, choice_lines}
use Rattle.flattening.specs.ExprLines.{arm_label, arm_lines}
use Rattle.flattening.specs.StmtLines.{selector_lines}
use Rattle.flattening.specs.Views.{behind, branch_lines, get_line}
use Rattle.flattening.specs.Written.{IsPut}
use Rattle.flattening.proofs.Widths.{same_width}
use Rattle.flattening.proofs.Writing.{puts_two, puts_as}

pub drop_next : {X : Type 0} (xs : List X) (i : ℕ) (x : X) → i < length xs → x ≡ get_or xs i x → drop i xs ≡ x ∷ drop (i + 1) xs
drop_next xs i x l e = drop_more xs i x l ∙ ap (λ y. y ∷ drop (i + 1) xs) (sym e)

-- A turn of a loop over a list, which the code has as another one, and behind its last turn.
pub drop_turn : {X : Type 0} (xs ys : List X) (i : ℕ) (x : X) → ys ≡ xs → i < length ys → x ≡ get_or ys i x → drop i xs ≡ x ∷ drop (i + 1) xs
drop_turn xs ys i x same l e = subst (λ zs. drop i zs ≡ x ∷ drop (i + 1) zs) same (drop_next ys i x l e)

pub drop_end : {X : Type 0} (xs ys : List X) (i : ℕ) → ys ≡ xs → length ys ≤ i → drop i xs ≡ []
drop_end xs ys i same l = subst (λ zs. drop i zs ≡ []) same (drop_all i ys l)

-- A turn puts a step of what is left, and what is left behind it goes on.
pub turned : {X : Type 0} (old at new : Option (List X)) (whole before step left : List X → List X) →
    ((end : Option (List X)) → IsPut at end before → IsPut old end whole) → IsPut at new step → ((k : List X) → step (left k) ≡ before k) →
    (end : Option (List X)) → IsPut new end left → IsPut old end whole
turned old at new whole before step left h f same end g = h end (puts_as (λ k. step (left k)) before (puts_two f g) same)

-- behind the last turn
pub ended : {X : Type 0} (old at new : Option (List X)) (whole before left : List X → List X) →
    ((end : Option (List X)) → IsPut at end before → IsPut old end whole) → ((k : List X) → left k ≡ before k) → IsPut at new left → IsPut old new whole
ended old at new whole before left h same put = h new (puts_as left before put same)

pub pick_count : (branches : List Pick) → length (pick_labels branches) ≡ length branches
pick_count [] = refl
pick_count (first ∷ rest) = ap suc (pick_count rest)

module _ (types : List Ty) (facts : Facts) (modes : (proc position : ℕ) → Mode) where
  -- the same of an expression in other words
  pub of_same : (e e' : Expr) (how : Use) (t : ℕ) {a b : Option (List Line)} → e ≡ e' → IsPut a b (lines types facts modes e' how t) →
      IsPut a b (lines types facts modes e how t)
  of_same e e' how t {a} {b} same put = subst (λ x. IsPut a b (lines types facts modes x how t)) (sym same) put

  -- ---- expressions

  -- what operands are handed on to matters as far as it is a call
  ready_alike : (act act' : Act) → is_call facts act ≡ is_call facts act' → (operands : Args) (uses : ℕ → Use) (i t : ℕ) (k : List Line) →
      ready_lines types facts modes act' operands uses i t k ≡ ready_lines types facts modes act operands uses i t k
  ready_alike act act' same NoArg uses i t k = refl
  ready_alike act act' same (ByValue value rest) uses i t k =
      let all = λ (b : Bool) (l : List Line).
      if is_copied facts (uses i) value then copied_lines types facts modes value t l
      else if (has_hooks facts value && (is_lent (uses i) && (b || not (is_text value)))) && is_one_text (constant_in value)
      then begin_line types facts (constant_in value) value t ∷ l
      else lines types facts modes value (uses i) t
      (if has_hooks facts value && (is_lent (uses i) && (b || not (is_text value))) then L.Fresh t t (waits_at facts value) ∷ l else l) in
      ap₂ all (sym same) (ready_alike act act' same rest uses (suc i) (t + width value) k)
  ready_alike act act' same (ByPath path rest) uses i t k =
      ap (aim_lines types facts modes path t) (ready_alike act act' same rest uses (suc i) (t + width_at path) k)

  froms_alike : (act act' : Act) → is_call facts act ≡ is_call facts act' → (operands : Args) (uses : ℕ → Use) (i t : ℕ) →
      froms facts act' operands uses i t ≡ froms facts act operands uses i t
  froms_alike act act' same NoArg uses i t = refl
  froms_alike act act' same (ByValue value rest) uses i t =
      let first = λ (b : Bool).
      if is_copied facts (uses i) value then F.Place (suc t)
      else if has_hooks facts value && (is_lent (uses i) && (b || not (is_text value))) then F.Place t else F.Value t in
      ap₂ (λ b fs. first b ∷ fs) (sym same) (froms_alike act act' same rest uses (suc i) (t + width value))
  froms_alike act act' same (ByPath path rest) uses i t = ap (λ fs. F.Place t ∷ fs) (froms_alike act act' same rest uses (suc i) (t + width_at path))

  -- operands, their places, what is taken of them, and the line, where `act'` is a call where `act` is
  pub apply_put : (node : Node) (ty : Option Ty) (act act' : Act) (operands : Args) (how : Use) (n t u : ℕ) {a b : Option (List Line)} →
      is_call facts act ≡ is_call facts act' → n ≡ node.number → u ≡ suc t →
      IsPut a b (λ k.
      ready_lines types facts modes act' operands (use_of modes act) 0 u
      (settle_lines types facts operands u
      (taken_lines (held_from facts modes operands (use_of modes act) 0)
      (act_line types facts modes t act (use_at how n) ty (types_in operands) (froms facts act' operands (use_of modes act) 0 u)
      ∷ back_line types facts modes t act (use_at how n) ty k)))) →
      IsPut a b (lines types facts modes (Apply node ty act operands) how t)
  apply_put node ty act act' operands how n t u same at e put =
      let uses = use_of modes act in
      let behind_it = λ (m v : ℕ) (fs : List From) (k : List Line).
      settle_lines types facts operands v
      (taken_lines (held_from facts modes operands uses 0)
      (act_line types facts modes t act (use_at how m) ty (types_in operands) fs ∷ back_line types facts modes t act (use_at how m) ty k)) in
      puts_as _ _ put (λ k.
      ready_alike act act' same operands uses 0 u (behind_it n u (froms facts act' operands uses 0 u) k)
      ∙ ap (λ fs. ready_lines types facts modes act operands uses 0 u (behind_it n u fs k)) (froms_alike act act' same operands uses 0 u)
      ∙ ap₂ (λ m v. ready_lines types facts modes act operands uses 0 v (behind_it m v (froms facts act operands uses 0 v) k)) at e)

  pub read_put : (path : Path) (how : Use) (t u : ℕ) {a b : Option (List Line)} → u ≡ suc t →
      IsPut a b (λ k. aim_lines types facts modes path u (find_lines types facts path u (get_line types path how t u ∷ k))) →
      IsPut a b (lines types facts modes (Read path) how t)
  read_put path how t u e put =
      puts_as _ _ put (λ k. ap (λ v. aim_lines types facts modes path v (find_lines types facts path v (get_line types path how t v ∷ k))) e)

  pub early_put : (node : Node) (ty : Ty) (short : Short) (left right : Expr) (how : Use) (t u v : ℕ) {a b : Option (List Line)} → u ≡ suc t →
      v ≡ u + width left →
      IsPut a b (λ k.
      lines types facts modes left Owned u
      (early_lines types facts modes short t u
      (lines types facts modes right Owned v (L.Pass t v (use_at how node.number) None ∷ L.Label (label End t) ∷ k)))) →
      IsPut a b (lines types facts modes (Early node ty short left right) how t)
  early_put node ty short left right how t u v e f put =
      puts_as _ _ put (λ k.
      ap₂ (λ x y.
      lines types facts modes left Owned x
      (early_lines types facts modes short t x (lines types facts modes right Owned y (L.Pass t y (use_at how node.number) None ∷ L.Label (label End t) ∷ k))))
      e (f ∙ ap (λ x. x + width left) e))

  pub conditions_put : (node : Node) (ty : Option Ty) (parts : Args) (how : Use) (t u : ℕ) {a b : Option (List Line)} → u ≡ suc t →
      IsPut a b (λ k. choice_lines types facts modes parts ty (use_at how node.number) t u (L.Label (label End t) ∷ k)) →
      IsPut a b (lines types facts modes (Choose node ty ByConditions parts) how t)
  conditions_put node ty parts how t u e put =
      puts_as _ _ put (λ k. ap (λ v. choice_lines types facts modes parts ty (use_at how node.number) t v (L.Label (label End t) ∷ k)) e)

  module _ (result : Option Declared) where
    -- the selector, the tests of all labels, and the branches
    abbrev selected : Args → (covered : Bool) → List (List Label) → Args → Option Ty → UseAt → (t s v : ℕ) → List Line → List Line
    selected selector covered labels rest ty how t s v k =
        selector_lines types facts modes result selector s
        (value_tests labels rest s v (L.Jump (label Next t) ∷ arm_lines types facts modes covered labels rest ty how t v (L.Label (label End t) ∷ k)))

    -- behind the selector, in other words
    value_end : (value : Expr) (s : ℕ) → s + width value ≡ behind_selector (ByValue value NoArg) s
    value_end value s = omega arith

    path_end : (path : Path) (s : ℕ) → looked_from path s + width_at path ≡ behind_selector (ByPath path NoArg) s
    path_end path s = let w = same_width path in omega (arith, w)

    labels_same : (ts : List Ty) (node : Node) (ty : Option Ty) (labels : List (List Label)) (selector : RustOperand) (rest : Args) (how : Use) (t : ℕ)
        (k : List Line) →
        selected (operand_before ts selector NoArg) (is_covered (selector_type (operand_before ts selector NoArg))) labels rest ty (use_at how node.number) t
        (suc t + length labels) (behind_selector (operand_before ts selector NoArg) (suc t + length labels)) k
        ≡ lines types facts modes (Choose node ty (ByLabels labels) (operand_before ts selector rest)) how t k
    labels_same ts node ty labels (A.Value value) rest how t k =
        ap (λ v. selected (ByValue (expr_of ts value) NoArg) (is_covered (type_of (expr_of ts value))) labels rest ty (use_at how node.number) t
        (suc t + length labels) v k)
        (sym (value_end (expr_of ts value) (suc t + length labels)))
    labels_same ts node ty labels (A.At path) rest how t k =
        ap (λ v. selected (ByPath (path_of ts path) NoArg) (is_covered (type_at (path_of ts path))) labels rest ty (use_at how node.number) t
        (suc t + length labels) v k)
        (sym (path_end (path_of ts path) (suc t + length labels)))

    pub labels_put : (ts : List Ty) (node : Node) (ty : Option Ty) (labels : List (List Label)) (selector : RustOperand) (rest : Args) (how : Use)
        (n t u s v : ℕ) (covered : Bool) {a b : Option (List Line)} → u ≡ suc t → s ≡ u + n → n ≡ length labels →
        v ≡ behind_selector (operand_before ts selector NoArg) s → covered ≡ is_covered (selector_type (operand_before ts selector NoArg)) →
        IsPut a b (selected (operand_before ts selector NoArg) covered labels rest ty (use_at how node.number) t s v) →
        IsPut a b (lines types facts modes (Choose node ty (ByLabels labels) (operand_before ts selector rest)) how t)
    labels_put ts node ty labels selector rest how n t u s v covered e f g h i put =
        let first = operand_before ts selector NoArg in
        let begins : s ≡ suc t + length labels = f ∙ ap₂ (λ a b. a + b) e g in
        puts_as _ _ put (λ k.
        ap (λ c. selected first c labels rest ty (use_at how node.number) t s v k) i
        ∙ ap (λ y. selected first (is_covered (selector_type first)) labels rest ty (use_at how node.number) t s y k) h
        ∙ ap (λ x. selected first (is_covered (selector_type first)) labels rest ty (use_at how node.number) t x (behind_selector first x) k) begins
        ∙ labels_same ts node ty labels selector rest how t k)

  -- ---- one more of some

  pub ready_next : (ts : List Ty) (act : Act) (x : RustOperand) (rest : Args) (uses : ℕ → Use) (how : Use) (i n u v : ℕ) → how ≡ uses i →
      n ≡ suc i → v ≡ behind (operand_before ts x NoArg) u → (k : List Line) →
      ready_lines types facts modes act (operand_before ts x NoArg) (λ j. how) 0 u (ready_lines types facts modes act rest uses n v k)
      ≡ ready_lines types facts modes act (operand_before ts x rest) uses i u k
  ready_next ts act (A.Value value) rest uses how i n u v e g f k =
      let first = λ (h : Use) (m w : ℕ).
      ready_lines types facts modes act (ByValue (expr_of ts value) NoArg) (λ j. h) 0 u (ready_lines types facts modes act rest uses m w k) in
      ap (λ h. first h n v) e ∙ ap₂ (λ m w. first (uses i) m w) g f
  ready_next ts act (A.At path) rest uses how i n u v e g f k =
      ap₂ (λ m w. aim_lines types facts modes (path_of ts path) u (ready_lines types facts modes act rest uses m w k)) g f

  abbrev pub chosen_lines : (condition value : Expr) → Option Ty → UseAt → (t u v : ℕ) → List Line → List Line
  chosen_lines condition value ty how t u v k =
      lines types facts modes condition Owned u
      (value_ends types facts modes condition Owned
      (L.Unless u (label Arm u)
      ∷ branch_lines types facts modes value ty how t v (L.Jump (label End t) ∷ L.Label (label Arm u) ∷ k)))

  pub choice_next : (condition value : Expr) (rest : Args) (ty : Option Ty) (how : UseAt) (t u v w : ℕ) → v ≡ u + width condition →
      w ≡ v + width value → (k : List Line) →
      chosen_lines condition value ty how t u v (choice_lines types facts modes rest ty how t w k)
      ≡ choice_lines types facts modes (ByValue condition (ByValue value rest)) ty how t u k
  choice_next condition value rest ty how t u v w e f k =
      ap₂ (λ x y. chosen_lines condition value ty how t u x (choice_lines types facts modes rest ty how t y k)) e (f ∙ ap (λ x. x + width value) e)

  -- what is done where no label fits, in other words
  pub others_same : (covered : Bool) (rest rest' : Args) (ty : Option Ty) (how : UseAt) (t u : ℕ) {a b : Option (List Line)} → rest ≡ rest' →
      IsPut a b (arm_lines types facts modes covered [] rest' ty how t u) → IsPut a b (arm_lines types facts modes covered [] rest ty how t u)
  others_same covered rest rest' ty how t u {a} {b} same put = subst (λ x. IsPut a b (arm_lines types facts modes covered [] x ty how t u)) (sym same) put

  -- The value of a branch that is the last one, and of one before others.
  pub arm_last : (covered last : Bool) (these : List Label) (labels : List (List Label)) (value : Expr) (rest : Args) (ty : Option Ty) (how : UseAt)
      (t u : ℕ) → last ≡ (covered && is_last_value rest) → last ≡ true → (k : List Line) →
      arm_label last (label Next t) (label Arm u) (branch_lines types facts modes value ty how t u k)
      ≡ arm_lines types facts modes covered (these ∷ labels) (ByValue value rest) ty how t u k
  arm_last covered last these labels value rest ty how t u e holds k =
      let all = λ (b : Bool) (c : Bool).
      arm_label b (label Next t) (label Arm u)
      (branch_lines types facts modes value ty how t u
      (if c then k else L.Jump (label End t) ∷ arm_lines types facts modes covered labels rest ty how t (u + width value) k)) in
      ap (all last) (sym holds) ∙ ap (λ b. all b b) e

  pub arm_next : (covered last : Bool) (these : List Label) (labels : List (List Label)) (value : Expr) (rest : Args) (ty : Option Ty) (how : UseAt)
      (t u v : ℕ) → last ≡ (covered && is_last_value rest) → last ≡ false → v ≡ u + width value → (k : List Line) →
      arm_label last (label Next t) (label Arm u)
      (branch_lines types facts modes value ty how t u (L.Jump (label End t) ∷ arm_lines types facts modes covered labels rest ty how t v k))
      ≡ arm_lines types facts modes covered (these ∷ labels) (ByValue value rest) ty how t u k
  arm_next covered last these labels value rest ty how t u v e fails f k =
      let all = λ (b : Bool) (c : Bool) (w : ℕ).
      arm_label b (label Next t) (label Arm u)
      (branch_lines types facts modes value ty how t u
      (if c then k else L.Jump (label End t) ∷ arm_lines types facts modes covered labels rest ty how t w k)) in
      ap (λ w. all last false w) f ∙ ap (λ b. all last b (u + width value)) (sym fails) ∙ ap (λ b. all b b (u + width value)) e

-- ---- paths that are looked up

module _ (types : List Ty) (facts : Facts) where
  pub settle_next : (ts : List Ty) (x : RustOperand) (rest : Args) (u v : ℕ) → v ≡ behind (operand_before ts x NoArg) u → (k : List Line) →
      settle_lines types facts (operand_before ts x NoArg) u (settle_lines types facts rest v k) ≡ settle_lines types facts (operand_before ts x rest) u k
  settle_next ts (A.Value value) rest u v e k = ap (λ w. settle_lines types facts rest w k) e
  settle_next ts (A.At path) rest u v e k = ap (λ w. find_lines types facts (path_of ts path) u (settle_lines types facts rest w k)) e

-- The lines of expressions are paid for by what expressions have: one induction for all that is counted of lines.
use Rattle.std.proofs.Common.{◌≡◌, ℕ, suc, ◌+◌, ◌≤◌, ◌⊎◌, inl, inr, Bool, true, false, List, [], ◌∷◌, ◌++◌, Option, Some, None, refl, arith, subst, sym}
use Rattle.std.specs.Prelude.{◌&&◌, if◌then◌else◌}
use Rattle.std.proofs.lemmas.Bool.{and_parts}
use Rattle.nim_types.specs.Types.{Ty, Facts}
use Rattle.nim_types.specs.Forms.{Form}
use Rattle.nim_program.specs.declared.expr.Node.{Node}
use Rattle.nim_program.specs.declared.operation.Short.TheVariants.{And, Or}
use Rattle.nim_program.specs.declared.operation.Use.{Use}
use Rattle.nim_program.specs.declared.operation.Use.TheVariants.{Owned, Looked}
use Rattle.nim_program.specs.declared.program.Mode.{Mode}
use Rattle.nim_program.specs.Program.{Literal, Number, Characters, NoObject, PartsOf, ElementsOf, Label, Act, Doing, Building, Giving, Calling}
use Rattle.nim_program.specs.Program.{ByConditions, ByLabels, Expr, Apply, Read, Early, Choose}
use Rattle.nim_program.specs.Program.{Path, Variable, Fresh, Field, Element, Deref, Args, NoArg, ByValue, ByPath}
use Rattle.nim_program.specs.Program.{type_of, type_at, node_of, types_in, node_at, constant_in}
use Rattle.nim_program.specs.Uses.{use_of}
use Rattle.nim_program.specs.Folds.{by_constant, if_constant}
use Rattle.nim_meaning.specs.Here.{gives_hooked, form_for}
use Rattle.nim_meaning.specs.Shapes.{is_covered, is_last_value, is_read, is_given, is_held, waits, waits_from}
use Rattle.nim_meaning.specs.Waiting.{Wait, wait_if, held_if, reads_kept, own_wait, waiting, waiting_at, waiting_all, waiting_first, held_from}
use Rattle.flat_code.specs.declared.line.From.TheVariants as F
use Rattle.flat_code.specs.declared.line.UseAt.{UseAt}
use Rattle.flat_code.specs.declared.line.Owning.TheVariants as W
use Rattle.flat_code.specs.declared.line.Line.{Line}
use Rattle.flat_code.specs.declared.line.Line.TheVariants as L
use Rattle.flat_code.specs.declared.line.Piece.TheVariants as piece
use Rattle.flat_code.specs.Whole.{label_in, target, back_to}
use Rattle.flattening.specs.declared.numbers.Purpose.TheVariants.{Arm, End, Next}
use Rattle.flat_code.specs.Alike.{value_name, location_name, name_of, gives_text}
use Rattle.flattening.specs.Counted.{all_ends}
use Rattle.flattening.specs.ExprLines.{use_at, has_hooks, is_copied, is_lent_at, is_lent_text, is_one_text, waits_at, froms, lent_line, begin_line}
use Rattle.flattening.specs.ExprLines.{find_lines, settle_lines}
use Rattle.flattening.specs.ExprLines.{taken_lines, end_lines, written_label, label_tests, value_tests, arm_label, act_line, back_line, none_fits, handed_on}
use Rattle.flattening.specs.ExprLines.{branch_use, branch_ends, value_ends, lines, aim_lines, copied_lines, ready_lines, choice_lines, select_lines, arm_lines}
use Rattle.flattening.specs.Numbering.{type_number, number_or, if_number, width, width_at, label, looked_count, arm_count, looked_from}
use Rattle.flattening.proofs.Costs.{Front, steps, all_tests, In, Costs, Kept, Paid, ◌>>◌, none_is, one_is}
use Rattle.flattening.proofs.Literals.{IsText, text_is}
use Rattle.flattening.proofs.LineNames.{IsQuiet, never, act_text, is_literal, act_name, act_no_text, plain_act, begin_name}

-- ---- what waits

pub ends_both : (cost : ℕ) (a b : List Wait) → all_ends cost (a ++ b) ≡ all_ends cost a + all_ends cost b
ends_both cost [] b = omega arith
ends_both cost (w ∷ a) b = let h = ends_both cost a b in omega (arith, h)

ends_one : (cost : ℕ) (b : Bool) (node : ℕ) (ty : Option Ty) (form : Form) → all_ends cost (wait_if b node ty form) ≤ cost
ends_one cost true node ty form = omega arith
ends_one cost false node ty form = omega arith

ends_none : (cost : ℕ) (b w : Bool) (node : ℕ) (ty : Option Ty) (form : Form) → w ≡ false → all_ends cost (wait_if (b && w) node ty form) ≤ 0
ends_none cost b true node ty form e = never (sym e)
ends_none cost true false node ty form e = omega arith
ends_none cost false false node ty form e = omega arith

owned_waits : (act : Act) → waits_from act Owned ≡ false
owned_waits (Doing operation) = refl
owned_waits (Building fields) = refl
owned_waits (Giving (Number z)) = refl
owned_waits (Giving (Characters text)) = refl
owned_waits (Giving NoObject) = refl
owned_waits (Giving (PartsOf all)) = refl
owned_waits (Giving (ElementsOf all)) = refl
owned_waits (Calling proc of) = refl

not_both : (b : Bool) → b && false ≡ false
not_both true = refl
not_both false = refl

-- what waits at the end, or doesn't
least_end : (cost : ℕ) (parts : List Wait) (b w w' : Bool) (node : ℕ) (ty : Option Ty) (form : Form) → w ≡ false →
    all_ends cost (parts ++ wait_if (b && w) node ty form) ≤ all_ends cost (parts ++ wait_if (b && w') node ty form)
least_end cost parts b w w' node ty form e =
    omega (
      arith,
      ends_both cost parts (wait_if (b && w) node ty form),
      ends_both cost parts (wait_if (b && w') node ty form),
      ends_none cost b w node ty form e,
    )

-- as little waits of a value that is owned at once as of one that is used otherwise
owned_least : (cost : ℕ) (facts : Facts) (modes : (proc position : ℕ) → Mode) (e : Expr) (how : Use) →
    all_ends cost (waiting facts modes e Owned) ≤ all_ends cost (waiting facts modes e how)
owned_least cost facts modes (Apply node ty act operands) how =
    least_end cost (waiting_all facts modes operands (use_of modes act) 0) (gives_hooked facts ty) (waits_from act Owned) (waits_from act how) node.number ty
    (form_for facts ty) (owned_waits act)
owned_least cost facts modes (Read path) how =
    least_end cost (waiting_at facts modes path) (gives_hooked facts (type_at path)) (is_read (Read path) && false) (is_read (Read path) && reads_kept how)
    (node_at path).number (type_at path) (form_for facts (type_at path)) (not_both (is_read (Read path)))
owned_least cost facts modes (Early node ty short left right) how = omega arith
owned_least cost facts modes (Choose node ty ByConditions parts) how =
    least_end cost [] (gives_hooked facts ty) false (waits how) node.number ty (form_for facts ty) refl
owned_least cost facts modes (Choose node ty (ByLabels labels) parts) how =
    least_end cost (waiting_first facts modes parts) (gives_hooked facts ty) false (waits how) node.number ty (form_for facts ty) refl

no_copy : {A : Type 0} (b c : Bool) → b && (c && false) ≡ true → A
no_copy true true e = never e
no_copy true false e = never e
no_copy false c e = never e

module _ (types : List Ty) (facts : Facts) (modes : (proc position : ℕ) → Mode) (x : Costs types facts modes) (k : Kept types facts modes x) where
  abbrev pub P : k.ground.World → (spare most : ℕ) → Front → Type 0
  P z spare most front = Paid types facts modes x k z spare most front

  -- ---- one line, and nothing

  pub none : (z : k.ground.World) → P z 0 0 (λ k. k)
  none z = record { paid = k.ground.none z }

  pub most : (z : k.ground.World) {r a : ℕ} {F : Front} (r' a' : ℕ) → r' + a ≤ a' + r → P z r a F → P z r' a' F
  most z {r} {a} {F} r' a' le p = record { paid = k.ground.most z r a r' a' F le p.paid }

  pub quiet : (z : k.ground.World) (l : Line) → name_of l ≡ None → IsQuiet l → P z 0 (x.line l) (λ k. l ∷ k)
  quiet z l e q = record { paid = k.plain z l e q.0 (λ n f. none_is (target l) n q.1 f) (λ n f. none_is (back_to l) n q.2 f) }

  -- a line that leads on, and back
  pub toward : (z : k.ground.World) (l : Line) (n : ℕ) → name_of l ≡ None → label_in l ≡ None → target l ≡ Some n → back_to l ≡ None → k.Behind z n →
      P z 0 (x.line l) (λ k. l ∷ k)
  toward z l n e f g h there =
      record { paid = k.plain z l e f (λ m i. subst (λ m. k.Behind z m) (one_is (target l) n m g i) there) (λ m i. none_is (back_to l) m h i) }

  pub backward : (z : k.ground.World) (l : Line) (n : ℕ) → name_of l ≡ None → label_in l ≡ None → target l ≡ None → back_to l ≡ Some n → k.Before z n →
      P z 0 (x.line l) (λ k. l ∷ k)
  backward z l n e f g h there =
      record { paid = k.plain z l e f (λ m i. none_is (target l) m g i) (λ m i. subst (λ m. k.Before z m) (one_is (back_to l) n m h i) there) }

  pub jump : (z : k.ground.World) (n : ℕ) → k.Behind z n → P z 0 (x.line (L.Jump n)) (λ k. L.Jump n ∷ k)
  jump z n there = toward z (L.Jump n) n refl refl refl refl there

  pub unless : (z : k.ground.World) (s n : ℕ) → k.Behind z n → P z 0 (x.line (L.Unless s n)) (λ k. L.Unless s n ∷ k)
  unless z s n there = toward z (L.Unless s n) n refl refl refl refl there

  freed_if : (z : k.ground.World) (l : Line) (t : ℕ) → name_of l ≡ Some (value_name t) → IsQuiet l → k.ground.Stray ⊎ (gives_text l ≡ false) →
      k.ground.Free z t →
      P z 0 (x.line l) (λ k. l ∷ k)
  freed_if z l t e q bare free =
      record { paid = k.freed z l t e q.0 (λ n f. none_is (target l) n q.1 f) (λ n f. none_is (back_to l) n q.2 f) bare free }

  pub freed : (z : k.ground.World) (l : Line) (t : ℕ) → name_of l ≡ Some (value_name t) → IsQuiet l → gives_text l ≡ false → k.ground.Free z t →
      P z 0 (x.line l) (λ k. l ∷ k)
  freed z l t e q bare free = freed_if z l t e q (inr bare) free

  -- whose value is free, and which lead on, and back
  pub freed_toward : (z : k.ground.World) (l : Line) (t n : ℕ) → name_of l ≡ Some (value_name t) → label_in l ≡ None → target l ≡ Some n → back_to l ≡ None →
      gives_text l ≡ false → k.ground.Free z t → k.Behind z n → P z 0 (x.line l) (λ k. l ∷ k)
  freed_toward z l t n e f g h bare free there = record {
    paid = k.freed z l t e f (λ m i. subst (λ m. k.Behind z m) (one_is (target l) n m g i) there) (λ m i. none_is (back_to l) m h i) (inr bare) free;
  }

  pub freed_back : (z : k.ground.World) (l : Line) (t n : ℕ) → name_of l ≡ Some (value_name t) → label_in l ≡ None → target l ≡ None → back_to l ≡ Some n →
      gives_text l ≡ false → k.ground.Free z t → k.Before z n → P z 0 (x.line l) (λ k. l ∷ k)
  freed_back z l t n e f g h bare free there = record {
    paid = k.freed z l t e f (λ m i. none_is (target l) m g i) (λ m i. subst (λ m. k.Before z m) (one_is (back_to l) n m h i) there) (inr bare) free;
  }

  pub given : (z : k.ground.World) (l : Line) (t : ℕ) → name_of l ≡ Some (value_name t) → IsQuiet l → P z 0 (x.line l + x.value t) (λ k. l ∷ k)
  given z l t e q = record { paid = k.given z l t e q }

  pub led : (z : k.ground.World) (l : Line) (t : ℕ) → name_of l ≡ Some (location_name t) → IsQuiet l → P z 0 (x.lead l t) (λ k. l ∷ k)
  led z l t e q = record { paid = k.led z l t e q }

  pub marked : (z : k.ground.World) (n : ℕ) → P z 0 (x.mark n) (λ k. L.Label n ∷ k)
  marked z n = record { paid = k.ground.marked z n }

  -- a value that is given again and again is paid once
  pub once : (z : k.ground.World) (t : ℕ) {a : ℕ} {F : Front} (r : ℕ) →
      ((z' : k.ground.World) → k.ground.Under z z' → k.ground.Free z' t → P z' (r + x.value t) a F) → P z r a F
  once z t {a} {F} r go =
      record { paid = k.ground.most z (r + x.value t) (a + x.value t) r a F (omega arith) (k.ground.once z t (r + x.value t) a F (λ z' u f. (go z' u f).paid)) }

  -- a label behind lines that lead to it, and among those that come next
  pub ended : (z : k.ground.World) (n : ℕ) {r a : ℕ} {F : Front} → ((z' : k.ground.World) → k.ground.Under z z' → k.Behind z' n → P z' r a F) →
      P z r (a + x.mark n) (λ k. F (L.Label n ∷ k))
  ended z n {r} {a} {F} go = record { paid = k.ended z n r a F (λ z' u b. (go z' u b).paid) }

  pub over : (z : k.ground.World) (more : List ℕ) {r s a b : ℕ} {F G : Front} →
      ((z' : k.ground.World) → k.ground.Under z z' → ((n : ℕ) → In n more → k.Behind z' n) → P z' r a F) → P z s b G → ((n : ℕ) → In n more → k.There n G) →
      P z (r + s) (a + b) (λ k. F (G k))
  over z more {r} {s} {a} {b} {F} {G} go p there = record { paid = k.over z more r s a b F G (λ z' u know. (go z' u know).paid) p.paid there }

  pub past : (z : k.ground.World) (n : ℕ) {r a : ℕ} {F G : Front} → P z r a F → k.There n G → k.There n (λ k. F (G k))
  past z n {r} {a} {F} {G} p h = k.past z n r a F G p.paid h

  -- ---- paths

  abbrev pub find_cost : Path → (t : ℕ) → ℕ
  find_cost path t = steps types facts x.lead path t

  abbrev pub again_cost : Path → (t : ℕ) → ℕ
  again_cost path t = steps types facts x.again path t

  pub find : (z : k.ground.World) (path : Path) (t : ℕ) → P z 0 (find_cost path t) (find_lines types facts path t)
  find z (Variable node ty place global) t = led z (L.Root t place global) t refl (refl, refl, refl)
  find z (Fresh value) t =
      let n = begin_name types facts modes (constant_in value) value t in led z (begin_line types facts (constant_in value) value t) t n.0 n.1
  find z (Field node ty base field) t = most z 0 _ (omega arith) (find z base (suc t) >> led z (L.Part t (suc t) field) t refl (refl, refl, refl))
  find z (Element node ty base index constant) t =
      most z 0 _ (omega arith) (find z base (suc t) >> led z (L.Item t (suc t) (suc t + width_at base)) t refl (refl, refl, refl))
  find z (Deref ty base) t = most z 0 _ (omega arith) (find z base (suc t) >> led z (L.Object t (suc t)) t refl (refl, refl, refl))

  abbrev pub settle_cost : Args → (t : ℕ) → ℕ
  settle_cost NoArg t = 0
  settle_cost (ByValue value rest) t = settle_cost rest (t + width value)
  settle_cost (ByPath path rest) t = find_cost path t + settle_cost rest (t + width_at path)

  pub settle : (z : k.ground.World) (args : Args) (t : ℕ) → P z 0 (settle_cost args t) (settle_lines types facts args t)
  settle z NoArg t = none z
  settle z (ByValue value rest) t = settle z rest (t + width value)
  settle z (ByPath path rest) t = most z 0 _ (omega arith) (find z path t >> settle z rest (t + width_at path))

  -- ---- what waits, and is taken

  -- one line, where it is there
  maybe : (z : k.ground.World) (b : Bool) (l : Line) → name_of l ≡ None → IsQuiet l → P z 0 (x.line l) (λ k. if b then l ∷ k else k)
  maybe z true l e q = quiet z l e q
  maybe z false l e q = most z 0 _ (omega arith) (none z)

  abbrev pub ends : List Wait → ℕ
  ends ws = all_ends x.ended ws

  pub end_all : (z : k.ground.World) (ws : List Wait) → P z 0 (ends ws) (end_lines types ws)
  end_all z [] = none z
  end_all z (w ∷ ws) =
      most z 0 _ (omega (arith, x.ends w.node (number_or types w.of)))
      (end_all z ws >> quiet z (L.Own (W.TemporaryEnds w.node (number_or types w.of)) []) refl (refl, refl, refl))

  abbrev takes : List ℕ → ℕ
  takes [] = 0
  takes (node ∷ nodes) = x.taken + takes nodes

  takes_if : (b : Bool) (node : ℕ) (rest : List ℕ) → takes (held_if b node rest) ≤ x.taken + takes rest
  takes_if true node rest = omega arith
  takes_if false node rest = omega arith

  take_all : (z : k.ground.World) (nodes : List ℕ) → P z 0 (takes nodes) (taken_lines nodes)
  take_all z [] = none z
  take_all z (node ∷ nodes) =
      most z 0 _ (omega (arith, x.takes node)) (quiet z (L.Own (W.TakenUp node) []) refl (refl, refl, refl) >> take_all z nodes)

  waits_back : (z : k.ground.World) (t : ℕ) (act : Act) (how : UseAt) (ty : Option Ty) → P z 0 (x.waited act) (back_line types facts modes t act how ty)
  waits_back z t (Calling proc of) how ty =
      most z 0 _ (omega (arith, x.waits proc of how.node (F.Value t ∷ [])))
      (maybe z (gives_hooked facts ty && waits how.how) (L.Own (W.Waits how.node) (F.Value t ∷ [])) refl (refl, refl, refl))
  waits_back z t (Doing operation) how ty = most z 0 _ (omega arith) (none z)
  waits_back z t (Building fields) how ty = most z 0 _ (omega arith) (none z)
  waits_back z t (Giving literal) how ty = most z 0 _ (omega arith) (none z)

  lend : (z : k.ground.World) (act : Act) (how : Use) (e : Expr) (t : ℕ) → P z 0 (x.lent t) (lent_line facts act how e t)
  lend z act how e t = at (is_lent_at facts act how e)
    where
      at : (b : Bool) → P z 0 (x.lent t) (λ k. if b then L.Fresh t t (waits_at facts e) ∷ k else k)
      at true = most z 0 _ (omega (arith, x.lends t (waits_at facts e))) (led z (L.Fresh t t (waits_at facts e)) t refl (refl, refl, refl))
      at false = most z 0 _ (omega arith) (none z)

  -- ---- labels

  pub tests : (z : k.ground.World) (labels : List Label) (s arm : ℕ) → k.Behind z arm → P z 0 (x.tests labels) (label_tests labels s arm)
  tests z [] s arm there = most z 0 _ (omega arith) (none z)
  tests z (these ∷ labels) s arm there =
      most z 0 _ (omega (arith, x.test these labels s arm))
      (toward z (L.Fits s (written_label these) arm) arm refl refl refl refl there >> tests z labels s arm there)

  -- the arms that labels of values lead to
  abbrev value_arms : List (List Label) → Args → (t : ℕ) → List ℕ
  value_arms labels NoArg t = []
  value_arms labels (ByPath path rest) t = []
  value_arms [] (ByValue value rest) t = []
  value_arms (these ∷ labels) (ByValue value rest) t = label Arm t ∷ value_arms labels rest (t + width value)

  values_tested : (z : k.ground.World) (labels : List (List Label)) (values : Args) (s t : ℕ) → ((n : ℕ) → In n (value_arms labels values t) → k.Behind z n) →
      P z 0 (all_tests x.tests labels) (value_tests labels values s t)
  values_tested z labels NoArg s t know = most z 0 _ (omega arith) (none z)
  values_tested z labels (ByPath path rest) s t know = most z 0 _ (omega arith) (none z)
  values_tested z [] (ByValue value rest) s t know = none z
  values_tested z (these ∷ labels) (ByValue value rest) s t know =
      most z 0 _ (omega arith)
      (tests z these s (label Arm t) (know (label Arm t) (inl refl)) >> values_tested z labels rest s (t + width value) (λ n i. know n (inr i)))

  -- the tests, a jump to where no label fits, and what they lead to
  pub chosen : (z : k.ground.World) (arms : List ℕ) (next : ℕ) {r a s b : ℕ} {F G : Front} →
      ((z' : k.ground.World) → ((n : ℕ) → In n arms → k.Behind z' n) → P z' r a F) → P z s b G → k.There next G → ((n : ℕ) → In n arms → k.There n G) →
      P z (r + s) (a + x.line (L.Jump next) + b) (λ k. F (L.Jump next ∷ G k))
  chosen z arms next {r} {a} {s} {b} {F} {G} go p next_there arm_there =
      most z _ _ (omega arith)
      (over z (next ∷ arms) (λ z' u know. go z' (λ n i. know n (inr i)) >> jump z' next (know next (inl refl))) p there)
    where
      there : (n : ℕ) → In n (next ∷ arms) → k.There n G
      there n (inl e) = subst (λ m. k.There m G) (sym e) next_there
      there n (inr i) = arm_there n i

  -- the last arm, where no label fits, or one before others
  pub arm_then : (z : k.ground.World) (last : Bool) (next arm : ℕ) {r a : ℕ} {F G : Front} (r' a' : ℕ) → r' + x.mark next ≤ a' → P z r a F → P z r' a' G →
      P z (r + r') (x.mark arm + a + a') (λ k. arm_label last next arm (F (if last then k else G k)))
  arm_then z true next arm r' a' le p q = most z _ _ (omega (arith, le)) (marked z next >> (marked z arm >> p))
  arm_then z false next arm r' a' le p q = most z _ _ (omega arith) (marked z arm >> (p >> q))

  -- the last arm has the other label, or those behind have it
  pub other_there : (z : k.ground.World) (last : Bool) (next arm : ℕ) {r a : ℕ} {F G : Front} → P z r a F → k.There next G →
      k.There next (λ k. arm_label last next arm (F (if last then k else G k)))
  other_there z true next arm {r} {a} {F} p h = k.first next (λ k. L.Label next ∷ k) (λ k. L.Label arm ∷ F k) (k.here next next refl)
  other_there z false next arm p h = past z next (marked z arm) (past z next p h)

  pub arm_here : (z : k.ground.World) (last : Bool) (next arm n : ℕ) (F G : Front) → n ≡ arm →
      k.There n (λ k. arm_label last next arm (F (if last then k else G k)))
  arm_here z true next arm n F G e = past z n (marked z next) (k.first n (λ k. L.Label arm ∷ k) F (k.here n arm e))
  arm_here z false next arm n F G e = k.first n (λ k. L.Label arm ∷ k) (λ k. F (G k)) (k.here n arm e)

  -- another arm, behind one that isn't the last
  pub later_arm : (z : k.ground.World) (covered : Bool) (next arm n : ℕ) {r a : ℕ} {F G : Front} → P z r a F → k.There n G →
      k.There n (λ k. arm_label (covered && false) next arm (F (if covered && false then k else G k)))
  later_arm z true next arm n p h = past z n (marked z arm) (past z n p h)
  later_arm z false next arm n p h = past z n (marked z arm) (past z n p h)

  pub starts : (n : ℕ) (F : Front) → k.There n (λ k. L.Label n ∷ F k)
  starts n F = k.first n (λ k. L.Label n ∷ k) F (k.here n n refl)

  -- ---- expressions

  abbrev pub room : Expr → Use → (t : ℕ) → ℕ
  room e how t = x.spare t + x.lent t + ends (waiting facts modes e how)

  -- Its own value is free where it is given so already, and is paid once otherwise.
  pub record Told (e : Expr) (how : Use) (t : ℕ) : Type 0 where
    pub inner : (z : k.ground.World) → k.ground.Stray ⊎ (is_literal e ≡ false) → k.ground.Free z t →
        P z (room e how t + x.value t) (x.of_expr e t) (lines types facts modes e how t)
    pub outer : (z : k.ground.World) → P z (room e how t) (x.of_expr e t) (lines types facts modes e how t)

  by_inner : (e : Expr) (how : Use) (t : ℕ) →
      ((z : k.ground.World) → k.ground.Free z t → P z (room e how t + x.value t) (x.of_expr e t) (lines types facts modes e how t)) → Told e how t
  by_inner e how t go = record { inner = λ z bare f. go z f; outer = λ z. once z t (room e how t) (λ z' u f. go z' f) }

  -- where what waits in a value ends at once
  pub alone : (e : Expr) (how : Use) (t : ℕ) → Told e how t → (z : k.ground.World) →
      P z (x.spare t) (x.of_expr e t) (λ k. lines types facts modes e how t (value_ends types facts modes e how k))
  alone e how t go z = most z _ _ (omega arith) (go.outer z >> end_all z (waiting facts modes e how))

  -- a branch, which is taken
  branch : (e : Expr) (t : ℕ) → Told e (branch_use types facts modes e) t → (z : k.ground.World) →
      P z (x.spare t) (x.of_expr e t + x.taken)
      (λ k. lines types facts modes e (branch_use types facts modes e) t (branch_ends types facts modes e k))
  branch e t go z =
      let node = (node_of e).number in
      most z _ _ (omega (arith, owned_least x.ended facts modes e (branch_use types facts modes e), takes_if (has_hooks facts e) node []))
      (go.outer z >> (end_all z (waiting facts modes e Owned) >> take_all z (held_if (has_hooks facts e) node [])))

  abbrev pub path_room : Path → (t : ℕ) → ℕ
  path_room path t = x.spare t + find_cost path t + again_cost path t + x.get + ends (waiting_at facts modes path)

  -- a path before it is looked up, once or twice, whose own value is free
  abbrev pub Aimed : Path → (t : ℕ) → Type 0
  Aimed path t = (z : k.ground.World) → k.ground.Free z t → P z (path_room path t + x.value t) (x.of_path path t) (aim_lines types facts modes path t)

  pub outer_aim : (path : Path) (t : ℕ) → Aimed path t → (z : k.ground.World) →
      P z (path_room path t) (x.of_path path t) (aim_lines types facts modes path t)
  outer_aim path t go z = once z t (path_room path t) (λ z' u f. go z' f)

  -- a selector at a path comes to the temporary before those of the path, if it has a type
  abbrev Looks : Path → (u n : ℕ) → Type 0
  Looks path u n = (z : k.ground.World) → P z (x.spare u + ends (waiting_at facts modes path)) (x.of_path path n)
      (λ k. aim_lines types facts modes path n (find_lines types facts path n (L.Look u n ∷ k)))

  looked_here : (path : Path) (u n : ℕ) → n ≡ u → Aimed path n → Looks path u n
  looked_here path u n e go z =
      subst (λ n. Aimed path n → Looks path u n) (sym e)
      (λ go z. once z u (x.spare u + ends (waiting_at facts modes path)) (λ z' v f. most z' _ _ (omega (arith, x.looks u u))
      (go z' f >> (find z' path u >> freed z' (L.Look u u) u refl (refl, refl, refl) refl f)))) go z

  looked_next : (path : Path) (u n : ℕ) → n ≡ suc u → Aimed path n → Looks path u n
  looked_next path u n e go z =
      subst (λ n. Aimed path n → Looks path u n) (sym e)
      (λ go z. most z _ _ (omega (arith, x.looks u (suc u), x.next_spare u))
      (outer_aim path (suc u) go z >> (find z path (suc u) >> given z (L.Look u (suc u)) u refl (refl, refl, refl)))) go z

  pub looked : (path : Path) (ty : Option Ty) (u : ℕ) → Aimed path (u + looked_count ty) → Looks path u (u + looked_count ty)
  looked path None u go z = looked_here path u (u + 0) (omega arith) go z
  looked path (Some ty) u go z = looked_next path u (u + 1) (omega arith) go z

  abbrev pub Readied : Act → Args → (uses : (position : ℕ) → Use) → (position t : ℕ) → Type 0
  Readied act args uses i t = (z : k.ground.World) →
      P z (x.held args t + settle_cost args t + takes (held_from facts modes args uses i) + ends (waiting_all facts modes args uses i)) (x.of_args args t)
      (ready_lines types facts modes act args uses i t)

  -- what is done with operands
  applied : (node : Node) (ty : Option Ty) (act : Act) (operands : Args) (how : Use) (t : ℕ) → Readied act operands (use_of modes act) 0 (suc t) →
      Told (Apply node ty act operands) how t
  applied node ty act operands how t go = record { inner = inside; outer = at (act_text act) refl }
    where
      at_use : UseAt
      at_use = use_at how node.number

      line : Line
      line = act_line types facts modes t act at_use ty (types_in operands) (froms facts act operands (use_of modes act) 0 (suc t))

      nodes : List ℕ
      nodes = held_from facts modes operands (use_of modes act) 0

      own : all_ends x.ended (waiting facts modes (Apply node ty act operands) how)
          ≤ all_ends x.ended (waiting_all facts modes operands (use_of modes act) 0) + x.ended
      own =
          let w = own_wait facts modes (waits_from act how) node.number ty in
          omega (
            arith,
            ends_both x.ended (waiting_all facts modes operands (use_of modes act) 0) w,
            ends_one x.ended (gives_hooked facts ty && waits_from act how) node.number ty (form_for facts ty),
          )

      bare_line : k.ground.Stray ⊎ (act_text act ≡ false) → k.ground.Stray ⊎ (gives_text line ≡ false)
      bare_line (inl stray) = inl stray
      bare_line (inr bare) = inr (act_no_text types facts modes t act at_use ty (types_in operands) _ bare)

      inside : (z : k.ground.World) → k.ground.Stray ⊎ (act_text act ≡ false) → k.ground.Free z t →
          P z (room (Apply node ty act operands) how t + x.value t) (x.of_expr (Apply node ty act operands) t)
          (lines types facts modes (Apply node ty act operands) how t)
      inside z bare f =
          most z _ _ (omega (arith, x.applies node ty act operands at_use t, own))
          (go z
          >> (settle z operands (suc t)
          >> (take_all z nodes
          >> (freed_if z line t (act_name types facts modes t act at_use ty (types_in operands) _)
          (plain_act types facts modes t act at_use ty (types_in operands) _) (bare_line bare) f
          >> waits_back z t act at_use ty))))

      at : (b : Bool) → act_text act ≡ b → (z : k.ground.World) →
          P z (room (Apply node ty act operands) how t) (x.of_expr (Apply node ty act operands) t)
          (lines types facts modes (Apply node ty act operands) how t)
      at true e z =
          most z _ _ (omega (arith, x.applies node ty act operands at_use t, own))
          (go z
          >> (settle z operands (suc t)
          >> (take_all z nodes
          >> (given z line t (act_name types facts modes t act at_use ty (types_in operands) _)
          (plain_act types facts modes t act at_use ty (types_in operands) _)
          >> waits_back z t act at_use ty))))
      at false e z = once z t (room (Apply node ty act operands) how t) (λ z' u f. inside z' (inr e) f)

  -- what is read at a path waits in it, or at its own node
  own_read : (path : Path) (how : Use) → ends (waiting facts modes (Read path) how) ≤ ends (waiting_at facts modes path) + x.ended
  own_read path how =
      let kept = is_read (Read path) && reads_kept how in
      omega (
        arith,
        ends_both x.ended (waiting_at facts modes path) (own_wait facts modes kept (node_at path).number (type_at path)),
        ends_one x.ended (gives_hooked facts (type_at path) && kept) (node_at path).number (type_at path) (form_for facts (type_at path)),
      )

  -- where a place copies from
  copied : (path : Path) (how : Use) (t : ℕ) → Aimed path (suc t) → (z : k.ground.World) →
      P z (room (Read path) how t) (x.of_expr (Read path) t) (copied_lines types facts modes (Read path) t)
  copied path how t go z =
      most z _ _ (omega (arith, x.reads path (use_at how 0) t, own_read path how)) (outer_aim path (suc t) go z >> find z path (suc t))

  no_fit : (z : k.ground.World) (t : ℕ) (ty : Option Ty) (how : UseAt) → k.ground.Free z t → P z 0 (x.line (none_fits types facts modes t ty how))
      (λ k. none_fits types facts modes t ty how ∷ k)
  no_fit z t ty how f = freed z (none_fits types facts modes t ty how) t refl (refl, refl, refl) refl f

  hands_on : (z : k.ground.World) (t from : ℕ) (how : UseAt) (ty : Option Ty) → k.ground.Free z t → P z 0 (x.line (handed_on types facts modes t from how ty))
      (λ k. handed_on types facts modes t from how ty ∷ k)
  hands_on z t from how ty f = freed z (handed_on types facts modes t from how ty) t refl (refl, refl, refl) refl f

  -- what a path begins with
  begun : (constant : Option Literal) (e : Expr) (t : ℕ) → Told e Looked (suc t) → (z : k.ground.World) →
      P z (x.spare t + x.lead (begin_line types facts constant e t) t + x.again (begin_line types facts constant e t) t + x.get
      + ends (by_constant constant (λ literal. []) (waiting facts modes e Looked)) + x.value t)
      (x.of_fresh constant e t) (λ k. if_constant constant k (lines types facts modes e Looked (suc t) k))
  begun None e t go z = most z _ _ (omega (arith, x.begins e t)) (go.outer z)
  begun (Some literal) e t go z = most z _ _ (omega (arith, x.stands literal e t)) (none z)

  -- what chooses waits at its own node
  own_choice : (node : Node) (ty : Option Ty) (how : Use) → ends (own_wait facts modes (waits how) node.number ty) ≤ x.ended
  own_choice node ty how = ends_one x.ended (gives_hooked facts ty && waits how) node.number ty (form_for facts ty)

  own_select : (node : Node) (ty : Option Ty) (labels : List (List Label)) (parts : Args) (how : Use) →
      ends (waiting facts modes (Choose node ty (ByLabels labels) parts) how) ≤ ends (waiting_first facts modes parts) + x.ended
  own_select node ty labels parts how =
      omega (arith, ends_both x.ended (waiting_first facts modes parts) (own_wait facts modes (waits how) node.number ty), own_choice node ty how)

  own_early : (node : Node) (ty : Ty) (left right : Expr) → ends (waiting facts modes left Owned ++ waiting facts modes right Owned)
      ≡ ends (waiting facts modes left Owned) + ends (waiting facts modes right Owned)
  own_early node ty left right = ends_both x.ended (waiting facts modes left Owned) (waiting facts modes right Owned)

  -- an operand, which is copied or lent
  abbrev operand_lines : Act → Use → Expr → (t : ℕ) → Front
  operand_lines act how e t k =
      if is_copied facts how e then copied_lines types facts modes e t k
      else if is_lent_text facts act how e then begin_line types facts (constant_in e) e t ∷ k
      else lines types facts modes e how t (lent_line facts act how e t k)

  -- the text of a literal that is lent
  lent_text : (e : Expr) (how : Use) (t : ℕ) → IsText e → (z : k.ground.World) →
      P z (x.spare t + ends (waiting facts modes e how)) (x.of_expr e t) (λ k. begin_line types facts (constant_in e) e t ∷ k)
  lent_text e how t i z =
      subst (λ e. P z (x.spare t + ends (waiting facts modes e how)) (x.of_expr e t) (λ k. begin_line types facts (constant_in e) e t ∷ k)) (sym i.is)
      (most z _ _
      (omega (
        arith,
        x.applies i.node i.ty (Giving (Characters i.text)) NoArg (use_at how i.node.number) t,
        x.no_operand (suc t),
        by_type i.ty,
        ends_one x.ended (gives_hooked facts i.ty && waits_from (Giving (Characters i.text)) how) i.node.number i.ty (form_for facts i.ty),
      ))
      (led z (L.Standing t (number_or types i.ty) (piece.Text i.text ∷ [])) t refl (refl, refl, refl)))
    where
      by_type : (ty : Option Ty) → x.lead (L.Standing t (number_or types ty) (piece.Text i.text ∷ [])) t ≤ x.lent t
          + x.line (act_line types facts modes t (Giving (Characters i.text)) (use_at how i.node.number) ty [] [])
      by_type None = x.lends_text t 0 (use_at how i.node.number) i.text
      by_type (Some ty) = x.lends_text t (type_number types ty) (use_at how i.node.number) i.text

  abbrev Copies : Expr → (how : Use) → (t : ℕ) → Type 0
  Copies e how t = is_copied facts how e ≡ true → (z : k.ground.World) → P z (room e how t) (x.of_expr e t) (copied_lines types facts modes e t)

  operand_paid : (act : Act) (e : Expr) (how : Use) (t : ℕ) → Told e how t → Copies e how t → (z : k.ground.World) →
      P z (x.spare t + ends (waiting facts modes e how)) (x.of_expr e t) (operand_lines act how e t)
  operand_paid act e how t go copy z = at (is_copied facts how e) refl
    where
      at : (b : Bool) → is_copied facts how e ≡ b → P z (x.spare t + ends (waiting facts modes e how)) (x.of_expr e t)
          (λ k. if b then copied_lines types facts modes e t k
          else if is_lent_text facts act how e then begin_line types facts (constant_in e) e t ∷ k
          else lines types facts modes e how t (lent_line facts act how e t k))
      at true f = most z _ _ (omega arith) (copy f z)
      at false f = by (is_lent_text facts act how e) refl
        where
          by : (b : Bool) → is_lent_text facts act how e ≡ b → P z (x.spare t + ends (waiting facts modes e how)) (x.of_expr e t)
              (λ k. if b then begin_line types facts (constant_in e) e t ∷ k else lines types facts modes e how t (lent_line facts act how e t k))
          by true lent = lent_text e how t (text_is e (and_parts (is_lent_at facts act how e) (is_one_text (constant_in e)) lent).1) z
          by false other = most z _ _ (omega arith) (go.outer z >> lend z act how e t)

  mutual
    pub expr : (e : Expr) (how : Use) (t : ℕ) → Told e how t
    expr (Apply node ty act operands) how t = applied node ty act operands how t (λ z. ready act operands (use_of modes act) 0 (suc t) z)
    expr (Read path) how t =
        let at_use = use_at how (node_at path).number in
        by_inner (Read path) how t (λ z f.
        most z _ _ (omega (arith, x.reads path at_use t, own_read path how))
        (outer_aim path (suc t) (λ z f. aim path (suc t) z f) z
        >> (find z path (suc t) >> freed z (L.Get t (suc t) at_use (if_number types (type_at path))) t refl (refl, refl, refl) refl f)))
    expr (Early node ty And left right) how t =
        let at_use = use_at how node.number in
        by_inner (Early node ty And left right) how t (λ z f.
        most z _ _ (omega (arith, x.both node ty left right at_use t, own_early node ty left right))
        (ended z (label End t) (λ z' u end.
        (expr left Owned (suc t)).outer z'
        >> (freed z' (L.Truth t false) t refl (refl, refl, refl) refl (k.ground.free z z' t u f)
        >> (unless z' (suc t) (label End t) end
        >> ((expr right Owned (suc t + width left)).outer z'
        >> freed z' (L.Pass t (suc t + width left) at_use None) t refl (refl, refl, refl) refl (k.ground.free z z' t u f)))))))
    expr (Early node ty Or left right) how t =
        let at_use = use_at how node.number in
        by_inner (Early node ty Or left right) how t (λ z f.
        most z _ _ (omega (arith, x.either node ty left right at_use t, own_early node ty left right))
        (ended z (label End t) (λ z' u end.
        (expr left Owned (suc t)).outer z'
        >> (freed z' (L.Truth t true) t refl (refl, refl, refl) refl (k.ground.free z z' t u f)
        >> (ended z' (label Next t) (λ z'' v next. unless z'' (suc t) (label Next t) next >> jump z'' (label End t) (k.behind z' z'' (label End t) v end))
        >> ((expr right Owned (suc t + width left)).outer z'
        >> freed z' (L.Pass t (suc t + width left) at_use None) t refl (refl, refl, refl) refl (k.ground.free z z' t u f)))))))
    expr (Choose node ty ByConditions parts) how t =
        let at_use = use_at how node.number in
        by_inner (Choose node ty ByConditions parts) how t (λ z f.
        most z _ _ (omega (arith, x.conditions node ty parts at_use t, own_choice node ty how))
        (ended z (label End t) (λ z' u end. choice parts ty at_use t (suc t) z' (k.ground.free z z' t u f) end)))
    expr (Choose node ty (ByLabels labels) parts) how t =
        let at_use = use_at how node.number in
        by_inner (Choose node ty (ByLabels labels) parts) how t (λ z f.
        most z _ _ (omega (arith, x.labels node ty labels parts at_use t, own_select node ty labels parts how))
        (ended z (label End t) (λ z' u end. select labels parts ty at_use t (suc t + arm_count (ByLabels labels)) z' (k.ground.free z z' t u f) end)))

    pub aim : (path : Path) (t : ℕ) → Aimed path t
    aim (Variable node ty place global) t z f = most z _ _ (omega (arith, x.root node ty place global t)) (none z)
    aim (Fresh value) t z f =
        most z _ _ (omega (arith, x.fresh value t)) (begun (constant_in value) value t (expr value Looked (suc t)) z)
    aim (Field node ty base field) t z f =
        most z _ _ (omega (arith, x.part node ty base field t)) (outer_aim base (suc t) (λ z f. aim base (suc t) z f) z)
    aim (Element node ty base index constant) t z f =
        most z _ _
        (omega (arith, x.item node ty base index constant t, ends_both x.ended (waiting_at facts modes base) (waiting facts modes index Owned)))
        (outer_aim base (suc t) (λ z f. aim base (suc t) z f) z >> (expr index Owned (suc t + width_at base)).outer z)
    aim (Deref ty base) t z f = most z _ _ (omega (arith, x.object ty base t)) (outer_aim base (suc t) (λ z f. aim base (suc t) z f) z)

    copies : (e : Expr) (how : Use) (t : ℕ) → Copies e how t
    copies (Apply node ty act operands) how t f z = no_copy (has_hooks facts (Apply node ty act operands)) (is_given how) f
    copies (Read path) how t f z = copied path how t (λ z f. aim path (suc t) z f) z
    copies (Early node ty short left right) how t f z = no_copy (has_hooks facts (Early node ty short left right)) (is_given how) f
    copies (Choose node ty chooser parts) how t f z = no_copy (has_hooks facts (Choose node ty chooser parts)) (is_given how) f

    pub ready : (act : Act) (args : Args) (uses : (position : ℕ) → Use) (i t : ℕ) → Readied act args uses i t
    ready act NoArg uses i t z = most z _ _ (omega (arith, x.no_operand t)) (none z)
    ready act (ByValue e rest) uses i t z =
        most z _ _
        (omega (
          arith,
          x.by_value e rest t,
          ends_both x.ended (waiting facts modes e (uses i)) (waiting_all facts modes rest uses (suc i)),
          takes_if (gives_hooked facts (type_of e) && is_held (uses i)) (node_of e).number (held_from facts modes rest uses (suc i)),
        ))
        (operand_paid act e (uses i) t (expr e (uses i) t) (copies e (uses i) t) z >> ready act rest uses (suc i) (t + width e) z)
    ready act (ByPath path rest) uses i t z =
        most z _ _
        (omega (arith, x.by_path path rest t, ends_both x.ended (waiting_at facts modes path) (waiting_all facts modes rest uses (suc i))))
        (outer_aim path t (λ z f. aim path t z f) z >> ready act rest uses (suc i) (t + width_at path) z)

    pub choice : (parts : Args) (ty : Option Ty) (how : UseAt) (t u : ℕ) (z : k.ground.World) → k.ground.Free z t → k.Behind z (label End t) →
        P z (x.begin u) (x.of_args parts u + x.line (none_fits types facts modes t ty how) + x.last) (choice_lines types facts modes parts ty how t u)
    choice NoArg ty how t u z f end = most z _ _ (omega (arith, x.some_args NoArg u)) (no_fit z t ty how f)
    choice (ByPath path rest) ty how t u z f end = most z _ _ (omega (arith, x.some_args (ByPath path rest) u)) (no_fit z t ty how f)
    choice (ByValue last NoArg) ty how t u z f end =
        most z _ _ (omega (arith, x.handed last NoArg ty how t u))
        (branch last u (expr last (branch_use types facts modes last) u) z >> hands_on z t u how ty f)
    choice (ByValue condition (ByPath path rest)) ty how t u z f end =
        most z _ _ (omega (arith, x.some_args (ByValue condition (ByPath path rest)) u)) (no_fit z t ty how f)
    choice (ByValue condition (ByValue value rest)) ty how t u z f end =
        let v = u + width condition in
        most z _ _ (omega (arith, x.condition condition value rest ty how t u))
        (alone condition Owned u (expr condition Owned u) z
        >> (ended z (label Arm u) (λ z' w arm.
        unless z' u (label Arm u) arm
        >> (branch value v (expr value (branch_use types facts modes value) v) z'
        >> (hands_on z' t v how ty (k.ground.free z z' t w f) >> jump z' (label End t) (k.behind z z' (label End t) w end))))
        >> choice rest ty how t (v + width value) z f end))

    -- the lines behind a selector
    select : (labels : List (List Label)) (parts : Args) (ty : Option Ty) (how : UseAt) (t u : ℕ) (z : k.ground.World) → k.ground.Free z t →
        k.Behind z (label End t) →
        P z (x.begin u + ends (waiting_first facts modes parts))
        (x.of_chosen parts u + all_tests x.tests labels + x.branches labels + x.line (none_fits types facts modes t ty how) + x.mark (label Next t)
        + x.line (L.Jump (label Next t)) + x.last) (select_lines types facts modes labels parts ty how t u)
    select labels NoArg ty how t u z f end = most z _ _ (omega (arith, x.no_selector u)) (no_fit z t ty how f)
    select labels (ByValue selector rest) ty how t u z f end =
        let v = u + width selector in
        let c = is_covered (type_of selector) in
        most z _ _ (omega (arith, x.selector selector rest u))
        ((expr selector Looked u).outer z
        >> chosen z (value_arms labels rest v) (label Next t) (λ z' know. values_tested z' labels rest u v know) (arms c labels rest ty how t v z f end)
        (next_there c labels rest ty how t v z f end) (λ n i. arm_there c labels rest ty how t v n z f end i))
    select labels (ByPath path rest) ty how t u z f end =
        let n = looked_from path u in
        let v = n + width_at path in
        let c = is_covered (type_at path) in
        most z _ _ (omega (arith, x.looked path rest u))
        (looked path (type_at path) u (λ z f. aim path n z f) z
        >> chosen z (value_arms labels rest v) (label Next t) (λ z' know. values_tested z' labels rest u v know) (arms c labels rest ty how t v z f end)
        (next_there c labels rest ty how t v z f end) (λ n i. arm_there c labels rest ty how t v n z f end i))

    pub arms : (covered : Bool) (labels : List (List Label)) (values : Args) (ty : Option Ty) (how : UseAt) (t u : ℕ) (z : k.ground.World) →
        k.ground.Free z t → k.Behind z (label End t) →
        P z (x.begin u) (x.branches labels + x.of_args values u + x.line (none_fits types facts modes t ty how) + x.mark (label Next t) + x.last)
        (arm_lines types facts modes covered labels values ty how t u)
    arms covered labels NoArg ty how t u z f end =
        most z _ _ (omega (arith, x.some_args NoArg u)) (marked z (label Next t) >> no_fit z t ty how f)
    arms covered labels (ByPath path rest) ty how t u z f end =
        most z _ _ (omega (arith, x.some_args (ByPath path rest) u)) (marked z (label Next t) >> no_fit z t ty how f)
    arms covered [] (ByValue value rest) ty how t u z f end =
        most z _ _ (omega (arith, x.handed value rest ty how t u))
        (marked z (label Next t) >> (branch value u (expr value (branch_use types facts modes value) u) z >> hands_on z t u how ty f))
    arms covered (these ∷ labels) (ByValue value rest) ty how t u z f end =
        let v = u + width value in
        most z _ _ (omega (arith, x.arm these labels value rest ty how t u))
        (arm_then z (covered && is_last_value rest) (label Next t) (label Arm u) (x.begin v)
        (x.line (L.Jump (label End t)) + x.branches labels + x.of_args rest v + x.line (none_fits types facts modes t ty how) + x.mark (label Next t) + x.last)
        (omega (arith, x.some_args rest v))
        (branch value u (expr value (branch_use types facts modes value) u) z >> hands_on z t u how ty f)
        (most z _ _ (omega arith) (jump z (label End t) end >> arms covered labels rest ty how t v z f end)))

    -- where no label fits
    next_there : (covered : Bool) (labels : List (List Label)) (values : Args) (ty : Option Ty) (how : UseAt) (t u : ℕ) (z : k.ground.World) →
        k.ground.Free z t → k.Behind z (label End t) → k.There (label Next t) (arm_lines types facts modes covered labels values ty how t u)
    next_there covered labels NoArg ty how t u z f end = starts (label Next t) (λ k. none_fits types facts modes t ty how ∷ k)
    next_there covered labels (ByPath path rest) ty how t u z f end = starts (label Next t) (λ k. none_fits types facts modes t ty how ∷ k)
    next_there covered [] (ByValue value rest) ty how t u z f end =
        starts (label Next t)
        (λ k. lines types facts modes value (branch_use types facts modes value) u
        (branch_ends types facts modes value (handed_on types facts modes t u how ty ∷ k)))
    next_there covered (these ∷ labels) (ByValue value rest) ty how t u z f end =
        other_there z (covered && is_last_value rest) (label Next t) (label Arm u)
        (branch value u (expr value (branch_use types facts modes value) u) z >> hands_on z t u how ty f)
        (past z (label Next t) (jump z (label End t) end) (next_there covered labels rest ty how t (u + width value) z f end))

    arm_there : (covered : Bool) (labels : List (List Label)) (values : Args) (ty : Option Ty) (how : UseAt) (t u n : ℕ) (z : k.ground.World) →
        k.ground.Free z t →
        k.Behind z (label End t) → In n (value_arms labels values u) → k.There n (arm_lines types facts modes covered labels values ty how t u)
    arm_there covered labels NoArg ty how t u n z f end i = absurd i
    arm_there covered labels (ByPath path rest) ty how t u n z f end i = absurd i
    arm_there covered [] (ByValue value rest) ty how t u n z f end i = absurd i
    arm_there covered (these ∷ labels) (ByValue value rest) ty how t u n z f end (inl e) =
        arm_here z (covered && is_last_value rest) (label Next t) (label Arm u) n
        (λ l. lines types facts modes value (branch_use types facts modes value) u
        (branch_ends types facts modes value (handed_on types facts modes t u how ty ∷ l)))
        (λ l. L.Jump (label End t) ∷ arm_lines types facts modes covered labels rest ty how t (u + width value) l) e
    arm_there covered (these ∷ labels) (ByValue value NoArg) ty how t u n z f end (inr i) = absurd i
    arm_there covered (these ∷ labels) (ByValue value (ByPath path rest)) ty how t u n z f end (inr i) = absurd i
    arm_there covered (these ∷ labels) (ByValue value (ByValue other rest)) ty how t u n z f end (inr i) =
        later_arm z covered (label Next t) (label Arm u) n
        (branch value u (expr value (branch_use types facts modes value) u) z >> hands_on z t u how ty f)
        (past z n (jump z (label End t) end) (arm_there covered labels (ByValue other rest) ty how t (u + width value) n z f end i))

  -- ---- where a part of a statement is copied, or stands alone

  pub copies_from : (e : Expr) (how : Use) (t : ℕ) → Copies e how t
  copies_from e how t = copies e how t

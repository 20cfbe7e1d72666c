-- What is listed of the places of a body: parts, one after another.
use Rattle.std.proofs.Common.{◌≡◌, ℕ, suc, ◌+◌, List, [], ◌++◌, Option, Some, None, Result, Ok, Err, IfOk, Bool, true, false, refl, sym, ap, ap₂, subst, ◌∙◌}
use Rattle.std.proofs.Common.{append_assoc, arith}
use Rattle.std.proofs.lemmas.List.{append-nil}
use Rattle.arc_base.specs.declared.bytes.Memory.{Memory}
use Rattle.nim_types.specs.Types.{Ty, Facts}
use Rattle.nim_program.specs.declared.expr.Node.{Node}
use Rattle.nim_program.specs.declared.expr.Operand.{Operand as RustOperand}
use Rattle.nim_program.specs.declared.expr.Operand.TheVariants as A
use Rattle.nim_program.specs.declared.stmt.Stmt.{Stmt as RustStmt}
use Rattle.nim_program.specs.declared.stmt.Stmt.TheVariants as S
use Rattle.nim_program.specs.declared.stmt.Leaving.TheVariants.{Break}
use Rattle.nim_program.specs.declared.operation.Use.{Use}
use Rattle.nim_program.specs.declared.operation.Use.TheVariants.{Owned}
use Rattle.nim_program.specs.declared.program.Mode.{Mode}
use Rattle.nim_program.specs.Program as T
use Rattle.nim_program.specs.Program.{ByConditions, ByLabels, Label, Expr, Apply, Read, Early, Choose, Path, Fresh, Field, Element, Deref}
use Rattle.nim_program.specs.Program.{Act, Building, Args, NoArg, ByValue, Kind, Stmt, Select, Stmts, Empty, Then, Blocks}
use Rattle.nim_program.specs.Uses.{use_of}
use Rattle.nim_meaning.specs.Shapes.{has_node}
use Rattle.nim_program.specs.Program.{Block}
use Rattle.nim_program.specs.declared.operation.Short.{Short}
use Rattle.nim_program.specs.View.{expr_of, if_type, if_value, operand_before, operands_of, stmt_before}
use Rattle.flat_code.specs.declared.place.FlatPlace.{FlatPlace}
use Rattle.flattening.specs.Numbering.{width, width_at, widths, width_in, width_of, arm_count, selector_from, behind_selector}
use Rattle.flattening.specs.Places.{head_from, value_at, read_place, selector_place, location, lent_place, expr_places, path_places, operand_places}
use Rattle.flattening.specs.Places.{part_places}
use Rattle.flattening.specs.Places.{block_places, branch_places, arm_places}
use Rattle.flattening.specs.Places.{stmt_places}
use Rattle.flattening.specs.ExprLines.{is_call}
use Rattle.flattening.specs.Views.{behind, is_defer}
use Rattle.flattening.specs.PlaceViews.{in_front, first_places, lent_first, fresh_places, places_of_first, places_of_loop, declared_in, declared_first}
use Rattle.flattening.specs.Written.{IsPut}
use Rattle.flattening.proofs.Writing.{puts_two, puts_as, finished}
use Rattle.flattening.proofs.LentPlaces.{owned_list, lent_alike}
use Rattle.flattening.proofs.StmtPuts.{first_of, behind_is}

module _ {X : Type 0} where
  pub joined : {a b c : Option (List X)} (xs ys : List X) → IsPut a b (in_front xs) → IsPut b c (in_front ys) → IsPut a c (in_front (xs ++ ys))
  joined xs ys p q = puts_as _ _ (puts_two p q) (λ k. sym (append_assoc xs ys k))

  pub three : {a b c d : Option (List X)} (xs ys zs : List X) → IsPut a b (in_front xs) → IsPut b c (in_front ys) → IsPut c d (in_front zs) →
      IsPut a d (in_front (xs ++ (ys ++ zs)))
  three xs ys zs p q r = joined xs (ys ++ zs) p (joined ys zs q r)

  -- the same list in other words
  pub listed_as : {a b : Option (List X)} (xs ys : List X) → ys ≡ xs → IsPut a b (in_front xs) → IsPut a b (in_front ys)
  listed_as {a} {b} xs ys e put = subst (λ zs. IsPut a b (in_front zs)) (sym e) put

  -- a turn of a loop over what is left of a list of parts
  pub listed_more : (old at new : Option (List X)) (whole before step left : List X) →
      ((end : Option (List X)) → IsPut at end (in_front before) → IsPut old end (in_front whole)) → IsPut at new (in_front step) →
      before ≡ step ++ left → (end : Option (List X)) → IsPut new end (in_front left) → IsPut old end (in_front whole)
  listed_more old at new whole before step left h p e end q = h end (listed_as (step ++ left) before e (joined step left p q))

  -- behind the last turn
  pub listed_end : (old at new : Option (List X)) (whole before left : List X) →
      ((end : Option (List X)) → IsPut at end (in_front before) → IsPut old end (in_front whole)) → before ≡ left → IsPut at new (in_front left) →
      IsPut old new (in_front whole)
  listed_end old at new whole before left h e put = h new (listed_as left before e put)

-- what begins with none, and isn't lost
pub listed_done : {X : Type 0} (old new : Option (List X)) (xs : List X) (out : Result (List X) Memory) → old ≡ Some [] → IsPut old new (in_front xs) →
    IfOk out (λ b. new ≡ Some b) → IfOk out (λ b. b ≡ xs)
listed_done old new xs (Ok b) e put h =
    finished {E = Memory} new (in_front xs) (Ok b) (subst (λ o. IsPut o new (in_front xs)) e put) h ∙ append-nil xs
listed_done old new xs (Err m) e put h = h

module _ (types : List Ty) (facts : Facts) (modes : (proc position : ℕ) → Mode) where
  pub exprs_as : {a b : Option (List FlatPlace)} (e e' : Expr) (t : ℕ) → e ≡ e' → IsPut a b (in_front (expr_places types facts modes e' t)) →
      IsPut a b (in_front (expr_places types facts modes e t))
  exprs_as e e' t same put = listed_as _ _ (ap (λ x. expr_places types facts modes x t) same) put

  pub paths_as : {a b : Option (List FlatPlace)} (p p' : Path) (t : ℕ) → p ≡ p' → IsPut a b (in_front (path_places types facts modes p' t)) →
      IsPut a b (in_front (path_places types facts modes p t))
  paths_as p p' t same put = listed_as _ _ (ap (λ x. path_places types facts modes x t) same) put

  -- ---- the forms of expressions

  pub applied_list : (node : Node) (ty : Option Ty) (act by : Act) → is_call facts act ≡ is_call facts by → (operands : Args) (t u : ℕ) → u ≡ suc t →
      expr_places types facts modes (Apply node ty act operands) t
      ≡ value_at types facts modes true node ty t ++ operand_places types facts modes by operands (use_of modes act) 0 u
  applied_list node ty act by same operands t u e =
      ap (λ places. value_at types facts modes true node ty t ++ places)
      (lent_alike types facts modes act by same operands (use_of modes act) 0 (suc t)
      ∙ ap (λ x. operand_places types facts modes by operands (use_of modes act) 0 x) (sym e))

  pub read_list : (path : Path) (t u : ℕ) → u ≡ suc t →
      expr_places types facts modes (Read path) t ≡ read_place types facts modes (has_node path) path t ++ path_places types facts modes path u
  read_list path t u e = ap (λ x. read_place types facts modes (has_node path) path t ++ path_places types facts modes path x) (sym e)

  pub early_list : (node : Node) (ty : Ty) (short : Short) (left right : Expr) (t u v : ℕ) → u ≡ suc t → v ≡ u + width left →
      expr_places types facts modes (Early node ty short left right) t
      ≡ value_at types facts modes true node (Some ty) t ++ (expr_places types facts modes left u ++ expr_places types facts modes right v)
  early_list node ty short left right t u v e f =
      sym (ap₂ (λ x y. value_at types facts modes true node (Some ty) t ++ (expr_places types facts modes left x ++ expr_places types facts modes right y)) e
      (f ∙ ap (λ x. x + width left) e))

  pub chosen_list : (node : Node) (ty : Option Ty) (parts : Args) (t u : ℕ) → u ≡ suc t →
      expr_places types facts modes (Choose node ty ByConditions parts) t ≡ value_at types facts modes true node ty t ++ part_places types facts modes parts u
  chosen_list node ty parts t u e = ap (λ x. value_at types facts modes true node ty t ++ part_places types facts modes parts x) (sym e)

  -- an operand before others
  pub operands_list : (ts : List Ty) (act : Act) (x : RustOperand) (rest : Args) (uses : ℕ → Use) (how : Use) (i n t u : ℕ) → how ≡ uses i → n ≡ suc i →
      u ≡ behind (operand_before ts x NoArg) t →
      operand_places types facts modes act (operand_before ts x rest) uses i t
      ≡ (first_places types facts modes (operand_before ts x NoArg) t ++ lent_first types facts modes act how (operand_before ts x NoArg) t)
      ++ operand_places types facts modes act rest uses n u
  operands_list ts act (A.Value value) rest uses how i n t u e g f =
      let own = expr_places types facts modes (expr_of ts value) t in
      let lent = λ (h : Use). lent_place types facts modes act h (expr_of ts value) t in
      sym (append_assoc own (lent how) (operand_places types facts modes act rest uses n u)
      ∙ ap₂ (λ h y. own ++ (lent h ++ operand_places types facts modes act rest uses n y)) e f
      ∙ ap (λ m. own ++ (lent (uses i) ++ operand_places types facts modes act rest uses m (t + width (expr_of ts value)))) g)
  operands_list ts act (A.At path) rest uses how i n t u e g f =
      let own = first_places types facts modes (operand_before ts (A.At path) NoArg) t in
      sym (append_assoc own [] (operand_places types facts modes act rest uses n u)
      ∙ ap₂ (λ m y. own ++ operand_places types facts modes act rest uses m y) g f)

  pub parts_list : (ts : List Ty) (x : RustOperand) (rest : Args) (t u : ℕ) → u ≡ behind (operand_before ts x NoArg) t →
      part_places types facts modes (operand_before ts x rest) t
      ≡ first_places types facts modes (operand_before ts x NoArg) t ++ part_places types facts modes rest u
  parts_list ts (A.Value value) rest t u e = ap (λ y. expr_places types facts modes (expr_of ts value) t ++ part_places types facts modes rest y) (sym e)
  parts_list ts (A.At path) rest t u e =
      ap (λ y. first_places types facts modes (operand_before ts (A.At path) NoArg) t ++ part_places types facts modes rest y) (sym e)

  selectors : (ts : List Ty) (x : RustOperand) (rest : Args) (s : ℕ) →
      selector_place types facts modes (operand_before ts x rest) s ≡ selector_place types facts modes (operand_before ts x NoArg) s
  selectors ts (A.Value value) rest s = refl
  selectors ts (A.At path) rest s = refl

  selectors_begin : (ts : List Ty) (x : RustOperand) (rest : Args) (s : ℕ) →
      selector_from (operand_before ts x rest) s ≡ selector_from (operand_before ts x NoArg) s
  selectors_begin ts (A.Value value) rest s = refl
  selectors_begin ts (A.At path) rest s = refl

  -- behind a selector, whose part has numbers from one on
  selector_end : (ts : List Ty) (x : RustOperand) (s from v : ℕ) → from ≡ selector_from (operand_before ts x NoArg) s →
      v ≡ behind_selector (operand_before ts x NoArg) s → v ≡ from + widths (operand_before ts x NoArg)
  selector_end ts x s from v e f = f ∙ ap (λ y. y + widths (operand_before ts x NoArg)) (sym e)

  pub selected_list : (ts : List Ty) (node : Node) (ty : Option Ty) (labels : List (List Label)) (x : RustOperand) (rest : Args) (n t u s from v : ℕ) →
      u ≡ suc t → s ≡ u + n → n ≡ arm_count (ByLabels labels) → from ≡ selector_from (operand_before ts x NoArg) s →
      v ≡ behind_selector (operand_before ts x NoArg) s →
      expr_places types facts modes (Choose node ty (ByLabels labels) (operand_before ts x rest)) t
      ≡ value_at types facts modes true node ty t
      ++ (selector_place types facts modes (operand_before ts x NoArg) s ++
      (first_places types facts modes (operand_before ts x NoArg) from ++ part_places types facts modes rest v))
  selected_list ts node ty labels x rest n t u s from v e f g h i =
      let own = value_at types facts modes true node ty t in
      let parts = operand_before ts x rest in
      let begin = selector_place types facts modes (operand_before ts x NoArg) s in
      let k : s ≡ suc t + arm_count (ByLabels labels) = f ∙ ap₂ (λ a b. a + b) e g in
      ap (λ y. own ++ (selector_place types facts modes parts y ++ part_places types facts modes parts (selector_from parts y))) (sym k)
      ∙ ap₂ (λ p y. own ++ (p ++ part_places types facts modes parts y)) (selectors ts x rest s) (selectors_begin ts x rest s ∙ sym h)
      ∙ ap (λ q. own ++ (begin ++ q)) (parts_list ts x rest from v (selector_end ts x s from v h i ∙ sym (behind_is ts x from)))

  -- the last value
  pub last_list : (value : Expr) (t : ℕ) → part_places types facts modes (ByValue value NoArg) t ≡ expr_places types facts modes value t
  last_list value t = append-nil (expr_places types facts modes value t)

  pub choices_list : (condition value : Expr) (rest : Args) (t u v : ℕ) → u ≡ t + width condition → v ≡ u + width value →
      part_places types facts modes (ByValue condition (ByValue value rest)) t
      ≡ (expr_places types facts modes condition t ++ expr_places types facts modes value u) ++ part_places types facts modes rest v
  choices_list condition value rest t u v e f =
      sym (append_assoc (expr_places types facts modes condition t) (expr_places types facts modes value u) (part_places types facts modes rest v)
      ∙ ap₂ (λ x y. expr_places types facts modes condition t ++ (expr_places types facts modes value x ++ part_places types facts modes rest y)) e
      (f ∙ ap (λ x. x + width value) e))

  pub picks_list : (value : Expr) (rest : Args) (t u : ℕ) → u ≡ t + width value →
      part_places types facts modes (ByValue value rest) t ≡ expr_places types facts modes value t ++ part_places types facts modes rest u
  picks_list value rest t u e = ap (λ x. expr_places types facts modes value t ++ part_places types facts modes rest x) (sym e)

  -- ---- paths

  pub field_list : (node : Node) (ty : Ty) (base : Path) (field t u : ℕ) → u ≡ suc t →
      path_places types facts modes (Field node ty base field) t
      ≡ location types facts modes (Field node ty base field) t ++ path_places types facts modes base u
  field_list node ty base field t u e = ap (λ x. location types facts modes (Field node ty base field) t ++ path_places types facts modes base x) (sym e)

  pub element_list : (node : Node) (ty : Ty) (base : Path) (index : Expr) (constant : _) (t u v : ℕ) → u ≡ suc t → v ≡ u + width_at base →
      path_places types facts modes (Element node ty base index constant) t
      ≡ location types facts modes (Element node ty base index constant) t ++ (path_places types facts modes base u ++ expr_places types facts modes index v)
  element_list node ty base index constant t u v e f =
      sym (ap₂ (λ x y. location types facts modes (Element node ty base index constant) t ++
      (path_places types facts modes base x ++ expr_places types facts modes index y)) e
      (f ∙ ap (λ x. x + width_at base) e))

  pub deref_list : (ty : Ty) (base : Path) (t u : ℕ) → u ≡ suc t →
      path_places types facts modes (Deref ty base) t ≡ location types facts modes (Deref ty base) t ++ path_places types facts modes base u
  deref_list ty base t u e = ap (λ x. location types facts modes (Deref ty base) t ++ path_places types facts modes base x) (sym e)

  pub fresh_list : (value : Expr) (t u : ℕ) → u ≡ suc t →
      path_places types facts modes (Fresh value) t ≡ location types facts modes (Fresh value) t ++ fresh_places types facts modes value u
  fresh_list value t u e = ap (λ x. location types facts modes (Fresh value) t ++ fresh_places types facts modes value x) (sym e)

  -- ---- statements

  then_list : (first : Stmt) (rest : Stmts) (t v : ℕ) → v ≡ t + (width_in first + 0) →
      block_places types facts modes (Then first rest) t ≡ stmt_places types facts modes first t ++ block_places types facts modes rest v
  then_list first rest t v e =
      let f : v ≡ t + width_in first = omega (arith, e) in
      ap (λ x. stmt_places types facts modes first t ++ block_places types facts modes rest x) (sym f)

  -- one more statement of a block
  pub stmts_list : (ts : List Ty) (s : RustStmt) (rest : Stmts) (t v : ℕ) → is_defer s ≡ false → v ≡ t + width_of (stmt_before ts s Empty) →
      block_places types facts modes (stmt_before ts s rest) t
      ≡ places_of_first types facts modes (stmt_before ts s Empty) t ++ block_places types facts modes rest v
  stmts_list ts (S.Do value) rest t v g e = then_list (T.Do (expr_of ts value)) rest t v e
  stmts_list ts (S.Idle node parts) rest t v g e = then_list (T.Idle node (operands_of ts parts.items)) rest t v e
  stmts_list ts (S.Give node back value) rest t v g e = then_list (T.Give node back (expr_of ts value)) rest t v e
  stmts_list ts (S.Leave node leaving parts) rest t v g e = then_list (T.Leave node leaving (operands_of ts parts.items)) rest t v e
  stmts_list ts (S.Declare node place cursor None) rest t v g e =
      let f : v ≡ suc t = omega (arith, e) in
      ap (λ x. block_places types facts modes rest x) (sym f)
  stmts_list ts (S.Declare node place cursor (Some value)) rest t v g e =
      let f : v ≡ suc t + (width (expr_of ts value) + 0) = omega (arith, e) in
      ap (λ x. expr_places types facts modes (expr_of ts value) (suc t) ++ block_places types facts modes rest x) (sym f)
  stmts_list ts (S.If' node p branches q otherwise) rest t v g e =
      then_list (first_of (T.Leave node Break NoArg) (stmt_before ts (S.If' node p branches q otherwise) Empty)) rest t v e
  stmts_list ts (S.Case' node selector p branches q otherwise) rest t v g e =
      then_list (first_of (T.Leave node Break NoArg) (stmt_before ts (S.Case' node selector p branches q otherwise) Empty)) rest t v e
  stmts_list ts (S.Loop' node kind head p body) rest t v g e =
      then_list (first_of (T.Leave node Break NoArg) (stmt_before ts (S.Loop' node kind head p body) Empty)) rest t v e
  stmts_list ts (S.Raise node exception message) rest t v g e = then_list (T.Raise node (if_type ts exception) (if_value ts message)) rest t v e
  stmts_list ts (S.Try' node p body q handlers r last) rest t v g e =
      then_list (first_of (T.Leave node Break NoArg) (stmt_before ts (S.Try' node p body q handlers r last) Empty)) rest t v e
  stmts_list ts (S.Defer' node p last) rest t v g e = absurd cc

  pub stmts_end : (ts : List Ty) (s : RustStmt) (rest : Stmts) (t : ℕ) → is_defer s ≡ true →
      block_places types facts modes (stmt_before ts s rest) t ≡ places_of_first types facts modes (stmt_before ts s Empty) t
  stmts_end ts (S.Do value) rest t g = absurd cc
  stmts_end ts (S.Idle node parts) rest t g = absurd cc
  stmts_end ts (S.Give node back value) rest t g = absurd cc
  stmts_end ts (S.Leave node leaving parts) rest t g = absurd cc
  stmts_end ts (S.Declare node place cursor value) rest t g = absurd cc
  stmts_end ts (S.If' node p branches q otherwise) rest t g = absurd cc
  stmts_end ts (S.Case' node selector p branches q otherwise) rest t g = absurd cc
  stmts_end ts (S.Loop' node kind head p body) rest t g = absurd cc
  stmts_end ts (S.Raise node exception message) rest t g = absurd cc
  stmts_end ts (S.Try' node p body q handlers r last) rest t g = absurd cc
  stmts_end ts (S.Defer' node p last) rest t g = refl

  pub block_as : {a b : Option (List FlatPlace)} (s s' : Stmts) (t : ℕ) → s ≡ s' → IsPut a b (in_front (places_of_first types facts modes s' t)) →
      IsPut a b (in_front (places_of_first types facts modes s t))
  block_as s s' t same put = listed_as _ _ (ap (λ x. places_of_first types facts modes x t) same) put

  pub decided_list : (node : Node) (tests : Args) (blocks : Blocks) (t u : ℕ) → u ≡ suc t →
      places_of_first types facts modes (Then (Select node ByConditions tests blocks) Empty) t ≡ branch_places types facts modes tests blocks u
  decided_list node tests blocks t u e = ap (λ x. branch_places types facts modes tests blocks x) (sym e)

  alone_list : (ts : List Ty) (x : RustOperand) (t : ℕ) →
      part_places types facts modes (operand_before ts x NoArg) t ≡ first_places types facts modes (operand_before ts x NoArg) t
  alone_list ts (A.Value value) t = append-nil _
  alone_list ts (A.At path) t = append-nil _

  pub loop_list : (kind : Kind) (head : Args) (body : Stmts) (t u v : ℕ) → u ≡ head_from kind t → v ≡ u + widths head →
      places_of_loop types facts modes kind head body t
      ≡ operand_places types facts modes (Building []) head (λ j. Owned) 0 u ++ block_places types facts modes body v
  loop_list kind head body t u v e f =
      let all = λ (x y : ℕ). part_places types facts modes head x ++ block_places types facts modes body y in
      sym (ap₂ all e (f ∙ ap (λ x. x + widths head) e))
      ∙ ap (λ xs. xs ++ block_places types facts modes body v) (sym (owned_list types facts modes head 0 u))

  pub cases_list : (ts : List Ty) (node : Node) (labels : List (List Label)) (x : RustOperand) (blocks : Blocks) (n t u s from v : ℕ) → u ≡ suc t →
      s ≡ u + n → n ≡ arm_count (ByLabels labels) → from ≡ selector_from (operand_before ts x NoArg) s →
      v ≡ behind_selector (operand_before ts x NoArg) s →
      places_of_first types facts modes (Then (Select node (ByLabels labels) (operand_before ts x NoArg) blocks) Empty) t
      ≡ selector_place types facts modes (operand_before ts x NoArg) s ++
      (first_places types facts modes (operand_before ts x NoArg) from ++ arm_places types facts modes blocks v)
  cases_list ts node labels x blocks n t u s from v e f g h i =
      let tests = operand_before ts x NoArg in
      let all = λ (y a z : ℕ). selector_place types facts modes tests y ++ (part_places types facts modes tests a ++ arm_places types facts modes blocks z) in
      let k : s ≡ suc t + arm_count (ByLabels labels) = f ∙ ap₂ (λ a b. a + b) e g in
      sym (ap (λ y. all y (selector_from tests y) (behind_selector tests y)) k) ∙ ap₂ (λ a z. all s a z) (sym h) (sym i)
      ∙ ap (λ q. selector_place types facts modes tests s ++ (q ++ arm_places types facts modes blocks v)) (alone_list ts x from)

  pub branches_list : (condition : Expr) (body : Stmts) (tests : Args) (rest : Blocks) (t u v : ℕ) → u ≡ t + width condition → v ≡ u + width_of body →
      branch_places types facts modes (ByValue condition tests) (Block body rest) t
      ≡ (expr_places types facts modes condition t ++ block_places types facts modes body u) ++ branch_places types facts modes tests rest v
  branches_list condition body tests rest t u v e f =
      sym (append_assoc (expr_places types facts modes condition t) (block_places types facts modes body u) (branch_places types facts modes tests rest v)
      ∙ ap₂ (λ x y. expr_places types facts modes condition t ++ (block_places types facts modes body x ++ branch_places types facts modes tests rest y)) e
      (f ∙ ap (λ x. x + width_of body) e))

  pub arms_list : (body : Stmts) (rest : Blocks) (t u : ℕ) → u ≡ t + width_of body →
      arm_places types facts modes (Block body rest) t ≡ block_places types facts modes body t ++ arm_places types facts modes rest u
  arms_list body rest t u e = ap (λ x. block_places types facts modes body t ++ arm_places types facts modes rest x) (sym e)

-- ---- declared places

pub declared_more : (types : List Ty) (facts : Facts) (modes : (proc position : ℕ) → Mode) (globals : ℕ → Bool) (ts : List Ty) (s : RustStmt) (rest : Stmts) →
    declared_in types facts modes globals (stmt_before ts s rest)
    ≡ declared_first types facts modes globals (stmt_before ts s Empty) ++ declared_in types facts modes globals rest
declared_more types facts modes globals ts (S.Do value) rest = refl
declared_more types facts modes globals ts (S.Idle node parts) rest = refl
declared_more types facts modes globals ts (S.Give node back value) rest = refl
declared_more types facts modes globals ts (S.Leave node leaving parts) rest = refl
declared_more types facts modes globals ts (S.Declare node place cursor None) rest = refl
declared_more types facts modes globals ts (S.Declare node place cursor (Some value)) rest = refl
declared_more types facts modes globals ts (S.If' node p branches q otherwise) rest = refl
declared_more types facts modes globals ts (S.Case' node selector p branches q otherwise) rest = refl
declared_more types facts modes globals ts (S.Loop' node kind head p body) rest = refl
declared_more types facts modes globals ts (S.Raise node exception message) rest = refl
declared_more types facts modes globals ts (S.Try' node p body q handlers r last) rest = refl
declared_more types facts modes globals ts (S.Defer' node p last) rest = refl

-- All types of a program's trees are among those of its table, as soon as that has ints: a number beyond it stands for int.
use Rattle.std.proofs.Common.{◌≡◌, ℕ, zero, suc, ◌⊎◌, inl, inr, Bool, true, false, List, [], ◌∷◌, ◌++◌, Option, Some, None, refl, sym, ap, subst}
use Rattle.std.specs.Prelude.{◌||◌, map, option_map}
use Rattle.std.proofs.lemmas.Bool.{and_parts}
use Rattle.nim_types.specs.Types as type
use Rattle.nim_types.specs.Types.{Ty, same}
use Rattle.nim_types.specs.Table.{type_at}
use Rattle.nim_types.proofs.ForCallers.{same_refl}
use Rattle.nim_program.specs.declared.expr.Expr.{Expr as RustExpr}
use Rattle.nim_program.specs.declared.expr.Expr.TheVariants as E
use Rattle.nim_program.specs.declared.expr.Expr.TheBlock.{Row_of-Operand, end_of-Operand, more_of-Operand, Row_of-Choice, end_of-Choice, more_of-Choice}
use Rattle.nim_program.specs.declared.expr.Expr.TheBlock.{Row_of-Pick, end_of-Pick, more_of-Pick, Held-Expr-Case-4, None', Some'}
use Rattle.nim_program.specs.declared.expr.Path.{Path as RustPath}
use Rattle.nim_program.specs.declared.expr.Path.TheVariants as P
use Rattle.nim_program.specs.declared.expr.Operand.{Operand as RustOperand}
use Rattle.nim_program.specs.declared.expr.Operand.TheVariants as A
use Rattle.nim_program.specs.declared.stmt.PlaceDecl.{PlaceDecl}
use Rattle.nim_program.specs.declared.stmt.Kind.{Kind as RustKind}
use Rattle.nim_program.specs.declared.stmt.Kind.TheVariants as K
use Rattle.nim_program.specs.declared.stmt.Stmt.{Stmt as RustStmt}
use Rattle.nim_program.specs.declared.stmt.Stmt.TheVariants as S
use Rattle.nim_program.specs.declared.stmt.Stmt.TheBlock.{Row_of-Stmt, end_of-Stmt, more_of-Stmt, Row_of-Branch, end_of-Branch, more_of-Branch}
use Rattle.nim_program.specs.declared.stmt.Stmt.TheBlock.{Row_of-CaseBranch, end_of-CaseBranch, more_of-CaseBranch}
use Rattle.nim_program.specs.declared.stmt.Stmt.TheBlock.{Row_of-Handler, end_of-Handler, more_of-Handler}
use Rattle.nim_program.specs.declared.program.Param.{Param as RustParam}
use Rattle.nim_program.specs.declared.program.Body.{Body as RustBody}
use Rattle.nim_program.specs.declared.program.Proc.{Proc as RustProc}
use Rattle.nim_program.specs.Program as T
use Rattle.nim_program.specs.Program.{Args, Stmts, Blocks, type_of, constant_in}
use Rattle.nim_program.specs.View as V
use Rattle.nim_program.specs.View.{if_type, expr_of, path_of, operand_before, operand_row, choice_row, pick_row, else_of, operands_of, declared_of, if_value}
use Rattle.nim_program.specs.View.{stmt_before, stmt_row, condition_blocks, branch_row, case_row, handler_row, stmts_of, param_of, body_of, proc_of}
use Rattle.nim_program.specs.Folds.{lists, together, in_turn, total, total_at, totals, each, total_of, each_block, total_of_handlers, loop_places}
use Rattle.nim_program.specs.Folds.{if_declared, if_constant, begun_by}
use Rattle.nim_program.specs.Kinds.{is_among_types, are_among_types}
use Rattle.nim_program.specs.Typed.{type_if, own_types, place_types, param_declared, body_types}
use Rattle.typing_laws.proofs.Tests.{both, some_one, none_some}

module _ (types : List Ty) where
  abbrev pub Among : List Ty → Type 0
  Among tys = are_among_types types tys ≡ true

  abbrev AllAmong : List (List Ty) → Type 0
  AllAmong [] = Unit {0}
  AllAmong (tys ∷ rest) = Among tys × AllAmong rest

  both_among : (xs ys : List Ty) → Among xs → Among ys → Among (xs ++ ys)
  both_among [] ys h k = k
  both_among (t ∷ xs) ys h k =
      let p = and_parts (is_among_types types t) (are_among_types types xs) h in both p.0 (both_among xs ys p.1 k)

  all_together : (xs : List (List Ty)) → AllAmong xs → Among (together lists xs)
  all_together [] h = refl
  all_together (x ∷ xs) h = both_among x (together lists xs) h.0 (all_together xs h.1)

  turns_among : (xs ys : List (List Ty)) → AllAmong xs → AllAmong ys → Among (in_turn lists xs ys)
  turns_among [] ys h k = all_together ys k
  turns_among (x ∷ xs) [] h k = both_among x (together lists xs) h.0 (all_together xs h.1)
  turns_among (x ∷ xs) (y ∷ ys) h k =
      both_among x (y ++ in_turn lists xs ys) h.0 (both_among y (in_turn lists xs ys) k.0 (turns_among xs ys h.1 k.1))

  totals_among : (args : Args) → AllAmong (each lists own_types args) → Among (totals lists own_types args)
  totals_among T.NoArg h = refl
  totals_among (T.ByValue value rest) h = both_among (total lists own_types value) (totals lists own_types rest) h.0 (totals_among rest h.1)
  totals_among (T.ByPath path rest) h =
      both_among (total_at lists own_types false path) (totals lists own_types rest) h.0 (totals_among rest h.1)

-- a number is that of one of the types, or stands for int
found_or_int : (types : List Ty) (i : ℕ) → (is_among_types types (type_at types i) ≡ true) ⊎ (type_at types i ≡ type.int)
found_or_int [] i = inr refl
found_or_int (t ∷ types) zero = inl (ap (λ b. b || is_among_types types t) (same_refl t))
found_or_int (t ∷ types) (suc i) = by_rest (found_or_int types i)
  where
    behind : (b c : Bool) → c ≡ true → (b || c) ≡ true
    behind true c e = refl
    behind false c e = e

    by_rest : (is_among_types types (type_at types i) ≡ true) ⊎ (type_at types i ≡ type.int)
        → (is_among_types (t ∷ types) (type_at types i) ≡ true) ⊎ (type_at types i ≡ type.int)
    by_rest (inl e) = inl (behind (same (type_at types i) t) (is_among_types types (type_at types i)) e)
    by_rest (inr e) = inr e

module _ (ts : List Ty) (ints : is_among_types ts type.int ≡ true) where
  pub listed : (i : ℕ) → is_among_types ts (type_at ts i) ≡ true
  listed i = by_case (found_or_int ts i)
    where
      by_case : (is_among_types ts (type_at ts i) ≡ true) ⊎ (type_at ts i ≡ type.int) → is_among_types ts (type_at ts i) ≡ true
      by_case (inl e) = e
      by_case (inr e) = subst (λ t. is_among_types ts t ≡ true) (sym e) ints

  one : (i : ℕ) → Among ts (type_at ts i ∷ [])
  one i = both (listed i) refl

  if_listed : (o : Option ℕ) → Among ts (type_if (if_type ts o))
  if_listed None = refl
  if_listed (Some i) = one i

  map_listed : (is : List ℕ) → Among ts (map (type_at ts) is)
  map_listed [] = refl
  map_listed (i ∷ is) = both (listed i) (map_listed is)

  abbrev Listed : T.Expr → Type 0
  Listed e = Among ts (total lists own_types e)

  abbrev ArgsListed : Args → Type 0
  ArgsListed args = AllAmong ts (each lists own_types args)

  -- the types of a node before those of its parts
  node_listed : (own rest : List Ty) → Among ts own → Among ts rest → Among ts (own ++ rest)
  node_listed own rest h k = both_among ts own rest h k

  apply_listed : (o : Option ℕ) (act args : List Ty) → Among ts act → Among ts args → Among ts ((type_if (if_type ts o) ++ act) ++ args)
  apply_listed o act args h k = node_listed (type_if (if_type ts o) ++ act) args (node_listed (type_if (if_type ts o)) act (if_listed o) h) k

  -- ---- the type of a value

  mutual
    value_listed_type : (e : RustExpr) → Among ts (type_if (type_of (expr_of ts e)))
    value_listed_type (E.Apply' node ty operation p operands) = if_listed ty
    value_listed_type (E.Call' node ty proc types p operands) = if_listed ty
    value_listed_type (E.Construct' node ty fields p operands) = one ty
    value_listed_type (E.Constant node ty value) = one ty
    value_listed_type (E.Read path) = path_listed_type path
    value_listed_type (E.Early' node ty short p left q right) = one ty
    value_listed_type (E.If' node ty p branches q otherwise) = if_listed ty
    value_listed_type (E.Case' node ty p selector q branches otherwise) = if_listed ty

    path_listed_type : (path : RustPath) → Among ts (type_if (T.type_at (path_of ts path)))
    path_listed_type (P.Variable node ty place global) = one ty
    path_listed_type (P.Fresh' p value) = value_listed_type value
    path_listed_type (P.Field' node ty p base field) = one ty
    path_listed_type (P.Element' node ty p base q index constant) = one ty
    path_listed_type (P.Deref' ty p base) = one ty

  -- what a path begins with: its type, and where it is no constant the types in it
  fresh_listed : (c : Option T.Literal) (read : Bool) (value : RustExpr) → Listed (expr_of ts value) →
      Among ts (if_constant c (own_types (begun_by c read (expr_of ts value)))
      (own_types (begun_by c read (expr_of ts value)) ++ total lists own_types (expr_of ts value)))
  fresh_listed None read value h =
      let alone = node_listed (type_if (type_of (expr_of ts value))) [] (value_listed_type value) refl in
      node_listed (type_if (type_of (expr_of ts value)) ++ []) _ alone h
  fresh_listed (Some literal) read value h = node_listed (type_if (type_of (expr_of ts value))) [] (value_listed_type value) refl

  mutual
    expr_listed : (e : RustExpr) → Listed (expr_of ts e)
    expr_listed (E.Apply' node ty operation p operands) =
        apply_listed ty [] _ refl (totals_among ts (operand_row ts operands) (operands_listed operands))
    expr_listed (E.Call' node ty proc types p operands) =
        apply_listed ty (map (type_at ts) types) _ (map_listed types) (totals_among ts (operand_row ts operands) (operands_listed operands))
    expr_listed (E.Construct' node ty fields p operands) =
        apply_listed (Some ty) [] _ refl (totals_among ts (operand_row ts operands) (operands_listed operands))
    expr_listed (E.Constant node ty value) = apply_listed (Some ty) [] [] refl refl
    expr_listed (E.Read path) = path_listed true path
    expr_listed (E.Early' node ty short p left q right) =
        node_listed (type_at ts ty ∷ []) _ (one ty) (both_among ts (total lists own_types (expr_of ts left)) _ (expr_listed left) (expr_listed right))
    expr_listed (E.If' node ty p branches q otherwise) =
        apply_listed ty [] _ refl
        (totals_among ts _ (choices_listed branches (T.ByValue (expr_of ts otherwise) T.NoArg) (expr_listed otherwise, tt)))
    expr_listed (E.Case' node ty p selector q branches otherwise) =
        apply_listed ty [] _ refl
        (totals_among ts _ (operand_listed selector (pick_row ts branches (else_of ts otherwise))
        (picks_listed branches (else_of ts otherwise) (else_listed otherwise))))

    else_listed : (o : Held-Expr-Case-4) → ArgsListed (else_of ts o)
    else_listed None' = tt
    else_listed (Some' p value) = (expr_listed value, tt)

    path_listed : (read : Bool) (path : RustPath) → Among ts (total_at lists own_types read (path_of ts path))
    path_listed read (P.Variable node ty place global) = one ty
    path_listed read (P.Fresh' p value) = fresh_listed (constant_in (expr_of ts value)) read value (expr_listed value)
    path_listed read (P.Field' node ty p base field) = node_listed (type_at ts ty ∷ []) _ (one ty) (path_listed false base)
    path_listed read (P.Element' node ty p base q index constant) =
        node_listed (type_at ts ty ∷ []) _ (one ty)
        (both_among ts (total_at lists own_types false (path_of ts base)) _ (path_listed false base) (expr_listed index))
    path_listed read (P.Deref' ty p base) = node_listed (type_at ts ty ∷ []) _ (one ty) (path_listed false base)

    operand_listed : (a : RustOperand) (rest : Args) → ArgsListed rest → ArgsListed (operand_before ts a rest)
    operand_listed (A.Value value) rest h = (expr_listed value, h)
    operand_listed (A.At path) rest h = (path_listed false path, h)

    operands_listed : {m : _} (row : Row_of-Operand m) → ArgsListed (operand_row ts row)
    operands_listed end_of-Operand = tt
    operands_listed (more_of-Operand first row) = operand_listed first (operand_row ts row) (operands_listed row)

    choices_listed : {m : _} (row : Row_of-Choice m) (rest : Args) → ArgsListed rest → ArgsListed (choice_row ts row rest)
    choices_listed end_of-Choice rest h = h
    choices_listed (more_of-Choice condition value row) rest h = (expr_listed condition, (expr_listed value, choices_listed row rest h))

    picks_listed : {m : _} (row : Row_of-Pick m) (rest : Args) → ArgsListed rest → ArgsListed (pick_row ts row rest)
    picks_listed end_of-Pick rest h = h
    picks_listed (more_of-Pick labels value row) rest h = (expr_listed value, picks_listed row rest h)

  all_listed : (all : List RustOperand) → ArgsListed (operands_of ts all)
  all_listed [] = tt
  all_listed (first ∷ rest) = operand_listed first (operands_of ts rest) (all_listed rest)

  -- ---- statements

  value_listed : (o : Option RustExpr) → ArgsListed (if_value ts o)
  value_listed None = tt
  value_listed (Some value) = (expr_listed value, tt)

  loop_listed : (kind : RustKind) → Among ts (place_types (loop_places (V.kind_of ts kind)))
  loop_listed K.While = refl
  loop_listed (K.Count variable inclusive) = one variable.ty
  loop_listed (K.Each variable) = one variable.ty

  place_listed : (o : Option PlaceDecl) → Among ts (place_types (if_declared (option_map (declared_of ts) o)))
  place_listed None = refl
  place_listed (Some d) = one d.ty

  abbrev BlockListed : Stmts → Type 0
  BlockListed block = Among ts (total_of lists own_types block)

  abbrev BlocksListed : Blocks → Type 0
  BlocksListed blocks = AllAmong ts (each_block lists own_types blocks)

  mutual
    stmt_listed : (s : RustStmt) (rest : Stmts) → BlockListed rest → BlockListed (stmt_before ts s rest)
    stmt_listed (S.Do value) rest h = both_among ts (total lists own_types (expr_of ts value)) _ (expr_listed value) h
    stmt_listed (S.Idle node parts) rest h =
        both_among ts (totals lists own_types (operands_of ts parts.items)) _ (totals_among ts _ (all_listed parts.items)) h
    stmt_listed (S.Give node back value) rest h = both_among ts (total lists own_types (expr_of ts value)) _ (expr_listed value) h
    stmt_listed (S.Leave node leaving parts) rest h =
        both_among ts (totals lists own_types (operands_of ts parts.items)) _ (totals_among ts _ (all_listed parts.items)) h
    stmt_listed (S.Declare node place cursor value) rest h =
        node_listed (type_at ts place.ty ∷ []) _ (one place.ty)
        (both_among ts (totals lists own_types (if_value ts value)) _ (totals_among ts _ (value_listed value)) h)
    stmt_listed (S.If' node p branches q otherwise) rest h =
        both_among ts _ _
        (turns_among ts (each lists own_types (condition_blocks ts branches)) (each_block lists own_types (branch_row ts branches (stmt_row ts otherwise)))
        (conditions_listed branches) (branches_listed branches (stmt_row ts otherwise) (stmts_listed otherwise))) h
    stmt_listed (S.Case' node selector p branches q otherwise) rest h =
        both_among ts _ _
        (turns_among ts (each lists own_types (operand_before ts selector T.NoArg)) (each_block lists own_types (case_row ts branches (stmt_row ts otherwise)))
        (operand_listed selector T.NoArg tt) (arms_listed branches (stmt_row ts otherwise) (stmts_listed otherwise))) h
    stmt_listed (S.Loop' node kind head p body) rest h =
        both_among ts _ _
        (node_listed (place_types (loop_places (V.kind_of ts kind)) ++ []) _
        (both_among ts (place_types (loop_places (V.kind_of ts kind))) [] (loop_listed kind) refl)
        (both_among ts (totals lists own_types (operands_of ts head.items)) _ (totals_among ts _ (all_listed head.items)) (stmts_listed body))) h
    stmt_listed (S.Raise node exception message) rest h =
        both_among ts (totals lists own_types (if_value ts message)) _ (totals_among ts _ (value_listed message)) h
    stmt_listed (S.Try' node p body q handlers r last) rest h =
        both_among ts _ _
        (both_among ts (total_of lists own_types (stmt_row ts body)) _ (stmts_listed body)
        (both_among ts (total_of_handlers lists own_types (handler_row ts handlers)) _ (handlers_listed handlers) (stmts_listed last))) h
    stmt_listed (S.Defer' node p last) rest h = both_among ts (total_of lists own_types (stmt_row ts last)) _ (stmts_listed last) h

    stmts_listed : {m : _} (row : Row_of-Stmt m) → BlockListed (stmt_row ts row)
    stmts_listed end_of-Stmt = refl
    stmts_listed (more_of-Stmt first row) = stmt_listed first (stmt_row ts row) (stmts_listed row)

    conditions_listed : {m : _} (row : Row_of-Branch m) → ArgsListed (condition_blocks ts row)
    conditions_listed end_of-Branch = tt
    conditions_listed (more_of-Branch condition p body row) = (expr_listed condition, conditions_listed row)

    branches_listed : {m : _} (row : Row_of-Branch m) (otherwise : Stmts) → BlockListed otherwise → BlocksListed (branch_row ts row otherwise)
    branches_listed end_of-Branch otherwise h = (h, tt)
    branches_listed (more_of-Branch condition p body row) otherwise h = (stmts_listed body, branches_listed row otherwise h)

    arms_listed : {m : _} (row : Row_of-CaseBranch m) (otherwise : Stmts) → BlockListed otherwise → BlocksListed (case_row ts row otherwise)
    arms_listed end_of-CaseBranch otherwise h = (h, tt)
    arms_listed (more_of-CaseBranch labels p body row) otherwise h = (stmts_listed body, arms_listed row otherwise h)

    handlers_listed : {m : _} (row : Row_of-Handler m) → Among ts (total_of_handlers lists own_types (handler_row ts row))
    handlers_listed end_of-Handler = refl
    handlers_listed (more_of-Handler types name p body row) =
        node_listed (place_types (if_declared (option_map (declared_of ts) name)) ++ []) _
        (both_among ts (place_types (if_declared (option_map (declared_of ts) name))) [] (place_listed name) refl)
        (both_among ts (total_of lists own_types (stmt_row ts body)) _ (stmts_listed body) (handlers_listed row))

  block_listed : (all : List RustStmt) → BlockListed (stmts_of ts all)
  block_listed [] = refl
  block_listed (first ∷ rest) = stmt_listed first (stmts_of ts rest) (block_listed rest)

  -- ---- bodies

  params_listed : (params : List RustParam) → Among ts (place_types (param_declared (map (param_of ts) params)))
  params_listed [] = refl
  params_listed (p ∷ rest) = both (listed p.place.ty) (params_listed rest)

  pub body_listed : (params : List RustParam) (b : RustBody) → Among ts (body_types (map (param_of ts) params) (body_of ts b))
  body_listed params b =
      both_among ts (place_types (param_declared (map (param_of ts) params))) _ (params_listed params)
      (both_among ts (place_types (if_declared (option_map (declared_of ts) b.result))) _ (place_listed b.result) (block_listed b.stmts.items))

  pub body_in_listed : (p : RustProc) (b : T.Body) → (proc_of ts p).body ≡ Some b → Among ts (body_types (proc_of ts p).params b)
  body_in_listed p b e = by_body p.body e
    where
      by_body : (o : Option RustBody) → option_map (body_of ts) o ≡ Some b → Among ts (body_types (map (param_of ts) p.params) b)
      by_body None e = none_some e
      by_body (Some body) e = subst (λ b. Among ts (body_types (map (param_of ts) p.params) b)) (some_one e) (body_listed p.params body)

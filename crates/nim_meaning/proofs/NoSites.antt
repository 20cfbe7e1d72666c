-- A program without hooks has no site.
use Rattle.std.proofs.Common.{◌≡◌, ◌⊎◌, inl, inr, ⊎_elim, ℕ, suc, Bool, true, false, ◌&&◌, List, [], ◌∷◌, ◌++◌, Option, Some, None, refl, ap, ap₂}
use Rattle.std.specs.Prelude.{◌||◌, not, if◌then◌else◌}
use Rattle.nim_types.specs.Types.{Ty, Facts}
use Rattle.nim_program.specs.declared.operation.Use.{Use}
use Rattle.nim_program.specs.declared.operation.Use.TheVariants.{Owned, Given, Looked}
use Rattle.nim_program.specs.declared.program.Mode.{Mode}
use Rattle.nim_program.specs.Program as T
use Rattle.nim_program.specs.Program.{Label, Literal, Expr, Args, Declared, Kind, Stmt, Stmts, Blocks, Body, constant_in}
use Rattle.nim_program.specs.Folds.{by_constant}
use Rattle.nim_program.specs.Uses.{use_of}
use Rattle.nim_meaning.specs.Here.{is_hooked}
use Rattle.nim_meaning.specs.Runs.{is_written, is_plain_type, is_plain_value, is_plain_path, are_plain, is_plain_loop, is_plain_stmt, is_plain_block}
use Rattle.nim_meaning.specs.Runs.{writes_literals}
use Rattle.nim_meaning.specs.Runs.{are_plain_blocks}
use Rattle.nim_meaning.specs.Runs.{is_plain_place, is_plain_body}
use Rattle.nim_meaning.specs.ActsOf.{site_at}
use Rattle.nim_meaning.specs.TreeSites.{site_if, if_site, is_taken, own_site, value_sites, path_sites, operand_sites, choice_sites, selected_sites, pick_sites}
use Rattle.nim_meaning.specs.TreeSites.{selector_sites, condition_sites, element_sites, loop_sites, stmt_sites, block_sites, branch_sites, arm_sites}

pub one : (b c : Bool) → (b && c) ≡ true → b ≡ true
one true c e = refl
one false c e = e

pub other : (b c : Bool) → (b && c) ≡ true → c ≡ true
other true c e = e
other false c e = absurd cc

refused : (b : Bool) → not b ≡ true → b ≡ false
refused true e = absurd cc
refused false e = refl

both : {xs ys : List ℕ} → xs ≡ [] → ys ≡ [] → xs ++ ys ≡ []
both e f = ap₂ (λ ms ns. ms ++ ns) e f

module _ (facts : Facts) (modes : (proc position : ℕ) → Mode) where
  abbrev hooked : Ty → Bool
  hooked = is_hooked facts

  not_here : (b c : Bool) (n : ℕ) → b ≡ false → site_if (b && c) n ≡ []
  not_here true c n e = absurd cc
  not_here false c n e = refl

  own_none : (path : T.Path) (how : Use) → is_plain_path hooked path ≡ true → own_site facts modes path how ≡ []
  own_none (T.Variable node ty place global) how e = not_here (hooked ty) (is_taken how) node.number (refused (hooked ty) e)
  own_none (T.Fresh value) how e = refl
  own_none (T.Field node ty base field) how e =
      not_here (hooked ty) (is_taken how) node.number (refused (hooked ty) (one (not (hooked ty)) (is_plain_path hooked base) e))
  own_none (T.Element node ty base index constant) how e =
      not_here (hooked ty) (is_taken how) node.number
      (refused (hooked ty) (one (not (hooked ty)) (is_plain_path hooked base && is_plain_value hooked index) e))
  own_none (T.Deref ty base) how e = refl

  -- a literal that is written has none, and all else is plain
  written_or_plain : (written : Bool) (value : Expr) (how : Use) → (is_written hooked written value || is_plain_value hooked value) ≡ true →
      (value_sites facts modes value how ≡ []) ⊎ (is_plain_value hooked value ≡ true)
  written_or_plain false value how e = inr e
  written_or_plain true (T.Apply node ty (T.Giving (T.Characters text)) T.NoArg) how e = inl refl
  written_or_plain true (T.Apply node ty (T.Giving (T.Characters text)) (T.ByValue value rest)) how e = inr e
  written_or_plain true (T.Apply node ty (T.Giving (T.Characters text)) (T.ByPath path rest)) how e = inr e
  written_or_plain true (T.Apply node ty (T.Giving (T.Number value)) operands) how e = inr e
  written_or_plain true (T.Apply node ty (T.Giving T.NoObject) operands) how e = inr e
  written_or_plain true (T.Apply node ty (T.Giving (T.PartsOf all)) operands) how e = inr e
  written_or_plain true (T.Apply node ty (T.Giving (T.ElementsOf all)) operands) how e = inr e
  written_or_plain true (T.Apply node ty (T.Doing operation) operands) how e = inr e
  written_or_plain true (T.Apply node ty (T.Building fields) operands) how e = inr e
  written_or_plain true (T.Apply node ty (T.Calling proc types) operands) how e = inr e
  written_or_plain true (T.Read path) how e = inr e
  written_or_plain true (T.Early node ty short left right) how e = inr e
  written_or_plain true (T.Choose node ty chooser parts) how e = inr e

  constant_none : (c : Option Literal) (ns : List ℕ) → ns ≡ [] → by_constant c (λ literal. []) ns ≡ []
  constant_none None ns e = e
  constant_none (Some literal) ns e = refl

  mutual
    pub value_none : (value : Expr) (how : Use) → is_plain_value hooked value ≡ true → value_sites facts modes value how ≡ []
    value_none (T.Apply node ty act operands) how e =
        operand_none operands (writes_literals act) (use_of modes act) 0 (other (is_plain_type hooked ty) (are_plain hooked (writes_literals act) operands) e)
    value_none (T.Read path) how e = both (path_none path e) (own_none path how e)
    value_none (T.Early node ty short left right) how e =
        let parts = other (not (hooked ty)) (is_plain_value hooked left && is_plain_value hooked right) e in
        both (value_none left Owned (one (is_plain_value hooked left) (is_plain_value hooked right) parts))
        (value_none right Owned (other (is_plain_value hooked left) (is_plain_value hooked right) parts))
    value_none (T.Choose node ty T.ByConditions parts) how e =
        choice_none parts (other (is_plain_type hooked ty) (are_plain hooked false parts) e)
    value_none (T.Choose node ty (T.ByLabels labels) parts) how e =
        selected_none parts labels (other (is_plain_type hooked ty) (are_plain hooked false parts) e)

    pub path_none : (path : T.Path) → is_plain_path hooked path ≡ true → path_sites facts modes path ≡ []
    path_none (T.Variable node ty place global) e = refl
    path_none (T.Fresh value) e = constant_none (constant_in value) (value_sites facts modes value Looked) (value_none value Looked e)
    path_none (T.Field node ty base field) e = path_none base (other (not (hooked ty)) (is_plain_path hooked base) e)
    path_none (T.Element node ty base index constant) e =
        let parts = other (not (hooked ty)) (is_plain_path hooked base && is_plain_value hooked index) e in
        both (path_none base (one (is_plain_path hooked base) (is_plain_value hooked index) parts))
        (value_none index Owned (other (is_plain_path hooked base) (is_plain_value hooked index) parts))
    path_none (T.Deref ty base) e = path_none base (other (not (hooked ty)) (is_plain_path hooked base) e)

    pub operand_none : (operands : Args) (written : Bool) (uses : (position : ℕ) → Use) (i : ℕ) → are_plain hooked written operands ≡ true →
        operand_sites facts modes operands uses i ≡ []
    operand_none T.NoArg written uses i e = refl
    operand_none (T.ByValue value rest) written uses i e =
        let here = is_written hooked written value || is_plain_value hooked value in
        both
        (⊎_elim (λ none. none) (λ plain. value_none value (uses i) plain)
        (written_or_plain written value (uses i) (one here (are_plain hooked written rest) e)))
        (operand_none rest written uses (suc i) (other here (are_plain hooked written rest) e))
    operand_none (T.ByPath path rest) written uses i e =
        both (path_none path (one (is_plain_path hooked path) (are_plain hooked written rest) e))
        (operand_none rest written uses (suc i) (other (is_plain_path hooked path) (are_plain hooked written rest) e))

    pub choice_none : (parts : Args) → are_plain hooked false parts ≡ true → choice_sites facts modes parts ≡ []
    choice_none T.NoArg e = refl
    choice_none (T.ByPath path rest) e = refl
    choice_none (T.ByValue last T.NoArg) e = value_none last Owned (one (is_plain_value hooked last) true e)
    choice_none (T.ByValue condition (T.ByPath path rest)) e = refl
    choice_none (T.ByValue condition (T.ByValue value rest)) e =
        let behind = is_plain_value hooked value && are_plain hooked false rest in
        let more = other (is_plain_value hooked condition) behind e in
        both (value_none condition Owned (one (is_plain_value hooked condition) behind e))
        (both (value_none value Owned (one (is_plain_value hooked value) (are_plain hooked false rest) more))
        (choice_none rest (other (is_plain_value hooked value) (are_plain hooked false rest) more)))

    pub selected_none : (parts : Args) (labels : List (List Label)) → are_plain hooked false parts ≡ true → selected_sites facts modes labels parts ≡ []
    selected_none T.NoArg labels e = refl
    selected_none (T.ByValue selector values) labels e =
        both (value_none selector Looked (one (is_plain_value hooked selector) (are_plain hooked false values) e))
        (pick_none values labels (other (is_plain_value hooked selector) (are_plain hooked false values) e))
    selected_none (T.ByPath path values) labels e =
        both (path_none path (one (is_plain_path hooked path) (are_plain hooked false values) e))
        (pick_none values labels (other (is_plain_path hooked path) (are_plain hooked false values) e))

    pub pick_none : (values : Args) (labels : List (List Label)) → are_plain hooked false values ≡ true → pick_sites facts modes labels values ≡ []
    pick_none T.NoArg labels e = refl
    pick_none (T.ByPath path rest) labels e = refl
    pick_none (T.ByValue value rest) [] e = value_none value Owned (one (is_plain_value hooked value) (are_plain hooked false rest) e)
    pick_none (T.ByValue value rest) (these ∷ labels) e =
        both (value_none value Owned (one (is_plain_value hooked value) (are_plain hooked false rest) e))
        (pick_none rest labels (other (is_plain_value hooked value) (are_plain hooked false rest) e))

  -- ---- statements

  condition_none : (head : Args) → are_plain hooked false head ≡ true → condition_sites facts modes head ≡ []
  condition_none T.NoArg e = refl
  condition_none (T.ByValue condition rest) e = value_none condition Owned (one (is_plain_value hooked condition) (are_plain hooked false rest) e)
  condition_none (T.ByPath path rest) e = refl

  selector_none : (tests : Args) → are_plain hooked false tests ≡ true → selector_sites facts modes tests ≡ []
  selector_none T.NoArg e = refl
  selector_none (T.ByValue selector rest) e = value_none selector Looked (one (is_plain_value hooked selector) (are_plain hooked false rest) e)
  selector_none (T.ByPath path rest) e = path_none path (one (is_plain_path hooked path) (are_plain hooked false rest) e)

  element_none : (variable : Declared) (head : Args) → hooked variable.of ≡ false → element_sites facts modes variable head ≡ []
  element_none variable T.NoArg e = refl
  element_none variable (T.ByValue value rest) e = refl
  element_none variable (T.ByPath path rest) e = ap (λ b. if b then if_site (site_at path) else []) e

  loop_none : (kind : Kind) (head : Args) → is_plain_loop hooked kind ≡ true → are_plain hooked false head ≡ true → loop_sites facts modes kind head ≡ []
  loop_none T.While head k e = condition_none head e
  loop_none (T.Count variable inclusive) head k e = operand_none head false (λ i. Owned) 0 e
  loop_none (T.Each variable) head k e =
      both (operand_none head false (λ i. Owned) 0 e) (element_none variable head (refused (hooked variable.of) k))

  mutual
    pub stmt_none : (s : Stmt) → is_plain_stmt hooked s ≡ true → stmt_sites facts modes s ≡ []
    stmt_none (T.Do value) e = value_none value Owned e
    stmt_none (T.Idle node parts) e = refl
    stmt_none (T.Give node back value) e = value_none value Given e
    stmt_none (T.Leave node leaving parts) e = refl
    stmt_none (T.Select node T.ByConditions tests blocks) e =
        branch_none blocks tests (one (are_plain hooked false tests) (are_plain_blocks hooked blocks) e)
        (other (are_plain hooked false tests) (are_plain_blocks hooked blocks) e)
    stmt_none (T.Select node (T.ByLabels labels) tests blocks) e =
        both (selector_none tests (one (are_plain hooked false tests) (are_plain_blocks hooked blocks) e))
        (arm_none blocks labels (other (are_plain hooked false tests) (are_plain_blocks hooked blocks) e))
    stmt_none (T.Loop node kind head body) e =
        let parts = are_plain hooked false head && is_plain_block hooked body in
        let rest = other (is_plain_loop hooked kind) parts e in
        both
        (loop_none kind head (one (is_plain_loop hooked kind) parts e) (one (are_plain hooked false head) (is_plain_block hooked body) rest))
        (block_none body (other (are_plain hooked false head) (is_plain_block hooked body) rest))
    stmt_none (T.Raise node exception message) e = refl
    stmt_none (T.Try node body handlers last) e = refl

    pub block_none : (b : Stmts) → is_plain_block hooked b ≡ true → block_sites facts modes b ≡ []
    block_none T.Empty e = refl
    block_none (T.Then first rest) e =
        both (stmt_none first (one (is_plain_stmt hooked first) (is_plain_block hooked rest) e))
        (block_none rest (other (is_plain_stmt hooked first) (is_plain_block hooked rest) e))
    block_none (T.Declare node place cursor T.NoArg rest) e = block_none rest (other (not (hooked place.of)) (is_plain_block hooked rest) e)
    block_none (T.Declare node place cursor (T.ByValue value more) rest) e =
        let given = are_plain hooked false (T.ByValue value more) in
        let parts = other (not (hooked place.of)) (given && is_plain_block hooked rest) e in
        both (value_none value Given (one (is_plain_value hooked value) (are_plain hooked false more) (one given (is_plain_block hooked rest) parts)))
        (block_none rest (other given (is_plain_block hooked rest) parts))
    block_none (T.Declare node place cursor (T.ByPath path more) rest) e = refl
    block_none (T.Defer node last rest) e = refl

    pub branch_none : (blocks : Blocks) (tests : Args) → are_plain hooked false tests ≡ true → are_plain_blocks hooked blocks ≡ true →
        branch_sites facts modes tests blocks ≡ []
    branch_none (T.Otherwise block) T.NoArg e f = block_none block f
    branch_none (T.Block first more) T.NoArg e f = block_none first (one (is_plain_block hooked first) (are_plain_blocks hooked more) f)
    branch_none (T.Otherwise block) (T.ByPath path rest) e f = refl
    branch_none (T.Block first more) (T.ByPath path rest) e f = refl
    branch_none (T.Otherwise block) (T.ByValue condition rest) e f = refl
    branch_none (T.Block first more) (T.ByValue condition rest) e f =
        both (value_none condition Owned (one (is_plain_value hooked condition) (are_plain hooked false rest) e))
        (both (block_none first (one (is_plain_block hooked first) (are_plain_blocks hooked more) f))
        (branch_none more rest (other (is_plain_value hooked condition) (are_plain hooked false rest) e)
        (other (is_plain_block hooked first) (are_plain_blocks hooked more) f)))

    pub arm_none : (blocks : Blocks) (labels : List (List Label)) → are_plain_blocks hooked blocks ≡ true → arm_sites facts modes labels blocks ≡ []
    arm_none (T.Otherwise block) labels e = block_none block e
    arm_none (T.Block first rest) [] e = block_none first (one (is_plain_block hooked first) (are_plain_blocks hooked rest) e)
    arm_none (T.Block first rest) (these ∷ labels) e =
        both (block_none first (one (is_plain_block hooked first) (are_plain_blocks hooked rest) e))
        (arm_none rest labels (other (is_plain_block hooked first) (are_plain_blocks hooked rest) e))

  pub body_none : (body : Body) → is_plain_body hooked body ≡ true → block_sites facts modes body.stmts ≡ []
  body_none body e = block_none body.stmts (other (is_plain_place hooked body.result) (is_plain_block hooked body.stmts) e)

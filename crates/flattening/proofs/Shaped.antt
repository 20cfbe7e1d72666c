-- What is typed is shaped: what chooses by labels has one selector, each loop the head of its kind, and none counts from a text.
use Rattle.std.proofs.Common.{◌≡◌, ℕ, zero, suc, true, false, List, [], ◌∷◌, length, Option, Some, None, refl, sym, ap, ◌∙◌, subst}
use Rattle.std.specs.Prelude.{not, ◌&&◌, ◌||◌}
use Rattle.std.proofs.lemmas.Bool.{and_parts}
use Rattle.nim_types.specs.Types.{Ty, Fact, Facts, fact_of, base_in}
use Rattle.nim_types.specs.Types as type
use Rattle.nim_types.specs.declared.types.TypeDef.{TypeDef}
use Rattle.nim_types.specs.Table.{facts_in}
use Rattle.nim_program.specs.Program.{Number, Characters, NoObject, PartsOf, ElementsOf, Act, Doing, Building, Giving, Calling}
use Rattle.nim_program.specs.Program.{Label, Chooser, ByConditions, ByLabels, Expr, Apply, Read, Early, Choose, Args, NoArg, ByValue, ByPath, Kind, While}
use Rattle.nim_program.specs.Program.{Count}
use Rattle.nim_program.specs.Program.{Each as EachKind, Stmt, Do, Idle, Give, Leave, Select, Loop, Raise, Try, Stmts, Empty, Then, Declare, Defer}
use Rattle.nim_program.specs.Program.{Blocks, Otherwise, Block, Param, Body, Proc, Program, type_of}
use Rattle.nim_program.specs.Folds.{loop_places}
use Rattle.nim_program.specs.Kinds.{TypeKind, kind_of, kind_if, plain_kind, declared_kind, base_or, below_distinct, is_int, is_text}
use Rattle.nim_program.specs.Fitting.{are_labels, are_enough}
use Rattle.nim_program.specs.Scopes.{Here, with_place, with_global}
use Rattle.nim_program.specs.Typed.{Around, module_code, looping, procedure, is_empty, chooses, head_fits, with_places, act_fits}
use Rattle.nim_program.specs.Typed.{is_selector, labels_select, are_blocks, has_else, is_typed, are_typed, is_typed_stmt, is_typed_block, are_typed_blocks}
use Rattle.nim_program.specs.Typed.{is_typed_code, in_body, before}
use Rattle.nim_program.specs.Typed.{is_typed_if, is_typed_proc, are_typed_procs, is_typed_start, hook_fits, dest_of, IsTyped}
use Rattle.flat_code.proofs.ForCallers.{IsSorted, sorted_table}
use Rattle.flattening.proofs.AlikeLines.{HasOne, IsShaped, AreShaped, AreShapedBlocks, IfShaped, ProcsShaped, ProgramShaped}
use Rattle.flattening.specs.Formed.{HasSelector, HeadFits}
use Rattle.flattening.proofs.LineNames.{never, act_text, is_literal, CountsFrom}

-- ---- heads and selectors

has_selector : (facts : Facts) (chooser : Chooser) (tests : Args) (blocks : Blocks) → chooses facts chooser tests blocks ≡ true → HasSelector chooser tests
has_selector facts ByConditions tests blocks h = tt
has_selector facts (ByLabels labels) (ByValue value rest) blocks h = tt
has_selector facts (ByLabels labels) (ByPath path rest) blocks h = tt
has_selector facts (ByLabels labels) NoArg blocks h = never h

no_kind : {A : Type 0} (labels : List (List Label)) (blocks : Blocks) → labels_select TypeKind.other labels blocks ≡ true → A
no_kind labels blocks h =
    never (and_parts false (are_labels TypeKind.other labels)
    (and_parts _ (are_blocks labels blocks) (and_parts _ (has_else blocks || are_enough TypeKind.other None labels) h).0).0).0

has_one : (facts : Facts) (chooser : Chooser) (tests : Args) (blocks : Blocks) → chooses facts chooser tests blocks ≡ true → HasOne chooser tests
has_one facts ByConditions tests blocks h = tt
has_one facts (ByLabels labels) NoArg blocks h = never h
has_one facts (ByLabels labels) (ByValue value NoArg) blocks h = tt
has_one facts (ByLabels labels) (ByPath path NoArg) blocks h = tt
has_one facts (ByLabels labels) (ByValue value (ByValue other rest)) blocks h =
    no_kind labels blocks (and_parts (is_selector (ByValue value (ByValue other rest))) _ h).1
has_one facts (ByLabels labels) (ByValue value (ByPath path rest)) blocks h =
    no_kind labels blocks (and_parts (is_selector (ByValue value (ByPath path rest))) _ h).1
has_one facts (ByLabels labels) (ByPath path (ByValue other rest)) blocks h =
    no_kind labels blocks (and_parts (is_selector (ByPath path (ByValue other rest))) _ h).1
has_one facts (ByLabels labels) (ByPath path (ByPath other rest)) blocks h =
    no_kind labels blocks (and_parts (is_selector (ByPath path (ByPath other rest))) _ h).1

head_of : (facts : Facts) (kind : Kind) (operands : Args) → head_fits facts kind operands ≡ true → HeadFits kind operands
head_of facts While NoArg h = never h
head_of facts While (ByValue condition rest) h = tt
head_of facts While (ByPath path rest) h = never h
head_of facts (Count place inclusive) NoArg h = never h
head_of facts (Count place inclusive) (ByPath path rest) h = never h
head_of facts (Count place inclusive) (ByValue first NoArg) h = never (and_parts _ _ h).1
head_of facts (Count place inclusive) (ByValue first (ByPath path rest)) h = never (and_parts _ _ h).1
head_of facts (Count place inclusive) (ByValue first (ByValue last rest)) h = tt
head_of facts (EachKind place) NoArg h = never h
head_of facts (EachKind place) (ByValue value rest) h = never h
head_of facts (EachKind place) (ByPath path rest) h = tt

-- ---- an int is no text

no_int : {A : Type 0} (fact : Option Fact) → is_int (declared_kind fact) ≡ true → A
no_int None h = never h
no_int (Some (type.members names)) h = never h
no_int (Some (type.fields all resource)) h = never h
no_int (Some (type.base t)) h = never h
no_int (Some (type.below parent)) h = never h

the_int : (facts : Facts) (ty : Ty) → is_int (kind_of facts ty) ≡ true → ty ≡ type.int
the_int facts type.int h = refl
the_int facts type.bool h = never h
the_int facts type.char h = never h
the_int facts type.text h = never h
the_int facts (type.sequence t) h = never h
the_int facts (type.array n t) h = never h
the_int facts (type.tuple names ts) h = never h
the_int facts (type.parameter n) h = never h
the_int facts (type.ref name t) h = never h
the_int facts (type.enum key) h = no_int (fact_of facts (type.enum key)) h
the_int facts (type.object key ts) h = no_int (fact_of facts (type.object key ts)) h
the_int facts (type.distinct key) h = no_int (fact_of facts (type.distinct key)) h
the_int facts (type.exception key) h = no_int (fact_of facts (type.exception key)) h

-- of ints no base is declared
module _ (facts : Facts) (undeclared : base_in (fact_of facts type.int) ≡ None) where
  int_itself : (n : ℕ) → below_distinct n facts type.int ≡ type.int
  int_itself zero = refl
  int_itself (suc n) = ap (base_or (below_distinct n facts) type.int) undeclared

  int_no_text : (ty : Ty) → is_int (kind_of facts ty) ≡ true → is_text (plain_kind facts ty) ≡ false
  int_no_text ty h =
      subst (λ t. is_text (plain_kind facts t) ≡ false) (sym (the_int facts ty h)) (ap (λ t. is_text (kind_of facts t)) (int_itself (length facts)))

  no_text : (here : Here) → here.facts ≡ facts → (ty : Option Ty) (act : Act) (operands : Args) → act_fits here ty act operands ≡ true →
      is_int (kind_if facts ty) ≡ true → act_text act ≡ false
  no_text here same ty (Doing operation) operands h i = refl
  no_text here same ty (Building fields) operands h i = refl
  no_text here same ty (Calling proc of) operands h i = refl
  no_text here same ty (Giving (Number z)) operands h i = refl
  no_text here same ty (Giving NoObject) operands h i = refl
  no_text here same ty (Giving (PartsOf all)) operands h i = refl
  no_text here same ty (Giving (ElementsOf all)) operands h i = refl
  no_text here same None (Giving (Characters bytes)) operands h i = never i
  no_text here same (Some ty) (Giving (Characters bytes)) NoArg h i =
      never (sym (int_no_text ty i) ∙ (ap (λ fs. is_text (plain_kind fs ty)) (sym same) ∙ h))
  no_text here same (Some ty) (Giving (Characters bytes)) (ByValue value rest) h i = never h
  no_text here same (Some ty) (Giving (Characters bytes)) (ByPath path rest) h i = never h

  no_literal : (here : Here) → here.facts ≡ facts → (e : Expr) → is_typed here e ≡ true → is_int (kind_if facts (type_of e)) ≡ true → is_literal e ≡ false
  no_literal here same (Apply node ty act operands) h i =
      no_text here same ty act operands (and_parts (act_fits here ty act operands) (are_typed here operands) h).0 i
  no_literal here same (Read path) h i = refl
  no_literal here same (Early node ty short left right) h i = refl
  no_literal here same (Choose node ty chooser parts) h i = refl

  counts_from : (here : Here) → here.facts ≡ facts → (kind : Kind) (head : Args) → head_fits facts kind head ≡ true → are_typed here head ≡ true →
      CountsFrom kind head
  counts_from here same While head f h = tt
  counts_from here same (EachKind place) head f h = tt
  counts_from here same (Count place inclusive) NoArg f h = tt
  counts_from here same (Count place inclusive) (ByPath path rest) f h = tt
  counts_from here same (Count place inclusive) (ByValue first rest) f h =
      no_literal here same first (and_parts (is_typed here first) (are_typed here rest) h).0
      (and_parts (is_int (kind_of facts place.of)) _ (and_parts (is_int (kind_of facts place.of) && is_int (kind_if facts (type_of first))) _ f).0).1

  -- what is in scope in a loop
  in_loop : (here : Here) → here.facts ≡ facts → (kind : Kind) → (with_places here (loop_places kind)).facts ≡ facts
  in_loop here same While = same
  in_loop here same (Count place inclusive) = same
  in_loop here same (EachKind place) = same

  -- ---- statements

  mutual
    stmt_shaped : (here : Here) → here.facts ≡ facts → (around : Around) (s : Stmt) → is_typed_stmt here around s ≡ true → IsShaped s
    stmt_shaped here same around (Do value) h = tt
    stmt_shaped here same around (Idle node parts) h = tt
    stmt_shaped here same around (Give node back value) h = tt
    stmt_shaped here same around (Leave node leaving parts) h = tt
    stmt_shaped here same around (Select node chooser tests blocks) h =
        let t = and_parts (chooses here.facts chooser tests blocks && are_typed here tests) (are_typed_blocks here around blocks) h in
        let u = and_parts (chooses here.facts chooser tests blocks) (are_typed here tests) t.0 in
        ((has_selector here.facts chooser tests blocks u.0, has_one here.facts chooser tests blocks u.0), blocks_shaped here same around blocks t.1)
    stmt_shaped here same around (Loop node kind head body) h =
        let t = and_parts (head_fits here.facts kind head && are_typed here head) _ h in
        let u = and_parts (head_fits here.facts kind head) (are_typed here head) t.0 in
        let f : head_fits facts kind head ≡ true = subst (λ fs. head_fits fs kind head ≡ true) same u.0 in
        let inner = with_places here (loop_places kind) in (
          (head_of facts kind head f, counts_from here same kind head f u.1),
          block_shaped inner (in_loop here same kind) (looping around) body
              (and_parts (not (is_empty body)) (is_typed_block inner (looping around) body) t.1).1,
        )
    stmt_shaped here same around (Raise node exception message) h = tt
    stmt_shaped here same around (Try node body handlers last) h = tt

    block_shaped : (here : Here) → here.facts ≡ facts → (around : Around) (b : Stmts) → is_typed_block here around b ≡ true → AreShaped b
    block_shaped here same around Empty h = tt
    block_shaped here same around (Then first rest) h =
        let t = and_parts (is_typed_stmt here around first) (is_typed_block here around rest) h in
        (stmt_shaped here same around first t.0, block_shaped here same around rest t.1)
    block_shaped here same around (Declare node place cursor value rest) h =
        block_shaped (with_place here place) same around rest (and_parts _ (is_typed_block (with_place here place) around rest) h).1
    block_shaped here same around (Defer node last rest) h = tt

    blocks_shaped : (here : Here) → here.facts ≡ facts → (around : Around) (bs : Blocks) → are_typed_blocks here around bs ≡ true → AreShapedBlocks bs
    blocks_shaped here same around (Otherwise b) h = block_shaped here same around b h
    blocks_shaped here same around (Block first rest) h =
        let t = and_parts (not (is_empty first) && is_typed_block here around first) (are_typed_blocks here around rest) h in (
          block_shaped here same around first (and_parts (not (is_empty first)) (is_typed_block here around first) t.0).1,
          blocks_shaped here same around rest t.1,
        )

  code_shaped : (here : Here) → here.facts ≡ facts → (code : Stmts) → is_typed_code here code ≡ true → AreShaped code
  code_shaped here same Empty h = tt
  code_shaped here same (Then first rest) h =
      let t = and_parts (is_typed_stmt here module_code first) (is_typed_code here rest) h in
      (stmt_shaped here same module_code first t.0, code_shaped here same rest t.1)
  code_shaped here same (Declare node place cursor value rest) h =
      code_shaped (with_global here) same rest (and_parts _ (is_typed_code (with_global here) rest) h).1
  code_shaped here same (Defer node last rest) h = tt

-- ---- a program

module _ (program : Program) (undeclared : base_in (fact_of program.facts type.int) ≡ None) where
  proc_shaped : (dest : Option ℕ) (params : List Param) (gives : Option Ty) (body : Option Body) → is_typed_if program dest params gives body ≡ true →
      IfShaped body
  proc_shaped dest params gives None h = tt
  proc_shaped dest params gives (Some body) h =
      let here = in_body program (before program body.first) dest params body in
      block_shaped program.facts undeclared here refl (procedure gives) body.stmts
      (and_parts (not (is_empty body.stmts)) (is_typed_block here (procedure gives) body.stmts) (and_parts _ (not (is_empty body.stmts) && _) h).1).1

  procs_shaped : (procs : List Proc) → are_typed_procs program procs ≡ true → ProcsShaped procs
  procs_shaped [] h = tt
  procs_shaped (p ∷ procs) h =
      let t = and_parts (is_typed_proc program p) (are_typed_procs program procs) h in
      let u = and_parts (hook_fits program p.hook p.params p.gives p.body) _ t.0 in
      (proc_shaped (dest_of p.hook p.params) p.params p.gives p.body u.1, procs_shaped procs t.1)

  pub typed_shaped : IsTyped program → ProgramShaped program
  typed_shaped typed =
      let t = and_parts (are_typed_procs program program.procs) (is_typed_start program program.start) (and_parts _ _ typed.typed).1 in
      let here = in_body program 0 None [] program.start in (
        procs_shaped program.procs t.0,
        code_shaped program.facts undeclared here refl program.start.stmts
            (and_parts _ (is_typed_code here program.start.stmts) t.1).1,
      )

-- a table declares no base of ints
nothing_sorted : (fact : Fact) → IsSorted type.int fact → ⊥
nothing_sorted (type.members names) h = h
nothing_sorted (type.fields all resource) h = h
nothing_sorted (type.base t) h = h
nothing_sorted (type.below parent) h = h

no_base : (o : Option Fact) → ((fact : Fact) → o ≡ Some fact → ⊥) → base_in o ≡ None
no_base None h = refl
no_base (Some fact) h = absurd (h fact refl)

pub undeclared_in : (table : List TypeDef) → base_in (fact_of (facts_in table) type.int) ≡ None
undeclared_in table = no_base (fact_of (facts_in table) type.int) (λ fact e. nothing_sorted fact (sorted_table table type.int fact e))

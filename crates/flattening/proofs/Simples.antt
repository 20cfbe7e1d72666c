-- What is typed, and of which nothing is left out, is simple.
use Rattle.std.proofs.Common.{◌≡◌, ℕ, suc, Bool, true, false, List, [], ◌∷◌, ◌++◌, Option, Some, None, refl, sym, subst, ◌≤◌, arith}
use Rattle.std.specs.Prelude.{not, ◌&&◌, ◌||◌, slice_get}
use Rattle.std.proofs.lemmas.Bool.{and_parts, or_parts, not-false}
use Rattle.nim_types.specs.Types.{Ty, Fact, Facts, fact_of}
use Rattle.nim_types.specs.Types as type
use Rattle.nim_program.specs.Program as P
use Rattle.nim_program.specs.Program.{Act, Chooser, ByConditions, ByLabels, Expr, Path, Args, NoArg, ByValue, ByPath, Proc, node_of}
use Rattle.nim_program.specs.Program.{Kind, While, Count, Each as EachKind, Stmt, Stmts, Blocks, type_of, type_at, types_in}
use Rattle.nim_program.specs.Folds.{lists, total, total_at, totals, each, total_in, total_of, each_block, loop_places}
use Rattle.nim_program.specs.declared.expr.Node.{Node}
use Rattle.nim_program.specs.Kinds.{kind_of, kind_if, declared_kind, is_bool, is_of, is_there, is_selected, field_at}
use Rattle.nim_program.specs.Fitting.{early_fits, values_fit, chooser_fits, are_labels}
use Rattle.nim_program.specs.Scopes.{Placed, placed, Here}
use Rattle.nim_program.specs.Sizes.{type_bytes}
use Rattle.nim_program.specs.Typed.{type_if, act_fits, is_typed, is_typed_path, are_typed, is_whole, is_fresh}
use Rattle.nim_program.specs.Typed.{choice_is_placed, are_placed}
use Rattle.nim_program.specs.Typed.{is_selector, behind_first, is_one, are_blocks, labels_select, selector_kind}
use Rattle.nim_program.specs.Typed.{Around, module_code, looping, is_empty, chooses, head_fits, with_places, starts}
use Rattle.nim_program.specs.Typed.{is_typed_stmt, is_typed_block, are_typed_blocks, is_next, is_typed_code, is_read, is_located}
use Rattle.nim_program.proofs.ForCallers.{in_fresh}
use Rattle.nim_meaning.specs.LeftOut.{◌or_then◌, out_if, is_exception_type, is_act_built, first_unbuilt, any_place_unbuilt}
use Rattle.nim_meaning.specs.LeftOut.{left_out_in, left_out_in_path, left_out_in_args, left_out_in_stmt, left_out_in_block, left_out_in_blocks}
use Rattle.nim_meaning.specs.Unbuilt.{is_unbuilt, gives_unbuilt}
use Rattle.flat_code.proofs.ForCallers.{AreSorted}
use Rattle.flattening.specs.Formed.{HasSelector, HeadFits}
use Rattle.flattening.proofs.Listed.{the_bool}
use Rattle.flattening.proofs.Parts.{Each, EachIn, apart, both, taking_turns}
use Rattle.flattening.proofs.Plain.{found, kept, neither, none_earlier}
use Rattle.flattening.specs.Shallow.{shown_by, shown_types}
use Rattle.flattening.proofs.Simple.{never, IsListed, IfFine, IsSimple, IsSimplePath, AreSimple, LoopFine}
use Rattle.flattening.proofs.Simple.{AllValues, IsLast, Alone, LabelsFit, LabelledBlocks, IsOne, IsSmall, SmallFirst, ChoosesBy, SelectsBy, IsSimpleStmt}
use Rattle.flattening.proofs.Simple.{AreSimpleStmts, AreSimpleBlocks}

-- ---- heads and selectors

has_selector : (facts : Facts) (chooser : Chooser) (tests : Args) (blocks : Blocks) → chooses facts chooser tests blocks ≡ true → HasSelector chooser tests
has_selector facts ByConditions tests blocks h = tt
has_selector facts (ByLabels labels) (ByValue value rest) blocks h = tt
has_selector facts (ByLabels labels) (ByPath path rest) blocks h = tt
has_selector facts (ByLabels labels) NoArg blocks h = never h

head_of : (facts : Facts) (kind : Kind) (operands : Args) → head_fits facts kind operands ≡ true → HeadFits kind operands
head_of facts While NoArg h = never h
head_of facts While (ByValue condition rest) h = tt
head_of facts While (ByPath path rest) h = never h
head_of facts (Count place inclusive) NoArg h = never h
head_of facts (Count place inclusive) (ByPath path rest) h = never h
head_of facts (Count place inclusive) (ByValue first NoArg) h = never (and_parts _ _ h).1
head_of facts (Count place inclusive) (ByValue first (ByPath path rest)) h = never (and_parts _ _ h).1
head_of facts (Count place inclusive) (ByValue first (ByValue last rest)) h = tt
head_of facts (EachKind place) NoArg h = never h
head_of facts (EachKind place) (ByValue value rest) h = never h
head_of facts (EachKind place) (ByPath path rest) h = tt

-- ---- operands that choose

all_values : (args : Args) → are_placed 0 args ≡ true → AllValues args
all_values NoArg h = tt
all_values (ByValue value rest) h = all_values rest h
all_values (ByPath path rest) h = never h

one_alone : (holds : Option Ty → Bool) (args : Args) → is_one holds args ≡ true → Alone args
one_alone holds NoArg h = never h
one_alone holds (ByValue value NoArg) h = tt
one_alone holds (ByValue value (ByValue other rest)) h = never h
one_alone holds (ByValue value (ByPath path rest)) h = never h
one_alone holds (ByPath path rest) h = never h

starts_last : (facts : Facts) (ty : Ty) (value : Args) → starts facts ty value ≡ true → IsLast value
starts_last facts ty NoArg h = tt
starts_last facts ty (ByValue value NoArg) h = tt
starts_last facts ty (ByValue value (ByValue other rest)) h = never h
starts_last facts ty (ByValue value (ByPath path rest)) h = never h
starts_last facts ty (ByPath path rest) h = never h

is_one_head : (facts : Facts) (kind : Kind) (head : Args) → head_fits facts kind head ≡ true → IsOne kind head
is_one_head facts While head h = one_alone (λ ty. is_bool (kind_if facts ty)) head h
is_one_head facts (Count place inclusive) head h = tt
is_one_head facts (EachKind place) head h = tt

one_selector : (facts : Facts) (args : Args) → is_selected (selector_kind facts args) ≡ true → Alone args
one_selector facts NoArg h = never h
one_selector facts (ByValue value NoArg) h = tt
one_selector facts (ByValue value (ByValue other rest)) h = never h
one_selector facts (ByValue value (ByPath path rest)) h = never h
one_selector facts (ByPath path NoArg) h = tt
one_selector facts (ByPath path (ByValue other rest)) h = never h
one_selector facts (ByPath path (ByPath other rest)) h = never h

labelled : (labels : List (List P.Label)) (blocks : Blocks) → are_blocks labels blocks ≡ true → LabelledBlocks labels blocks
labelled labels (P.Otherwise b) h = tt
labelled [] (P.Block first rest) h = never h
labelled (these ∷ labels) (P.Block first rest) h = labelled labels rest h

labels_fit : (facts : Facts) (ty : Option Ty) (enough : Bool) (labels : List (List P.Label)) (args : Args) →
    values_fit facts ty enough labels (types_in args) ≡ true → AllValues args → LabelsFit labels args
labels_fit facts ty enough [] NoArg h a = tt
labels_fit facts ty enough [] (ByValue value NoArg) h a = tt
labels_fit facts ty enough [] (ByValue value (ByValue other rest)) h a = never h
labels_fit facts ty enough [] (ByValue value (ByPath path rest)) h a = absurd a
labels_fit facts ty enough [] (ByPath path rest) h a = absurd a
labels_fit facts ty enough (these ∷ labels) NoArg h a = tt
labels_fit facts ty enough (these ∷ labels) (ByValue value rest) h a = labels_fit facts ty enough labels rest (and_parts _ _ h).1 a
labels_fit facts ty enough (these ∷ labels) (ByPath path rest) h a = absurd a

-- ---- what a `case` chooses by is small

module _ (facts : Facts) (sorted : AreSorted facts) where
  small_type : (ty : Ty) → is_selected (kind_of facts ty) ≡ true → type_bytes facts ty ≤ 8
  small_type type.int h = omega arith
  small_type type.bool h = omega arith
  small_type type.char h = omega arith
  small_type type.text h = omega arith
  small_type (type.sequence t) h = never h
  small_type (type.array n t) h = never h
  small_type (type.tuple names ts) h = never h
  small_type (type.parameter n) h = never h
  small_type (type.ref name t) h = never h
  small_type (type.enum key) h = omega arith
  small_type (type.object key ts) h = by (fact_of facts (type.object key ts)) refl h
    where
      by : {A : Type 0} (said : Option Fact) → fact_of facts (type.object key ts) ≡ said → is_selected (declared_kind said) ≡ true → A
      by None e h = never h
      by (Some (type.members names)) e h = absurd (sorted (type.object key ts) (type.members names) e)
      by (Some (type.fields all own)) e h = never h
      by (Some (type.base ty)) e h = never h
      by (Some (type.below parent)) e h = never h
  small_type (type.distinct key) h = by (fact_of facts (type.distinct key)) refl h
    where
      by : {A : Type 0} (said : Option Fact) → fact_of facts (type.distinct key) ≡ said → is_selected (declared_kind said) ≡ true → A
      by None e h = never h
      by (Some (type.members names)) e h = absurd (sorted (type.distinct key) (type.members names) e)
      by (Some (type.fields all own)) e h = never h
      by (Some (type.base ty)) e h = never h
      by (Some (type.below parent)) e h = never h
  small_type (type.exception key) h = by (fact_of facts (type.exception key)) refl h
    where
      by : {A : Type 0} (said : Option Fact) → fact_of facts (type.exception key) ≡ said → is_selected (declared_kind said) ≡ true → A
      by None e h = never h
      by (Some (type.members names)) e h = absurd (sorted (type.exception key) (type.members names) e)
      by (Some (type.fields all own)) e h = never h
      by (Some (type.base ty)) e h = never h
      by (Some (type.below parent)) e h = never h

module _ (types : List Ty) (facts : Facts) (sorted : AreSorted facts) (procs : List Proc) (globals : List Placed) where
  abbrev Among : List Ty → Type 0
  Among tys = Each (IsListed types facts) tys

  abbrev seen : (filled : ℕ) (places : List Placed) (dest : Option ℕ) → Here
  seen filled places dest = record { facts = facts; procs = procs; globals = globals; filled = filled; places = places; dest = dest }

  fine : (ty : Option Ty) → gives_unbuilt facts ty ≡ false → Among (type_if ty) → IfFine types facts ty
  fine None h l = tt
  fine (Some ty) h l = (l.0, h)

  small_path : (ty : Option Ty) → is_selected (kind_if facts ty) ≡ true → IsSmall types facts ty
  small_path None h = tt
  small_path (Some ty) h = small_type facts sorted ty h

  selects_by : (chooser : Chooser) (tests : Args) (blocks : Blocks) → chooses facts chooser tests blocks ≡ true → SelectsBy types facts chooser tests blocks
  selects_by ByConditions tests blocks h = tt
  selects_by (ByLabels labels) tests blocks h =
      let k = selector_kind facts tests in
      let q = and_parts (is_selector tests) (labels_select k labels blocks) h in
      let l = q.1 in
      let b = and_parts (is_selected k && are_labels k labels) (are_blocks labels blocks)
      (and_parts ((is_selected k && are_labels k labels) && are_blocks labels blocks) _ l).0 in
      let s = and_parts (is_selected k) (are_labels k labels) b.0 in
      (one_selector facts tests s.0, small_selector tests q.0 s.0, labelled labels blocks b.1)
    where
      small_selector : (tests : Args) → is_selector tests ≡ true → is_selected (selector_kind facts tests) ≡ true → SmallFirst types facts tests
      small_selector NoArg i s = tt
      small_selector (ByValue value rest) i s = tt
      small_selector (ByPath path NoArg) i s = (i, small_path (type_at path) s)
      small_selector (ByPath path (ByValue value rest)) i s = never s
      small_selector (ByPath path (ByPath other rest)) i s = never s

  module _ (filled : ℕ) (places : List Placed) (dest : Option ℕ) where
    abbrev here : Here
    here = seen filled places dest

    -- ---- what is built gives what is built

    mutual
      built : (e : Expr) → is_typed here e ≡ true → left_out_in facts e ≡ None → gives_unbuilt facts (type_of e) ≡ false
      built (P.Apply node ty act operands) h p =
          (or_parts (gives_unbuilt facts ty) (not (is_act_built act facts ty operands)) (kept _ node (neither _ _ p).0)).0
      built (P.Read path) h p = built_path path (and_parts (is_read facts path) (is_typed_path here path) h).1 p
      built (P.Early node ty short a b) h p =
          let is : ty ≡ type.bool =
          the_bool facts ty (and_parts (is_bool (kind_if facts (Some ty))) _ (and_parts (early_fits facts ty (type_of a) (type_of b)) _ h).0).0 in
          subst (λ t. is_unbuilt facts t ≡ false) (sym is) refl
      built (P.Choose node ty chooser parts) h p =
          (or_parts (gives_unbuilt facts ty) (first_unbuilt facts (types_in parts)) (kept _ node (neither _ _ p).0)).0

      built_path : (path : Path) → is_typed_path here path ≡ true → left_out_in_path facts path ≡ None → gives_unbuilt facts (type_at path) ≡ false
      built_path (P.Variable node ty place global) h p = kept _ node p
      built_path (P.Fresh value) h p = built value (and_parts (is_fresh value && is_there (type_of value)) (is_typed here value) h).1 p
      built_path (P.Field node ty base field) h p =
          (or_parts (is_unbuilt facts ty) (is_exception_type (type_at base))
          (kept _ node (neither (out_if (is_unbuilt facts ty || is_exception_type (type_at base)) node) (left_out_in_path facts base) p).0)).0
      built_path (P.Element node ty base index constant) h p =
          kept _ node (neither (out_if (is_unbuilt facts ty) node) (left_out_in_path facts base or_then left_out_in facts index) p).0
      built_path (P.Deref ty base) h p = found _ p

    built_act : (ty : Option Ty) (act : Act) (operands : Args) → gives_unbuilt facts ty || not (is_act_built act facts ty operands) ≡ false →
        is_act_built act facts ty operands ≡ true
    built_act ty act operands e =
        not-false (is_act_built act facts ty operands) (or_parts (gives_unbuilt facts ty) (not (is_act_built act facts ty operands)) e).1

    -- ---- what chooses

    small_first : (ty : Option Ty) (labels : List (List P.Label)) (parts : Args) → chooser_fits facts ty (ByLabels labels) (types_in parts) ≡ true →
        is_selector parts ≡ true → SmallFirst types facts parts
    small_first ty labels NoArg h i = tt
    small_first ty labels (ByValue value rest) h i = tt
    small_first ty labels (ByPath path rest) h i = (
      i,
      small_path (type_at path) (and_parts (is_selected (kind_if facts (type_at path))) (are_labels (kind_if facts (type_at path)) labels)
          (and_parts _ _ h).0).0,
    )

    behind_labels : (ty : Option Ty) (labels : List (List P.Label)) (parts : Args) → chooser_fits facts ty (ByLabels labels) (types_in parts) ≡ true →
        AllValues (behind_first parts) → LabelsFit labels (behind_first parts)
    behind_labels ty labels NoArg h a = never h
    behind_labels ty labels (ByValue value rest) h a = labels_fit facts ty _ labels rest (and_parts _ _ h).1 a
    behind_labels ty labels (ByPath path rest) h a = labels_fit facts ty _ labels rest (and_parts _ _ h).1 a

    chooses_by : (ty : Option Ty) (chooser : Chooser) (parts : Args) → chooser_fits facts ty chooser (types_in parts) ≡ true →
        choice_is_placed chooser parts ≡ true → ChoosesBy types facts chooser parts
    chooses_by ty ByConditions parts h c = all_values parts c
    chooses_by ty (ByLabels labels) parts h c =
        let q = and_parts (is_selector parts) (are_placed 0 (behind_first parts)) c in
        let a = all_values (behind_first parts) q.1 in
        (a, small_first ty labels parts h q.0, behind_labels ty labels parts h a)

    -- ---- expressions

    -- the types in a value that a path begins with
    value_types : (read : Bool) (value : Expr) → Among (total_at lists shown_types read (P.Fresh value)) → Among (total lists shown_types value)
    value_types read value l =
        in_fresh shown_types (λ node ty read literal. refl) Among
        (λ xs ys h. (apart (IsListed types facts) xs ys h).1)
        (λ xs h. both (IsListed types facts) xs [] h tt) read value l

    mutual
      pub simple : (e : Expr) → is_typed here e ≡ true → left_out_in facts e ≡ None → Among (total lists shown_types e) → IsSimple types facts e
      simple (P.Apply node ty act operands) h p l =
          let t = and_parts (act_fits here ty act operands) (are_typed here operands) h in
          let q = neither (out_if (gives_unbuilt facts ty || not (is_act_built act facts ty operands)) node) (left_out_in_args facts operands) p in
          let k = apart (IsListed types facts) (type_if ty) (totals lists shown_types operands) l in (
            fine ty (built (P.Apply node ty act operands) h p) k.0,
            built_act ty act operands (kept _ node q.0),
            simples operands t.1 q.1 k.1,
          )
      simple (P.Read path) h p l =
          let q = and_parts (is_read facts path) (is_typed_path here path) h in
          ((and_parts (is_located path) (is_whole facts path) q.0).0, simple_path true path q.1 p l)
      simple (P.Early node ty short a b) h p l =
          let t = and_parts (early_fits facts ty (type_of a) (type_of b)) (is_typed here a && is_typed here b) h in
          let u = and_parts (is_typed here a) (is_typed here b) t.1 in
          let q = neither (left_out_in facts a) (left_out_in facts b) p in
          let k = apart (IsListed types facts) (total lists shown_types a) (total lists shown_types b) l.1 in
          ((l.0, built (P.Early node ty short a b) h p), simple a u.0 q.0 k.0, simple b u.1 q.1 k.1)
      simple (P.Choose node ty chooser parts) h p l =
          let t = and_parts (chooser_fits facts ty chooser (types_in parts) && choice_is_placed chooser parts) (are_typed here parts) h in
          let q = neither (out_if (gives_unbuilt facts ty || first_unbuilt facts (types_in parts)) node) (left_out_in_args facts parts) p in
          let k = apart (IsListed types facts) (type_if ty) (totals lists shown_types parts) l in
          let c = and_parts (chooser_fits facts ty chooser (types_in parts)) (choice_is_placed chooser parts) t.0 in
          (fine ty (built (P.Choose node ty chooser parts) h p) k.0, simples parts t.1 q.1 k.1, chooses_by ty chooser parts c.0 c.1)

      pub simple_path : (read : Bool) (path : Path) → is_typed_path here path ≡ true → left_out_in_path facts path ≡ None →
          Among (total_at lists shown_types read path) → IsSimplePath types facts path
      simple_path read (P.Variable node ty place global) h p l = (l.0, kept _ node p)
      simple_path read (P.Fresh value) h p l =
          let t = and_parts (is_fresh value && is_there (type_of value)) (is_typed here value) h in
          let k = value_types read value l in ((and_parts (is_fresh value) (is_there (type_of value)) t.0).0, simple value t.1 p k)
      simple_path read (P.Field node ty base field) h p l =
          let t = and_parts (is_of (field_at (kind_if facts (type_at base)) field) (Some ty)) (is_typed_path here base) h in
          let q = neither (out_if (is_unbuilt facts ty || is_exception_type (type_at base)) node) (left_out_in_path facts base) p in
          let b = or_parts (is_unbuilt facts ty) (is_exception_type (type_at base)) (kept _ node q.0) in
          ((l.0, b.0), simple_path false base t.1 q.1 l.1)
      simple_path read (P.Element node ty base index constant) h p l =
          let t = and_parts _ (is_typed_path here base && is_typed here index) h in
          let u = and_parts (is_typed_path here base) (is_typed here index) t.1 in
          let q = neither (out_if (is_unbuilt facts ty) node) _ p in
          let r = neither (left_out_in_path facts base) (left_out_in facts index) q.1 in
          let k = apart (IsListed types facts) (total_at lists shown_types false base) (total lists shown_types index) l.1 in
          ((l.0, kept _ node q.0), simple_path false base u.0 r.0 k.0, simple index u.1 r.1 k.1)
      simple_path read (P.Deref ty base) h p l = found _ p

      pub simples : (args : Args) → are_typed here args ≡ true → left_out_in_args facts args ≡ None → Among (totals lists shown_types args) →
          AreSimple types facts args
      simples NoArg h p l = tt
      simples (ByValue e rest) h p l =
          let t = and_parts (is_typed here e) (are_typed here rest) h in
          let q = neither (left_out_in facts e) (left_out_in_args facts rest) p in
          let k = apart (IsListed types facts) (total lists shown_types e) (totals lists shown_types rest) l in
          (simple e t.0 q.0 k.0, simples rest t.1 q.1 k.1)
      simples (ByPath path rest) h p l =
          let t = and_parts (is_whole facts path && is_typed_path here path) (are_typed here rest) h in
          let u = and_parts (is_whole facts path) (is_typed_path here path) t.0 in
          let q = neither (left_out_in_path facts path) (left_out_in_args facts rest) p in
          let k = apart (IsListed types facts) (total_at lists shown_types false path) (totals lists shown_types rest) l in
          (simple_path false path u.1 q.0 k.0, simples rest t.1 q.1 k.1)

  -- ---- statements

  of_each : (tests : Args) → EachIn (IsListed types facts) (each lists shown_types tests) → Among (totals lists shown_types tests)
  of_each NoArg h = tt
  of_each (ByValue value rest) h = both (IsListed types facts) (total lists shown_types value) (totals lists shown_types rest) h.0
      (of_each rest h.1)
  of_each (ByPath path rest) h = both (IsListed types facts) (total_at lists shown_types false path) (totals lists shown_types rest) h.0
      (of_each rest h.1)

  -- a loop's place
  loop_fine : (kind : Kind) (node : Node) (rest : List Ty) → any_place_unbuilt facts (loop_places kind) ≡ false →
      Among (shown_by None (loop_places kind) (Some node) ++ rest) →
      LoopFine types facts kind × Among rest
  loop_fine While node rest h l = (tt, l)
  loop_fine (Count place inclusive) node rest h l = ((l.0, (or_parts (is_unbuilt facts place.of) _ h).0), l.1)
  loop_fine (EachKind place) node rest h l = ((l.0, (or_parts (is_unbuilt facts place.of) _ h).0), l.1)

  -- what is in scope in a loop
  in_loop : (filled : ℕ) (places : List Placed) (dest : Option ℕ) (kind : Kind) →
      (more : List Placed) × (with_places (seen filled places dest) (loop_places kind) ≡ seen filled more dest)
  in_loop filled places dest While = (places, refl)
  in_loop filled places dest (Count place inclusive) = (places ++ placed place ∷ [], refl)
  in_loop filled places dest (EachKind place) = (places ++ placed place ∷ [], refl)

  module _ (filled : ℕ) (dest : Option ℕ) where
    abbrev at : List Placed → Here
    at places = seen filled places dest

    mutual
      pub stmt_simple : (places : List Placed) (around : Around) (s : Stmt) → is_typed_stmt (at places) around s ≡ true →
          left_out_in_stmt facts s ≡ None → Among (total_in lists shown_types s) → IsSimpleStmt types facts s
      stmt_simple places around (P.Do value) h p l = simple filled places dest value (and_parts _ _ h).1 p l
      stmt_simple places around (P.Idle node parts) h p l = tt
      stmt_simple places around (P.Give node back value) h p l = simple filled places dest value (and_parts _ _ h).1 p l
      stmt_simple places around (P.Leave node leaving parts) h p l = tt
      stmt_simple places around (P.Select node chooser tests blocks) h p l =
          let t = and_parts (chooses facts chooser tests blocks && are_typed (at places) tests) (are_typed_blocks (at places) around blocks) h in
          let u = and_parts (chooses facts chooser tests blocks) (are_typed (at places) tests) t.0 in
          let r = neither (out_if (first_unbuilt facts (types_in tests)) node) _ p in
          let q = none_earlier (left_out_in_args facts tests) (left_out_in_blocks facts blocks) r.1 in
          let k = taking_turns (IsListed types facts) (each lists shown_types tests) (each_block lists shown_types blocks) l in (
            has_selector facts chooser tests blocks u.0,
            simples filled places dest tests u.1 q.0 (of_each tests k.0),
            blocks_simple places around blocks t.1 q.1 k.1,
            selects_by chooser tests blocks u.0,
          )
      stmt_simple places around (P.Loop node kind head body) h p l =
          let t = and_parts (head_fits facts kind head && are_typed (at places) head) _ h in
          let u = and_parts (head_fits facts kind head) (are_typed (at places) head) t.0 in
          let r = neither (out_if (any_place_unbuilt facts (loop_places kind) || first_unbuilt facts (types_in head)) node) _ p in
          let q = neither (left_out_in_args facts head) (left_out_in_block facts body) r.1 in
          let n = or_parts (any_place_unbuilt facts (loop_places kind)) (first_unbuilt facts (types_in head)) (kept _ node r.0) in
          let k = loop_fine kind node (totals lists shown_types head ++ total_of lists shown_types body) n.0 l in
          let j = apart (IsListed types facts) (totals lists shown_types head) (total_of lists shown_types body) k.1 in
          let w = in_loop filled places dest kind in (
            head_of facts kind head u.0,
            k.0,
            simples filled places dest head u.1 q.0 j.0,
            block_simple w.0 (looping around) body
                (subst (λ (here : Here). is_typed_block here (looping around) body ≡ true) w.1 (and_parts (not (is_empty body)) _ t.1).1) q.1 j.1,
            is_one_head facts kind head u.0,
          )
      stmt_simple places around (P.Raise node exception message) h p l = found _ p
      stmt_simple places around (P.Try node body handlers last) h p l = found _ p

      pub block_simple : (places : List Placed) (around : Around) (b : Stmts) → is_typed_block (at places) around b ≡ true →
          left_out_in_block facts b ≡ None → Among (total_of lists shown_types b) → AreSimpleStmts types facts b
      block_simple places around P.Empty h p l = tt
      block_simple places around (P.Then first rest) h p l =
          let t = and_parts (is_typed_stmt (at places) around first) (is_typed_block (at places) around rest) h in
          let q = neither (left_out_in_stmt facts first) (left_out_in_block facts rest) p in
          let k = apart (IsListed types facts) (total_in lists shown_types first) (total_of lists shown_types rest) l in
          (stmt_simple places around first t.0 q.0 k.0, block_simple places around rest t.1 q.1 k.1)
      block_simple places around (P.Declare node place cursor value rest) h p l =
          let t = and_parts (starts facts place.of value && are_typed (at places) value) _ h in
          let r = neither (out_if (is_unbuilt facts place.of) node) _ p in
          let q = neither (left_out_in_args facts value) (left_out_in_block facts rest) r.1 in
          let k = apart (IsListed types facts) (totals lists shown_types value) (total_of lists shown_types rest) l.1 in (
            (l.0, kept _ node r.0),
            simples filled places dest value (and_parts (starts facts place.of value) _ t.0).1 q.0 k.0,
            block_simple (places ++ placed place ∷ []) around rest t.1 q.1 k.1,
            starts_last facts place.of value (and_parts (starts facts place.of value) _ t.0).0,
          )
      block_simple places around (P.Defer node last rest) h p l = found _ p

      blocks_simple : (places : List Placed) (around : Around) (bs : Blocks) → are_typed_blocks (at places) around bs ≡ true →
          left_out_in_blocks facts bs ≡ None → EachIn (IsListed types facts) (each_block lists shown_types bs) →
          AreSimpleBlocks types facts bs
      blocks_simple places around (P.Otherwise b) h p l = block_simple places around b h p l.0
      blocks_simple places around (P.Block first rest) h p l =
          let t = and_parts (not (is_empty first) && is_typed_block (at places) around first) (are_typed_blocks (at places) around rest) h in
          let q = neither (left_out_in_block facts first) (left_out_in_blocks facts rest) p in
          (block_simple places around first (and_parts _ _ t.0).1 q.0 l.0, blocks_simple places around rest t.1 q.1 l.1)

  -- ---- the code of modules

  pub code_simple : (filled : ℕ) (places : List Placed) (dest : Option ℕ) (code : Stmts) → is_typed_code (seen filled places dest) code ≡ true →
      left_out_in_block facts code ≡ None → Among (total_of lists shown_types code) → AreSimpleStmts types facts code
  code_simple filled places dest P.Empty h p l = tt
  code_simple filled places dest (P.Then first rest) h p l =
      let t = and_parts (is_typed_stmt (seen filled places dest) module_code first) _ h in
      let q = neither (left_out_in_stmt facts first) (left_out_in_block facts rest) p in
      let k = apart (IsListed types facts) (total_in lists shown_types first) (total_of lists shown_types rest) l in
      (stmt_simple filled dest places module_code first t.0 q.0 k.0, code_simple filled places dest rest t.1 q.1 k.1)
  code_simple filled places dest (P.Declare node place cursor value rest) h p l =
      let t = and_parts (is_next (slice_get globals filled) (placed place) && (starts facts place.of value && are_typed (seen filled places dest) value)) _ h in
      let u = and_parts (is_next (slice_get globals filled) (placed place)) (starts facts place.of value && are_typed (seen filled places dest) value) t.0 in
      let r = neither (out_if (is_unbuilt facts place.of) node) _ p in
      let q = neither (left_out_in_args facts value) (left_out_in_block facts rest) r.1 in
      let k = apart (IsListed types facts) (totals lists shown_types value) (total_of lists shown_types rest) l.1 in (
        (l.0, kept _ node r.0),
        simples filled places dest value (and_parts (starts facts place.of value) _ u.1).1 q.0 k.0,
        code_simple (suc filled) places dest rest t.1 q.1 k.1,
        starts_last facts place.of value (and_parts (starts facts place.of value) _ u.1).0,
      )
  code_simple filled places dest (P.Defer node last rest) h p l = never h

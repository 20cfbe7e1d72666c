-- Typed statements are formed.
use Rattle.std.proofs.Common.{◌≡◌, ℕ, suc, Bool, true, false, List, [], ◌∷◌, ◌++◌, Option, Some, None, refl, subst}
use Rattle.std.specs.Prelude.{not, nat_eq, ◌&&◌, slice_get}
use Rattle.std.proofs.lemmas.Bool.{both_ways, and_parts, eqb-true}
use Rattle.nim_types.specs.Types.{Ty, Facts, same}
use Rattle.nim_program.specs.declared.stmt.Leaving.{Leaving}
use Rattle.nim_program.specs.declared.stmt.Leaving.TheVariants.{Break, Continue, Return}
use Rattle.nim_program.specs.Program as P
use Rattle.nim_program.specs.Program.{Chooser, ByConditions, ByLabels, Args, NoArg, ByValue, ByPath, Declared, Kind, While, Count, Each as EachKind}
use Rattle.nim_program.specs.Program.{Stmt, Stmts, Blocks, Proc, type_of, type_at}
use Rattle.nim_program.specs.Folds.{lists, total, total_at, totals, each, total_in, total_of, each_block, own_places, loop_places}
use Rattle.nim_program.specs.Scopes.{Placed, placed, Here}
use Rattle.nim_program.specs.Fitting.{are_labels}
use Rattle.nim_program.specs.Typed.{own_types, place_types, are_typed, Around, module_code, looping, may_leave, is_empty}
use Rattle.nim_program.specs.Typed.{is_selector, selector_kind, chooses, head_fits, with_places, starts, is_typed_stmt, is_typed_block, are_typed_blocks}
use Rattle.nim_program.specs.Typed.{is_next, is_typed_code}
use Rattle.nim_meaning.specs.Here.{gives_hooked}
use Rattle.flattening.specs.Formed.{LabelsFit, Ground, Scope, With, InLoop, HasRoom, HeadFits, HasSelector, MayLeave, StmtFormed, BlockFormed, BlocksFormed}
use Rattle.formed_programs.proofs.Parts.{Each, EachIn, apart, both, taking_turns}
use Rattle.formed_programs.proofs.Listed.{IsKnown, labels_are, no_labels}
use Rattle.formed_programs.proofs.Seen.{Sees, sees_place, sees_global}
use Rattle.formed_programs.proofs.Exprs.{ground, seen, selector_known, formed, all_formed}

never : {A : Type 0} → false ≡ true → A
never e = absurd (both_ways false refl e)

has_selector : (facts : Facts) (chooser : Chooser) (tests : Args) (blocks : Blocks) → chooses facts chooser tests blocks ≡ true → HasSelector chooser tests
has_selector facts ByConditions tests blocks h = tt
has_selector facts (ByLabels labels) (ByValue value rest) blocks h = tt
has_selector facts (ByLabels labels) (ByPath path rest) blocks h = tt
has_selector facts (ByLabels labels) NoArg blocks h = never h

leaves : (around : Around) (leaving : Leaving) → may_leave around leaving ≡ true → MayLeave around.in_loop leaving
leaves around Break h = h
leaves around Continue h = h
leaves around Return h = tt

head : (facts : Facts) (kind : Kind) (operands : Args) → head_fits facts kind operands ≡ true → HeadFits kind operands
head facts While NoArg h = never h
head facts While (ByValue condition rest) h = tt
head facts While (ByPath path rest) h = never h
head facts (Count place inclusive) NoArg h = never h
head facts (Count place inclusive) (ByPath path rest) h = never h
head facts (Count place inclusive) (ByValue first NoArg) h = never (and_parts _ _ h).1
head facts (Count place inclusive) (ByValue first (ByPath path rest)) h = never (and_parts _ _ h).1
head facts (Count place inclusive) (ByValue first (ByValue last rest)) h = tt
head facts (EachKind place) NoArg h = never h
head facts (EachKind place) (ByValue value rest) h = never h
head facts (EachKind place) (ByPath path rest) h = tt

of_each : (types : List Ty) (facts : Facts) (tests : Args) → EachIn (IsKnown types facts) (each lists own_types tests) →
    Each (IsKnown types facts) (totals lists own_types tests)
of_each types facts NoArg h = tt
of_each types facts (ByValue value rest) h =
    both (IsKnown types facts) (total lists own_types value) (totals lists own_types rest) h.0 (of_each types facts rest h.1)
of_each types facts (ByPath path rest) h =
    both (IsKnown types facts) (total_at lists own_types false path) (totals lists own_types rest) h.0 (of_each types facts rest h.1)

module _ (types : List Ty) (facts : Facts) (procs : List Proc) (globals : List Placed) (top : Bool) (room : ℕ → Type 0) where
  abbrev Listed : List Ty → Type 0
  Listed tys = Each (IsKnown types facts) tys

  -- the places have room in the frame
  abbrev pub Roomy : List Declared → Type 0
  Roomy places = Each (λ d. room d.number) places

  abbrev g : Ground
  g = ground types facts procs globals top room

  has_room : (kind : Kind) (rest : List Declared) → Roomy (loop_places kind ++ rest) → Roomy (loop_places kind) × Roomy rest
  has_room kind rest h = apart (λ d. room d.number) (loop_places kind) rest h

  listed_room : (kind : Kind) → Listed (place_types (loop_places kind) ++ []) → Roomy (loop_places kind) → HasRoom g kind
  listed_room While l r = tt
  listed_room (Count place inclusive) l r = (l.0.0, r.0)
  listed_room (EachKind place) l r = (l.0.0, r.0)

  -- the labels of blocks
  block_labels : (chooser : Chooser) (tests : Args) (blocks : Blocks) → chooses facts chooser tests blocks ≡ true → Listed (totals lists own_types tests) →
      LabelsFit facts chooser tests
  block_labels ByConditions tests blocks h l = tt
  block_labels (ByLabels labels) tests blocks h l = by_kind tests (and_parts _ _ (and_parts _ _ (and_parts _ _ (and_parts (is_selector tests) _ h).1).0).0).1 l
    where
      by_kind : (tests : Args) → are_labels (selector_kind facts tests) labels ≡ true → Listed (totals lists own_types tests) →
          LabelsFit facts (ByLabels labels) tests
      by_kind NoArg h l = no_labels false labels h
      by_kind (ByValue value NoArg) h l =
          labels_are types facts (type_of value) (selector_known types facts procs globals top room (ByValue value NoArg) l) labels h
      by_kind (ByPath path NoArg) h l =
          labels_are types facts (type_at path) (selector_known types facts procs globals top room (ByPath path NoArg) l) labels h
      by_kind (ByValue value (ByValue v rest)) h l = no_labels (gives_hooked facts (type_of value)) labels h
      by_kind (ByValue value (ByPath p rest)) h l = no_labels (gives_hooked facts (type_of value)) labels h
      by_kind (ByPath path (ByValue v rest)) h l = no_labels (gives_hooked facts (type_at path)) labels h
      by_kind (ByPath path (ByPath p rest)) h l = no_labels (gives_hooked facts (type_at path)) labels h

  -- what is open in a loop
  in_loop : (Open : Scope) (filled : ℕ) (places : List Placed) (dest : Option ℕ) (kind : Kind) → Sees globals Open filled places
      → (more : List Placed) × (with_places (seen types facts procs globals top room filled places dest) (loop_places kind)
      ≡ seen types facts procs globals top room filled more dest) × Sees globals (InLoop g Open kind) filled more
  in_loop Open filled places dest While sees = (places, refl, sees)
  in_loop Open filled places dest (Count place inclusive) sees = (places ++ placed place ∷ [], refl, sees_place globals g Open filled places place sees)
  in_loop Open filled places dest (EachKind place) sees = (places ++ placed place ∷ [], refl, sees_place globals g Open filled places place sees)

  module _ (filled : ℕ) (dest : Option ℕ) where
    abbrev here : List Placed → Here
    here places = seen types facts procs globals top room filled places dest

    mutual
      pub stmt_formed : (Open : Scope) (places : List Placed) → Sees globals Open filled places → (around : Around) (s : Stmt)
          → is_typed_stmt (here places) around s ≡ true → Listed (total_in lists own_types s)
          → Roomy (total_in lists own_places s) → StmtFormed g around.in_loop Open s
      stmt_formed Open places sees around (P.Do value) h l r =
          formed types facts procs globals top room filled places dest Open sees value (and_parts _ _ h).1 l
      stmt_formed Open places sees around (P.Idle node parts) h l r = tt
      stmt_formed Open places sees around (P.Give node back value) h l r =
          formed types facts procs globals top room filled places dest Open sees value (and_parts _ _ h).1 l
      stmt_formed Open places sees around (P.Leave node leaving parts) h l r = leaves around leaving (and_parts _ _ h).0
      stmt_formed Open places sees around (P.Select node chooser tests blocks) h l r =
          let t = and_parts (chooses facts chooser tests blocks && are_typed (here places) tests) (are_typed_blocks (here places) around blocks) h in
          let u = and_parts (chooses facts chooser tests blocks) (are_typed (here places) tests) t.0 in
          let k = taking_turns (IsKnown types facts) (each lists own_types tests) (each_block lists own_types blocks) l in
          let m = taking_turns (λ d. room d.number) (each lists own_places tests) (each_block lists own_places blocks) r in (
            has_selector facts chooser tests blocks u.0,
            block_labels chooser tests blocks u.0 (of_each types facts tests k.0),
            all_formed types facts procs globals top room filled places dest Open sees tests u.1 (of_each types facts tests k.0),
            blocks_formed Open places sees around blocks t.1 k.1 m.1,
          )
      stmt_formed Open places sees around (P.Loop node kind operands body) h l r =
          let t = and_parts (head_fits facts kind operands && are_typed (here places) operands) _ h in
          let u = and_parts (head_fits facts kind operands) (are_typed (here places) operands) t.0 in
          let k = apart (IsKnown types facts) (place_types (loop_places kind) ++ []) _ l in
          let j = apart (IsKnown types facts) (totals lists own_types operands) (total_of lists own_types body) k.1 in
          let m = has_room kind _ r in
          let n = apart (λ d. room d.number) (totals lists own_places operands) (total_of lists own_places body) m.1 in
          let w = in_loop Open filled places dest kind sees in (
            head facts kind operands u.0,
            all_formed types facts procs globals top room filled places dest Open sees operands u.1 j.0,
            listed_room kind k.0 m.0,
            block_formed (InLoop g Open kind) w.0 w.2 (looping around) body
                (subst (λ around_here. is_typed_block around_here (looping around) body ≡ true) w.1 (and_parts (not (is_empty body)) _ t.1).1) j.1 n.1,
          )
      stmt_formed Open places sees around (P.Raise node exception message) h l r = tt
      stmt_formed Open places sees around (P.Try node body handlers last) h l r = tt

      pub block_formed : (Open : Scope) (places : List Placed) → Sees globals Open filled places → (around : Around) (block : Stmts)
          → is_typed_block (here places) around block ≡ true → Listed (total_of lists own_types block)
          → Roomy (total_of lists own_places block) → BlockFormed g around.in_loop Open block
      block_formed Open places sees around P.Empty h l r = tt
      block_formed Open places sees around (P.Then first rest) h l r =
          let t = and_parts (is_typed_stmt (here places) around first) (is_typed_block (here places) around rest) h in
          let k = apart (IsKnown types facts) (total_in lists own_types first) (total_of lists own_types rest) l in
          let m = apart (λ d. room d.number) (total_in lists own_places first) (total_of lists own_places rest) r in
          (stmt_formed Open places sees around first t.0 k.0 m.0, block_formed Open places sees around rest t.1 k.1 m.1)
      block_formed Open places sees around (P.Declare node place cursor NoArg rest) h l r = (
        l.0.0,
        r.0,
        block_formed (With g Open place.number) (places ++ placed place ∷ []) (sees_place globals g Open filled places place sees) around rest
            (and_parts _ _ h).1 l.1 r.1,
      )
      block_formed Open places sees around (P.Declare node place cursor (ByValue value more) rest) h l r =
          let t = and_parts (starts facts place.of (ByValue value more) && are_typed (here places) (ByValue value more)) _ h in
          let k = apart (IsKnown types facts) (totals lists own_types (ByValue value more)) (total_of lists own_types rest) l.1 in
          let m = apart (λ d. room d.number) (totals lists own_places (ByValue value more)) (total_of lists own_places rest) r.1 in
          let f = all_formed types facts procs globals top room filled places dest Open sees (ByValue value more) (and_parts _ _ t.0).1 k.0 in (
            f.0,
            l.0.0,
            r.0,
            block_formed (With g Open place.number) (places ++ placed place ∷ []) (sees_place globals g Open filled places place sees) around rest t.1 k.1
                m.1,
          )
      block_formed Open places sees around (P.Declare node place cursor (ByPath path more) rest) h l r = tt
      block_formed Open places sees around (P.Defer node last rest) h l r = tt

      blocks_formed : (Open : Scope) (places : List Placed) → Sees globals Open filled places → (around : Around) (blocks : Blocks)
          → are_typed_blocks (here places) around blocks ≡ true
          → EachIn (IsKnown types facts) (each_block lists own_types blocks)
          → EachIn (λ d. room d.number) (each_block lists own_places blocks) → BlocksFormed g around.in_loop Open blocks
      blocks_formed Open places sees around (P.Otherwise block) h l r = block_formed Open places sees around block h l.0 r.0
      blocks_formed Open places sees around (P.Block first rest) h l r =
          let t = and_parts (not (is_empty first) && is_typed_block (here places) around first) (are_typed_blocks (here places) around rest) h in (
            block_formed Open places sees around first (and_parts _ _ t.0).1 l.0 r.0,
            blocks_formed Open places sees around rest t.1 l.1 r.1,
          )

  -- ---- the code of modules

  next_global : (next : Option Placed) (d : Placed) → is_next next d ≡ true → (p : Placed) × (next ≡ Some p) × (p.number ≡ d.number)
  next_global None d h = never h
  next_global (Some p) d h = (p, refl, eqb-true p.number d.number (and_parts (nat_eq p.number d.number) (same p.of d.of) h).0)

  pub code_formed : top ≡ true → (Open : Scope) (filled : ℕ) (places : List Placed) (dest : Option ℕ) → Sees globals Open filled places → (code : Stmts)
      → is_typed_code (seen types facts procs globals top room filled places dest) code ≡ true
      → Listed (total_of lists own_types code) → Roomy (total_of lists own_places code) → BlockFormed g false Open code
  code_formed is Open filled places dest sees P.Empty h l r = tt
  code_formed is Open filled places dest sees (P.Then first rest) h l r =
      let t = and_parts (is_typed_stmt (seen types facts procs globals top room filled places dest) module_code first) _ h in
      let k = apart (IsKnown types facts) (total_in lists own_types first) (total_of lists own_types rest) l in
      let m = apart (λ d. room d.number) (total_in lists own_places first) (total_of lists own_places rest) r in (
        stmt_formed filled dest Open places sees module_code first t.0 k.0 m.0,
        code_formed is Open filled places dest sees rest t.1 k.1 m.1,
      )
  code_formed is Open filled places dest sees (P.Declare node place cursor NoArg rest) h l r =
      let t = and_parts (is_next (slice_get globals filled) (placed place) && _) _ h in
      let n = next_global (slice_get globals filled) (placed place) (and_parts _ _ t.0).0 in (
        l.0.0,
        r.0,
        code_formed is (With g Open place.number) (suc filled) places dest (sees_global globals g Open filled places place n.0 is n.1 n.2 sees) rest t.1
            l.1 r.1,
      )
  code_formed is Open filled places dest sees (P.Declare node place cursor (ByValue value more) rest) h l r =
      let t = and_parts (is_next (slice_get globals filled) (placed place) && _) _ h in
      let u = and_parts (is_next (slice_get globals filled) (placed place)) _ t.0 in
      let n = next_global (slice_get globals filled) (placed place) u.0 in
      let k = apart (IsKnown types facts) (totals lists own_types (ByValue value more)) (total_of lists own_types rest) l.1 in
      let m = apart (λ d. room d.number) (totals lists own_places (ByValue value more)) (total_of lists own_places rest) r.1 in
      let f = all_formed types facts procs globals top room filled places dest Open sees (ByValue value more) (and_parts _ _ u.1).1 k.0 in (
        f.0,
        l.0.0,
        r.0,
        code_formed is (With g Open place.number) (suc filled) places dest (sees_global globals g Open filled places place n.0 is n.1 n.2 sees) rest t.1
            k.1 m.1,
      )
  code_formed is Open filled places dest sees (P.Declare node place cursor (ByPath path more) rest) h l r = tt
  code_formed is Open filled places dest sees (P.Defer node last rest) h l r = never h

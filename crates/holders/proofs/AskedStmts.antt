-- Likewise of statements and bodies.
use Rattle.std.proofs.Common.{◌≡◌, ℕ, Bool, true, false, List, [], ◌∷◌, ◌++◌}
use Rattle.std.specs.Prelude.{◌&&◌, ◌||◌, not, slice_get, None}
use Rattle.std.proofs.lemmas.Bool.{and_parts}
use Rattle.nim_types.specs.Types.{Ty, Facts}
use Rattle.nim_types.specs.Forms.{Form, HasForm}
use Rattle.nim_program.specs.declared.expr.Node.{Node}
use Rattle.nim_program.specs.Program.{Args, NoArg, ByValue, ByPath, Declared, Kind, While, Count, Each, types_in, type_of}
use Rattle.nim_program.specs.Program.{Stmt, Do, Idle, Give, Leave, Select, Loop, Raise, Try, Stmts, Empty, Then, Declare, Defer, Blocks, Otherwise, Block}
use Rattle.nim_program.specs.Folds.{lists, total, total_at, totals, total_in, total_of, each, each_block, loop_places, in_turn, together}
use Rattle.nim_program.specs.Kinds.{is_of, is_there, is_among_types, are_declared}
use Rattle.nim_program.specs.Scopes as scopes
use Rattle.nim_program.specs.Scopes.{placed, with_place, with_global}
use Rattle.nim_program.specs.Typed.{Around, looping, module_code, own_types, place_types, is_typed, are_typed, is_typed_stmt, is_typed_block, are_typed_blocks}
use Rattle.nim_program.specs.Typed.{chooses, head_fits, is_empty, starts, is_typed_code, is_next}
use Rattle.nim_meaning.specs.LeftOut.{out_if, ◌or_then◌, first_unbuilt, any_place_unbuilt, left_out_in_args, left_out_in_stmt, left_out_in_block}
use Rattle.nim_meaning.specs.LeftOut.{left_out_in_blocks}
use Rattle.nim_meaning.specs.Unbuilt.{is_unbuilt}
use Rattle.decl_rules.specs.Occurrences.{Occurrence, in_expr, in_path, in_args, in_each, in_stmt, in_block, in_blocks}
use Rattle.decl_rules.specs.Turns.{joined, in_turn as turns}
use Rattle.lending_laws.specs.Apart.{ArgsLend, StmtLends, BlockLends, BlocksLend}
use Rattle.holders.specs.Asked.{Limits, AllSimple, AllAsked, AskedStmt, AskedBlock, AskedBlocks, within}
use Rattle.holders.proofs.SitesAsked.{AllOccur, occur_first, occur_second}
use Rattle.holders.proofs.AskedParts.{neither, stays_in, none_earlier, or_false, some_node, AllAmong, among_first, among_second, simple_type, OfCall}
use Rattle.holders.proofs.AskedParts.{expr_asked, args_asked}

-- ---- tests and blocks that stand in turn

abbrev EachAmong : List Ty → List (List Ty) → Type 0
EachAmong types [] = Unit {0}
EachAmong types (x ∷ xs) = AllAmong types x × EachAmong types xs

module _ (types : List Ty) where
  each_together : (xs : List (List Ty)) → AllAmong types (together lists xs) → EachAmong types xs
  each_together [] h = tt
  each_together (x ∷ xs) h = (among_first types x (together lists xs) h, each_together xs (among_second types x (together lists xs) h))

  each_turns : (xs ys : List (List Ty)) → AllAmong types (in_turn lists xs ys) → EachAmong types xs × EachAmong types ys
  each_turns [] ys h = (tt, each_together ys h)
  each_turns (x ∷ xs) [] h =
      ((among_first types x (together lists xs) h, each_together xs (among_second types x (together lists xs) h)), tt)
  each_turns (x ∷ xs) (y ∷ ys) h =
      let rest = among_second types x (y ++ in_turn lists xs ys) h in
      let more = each_turns xs ys (among_second types y (in_turn lists xs ys) rest) in (
        (among_first types x (y ++ in_turn lists xs ys) h, more.0),
        (among_first types y (in_turn lists xs ys) rest, more.1),
      )

  among_both : (xs ys : List Ty) → AllAmong types xs → AllAmong types ys → AllAmong types (xs ++ ys)
  among_both [] ys h k = k
  among_both (x ∷ xs) ys h k = (h.0, among_both xs ys h.1 k)

  of_tests : (args : Args) → EachAmong types (each lists own_types args) → AllAmong types (totals lists own_types args)
  of_tests NoArg h = tt
  of_tests (ByValue value rest) h = among_both (total lists own_types value) (totals lists own_types rest) h.0 (of_tests rest h.1)
  of_tests (ByPath path rest) h =
      among_both (total_at lists own_types false path) (totals lists own_types rest) h.0 (of_tests rest h.1)

module _ (named : (proc g : ℕ) → Bool) (seen : ℕ → Bool) where
  abbrev Occur : List Occurrence → Type 0
  Occur os = AllOccur named seen os

  abbrev EachOccurs : List (List Occurrence) → Type 0
  EachOccurs [] = Unit {0}
  EachOccurs (x ∷ xs) = Occur x × EachOccurs xs

  each_joined : (xs : List (List Occurrence)) → Occur (joined xs) → EachOccurs xs
  each_joined [] h = tt
  each_joined (x ∷ xs) h = (occur_first named seen x (joined xs) h, each_joined xs (occur_second named seen x (joined xs) h))

  occur_turns : (xs ys : List (List Occurrence)) → EachOccurs (turns xs ys) → EachOccurs xs × EachOccurs ys
  occur_turns [] ys h = (tt, h)
  occur_turns (x ∷ xs) [] h = (h, tt)
  occur_turns (x ∷ xs) (y ∷ ys) h = let more = occur_turns xs ys h.1.1 in ((h.0, more.0), (h.1.0, more.1))

  occur_both : (xs ys : List Occurrence) → Occur xs → Occur ys → Occur (xs ++ ys)
  occur_both [] ys h k = k
  occur_both (x ∷ xs) ys h k = (h.0, occur_both xs ys h.1 k)

  occur_tests : (args : Args) → EachOccurs (in_each args) → Occur (in_args None args)
  occur_tests NoArg h = tt
  occur_tests (ByValue value rest) h = occur_both (in_expr value) (in_args None rest) h.0 (occur_tests rest h.1)
  occur_tests (ByPath path rest) h =
      occur_both (in_path path) (in_args None rest) h.0 (occur_tests rest h.1)

-- ---- the induction

module _ (types : List Ty) (facts : Facts) (has_forms : (ty : Ty) → is_among_types types ty ≡ true → (f : Form) × HasForm facts ty f)
    (declared : are_declared facts types ≡ true) (named : (proc g : ℕ) → Bool) where
  abbrev pub Of : Limits → ℕ → Args → Type 0
  Of = OfCall types facts has_forms declared named

  abbrev SeesOwn : Limits → Type 0
  SeesOwn limits = (n : ℕ) → limits.seen false n ≡ true

  -- the places of loops
  places_simple : (ds : List Declared) (rest : List Ty) → AllAmong types (place_types ds ++ rest) → any_place_unbuilt facts ds ≡ false → AllSimple facts ds
  places_simple [] rest among out = tt
  places_simple (d ∷ ds) rest among out =
      let o = or_false (is_unbuilt facts d.of) (any_place_unbuilt facts ds) out in
      (simple_type types facts has_forms declared named d.of among.0 o.0, places_simple ds rest among.1 o.1)

  -- a loop, where its body is so
  loop_asked : (scope : scopes.Here) → scope.facts ≡ facts → scope.dest ≡ None → (limits more : Limits) → SeesOwn limits → (kind : Kind) (node : Node)
      (head : Args) (body : Stmts) → are_typed scope head ≡ true →
      left_out_in_stmt facts (Loop node kind head body) ≡ None → AllAmong types (total_in lists own_types (Loop node kind head body)) →
      ArgsLend limits.kept head → AllOccur named (limits.seen true) (in_args None head) →
      (left_out_in_block facts body ≡ None → AllAmong types (total_of lists own_types body) → AskedBlock facts Of more body) →
      AllAsked facts limits (Of limits) head × (AllSimple facts (loop_places kind) × AskedBlock facts Of more body)
  loop_asked scope same none limits more own kind node head body typed out among lends occur body_so =
      let o = neither (out_if (any_place_unbuilt facts (loop_places kind) || first_unbuilt facts (types_in head)) node)
      (left_out_in_args facts head or_then left_out_in_block facts body) out in
      let p = neither (left_out_in_args facts head) (left_out_in_block facts body) o.1 in
      let own_ones = place_types (loop_places kind) ++ [] in
      let rest = among_second types own_ones (totals lists own_types head ++ total_of lists own_types body) among in (
        args_asked types facts has_forms declared named scope same none limits own None head typed p.0
            (among_first types (totals lists own_types head) (total_of lists own_types body) rest) lends occur,
        (
          places_simple (loop_places kind) [] (among_first types own_ones (totals lists own_types head ++ total_of lists own_types body) among)
              (or_false (any_place_unbuilt facts (loop_places kind)) (first_unbuilt facts (types_in head))
              (stays_in (any_place_unbuilt facts (loop_places kind) || first_unbuilt facts (types_in head)) node o.0)).0,
          body_so p.1 (among_second types (totals lists own_types head) (total_of lists own_types body) rest),
        ),
      )

  mutual
    pub stmt_asked : (scope : scopes.Here) → scope.facts ≡ facts → scope.dest ≡ None → (limits : Limits) → SeesOwn limits → (around : Around) (x : Stmt) →
        is_typed_stmt scope around x ≡ true → left_out_in_stmt facts x ≡ None → AllAmong types (total_in lists own_types x) → StmtLends limits.kept x →
        AllOccur named (limits.seen true) (in_stmt x) → AskedStmt facts Of limits x
    stmt_asked scope same none limits own around (Do e) typed out among lends occur =
        expr_asked types facts has_forms declared named scope same none limits own e (and_parts (not (is_there (type_of e))) (is_typed scope e) typed).1
        out among
        lends occur
    stmt_asked scope same none limits own around (Idle node parts) typed out among lends occur = tt
    stmt_asked scope same none limits own around (Give node back e) typed out among lends occur =
        expr_asked types facts has_forms declared named scope same none limits own e
        (and_parts (is_of (type_of e) around.gives && (not back || around.returns)) (is_typed scope e) typed).1 out among lends occur
    stmt_asked scope same none limits own around (Leave node leaving parts) typed out among lends occur = tt
    stmt_asked scope same none limits own around (Select node chooser tests blocks) typed out among lends occur =
        let t = and_parts (chooses scope.facts chooser tests blocks && are_typed scope tests) (are_typed_blocks scope around blocks) typed in
        let u = and_parts (chooses scope.facts chooser tests blocks) (are_typed scope tests) t.0 in
        let o = none_earlier (left_out_in_args facts tests) (left_out_in_blocks facts blocks)
        (neither (out_if (first_unbuilt facts (types_in tests)) node) _ out).1 in
        let k = each_turns types (each lists own_types tests) (each_block lists own_types blocks) among in
        let c = occur_turns named (limits.seen true) (in_each tests) (in_blocks blocks)
        (each_joined named (limits.seen true) (turns (in_each tests) (in_blocks blocks)) occur) in (
          args_asked types facts has_forms declared named scope same none limits own None tests u.1 o.0 (of_tests types tests k.0) lends.0
              (occur_tests named (limits.seen true) tests c.0),
          blocks_asked scope same none limits own around blocks t.1 o.1 k.1 lends.1 c.1,
        )
    stmt_asked scope same none limits own around (Loop node While head body) typed out among lends occur =
        let t = and_parts (head_fits scope.facts While head && are_typed scope head) (not (is_empty body) && is_typed_block scope (looping around) body)
        typed in
        loop_asked scope same none limits limits own While node head body (and_parts (head_fits scope.facts While head) (are_typed scope head) t.0).1 out among
        lends.0 (occur_first named (limits.seen true) (in_args None head) (in_block body) occur)
        (λ o a. block_asked scope same none limits own (looping around) body
        (and_parts (not (is_empty body)) (is_typed_block scope (looping around) body) t.1).1 o a lends.1
        (occur_second named (limits.seen true) (in_args None head) (in_block body) occur))
    stmt_asked scope same none limits own around (Loop node (Count place inclusive) head body) typed out among lends occur =
        let t = and_parts (head_fits scope.facts (Count place inclusive) head && are_typed scope head)
        (not (is_empty body) && is_typed_block (with_place scope place) (looping around) body) typed in
        loop_asked scope same none limits (within (Count place inclusive) limits) own (Count place inclusive) node head body
        (and_parts (head_fits scope.facts (Count place inclusive) head) (are_typed scope head) t.0).1 out among
        lends.0 (occur_first named (limits.seen true) (in_args None head) (in_block body) occur)
        (λ o a. block_asked (with_place scope place) same none (within (Count place inclusive) limits) own (looping around) body
        (and_parts (not (is_empty body)) (is_typed_block (with_place scope place) (looping around) body) t.1).1 o a lends.1
        (occur_second named (limits.seen true) (in_args None head) (in_block body) occur))
    stmt_asked scope same none limits own around (Loop node (Each place) head body) typed out among lends occur =
        let t = and_parts (head_fits scope.facts (Each place) head && are_typed scope head)
        (not (is_empty body) && is_typed_block (with_place scope place) (looping around) body) typed in
        loop_asked scope same none limits (within (Each place) limits) own (Each place) node head body
        (and_parts (head_fits scope.facts (Each place) head) (are_typed scope head) t.0).1 out among
        lends.0 (occur_first named (limits.seen true) (in_args None head) (in_block body) occur)
        (λ o a. block_asked (with_place scope place) same none (within (Each place) limits) own (looping around) body
        (and_parts (not (is_empty body)) (is_typed_block (with_place scope place) (looping around) body) t.1).1 o a lends.1
        (occur_second named (limits.seen true) (in_args None head) (in_block body) occur))
    stmt_asked scope same none limits own around (Raise node exception message) typed out among lends occur = some_node node out
    stmt_asked scope same none limits own around (Try node body handlers last) typed out among lends occur = some_node node out

    pub block_asked : (scope : scopes.Here) → scope.facts ≡ facts → scope.dest ≡ None → (limits : Limits) → SeesOwn limits → (around : Around) (x : Stmts) →
        is_typed_block scope around x ≡ true → left_out_in_block facts x ≡ None → AllAmong types (total_of lists own_types x) → BlockLends limits.kept x →
        AllOccur named (limits.seen true) (in_block x) → AskedBlock facts Of limits x
    block_asked scope same none limits own around Empty typed out among lends occur = tt
    block_asked scope same none limits own around (Then x rest) typed out among lends occur =
        let t = and_parts (is_typed_stmt scope around x) (is_typed_block scope around rest) typed in
        let o = neither (left_out_in_stmt facts x) (left_out_in_block facts rest) out in (
          stmt_asked scope same none limits own around x t.0 o.0 (among_first types (total_in lists own_types x) (total_of lists own_types rest) among) lends.0
              (occur_first named (limits.seen true) (in_stmt x) (in_block rest) occur),
          block_asked scope same none limits own around rest t.1 o.1 (among_second types (total_in lists own_types x) (total_of lists own_types rest) among)
              lends.1 (occur_second named (limits.seen true) (in_stmt x) (in_block rest) occur),
        )
    block_asked scope same none limits own around (Declare node place cursor value rest) typed out among lends occur =
        let t = and_parts (starts scope.facts place.of value && are_typed scope value) (is_typed_block (with_place scope place) around rest) typed in
        let u = and_parts (starts scope.facts place.of value) (are_typed scope value) t.0 in
        let o = neither (out_if (is_unbuilt facts place.of) node) (left_out_in_args facts value or_then left_out_in_block facts rest) out in
        let p = neither (left_out_in_args facts value) (left_out_in_block facts rest) o.1 in (
          simple_type types facts has_forms declared named place.of among.0 (stays_in (is_unbuilt facts place.of) node o.0),
          (
            args_asked types facts has_forms declared named scope same none limits own None value u.1 p.0
                (among_first types (totals lists own_types value) (total_of lists own_types rest) among.1) lends.0
                (occur_first named (limits.seen true) (in_args None value) (in_block rest) occur),
            block_asked (with_place scope place) same none limits own around rest t.1 p.1
                (among_second types (totals lists own_types value) (total_of lists own_types rest) among.1) lends.1
                (occur_second named (limits.seen true) (in_args None value) (in_block rest) occur),
          ),
        )
    block_asked scope same none limits own around (Defer node last rest) typed out among lends occur = some_node node out

    pub blocks_asked : (scope : scopes.Here) → scope.facts ≡ facts → scope.dest ≡ None → (limits : Limits) → SeesOwn limits → (around : Around) (x : Blocks) →
        are_typed_blocks scope around x ≡ true → left_out_in_blocks facts x ≡ None → EachAmong types (each_block lists own_types x) → BlocksLend limits.kept x →
        EachOccurs named (limits.seen true) (in_blocks x) → AskedBlocks facts Of limits x
    blocks_asked scope same none limits own around (Otherwise block) typed out among lends occur =
        block_asked scope same none limits own around block typed out among.0 lends occur.0
    blocks_asked scope same none limits own around (Block x rest) typed out among lends occur =
        let t = and_parts (not (is_empty x) && is_typed_block scope around x) (are_typed_blocks scope around rest) typed in
        let o = neither (left_out_in_block facts x) (left_out_in_blocks facts rest) out in (
          block_asked scope same none limits own around x (and_parts (not (is_empty x)) (is_typed_block scope around x) t.0).1 o.0 among.0 lends.0
              occur.0,
          blocks_asked scope same none limits own around rest t.1 o.1 among.1 lends.1 occur.1,
        )

  -- ---- the code of modules

  pub code_asked : (scope : scopes.Here) → scope.facts ≡ facts → scope.dest ≡ None → (limits : Limits) → SeesOwn limits → (x : Stmts) →
      is_typed_code scope x ≡ true → left_out_in_block facts x ≡ None → AllAmong types (total_of lists own_types x) → BlockLends limits.kept x →
      AllOccur named (limits.seen true) (in_block x) → AskedBlock facts Of limits x
  code_asked scope same none limits own Empty typed out among lends occur = tt
  code_asked scope same none limits own (Then x rest) typed out among lends occur =
      let t = and_parts (is_typed_stmt scope module_code x) (is_typed_code scope rest) typed in
      let o = neither (left_out_in_stmt facts x) (left_out_in_block facts rest) out in (
        stmt_asked scope same none limits own module_code x t.0 o.0
            (among_first types (total_in lists own_types x) (total_of lists own_types rest) among) lends.0
            (occur_first named (limits.seen true) (in_stmt x) (in_block rest) occur),
        code_asked scope same none limits own rest t.1 o.1 (among_second types (total_in lists own_types x) (total_of lists own_types rest) among)
            lends.1 (occur_second named (limits.seen true) (in_stmt x) (in_block rest) occur),
      )
  code_asked scope same none limits own (Declare node place cursor value rest) typed out among lends occur =
      let next = is_next (slice_get scope.globals scope.filled) (placed place) in
      let t = and_parts (next && (starts scope.facts place.of value && are_typed scope value)) (is_typed_code (with_global scope) rest) typed in
      let u = and_parts (starts scope.facts place.of value) (are_typed scope value)
      (and_parts next (starts scope.facts place.of value && are_typed scope value) t.0).1 in
      let o = neither (out_if (is_unbuilt facts place.of) node) (left_out_in_args facts value or_then left_out_in_block facts rest) out in
      let p = neither (left_out_in_args facts value) (left_out_in_block facts rest) o.1 in (
        simple_type types facts has_forms declared named place.of among.0 (stays_in (is_unbuilt facts place.of) node o.0),
        (
          args_asked types facts has_forms declared named scope same none limits own None value u.1 p.0
              (among_first types (totals lists own_types value) (total_of lists own_types rest) among.1) lends.0
              (occur_first named (limits.seen true) (in_args None value) (in_block rest) occur),
          code_asked (with_global scope) same none limits own rest t.1 p.1
              (among_second types (totals lists own_types value) (total_of lists own_types rest) among.1) lends.1
              (occur_second named (limits.seen true) (in_args None value) (in_block rest) occur),
        ),
      )
  code_asked scope same none limits own (Defer node last rest) typed out among lends occur = some_node node out

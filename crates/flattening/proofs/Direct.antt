-- Code without calls that have types for type parameters, and without constants with objects that have hooks of their own: among others that of
-- programs of which nothing is left out.
use Rattle.std.proofs.Common.{◌≡◌, zero, suc, Bool, true, false, [], ◌∷◌, Option, Some, None, refl, ap, ap₂, ◌∙◌}
use Rattle.std.specs.Prelude.{not, ◌&&◌, ◌||◌}
use Rattle.std.proofs.lemmas.Bool.{both_ways, and_from, or_parts, not-false}
use Rattle.nim_types.specs.Types.{Ty, Facts}
use Rattle.nim_types.specs.Forms as form
use Rattle.nim_types.specs.Forms.{Form, Forms, form_of, has_resource, has_resource_any}
use Rattle.nim_program.specs.Program.{Literal, Characters, Act, Doing, Building, Giving, Calling, Expr, Apply, Read}
use Rattle.nim_program.specs.Program.{Early, Choose}
use Rattle.nim_program.specs.Program.{Path, Variable, Fresh, Field, Element, Deref, Args, NoArg, ByValue, ByPath, types_in, type_at}
use Rattle.nim_program.specs.Program.{Stmt, Do, Idle, Give, Leave, Select, Loop, Raise, Try, Stmts, Empty, Then, Declare, Defer, Blocks, Otherwise, Block}
use Rattle.nim_program.specs.Folds.{loop_places}
use Rattle.nim_meaning.specs.Here.{form_for}
use Rattle.nim_meaning.specs.LeftOut.{◌or_then◌, earlier, any_place_unbuilt, left_out_in_stmt, left_out_in_block, left_out_in_blocks}
use Rattle.nim_meaning.specs.LeftOut.{is_act_built, is_exception_type, out_if, first_unbuilt, left_out_in}
use Rattle.nim_meaning.specs.LeftOut.{left_out_in_path, left_out_in_args}
use Rattle.nim_meaning.specs.Unbuilt.{has_unbuilt, has_unbuilt_any, is_unbuilt, gives_unbuilt}
use Rattle.flattening.proofs.Plain.{kept, neither, found, none_earlier}

-- a text, which a line reads where it stands
abbrev pub is_characters : Literal → Bool
is_characters (Characters text) = true
is_characters _ = false

-- what is built has no object with hooks of its own in it
mutual
  pub built_simple : (f : Form) → has_unbuilt f ≡ false → has_resource f ≡ false
  built_simple form.plain h = refl
  built_simple form.reference h = refl
  built_simple form.block h = refl
  built_simple (form.elements f) h = built_simple f h
  built_simple (form.row zero f) h = refl
  built_simple (form.row (suc n) f) h = built_simple f h
  built_simple (form.parts fs) h = all_simple fs h
  built_simple (form.resource fs) h = absurd (both_ways true h refl)
  built_simple (form.wrapped f) h = built_simple f h

  all_simple : (fs : Forms) → has_unbuilt_any fs ≡ false → has_resource_any fs ≡ false
  all_simple form.no_forms h = refl
  all_simple (form.forms f fs) h =
      let q = or_parts (has_unbuilt f) (has_unbuilt_any fs) h in ap₂ (λ a b. a || b) (built_simple f q.0) (all_simple fs q.1)

module _ (facts : Facts) where
  -- an object with hooks of its own is in it
  abbrev pub has_own_hooks : Option Ty → Bool
  has_own_hooks ty = has_resource (form_for facts ty)

  -- of an operation whose operands are such; a constant has none
  abbrev pub of_act : (ty : Option Ty) → Act → Args → Bool → Bool
  of_act ty (Giving literal) operands all = is_characters literal || not (has_own_hooks ty)
  of_act ty (Calling proc (first ∷ types)) operands all = false
  of_act ty act operands all = all

  abbrev mutual
    pub is_direct : Expr → Bool
    is_direct (Apply node ty act operands) = of_act ty act operands (are_direct operands)
    is_direct (Read path) = is_direct_path path
    is_direct (Early node ty short left right) = is_direct left && is_direct right
    is_direct (Choose node ty chooser parts) = are_direct parts

    pub is_direct_path : Path → Bool
    is_direct_path (Variable node ty place global) = true
    is_direct_path (Fresh value) = is_direct value
    is_direct_path (Field node ty base field) = is_direct_path base && not (is_exception_type (type_at base))
    is_direct_path (Element node ty base index constant) = is_direct_path base && is_direct index
    is_direct_path (Deref ty base) = is_direct_path base

    pub are_direct : Args → Bool
    are_direct NoArg = true
    are_direct (ByValue value rest) = is_direct value && are_direct rest
    are_direct (ByPath path rest) = is_direct_path path && are_direct rest

  -- exceptions have no lines yet
  abbrev mutual
    pub is_direct_stmt : Stmt → Bool
    is_direct_stmt (Do value) = is_direct value
    is_direct_stmt (Idle node parts) = true
    is_direct_stmt (Give node back value) = is_direct value
    is_direct_stmt (Leave node leaving parts) = true
    is_direct_stmt (Select node chooser tests blocks) = are_direct tests && are_direct_blocks blocks
    is_direct_stmt (Loop node kind head body) = are_direct head && is_direct_block body
    is_direct_stmt (Raise node exception message) = true
    is_direct_stmt (Try node body handlers last) = true

    pub is_direct_block : Stmts → Bool
    is_direct_block Empty = true
    is_direct_block (Then first rest) = is_direct_stmt first && is_direct_block rest
    is_direct_block (Declare node place cursor value rest) = are_direct value && is_direct_block rest
    is_direct_block (Defer node last rest) = true

    pub are_direct_blocks : Blocks → Bool
    are_direct_blocks (Otherwise block) = is_direct_block block
    are_direct_blocks (Block first rest) = is_direct_block first && are_direct_blocks rest

  -- ---- where nothing is left out

  built_right : (literal : Literal) (b : Bool) → b ≡ false → is_characters literal || not b ≡ true
  built_right literal b h = ap (λ c. is_characters literal || not c) h ∙ or_true (is_characters literal)
    where
      or_true : (c : Bool) → c || true ≡ true
      or_true true = refl
      or_true false = refl

  own_hooks : (ty : Option Ty) → gives_unbuilt facts ty ≡ false → has_own_hooks ty ≡ false
  own_hooks None h = refl
  own_hooks (Some ty) h = built_simple (form_of facts ty) h

  acted : (ty : Option Ty) (act : Act) (operands : Args) (all : Bool) → gives_unbuilt facts ty ≡ false → is_act_built act facts ty operands ≡ true →
      all ≡ true → of_act ty act operands all ≡ true
  acted ty (Doing operation) operands all u b h = h
  acted ty (Building fields) operands all u b h = h
  acted ty (Giving literal) operands all u b h = built_right literal (has_own_hooks ty) (own_hooks ty u)
  acted ty (Calling proc []) operands all u b h = h
  acted ty (Calling proc (first ∷ types)) operands all u b h = absurd (both_ways false refl b)

  mutual
    pub direct : (e : Expr) → left_out_in facts e ≡ None → is_direct e ≡ true
    direct (Apply node ty act operands) p =
        let q = neither (out_if (gives_unbuilt facts ty || not (is_act_built act facts ty operands)) node) (left_out_in_args facts operands) p in
        let b = or_parts (gives_unbuilt facts ty) (not (is_act_built act facts ty operands)) (kept _ node q.0) in
        acted ty act operands (are_direct operands) b.0 (not-false (is_act_built act facts ty operands) b.1) (all_direct operands q.1)
    direct (Read path) p = direct_path path p
    direct (Early node ty short left right) p =
        let q = neither (left_out_in facts left) (left_out_in facts right) p in
        and_from (is_direct left) (is_direct right) (direct left q.0) (direct right q.1)
    direct (Choose node ty chooser parts) p =
        all_direct parts (neither (out_if (gives_unbuilt facts ty || first_unbuilt facts (types_in parts)) node) (left_out_in_args facts parts) p).1

    pub direct_path : (path : Path) → left_out_in_path facts path ≡ None → is_direct_path path ≡ true
    direct_path (Variable node ty place global) p = refl
    direct_path (Fresh value) p = direct value p
    direct_path (Field node ty base field) p =
        let o = neither (out_if (is_unbuilt facts ty || is_exception_type (type_at base)) node) (left_out_in_path facts base) p in
        let t = or_parts (is_unbuilt facts ty) (is_exception_type (type_at base)) (kept _ node o.0) in
        and_from (is_direct_path base) (not (is_exception_type (type_at base))) (direct_path base o.1) (ap not t.1)
    direct_path (Element node ty base index constant) p =
        let q = neither (left_out_in_path facts base) (left_out_in facts index) (neither (out_if (is_unbuilt facts ty) node) _ p).1 in
        and_from (is_direct_path base) (is_direct index) (direct_path base q.0) (direct index q.1)
    direct_path (Deref ty base) p = found _ p

    pub all_direct : (args : Args) → left_out_in_args facts args ≡ None → are_direct args ≡ true
    all_direct NoArg p = refl
    all_direct (ByValue value rest) p =
        let q = neither (left_out_in facts value) (left_out_in_args facts rest) p in
        and_from (is_direct value) (are_direct rest) (direct value q.0) (all_direct rest q.1)
    all_direct (ByPath path rest) p =
        let q = neither (left_out_in_path facts path) (left_out_in_args facts rest) p in
        and_from (is_direct_path path) (are_direct rest) (direct_path path q.0) (all_direct rest q.1)

  mutual
    pub direct_stmt : (s : Stmt) → left_out_in_stmt facts s ≡ None → is_direct_stmt s ≡ true
    direct_stmt (Do value) p = direct value p
    direct_stmt (Idle node parts) p = refl
    direct_stmt (Give node back value) p = direct value p
    direct_stmt (Leave node leaving parts) p = refl
    direct_stmt (Select node chooser tests blocks) p =
        let q = none_earlier (left_out_in_args facts tests) (left_out_in_blocks facts blocks)
        (neither (out_if (first_unbuilt facts (types_in tests)) node) (earlier (left_out_in_args facts tests) (left_out_in_blocks facts blocks)) p).1 in
        and_from (are_direct tests) (are_direct_blocks blocks) (all_direct tests q.0) (direct_blocks blocks q.1)
    direct_stmt (Loop node kind head body) p =
        let q = neither (left_out_in_args facts head) (left_out_in_block facts body)
        (neither (out_if (any_place_unbuilt facts (loop_places kind) || first_unbuilt facts (types_in head)) node)
        (left_out_in_args facts head or_then left_out_in_block facts body) p).1 in
        and_from (are_direct head) (is_direct_block body) (all_direct head q.0) (direct_block body q.1)
    direct_stmt (Raise node exception message) p = refl
    direct_stmt (Try node body handlers last) p = refl

    pub direct_block : (b : Stmts) → left_out_in_block facts b ≡ None → is_direct_block b ≡ true
    direct_block Empty p = refl
    direct_block (Then first rest) p =
        let q = neither (left_out_in_stmt facts first) (left_out_in_block facts rest) p in
        and_from (is_direct_stmt first) (is_direct_block rest) (direct_stmt first q.0) (direct_block rest q.1)
    direct_block (Declare node place cursor value rest) p =
        let q = neither (left_out_in_args facts value) (left_out_in_block facts rest)
        (neither (out_if (is_unbuilt facts place.of) node) (left_out_in_args facts value or_then left_out_in_block facts rest) p).1 in
        and_from (are_direct value) (is_direct_block rest) (all_direct value q.0) (direct_block rest q.1)
    direct_block (Defer node last rest) p = refl

    direct_blocks : (bs : Blocks) → left_out_in_blocks facts bs ≡ None → are_direct_blocks bs ≡ true
    direct_blocks (Otherwise block) p = direct_block block p
    direct_blocks (Block first rest) p =
        let q = neither (left_out_in_block facts first) (left_out_in_blocks facts rest) p in
        and_from (is_direct_block first) (are_direct_blocks rest) (direct_block first q.0) (direct_blocks rest q.1)

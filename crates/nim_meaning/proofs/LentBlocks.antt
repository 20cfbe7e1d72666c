-- Each value that is lent to a temporary is read behind: statements, blocks and bodies. And where its region ends.
use Rattle.std.proofs.Common.{◌≡◌, refl, ℕ, suc, Bool, true, false, ◌&&◌, ◌||◌, if◌then◌else◌, List, [], ◌∷◌, Option, Some, None}
use Rattle.nim_types.specs.Types.{Ty}
use Rattle.nim_program.specs.declared.program.Mode.{Mode}
use Rattle.nim_program.specs.declared.program.Mode.TheVariants as M
use Rattle.nim_program.specs.declared.stmt.Leaving.{Leaving}
use Rattle.nim_program.specs.declared.stmt.Leaving.TheVariants as K
use Rattle.nim_program.specs.Program as T
use Rattle.nim_program.specs.Program.{Label, Args, Declared, Stmt, Stmts, Blocks, Param, Body, last_after, last_of}
use Rattle.nim_meaning.specs.ActTree.{Root, Named, Begins, Does, Fills, Looks, Chooses, Lend, Fill, Index, Control, Do, Loop, Acts, Done, Then, Bind, Result}
use Rattle.nim_meaning.specs.ActTree.{Path, is_read_by, until_read}
use Rattle.nim_meaning.specs.Shapes.{selector_type, is_covered, is_last_block}
use Rattle.nim_meaning.specs.ActsOf.{path_before, site_at, ended, result_act, result_root, back_or_on, left, looked_up, scope, element_act, condition_acts}
use Rattle.nim_meaning.specs.ActsOf.{loop_acts, selector_acts, stmt_acts, stmts_acts, first_block_acts, block_arms, owned, with_result, all_owned, proc_acts}
use Rattle.nim_meaning.specs.Lent.{reads_later, lent_to, Arms_read, All_read, is_done, ends_reading}
use Rattle.nim_meaning.proofs.LentLemmas.{Free, free_none, free_then, free_control, free_group, free_choice, free_looked, arms_if, aimed_free, before_read}
use Rattle.nim_meaning.proofs.LentLemmas.{whole_read}
use Rattle.nim_meaning.proofs.LentLemmas.{head_free, value_owned, value_looked, value_given}

either_read : (c : Bool) (a b : Acts) → All_read a → All_read b → All_read (if c then a else b)
either_read true a b h g = h
either_read false a b h g = g

looked_lends : (head : Args) (steps : _) (n : ℕ) (r : _) → lent_to (Do n r (looked_up head steps)) ≡ None
looked_lends T.NoArg steps n r = refl
looked_lends (T.ByValue value rest) steps n r = refl
looked_lends (T.ByPath path rest) steps n r = refl

result_lends : (result : Option Declared) (n : ℕ) → lent_to (Do n Does (result_act result)) ≡ None
result_lends None n = refl
result_lends (Some place) n = refl

module _ (hooked : Ty → Bool) (at_call : ℕ → ℕ → Mode) where
  scope_read : (place : Declared) (last : ℕ) (b : Acts) → All_read b → All_read (scope hooked at_call place last b)
  scope_read place last b h = either_read (hooked place.of) (Bind (Named place.number) last b) b h h

  given_lends : (c : Bool) (site : Option ℕ) (place : ℕ) (path : Path) (n : ℕ) →
      lent_to (Do n Fills (if c then Lend site (Named place) path else Fill (Named place))) ≡ None
  given_lends true site place path n = refl
  given_lends false site place path n = refl

  element_lends : (variable : Declared) (head : Args) (n : ℕ) → lent_to (Do n Fills (element_act hooked at_call variable head)) ≡ None
  element_lends variable T.NoArg n = refl
  element_lends variable (T.ByValue value rest) n = refl
  element_lends variable (T.ByPath path rest) n = given_lends (hooked variable.of) (site_at path) variable.number (path_before path (Index None ∷ [])) n

  test_read : (head : Args) → All_read (ended (condition_acts hooked at_call head))
  test_read T.NoArg = tt
  test_read (T.ByValue condition rest) = whole_read hooked at_call (value_owned hooked at_call condition)
  test_read (T.ByPath path rest) = tt

  selector_free : (tests : Args) → Free (selector_acts hooked at_call tests)
  selector_free T.NoArg = free_none
  selector_free (T.ByValue selector more) = value_looked hooked at_call selector
  selector_free (T.ByPath path more) = free_then (aimed_free hooked at_call path) (free_looked path)

  left_free : (n : ℕ) (leaving : Leaving) → Free (λ b. Then (left leaving n) b)
  left_free n K.Break = free_control _ refl tt
  left_free n K.Continue = free_control _ refl tt
  left_free n K.Return = free_control _ refl tt

  back_read : (back : Bool) (n : ℕ) → All_read (back_or_on back n)
  back_read true n = (tt, (tt, tt))
  back_read false n = tt

  loop_free : (n : ℕ) (kind : T.Kind) (head : Args) (last : ℕ) (b : Acts) → All_read b → Free (loop_acts hooked at_call n kind head last b)
  loop_free n T.While head last b h = free_control _ refl (test_read head, h)
  loop_free n (T.Count variable inclusive) head last b h =
      free_group n Begins _
      (whole_read hooked at_call (free_then (head_free hooked at_call head)
      (free_control (Loop n Done (Then (Do n Fills (Fill (Named variable.number))) (scope hooked at_call variable last b))) refl
      (tt, (tt, (tt, scope_read variable last b h))))))
  loop_free n (T.Each variable) head last b h =
      let looks : Control = Do n Does (looked_up head (Index None ∷ [])) in
      let gives : Control = Do n Fills (element_act hooked at_call variable head) in
      let around : Acts = Then looks (Then gives (scope hooked at_call variable last b)) in
      let turn : All_read around = Free.good (free_then (free_control looks (looked_lends head (Index None ∷ []) n Does) tt)
      (free_control gives (element_lends variable head n) tt))
      (scope hooked at_call variable last b) (scope_read variable last b h) in
      free_group n Begins _
      (whole_read hooked at_call (free_then (head_free hooked at_call head)
      (free_then (free_control (Do n Looks (looked_up head [])) (looked_lends head [] n Looks) tt) (free_control (Loop n Done around) refl (tt, turn)))))

  module _ (result : Option Declared) where
    mutual
      stmt_free : (s : Stmt) → Free (stmt_acts hooked at_call result s)
      stmt_free (T.Do value) = free_group _ Begins _ (whole_read hooked at_call (value_owned hooked at_call value))
      stmt_free (T.Idle node parts) = free_control _ refl tt
      stmt_free (T.Give node back value) =
          free_group node.number Begins _ (before_read hooked at_call (free_then (value_given hooked at_call (result_root result) value)
          (free_control (Do node.number Does (result_act result)) (result_lends result node.number) tt)) (back_or_on back node.number)
          (back_read back node.number))
      stmt_free (T.Leave node leaving parts) = left_free node.number leaving
      stmt_free (T.Select node T.ByConditions tests blocks) = free_group node.number Begins _ (first_block_read tests blocks)
      stmt_free (T.Select node (T.ByLabels labels) tests blocks) =
          free_group node.number Begins _ (whole_read hooked at_call (free_then (selector_free tests)
          (free_choice node.number Chooses (block_arms hooked at_call result (is_covered (selector_type tests)) labels blocks)
          (block_arms_read (is_covered (selector_type tests)) labels blocks))))
      stmt_free (T.Loop node kind head body) = loop_free node.number kind head (last_of body) (stmts_acts hooked at_call result body) (block_read body)
      stmt_free (T.Raise node exception message) = free_none
      stmt_free (T.Try node body handlers last) = free_none

      pub block_read : (b : Stmts) → All_read (stmts_acts hooked at_call result b)
      block_read T.Empty = tt
      block_read (T.Then first rest) = Free.good (stmt_free first) (stmts_acts hooked at_call result rest) (block_read rest)
      block_read (T.Declare node place cursor T.NoArg rest) = (tt, (tt, scope_read place (last_after node.number rest) _ (block_read rest)))
      block_read (T.Declare node place cursor (T.ByValue value more) rest) = (
        tt,
        (
          whole_read hooked at_call (free_then (value_given hooked at_call (Some (Named place.number)) value)
              (free_control (Do node.number Does (Fill (Named place.number))) refl tt)),
          scope_read place (last_after node.number rest) _ (block_read rest),
        ),
      )
      block_read (T.Declare node place cursor (T.ByPath path more) rest) = tt
      block_read (T.Defer node last rest) = tt

      first_block_read : (tests : Args) (blocks : Blocks) → All_read (first_block_acts hooked at_call result tests blocks)
      first_block_read T.NoArg (T.Otherwise block) = block_read block
      first_block_read T.NoArg (T.Block first more) = block_read first
      first_block_read (T.ByPath path rest) blocks = tt
      first_block_read (T.ByValue condition rest) (T.Otherwise block) = tt
      first_block_read (T.ByValue condition rest) (T.Block first more) = (
        tt,
        (whole_read hooked at_call (value_owned hooked at_call condition), (tt, ((block_read first, (first_block_read rest more, tt)), tt))),
      )

      block_arms_read : (covered : Bool) (labels : List (List Label)) (blocks : Blocks) → Arms_read (block_arms hooked at_call result covered labels blocks)
      block_arms_read covered labels (T.Otherwise block) = (block_read block, tt)
      block_arms_read covered [] (T.Block first rest) = (block_read first, tt)
      block_arms_read covered (these ∷ labels) (T.Block first rest) =
          (block_read first, arms_if (covered && is_last_block rest) _ (block_arms_read covered labels rest))

  -- ---- bodies

  result_read : (result : Option Declared) (last : ℕ) (b : Acts) → All_read b → All_read (with_result hooked at_call result last b)
  result_read None last b h = h
  result_read (Some place) last b h = either_read (hooked place.of) (Result (Named place.number) last b) b h h

  owned_read : (mode : Mode) (param : Param) (last : ℕ) (b : Acts) → All_read b → All_read (owned hooked at_call mode param last b)
  owned_read M.Plain param last b h = h
  owned_read M.Sink param last b h = scope_read param.place last b h
  owned_read M.Var param last b h = h

  module _ (in_body : ℕ → ℕ → Mode) where
    params_read : (proc i : ℕ) (params : List Param) (last : ℕ) (b : Acts) → All_read b → All_read (all_owned hooked at_call in_body proc i params last b)
    params_read proc i [] last b h = h
    params_read proc i (param ∷ more) last b h = owned_read (in_body proc i) param last _ (params_read proc (suc i) more last b h)

    pub procedure_reads : (proc : ℕ) (params : List Param) (body : Body) → All_read (proc_acts hooked at_call in_body proc params body)
    procedure_reads proc params body =
        params_read proc 0 params (last_of body.stmts) _ (result_read body.result (last_of body.stmts) _ (block_read body.result body.stmts))

-- ---- where its region ends

then_ends : (c : Bool) (x : Root) (b : Acts) → (reads_later x b ≡ true → ends_reading x (until_read x b) ≡ true) → (c || reads_later x b) ≡ true →
    (if c then is_done (if c then Done else until_read x b) else ends_reading x (if c then Done else until_read x b)) ≡ true
then_ends true x b f h = refl
then_ends false x b f h = f h

pub region_ends : (x : Root) (b : Acts) → reads_later x b ≡ true → ends_reading x (until_read x b) ≡ true
region_ends x Done h = h
region_ends x (Then s b) h = then_ends (is_read_by x s) x b (region_ends x b) h
region_ends x (Bind y l b) h = region_ends x b h
region_ends x (Result y l b) h = region_ends x b h

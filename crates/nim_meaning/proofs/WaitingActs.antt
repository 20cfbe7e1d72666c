-- The values that wait in a part are the temporaries that its acts make.
use Rattle.std.proofs.Common.{◌≡◌, refl, sym, ap, ◌∙◌, append_assoc, ℕ, suc, Bool, true, false, ◌&&◌, if◌then◌else◌, List, [], ◌∷◌, ◌++◌, Option, Some, None}
use Rattle.nim_types.specs.Types.{Ty, Facts}
use Rattle.nim_types.specs.Forms.{Form}
use Rattle.nim_program.specs.declared.operation.Use.{Use}
use Rattle.nim_program.specs.declared.operation.Use.TheVariants.{Owned, Given, Held, Lent, Looked}
use Rattle.nim_program.specs.declared.operation.Short.{Short}
use Rattle.nim_program.specs.declared.operation.Short.TheVariants.{And, Or}
use Rattle.nim_program.specs.declared.program.Mode.{Mode}
use Rattle.nim_program.specs.Program as T
use Rattle.nim_program.specs.Program.{Label, Literal, Expr, Args, type_of, node_at, constant_in}
use Rattle.nim_program.specs.Folds.{by_constant}
use Rattle.nim_program.specs.Uses.{use_of}
use Rattle.nim_meaning.specs.Shapes.{has_node, is_held, waits, waits_from, is_covered, is_last_value}
use Rattle.nim_meaning.specs.Here.{is_hooked as type_hooked, gives_hooked, form_for}
use Rattle.nim_meaning.specs.ActTree.{Root, Path, Operands, Does, Act, Choose, Arms, No_arm, An_arm, Acts, Done, Then}
use Rattle.nim_meaning.specs.ActsOf.{is_hooked, one_act, used, read_act, read_acts, looked_at, makes, made_in, all_made, bound, ended, early_arms, done_by}
use Rattle.nim_meaning.specs.ActsOf.{receiver, works_on, acts_of, aimed, ready_acts, selected_acts, value_arms}
use Rattle.nim_meaning.specs.Waiting.{Wait, wait_if, own_wait, reads_kept, nodes_of, waiting, waiting_at, waiting_all, waiting_first}
use Rattle.nim_meaning.proofs.RunParts.{act_makes_none}

nodes_joined : (xs ys : List Wait) → nodes_of (xs ++ ys) ≡ nodes_of xs ++ nodes_of ys
nodes_joined [] ys = refl
nodes_joined (x ∷ xs) ys = ap (λ ns. x.node ∷ ns) (nodes_joined xs ys)

-- what a part makes, in front of what follows
joined_first : (xs ys : List Wait) (ns : List ℕ) → nodes_of xs ++ (nodes_of ys ++ ns) ≡ nodes_of (xs ++ ys) ++ ns
joined_first xs ys ns = sym (append_assoc (nodes_of xs) (nodes_of ys) ns) ∙ ap (λ ms. ms ++ ns) (sym (nodes_joined xs ys))

none_behind : (ns : List ℕ) → ns ++ [] ≡ ns
none_behind [] = refl
none_behind (n ∷ ns) = ap (λ ms. n ∷ ms) (none_behind ns)

-- temporaries that end with a part are none of what is around
ended_makes : (b : Acts) → all_made (ended b) ≡ []
ended_makes b = bound_makes (all_made b) refl
  where
    bound_makes : (ns : List ℕ) → ns ≡ all_made b → all_made (bound ns b) ≡ []
    bound_makes [] e = sym e
    bound_makes (n ∷ ns) e = refl

module _ (facts : Facts) (modes : (proc position : ℕ) → Mode) where
  abbrev hooked : Ty → Bool
  hooked = type_hooked facts

  hooked_is : (ty : Option Ty) → is_hooked hooked modes ty ≡ gives_hooked facts ty
  hooked_is None = refl
  hooked_is (Some ty) = refl

  -- a value that waits
  used_makes : (b w : Bool) (n : ℕ) (ty : Option Ty) (f : Form) (rest : Acts) →
      all_made (used (b && w) n rest) ≡ nodes_of (wait_if (b && w) n ty f) ++ all_made rest
  used_makes true true n ty f rest = refl
  used_makes true false n ty f rest = refl
  used_makes false w n ty f rest = refl

  own_makes : (w : Bool) (n : ℕ) (ty : Option Ty) (rest : Acts) →
      all_made (used (is_hooked hooked modes ty && w) n rest) ≡ nodes_of (own_wait facts modes w n ty) ++ all_made rest
  own_makes w n ty rest = ap (λ b. all_made (used (b && w) n rest)) (hooked_is ty) ∙ used_makes (gives_hooked facts ty) w n ty (form_for facts ty) rest

  done_makes : (n : ℕ) (act : T.Act) (operands : Args) (on : Operands) (rest : Acts) → all_made (Then (done_by n act operands on) rest) ≡ all_made rest
  done_makes n (T.Doing operation) operands on rest = ap (λ ns. ns ++ all_made rest) (act_makes_none operation operands on)
  done_makes n (T.Building fields) operands on rest = refl
  done_makes n (T.Giving literal) operands on rest = refl
  done_makes n (T.Calling proc types) operands on rest = refl

  -- a path that is read at a node of its own
  site_makes : (b : Bool) (how : Use) (to : Option Root) (n : ℕ) (ty : Option Ty) (f : Form) (z : Path) (rest : Acts) →
      all_made (one_act n Does (read_act b how to n z) (used (b && is_held how) n rest)) ≡ nodes_of (wait_if (b && reads_kept how) n ty f) ++ all_made rest
  site_makes true Owned to n ty f z rest = refl
  site_makes true Given to n ty f z rest = refl
  site_makes true Held to n ty f z rest = refl
  site_makes true Lent to n ty f z rest = refl
  site_makes true Looked to n ty f z rest = refl
  site_makes false how to n ty f z rest = refl

  none_own : (b : Bool) (n : ℕ) (ty : Option Ty) (f : Form) (rest : Acts) → all_made rest ≡ nodes_of (wait_if (b && false) n ty f) ++ all_made rest
  none_own true n ty f rest = refl
  none_own false n ty f rest = refl

  read_makes : (how : Use) (to : Option Root) (path : T.Path) (rest : Acts) → all_made (read_acts hooked modes how to path rest)
      ≡ nodes_of (own_wait facts modes (has_node path && reads_kept how) (node_at path).number (T.type_at path)) ++ all_made rest
  read_makes how to (T.Variable node ty place global) rest = site_makes (hooked ty) how to node.number (Some ty) (form_for facts (Some ty)) _ rest
  read_makes how to (T.Fresh value) rest = none_own (gives_hooked facts (type_of value)) _ _ _ rest
  read_makes how to (T.Field node ty base field) rest = site_makes (hooked ty) how to node.number (Some ty) (form_for facts (Some ty)) _ rest
  read_makes how to (T.Element node ty base index constant) rest = site_makes (hooked ty) how to node.number (Some ty) (form_for facts (Some ty)) _ rest
  read_makes how to (T.Deref ty base) rest = none_own (hooked ty) _ _ _ rest

  looked_makes : (path : T.Path) (rest : Acts) → all_made (looked_at path rest) ≡ all_made rest
  looked_makes (T.Variable node ty place global) rest = refl
  looked_makes (T.Fresh value) rest = refl
  looked_makes (T.Field node ty base field) rest = refl
  looked_makes (T.Element node ty base index constant) rest = refl
  looked_makes (T.Deref ty base) rest = refl

  no_arms : (last : Bool) (arms : Arms) → made_in arms ≡ [] → made_in (if last then No_arm else arms) ≡ []
  no_arms true arms e = refl
  no_arms false arms e = e

  arm_makes : (b : Acts) (arms : Arms) → made_in arms ≡ [] → made_in (An_arm (ended b) arms) ≡ []
  arm_makes b arms e = ap (λ ns. ns ++ made_in arms) (ended_makes b) ∙ e

  arms_make : (covered : Bool) (labels : List (List Label)) (values : Args) → made_in (value_arms hooked modes covered labels values) ≡ []
  arms_make covered labels T.NoArg = refl
  arms_make covered labels (T.ByPath path rest) = refl
  arms_make covered [] (T.ByValue value rest) = arm_makes (acts_of hooked modes Owned None value Done) No_arm refl
  arms_make covered (these ∷ labels) (T.ByValue value rest) =
      let more = value_arms hooked modes covered labels rest in
      arm_makes (acts_of hooked modes Owned None value Done) (if covered && is_last_value rest then No_arm else more)
      (no_arms (covered && is_last_value rest) more (arms_make covered labels rest))

  early_makes : (short : Short) (b : Acts) → made_in (early_arms short b) ≡ all_made b
  early_makes And b = none_behind (all_made b)
  early_makes Or b = none_behind (all_made b)

  constant_makes : (c : Option Literal) (more rest : Acts) (ws : List Wait) → all_made more ≡ nodes_of ws ++ all_made rest →
      all_made (by_constant c (λ literal. rest) more) ≡ nodes_of (by_constant c (λ literal. []) ws) ++ all_made rest
  constant_makes None more rest ws e = e
  constant_makes (Some literal) more rest ws e = refl

  mutual
    pub value_makes : (how : Use) (to : Option Root) (e : Expr) (rest : Acts) →
        all_made (acts_of hooked modes how to e rest) ≡ nodes_of (waiting facts modes e how) ++ all_made rest
    value_makes how to (T.Apply node ty act operands) rest =
        let own = used (is_hooked hooked modes ty && waits_from act how) node.number rest in
        all_make (use_of modes act) 0 (receiver operands) operands _
        ∙ ap (λ ns. nodes_of (waiting_all facts modes operands (use_of modes act) 0) ++ ns)
        (done_makes node.number act operands (works_on hooked modes act 0 operands) own ∙ own_makes (waits_from act how) node.number ty rest)
        ∙ joined_first (waiting_all facts modes operands (use_of modes act) 0) (own_wait facts modes (waits_from act how) node.number ty) (all_made rest)
    value_makes how to (T.Read path) rest =
        let own = own_wait facts modes (has_node path && reads_kept how) (node_at path).number (T.type_at path) in
        path_makes path (read_acts hooked modes how to path rest)
        ∙ ap (λ ns. nodes_of (waiting_at facts modes path) ++ ns) (read_makes how to path rest)
        ∙ joined_first (waiting_at facts modes path) own (all_made rest)
    value_makes how to (T.Early node ty short left right) rest =
        let b = acts_of hooked modes Owned None right Done in
        value_makes Owned None left _
        ∙ ap (λ ns. nodes_of (waiting facts modes left Owned) ++ (ns ++ all_made rest))
        (early_makes short b ∙ value_makes Owned None right Done ∙ none_behind (nodes_of (waiting facts modes right Owned)))
        ∙ joined_first (waiting facts modes left Owned) (waiting facts modes right Owned) (all_made rest)
    value_makes how to (T.Choose node ty T.ByConditions parts) rest = own_makes (waits how) node.number ty rest
    value_makes how to (T.Choose node ty (T.ByLabels labels) parts) rest =
        selected_makes node.number labels parts (used (is_hooked hooked modes ty && waits how) node.number rest)
        ∙ ap (λ ns. nodes_of (waiting_first facts modes parts) ++ ns) (own_makes (waits how) node.number ty rest)
        ∙ joined_first (waiting_first facts modes parts) (own_wait facts modes (waits how) node.number ty) (all_made rest)

    pub path_makes : (path : T.Path) (rest : Acts) → all_made (aimed hooked modes path rest) ≡ nodes_of (waiting_at facts modes path) ++ all_made rest
    path_makes (T.Variable node ty place global) rest = refl
    path_makes (T.Fresh value) rest =
        constant_makes (constant_in value) (acts_of hooked modes Looked None value rest) rest (waiting facts modes value Looked)
        (value_makes Looked None value rest)
    path_makes (T.Field node ty base field) rest = path_makes base rest
    path_makes (T.Element node ty base index constant) rest =
        path_makes base (acts_of hooked modes Owned None index rest)
        ∙ ap (λ ns. nodes_of (waiting_at facts modes base) ++ ns) (value_makes Owned None index rest)
        ∙ joined_first (waiting_at facts modes base) (waiting facts modes index Owned) (all_made rest)
    path_makes (T.Deref ty base) rest = path_makes base rest

    pub all_make : (uses : ℕ → Use) (i : ℕ) (to : Option Root) (operands : Args) (rest : Acts) →
        all_made (ready_acts hooked modes uses i to operands rest) ≡ nodes_of (waiting_all facts modes operands uses i) ++ all_made rest
    all_make uses i to T.NoArg rest = refl
    all_make uses i to (T.ByValue value more) rest =
        value_makes (uses i) to value (ready_acts hooked modes uses (suc i) to more rest)
        ∙ ap (λ ns. nodes_of (waiting facts modes value (uses i)) ++ ns) (all_make uses (suc i) to more rest)
        ∙ joined_first (waiting facts modes value (uses i)) (waiting_all facts modes more uses (suc i)) (all_made rest)
    all_make uses i to (T.ByPath path more) rest =
        path_makes path (ready_acts hooked modes uses (suc i) to more rest)
        ∙ ap (λ ns. nodes_of (waiting_at facts modes path) ++ ns) (all_make uses (suc i) to more rest)
        ∙ joined_first (waiting_at facts modes path) (waiting_all facts modes more uses (suc i)) (all_made rest)

    pub selected_makes : (n : ℕ) (labels : List (List Label)) (parts : Args) (rest : Acts) →
        all_made (selected_acts hooked modes n labels parts rest) ≡ nodes_of (waiting_first facts modes parts) ++ all_made rest
    selected_makes n labels T.NoArg rest = refl
    selected_makes n labels (T.ByValue selector values) rest =
        value_makes Looked None selector _
        ∙ ap (λ ns. nodes_of (waiting facts modes selector Looked) ++ (ns ++ all_made rest)) (arms_make (is_covered (type_of selector)) labels values)
    selected_makes n labels (T.ByPath path values) rest =
        path_makes path _
        ∙ ap (λ ns. nodes_of (waiting_at facts modes path) ++ ns)
        (looked_makes path _ ∙ ap (λ ns. ns ++ all_made rest) (arms_make (is_covered (T.type_at path)) labels values))

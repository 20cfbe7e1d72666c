-- Expressions go by ways through their acts, and do these acts.
use Rattle.std.proofs.Common.{◌≡◌, refl, sym, ap, subst, inl, inr, ◌⊎◌, ℕ, suc, Bool, true, false, not, ◌&&◌, ◌||◌, List, [], ◌∷◌, length, Option, Some, None}
use Rattle.std.proofs.lemmas.Bool.{and_parts}
use Rattle.arc_base.specs.BigStep.{Res, Got, Over, Going, Errs, then_do}
use Rattle.nim_types.specs.Types.{Ty}
use Rattle.nim_program.specs.declared.expr.Node.{Node}
use Rattle.nim_program.specs.declared.operation.Operation.TheVariants as O
use Rattle.nim_program.specs.declared.operation.Short.{Short}
use Rattle.nim_program.specs.declared.operation.Short.TheVariants.{And, Or}
use Rattle.nim_program.specs.declared.operation.Use.{Use}
use Rattle.nim_program.specs.declared.operation.Use.TheVariants.{Owned, Lent, Looked}
use Rattle.nim_program.specs.declared.program.Mode.{Mode}
use Rattle.nim_program.specs.Program as T
use Rattle.nim_program.specs.Program.{Label, Literal, Expr, Args, type_of, node_of, node_at, constant_in, types_in}
use Rattle.nim_program.specs.Folds.{by_constant}
use Rattle.nim_program.specs.Uses.{use_of}
use Rattle.nim_program.specs.Ints.{is_true}
use Rattle.nim_meaning.specs.ActTree.{Root, Path, Operands, Does as Done_by, Chooses, Asks, Decides, Look, Operate, Acts, Done, Then, Do}
use Rattle.nim_meaning.specs.Ways.{Graph, Raises}
use Rattle.nim_meaning.specs.Values.{Value, Fixed, Made, Location, nothing, number_of, literal_value, Operand, At}
use Rattle.nim_meaning.specs.State.{State, text_of, is_whole}
use Rattle.nim_meaning.specs.Acts.{Outcome, On, Out as LeftBy, Does, wrong, give, onward, ◌>>=◌, branch, costs, looks}
use Rattle.nim_meaning.specs.Deeds.{Deed, carry}
use Rattle.nim_meaning.specs.Here.{Here, gives_hooked, any_hooked, form_for, is_hooked as type_hooked, act_at}
use Rattle.nim_meaning.specs.Places.{taken_by, fetched}
use Rattle.nim_meaning.specs.Shapes.{has_node, is_read, is_held, is_given, waits, waits_from, is_covered, is_last_value}
use Rattle.nim_meaning.specs.ActsOf.{path_of, read_act, ended, early_arms, receiver, looked_at, is_hooked}
use Rattle.nim_meaning.specs.ActsOf.{used, one_act, done_by, act_by, no_operands}
use Rattle.nim_meaning.specs.ActsOf.{works_on, read_acts, acts_of, aimed, ready_acts, first_acts, selected_acts, value_arms}
use Rattle.nim_meaning.specs.Waiting.{Wait, held_from}
use Rattle.nim_meaning.specs.Meaning.{at_node, at_path, destination, taking_up, carried, got_by, gets_copy, source, early, handed_by, eval, first_value, row}
use Rattle.nim_meaning.specs.Meaning.{ended as ended_there, ended_value, branch_by, branch_value, waits_of, selecting}
use Rattle.nim_meaning.specs.Aims.{Aim, Root as At_root, fresh_root, find, Ready, Evaluated, is_lent_own, operand_for, settle}
use Rattle.nim_meaning.specs.Meaning.{selected, picked_value}
use Rattle.nim_meaning.specs.Meaning.{ready_all}
use Rattle.nim_meaning.specs.Meaning as M
use Rattle.nim_meaning.specs.Runs.{is_plain_type, is_written, is_plain_value, is_plain_path, are_plain, writes_literals}
use Rattle.nim_meaning.specs.AtPoints.{Answer, answer, A_value, An_aim, The_operands, begins, at_place, Leads, AllLead, none_leads, value_leads, path_leads}
use Rattle.nim_meaning.specs.AtPoints.{Within, At_none}
use Rattle.nim_meaning.specs.AtPoints.{reads, reads_alone, works_on as works_there, calls as calls_there, paths_among}
use Rattle.nim_meaning.proofs.RowPlaces.{paths_in, within_fetched, within_got, within_handed, done_as, building_as, giving_as, literal_as}
use Rattle.nim_meaning.proofs.WaitLemmas.{not_true, plain_none, plain_value, plain_path, plain_types, written_lends, none_waits, none_held}
use Rattle.nim_meaning.proofs.AimLemmas.{lead_field, lead_element, lead_object, lead_fresh, lead_constant, some_aim, some_operands, works_alters}
use Rattle.nim_meaning.proofs.RunParts.{Part, Block, Chosen, act_makes_none, part_apart, part_same, part_gives, part_hands, part_then, part_costs, part_used}
use Rattle.nim_meaning.proofs.RunParts.{part_block}
use Rattle.nim_meaning.proofs.RunParts.{block_gives, block_then, block_ended, part_do, part_call, part_group, part_choose, chosen_last, chosen_two}
use Rattle.nim_meaning.proofs.RunParts.{chosen_picked}
use Rattle.nim_meaning.proofs.RunParts.{block_either}

-- one after another, however they are grouped
regrouped : {A B C : Type 0} (r : Res State (Outcome A)) (go : A → Does B) (rest : B → Does C) →
    then_do (then_do r (onward go)) (onward rest) ≡ then_do r (onward (λ x. go x >>= rest))
regrouped (Got (On x) s) go rest = refl
regrouped (Got (LeftBy way) s) go rest = refl
regrouped (Over status live s) go rest = refl
regrouped (Going s) go rest = refl
regrouped (Errs s) go rest = refl

module _ (raises : Raises) (E : Graph) (at_call : ℕ → ℕ → Mode) (here : Here) where
  abbrev hooked : Ty → Bool
  hooked = type_hooked here.facts

  abbrev P : (a : Answer) → (Acts → Acts) → Does (answer a) → Type 0
  P a F act = Part raises E here a F act

  abbrev B : (a : Answer) → Acts → Does (answer a) → Type 0
  B a b act = Block raises E here a b act

  abbrev Plain : Expr → Type 0
  Plain e = is_plain_value hooked e ≡ true

  abbrev PlainPath : T.Path → Type 0
  PlainPath path = is_plain_path hooked path ≡ true

  abbrev PlainArgs : Args → Type 0
  PlainArgs operands = are_plain hooked false operands ≡ true

  plain_type : (ty : Option Ty) → is_plain_type hooked ty ≡ true → is_hooked hooked at_call ty ≡ false
  plain_type None h = refl
  plain_type (Some ty) h = not_true (hooked ty) h

  -- ---- paths that are read

  look_part : (n : ℕ) (z : Path) (aim : Aim) → Leads here z aim →
      P A_value (λ r. Then (Do n Done_by (Look z)) r) (find aim >>= (λ found. at_node n Done_by (carry (fetched found))))
  look_part n z aim l = part_do raises E here n Done_by (Look z) refl (λ k e. reads e l)

  alone_part : {deed : Location → Deed Value} (path : T.Path) (aim : Aim) → has_node path ≡ false → Leads here (path_of path) aim →
      ((found : Location) → Within Value (λ l. l ≡ found) At_none (deed found)) → P A_value (λ r. r) (find aim >>= (λ found. carry (deed found)))
  alone_part path aim e l w = part_apart raises E here (λ k. reads_alone path e l w)

  -- without hooks what is read is what stands there, and isn't handed on by the plan
  as_look : (ty : Ty) (how uses : Use) (to : Option Root) (n : ℕ) (z : Path) (aim : Aim) → hooked ty ≡ false → Leads here z aim →
      P A_value (λ r. one_act n Done_by (read_act (hooked ty) how to n z) (used (hooked ty && is_held how) n r))
      (find aim >>= (λ found. at_node n Done_by (carry (got_by here.facts here.plan (destination here uses n) n (Some ty) found))))
  as_look ty how uses to n z aim e l =
      subst (λ b. P A_value (λ r. one_act n Done_by (read_act b how to n z) (used (b && is_held how) n r))
      (find aim >>= (λ found. at_node n Done_by (carry (taken_by b (form_for here.facts (Some ty)) (destination here uses n) (act_at here.plan n) found)))))
      (sym e) (look_part n z aim l)

  -- a path that is read passes its point, where it has one
  read_part : (how uses : Use) (to : Option Root) (path : T.Path) (aim : Aim) → PlainPath path → Leads here (path_of path) aim →
      P A_value (read_acts hooked at_call how to path)
      (find aim >>= (λ found. at_path path (carry
      (got_by here.facts here.plan (destination here uses (node_at path).number) (node_at path).number (T.type_at path) found))))
  read_part how uses to (T.Variable node ty place global) aim h l =
      as_look ty how uses to node.number (path_of (T.Variable node ty place global)) aim (not_true (hooked ty) h) l
  read_part how uses to (T.Fresh value) aim h l =
      let at = destination here uses (node_of value).number in
      alone_part {deed = λ found. got_by here.facts here.plan at (node_of value).number (type_of value) found} (T.Fresh value) aim refl l
      (λ found. within_got here.facts here.plan at (node_of value).number (type_of value) found (plain_value here.facts value h))
  read_part how uses to (T.Field node ty base field) aim h l =
      as_look ty how uses to node.number (path_of (T.Field node ty base field)) aim
      (not_true (hooked ty) (and_parts (not (hooked ty)) (is_plain_path hooked base) h).0) l
  read_part how uses to (T.Element node ty base index constant) aim h l =
      as_look ty how uses to node.number (path_of (T.Element node ty base index constant)) aim
      (not_true (hooked ty) (and_parts (not (hooked ty)) (is_plain_path hooked base && is_plain_value hooked index) h).0) l
  read_part how uses to (T.Deref ty base) aim h l =
      let at = destination here uses (node_at base).number in
      alone_part {deed = λ found. got_by here.facts here.plan at (node_at base).number (Some ty) found} (T.Deref ty base) aim refl l
      (λ found. within_got here.facts here.plan at (node_at base).number (Some ty) found (plain_path here.facts (T.Deref ty base) h))

  pub looked_part : (path : T.Path) (aim : Aim) → Leads here (path_of path) aim →
      P A_value (looked_at path) (find aim >>= (λ found. at_path path (carry (fetched found))))
  looked_part (T.Variable node ty place global) aim l = look_part node.number (path_of (T.Variable node ty place global)) aim l
  looked_part (T.Fresh value) aim l = alone_part {deed = fetched} (T.Fresh value) aim refl l within_fetched
  looked_part (T.Field node ty base field) aim l = look_part node.number (path_of (T.Field node ty base field)) aim l
  looked_part (T.Element node ty base index constant) aim l = look_part node.number (path_of (T.Element node ty base index constant)) aim l
  looked_part (T.Deref ty base) aim l = alone_part {deed = fetched} (T.Deref ty base) aim refl l within_fetched

  -- ---- operands that are worked on

  -- of an act whose operands have no hooks, or that writes them
  abbrev IsPlainOf : T.Act → List (Option Ty) → Type 0
  IsPlainOf (T.Doing operation) of = (any_hooked here.facts of ≡ false) ⊎ (operation ≡ O.Echo)
  IsPlainOf act of = Unit {0}

  done_part : (n : ℕ) (act : T.Act) (operands : Args) (on : Operands) (how : Use) (ty : Option Ty) (ready : List Ready) →
      gives_hooked here.facts ty ≡ false → IsPlainOf act (types_in operands) → on.alters ≡ paths_among (paths_in operands) →
      AllLead here (paths_in operands) ready →
      P A_value (λ r. Then (done_by n act operands on) r) (settle ready >>= (λ xs. at_node n Done_by (carried here n act how ty operands xs)))
  done_part n (T.Doing operation) operands on how ty ready plain h e l =
      let to = destination here how n in
      part_do raises E here n Done_by (act_by operation operands on) (act_makes_none operation operands on)
      (λ k i. works_there {deed = λ xs. row here.facts (T.Doing operation) to ty (types_in operands) xs} i
      (done_as here.facts to ty (types_in operands) operation operands on plain h e) l)
  done_part n (T.Building fields) operands on how ty ready plain h e l =
      let to = destination here how n in
      part_do raises E here n Done_by (Operate on) refl
      (λ k i. works_there {deed = λ xs. row here.facts (T.Building fields) to ty (types_in operands) xs} i
      (building_as here.facts fields to ty (types_in operands) on (paths_in operands) plain e) l)
  done_part n (T.Giving literal) operands on how ty ready plain h e l =
      let to = destination here how n in
      part_do raises E here n Done_by (Operate on) refl
      (λ k i. works_there {deed = λ xs. row here.facts (T.Giving literal) to ty (types_in operands) xs} i
      (giving_as here.facts literal to ty (types_in operands) on (paths_in operands) plain e) l)
  done_part n (T.Calling proc types) operands on how ty ready plain h e l = part_call raises E here n proc on (λ k i. calls_there n types how ty operands i e l)

  plain_of : (act : T.Act) (operands : Args) → are_plain hooked (writes_literals act) operands ≡ true → IsPlainOf act (types_in operands)
  plain_of (T.Doing O.Echo) operands h = inr refl
  plain_of (T.Doing operation) operands h = inl (plain_types here.facts operands h)
  plain_of (T.Building fields) operands h = tt
  plain_of (T.Giving literal) operands h = tt
  plain_of (T.Calling proc types) operands h = tt

  -- an operation without operands that it takes
  none_taken : {F : Acts → Acts} (ready : List Ready) (n : ℕ) (act : List Operand → Does Value) (nodes : List ℕ) → nodes ≡ [] →
      P A_value F (settle ready >>= (λ xs. at_node n Done_by (act xs))) →
      P A_value F (settle ready >>= (λ xs. at_node n Done_by (taking_up here nodes (act xs))))
  none_taken {F} ready n act nodes e f =
      subst (λ nodes. P A_value F (settle ready >>= (λ xs. at_node n Done_by (taking_up here nodes (act xs))))) (sym e) f

  -- ---- values

  handed_part : (how : Use) (n : ℕ) (ty : Option Ty) (v : Value) → gives_hooked here.facts ty ≡ false →
      P A_value (λ r. r) (carry (handed_by here.facts (destination here how n) ty v))
  handed_part how n ty v e = part_hands raises E here (within_handed here.facts (destination here how n) ty v e)

  no_value : (v : Value) → B A_value Done (give v)
  no_value v = block_gives raises E here tt

  early_chosen : (short : Short) (holds : Bool) {b : Acts} {act : Does Value} → B A_value b act →
      Chosen raises E here A_value (early_arms short b) (early short holds act)
  early_chosen And holds f = chosen_two raises E here holds f (chosen_last raises E here (no_value _))
  early_chosen Or holds f = chosen_two raises E here holds (no_value _) (chosen_last raises E here f)

  -- a value whose temporaries end with it
  pub alone : {a : Answer} {F : Acts → Acts} {act : Does (answer a)} → P a F act → B a (ended (F Done)) act
  alone f = block_ended raises E here (part_block raises E here f)

  -- a part none of whose values waits
  pub none_ended : {a : Answer} {b : Acts} (waits : List Wait) {act : Does (answer a)} → waits ≡ [] → B a b act → B a b (ended_there here waits act)
  none_ended {a} {b} waits {act} e f = subst (λ ws. B a b (ended_there here ws act)) (sym e) f

  pub alone_value : {F : Acts → Acts} (e : Expr) (uses : Use) → Plain e → P A_value F (eval e uses here) →
      B A_value (ended (F Done)) (ended_value here e uses (eval e uses here))
  alone_value e uses h f = none_ended (waits_of here e uses) (none_waits here.facts here.modes e uses h) (alone f)

  -- one of a branch
  pub alone_branch : {F : Acts → Acts} (e : Expr) (by : Use → Does Value) → Plain e → P A_value F (by Owned) →
      B A_value (ended (F Done)) (branch_value here e by)
  alone_branch {F} e by h f =
      subst (λ b. B A_value (ended (F Done)) (branch_by b here e by)) (sym (plain_value here.facts e h))
      (none_ended (waits_of here e Owned) (none_waits here.facts here.modes e Owned h) (alone f))

  -- what is selected by has no hooks
  pub plainly_selected : {a : Answer} {F : Acts → Acts} (ty : Option Ty) (x : Value) (go : Value → Does (answer a)) → gives_hooked here.facts ty ≡ false →
      P a F (go x) → P a F (selecting here ty x go)
  plainly_selected {a} {F} ty x go e f =
      subst (λ b. P a F (branch b (looks (λ world. branch (is_whole world x) (costs (length (text_of world x)) (go (Fixed (text_of world x)))) wrong)) (go x)))
      (sym e) f

  -- what doesn't wait makes no temporary
  not_waiting : {F : Acts → Acts} {act : Does Value} (b : Bool) (n : ℕ) → P A_value F act → P A_value (λ r. F (used (b && false) n r)) act
  not_waiting true n f = f
  not_waiting false n f = f

  -- a literal that is written, whether its type has hooks or not
  literal_part : (how : Use) (to : Option Root) (node : Node) (ty : Option Ty) (t : List ℕ) (uses : Use) → how ≡ Lent → uses ≡ Lent →
      P A_value (acts_of hooked at_call how to (T.Apply node ty (T.Giving (T.Characters t)) T.NoArg))
      (eval (T.Apply node ty (T.Giving (T.Characters t)) T.NoArg) uses here)
  literal_part how to node ty t uses e u =
      let act = T.Giving (T.Characters t) in
      part_then raises E here {a = The_operands []} [] none_leads (part_gives raises E here none_leads)
      (λ ready l. subst (λ w. P A_value (λ r. Then (done_by node.number act T.NoArg no_operands)
      (used (is_hooked hooked at_call ty && waits_from act w) node.number r))
      (settle ready >>= (λ xs. at_node node.number Done_by (carried here node.number act uses ty T.NoArg xs)))) (sym e)
      (not_waiting (is_hooked hooked at_call ty) node.number (part_do raises E here node.number Done_by (Operate no_operands) refl
      (λ k i. works_there {deed = λ xs. row here.facts act (destination here uses node.number) ty [] xs} i
      (literal_as here.facts t (destination here uses node.number) ty no_operands [] u refl) l))))

  -- an operand, which may be a literal that is written
  operand_part : (written : Bool) (how : Use) (to : Option Root) (value : Expr) (uses : Use) → (written ≡ true → (how ≡ Lent) × (uses ≡ Lent)) →
      (Plain value → P A_value (acts_of hooked at_call how to value) (eval value uses here)) →
      (is_written hooked written value || is_plain_value hooked value) ≡ true → P A_value (acts_of hooked at_call how to value) (eval value uses here)
  operand_part true how to (T.Apply node ty (T.Giving (T.Characters t)) T.NoArg) uses lends plain h =
      literal_part how to node ty t uses (lends refl).0 (lends refl).1
  operand_part written how to value uses lends plain h = plain h

  -- a place gets no copy of it
  no_copy : (written : Bool) (value : Expr) (how : Use) → (is_written hooked written value || is_plain_value hooked value) ≡ true →
      gets_copy here how value ≡ false
  no_copy true (T.Apply node ty (T.Giving (T.Characters t)) T.NoArg) how h = both_false (gives_hooked here.facts ty) (is_given how)
    where
      both_false : (a b : Bool) → (a && (b && false)) ≡ false
      both_false true true = refl
      both_false true false = refl
      both_false false b = refl
  no_copy written value how h = ap (λ b. b && (is_given how && is_read value)) (plain_value here.facts value h)

  -- what a path begins with: a constant, which is where it stands, or another value
  fresh_part : (value : Expr) (c : Option Literal) → constant_in value ≡ c → P A_value (acts_of hooked at_call Looked None value) (eval value Looked here) →
      P (An_aim (path_of (T.Fresh value))) (λ r. by_constant c (λ literal. r) (acts_of hooked at_call Looked None value r))
      (by_constant c (λ literal. give (At_root (Made (literal_value literal)))) (eval value Looked here
      >>= (λ v. give (fresh_root (gives_hooked here.facts (type_of value)) here.level (node_of value).number v))))
  fresh_part value None e f =
      part_then raises E here {a = A_value} {b = An_aim (path_of (T.Fresh value))} nothing tt f (λ v u. part_gives raises E here (lead_fresh here value v))
  fresh_part value (Some literal) e f =
      part_gives raises E here {a = An_aim (path_of (T.Fresh value))} (lead_constant here value literal (literal_value literal) e)

  mutual
    pub eval_part : (how : Use) (to : Option Root) (e : Expr) (uses : Use) → Plain e → P A_value (acts_of hooked at_call how to e) (eval e uses here)
    eval_part how to (T.Apply node ty act operands) uses h =
        let p = and_parts (is_plain_type hooked ty) (are_plain hooked (writes_literals act) operands) h in
        let it = some_operands here operands in
        part_then raises E here {a = The_operands (paths_in operands)} it.ready it.lead
        (ready_part (writes_literals act) (use_of at_call act) (use_of here.modes act)
        (λ w j. (written_lends here.facts at_call act w j, written_lends here.facts here.modes act w j)) 0 (receiver operands) operands p.1)
        (λ ready l. part_used raises E here (is_hooked hooked at_call ty) (waits_from act how) node.number (plain_type ty p.0)
        (none_taken ready node.number (carried here node.number act uses ty operands)
        (held_from here.facts here.modes operands (use_of here.modes act) 0)
        (none_held here.facts here.modes (writes_literals act) operands (use_of here.modes act) 0 (written_lends here.facts here.modes act) p.1)
        (done_part node.number act operands (works_on hooked at_call act 0 operands) uses ty ready
        (plain_none here.facts ty p.0) (plain_of act operands p.1) (works_alters hooked at_call act 0 operands) l)))
    eval_part how to (T.Read path) uses h =
        let it = some_aim here path in
        part_then raises E here {a = An_aim (path_of path)} it.aim it.leads (aimed_part path h)
        (λ aim l. read_part how uses to path aim h l)
    eval_part how to (T.Early node ty short left right) uses h =
        let p = and_parts (not (hooked ty)) (is_plain_value hooked left && is_plain_value hooked right) h in
        let q = and_parts (is_plain_value hooked left) (is_plain_value hooked right) p.1 in
        part_costs raises E here 1 (part_then raises E here {a = A_value} nothing tt (eval_part Owned None left Owned q.0)
        (λ x u. part_choose raises E here node.number Chooses (early_chosen short (is_true (number_of x))
        (part_block raises E here (eval_part Owned None right Owned q.1)))))
    eval_part how to (T.Choose node ty T.ByConditions parts) uses h =
        let p = and_parts (is_plain_type hooked ty) (are_plain hooked false parts) h in
        part_costs raises E here 1 (part_then raises E here {a = A_value} nothing tt
        (part_group raises E here node.number Chooses (first_part parts ty p.1))
        (λ v u. part_used raises E here (is_hooked hooked at_call ty) (waits how) node.number (plain_type ty p.0)
        (handed_part uses node.number ty v (plain_none here.facts ty p.0))))
    eval_part how to (T.Choose node ty (T.ByLabels labels) parts) uses h =
        let p = and_parts (is_plain_type hooked ty) (are_plain hooked false parts) h in
        part_costs raises E here 1 (part_then raises E here {a = A_value} nothing tt (selected_part node.number labels parts ty p.1)
        (λ v u. part_used raises E here (is_hooked hooked at_call ty) (waits how) node.number (plain_type ty p.0)
        (handed_part uses node.number ty v (plain_none here.facts ty p.0))))

    pub aimed_part : (path : T.Path) → PlainPath path → P (An_aim (path_of path)) (aimed hooked at_call path) (M.aimed path here)
    aimed_part (T.Variable node ty place global) h = part_gives raises E here (begins (at_place global))
    aimed_part (T.Fresh value) h = fresh_part value (constant_in value) refl (eval_part Looked None value Looked h)
    aimed_part (T.Field node ty base field) h =
        let p = and_parts (not (hooked ty)) (is_plain_path hooked base) h in
        let it = some_aim here base in
        part_then raises E here {a = An_aim (path_of base)} it.aim it.leads (aimed_part base p.1)
        (λ aim l. part_gives raises E here (lead_field here base field aim l))
    aimed_part (T.Element node ty base index constant) h =
        let p = and_parts (not (hooked ty)) (is_plain_path hooked base && is_plain_value hooked index) h in
        let q = and_parts (is_plain_path hooked base) (is_plain_value hooked index) p.1 in
        let it = some_aim here base in
        part_then raises E here {a = An_aim (path_of base)} it.aim it.leads (aimed_part base q.0)
        (λ aim l. part_then raises E here {a = A_value} nothing tt (eval_part Owned None index Owned q.1)
        (λ z u. part_gives raises E here (lead_element here base constant (number_of z) aim l)))
    aimed_part (T.Deref ty base) h =
        let it = some_aim here base in
        part_then raises E here {a = An_aim (path_of base)} it.aim it.leads
        (aimed_part base (and_parts (not (hooked ty)) (is_plain_path hooked base) h).1) (λ aim l. part_gives raises E here (lead_object here base aim l))

    pub ready_part : (written : Bool) (uses hows : ℕ → Use) → (written ≡ true → (j : ℕ) → (uses j ≡ Lent) × (hows j ≡ Lent)) → (i : ℕ) (to : Option Root)
        (args : Args) → are_plain hooked written args ≡ true →
        P (The_operands (paths_in args)) (ready_acts hooked at_call uses i to args) (ready_all args hows i here)
    ready_part written uses hows lends i to T.NoArg h = part_gives raises E here none_leads
    ready_part written uses hows lends i to (T.ByValue value rest) h =
        let p = and_parts (is_written hooked written value || is_plain_value hooked value) (are_plain hooked written rest) h in
        let more = some_operands here rest in
        subst (λ b. P (The_operands (None ∷ paths_in rest)) (λ r. acts_of hooked at_call (uses i) to value (ready_acts hooked at_call uses (suc i) to rest r))
        (branch b (source value here >>= (λ location. ready_all rest hows (suc i) here >>= (λ ready. give (Evaluated (At location) ∷ ready))))
        (eval value (hows i) here >>= (λ v. ready_all rest hows (suc i) here
        >>= (λ ready. give (Evaluated (operand_for (is_lent_own here.facts (hows i) value) here.level (node_of value).number v) ∷ ready))))))
        (sym (no_copy written value (hows i) p.0))
        (part_then raises E here {a = A_value} nothing tt
        (operand_part written (uses i) to value (hows i) (λ e. lends e i) (λ g. eval_part (uses i) to value (hows i) g) p.0)
        (λ v u. part_then raises E here {a = The_operands (paths_in rest)} more.ready more.lead (ready_part written uses hows lends (suc i) to rest p.1)
        (λ ready l. part_gives raises E here
        (value_leads (is_lent_own here.facts (hows i) value) (node_of value).number v l))))
    ready_part written uses hows lends i to (T.ByPath path rest) h =
        let p = and_parts (is_plain_path hooked path) (are_plain hooked written rest) h in
        let it = some_aim here path in
        let more = some_operands here rest in
        part_then raises E here {a = An_aim (path_of path)} it.aim it.leads (aimed_part path p.0)
        (λ aim m. part_then raises E here {a = The_operands (paths_in rest)} more.ready more.lead (ready_part written uses hows lends (suc i) to rest p.1)
        (λ ready l. part_gives raises E here (path_leads m l)))

    first_part : (parts : Args) (ty : Option Ty) → PlainArgs parts → B A_value (first_acts hooked at_call parts) (first_value parts ty here)
    first_part T.NoArg ty h = no_value _
    first_part (T.ByPath path rest) ty h = no_value _
    first_part (T.ByValue last T.NoArg) ty h =
        let p = (and_parts (is_plain_value hooked last) true h).0 in
        alone_branch last (λ how. eval last how here) p (eval_part Owned None last Owned p)
    first_part (T.ByValue condition (T.ByPath path rest)) ty h = no_value _
    first_part (T.ByValue condition (T.ByValue value rest)) ty h =
        let behind = is_plain_value hooked value && are_plain hooked false rest in
        let p = and_parts (is_plain_value hooked condition) behind h in
        let q = and_parts (is_plain_value hooked value) (are_plain hooked false rest) p.1 in
        block_then raises E here {a = A_value} nothing tt
        (part_group raises E here (node_of condition).number Asks (alone_value condition Owned p.0 (eval_part Owned None condition Owned p.0)))
        (λ x u. block_either raises E here (node_of condition).number Decides (is_true (number_of x))
        (alone_branch value (λ how. eval value how here) q.0 (eval_part Owned None value Owned q.0))
        (first_part rest ty q.1))

    selected_part : (n : ℕ) (labels : List (List Label)) (parts : Args) (ty : Option Ty) → PlainArgs parts →
        P A_value (selected_acts hooked at_call n labels parts) (selected n labels parts ty here)
    selected_part n labels T.NoArg ty h = part_gives raises E here tt
    selected_part n labels (T.ByValue selector values) ty h =
        let p = and_parts (is_plain_value hooked selector) (are_plain hooked false values) h in
        part_then raises E here {a = A_value} nothing tt (eval_part Looked None selector Looked p.0)
        (λ x u. plainly_selected (type_of selector) x
        (λ x. at_node n Chooses (picked_value (is_covered (type_of selector)) labels values x ty here)) (plain_value here.facts selector p.0)
        (part_choose raises E here n Chooses (value_chosen (is_covered (type_of selector)) labels values x ty p.1)))
    selected_part n labels (T.ByPath path values) ty h =
        let p = and_parts (is_plain_path hooked path) (are_plain hooked false values) h in
        let it = some_aim here path in
        part_then raises E here {a = An_aim (path_of path)} it.aim it.leads (aimed_part path p.0)
        (λ aim l. part_same raises E here
        (λ s. regrouped (find aim s) (λ found. at_path path (carry (fetched found)))
        (λ x. selecting here (T.type_at path) x (λ x. at_node n Chooses (picked_value (is_covered (T.type_at path)) labels values x ty here))))
        (part_then raises E here {a = A_value} nothing tt (looked_part path aim l)
        (λ x u. plainly_selected (T.type_at path) x
        (λ x. at_node n Chooses (picked_value (is_covered (T.type_at path)) labels values x ty here)) (plain_path here.facts path p.0)
        (part_choose raises E here n Chooses (value_chosen (is_covered (T.type_at path)) labels values x ty p.1)))))

    value_chosen : (covered : Bool) (labels : List (List Label)) (values : Args) (x : Value) (ty : Option Ty) → PlainArgs values →
        Chosen raises E here A_value (value_arms hooked at_call covered labels values) (picked_value covered labels values x ty here)
    value_chosen covered labels T.NoArg x ty h = chosen_last raises E here (no_value _)
    value_chosen covered labels (T.ByPath path rest) x ty h = chosen_last raises E here (no_value _)
    value_chosen covered [] (T.ByValue value rest) x ty h =
        let p = (and_parts (is_plain_value hooked value) (are_plain hooked false rest) h).0 in
        chosen_last raises E here (alone_branch value (λ how. eval value how here) p (eval_part Owned None value Owned p))
    value_chosen covered (these ∷ labels) (T.ByValue value rest) x ty h =
        let p = and_parts (is_plain_value hooked value) (are_plain hooked false rest) h in
        chosen_picked raises E here these x (covered && is_last_value rest)
        (alone_branch value (λ how. eval value how here) p.0 (eval_part Owned None value Owned p.0))
        (value_chosen covered labels rest x ty p.1)

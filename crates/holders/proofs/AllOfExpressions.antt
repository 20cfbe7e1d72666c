-- All expressions, by induction.
use Rattle.std.proofs.Common.{◌≡◌, refl, sym, ap, subst, ◌∙◌, ℕ, suc, Bool, true, false, inl, inr, ◌⊎◌, List, [], ◌∷◌, Option, Some, None}
use Rattle.std.specs.Prelude.{◌&&◌}
use Rattle.std.proofs.lemmas.Bool.{false≢true, and_parts, and_left, and_right}
use Rattle.std.proofs.lemmas.Option.{none-some, same_Some}
use Rattle.nim_types.specs.Types.{Ty, Facts}
use Rattle.nim_types.specs.Forms.{plain}
use Rattle.nim_program.specs.declared.expr.Node.{Node}
use Rattle.nim_program.specs.declared.operation.Use.{Use}
use Rattle.nim_program.specs.declared.operation.Use.TheVariants.{Owned, Given as ToPlace, Held, Lent, Looked}
use Rattle.nim_program.specs.declared.operation.Operation.{Operation}
use Rattle.nim_program.specs.declared.program.Mode.{Mode}
use Rattle.nim_program.specs.declared.program.Mode.TheVariants as M
use Rattle.nim_program.specs.Folds.{if_constant}
use Rattle.nim_program.specs.Program.{Doing, Building, Giving, Calling, Literal, Number as ANumber, Characters, NoObject, PartsOf, ElementsOf}
use Rattle.nim_program.specs.Program.{ByConditions, ByLabels, Expr, Apply, Read, Early, Choose, Path, Variable, Fresh, Field, Element, Deref}
use Rattle.nim_program.specs.Program.{Args, NoArg, ByValue, ByPath, type_of, type_at, node_of, types_in, constant_in}
use Rattle.nim_program.specs.Kinds.{kind_of, kind_if, is_bool, is_int, is_of, is_there, is_constant, field_at, element_of, object_of, same_value}
use Rattle.nim_program.specs.Fitting.{fits, places_in, early_fits, chooser_fits, conditions_fit}
use Rattle.nim_program.specs.Uses.{use_of, use_by, use_for}
use Rattle.nim_program.specs.Typed.{is_typed, is_typed_path, are_typed, act_fits, are_placed, may_take_all, is_read, is_whole, is_fresh, is_selector}
use Rattle.nim_program.specs.Typed.{choice_is_placed, behind_first}
use Rattle.nim_program.specs.Scopes as scopes
use Rattle.nim_meaning.specs.Values.{literal_value}
use Rattle.nim_meaning.specs.Marks.{Member, Distinct}
use Rattle.nim_meaning.specs.Here.{Here, gives_hooked, form_for}
use Rattle.nim_meaning.specs.Waiting.{wait_if}
use Rattle.nim_meaning.specs.Shapes.{has_node, is_read as is_node, is_given}
use Rattle.nim_meaning.specs.Steps.{gets_copy}
use Rattle.holders.specs.Territory.{Owner}
use Rattle.holders.proofs.Owning.{distinct_first, distinct_second}
use Rattle.holders.specs.Asked.{Limits, Simple, IfSimple, ActAsked, Asked, AskedAt, AllAsked}
use Rattle.holders.specs.Evaluating.{value_nodes, path_nodes, operand_nodes, waits_itself, Bare, Lasts, AllLast}
use Rattle.holders.specs.Claimed.{ValueSo, AimSo, ReadySo}
use Rattle.holders.proofs.Claims.{asked_type, asked_at}
use Rattle.holders.proofs.Constants.{not_hooked, bool_type, int_type}
use Rattle.holders.proofs.FormKinds.{same_type}
use Rattle.holders.proofs.Aiming.{no_object, variable_so, field_so, element_so, fresh_so}
use Rattle.holders.proofs.OperandKinds.{Regular, AllRegular, no_hooks, no_own}
use Rattle.holders.proofs.OperandParts.{none_so, value_then, path_then, value_last}
use Rattle.holders.proofs.OperandCopies.{value_copied}
use Rattle.holders.proofs.RowsOfOperands.{takes_held}
use Rattle.holders.proofs.WholeOperations.{operation_so}
use Rattle.holders.proofs.PathsRead.{read_so, early_so}
use Rattle.holders.proofs.GivingLiterals.{TextForm, giving_so}
use Rattle.holders.proofs.Choices.{AllParts, Conditions}
use Rattle.holders.proofs.Cases.{conditions_so, labels_so, SelectorSo}
use Rattle.holders.specs.Claimed.{known_at}
use Rattle.holders.proofs.OperandCounts.{all_last, operands_last}

-- ---- what typing says

is_bool_plain : (facts : Facts) (ty : Ty) → Simple facts ty → is_bool (kind_of facts ty) ≡ true → form_for facts (Some ty) ≡ plain
is_bool_plain facts ty simple e = bool_type facts (Some ty) simple e

-- a path that is read has a node
read_node : (facts : Facts) (path : Path) → is_read facts path ≡ true → has_node path ≡ true
read_node facts (Variable node ty place global) e = refl
read_node facts (Fresh value) e = e
read_node facts (Field node ty base field) e = refl
read_node facts (Element node ty base index constant) e = refl
read_node facts (Deref ty base) e = absurd (false≢true e)

module _ (here : Here) (scope : scopes.Here) (limits : Limits) (root : (global : Bool) → ℕ → ℕ) (first places : ℕ) (os : List Owner)
    (OfCall : ℕ → Args → Type 0) where
  abbrev known : scopes.Here
  known = known_at here scope

  abbrev Asks : Expr → Type 0
  Asks e = Asked here.facts limits OfCall e

  abbrev AsksAt : Path → Type 0
  AsksAt path = AskedAt here.facts limits OfCall path

  abbrev AsksAll : Args → Type 0
  AsksAll args = AllAsked here.facts limits OfCall args

  abbrev Value_so : Expr → Use → Type 0
  Value_so e how = ValueSo here known limits root first places os e how

  abbrev Aim_so : Path → Type 0
  Aim_so path = AimSo here known limits root first places os path

  abbrev Ready_so : ((position : ℕ) → Use) → Args → ℕ → Type 0
  Ready_so uses args i = ReadySo here known limits root first places os uses args i

  -- what is shown elsewhere: constants have their forms; operations that take what waits; calls
  pub record Elsewhere : Type 0 where
    pub constants : (ty : Ty) (literal : Literal) → Simple here.facts ty → is_constant here.facts ty literal ≡ true →
        Bare (form_for here.facts (Some ty)) (literal_value literal)
    pub texts : (ty : Ty) (t : List ℕ) → Simple here.facts ty → is_constant here.facts ty (Characters t) ≡ true → TextForm (form_for here.facts (Some ty))
    pub taken : (node : Node) (ty : Option Ty) (operation : Operation) (operands : Args) (how : Use) → takes_held operation ≡ true → IfSimple here.facts ty →
        ActAsked here.facts limits OfCall (Doing operation) operands → AsksAll operands → AllRegular here.facts operands →
        fits here.facts operation ty (types_in operands) ≡ true → are_placed (places_in operation) operands ≡ true →
        Distinct (node.number ∷ operand_nodes operands) → Ready_so (λ j. use_by operation) operands 0 → Value_so (Apply node ty (Doing operation) operands) how
    pub built : (node : Node) (ty : Option Ty) (fields : List ℕ) (operands : Args) (how : Use) → IfSimple here.facts ty → AsksAll operands →
        AllRegular here.facts operands →
        act_fits known ty (Building fields) operands ≡ true → Distinct (node.number ∷ operand_nodes operands) → Ready_so (λ j. Held) operands 0 →
        Value_so (Apply node ty (Building fields) operands) how
    pub called : (node : Node) (ty : Option Ty) (proc : ℕ) (types : List Ty) (operands : Args) (how : Use) → IfSimple here.facts ty →
        ActAsked here.facts limits OfCall (Calling proc types) operands → AsksAll operands → AllRegular here.facts operands →
        act_fits known ty (Calling proc types) operands ≡ true → are_typed known operands ≡ true →
        Distinct (node.number ∷ operand_nodes operands) → Ready_so (use_of here.modes (Calling proc types)) operands 0 →
        Value_so (Apply node ty (Calling proc types) operands) how

  type_here : (e : Expr) → Asks e → IfSimple here.facts (type_of e)
  type_here e a = asked_type here.facts limits OfCall e a

  regular : (e : Expr) → is_typed known e ≡ true → Asks e → Regular here.facts e
  regular (Apply node ty act operands) typed asked = tt
  regular (Read path) typed asked = read_node here.facts path (and_parts (is_read here.facts path) (is_typed_path known path) typed).0
  regular (Early node ty short left right) typed asked =
      not_hooked here.facts (Some ty) (is_bool_plain here.facts ty asked.0
      (and_parts (is_bool (kind_of here.facts ty)) (is_of (type_of left) (Some ty) && is_of (type_of right) (Some ty))
      (and_parts (early_fits here.facts ty (type_of left) (type_of right)) (is_typed known left && is_typed known right) typed).0).0)
  regular (Choose node ty chooser parts) typed asked = tt

  regulars : (args : Args) → are_typed known args ≡ true → AsksAll args → AllRegular here.facts args
  regulars NoArg typed asked = tt
  regulars (ByValue value rest) typed asked =
      let t = and_parts (is_typed known value) (are_typed known rest) typed in (regular value t.0 asked.0, regulars rest t.1 asked.1)
  regulars (ByPath path rest) typed asked =
      regulars rest (and_parts (is_whole here.facts path && is_typed_path known path) (are_typed known rest) typed).1 asked.1

  -- a place gets a copy of a path that is read alone
  no_copy : (e : Expr) (how : Use) → is_node e ≡ false → gets_copy here how e ≡ false
  no_copy e how q = and_right (gives_hooked here.facts (type_of e)) (is_given how && is_node e) (and_right (is_given how) (is_node e) q)

  lasts_no_copy : (e : Expr) (how : Use) → Lasts here how e → gets_copy here how e ≡ false
  lasts_no_copy e how (inl unhooked) = and_left (gives_hooked here.facts (type_of e)) (is_given how && is_node e) unhooked
  lasts_no_copy e how (inr (inl q)) =
      and_right (gives_hooked here.facts (type_of e)) (is_given how && is_node e) (and_left (is_given how) (is_node e) (ap is_given q))
  lasts_no_copy e how (inr (inr q)) =
      and_right (gives_hooked here.facts (type_of e)) (is_given how && is_node e) (and_left (is_given how) (is_node e) (ap is_given q))

  given_use : (how : Use) → is_given how ≡ true → how ≡ ToPlace
  given_use Owned e = absurd (false≢true e)
  given_use ToPlace e = refl
  given_use Held e = absurd (false≢true e)
  given_use Lent e = absurd (false≢true e)
  given_use Looked e = absurd (false≢true e)

  -- a path that is read is copied by the place, or by itself
  last_path : (uses : (position : ℕ) → Use) (path : Path) (i : ℕ) → has_node path ≡ true → Distinct (value_nodes (Read path)) → Aim_so path →
      Value_so (Read path) (uses i) → Ready_so uses (ByValue (Read path) NoArg) i
  last_path uses path i node d aim_so so = by (gets_copy here (uses i) (Read path)) refl
    where
      by : (c : Bool) → gets_copy here (uses i) (Read path) ≡ c → Ready_so uses (ByValue (Read path) NoArg) i
      by true e =
          let parts = and_parts (gives_hooked here.facts (type_at path)) (is_given (uses i) && has_node path) e in
          value_copied here known limits root first places os uses path i parts.0
          (given_use (uses i) (and_parts (is_given (uses i)) (has_node path) parts.1).0) node aim_so
      by false e = value_last here known limits root first places os uses (Read path) i e node d so

  -- the path of a value that is one
  abbrev AimFor : Expr → Type 0
  AimFor (Read path) = Aim_so path
  AimFor (Apply node ty act operands) = Unit {0}
  AimFor (Early node ty short left right) = Unit {0}
  AimFor (Choose node ty chooser parts) = Unit {0}

  last_so : (uses : (position : ℕ) → Use) (value : Expr) (i : ℕ) → is_typed known value ≡ true → Asks value → Distinct (value_nodes value) → AimFor value →
      Value_so value (uses i) → Ready_so uses (ByValue value NoArg) i
  last_so uses (Read path) i typed asked d aim so =
      last_path uses path i (read_node here.facts path (and_parts (is_read here.facts path) (is_typed_path known path) typed).0) d aim so
  last_so uses (Apply node ty act operands) i typed asked d aim so =
      let e = Apply node ty act operands in
      value_last here known limits root first places os uses e i (no_copy e (uses i) refl) (regular e typed asked) d so
  last_so uses (Early node ty short left right) i typed asked d aim so =
      let e = Early node ty short left right in
      value_last here known limits root first places os uses e i (no_copy e (uses i) refl) (regular e typed asked) d so
  last_so uses (Choose node ty chooser parts) i typed asked d aim so =
      let e = Choose node ty chooser parts in
      value_last here known limits root first places os uses e i (no_copy e (uses i) refl) (regular e typed asked) d so

  -- a constant where a path begins
  constant_so : Elsewhere → (value : Expr) → is_typed known value ≡ true → Asks value → (literal : Literal) → constant_in value ≡ Some literal →
      Bare (form_for here.facts (type_of value)) (literal_value literal)
  constant_so rest (Apply node (Some ty) (Giving l) NoArg) typed asked literal e =
      subst (λ m. Bare (form_for here.facts (Some ty)) (literal_value m)) (same_Some l literal e)
      (rest.constants ty l asked.0 (and_parts (is_constant here.facts ty l) true typed).0)
  constant_so rest (Apply node None (Giving l) NoArg) typed asked literal e = absurd (false≢true typed)
  constant_so rest (Apply node ty (Giving l) (ByValue value more)) typed asked literal e = absurd (none-some literal e)
  constant_so rest (Apply node ty (Giving l) (ByPath path more)) typed asked literal e = absurd (none-some literal e)
  constant_so rest (Apply node ty (Doing operation) operands) typed asked literal e = absurd (none-some literal e)
  constant_so rest (Apply node ty (Building fields) operands) typed asked literal e = absurd (none-some literal e)
  constant_so rest (Apply node ty (Calling proc types) operands) typed asked literal e = absurd (none-some literal e)
  constant_so rest (Read path) typed asked literal e = absurd (none-some literal e)
  constant_so rest (Early node ty short left right) typed asked literal e = absurd (none-some literal e)
  constant_so rest (Choose node ty chooser parts) typed asked literal e = absurd (none-some literal e)

  -- a fresh value with hooks waits
  waits_or_not : (node : Node) (ty : Option Ty) (b : Bool) → b ≡ true → gives_hooked here.facts ty ≡ true →
      wait_if (gives_hooked here.facts ty && b) node.number ty (form_for here.facts ty) ≡ [] → ⊥
  waits_or_not node ty b w hooks none =
      false≢true (sym (no_hooks (gives_hooked here.facts ty) b w (no_own (gives_hooked here.facts ty && b) node.number ty (form_for here.facts ty) none))
      ∙ hooks)

  fresh_waits : (value : Expr) → is_typed known value ≡ true → is_fresh value ≡ true → Asks value → constant_in value ≡ None →
      gives_hooked here.facts (type_of value) ≡ true → waits_itself here.facts here.modes value Looked ≡ [] → ⊥
  fresh_waits (Apply node ty (Giving (Characters t)) NoArg) typed fresh asked e hooks none = none-some (Characters t) (sym e)
  fresh_waits (Apply node ty (Giving l) (ByValue value more)) typed fresh asked e hooks none = false≢true typed
  fresh_waits (Apply node ty (Giving l) (ByPath path more)) typed fresh asked e hooks none = false≢true typed
  fresh_waits (Apply node ty (Giving (ANumber z)) NoArg) typed fresh asked e hooks none = none-some (ANumber z) (sym e)
  fresh_waits (Apply node ty (Giving NoObject) NoArg) typed fresh asked e hooks none = none-some NoObject (sym e)
  fresh_waits (Apply node ty (Giving (PartsOf all)) NoArg) typed fresh asked e hooks none = none-some (PartsOf all) (sym e)
  fresh_waits (Apply node ty (Giving (ElementsOf all)) NoArg) typed fresh asked e hooks none = none-some (ElementsOf all) (sym e)
  fresh_waits (Apply node ty (Doing operation) operands) typed fresh asked e hooks none = waits_or_not node ty true refl hooks none
  fresh_waits (Apply node ty (Building fields) operands) typed fresh asked e hooks none = waits_or_not node ty true refl hooks none
  fresh_waits (Apply node ty (Calling proc types) operands) typed fresh asked e hooks none = waits_or_not node ty true refl hooks none
  fresh_waits (Read path) typed fresh asked e hooks none = false≢true fresh
  fresh_waits (Early node ty short left right) typed fresh asked e hooks none =
      false≢true (sym (regular (Early node ty short left right) typed asked) ∙ hooks)
  fresh_waits (Choose node ty chooser parts) typed fresh asked e hooks none = waits_or_not node ty true refl hooks none

  -- conditions of an `if`
  conditions_plain : (parts : Args) (ty : Option Ty) → conditions_fit here.facts ty (types_in parts) ≡ true → AsksAll parts →
      Conditions here known limits root first places os parts
  conditions_plain NoArg ty typed asked = tt
  conditions_plain (ByPath path rest) ty typed asked = tt
  conditions_plain (ByValue last NoArg) ty typed asked = tt
  conditions_plain (ByValue condition (ByPath path rest)) ty typed asked = tt
  conditions_plain (ByValue condition (ByValue value rest)) ty typed asked =
      let q = and_parts (is_bool (kind_if here.facts (type_of condition)) && same_value (type_of value) ty) (conditions_fit here.facts ty (types_in rest))
      typed in (
        not_hooked here.facts (type_of condition) (bool_type here.facts (type_of condition) (type_here condition asked.0)
            (and_parts (is_bool (kind_if here.facts (type_of condition))) (same_value (type_of value) ty) q.0).0),
        conditions_plain rest ty q.1 asked.1.1,
      )

  node_of_value : (e : Expr) → Regular here.facts e → gives_hooked here.facts (type_of e) ≡ true → Member (node_of e).number (value_nodes e)
  node_of_value (Apply node ty act operands) r hooks = inl refl
  node_of_value (Read path) r hooks = inl refl
  node_of_value (Early node ty short left right) r hooks = absurd (false≢true (sym r ∙ hooks))
  node_of_value (Choose node ty chooser parts) r hooks = inl refl

  uses_lent : (proc : ℕ) (types : List Ty) (j : ℕ) → (use_of here.modes (Calling proc types) j ≡ Held) ⊎ (use_of here.modes (Calling proc types) j ≡ Lent)
  uses_lent proc types j = by (here.modes proc j)
    where
      by : (mode : Mode) → (use_for mode ≡ Held) ⊎ (use_for mode ≡ Lent)
      by M.Plain = inr refl
      by M.Sink = inl refl
      by M.Var = inr refl

  fresh_distinct : (value : Expr) → constant_in value ≡ None → Distinct (path_nodes (Fresh value)) → Distinct (value_nodes value)
  fresh_distinct value e d = subst (λ c. Distinct (if_constant c [] (value_nodes value))) e d

  operation_of : Elsewhere → (node : Node) (ty : Option Ty) (operation : Operation) (operands : Args) (how : Use) → AllRegular here.facts operands →
      IfSimple here.facts ty → ActAsked here.facts limits OfCall (Doing operation) operands → AsksAll operands →
      fits here.facts operation ty (types_in operands) ≡ true →
      are_placed (places_in operation) operands ≡ true → Distinct (node.number ∷ operand_nodes operands) → Ready_so (λ j. use_by operation) operands 0 →
      Value_so (Apply node ty (Doing operation) operands) how
  operation_of rest node ty operation operands how regular simple act asked typed placed d ready = by (takes_held operation) refl
    where
      by : (c : Bool) → takes_held operation ≡ c → Value_so (Apply node ty (Doing operation) operands) how
      by true e = rest.taken node ty operation operands how e simple act asked regular typed placed d ready
      by false e =
          operation_so here known limits root first places os OfCall node ty operation operands how e simple act asked typed placed d ready

  -- ---- by induction

  mutual
    pub value_so : Elsewhere → (e : Expr) → is_typed known e ≡ true → Asks e → Distinct (value_nodes e) → (how : Use) → Value_so e how
    value_so rest (Apply node ty (Doing operation) operands) typed asked d how =
        let t = and_parts (act_fits known ty (Doing operation) operands) (are_typed known operands) typed in
        let a = and_parts (fits here.facts operation ty (types_in operands))
        (are_placed (places_in operation) operands && may_take_all known operation operands) t.0 in
        let placed = (and_parts (are_placed (places_in operation) operands) (may_take_all known operation operands) a.1).0 in
        operation_of rest node ty operation operands how (regulars operands t.1 asked.1.1) asked.0 asked.1.0 asked.1.1 a.0 placed d
        (ready_so rest operands (λ j. use_by operation) 0 t.1 asked.1.1 d.1 (operands_last here operation ty operands asked.0 a.0 placed))
    value_so rest (Apply node ty (Building fields) operands) typed asked d how =
        let t = and_parts (act_fits known ty (Building fields) operands) (are_typed known operands) typed in
        rest.built node ty fields operands how asked.0 asked.1.1 (regulars operands t.1 asked.1.1) t.0 d
        (ready_so rest operands (λ j. Held) 0 t.1 asked.1.1 d.1 (all_last here (λ j. Held) (λ j. inl refl) operands 0))
    value_so rest (Apply node ty (Calling proc types) operands) typed asked d how =
        let t = and_parts (act_fits known ty (Calling proc types) operands) (are_typed known operands) typed in
        let uses = use_of here.modes (Calling proc types) in
        rest.called node ty proc types operands how asked.0 asked.1.0 asked.1.1 (regulars operands t.1 asked.1.1) t.0 t.1 d
        (ready_so rest operands uses 0 t.1 asked.1.1 d.1 (all_last here uses (λ j. uses_lent proc types j) operands 0))
    value_so rest (Apply node (Some ty) (Giving literal) NoArg) typed asked d how =
        let e = (and_parts (is_constant here.facts ty literal) true typed).0 in
        giving_so here known limits root first places os node (Some ty) literal how (rest.constants ty literal asked.0 e)
        (λ t q. rest.texts ty t asked.0 (subst (λ l. is_constant here.facts ty l ≡ true) q e))
    value_so rest (Apply node None (Giving literal) NoArg) typed asked d how = absurd (false≢true typed)
    value_so rest (Apply node ty (Giving literal) (ByValue value more)) typed asked d how = absurd (false≢true typed)
    value_so rest (Apply node ty (Giving literal) (ByPath path more)) typed asked d how = absurd (false≢true typed)
    value_so rest (Read path) typed asked d how =
        let t = and_parts (is_read here.facts path) (is_typed_path known path) typed in
        read_so here known limits root first places os path how (read_node here.facts path t.0) d (aim_so rest path t.1 asked d.1)
    value_so rest (Early node ty short left right) typed asked d how =
        let t = and_parts (early_fits here.facts ty (type_of left) (type_of right)) (is_typed known left && is_typed known right) typed in
        let both = and_parts (is_typed known left) (is_typed known right) t.1 in
        let f = and_parts (is_bool (kind_of here.facts ty)) (is_of (type_of left) (Some ty) && is_of (type_of right) (Some ty)) t.0 in
        let plain_is = is_bool_plain here.facts ty asked.0 f.0 in
        let right_is = ap (form_for here.facts)
        (same_type {a = type_of right} {b = Some ty} (and_parts (is_of (type_of left) (Some ty)) (is_of (type_of right) (Some ty)) f.1).1) ∙ plain_is in
        early_so here known limits root first places os node ty short left right how plain_is d
        (not_hooked here.facts (type_of left) (ap (form_for here.facts)
        (same_type {a = type_of left} {b = Some ty} (and_parts (is_of (type_of left) (Some ty)) (is_of (type_of right) (Some ty)) f.1).0) ∙ plain_is))
        (not_hooked here.facts (type_of right) right_is) right_is
        (value_so rest left both.0 asked.1.0 (distinct_first (value_nodes left) (value_nodes right) d) Owned)
        (value_so rest right both.1 asked.1.1 (distinct_second (value_nodes left) (value_nodes right) d) Owned)
    value_so rest (Choose node ty ByConditions parts) typed asked d how =
        let t = and_parts (chooser_fits here.facts ty ByConditions (types_in parts) && choice_is_placed ByConditions parts) (are_typed known parts) typed in
        let c = and_parts (conditions_fit here.facts ty (types_in parts)) (are_placed 0 parts) t.0 in
        conditions_so here known limits root first places os node ty parts how c.0 c.1 (conditions_plain parts ty c.0 asked.1) d
        (parts_so rest parts t.1 asked.1 d.1)
    value_so rest (Choose node ty (ByLabels labels) parts) typed asked d how =
        let t = and_parts (chooser_fits here.facts ty (ByLabels labels) (types_in parts) && choice_is_placed (ByLabels labels) parts) (are_typed known parts)
        typed in
        let c = and_parts (chooser_fits here.facts ty (ByLabels labels) (types_in parts)) (is_selector parts && are_placed 0 (behind_first parts)) t.0 in
        labels_so here known limits root first places os node ty labels parts how asked.0 c.0
        (and_parts (is_selector parts) (are_placed 0 (behind_first parts)) c.1).1 d
        (selector_so rest parts t.1 asked.1 d.1)

    pub aim_so : Elsewhere → (path : Path) → is_typed_path known path ≡ true → AsksAt path → Distinct (path_nodes path) → Aim_so path
    aim_so rest (Variable node ty place global) typed asked d = variable_so here known limits root first places os node ty place global asked.1 typed
    aim_so rest (Fresh value) typed asked d =
        let t = and_parts (is_fresh value && is_there (type_of value)) (is_typed known value) typed in
        let f = and_parts (is_fresh value) (is_there (type_of value)) t.0 in
        fresh_so here known limits root first places os value d (λ literal e. constant_so rest value t.1 asked literal e)
        (λ e hooks none. fresh_waits value t.1 f.0 asked e hooks none)
        (λ e. value_so rest value t.1 asked (fresh_distinct value e d) Looked)
    aim_so rest (Field node ty base field) typed asked d =
        let t = and_parts (is_of (field_at (kind_if here.facts (type_at base)) field) (Some ty)) (is_typed_path known base) typed in
        field_so here known limits root first places os node ty base field (asked_at here.facts limits OfCall base asked.1.1) asked.1.0 t.0
        (aim_so rest base t.1 asked.1.1 d)
    aim_so rest (Element node ty base index constant) typed asked d =
        let t = and_parts (is_of (element_of (kind_if here.facts (type_at base))) (Some ty) && is_int (kind_if here.facts (type_of index)))
        (is_typed_path known base && is_typed known index) typed in
        let both = and_parts (is_typed_path known base) (is_typed known index) t.1 in
        element_so here known limits root first places os node ty base index constant (asked_at here.facts limits OfCall base asked.1.0)
        (and_parts (is_of (element_of (kind_if here.facts (type_at base))) (Some ty)) (is_int (kind_if here.facts (type_of index))) t.0).0 d
        (not_hooked here.facts (type_of index) (int_type here.facts (type_of index) (asked_type here.facts limits OfCall index asked.1.1)
        (and_parts (is_of (element_of (kind_if here.facts (type_at base))) (Some ty)) (is_int (kind_if here.facts (type_of index))) t.0).1))
        (aim_so rest base both.0 asked.1.0 (distinct_first (path_nodes base) (value_nodes index) d))
        (value_so rest index both.1 asked.1.1 (distinct_second (path_nodes base) (value_nodes index) d) Owned)
    aim_so rest (Deref ty base) typed asked d =
        let t = and_parts (is_of (object_of (kind_if here.facts (type_at base))) (Some ty)) (is_typed_path known base) typed in
        absurd (no_object here.facts (type_at base) ty (asked_at here.facts limits OfCall base asked.1) t.0)

    pub ready_so : Elsewhere → (args : Args) (uses : (position : ℕ) → Use) (i : ℕ) → are_typed known args ≡ true → AsksAll args →
        Distinct (operand_nodes args) →
        AllLast here uses args i → Ready_so uses args i
    ready_so rest NoArg uses i typed asked d lasts = none_so here known limits root first places os uses i
    ready_so rest (ByPath path more) uses i typed asked d lasts =
        let t = and_parts (is_whole here.facts path && is_typed_path known path) (are_typed known more) typed in
        path_then here known limits root first places os uses path more i d
        (aim_so rest path (and_parts (is_whole here.facts path) (is_typed_path known path) t.0).1 asked.0
        (distinct_first (path_nodes path) (operand_nodes more) d))
        (ready_so rest more uses (suc i) t.1 asked.1 (distinct_second (path_nodes path) (operand_nodes more) d) lasts)
    ready_so rest (ByValue value NoArg) uses i typed asked d lasts =
        let t = and_parts (is_typed known value) true typed in
        let one = distinct_first (value_nodes value) [] d in
        last_so uses value i t.0 asked.0 one (aim_for rest value t.0 asked.0 one) (value_so rest value t.0 asked.0 one (uses i))
    ready_so rest (ByValue value (ByValue other more)) uses i typed asked d lasts =
        let t = and_parts (is_typed known value) (are_typed known (ByValue other more)) typed in
        let ns = operand_nodes (ByValue other more) in
        value_then here known limits root first places os uses value (ByValue other more) i (lasts_no_copy value (uses i) lasts.0)
        (regular value t.0 asked.0) d lasts.0 (value_so rest value t.0 asked.0 (distinct_first (value_nodes value) ns d) (uses i))
        (ready_so rest (ByValue other more) uses (suc i) t.1 asked.1 (distinct_second (value_nodes value) ns d) lasts.1)
    ready_so rest (ByValue value (ByPath path more)) uses i typed asked d lasts =
        let t = and_parts (is_typed known value) (are_typed known (ByPath path more)) typed in
        let ns = operand_nodes (ByPath path more) in
        value_then here known limits root first places os uses value (ByPath path more) i (lasts_no_copy value (uses i) lasts.0)
        (regular value t.0 asked.0) d lasts.0 (value_so rest value t.0 asked.0 (distinct_first (value_nodes value) ns d) (uses i))
        (ready_so rest (ByPath path more) uses (suc i) t.1 asked.1 (distinct_second (value_nodes value) ns d) lasts.1)

    aim_for : Elsewhere → (value : Expr) → is_typed known value ≡ true → Asks value → Distinct (value_nodes value) → AimFor value
    aim_for rest (Read path) typed asked d = aim_so rest path (and_parts (is_read here.facts path) (is_typed_path known path) typed).1 asked d.1
    aim_for rest (Apply node ty act operands) typed asked d = tt
    aim_for rest (Early node ty short left right) typed asked d = tt
    aim_for rest (Choose node ty chooser parts) typed asked d = tt

    -- each part of a choice
    parts_so : Elsewhere → (args : Args) → are_typed known args ≡ true → AsksAll args → Distinct (operand_nodes args) →
        AllParts here known limits root first places os args
    parts_so rest NoArg typed asked d = tt
    parts_so rest (ByPath path more) typed asked d =
        let t = and_parts (is_whole here.facts path && is_typed_path known path) (are_typed known more) typed in
        parts_so rest more t.1 asked.1 (distinct_second (path_nodes path) (operand_nodes more) d)
    parts_so rest (ByValue value more) typed asked d =
        let t = and_parts (is_typed known value) (are_typed known more) typed in
        let one = distinct_first (value_nodes value) (operand_nodes more) d in (
          record {
            node = λ hooks. node_of_value value (regular value t.0 asked.0) hooks;
            owned = value_so rest value t.0 asked.0 one Owned;
            held = value_so rest value t.0 asked.0 one Held;
          },
          parts_so rest more t.1 asked.1 (distinct_second (value_nodes value) (operand_nodes more) d),
        )

    selector_so : Elsewhere → (args : Args) → are_typed known args ≡ true → AsksAll args → Distinct (operand_nodes args) →
        SelectorSo here known limits root first places os args
    selector_so rest NoArg typed asked d = tt
    selector_so rest (ByValue value more) typed asked d =
        let t = and_parts (is_typed known value) (are_typed known more) typed in (
          value_so rest value t.0 asked.0 (distinct_first (value_nodes value) (operand_nodes more) d) Looked,
          parts_so rest more t.1 asked.1 (distinct_second (value_nodes value) (operand_nodes more) d),
        )
    selector_so rest (ByPath path more) typed asked d =
        let t = and_parts (is_whole here.facts path && is_typed_path known path) (are_typed known more) typed in (
          aim_so rest path (and_parts (is_whole here.facts path) (is_typed_path known path) t.0).1 asked.0
              (distinct_first (path_nodes path) (operand_nodes more) d),
          parts_so rest more t.1 asked.1 (distinct_second (path_nodes path) (operand_nodes more) d),
        )

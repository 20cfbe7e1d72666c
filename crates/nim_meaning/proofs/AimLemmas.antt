-- Where aims and operands lead, by the paths of the tree; and that there are such, whatever the tree is.
use Rattle.std.proofs.Common.{◌≡◌, refl, sym, ap, subst, ◌∙◌, append_assoc, ℕ, suc, ℤ, pos, Bool, true, false, if◌then◌else◌, List, [], ◌∷◌, Option, Some, None}
use Rattle.std.proofs.lemmas.Option.{none-some}
use Rattle.nim_types.specs.Types.{Ty}
use Rattle.nim_program.specs.declared.operation.Use.{Use}
use Rattle.nim_program.specs.declared.operation.Use.TheVariants.{Owned, Given, Held, Lent, Looked}
use Rattle.nim_program.specs.declared.program.Mode.{Mode}
use Rattle.nim_program.specs.Program as T
use Rattle.nim_program.specs.Program.{Expr, Args, Literal, node_of, type_of, constant_in}
use Rattle.nim_program.specs.Uses.{use_of}
use Rattle.nim_meaning.specs.ActTree.{Step, Field, Index, Path, Operands}
use Rattle.nim_meaning.specs.ActTree as tree
use Rattle.nim_meaning.specs.Values.{Value, Standing, Made, nothing}
use Rattle.nim_meaning.specs.Here.{Here, level_of, gives_hooked}
use Rattle.nim_meaning.specs.Aims.{Aim, Root as At_root, PartOf, ItemOf, ObjectOf, fresh_root, Ready, Evaluated, Aimed, operand_for}
use Rattle.nim_meaning.specs.Shapes.{is_text}
use Rattle.nim_meaning.specs.ActsOf.{is_literal, temporary, path_before, path_of, is_hooked, with_value, works_on, taking, reading}
use Rattle.nim_meaning.specs.Meaning.{ready_aim}
use Rattle.nim_meaning.specs.ActsOf as acts
use Rattle.nim_meaning.specs.AtPoints.{behind, Begins, at_place, at_temporary, at_literal, at_constant, Leads, begins, to_field, to_element, to_object}
use Rattle.nim_meaning.specs.AtPoints.{AllLead, none_leads, value_leads, path_leads, paths_among, LooksFor, along, at_value, in_value}
use Rattle.nim_meaning.proofs.RowPlaces.{paths_in}

behind_both : (z : Path) (step : Step) (steps : List Step) → behind (behind z (step ∷ [])) steps ≡ behind z (step ∷ steps)
behind_both z step steps = ap (λ ss. record { root = z.root; steps = ss }) (append_assoc z.steps (step ∷ []) steps)

before_step : (base : T.Path) (step : Step) (steps : List Step) → ((ss : List Step) → path_before base ss ≡ behind (path_of base) ss) →
    path_before base (step ∷ steps) ≡ behind (path_before base (step ∷ [])) steps
before_step base step steps h = h (step ∷ steps) ∙ sym (ap (λ z. behind z steps) (h (step ∷ [])) ∙ behind_both (path_of base) step steps)

-- a path before steps is the path, and then the steps
pub before : (path : T.Path) (steps : List Step) → path_before path steps ≡ behind (path_of path) steps
before (T.Variable node ty place global) steps = refl
before (T.Fresh value) steps = refl
before (T.Field node ty base field) steps = before_step base (Field field) steps (before base)
before (T.Element node ty base index constant) steps = before_step base (Index constant) steps (before base)
before (T.Deref ty base) steps = before_step base (Index None) steps (before base)

module _ (here : Here) where
  -- one step further
  pub lead_field : (base : T.Path) (field : ℕ) (aim : Aim) → Leads here (path_of base) aim → Leads here (path_before base (Field field ∷ [])) (PartOf aim field)
  lead_field base field aim h = subst (λ z. Leads here z (PartOf aim field)) (sym (before base (Field field ∷ []))) (to_field h)

  pub lead_element : (base : T.Path) (constant : Option ℤ) (index : ℤ) (aim : Aim) → Leads here (path_of base) aim →
      Leads here (path_before base (Index constant ∷ [])) (ItemOf aim index)
  lead_element base constant index aim h = subst (λ z. Leads here z (ItemOf aim index)) (sym (before base (Index constant ∷ []))) (to_element constant h)

  pub lead_object : (base : T.Path) (aim : Aim) → Leads here (path_of base) aim → Leads here (path_before base (Index None ∷ [])) (ObjectOf aim)
  lead_object base aim h = subst (λ z. Leads here z (ObjectOf aim)) (sym (before base (Index None ∷ []))) (to_object h)

  -- a value that a path begins with
  begins_fresh : (literal hook : Bool) (n : ℕ) (v : Value) → Begins here (if literal then tree.Literal n else tree.Temporary n) (fresh_root hook here.level n v)
  begins_fresh true hook n v = at_literal hook n v
  begins_fresh false hook n v = at_temporary hook n v

  pub lead_fresh : (value : Expr) (v : Value) →
      Leads here (path_of (T.Fresh value)) (fresh_root (gives_hooked here.facts (type_of value)) here.level (node_of value).number v)
  lead_fresh value v = begins (begins_fresh (is_literal value) (gives_hooked here.facts (type_of value)) (node_of value).number v)

  -- a constant that a path begins with
  constant_is_literal : (value : Expr) (literal : Literal) → constant_in value ≡ Some literal → is_literal value ≡ true
  constant_is_literal (T.Apply node ty (T.Giving literal) operands) l e = refl
  constant_is_literal value l e = absurd (none-some l e)

  pub lead_constant : (value : Expr) (literal : Literal) (v : Value) → constant_in value ≡ Some literal →
      Leads here (path_of (T.Fresh value)) (At_root (Made v))
  lead_constant value literal v e =
      begins (subst (λ b. Begins here (if b then tree.Literal (node_of value).number else temporary value) (At_root (Made v)))
      (sym (constant_is_literal value literal e)) at_constant)

  -- ---- there are such

  pub record SomeAim (path : T.Path) : Type 0 where
    pub aim : Aim
    pub leads : Leads here (path_of path) aim

  pub some_aim : (path : T.Path) → SomeAim path
  some_aim (T.Variable node ty place global) = record { aim = At_root (Standing (level_of global here) place); leads = begins (at_place global) }
  some_aim (T.Fresh value) =
      record { aim = fresh_root (gives_hooked here.facts (type_of value)) here.level (node_of value).number nothing; leads = lead_fresh value nothing }
  some_aim (T.Field node ty base field) =
      let it = some_aim base in record { aim = PartOf it.aim field; leads = lead_field base field it.aim it.leads }
  some_aim (T.Element node ty base index constant) =
      let it = some_aim base in record { aim = ItemOf it.aim (pos 0); leads = lead_element base constant (pos 0) it.aim it.leads }
  some_aim (T.Deref ty base) = let it = some_aim base in record { aim = ObjectOf it.aim; leads = lead_object base it.aim it.leads }

  pub record SomeOperands (operands : Args) : Type 0 where
    pub ready : List Ready
    pub lead : AllLead here (paths_in operands) ready

  pub some_operands : (operands : Args) → SomeOperands operands
  some_operands T.NoArg = record { ready = []; lead = none_leads }
  some_operands (T.ByValue value rest) =
      let more = some_operands rest in
      record {
        ready = Evaluated (operand_for false here.level 0 nothing) ∷ more.ready;
        lead = value_leads false 0 nothing more.lead;
      }
  some_operands (T.ByPath path rest) =
      let it = some_aim path in
      let more = some_operands rest in
      record { ready = Aimed it.aim ∷ more.ready; lead = path_leads it.leads more.lead }

  -- ---- heads of loops

  pub head_looks : (head : Args) {ready : List Ready} → AllLead here (paths_in head) ready → LooksFor here (acts.looked_up head []) (ready_aim ready)
  head_looks T.NoArg none_leads = at_value
  head_looks (T.ByValue value rest) (value_leads lent n v h) = at_value
  head_looks (T.ByPath path rest) (path_leads l h) = along l

  pub element_looks : (head : Args) (index : ℤ) {ready : List Ready} → AllLead here (paths_in head) ready →
      LooksFor here (acts.looked_up head (Index None ∷ [])) (ItemOf (ready_aim ready) index)
  element_looks T.NoArg index none_leads = in_value
  element_looks (T.ByValue value rest) index (value_leads lent n v h) = in_value
  element_looks (T.ByPath path rest) index (path_leads {aim = aim} l h) = along (lead_element path None index aim l)

-- ---- what an operation works on

module _ (hooked : Ty → Bool) (at_call : ℕ → ℕ → Mode) where
  taking_alters : (hook : Bool) (e : Expr) (on : Operands) → (if hook then taking (temporary e) on else on).alters ≡ on.alters
  taking_alters true e on = refl
  taking_alters false e on = refl

  reading_alters : (literal hook : Bool) (e : Expr) (on : Operands) →
      (if literal then on else if hook then reading (temporary e) on else on).alters ≡ on.alters
  reading_alters true hook e on = refl
  reading_alters false true e on = refl
  reading_alters false false e on = refl

  value_alters : (how : Use) (e : Expr) (on : Operands) → (with_value hooked at_call how e on).alters ≡ on.alters
  value_alters Held e on = taking_alters (is_hooked hooked at_call (type_of e)) e on
  value_alters Lent e on = reading_alters (is_text e) (is_hooked hooked at_call (type_of e)) e on
  value_alters Owned e on = refl
  value_alters Given e on = refl
  value_alters Looked e on = refl

  -- the paths of operands by path
  pub works_alters : (act : T.Act) (i : ℕ) (operands : Args) → (works_on hooked at_call act i operands).alters ≡ paths_among (paths_in operands)
  works_alters act i T.NoArg = refl
  works_alters act i (T.ByValue value rest) =
      value_alters (use_of at_call act i) value (works_on hooked at_call act (suc i) rest) ∙ works_alters act (suc i) rest
  works_alters act i (T.ByPath path rest) = ap (λ zs. path_of path ∷ zs) (works_alters act (suc i) rest)

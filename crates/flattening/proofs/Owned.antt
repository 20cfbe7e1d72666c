-- What is found at the numbers of a part: the types of its values, and of where its paths lead.
use Rattle.std.proofs.Common.{◌≡◌, ℕ, suc, ◌+◌, ◌<◌, ◌≤◌, ℤ, Bool, true, false, List, [], ◌∷◌, ◌++◌, Option, Some, None, refl, sym, ap, ap₂, ◌∙◌, arith}
use Rattle.std.proofs.Common.{subst}
use Rattle.std.specs.Prelude.{if◌then◌else◌, ◌&&◌, ◌||◌, nat_eq}
use Rattle.std.proofs.lemmas.Bool.{both_ways, and_from, or_left, or_right, eq-eqb}
use Rattle.nim_types.specs.Types.{Ty, int, Facts, same}
use Rattle.nim_types.specs.Table.{type_at as type_at_number}
use Rattle.nim_types.proofs.ForCallers.{same_refl}
use Rattle.nim_program.specs.declared.expr.Node.{Node}
use Rattle.nim_program.specs.declared.operation.Use.{Use}
use Rattle.nim_program.specs.declared.operation.Use.TheVariants as U
use Rattle.nim_program.specs.declared.program.Mode.{Mode}
use Rattle.nim_program.specs.Program.{Literal, Label, Declared, Each, ByConditions, ByLabels, Act, Building, Expr, Apply, Read, Early, Choose}
use Rattle.nim_program.specs.Program.{Path, Fresh, Field, Element, Deref, Args, NoArg, ByValue, ByPath, type_of, type_at, node_of, node_at, constant_in}
use Rattle.nim_program.specs.Program.{is_written}
use Rattle.nim_program.specs.Folds.{if_constant, begun_by}
use Rattle.nim_program.specs.Kinds.{is_there}
use Rattle.nim_program.specs.Uses.{use_of}
use Rattle.nim_meaning.specs.Here.{is_hooked, gives_hooked}
use Rattle.nim_meaning.specs.Shapes.{has_node}
use Rattle.flat_code.specs.declared.place.PlaceKind.{PlaceKind}
use Rattle.flat_code.specs.declared.place.PlaceKind.TheVariants as K
use Rattle.flat_code.specs.declared.place.FlatPlace.{FlatPlace}
use Rattle.flat_code.specs.Scene.{Known}
use Rattle.flat_code.specs.Fits.{is_value, is_location, is_standing, place_named, place_type, type_by_kind, if_type_of, if_kind}
use Rattle.flat_code.specs.Leads.{place_hooked}
use Rattle.flat_code.specs.Waits.{is_node, any_waits, if_waits}
use Rattle.flattening.specs.ExprLines.{is_lent_at}
use Rattle.flattening.specs.Formed.{IsListed, IfListed}
use Rattle.flattening.specs.Numbering.{type_number, number_or, own_width, width, width_at, widths, arm_count, looked_from, selector_from, behind_selector}
use Rattle.flattening.specs.Places.{place, temporary, value_at, location, selector_place, lent_place, expr_places, path_places, operand_places, part_places}
use Rattle.flattening.specs.Places.{loop_places}
use Rattle.flattening.specs.Places.{kind_of_path, waits_by, element_kind}
use Rattle.flattening.proofs.LentPlaces.{owned_list}
use Rattle.flattening.proofs.Numbered.{named_here, named_past, named_before, named_behind, named_neither, other_number, Owns, owns_first, owns_second}
use Rattle.flattening.proofs.Numbered.{owns_later}
use Rattle.flattening.proofs.Numbered.{owns_inner}
use Rattle.flattening.proofs.PlaceNumbers.{value_number, location_number, selector_number, selector_begins, lent_number, expr_numbers, path_numbers}
use Rattle.flattening.proofs.PlaceNumbers.{operand_numbers, part_numbers}
use Rattle.flattening.proofs.Widths.{same_width, read_width, some_width, some_width_at}

never : {A : Type 0} → false ≡ true → A
never e = absurd (both_ways false refl e)

pub selector_later : (parts : Args) (s : ℕ) → s ≤ selector_from parts s
selector_later NoArg s = omega arith
selector_later (ByValue value rest) s = omega arith
selector_later (ByPath path rest) s = omega arith

-- the kind of a location that may be written or not
abbrev pub kind_by : Bool → PlaceKind
kind_by b = if b then K.Location else K.Within

module _ (known : Known) (modes : (proc position : ℕ) → Mode) (whole : List FlatPlace) where
  abbrev types : List Ty
  types = known.types

  abbrev facts : Facts
  facts = known.facts

  abbrev pub value : ℕ → Option Ty
  value t = if_type_of known (place_named is_value whole t)

  abbrev pub led : ℕ → Option Ty
  led t = if_type_of known (place_named is_location whole t)

  abbrev pub may_write : ℕ → Bool
  may_write t = if_kind is_standing (place_named is_location whole t)

  -- where an expression begins, a location may be that of its value, which is lent
  abbrev pub Owned : Expr → (t : ℕ) → Type 0
  Owned e t = Owns whole (expr_places types facts modes e t) t (suc t) (t + width e)

  abbrev pub PathOwned : Path → (t : ℕ) → Type 0
  PathOwned path t = Owns whole (path_places types facts modes path t) t t (t + width_at path)

  -- operands from a position on
  abbrev pub AllOwned : Act → Args → (uses : (position : ℕ) → Use) → (position t : ℕ) → Type 0
  AllOwned act args uses i t = Owns whole (operand_places types facts modes act args uses i t) t t (t + widths args)

  -- parts that aren't lent
  abbrev pub PartsOwned : Args → (t : ℕ) → Type 0
  PartsOwned args t = Owns whole (part_places types facts modes args t) t t (t + widths args)

  -- a selector's value, where it is read in place, and the parts of its choice
  abbrev pub ChoiceOwned : Args → (s : ℕ) → Type 0
  ChoiceOwned parts s = Owns whole (selector_place types facts modes parts s ++ part_places types facts modes parts (selector_from parts s)) s s
      (behind_selector parts s)

  -- ---- what is found

  -- the temporary of a value
  abbrev value_of : (may_wait : Bool) → Node → Ty → (t : ℕ) → FlatPlace
  value_of may node ty t = place types facts modes (waits_by may (is_hooked facts ty) node.number) t node.at K.Temp ty

  pub value_there : {l hi : ℕ} (may : Bool) (node : Node) (ty : Ty) (t : ℕ) (rest : List FlatPlace) → t < hi → IsListed types ty →
      Owns whole (value_of may node ty t ∷ rest) t l hi → value t ≡ Some ty
  value_there may node ty t rest less listed owns =
      ap (if_type_of known) (owns.values t (omega arith) less ∙ named_here is_value (value_of may node ty t) rest refl) ∙ ap Some listed

  pub value_found : {l hi : ℕ} (node : Node) (ty : Option Ty) (t : ℕ) (rest : List FlatPlace) → t < hi → IfListed types ty →
      place_named is_value rest t ≡ None → Owns whole (value_at types facts modes true node ty t ++ rest) t l hi → value t ≡ ty
  value_found node None t rest less listed none owns = ap (if_type_of known) (owns.values t (omega arith) less ∙ none)
  value_found node (Some ty) t rest less listed none owns = value_there true node ty t rest less listed owns

  pub there_found : {l hi : ℕ} (may : Bool) (node : Node) (ty : Option Ty) (t : ℕ) (rest : List FlatPlace) → t < hi → IfListed types ty → is_there ty ≡ true →
      Owns whole (value_at types facts modes may node ty t ++ rest) t l hi → value t ≡ ty
  there_found may node None t rest less listed there owns = never there
  there_found may node (Some ty) t rest less listed there owns = value_there may node ty t rest less listed owns

  -- and whether its type has hooks
  pub hooked_there : {l hi : ℕ} (may : Bool) (node : Node) (ty : Ty) (t : ℕ) (rest : List FlatPlace) → t < hi → IsListed types ty →
      Owns whole (value_of may node ty t ∷ rest) t l hi → place_hooked known (place_named is_value whole t) ≡ is_hooked facts ty
  hooked_there may node ty t rest less listed owns =
      ap (place_hooked known) (owns.values t (omega arith) less ∙ named_here is_value (value_of may node ty t) rest refl) ∙ ap (is_hooked facts) listed

  pub hooked_found : {l hi : ℕ} (may : Bool) (node : Node) (ty : Option Ty) (t : ℕ) (rest : List FlatPlace) → t < hi → IfListed types ty →
      place_named is_value rest t ≡ None → Owns whole (value_at types facts modes may node ty t ++ rest) t l hi →
      place_hooked known (place_named is_value whole t) ≡ gives_hooked facts ty
  hooked_found may node None t rest less listed none owns = ap (place_hooked known) (owns.values t (omega arith) less ∙ none)
  hooked_found may node (Some ty) t rest less listed none owns = hooked_there may node ty t rest less listed owns

  -- ---- what waits

  -- the value of a node waits there, in a temporary
  pub record Awaits (t node : ℕ) (ty : Option Ty) : Type 0 where
    pub held : if_waits node (place_named is_value whole t) ≡ true
    pub some : any_waits (λ p. true) node whole ≡ true
    pub ends : any_waits (λ p. same (place_type known p) (type_at_number types (number_or types ty))) node whole ≡ true

  -- a place that is found by its number is one of the list
  among : (holds : FlatPlace → Bool) (node t : ℕ) (ps : List FlatPlace) (p : FlatPlace) → place_named is_value ps t ≡ Some p →
      is_node node p.waits && holds p ≡ true → any_waits holds node ps ≡ true
  among holds node t [] p e h = absurd cc
  among holds node t (q ∷ ps) p e h = by (nat_eq q.number t && is_value q.kind) e (λ f. among holds node t ps p f h)
    where
      the_one : Some q ≡ Some p → q ≡ p
      the_one e = cc

      by : (b : Bool) → (if b then Some q else place_named is_value ps t) ≡ Some p →
          (place_named is_value ps t ≡ Some p → any_waits holds node ps ≡ true) → (is_node node q.waits && holds q) || any_waits holds node ps ≡ true
      by true e rest = or_left _ _ (subst (λ (r : FlatPlace). is_node node r.waits && holds r ≡ true) (sym (the_one e)) h)
      by false e rest = or_right _ _ (rest e)

  pub waits_found : {l hi : ℕ} (may : Bool) (node : Node) (ty : Option Ty) (t : ℕ) (rest : List FlatPlace) → t < hi → may ≡ true →
      gives_hooked facts ty ≡ true → Owns whole (value_at types facts modes may node ty t ++ rest) t l hi → Awaits t node.number ty
  waits_found may node None t rest less is hooked owns = never hooked
  waits_found may node (Some ty) t rest less is hooked owns =
      let found = owns.values t (omega arith) less ∙ named_here is_value (value_of may node ty t) rest refl in
      let waits : is_node node.number (waits_by may (is_hooked facts ty) node.number) ≡ true =
      ap₂ (λ a b. is_node node.number (waits_by a b node.number)) is hooked ∙ eq-eqb node.number node.number refl in
      record {
        held = ap (if_waits node.number) found ∙ waits;
        some = among (λ p. true) node.number t whole (value_of may node ty t) found (and_from _ _ waits refl);
        ends = among (λ p. same (place_type known p) (type_at_number types (type_number types ty))) node.number t whole (value_of may node ty t) found
            (and_from _ _ waits (same_refl (type_at_number types (type_number types ty))));
      }

  by_kind : (b : Bool) → is_location (kind_by b) ≡ true
  by_kind true = refl
  by_kind false = refl

  pub no_value : (b : Bool) → is_value (kind_by b) ≡ false
  no_value true = refl
  no_value false = refl

  standing : (b : Bool) → is_standing (kind_by b) ≡ b
  standing true = refl
  standing false = refl

  kept_type : (b : Bool) (ty : Ty) → type_by_kind (kind_by b) ty ≡ ty
  kept_type true ty = refl
  kept_type false ty = refl

  pub led_found : {v hi : ℕ} (b : Bool) (node : Node) (ty : Ty) (t : ℕ) (rest : List FlatPlace) → t < hi → IsListed types ty →
      Owns whole (place types facts modes None t node.at (kind_by b) ty ∷ rest) v t hi → (led t ≡ Some ty) × (may_write t ≡ b)
  led_found b node ty t rest less listed owns =
      let found = owns.locations t (omega arith) less
      ∙ named_here is_location (place types facts modes None t node.at (kind_by b) ty) rest (by_kind b) in (
        ap (if_type_of known) found ∙ ap Some (kept_type b _ ∙ listed),
        ap (if_kind is_standing) found ∙ standing b,
      )

  -- the number of a turn's element, and how many there are
  pub loop_found : (node : Node) (variable : Declared) (head : Args) (t hi : ℕ) (rest : List FlatPlace) → suc (suc t) < hi →
      Owns whole (loop_places types facts modes node (Each variable) head t ++ rest) t t hi →
      (value (suc t) ≡ Some int) × (value (suc (suc t)) ≡ Some int)
  loop_found node variable head t hi rest less owns =
      let element = place types facts modes None t node.at (element_kind types facts modes variable head) variable.of in
      let number = place types facts modes None (suc t) node.at K.Counter int in
      let many = place types facts modes None (suc (suc t)) node.at K.Counter int in
      let second = owns.values (suc t) (omega arith) (omega (arith, less))
      ∙ other_number is_value element (number ∷ many ∷ rest) t (suc t) refl (omega arith)
      ∙ named_here is_value number (many ∷ rest) refl in
      let third = owns.values (suc (suc t)) (omega arith) less
      ∙ other_number is_value element (number ∷ many ∷ rest) t (suc (suc t)) refl (omega arith)
      ∙ other_number is_value number (many ∷ rest) (suc t) (suc (suc t)) refl (omega arith)
      ∙ named_here is_value many rest refl in
      (ap (if_type_of known) second, ap (if_type_of known) third)

  -- the element of a turn: its value, or where it stands
  module _ (node : Node) (variable : Declared) (path : Path) (more : Args) (t hi : ℕ) (rest : List FlatPlace) (less : suc (suc t) < hi)
      (listed : IsListed types variable.of) (owns : Owns whole (loop_places types facts modes node (Each variable) (ByPath path more) t ++ rest) t t hi) where
    abbrev behind : List FlatPlace
    behind = place types facts modes None (suc t) node.at K.Counter int ∷ place types facts modes None (suc (suc t)) node.at K.Counter int ∷ rest

    abbrev element : Bool → FlatPlace
    element b = place types facts modes None t node.at (if b then kind_of_path path else K.Temp) variable.of

    pub element_value : is_hooked facts variable.of ≡ false → value t ≡ Some variable.of
    element_value unhooked = at (is_hooked facts variable.of) unhooked (owns.values t (omega arith) (omega (arith, less)))
      where
        at : (b : Bool) → b ≡ false → place_named is_value whole t ≡ place_named is_value (element b ∷ behind) t → value t ≡ Some variable.of
        at true e found = never (sym e)
        at false e found = ap (if_type_of known) (found ∙ named_here is_value (element false) behind refl) ∙ ap Some listed

    pub element_led : is_hooked facts variable.of ≡ true → (led t ≡ Some variable.of) × (may_write t ≡ is_written path)
    element_led hooked = at (is_hooked facts variable.of) hooked (owns.locations t (omega arith) (omega (arith, less)))
      where
        at : (b : Bool) → b ≡ true → place_named is_location whole t ≡ place_named is_location (element b ∷ behind) t →
            (led t ≡ Some variable.of) × (may_write t ≡ is_written path)
        at false e found = never e
        at true e found =
            let is = found ∙ named_here is_location (element true) behind (by_kind (is_written path)) in (
              ap (if_type_of known) is ∙ ap Some (kept_type (is_written path) _ ∙ listed),
              ap (if_kind is_standing) is ∙ standing (is_written path),
            )

  -- ---- what parts own

  behind_value : (may : Bool) (node : Node) (ty : Option Ty) (t : ℕ) (rest : List FlatPlace) → place_named is_location rest t ≡ None →
      place_named is_location (value_at types facts modes may node ty t ++ rest) t ≡ None
  behind_value may node None t rest e = e
  behind_value may node (Some ty) t rest e = named_past is_location (value_of may node ty t) rest t refl ∙ e

  -- where the value of an expression comes to, no location of its own is
  pub none_at_value : (e : Expr) (t : ℕ) → place_named is_location (expr_places types facts modes e t) t ≡ None
  none_at_value (Apply node ty act operands) t =
      behind_value true node ty t _
      ((operand_numbers types facts modes act operands (use_of modes act) 0 (suc t)).locations t (λ le. absurd (omega (arith, le))))
  none_at_value (Read path) t =
      behind_value (has_node path) (node_at path) (type_at path) t _
      ((path_numbers types facts modes path (suc t)).locations t (λ le. absurd (omega (arith, le))))
  none_at_value (Early node ty short left right) t =
      behind_value true node (Some ty) t _
      (named_neither is_location (expr_places types facts modes left (suc t)) (expr_places types facts modes right (suc t + width left)) t
      ((expr_numbers types facts modes left (suc t)).locations t (λ le. absurd (omega (arith, le))))
      ((expr_numbers types facts modes right (suc t + width left)).locations t (λ le. absurd (omega (arith, le)))))
  none_at_value (Choose node ty ByConditions parts) t =
      behind_value true node ty t _ ((part_numbers types facts modes parts (suc t)).locations t (λ le. absurd (omega (arith, le))))
  none_at_value (Choose node ty (ByLabels labels) parts) t =
      let s = suc t + arm_count (ByLabels labels) in
      let later = selector_later parts s in
      behind_value true node ty t _
      (named_neither is_location (selector_place types facts modes parts s) (part_places types facts modes parts (selector_from parts s)) t
      ((selector_number types facts modes {lo = s} {hi = selector_from parts s} parts s (omega arith) (omega arith)).locations t
      (λ le. absurd (omega (arith, le))))
      ((part_numbers types facts modes parts (selector_from parts s)).locations t (λ le. absurd (omega (arith, le, later)))))

  -- the location of a value that is lent, where it comes to
  abbrev Lends : Act → Use → Expr → (t : ℕ) → List FlatPlace
  Lends act how value t = lent_place types facts modes act how value t

  no_values : (act : Act) (how : Use) (value : Expr) (t n : ℕ) → place_named is_value (Lends act how value t) n ≡ None
  no_values act how value t n = by_lent (is_lent_at facts act how value)
    where
      by_type : (ty : Option Ty) → place_named is_value (temporary types facts modes (node_of value) ty K.Within t) n ≡ None
      by_type None = refl
      by_type (Some ty) = named_past is_value (place types facts modes None t (node_of value).at K.Within ty) [] n refl

      by_lent : (b : Bool) →
          place_named is_value (if b then temporary types facts modes (node_of value) (type_of value) K.Within t else []) n ≡ None
      by_lent true = by_type (type_of value)
      by_lent false = refl

  module _ (act : Act) (uses : (position : ℕ) → Use) (i : ℕ) where
    pub first_owned : (value : Expr) (rest : Args) (t : ℕ) → AllOwned act (ByValue value rest) uses i t → Owned value t
    first_owned value rest t owns =
        let w = some_width value in
        let behind = operand_numbers types facts modes act rest uses (suc i) (t + width value) in
        let lent = lent_number types facts modes {lo = t} {hi = suc t} act (uses i) value t (omega arith) (omega arith) in
        let mine = expr_places types facts modes value t in
        let others = operand_places types facts modes act rest uses (suc i) (t + width value) in record {
          values = λ n low high.
              owns.values n low (omega (arith, high))
              ∙ named_before is_value mine (Lends act (uses i) value t ++ others) n
              (named_neither is_value (Lends act (uses i) value t) others n (no_values act (uses i) value t n)
              (behind.values n (λ m. absurd (omega (arith, m, high)))));
          locations = λ n low high.
              owns.locations n (omega (arith, low)) (omega (arith, high))
              ∙ named_before is_location mine (Lends act (uses i) value t ++ others) n
              (named_neither is_location (Lends act (uses i) value t) others n (lent.locations n (λ m. low))
              (behind.locations n (λ m. absurd (omega (arith, m, high)))));
        }

    pub behind_owned : (value : Expr) (rest : Args) (t : ℕ) → AllOwned act (ByValue value rest) uses i t → AllOwned act rest uses (suc i) (t + width value)
    behind_owned value rest t owns =
        let w = some_width value in
        let mid = t + width value in
        let hi = t + width value + widths rest in
        owns_second t mid hi (omega arith) (omega arith) (omega arith) (lent_number types facts modes act (uses i) value t (omega arith) (omega (arith, w)))
        (owns_second {ys = Lends act (uses i) value t ++ operand_places types facts modes act rest uses (suc i) mid} t mid hi (omega arith) (omega arith)
        (omega arith) (expr_numbers types facts modes value t) owns)

    -- what is lent leads to a value that no place holds
    pub lent_found : (value : Expr) (rest : Args) (t : ℕ) → is_lent_at facts act (uses i) value ≡ true → is_there (type_of value) ≡ true →
        IfListed types (type_of value) → AllOwned act (ByValue value rest) uses i t → (led t ≡ type_of value) × (may_write t ≡ false)
    lent_found value rest t lent there listed owns =
        let w = some_width value in
        by_type (is_lent_at facts act (uses i) value) (type_of value) lent there listed
        (owns.locations t (omega arith) (omega (arith, w))
        ∙ named_behind is_location (expr_places types facts modes value t) _ t (none_at_value value t))
      where
        others : List FlatPlace
        others = operand_places types facts modes act rest uses (suc i) (t + width value)

        by_type : (b : Bool) (ty : Option Ty) → b ≡ true → is_there ty ≡ true → IfListed types ty →
            place_named is_location whole t
            ≡ place_named is_location ((if b then temporary types facts modes (node_of value) ty K.Within t else []) ++ others) t →
            (led t ≡ ty) × (may_write t ≡ false)
        by_type false ty lent there listed e = never lent
        by_type true None lent there listed e = never there
        by_type true (Some ty) lent there listed e =
            let found = e ∙ named_here is_location (place types facts modes None t (node_of value).at K.Within ty) others refl in
            (ap (if_type_of known) found ∙ ap Some listed, ap (if_kind is_standing) found)

    pub first_path_owned : (path : Path) (rest : Args) (t : ℕ) → AllOwned act (ByPath path rest) uses i t → PathOwned path t
    first_path_owned path rest t owns =
        let w = same_width path in
        owns_first (t + width_at path) (t + width_at path + widths rest) (omega (arith, w))
        (operand_numbers types facts modes act rest uses (suc i) (t + width_at path)) owns

    pub behind_path_owned : (path : Path) (rest : Args) (t : ℕ) → AllOwned act (ByPath path rest) uses i t → AllOwned act rest uses (suc i) (t + width_at path)
    behind_path_owned path rest t owns =
        let w = same_width path in
        owns_second t (t + width_at path) (t + width_at path + widths rest) (omega arith) (omega arith) (omega (arith, w))
        (path_numbers types facts modes path t) owns

  -- parts are operands of which none is lent
  pub parts_as_operands : (args : Args) (i t : ℕ) → PartsOwned args t → AllOwned (Building []) args (λ j. U.Owned) i t
  parts_as_operands args i t owns = subst (λ places. Owns whole places t t (t + widths args)) (sym (owned_list types facts modes args i t)) owns

  -- behind the node's own temporary
  pub behind_node : {l hi : ℕ} (may : Bool) (node : Node) (ty : Option Ty) (t hi' : ℕ) (rest : List FlatPlace) → l ≤ suc t → hi' ≤ hi →
      Owns whole (value_at types facts modes may node ty t ++ rest) t l hi → Owns whole rest (suc t) (suc t) hi'
  behind_node may node ty t hi' rest low high owns =
      owns_second t (suc t) hi' (omega arith) low high (value_number types facts modes may node ty t (omega arith) (omega arith)) owns

  -- the parts of a choice have no value at its number
  pub none_at_choice : (parts : Args) (t s : ℕ) → suc t ≤ s →
      place_named is_value (selector_place types facts modes parts s ++ part_places types facts modes parts (selector_from parts s)) t ≡ None
  none_at_choice parts t s low =
      let later = selector_later parts s in
      named_neither is_value (selector_place types facts modes parts s) (part_places types facts modes parts (selector_from parts s)) t
      ((selector_number types facts modes {lo = s} {hi = selector_from parts s} parts s (omega arith) (omega arith)).values t
      (λ le. absurd (omega (arith, le, low))))
      ((part_numbers types facts modes parts (selector_from parts s)).values t (λ le. absurd (omega (arith, le, low, later))))

  -- a choice by labels
  pub choice_owned : (node : Node) (ty : Option Ty) (labels : List (List Label)) (parts : Args) (t : ℕ) → Owned (Choose node ty (ByLabels labels) parts) t →
      ChoiceOwned parts (suc t + arm_count (ByLabels labels))
  choice_owned node ty labels parts t owns =
      let s = suc t + arm_count (ByLabels labels) in
      let e = selector_begins labels parts s in
      owns_inner s (behind_selector parts s) (omega arith) (omega arith) (omega arith)
      (behind_node true node ty t (behind_selector parts s)
      (selector_place types facts modes parts s ++ part_places types facts modes parts (selector_from parts s))
      (omega arith)
      (omega (arith, e)) owns)

  pub parts_owned : (parts : Args) (s : ℕ) → ChoiceOwned parts s → PartsOwned parts (selector_from parts s)
  parts_owned parts s owns =
      let later = selector_later parts s in
      owns_second s (selector_from parts s) (behind_selector parts s) later later (omega arith)
      (selector_number types facts modes parts s (omega arith) (omega arith)) owns

  -- the value of a selector that is read in place
  pub selector_found : (path : Path) (rest : Args) (s : ℕ) → IfListed types (type_at path) → is_there (type_at path) ≡ true → ChoiceOwned (ByPath path rest) s →
      value s ≡ type_at path
  selector_found path rest s listed there owns =
      let w = some_width_at path in
      let e = same_width path in
      there_found false (node_at path) (type_at path) s (part_places types facts modes (ByPath path rest) (looked_from path s)) (omega (arith, w, e)) listed
      there owns

  pub base_owned : (node : Node) (ty : Ty) (base : Path) (field t : ℕ) → PathOwned (Field node ty base field) t → PathOwned base (suc t)
  base_owned node ty base field t owns =
      let w = same_width base in
      owns_second t (suc t) (suc t + width_at base) (omega arith) (omega arith) (omega (arith, w))
      (location_number types facts modes (Field node ty base field) t (omega arith) (omega arith)) owns

  pub object_owned : (ty : Ty) (base : Path) (t : ℕ) → PathOwned (Deref ty base) t → PathOwned base (suc t)
  object_owned ty base t owns =
      let w = same_width base in
      owns_second t (suc t) (suc t + width_at base) (omega arith) (omega arith) (omega (arith, w))
      (location_number types facts modes (Deref ty base) t (omega arith) (omega arith)) owns

  pub row_owned : (node : Node) (ty : Ty) (base : Path) (index : Expr) (constant : Option ℤ) (t : ℕ) →
      PathOwned (Element node ty base index constant) t → PathOwned base (suc t) × Owned index (suc t + width_at base)
  row_owned node ty base index constant t owns =
      let w = same_width base in
      let both = owns_second t (suc t) (suc t + width_at base + width index) (omega arith) (omega arith) (omega (arith, w))
      (location_number types facts modes (Element node ty base index constant) t (omega arith) (omega arith)) owns in (
        owns_first (suc t + width_at base) (suc t + width_at base + width index) (omega arith)
            (expr_numbers types facts modes index (suc t + width_at base)) both,
        owns_later (suc (suc t + width_at base)) (omega arith)
            (owns_second (suc t) (suc t + width_at base) (suc t + width_at base + width index) (omega arith) (omega arith) (omega arith)
            (path_numbers types facts modes base (suc t)) both),
      )

  -- a value that a path begins with
  pub fresh_owned : (value : Expr) (t : ℕ) → constant_in value ≡ None → PathOwned (Fresh value) t → Owned value (suc t)
  fresh_owned value t none owns = owns_later (suc (suc t)) (omega arith) (by_constant (constant_in value) none owns)
    where
      by_constant : (constant : Option Literal) → constant ≡ None →
          Owns whole (location types facts modes (Fresh value) t ++ if_constant constant [] (expr_places types facts modes value (suc t))) t t
          (t + if_constant constant (own_width (begun_by constant false value)) (own_width (begun_by constant false value) + width value)) →
          Owns whole (expr_places types facts modes value (suc t)) (suc t) (suc t) (suc t + width value)
      by_constant None e owns =
          owns_second t (suc t) (suc t + width value) (omega arith) (omega arith) (omega arith)
          (location_number types facts modes (Fresh value) t (omega arith) (omega arith)) owns
      by_constant (Some literal) e owns = absurd cc

  -- a path whose value is read
  pub read_owned : (path : Path) (t : ℕ) → Owned (Read path) t → PathOwned path (suc t)
  read_owned path t owns =
      let w = read_width path in
      behind_node (has_node path) (node_at path) (type_at path) t (suc t + width_at path) (path_places types facts modes path (suc t)) (omega arith)
      (omega (arith, w)) owns

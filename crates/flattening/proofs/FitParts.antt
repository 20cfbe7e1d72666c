-- What is known of typed parts where they stand: their types are those of the table, and their temporaries have them.
use Rattle.std.proofs.Common.{◌≡◌, ℕ, suc, ◌+◌, ◌≤◌, Bool, true, false, List, [], ◌∷◌, ◌++◌, Option, Some, None, refl, sym, ap, ap₂, ◌∙◌, arith}
use Rattle.std.proofs.Common.{subst}
use Rattle.std.specs.Prelude.{◌&&◌, ◌||◌, not, ℤ, slice_get, take}
use Rattle.std.proofs.lemmas.Bool.{both_ways, and_parts}
use Rattle.nim_types.specs.Types.{Ty, Facts}
use Rattle.nim_types.proofs.ForCallers.{same_sound, same_refl}
use Rattle.nim_program.specs.declared.expr.Node.{Node}
use Rattle.nim_program.specs.declared.operation.Short.{Short}
use Rattle.nim_program.specs.declared.operation.Use.{Use}
use Rattle.nim_program.specs.declared.operation.Use.TheVariants as U
use Rattle.nim_program.specs.declared.program.Mode.{Mode}
use Rattle.nim_program.specs.Program.{Literal, Act, Doing, Building, Giving, Calling, Label, ByConditions, ByLabels, Expr, Apply, Read, Early, Choose}
use Rattle.nim_program.specs.Program.{Path, Variable, Fresh, Field, Element, Deref}
use Rattle.nim_program.specs.Program.{Args, NoArg, ByValue, ByPath, Param, Body, Proc, type_of, type_at, types_in, node_of, node_at, constant_in}
use Rattle.nim_program.specs.Folds.{if_constant, begun_by, lists, total, total_at, totals}
use Rattle.nim_program.specs.Kinds.{is_of, same_value, is_there, is_constant}
use Rattle.nim_program.specs.Scopes.{Placed, Here, look}
use Rattle.nim_program.specs.Program.{is_written}
use Rattle.nim_program.specs.Typed.{own_types, type_if, act_types, is_typed, is_typed_path, are_typed, is_whole, is_read, is_fresh, act_fits}
use Rattle.nim_program.specs.Uses.{use_for, use_of}
use Rattle.nim_meaning.specs.Here.{is_hooked, gives_hooked}
use Rattle.nim_meaning.specs.Shapes.{has_node, is_lent, is_given}
use Rattle.flat_code.specs.declared.place.FlatPlace.{FlatPlace}
use Rattle.flat_code.specs.Fits.{Taken, Signature, is_var, is_value, any_place, place_named}
use Rattle.flat_code.specs.Leads.{place_hooked}
use Rattle.flat_code.specs.Scene.{Known}
use Rattle.flat_code.specs.Shapes.{shape_of}
use Rattle.flat_code.proofs.ForCallers.{IsOf}
use Rattle.flattening.specs.ExprLines.{has_hooks, is_copied, is_lent_at}
use Rattle.flattening.specs.Formed.{IsListed, IfListed, AreListed}
use Rattle.flattening.specs.Numbering.{width, width_at, widths, arm_count, looked_from, selector_from}
use Rattle.flattening.specs.Places.{temporary, value_at, path_places, operand_places, part_places, selector_place}
use Rattle.nim_meaning.specs.LeftOut.{is_exception_type}
use Rattle.flattening.proofs.Direct.{is_characters, has_own_hooks, of_act, is_direct, is_direct_path, are_direct}
use Rattle.flattening.proofs.Fit.{Among}
use Rattle.flattening.proofs.Numbered.{Owns, owns_first, owns_second, owns_later}
use Rattle.flattening.proofs.Owned as owned
use Rattle.flattening.proofs.Owned.{kind_by}
use Rattle.flattening.proofs.Parts.{Each, apart}
use Rattle.flattening.proofs.PlaceNumbers.{expr_numbers, operand_numbers, part_numbers}
use Rattle.flattening.proofs.Widths.{same_width, read_width, some_width_at}

pub never : {A : Type 0} → false ≡ true → A
never e = absurd (both_ways false refl e)

-- ---- equal types

pub of_same : (a b : Option Ty) → is_of a b ≡ true → a ≡ b
of_same (Some s) (Some t) h = ap Some (same_sound s t h)
of_same (Some s) None h = never h
of_same None (Some t) h = never h
of_same None None h = never h

pub value_same : (a b : Option Ty) → same_value a b ≡ true → a ≡ b
value_same None None h = refl
value_same None (Some t) h = never h
value_same (Some s) b h = of_same (Some s) b h

pub turned : (a b : Option Ty) → is_of a b ≡ true → is_of b a ≡ true
turned a b h = let e = of_same a b h in ap₂ is_of (sym e) e ∙ h

pub value_turned : (a b : Option Ty) → same_value a b ≡ true → same_value b a ≡ true
value_turned a b h = let e = value_same a b h in ap₂ same_value (sym e) e ∙ h

pub itself : (ty : Option Ty) → same_value ty ty ≡ true
itself None = refl
itself (Some ty) = same_refl ty

-- both are this one
pub both_are : (a b ty : Option Ty) → a ≡ ty → b ≡ ty → same_value a b ≡ true
both_are a b ty e f = ap₂ same_value e f ∙ itself ty

some_is : (ty : Option Ty) → is_there ty ≡ true → is_of ty ty ≡ true
some_is None h = never h
some_is (Some ty) h = same_refl ty

pub both_some : (a b ty : Option Ty) → is_there ty ≡ true → a ≡ ty → b ≡ ty → is_of a b ≡ true
both_some a b ty h e f = ap₂ is_of e f ∙ some_is ty h

-- a path that is read has as many numbers as one in place
pub path_width : (path : Path) → widths (ByPath path NoArg) ≡ width_at path
path_width path = let w = same_width path in omega (arith, w)

-- ---- what is known around: types, procedures, globals, and the flat places of the start code and of the body

module _ (types : List Ty) (facts : Facts) (modes : (proc position : ℕ) → Mode) (procs : List Proc) (globals : List Placed) (sigs : List Signature)
    (start whole : List FlatPlace) (stands_for : ℕ → Bool) where
  abbrev pub known : Known
  known = record { types = types; facts = facts }

  abbrev pub around : Among
  around = record { known = known; procs = sigs; globals = start; places = whole; stands = stands_for }

  abbrev pub value : ℕ → Option Ty
  value = owned.value known modes whole

  abbrev pub led : ℕ → Option Ty
  led = owned.led known modes whole

  abbrev pub may_write : ℕ → Bool
  may_write = owned.may_write known modes whole

  abbrev pub named : ℕ → (global : Bool) → Option Ty
  named = any_place known sigs start whole

  abbrev pub Owned : Expr → (t : ℕ) → Type 0
  Owned = owned.Owned known modes whole

  abbrev pub PathOwned : Path → (t : ℕ) → Type 0
  PathOwned = owned.PathOwned known modes whole

  abbrev pub AllOwned : Act → Args → (uses : (position : ℕ) → Use) → (position t : ℕ) → Type 0
  AllOwned = owned.AllOwned known modes whole

  -- An argument for a parameter goes by the parameter's mode at the call: one for a `var` parameter is a path, and of the others those are locations that
  -- are lent.
  pub record IsTaken (at_call : Mode) (p : Param) (taken : Taken) : Type 0 where
    pub of : taken.of ≡ p.place.of
    pub by_path : is_var p.mode ≡ true → taken.by_location ≡ true
    pub by_value : is_var p.mode ≡ false → taken.by_location ≡ is_hooked facts p.place.of && is_lent (use_for at_call)
    pub kept : is_var p.mode ≡ false → taken.written ≡ false

  abbrev pub AreTaken : (proc position : ℕ) → List Param → List Taken → Type 0
  AreTaken proc i [] [] = Unit {0}
  AreTaken proc i (p ∷ params) (taken ∷ rest) = IsTaken (modes proc i) p taken × AreTaken proc (suc i) params rest
  AreTaken proc i params rest = ⊥

  -- a call takes and gives what its procedure says
  pub record Signed (proc : ℕ) (p : Proc) : Type 0 where
    pub signature : Signature
    pub is : slice_get sigs proc ≡ Some signature
    pub gives : signature.gives ≡ p.gives
    pub takes : AreTaken proc 0 p.params signature.takes

  -- and constants are values of their types
  pub record Grounds : Type 0 where
    pub calls : (n : ℕ) (p : Proc) (body : Body) → slice_get procs n ≡ Some p → p.body ≡ Some body → Signed n p
    pub constants : (ty : Ty) (literal : Literal) → IsListed types ty → is_characters literal || not (has_own_hooks facts (Some ty)) ≡ true →
        is_constant facts ty literal ≡ true → IsOf literal (shape_of facts ty)

  -- places in scope are places of the code
  pub record Sees (filled : ℕ) (places : List Placed) : Type 0 where
    pub local : (n : ℕ) (ty : Ty) → look places n ≡ Some ty → named n false ≡ Some ty
    pub global : (n : ℕ) (ty : Ty) → look (take filled globals) n ≡ Some ty → named n true ≡ Some ty

  abbrev pub seen : (filled : ℕ) (places : List Placed) (dest : Option ℕ) → Here
  seen filled places dest = record { facts = facts; procs = procs; globals = globals; filled = filled; places = places; dest = dest }

  -- types that stand there are of the table
  abbrev pub Listed : List Ty → Type 0
  Listed tys = Each (IsListed types) tys

  type_listed : (ty : Option Ty) (rest : List Ty) → Listed (type_if ty ++ rest) → IfListed types ty
  type_listed None rest h = tt
  type_listed (Some ty) rest h = h.0

  -- of what a path begins with
  abbrev begun_types : Option Literal → (read : Bool) → Expr → List Ty
  begun_types constant read value =
      if_constant constant (own_types (begun_by constant read value)) (own_types (begun_by constant read value) ++ total lists own_types value)

  begun_typed : (constant : Option Literal) (read : Bool) (value : Expr) → Listed (begun_types constant read value) → IfListed types (type_of value)
  begun_typed None read value h = type_listed (type_of value) [] (apart (IsListed types) (type_if (type_of value) ++ []) (total lists own_types value) h).0
  begun_typed (Some literal) read value h = type_listed (type_of value) [] h

  begun_listed : (constant : Option Literal) (read : Bool) (value : Expr) → constant ≡ None → Listed (begun_types constant read value) →
      Listed (total lists own_types value)
  begun_listed None read value none h = (apart (IsListed types) (type_if (type_of value) ++ []) (total lists own_types value) h).1
  begun_listed (Some literal) read value none h = absurd cc

  mutual
    pub value_listed : (e : Expr) → Listed (total lists own_types e) → IfListed types (type_of e)
    value_listed (Apply node ty act operands) h = type_listed ty (act_types act) (apart (IsListed types) (type_if ty ++ act_types act) _ h).0
    value_listed (Read path) h = path_listed true path h
    value_listed (Early node ty short a b) h = h.0
    value_listed (Choose node ty chooser parts) h = type_listed ty [] (apart (IsListed types) (type_if ty ++ []) _ h).0

    pub path_listed : (read : Bool) (path : Path) → Listed (total_at lists own_types read path) →
        IfListed types (type_at path)
    path_listed read (Variable node ty place global) h = h.0
    path_listed read (Fresh value) h = begun_typed (constant_in value) read value h
    path_listed read (Field node ty base field) h = h.0
    path_listed read (Element node ty base index constant) h = h.0
    path_listed read (Deref ty base) h = h.0

  pub all_listed : (args : Args) → Listed (totals lists own_types args) → AreListed types (types_in args)
  all_listed NoArg h = tt
  all_listed (ByValue e rest) h =
      let l = apart (IsListed types) (total lists own_types e) (totals lists own_types rest) h in (value_listed e l.0, all_listed rest l.1)
  all_listed (ByPath path rest) h =
      let l = apart (IsListed types) (total_at lists own_types false path) (totals lists own_types rest) h in (path_listed false path l.0, all_listed rest l.1)

  module _ (filled : ℕ) (places : List Placed) (dest : Option ℕ) where
    abbrev here : Here
    here = seen filled places dest

    -- what is known of a part at a number
    pub record Stood (e : Expr) (t : ℕ) : Type 0 where
      pub typed : is_typed here e ≡ true
      pub direct : is_direct facts e ≡ true
      pub listed : Listed (total lists own_types e)
      pub owns : Owned e t

    pub record PathStood (read : Bool) (path : Path) (t : ℕ) : Type 0 where
      pub typed : is_typed_path here path ≡ true
      pub direct : is_direct_path facts path ≡ true
      pub listed : Listed (total_at lists own_types read path)
      pub owns : PathOwned path t

    -- operands of something, from a position on
    pub record AllStood (act : Act) (uses : (position : ℕ) → Use) (i : ℕ) (args : Args) (t : ℕ) : Type 0 where
      pub typed : are_typed here args ≡ true
      pub direct : are_direct facts args ≡ true
      pub listed : Listed (totals lists own_types args)
      pub owns : AllOwned act args uses i t

    -- parts of which none is lent
    abbrev pub PartsStood : (i : ℕ) → Args → (t : ℕ) → Type 0
    PartsStood i args t = AllStood (Building []) (λ j. U.Owned) i args t

    -- ---- parts of parts

    module _ (act : Act) (uses : (position : ℕ) → Use) (i : ℕ) where
      pub first_stood : (e : Expr) (rest : Args) (t : ℕ) → AllStood act uses i (ByValue e rest) t → Stood e t
      first_stood e rest t all = record {
        typed = (and_parts (is_typed here e) (are_typed here rest) all.typed).0;
        direct = (and_parts (is_direct facts e) (are_direct facts rest) all.direct).0;
        listed = (apart (IsListed types) (total lists own_types e) (totals lists own_types rest) all.listed).0;
        owns = owned.first_owned known modes whole act uses i e rest t all.owns;
      }

      pub rest_stood : (e : Expr) (rest : Args) (t : ℕ) → AllStood act uses i (ByValue e rest) t → AllStood act uses (suc i) rest (t + width e)
      rest_stood e rest t all = record {
        typed = (and_parts (is_typed here e) (are_typed here rest) all.typed).1;
        direct = (and_parts (is_direct facts e) (are_direct facts rest) all.direct).1;
        listed = (apart (IsListed types) (total lists own_types e) (totals lists own_types rest) all.listed).1;
        owns = owned.behind_owned known modes whole act uses i e rest t all.owns;
      }

      pub first_path : (path : Path) (rest : Args) (t : ℕ) → AllStood act uses i (ByPath path rest) t → PathStood false path t
      first_path path rest t all = record {
        typed = (and_parts (is_whole facts path) (is_typed_path here path) (and_parts _ (are_typed here rest) all.typed).0).1;
        direct = (and_parts (is_direct_path facts path) (are_direct facts rest) all.direct).0;
        listed = (apart (IsListed types) (total_at lists own_types false path) (totals lists own_types rest) all.listed).0;
        owns = owned.first_path_owned known modes whole act uses i path rest t all.owns;
      }

      pub behind_path : (path : Path) (rest : Args) (t : ℕ) → AllStood act uses i (ByPath path rest) t →
          AllStood act uses (suc i) rest (t + width_at path)
      behind_path path rest t all = record {
        typed = (and_parts (is_whole facts path && is_typed_path here path) (are_typed here rest) all.typed).1;
        direct = (and_parts (is_direct_path facts path) (are_direct facts rest) all.direct).1;
        listed = (apart (IsListed types) (total_at lists own_types false path) (totals lists own_types rest) all.listed).1;
        owns = owned.behind_path_owned known modes whole act uses i path rest t all.owns;
      }

    pub read_stood : (path : Path) (t : ℕ) → Stood (Read path) t → PathStood true path (suc t)
    read_stood path t e = record {
      typed = (and_parts (is_read facts path) (is_typed_path here path) e.typed).1;
      direct = e.direct;
      listed = e.listed;
      owns = owned.read_owned known modes whole path t e.owns;
    }

    pub fresh_stood : (read : Bool) (e : Expr) (t : ℕ) → constant_in e ≡ None → PathStood read (Fresh e) t → Stood e (suc t)
    fresh_stood read e t none p =
        let h = and_parts (is_fresh e && is_there (type_of e)) (is_typed here e) p.typed in
        record {
          typed = h.1;
          direct = p.direct;
          listed = begun_listed (constant_in e) read e none p.listed;
          owns = owned.fresh_owned known modes whole e t none p.owns;
        }

    pub base_stood : (read : Bool) (node : Node) (ty : Ty) (base : Path) (field t : ℕ) → PathStood read (Field node ty base field) t →
        PathStood false base (suc t)
    base_stood read node ty base field t p = record {
      typed = (and_parts _ (is_typed_path here base) p.typed).1;
      direct = (and_parts (is_direct_path facts base) (not (is_exception_type (type_at base))) p.direct).0;
      listed = p.listed.1;
      owns = owned.base_owned known modes whole node ty base field t p.owns;
    }

    -- what has fields is no exception
    pub base_has_parts : (read : Bool) (node : Node) (ty : Ty) (base : Path) (field t : ℕ) → PathStood read (Field node ty base field) t →
        not (is_exception_type (type_at base)) ≡ true
    base_has_parts read node ty base field t p = (and_parts (is_direct_path facts base) (not (is_exception_type (type_at base))) p.direct).1

    pub row_stood : (read : Bool) (node : Node) (ty : Ty) (base : Path) (index : Expr) (constant : Option ℤ) (t : ℕ) →
        PathStood read (Element node ty base index constant) t → PathStood false base (suc t) × Stood index (suc t + width_at base)
    row_stood read node ty base index constant t p =
        let h = and_parts (is_typed_path here base) (is_typed here index) (and_parts _ _ p.typed).1 in
        let b = and_parts (is_direct_path facts base) (is_direct facts index) p.direct in
        let l = apart (IsListed types) (total_at lists own_types false base) (total lists own_types index) p.listed.1 in
        let o = owned.row_owned known modes whole node ty base index constant t p.owns in (
          record { typed = h.0; direct = b.0; listed = l.0; owns = o.0 },
          record { typed = h.1; direct = b.1; listed = l.1; owns = o.1 },
        )

    pub object_stood : (read : Bool) (ty : Ty) (base : Path) (t : ℕ) → PathStood read (Deref ty base) t → PathStood false base (suc t)
    object_stood read ty base t p = record {
      typed = (and_parts _ (is_typed_path here base) p.typed).1;
      direct = p.direct;
      listed = p.listed.1;
      owns = owned.object_owned known modes whole ty base t p.owns;
    }

    -- operands of what is done with them
    direct_operands : (ty : Option Ty) (act : Act) (operands : Args) → act_fits here ty act operands ≡ true →
        of_act facts ty act operands (are_direct facts operands) ≡ true → are_direct facts operands ≡ true
    direct_operands ty (Doing operation) operands h d = d
    direct_operands ty (Building fields) operands h d = d
    direct_operands ty (Giving literal) NoArg h d = refl
    direct_operands ty (Giving literal) (ByValue e rest) h d = never h
    direct_operands ty (Giving literal) (ByPath path rest) h d = never h
    direct_operands ty (Calling proc []) operands h d = d
    direct_operands ty (Calling proc (first ∷ more)) operands h d = never d

    pub operands_stood : (node : Node) (ty : Option Ty) (act : Act) (operands : Args) (t : ℕ) → Stood (Apply node ty act operands) t →
        AllStood act (use_of modes act) 0 operands (suc t)
    operands_stood node ty act operands t e =
        let h = and_parts (act_fits here ty act operands) (are_typed here operands) e.typed in
        record {
          typed = h.1;
          direct = direct_operands ty act operands h.0 e.direct;
          listed = (apart (IsListed types) (type_if ty ++ act_types act) (totals lists own_types operands) e.listed).1;
          owns = owned.behind_node known modes whole true node ty t (suc t + widths operands)
              (operand_places types facts modes act operands (use_of modes act) 0 (suc t)) (omega arith) (omega arith) e.owns;
        }

    pub left_stood : (node : Node) (ty : Ty) (short : Short) (left right : Expr) (t : ℕ) → Stood (Early node ty short left right) t → Stood left (suc t)
    left_stood node ty short left right t e = record {
      typed = (and_parts (is_typed here left) (is_typed here right) (and_parts _ _ e.typed).1).0;
      direct = (and_parts (is_direct facts left) (is_direct facts right) e.direct).0;
      listed = (apart (IsListed types) (total lists own_types left) (total lists own_types right) e.listed.1).0;
      owns = owns_later (suc (suc t)) (omega arith)
          (owns_first (suc t + width left) (suc t + width left + width right) (omega arith) (expr_numbers types facts modes right (suc t + width left))
          (owned.behind_node known modes whole true node (Some ty) t (suc t + width left + width right) _ (omega arith) (omega arith) e.owns));
    }

    pub right_stood : (node : Node) (ty : Ty) (short : Short) (left right : Expr) (t : ℕ) → Stood (Early node ty short left right) t →
        Stood right (suc t + width left)
    right_stood node ty short left right t e = record {
      typed = (and_parts (is_typed here left) (is_typed here right) (and_parts _ _ e.typed).1).1;
      direct = (and_parts (is_direct facts left) (is_direct facts right) e.direct).1;
      listed = (apart (IsListed types) (total lists own_types left) (total lists own_types right) e.listed.1).1;
      owns = owns_later (suc (suc t + width left)) (omega arith)
          (owns_second (suc t) (suc t + width left) (suc t + width left + width right) (omega arith) (omega arith) (omega arith)
          (expr_numbers types facts modes left (suc t))
          (owned.behind_node known modes whole true node (Some ty) t (suc t + width left + width right) _ (omega arith) (omega arith) e.owns));
    }

    -- the parts of a choice
    pub chosen_listed : (ty : Option Ty) (parts : Args) → Listed ((type_if ty ++ []) ++ totals lists own_types parts) → Listed (totals lists own_types parts)
    chosen_listed ty parts h = (apart (IsListed types) (type_if ty ++ []) (totals lists own_types parts) h).1

    pub conditions_stood : (node : Node) (ty : Option Ty) (parts : Args) (t : ℕ) → Stood (Choose node ty ByConditions parts) t → PartsStood 0 parts (suc t)
    conditions_stood node ty parts t e = record {
      typed = (and_parts _ (are_typed here parts) e.typed).1;
      direct = e.direct;
      listed = chosen_listed ty parts e.listed;
      owns = owned.parts_as_operands known modes whole parts 0 (suc t)
          (owned.behind_node known modes whole true node ty t (suc t + widths parts) (part_places types facts modes parts (suc t)) (omega arith) (omega arith)
          e.owns);
    }

    pub selected_stood : (node : Node) (ty : Option Ty) (labels : List (List Label)) (parts : Args) (t : ℕ) →
        Stood (Choose node ty (ByLabels labels) parts) t → PartsStood 0 parts (selector_from parts (suc t + arm_count (ByLabels labels)))
    selected_stood node ty labels parts t e = record {
      typed = (and_parts _ (are_typed here parts) e.typed).1;
      direct = e.direct;
      listed = chosen_listed ty parts e.listed;
      owns = owned.parts_as_operands known modes whole parts 0 (selector_from parts (suc t + arm_count (ByLabels labels)))
          (owned.parts_owned known modes whole parts (suc t + arm_count (ByLabels labels))
          (owned.choice_owned known modes whole node ty labels parts t e.owns));
    }

    -- ---- the types of temporaries

    pub path_typed : (read : Bool) (path : Path) (t : ℕ) → PathStood read path t → is_there (type_at path) ≡ true
    path_typed read (Variable node ty place global) t p = refl
    path_typed read (Fresh value) t p =
        (and_parts (is_fresh value) (is_there (type_of value)) (and_parts (is_fresh value && is_there (type_of value)) (is_typed here value) p.typed).0).1
    path_typed read (Field node ty base field) t p = refl
    path_typed read (Element node ty base index constant) t p = refl
    path_typed read (Deref ty base) t p = refl

    -- a path that is read is a node of its own
    pub node_read : (path : Path) → is_read facts path ≡ true → has_node path ≡ true
    node_read (Variable node ty place global) h = refl
    node_read (Fresh value) h = never (and_parts false (is_whole facts (Fresh value)) h).0
    node_read (Field node ty base field) h = refl
    node_read (Element node ty base index constant) h = refl
    node_read (Deref ty base) h = never (and_parts true false h).1

    pub value_is : (e : Expr) (t : ℕ) → Stood e t → value t ≡ type_of e
    value_is (Apply node ty act operands) t e =
        owned.value_found known modes whole node ty t (operand_places types facts modes act operands (use_of modes act) 0 (suc t)) (omega arith)
        (value_listed (Apply node ty act operands) e.listed)
        ((operand_numbers types facts modes act operands (use_of modes act) 0 (suc t)).values t (λ le. absurd (omega (arith, le)))) e.owns
    value_is (Read path) t e =
        let p = read_stood path t e in
        let w = read_width path in
        owned.there_found known modes whole (has_node path) (node_at path) (type_at path) t (path_places types facts modes path (suc t)) (omega (arith, w))
        (path_listed true path e.listed) (path_typed true path (suc t) p) e.owns
    value_is (Early node ty short left right) t e = owned.value_there known modes whole true node ty t _ (omega arith) e.listed.0 e.owns
    value_is (Choose node ty ByConditions parts) t e =
        owned.value_found known modes whole node ty t (part_places types facts modes parts (suc t)) (omega arith)
        (value_listed (Choose node ty ByConditions parts) e.listed)
        ((part_numbers types facts modes parts (suc t)).values t (λ le. absurd (omega (arith, le)))) e.owns
    value_is (Choose node ty (ByLabels labels) parts) t e =
        let s = suc t + arm_count (ByLabels labels) in
        owned.value_found known modes whole node ty t
        (selector_place types facts modes parts s ++ part_places types facts modes parts (selector_from parts s)) (omega arith)
        (value_listed (Choose node ty (ByLabels labels) parts) e.listed) (owned.none_at_choice known modes whole parts t s (omega arith)) e.owns

    hooked_path : (path : Path) (ty : Option Ty) (t : ℕ) → type_at path ≡ ty → is_there ty ≡ true → Stood (Read path) t →
        place_hooked known (place_named is_value whole t) ≡ gives_hooked facts (type_at path)
    hooked_path path None t is there e = never there
    hooked_path path (Some ty) t is there e =
        let w = read_width path in
        let listed : IfListed types (Some ty) = subst (λ ty. IfListed types ty) is (path_listed true path e.listed) in
        owned.hooked_there known modes whole (has_node path) (node_at path) ty t (path_places types facts modes path (suc t)) (omega (arith, w)) listed
        (subst (λ o. Owns whole (value_at types facts modes (has_node path) (node_at path) o t ++ path_places types facts modes path (suc t)) t (suc t)
        (t + width (Read path))) is e.owns)
        ∙ sym (ap (gives_hooked facts) is)

    -- and whether its type has hooks
    pub value_hooked : (e : Expr) (t : ℕ) → Stood e t → place_hooked known (place_named is_value whole t) ≡ gives_hooked facts (type_of e)
    value_hooked (Apply node ty act operands) t e =
        owned.hooked_found known modes whole true node ty t (operand_places types facts modes act operands (use_of modes act) 0 (suc t)) (omega arith)
        (value_listed (Apply node ty act operands) e.listed)
        ((operand_numbers types facts modes act operands (use_of modes act) 0 (suc t)).values t (λ le. absurd (omega (arith, le)))) e.owns
    value_hooked (Read path) t e =
        let p = read_stood path t e in
        hooked_path path (type_at path) t refl (path_typed true path (suc t) p) e
    value_hooked (Early node ty short left right) t e = owned.hooked_there known modes whole true node ty t _ (omega arith) e.listed.0 e.owns
    value_hooked (Choose node ty ByConditions parts) t e =
        owned.hooked_found known modes whole true node ty t (part_places types facts modes parts (suc t)) (omega arith)
        (value_listed (Choose node ty ByConditions parts) e.listed)
        ((part_numbers types facts modes parts (suc t)).values t (λ le. absurd (omega (arith, le)))) e.owns
    value_hooked (Choose node ty (ByLabels labels) parts) t e =
        let s = suc t + arm_count (ByLabels labels) in
        owned.hooked_found known modes whole true node ty t
        (selector_place types facts modes parts s ++ part_places types facts modes parts (selector_from parts s)) (omega arith)
        (value_listed (Choose node ty (ByLabels labels) parts) e.listed) (owned.none_at_choice known modes whole parts t s (omega arith)) e.owns

    -- the value of a selector that is read in place
    pub selector_is : (path : Path) (rest : Args) (s : ℕ) → owned.ChoiceOwned known modes whole (ByPath path rest) s →
        PartsStood 0 (ByPath path rest) (looked_from path s) →
        value s ≡ type_at path
    selector_is path rest s owns all =
        let p = first_path (Building []) (λ j. U.Owned) 0 path rest (looked_from path s) all in
        owned.selector_found known modes whole path rest s (path_listed false path p.listed) (path_typed false path (looked_from path s) p) owns

    pub choice_stands : (node : Node) (ty : Option Ty) (labels : List (List Label)) (parts : Args) (t : ℕ) →
        Stood (Choose node ty (ByLabels labels) parts) t → owned.ChoiceOwned known modes whole parts (suc t + arm_count (ByLabels labels))
    choice_stands node ty labels parts t e = owned.choice_owned known modes whole node ty labels parts t e.owns

    pub record Leads (path : Path) (t : ℕ) : Type 0 where
      pub type : led t ≡ type_at path
      pub writes : may_write t ≡ is_written path

    fresh_leads : {v hi : ℕ} (value : Expr) (ty : Option Ty) (t : ℕ) (rest : List FlatPlace) → t ≤ suc t → is_there ty ≡ true → IfListed types ty → t + 1 ≤ hi →
        Owns whole (temporary types facts modes (node_of value) ty (kind_by false) t ++ rest) v t hi → (led t ≡ ty) × (may_write t ≡ false)
    fresh_leads value None t rest le h listed less owns = never h
    fresh_leads value (Some ty) t rest le h listed less owns =
        owned.led_found known modes whole false (node_of value) ty t rest (omega (arith, less)) listed owns

    pub leads : (read : Bool) (path : Path) (t : ℕ) → PathStood read path t → Leads path t
    leads read (Variable node ty place global) t p =
        let l = owned.led_found known modes whole true node ty t [] (omega arith) p.listed.0 p.owns in record { type = l.0; writes = l.1 }
    leads read (Fresh value) t p =
        let h = and_parts (is_fresh value && is_there (type_of value)) (is_typed here value) p.typed in
        let w = some_width_at (Fresh value) in
        let l = fresh_leads value (type_of value) t _ (omega arith) (and_parts (is_fresh value) (is_there (type_of value)) h.0).1
        (path_listed read (Fresh value) p.listed) (omega (arith, w)) p.owns in
        record { type = l.0; writes = l.1 }
    leads read (Field node ty base field) t p =
        let l = owned.led_found known modes whole (is_written base) node ty t (path_places types facts modes base (suc t)) (omega arith) p.listed.0 p.owns in
        record { type = l.0; writes = l.1 }
    leads read (Element node ty base index constant) t p =
        let l = owned.led_found known modes whole (is_written base) node ty t _ (omega arith) p.listed.0 p.owns in record { type = l.0; writes = l.1 }
    leads read (Deref ty base) t p =
        let l = owned.led_found known modes whole true (node_at base) ty t (path_places types facts modes base (suc t)) (omega arith) p.listed.0 p.owns in
        record { type = l.0; writes = l.1 }

    -- ---- what is lent, and what a place copies

    -- nothing else is copied
    no_path : {A : Type 0} (e : Expr) (how : Use) → has_hooks facts e && (is_given how && false) ≡ true → A
    no_path e how c = never (and_parts (is_given how) false (and_parts (has_hooks facts e) (is_given how && false) c).1).1

    some_hooked : (ty : Option Ty) → gives_hooked facts ty ≡ true → is_there ty ≡ true
    some_hooked None h = never h
    some_hooked (Some ty) h = refl

    pub lent_leads : (act : Act) (uses : (position : ℕ) → Use) (i : ℕ) (e : Expr) (rest : Args) (t : ℕ) → is_lent_at facts act (uses i) e ≡ true →
        AllStood act uses i (ByValue e rest) t → (led t ≡ type_of e) × (may_write t ≡ false)
    lent_leads act uses i e rest t lent all =
        owned.lent_found known modes whole act uses i e rest t lent (some_hooked (type_of e) (and_parts (has_hooks facts e) _ lent).0)
        (value_listed e (first_stood act uses i e rest t all).listed) all.owns

    pub copied_leads : (how : Use) (e : Expr) (t : ℕ) → is_copied facts how e ≡ true → Stood e t → led (suc t) ≡ type_of e
    copied_leads how (Read path) t c e = (leads true path (suc t) (read_stood path t e)).type
    copied_leads how (Apply node ty act operands) t c e = no_path (Apply node ty act operands) how c
    copied_leads how (Early node ty short left right) t c e = no_path (Early node ty short left right) how c
    copied_leads how (Choose node ty chooser parts) t c e = no_path (Choose node ty chooser parts) how c

-- Typed expressions are formed.
use Rattle.std.proofs.Common.{◌≡◌, ℕ, Bool, true, false, List, [], ◌++◌, Option, Some, None, refl}
use Rattle.std.specs.Prelude.{◌&&◌, slice_get, take}
use Rattle.std.proofs.lemmas.Bool.{both_ways, and_parts}
use Rattle.nim_types.specs.Types.{Ty, Facts}
use Rattle.nim_program.specs.Program as P
use Rattle.nim_program.specs.Program.{Literal, Act, Doing, Building, Giving, Calling, Chooser, ByConditions, ByLabels, Expr, Path, Args, NoArg, ByValue, ByPath}
use Rattle.nim_program.specs.Program.{Proc, type_of, type_at}
use Rattle.nim_program.specs.Program.{types_in, constant_in}
use Rattle.nim_program.specs.Folds.{if_constant, begun_by, lists, total, total_at, totals}
use Rattle.nim_program.proofs.ForCallers.{in_fresh}
use Rattle.nim_program.specs.Kinds.{kind_if, is_of, is_there, field_at}
use Rattle.nim_program.specs.Fitting.{early_fits, building_fits, chooser_fits}
use Rattle.nim_program.specs.Scopes.{Placed, Here, type_in}
use Rattle.nim_program.specs.Typed.{own_types, type_if, act_types, act_fits, is_typed, is_typed_path, are_typed, is_whole, is_fresh}
use Rattle.nim_program.specs.Typed.{choice_is_placed, is_read}
use Rattle.nim_meaning.specs.Shapes.{selector_type}
use Rattle.flattening.specs.Formed.{Ground, Scope, IfListed, HasListed, AreListed, LabelsFit, ActFormed, Formed, PathFormed, AllFormed}
use Rattle.flattening.specs.Formed.{taken_by, named_in}
use Rattle.formed_programs.proofs.Parts.{Each, apart, both}
use Rattle.formed_programs.proofs.Listed.{IsKnown, IfKnown, labels_are}
use Rattle.formed_programs.proofs.Seen.{Sees, named_by, looked, as_many, all_open}

never : {A : Type 0} → false ≡ true → A
never e = absurd (both_ways false refl e)

-- ---- what is known around: types, procedures and globals of a program, and what its body declares

module _ (types : List Ty) (facts : Facts) (procs : List Proc) (globals : List Placed) (top : Bool) (room : ℕ → Type 0) where
  abbrev pub ground : Ground
  ground = record {
    facts = facts;
    types = types;
    top = top;
    room = room;
    takes = taken_by procs;
    names = named_in (λ proc. named_by globals (slice_get procs proc));
  }

  abbrev pub seen : (filled : ℕ) (places : List Placed) (dest : Option ℕ) → Here
  seen filled places dest = record { facts = facts; procs = procs; globals = globals; filled = filled; places = places; dest = dest }

  -- types that stand there are of the table
  abbrev pub Listed : List Ty → Type 0
  Listed tys = Each (IsKnown types facts) tys

  abbrev Known : Option Ty → Type 0
  Known = IfKnown types facts

  type_known : (ty : Option Ty) (rest : List Ty) → Listed (type_if ty ++ rest) → Known ty
  type_known None rest h = tt
  type_known (Some ty) rest h = h.0

  if_listed : (ty : Option Ty) → Known ty → IfListed types ty
  if_listed None f = tt
  if_listed (Some ty) f = f.0

  has_listed : (ty : Option Ty) → Known ty → is_there ty ≡ true → HasListed types ty
  has_listed None f e = never e
  has_listed (Some ty) f e = f.0

  -- ---- types of operands

  begun_known : (c : Option P.Literal) (read : Bool) (value : Expr) →
      Listed (if_constant c (own_types (begun_by c read value)) (own_types (begun_by c read value) ++ total lists own_types value)) → Known (type_of value)
  begun_known None read value h = type_known (type_of value) [] (apart (IsKnown types facts) (type_if (type_of value) ++ []) _ h).0
  begun_known (Some literal) read value h = type_known (type_of value) [] h

  path_known : (read : Bool) (path : Path) → Listed (total_at lists own_types read path) → Known (type_at path)
  path_known read (P.Variable node ty place global) h = h.0
  path_known read (P.Fresh value) h = begun_known (constant_in value) read value h
  path_known read (P.Field node ty base field) h = h.0
  path_known read (P.Element node ty base index constant) h = h.0
  path_known read (P.Deref ty base) h = h.0

  value_known : (e : Expr) → Listed (total lists own_types e) → Known (type_of e)
  value_known (P.Apply node ty act operands) h = type_known ty (act_types act) (apart (IsKnown types facts) (type_if ty ++ act_types act) _ h).0
  value_known (P.Read path) h = path_known true path h
  value_known (P.Early node ty short a b) h = h.0
  value_known (P.Choose node ty chooser parts) h = type_known ty [] (apart (IsKnown types facts) (type_if ty ++ []) _ h).0

  all_listed : (operands : Args) → Listed (totals lists own_types operands) → AreListed types (types_in operands)
  all_listed NoArg h = tt
  all_listed (ByValue value rest) h =
      let l = apart (IsKnown types facts) (total lists own_types value) (totals lists own_types rest) h in
      (if_listed (type_of value) (value_known value l.0), all_listed rest l.1)
  all_listed (ByPath path rest) h =
      let l = apart (IsKnown types facts) (total_at lists own_types false path) (totals lists own_types rest) h in
      (if_listed (type_at path) (path_known false path l.0), all_listed rest l.1)

  -- ---- labels

  pub selector_known : (parts : Args) → Listed (totals lists own_types parts) → Known (selector_type parts)
  selector_known NoArg h = tt
  selector_known (ByValue value rest) h =
      value_known value (apart (IsKnown types facts) (total lists own_types value) (totals lists own_types rest) h).0
  selector_known (ByPath path rest) h =
      path_known false path (apart (IsKnown types facts) (total_at lists own_types false path) (totals lists own_types rest) h).0

  choice_labels : (ty : Option Ty) (chooser : Chooser) (parts : Args) → chooser_fits facts ty chooser (types_in parts) ≡ true →
      Listed (totals lists own_types parts) → LabelsFit facts chooser parts
  choice_labels ty ByConditions parts h l = tt
  choice_labels ty (ByLabels labels) NoArg h l = never h
  choice_labels ty (ByLabels labels) (ByValue value rest) h l =
      labels_are types facts (type_of value) (selector_known (ByValue value rest) l) labels (and_parts _ _ (and_parts _ _ h).0).1
  choice_labels ty (ByLabels labels) (ByPath path rest) h l =
      labels_are types facts (type_at path) (selector_known (ByPath path rest) l) labels (and_parts _ _ (and_parts _ _ h).0).1

  module _ (filled : ℕ) (places : List Placed) (dest : Option ℕ) where
    abbrev here : Here
    here = seen filled places dest

    -- ---- acts

    built_there : (ty : Option Ty) (fields : List ℕ) (operands : List (Option Ty)) → building_fits facts ty fields operands ≡ true → is_there ty ≡ true
    built_there None fields operands h = never h
    built_there (Some ty) fields operands h = refl

    given_there : (ty : Option Ty) (literal : Literal) (operands : Args) → act_fits here ty (Giving literal) operands ≡ true → is_there ty ≡ true
    given_there None literal NoArg h = never h
    given_there (Some ty) literal operands h = refl
    given_there None literal (ByValue value rest) h = never h
    given_there None literal (ByPath path rest) h = never h

    module _ (Open : Scope) (sees : Sees globals Open filled places) where
      act_formed : (ty : Option Ty) (act : Act) (operands : Args) → act_fits here ty act operands ≡ true → Known ty → AreListed types (types_in operands) →
          ActFormed ground Open ty act operands
      act_formed ty (Doing operation) operands h k all = (if_listed ty k, all)
      act_formed ty (Building fields) operands h k all = has_listed ty k (built_there ty fields (types_in operands) (and_parts _ _ h).0)
      act_formed ty (Giving literal) operands h k all = has_listed ty k (given_there ty literal operands h)
      act_formed ty (Calling proc of) operands h k all =
          (if_listed ty k, as_many here (slice_get procs proc) of ty operands h, all_open here Open (slice_get procs proc) of ty operands h sees.global)

      opened : (global : Bool) (place : ℕ) (ty : Ty) (found : Option Ty) → type_in here global place ≡ found → is_of found (Some ty) ≡ true
          → Open global place
      opened global place ty None e h = never h
      opened true place ty (Some other) e h = sees.global place (looked (take filled globals) place other e)
      opened false place ty (Some other) e h = sees.local place (looked places place other e)

      mutual
        pub formed : (e : Expr) → is_typed here e ≡ true → Listed (total lists own_types e) → Formed ground Open e
        formed (P.Apply node ty act operands) h l =
            let t = and_parts (act_fits here ty act operands) (are_typed here operands) h in
            let k = apart (IsKnown types facts) (type_if ty ++ act_types act) (totals lists own_types operands) l in
            (act_formed ty act operands t.0 (type_known ty (act_types act) k.0) (all_listed operands k.1), all_formed operands t.1 k.1)
        formed (P.Read path) h l =
            (if_listed (type_at path) (path_known true path l), path_formed true path (and_parts (is_read facts path) (is_typed_path here path) h).1 l)
        formed (P.Early node ty short a b) h l =
            let t = and_parts (is_typed here a) (is_typed here b) (and_parts (early_fits facts ty (type_of a) (type_of b)) _ h).1 in
            let k = apart (IsKnown types facts) (total lists own_types a) (total lists own_types b) l.1 in
            (formed a t.0 k.0, formed b t.1 k.1)
        formed (P.Choose node ty chooser parts) h l =
            let t = and_parts (chooser_fits facts ty chooser (types_in parts) && choice_is_placed chooser parts) (are_typed here parts) h in
            let k = apart (IsKnown types facts) (type_if ty ++ []) (totals lists own_types parts) l in (
              if_listed ty (type_known ty [] k.0),
              choice_labels ty chooser parts (and_parts (chooser_fits facts ty chooser (types_in parts)) (choice_is_placed chooser parts) t.0).0 k.1,
              all_formed parts t.1 k.1,
            )

        path_formed : (read : Bool) (path : Path) → is_typed_path here path ≡ true → Listed (total_at lists own_types read path)
            → PathFormed ground Open path
        path_formed read (P.Variable node ty place global) h l = opened global place ty (type_in here global place) refl h
        path_formed read (P.Fresh value) h l =
            let t = (and_parts (is_fresh value && is_there (type_of value)) (is_typed here value) h).1 in
            formed value t (in_fresh own_types (λ node ty read literal. refl) Listed (λ xs ys h. (apart (IsKnown types facts) xs ys h).1)
            (λ xs h. both (IsKnown types facts) xs [] h tt) read value l)
        path_formed read (P.Field node ty base field) h l =
            path_formed false base (and_parts (is_of (field_at (kind_if facts (type_at base)) field) (Some ty)) (is_typed_path here base) h).1 l.1
        path_formed read (P.Element node ty base index constant) h l =
            let t = and_parts (is_typed_path here base) (is_typed here index) (and_parts _ _ h).1 in
            let k = apart (IsKnown types facts) (total_at lists own_types false base) (total lists own_types index) l.1 in
            (path_formed false base t.0 k.0, formed index t.1 k.1)
        path_formed read (P.Deref ty base) h l = path_formed false base (and_parts _ (is_typed_path here base) h).1 l.1

        pub all_formed : (operands : Args) → are_typed here operands ≡ true → Listed (totals lists own_types operands) → AllFormed ground Open operands
        all_formed NoArg h l = tt
        all_formed (ByValue value rest) h l =
            let t = and_parts (is_typed here value) (are_typed here rest) h in
            let k = apart (IsKnown types facts) (total lists own_types value) (totals lists own_types rest) l in
            (formed value t.0 k.0, all_formed rest t.1 k.1)
        all_formed (ByPath path rest) h l =
            let t = and_parts (is_whole facts path && is_typed_path here path) (are_typed here rest) h in
            let k = apart (IsKnown types facts) (total_at lists own_types false path) (totals lists own_types rest) l in
            (path_formed false path (and_parts _ _ t.0).1 k.0, all_formed rest t.1 k.1)

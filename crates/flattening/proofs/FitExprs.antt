-- The lines of expressions fit.
use Rattle.std.proofs.Common.{◌≡◌, ℕ, suc, ◌+◌, Bool, true, false, List, [], ◌∷◌, Option, Some, None, refl, sym, ap, ap₂, ◌∙◌}
use Rattle.std.specs.Prelude.{◌&&◌, not, if◌then◌else◌}
use Rattle.std.proofs.lemmas.Bool.{and_parts, and_from}
use Rattle.nim_types.specs.Types.{Ty, Facts}
use Rattle.nim_program.specs.declared.operation.Short.{Short}
use Rattle.nim_program.specs.declared.operation.Short.TheVariants.{And, Or}
use Rattle.nim_program.specs.declared.operation.Use.{Use}
use Rattle.nim_program.specs.declared.operation.Use.TheVariants.{Owned, Looked}
use Rattle.nim_program.specs.declared.program.Mode.{Mode}
use Rattle.nim_program.specs.Ints.{fits as is_int_value}
use Rattle.nim_program.specs.Program.{Number, Characters, NoObject, PartsOf, ElementsOf}
use Rattle.nim_program.specs.Program.{Act, Doing, Building, Giving, Calling, Literal, Label, Ordinals, Exactly, ByConditions, ByLabels, Expr, Apply, Read}
use Rattle.nim_program.specs.Program.{Early, Choose}
use Rattle.nim_program.specs.Program.{Path, Variable, Fresh, Field, Element, Deref, Args, NoArg, ByValue, ByPath, Proc, type_of, type_at, types_in}
use Rattle.nim_program.specs.Program.{constant_in, node_of, node_at}
use Rattle.nim_program.specs.Folds.{if_constant}
use Rattle.nim_program.specs.Kinds.{TypeKind, kind_of, kind_if, is_bool, is_ordinal, is_text, is_selected, is_of, is_there, same_value}
use Rattle.nim_program.specs.Fitting.{building_fits, are_distinct, are_fields, early_fits, label_fits, labels_fit, has_label, are_labels, are_enough}
use Rattle.nim_program.specs.Fitting.{conditions_fit, values_fit, chooser_fits}
use Rattle.nim_program.specs.Scopes.{Placed, Here}
use Rattle.nim_program.specs.Typed.{is_typed, are_typed, act_fits, are_placed, is_selector, choice_is_placed}
use Rattle.nim_program.specs.Uses.{use_of}
use Rattle.nim_meaning.specs.Here.{gives_hooked}
use Rattle.nim_meaning.specs.Shapes.{is_covered, is_last_value, waits as are_kept, is_text as is_literal_text}
use Rattle.nim_meaning.specs.Waiting.{waiting, held_from, held_if, reads_kept}
use Rattle.nim_program.specs.declared.expr.Label.TheVariants as C
use Rattle.flat_code.specs.declared.line.UseAt.{UseAt}
use Rattle.flat_code.specs.declared.line.Line.{Line}
use Rattle.flat_code.specs.declared.line.Line.TheVariants as L
use Rattle.flat_code.specs.declared.place.FlatPlace.{FlatPlace}
use Rattle.flat_code.specs.Scene.{Known}
use Rattle.flat_code.specs.Fits.{Signature, needs_no_type, is_waiting}
use Rattle.flat_code.specs.Waits.{used_at}
use Rattle.flattening.specs.declared.numbers.Purpose.TheVariants.{End, Next, Arm}
use Rattle.flattening.specs.Formed.{IfListed}
use Rattle.flattening.specs.Numbering.{if_number, width, width_at, arm_count, looked_from, label}
use Rattle.flattening.specs.ExprLines.{find_lines, label_tests, value_tests, arm_label, none_fits, handed_on, early_lines}
use Rattle.flattening.specs.ExprLines.{lines, aim_lines, copied_lines, ready_lines, choice_lines, arm_lines, branch_use, branch_ends, value_ends}
use Rattle.flattening.specs.ExprLines.{use_at, begin_line, lent_line, froms, act_line, has_hooks, is_copied, is_lent_at, is_lent_text, is_one_text, waits_at}
use Rattle.flattening.proofs.Acting.{type_is}
use Rattle.flattening.proofs.Direct.{are_direct}
use Rattle.flattening.proofs.Fit.{Among, Fit, Ends, fitting, fit_none, fit_line, ◌>>◌, fit_if, fit_by, fit_taken, fit_ends}
use Rattle.flattening.proofs.FitParts.{value_turned, never, of_same, itself, both_are}
use Rattle.flattening.proofs.FitParts as parts
use Rattle.flattening.proofs.FitPaths as paths
use Rattle.flattening.proofs.FitActs as acts
use Rattle.flattening.proofs.Listed.{the_bool}
use Rattle.flattening.proofs.Parts.{Each}
use Rattle.flattening.proofs.FitWaits as waits
use Rattle.flattening.proofs.FitWaits.{HasType}

not_both : (a b : Bool) → a ≡ true → a && b ≡ false → b ≡ false
not_both true b h none = none
not_both false b h none = never h

module _ (types : List Ty) (facts : Facts) (modes : (proc position : ℕ) → Mode) (procs : List Proc) (globals : List Placed) (sigs : List Signature)
    (start whole : List FlatPlace) (stands_for : ℕ → Bool)
    (grounds : parts.Grounds types facts modes procs globals sigs start whole stands_for)
    (filled : ℕ) (places : List Placed) (dest : Option ℕ) (sees : parts.Sees types facts modes procs globals sigs start whole stands_for filled places) where
  abbrev known : Known
  known = parts.known types facts modes procs globals sigs start whole stands_for

  abbrev around : Among
  around = parts.around types facts modes procs globals sigs start whole stands_for

  abbrev here : Here
  here = parts.seen types facts modes procs globals sigs start whole stands_for filled places dest

  abbrev value : ℕ → Option Ty
  value = parts.value types facts modes procs globals sigs start whole stands_for

  abbrev Stood : Expr → ℕ → Type 0
  Stood = parts.Stood types facts modes procs globals sigs start whole stands_for filled places dest

  abbrev PathStood : Bool → Path → ℕ → Type 0
  PathStood = parts.PathStood types facts modes procs globals sigs start whole stands_for filled places dest

  abbrev AllStood : Act → (uses : (position : ℕ) → Use) → (position : ℕ) → Args → (t : ℕ) → Type 0
  AllStood = parts.AllStood types facts modes procs globals sigs start whole stands_for filled places dest

  abbrev PartsStood : (position : ℕ) → Args → (t : ℕ) → Type 0
  PartsStood = parts.PartsStood types facts modes procs globals sigs start whole stands_for filled places dest

  value_is : (e : Expr) (t : ℕ) → Stood e t → value t ≡ type_of e
  value_is = parts.value_is types facts modes procs globals sigs start whole stands_for filled places dest

  abbrev led : ℕ → Option Ty
  led = parts.led types facts modes procs globals sigs start whole stands_for

  abbrev may_write : ℕ → Bool
  may_write = parts.may_write types facts modes procs globals sigs start whole stands_for

  lent_leads : (act : Act) (uses : (position : ℕ) → Use) (i : ℕ) (e : Expr) (rest : Args) (t : ℕ) → is_lent_at facts act (uses i) e ≡ true →
      AllStood act uses i (ByValue e rest) t → (led t ≡ type_of e) × (may_write t ≡ false)
  lent_leads = parts.lent_leads types facts modes procs globals sigs start whole stands_for filled places dest

  find_fits : (read : Bool) (path : Path) (t : ℕ) → PathStood read path t → Fit around (find_lines types facts path t)
  find_fits = paths.find_fits types facts modes procs globals sigs start whole stands_for grounds filled places dest sees

  -- ---- what waits

  abbrev Kept : (t node : ℕ) → Option Ty → Type 0
  Kept = waits.Kept types facts modes procs globals sigs start whole stands_for

  used_right : (b : Bool) (t : ℕ) (how : UseAt) (ty : Option Ty) → IfListed types ty → Kept t how.node ty →
      used_at known whole b t how (if_number types ty) ≡ true
  used_right = waits.used_right types facts modes procs globals sigs start whole stands_for

  kept : (e : Expr) (t : ℕ) → Stood e t → Kept t (node_of e).number (type_of e)
  kept = waits.kept types facts modes procs globals sigs start whole stands_for filled places dest

  all_end : (e : Expr) (how : Use) (t : ℕ) → Stood e t → Each (Ends around types) (waiting facts modes e how)
  all_end = waits.all_end types facts modes procs globals sigs start whole stands_for filled places dest

  -- ---- lines of choices

  pub bool_at : (t : ℕ) (ty : Option Ty) → value t ≡ ty → is_bool (kind_if facts ty) ≡ true → is_bool (kind_if facts (value t)) ≡ true
  bool_at t ty e h = ap (λ o. is_bool (kind_if facts o)) e ∙ h

  -- what gives no value starts at nothing
  none_right : (t : ℕ) (ty : Option Ty) (how : UseAt) → IfListed types ty → value t ≡ ty → fitting around (none_fits types facts modes t ty how) ≡ true
  none_right t ty how listed is = both_are _ _ ty is (type_is types ty listed)

  fit_none_fits : (t : ℕ) (ty : Option Ty) (how : UseAt) → Kept t how.node ty → IfListed types ty → value t ≡ ty →
      Fit around (λ k. none_fits types facts modes t ty how ∷ k)
  fit_none_fits t ty how keeps listed is =
      fit_line (none_fits types facts modes t ty how) (used_right (are_kept how.how) t how ty listed keeps) (none_right t ty how listed is)

  handed_right : (t from : ℕ) (ty passed : Option Ty) (how : UseAt) → IfListed types ty → value t ≡ ty → value from ≡ passed → same_value passed ty ≡ true →
      fitting around (handed_on types facts modes t from how ty) ≡ true
  handed_right t from None passed how listed is from_is same =
      and_from _ _ (ap₂ same_value is from_is ∙ value_turned passed _ same) (ap (needs_no_type facts) is)
  handed_right t from (Some ty) passed how listed is from_is same =
      and_from _ _ (ap₂ same_value is from_is ∙ value_turned passed _ same)
      (ap₂ (λ o u. same_value o (Some u)) is listed ∙ itself (Some ty))

  fit_handed : (t from : ℕ) (ty passed : Option Ty) (how : UseAt) → Kept t how.node ty → IfListed types ty → value t ≡ ty → value from ≡ passed →
      same_value passed ty ≡ true → Fit around (λ k. handed_on types facts modes t from how ty ∷ k)
  fit_handed t from ty passed how keeps listed is from_is same =
      fit_line (handed_on types facts modes t from how ty) (used_right (are_kept how.how) t how ty listed keeps)
      (handed_right t from ty passed how listed is from_is same)

  pub tests_fit : (k : TypeKind) (labels : List Label) (s arm : ℕ) → kind_if facts (value s) ≡ k → labels_fit k labels ≡ true →
      Fit around (label_tests labels s arm)
  tests_fit k [] s arm e h = fit_none
  tests_fit k (Ordinals low high ∷ labels) s arm e h =
      let q = and_parts (label_fits k (Ordinals low high)) (labels_fit k labels) h in
      fit_line (L.Fits s (C.Ordinals low high) arm) refl (ap (λ j. is_ordinal j && (is_int_value low && is_int_value high)) e ∙ q.0)
      >> tests_fit k labels s arm e q.1
  tests_fit k (Exactly text ∷ labels) s arm e h =
      let q = and_parts (label_fits k (Exactly text)) (labels_fit k labels) h in
      fit_line (L.Fits s (C.Text text) arm) refl (ap is_text e ∙ q.0) >> tests_fit k labels s arm e q.1

  all_tests_fit : (k : TypeKind) (labels : List (List Label)) (values : Args) (s t : ℕ) → kind_if facts (value s) ≡ k → are_labels k labels ≡ true →
      Fit around (value_tests labels values s t)
  all_tests_fit k labels NoArg s t e h = fit_none
  all_tests_fit k labels (ByPath path rest) s t e h = fit_none
  all_tests_fit k [] (ByValue v rest) s t e h = fit_none
  all_tests_fit k (these ∷ labels) (ByValue v rest) s t e h =
      let q = and_parts (has_label these && labels_fit k these) (are_labels k labels) h in
      tests_fit k these s (label Arm t) e (and_parts (has_label these) (labels_fit k these) q.0).1 >> all_tests_fit k labels rest s (t + width v) e q.1

  pub arm_fits : (b : Bool) (other arm : ℕ) → Fit around (arm_label b other arm)
  arm_fits true other arm = fit_line (L.Label other) refl refl >> fit_line (L.Label arm) refl refl
  arm_fits false other arm = fit_line (L.Label arm) refl refl

  early_right : (short : Short) (t s : ℕ) (ty : Ty) → value t ≡ Some ty → value s ≡ Some ty → is_bool (kind_of facts ty) ≡ true →
      Fit around (early_lines types facts modes short t s)
  early_right And t s ty e f h = fit_line (L.Truth t false) refl (bool_at t (Some ty) e h) >> fit_line (L.Unless s (label End t)) refl (bool_at s (Some ty) f h)
  early_right Or t s ty e f h =
      fit_line (L.Truth t true) refl (bool_at t (Some ty) e h)
      >> (fit_line (L.Unless s (label Next t)) refl (bool_at s (Some ty) f h) >>
      (fit_line (L.Jump (label End t)) refl refl >> fit_line (L.Label (label Next t)) refl refl))

  -- the value of a bool is handed on without its type
  bool_passes : (t from : ℕ) (ty : Ty) (how : UseAt) → value t ≡ Some ty → value from ≡ Some ty → is_bool (kind_of facts ty) ≡ true →
      fitting around (L.Pass t from how None) ≡ true
  bool_passes t from ty how e f h =
      and_from _ _ (ap₂ same_value e f ∙ itself (Some ty)) (ap (needs_no_type facts) (e ∙ ap Some (the_bool facts ty h)))

  -- the last value of a choice
  last_value : (enough : Bool) (value : Option Ty) (ty : Option Ty) (rest : Args) → values_fit facts ty enough [] (value ∷ types_in rest) ≡ true →
      same_value value ty ≡ true
  last_value enough value ty NoArg h = h
  last_value enough value ty (ByValue e rest) h = never h
  last_value enough value ty (ByPath path rest) h = never h

  -- what ends behind the value of a branch
  branch_then : {F : List Line → List Line} (e : Expr) (t : ℕ) → Stood e t → Fit around F → Fit around (λ k. F (branch_ends types facts modes e k))
  branch_then e t s fit =
      fit
      >> (fit_ends types (waiting facts modes e Owned) (all_end e Owned t s) >> fit_taken (held_if (has_hooks facts e) (node_of e).number [])
      (waits.branch_taken types facts modes procs globals sigs start whole stands_for filled places dest e t s))

  -- ---- expressions

  -- of parts from a position on
  first_stood : (i : ℕ) (e : Expr) (rest : Args) (t : ℕ) → PartsStood i (ByValue e rest) t → Stood e t
  first_stood i = parts.first_stood types facts modes procs globals sigs start whole stands_for filled places dest (Building []) (λ j. Owned) i

  rest_stood : (i : ℕ) (e : Expr) (rest : Args) (t : ℕ) → PartsStood i (ByValue e rest) t → PartsStood (suc i) rest (t + width e)
  rest_stood i = parts.rest_stood types facts modes procs globals sigs start whole stands_for filled places dest (Building []) (λ j. Owned) i

  first_path : (path : Path) (rest : Args) (t : ℕ) → PartsStood 0 (ByPath path rest) t → PathStood false path t
  first_path = parts.first_path types facts modes procs globals sigs start whole stands_for filled places dest (Building []) (λ j. Owned) 0

  -- what is done with operands has a type where it builds a value or gives a constant
  acted_type : (ty : Option Ty) (act : Act) (operands : Args) → act_fits here ty act operands ≡ true → HasType act ty
  acted_type ty (Doing operation) operands h = tt
  acted_type None (Building fields) operands h =
      let q = and_parts (building_fits facts None fields (types_in operands)) (are_placed 0 operands) h in
      never (and_parts false (are_distinct fields && are_fields TypeKind.other fields (types_in operands)) q.0).0
  acted_type (Some ty) (Building fields) operands h = tt
  acted_type None (Giving literal) NoArg h = never h
  acted_type None (Giving literal) (ByValue e rest) h = never h
  acted_type None (Giving literal) (ByPath path rest) h = never h
  acted_type (Some ty) (Giving literal) operands h = tt
  acted_type ty (Calling proc given) operands h = tt

  hooked_there : (ty : Option Ty) → gives_hooked facts ty ≡ true → is_there ty ≡ true
  hooked_there None h = never h
  hooked_there (Some ty) h = refl

  -- the text of a literal that is lent stands in the data
  text_fits : (constant : Option Literal) (e : Expr) (t : ℕ) → constant_in e ≡ constant → is_one_text constant ≡ true → Stood e t → led t ≡ type_of e →
      may_write t ≡ false → Fit around (λ k. begin_line types facts constant e t ∷ k)
  text_fits None e t is text s type writes = never text
  text_fits (Some literal) e t is text s type writes =
      fit_line (begin_line types facts (Some literal) e t) refl
      (paths.standing_right types facts modes procs globals sigs start whole stands_for grounds filled places dest sees e literal t is s.typed s.direct
      (parts.value_listed types facts modes procs globals sigs start whole stands_for e s.listed) type writes)

  -- and nothing else is one
  no_text : (e : Expr) → is_typed here e ≡ true → is_one_text (constant_in e) ≡ false → is_literal_text e ≡ false
  no_text (Apply node ty (Giving (Characters text)) NoArg) h none = never (sym none)
  no_text (Apply node ty (Giving (Characters text)) (ByValue e rest)) h none = never (and_parts false (are_typed here (ByValue e rest)) h).0
  no_text (Apply node ty (Giving (Characters text)) (ByPath path rest)) h none = never (and_parts false (are_typed here (ByPath path rest)) h).0
  no_text (Apply node ty (Giving (Number z)) operands) h none = refl
  no_text (Apply node ty (Giving NoObject) operands) h none = refl
  no_text (Apply node ty (Giving (PartsOf all)) operands) h none = refl
  no_text (Apply node ty (Giving (ElementsOf all)) operands) h none = refl
  no_text (Apply node ty (Doing operation) operands) h none = refl
  no_text (Apply node ty (Building fields) operands) h none = refl
  no_text (Apply node ty (Calling proc given) operands) h none = refl
  no_text (Read path) h none = refl
  no_text (Early node ty short left right) h none = refl
  no_text (Choose node ty chooser parts) h none = refl

  -- any other value that is lent has a location where it waits
  lent_fits : (act : Act) (e : Expr) (how : Use) (t : ℕ) (text : Bool) → is_literal_text e ≡ text → Stood e t →
      (is_lent_at facts act how e ≡ true → (text ≡ false) × (led t ≡ type_of e) × (may_write t ≡ false)) → Fit around (lent_line facts act how e t)
  lent_fits act e how t text is s leads = fit_by (is_lent_at facts act how e) there (λ unlent. fit_none)
    where
      waits_lent : (n : ℕ) (h text : Bool) → text ≡ false → is_waiting (if h && not text then Some n else None) h ≡ true
      waits_lent n true true none = never (sym none)
      waits_lent n true false none = refl
      waits_lent n false text none = refl

      there : is_lent_at facts act how e ≡ true → Fit around (λ k. L.Fresh t t (waits_at facts e) ∷ k)
      there lent =
          let l = leads lent in
          let hooked = (and_parts (has_hooks facts e) _ lent).0 in
          fit_line (L.Fresh t t (waits_at facts e))
          (waits.fresh_right types facts modes procs globals sigs start whole stands_for filled places dest e t t (has_hooks facts e && not (is_literal_text e))
          (hooked ∙ sym (and_from _ _ hooked (ap not (is ∙ l.0)))) s)
          (and_from _ _ (parts.both_some _ _ (type_of e) (hooked_there (type_of e) hooked) l.1 (value_is e t s))
          (and_from _ _ (ap not l.2)
          (ap (λ o. is_waiting (waits_at facts e) (gives_hooked facts o)) (value_is e t s)
          ∙ waits_lent (node_of e).number (has_hooks facts e) (is_literal_text e) (is ∙ l.0))))

  -- what is done for a value that a path begins with, which isn't a constant
  fit_begun : {F : List Line → List Line} (constant : Option Literal) → (constant ≡ None → Fit around F) → Fit around (λ k. if_constant constant k (F k))
  fit_begun None fit = fit refl
  fit_begun (Some literal) fit = fit_none

  mutual
    pub expr_fits : (e : Expr) (how : Use) (t : ℕ) → Stood e t → Fit around (lines types facts modes e how t)
    expr_fits (Apply node ty act operands) how t e =
        let all = parts.operands_stood types facts modes procs globals sigs start whole stands_for filled places dest node ty act operands t e in
        let is = value_is (Apply node ty act operands) t e in
        let keeps : Kept t node.number ty = kept (Apply node ty act operands) t e in
        let fits = (and_parts (act_fits here ty act operands) (are_typed here operands) e.typed).0 in
        let listed = parts.value_listed types facts modes procs globals sigs start whole stands_for (Apply node ty act operands) e.listed in
        ready_fits act operands (use_of modes act) 0 (suc t) all
        >> (paths.settle_fits types facts modes procs globals sigs start whole stands_for grounds filled places dest sees act (use_of modes act) 0 operands
        (suc t) all
        >> (fit_taken (held_from facts modes operands (use_of modes act) 0)
        (waits.all_taken types facts modes procs globals sigs start whole stands_for filled places dest act (use_of modes act) operands 0 (suc t) all)
        >> (fit_line (act_line types facts modes t act (use_at how node.number) ty (types_in operands) (froms facts act operands (use_of modes act) 0 (suc t)))
        (waits.act_waits types facts modes procs globals sigs start whole stands_for t act (use_at how node.number) ty (types_in operands)
        (froms facts act operands (use_of modes act) 0 (suc t)) (acted_type ty act operands fits) listed keeps)
        (acts.act_right types facts modes procs globals sigs start whole stands_for grounds filled places dest sees t act (use_at how node.number)
        ty operands (are_direct facts operands) e.direct fits listed
        (parts.all_listed types facts modes procs globals sigs start whole stands_for operands all.listed) is all)
        >> acts.back_fits types facts modes procs globals sigs start whole stands_for grounds filled places dest sees t act (use_at how node.number) ty is
        (parts.value_hooked types facts modes procs globals sigs start whole stands_for filled places dest (Apply node ty act operands) t e) keeps)))
    expr_fits (Read path) how t e =
        let p = parts.read_stood types facts modes procs globals sigs start whole stands_for filled places dest path t e in
        let l = parts.leads types facts modes procs globals sigs start whole stands_for filled places dest true path (suc t) p in
        let is = value_is (Read path) t e in
        let listed = parts.value_listed types facts modes procs globals sigs start whole stands_for (Read path) e.listed in
        let some = parts.path_typed types facts modes procs globals sigs start whole stands_for filled places dest true path (suc t) p in
        aim_fits true path (suc t) p
        >> (find_fits true path (suc t) p
        >> fit_line (L.Get t (suc t) (use_at how (node_at path).number) (if_number types (type_at path)))
        (used_right (reads_kept how) t (use_at how (node_at path).number) (type_at path) listed (kept (Read path) t e))
        (and_from _ _ (parts.both_some _ _ (type_at path) some is (type_is types (type_at path) listed)) (parts.both_some _ _ (type_at path) some is l.type)))
    expr_fits (Early node ty short left right) how t e =
        let l = parts.left_stood types facts modes procs globals sigs start whole stands_for filled places dest node ty short left right t e in
        let r = parts.right_stood types facts modes procs globals sigs start whole stands_for filled places dest node ty short left right t e in
        let q = and_parts (early_fits facts ty (type_of left) (type_of right)) _ e.typed in
        let b = and_parts (is_bool (kind_of facts ty)) _ q.0 in
        let c = and_parts (is_of (type_of left) (Some ty)) (is_of (type_of right) (Some ty)) b.1 in
        let is = value_is (Early node ty short left right) t e in
        let left_is = value_is left (suc t) l ∙ of_same _ _ c.0 in
        let right_is = value_is right (suc t + width left) r ∙ of_same _ _ c.1 in
        expr_fits left Owned (suc t) l
        >> (early_right short t (suc t) ty is left_is b.0
        >> (expr_fits right Owned (suc t + width left) r
        >> (fit_line (L.Pass t (suc t + width left) (use_at how node.number) None) refl
        (bool_passes t (suc t + width left) ty (use_at how node.number) is right_is b.0)
        >> fit_line (L.Label (label End t)) refl refl)))
    expr_fits (Choose node ty ByConditions parts') how t e =
        let all = parts.conditions_stood types facts modes procs globals sigs start whole stands_for filled places dest node ty parts' t e in
        let q = and_parts (chooser_fits facts ty ByConditions (types_in parts')) (choice_is_placed ByConditions parts')
        (and_parts _ (are_typed here parts') e.typed).0 in
        let listed = parts.value_listed types facts modes procs globals sigs start whole stands_for (Choose node ty ByConditions parts') e.listed in
        choice_fits 0 parts' ty (use_at how node.number) t (suc t) (kept (Choose node ty ByConditions parts') t e) listed
        (value_is (Choose node ty ByConditions parts') t e) q.0 q.1 all >> fit_line
        (L.Label (label End t)) refl refl
    expr_fits (Choose node ty (ByLabels labels) NoArg) how t e =
        never (and_parts false (choice_is_placed (ByLabels labels) NoArg) (and_parts _ true e.typed).0).0
    expr_fits (Choose node ty (ByLabels labels) (ByValue selector rest)) how t e =
        let u = suc t + arm_count (ByLabels labels) in
        let all = parts.selected_stood types facts modes procs globals sigs start whole stands_for filled places dest node ty labels
        (ByValue selector rest) t e in
        let q = and_parts (chooser_fits facts ty (ByLabels labels) (type_of selector ∷ types_in rest))
        (choice_is_placed (ByLabels labels) (ByValue selector rest))
        (and_parts _ (are_typed here (ByValue selector rest)) e.typed).0 in
        let k = kind_if facts (type_of selector) in
        let h = and_parts (is_selected k && are_labels k labels) (values_fit facts ty (are_enough k ty labels) labels (types_in rest)) q.0 in
        let listed = parts.value_listed types facts modes procs globals sigs start whole stands_for
        (Choose node ty (ByLabels labels) (ByValue selector rest)) e.listed in
        let s = first_stood 0 selector rest u all in
        let is = value_is selector u s in
        expr_fits selector Looked u s
        >> (all_tests_fit k labels rest u (u + width selector) (ap (kind_if facts) is) (and_parts (is_selected k) (are_labels k labels) h.0).1
        >> (fit_line (L.Jump (label Next t)) refl refl
        >> (arms_fit (are_enough k ty labels) (is_covered (type_of selector)) 1 labels rest ty (use_at how node.number) t (u + width selector)
        (kept (Choose node ty (ByLabels labels) (ByValue selector rest)) t e) listed
        (value_is (Choose node ty (ByLabels labels) (ByValue selector rest)) t e) h.1
        (and_parts (is_selector (ByValue selector rest)) (are_placed 0 rest) q.1).1 (rest_stood 0 selector rest u all)
        >> fit_line (L.Label (label End t)) refl refl)))
    expr_fits (Choose node ty (ByLabels labels) (ByPath path rest)) how t e =
        let u = suc t + arm_count (ByLabels labels) in
        let from = looked_from path u in
        let all = parts.selected_stood types facts modes procs globals sigs start whole stands_for filled places dest node ty labels (ByPath path rest) t e in
        let q = and_parts (chooser_fits facts ty (ByLabels labels) (type_at path ∷ types_in rest)) (choice_is_placed (ByLabels labels) (ByPath path rest))
        (and_parts _ (are_typed here (ByPath path rest)) e.typed).0 in
        let k = kind_if facts (type_at path) in
        let h = and_parts (is_selected k && are_labels k labels) (values_fit facts ty (are_enough k ty labels) labels (types_in rest)) q.0 in
        let listed = parts.value_listed types facts modes procs globals sigs start whole stands_for (Choose node ty (ByLabels labels) (ByPath path rest))
        e.listed in
        let p = first_path path rest from all in
        let l = parts.leads types facts modes procs globals sigs start whole stands_for filled places dest false path from p in
        let is = parts.selector_is types facts modes procs globals sigs start whole stands_for filled places dest path rest u
        (parts.choice_stands types facts modes procs globals sigs start whole stands_for filled places dest node ty labels (ByPath path rest) t e) all in
        let some = parts.path_typed types facts modes procs globals sigs start whole stands_for filled places dest false path from p in
        aim_fits false path from p
        >> (find_fits false path from p
        >> (fit_line (L.Look u from) refl (and_from _ _ (parts.both_some _ _ (type_at path) some is l.type)
        (ap (λ o. is_selected (kind_if facts o)) l.type ∙ (and_parts (is_selected k) (are_labels k labels) h.0).0))
        >> (all_tests_fit k labels rest u (from + width_at path) (ap (kind_if facts) is) (and_parts (is_selected k) (are_labels k labels) h.0).1
        >> (fit_line (L.Jump (label Next t)) refl refl
        >> (arms_fit (are_enough k ty labels) (is_covered (type_at path)) 1 labels rest ty (use_at how node.number) t (from + width_at path)
        (kept (Choose node ty (ByLabels labels) (ByPath path rest)) t e) listed
        (value_is (Choose node ty (ByLabels labels) (ByPath path rest)) t e) h.1 (and_parts (is_selector (ByPath path rest)) (are_placed 0 rest) q.1).1
        (parts.behind_path types facts modes procs globals sigs start whole stands_for filled places dest (Building []) (λ j. Owned) 0 path rest from all)
        >> fit_line (L.Label (label End t)) refl refl)))))

    pub aim_fits : (read : Bool) (path : Path) (t : ℕ) → PathStood read path t → Fit around (aim_lines types facts modes path t)
    aim_fits read (Variable node ty place global) t p = fit_none
    aim_fits read (Fresh v) t p =
        fit_begun (constant_in v)
        (λ none. expr_fits v Looked (suc t) (parts.fresh_stood types facts modes procs globals sigs start whole stands_for filled places dest read v t none p))
    aim_fits read (Field node ty base field) t p =
        aim_fits false base (suc t) (parts.base_stood types facts modes procs globals sigs start whole stands_for filled places dest read node ty base
        field t p)
    aim_fits read (Element node ty base index constant) t p =
        let b = parts.row_stood types facts modes procs globals sigs start whole stands_for filled places dest read node ty base index constant t p in
        aim_fits false base (suc t) b.0 >> expr_fits index Owned (suc t + width_at base) b.1
    aim_fits read (Deref ty base) t p = aim_fits false base (suc t)
        (parts.object_stood types facts modes procs globals sigs start whole stands_for filled places dest read ty base t p)

    -- where a place copies from
    pub copied_fits : (e : Expr) (t : ℕ) → Stood e t → Fit around (copied_lines types facts modes e t)
    copied_fits (Read path) t e =
        let p = parts.read_stood types facts modes procs globals sigs start whole stands_for filled places dest path t e in aim_fits true path (suc t) p >>
        find_fits true
        path (suc t) p
    copied_fits (Apply node ty act operands) t e = fit_none
    copied_fits (Early node ty short left right) t e = fit_none
    copied_fits (Choose node ty chooser parts) t e = fit_none

    pub ready_fits : (act : Act) (args : Args) (uses : ℕ → Use) (i t : ℕ) → AllStood act uses i args t →
        Fit around (ready_lines types facts modes act args uses i t)
    ready_fits act NoArg uses i t all = fit_none
    ready_fits act (ByValue e rest) uses i t all =
        let s = parts.first_stood types facts modes procs globals sigs start whole stands_for filled places dest act uses i e rest t all in
        let behind = ready_fits act rest uses (suc i) (t + width e)
        (parts.rest_stood types facts modes procs globals sigs start whole stands_for filled places dest act uses i e rest t all) in
        fit_if (is_copied facts (uses i) e) (copied_fits e t s >> behind)
        (fit_by (is_lent_text facts act (uses i) e)
        (λ stands.
        let q = and_parts (is_lent_at facts act (uses i) e) _ stands in
        let l = lent_leads act uses i e rest t q.0 all in
        text_fits (constant_in e) e t refl q.1 s l.0 l.1 >> behind)
        (λ other.
        expr_fits e (uses i) t s
        >> (lent_fits act e (uses i) t (is_literal_text e) refl s
        (λ lent. let l = lent_leads act uses i e rest t lent all in (no_text e s.typed (not_both _ _ lent other), l.0, l.1))
        >> behind)))
    ready_fits act (ByPath path rest) uses i t all =
        aim_fits false path t (parts.first_path types facts modes procs globals sigs start whole stands_for filled places dest act uses i path rest t all)
        >> ready_fits act rest uses (suc i) (t + width_at path)
        (parts.behind_path types facts modes procs globals sigs start whole stands_for filled places dest act uses i path rest t all)

    choice_fits : (i : ℕ) (args : Args) (ty : Option Ty) (how : UseAt) (t u : ℕ) → Kept t how.node ty → IfListed types ty → value t ≡ ty →
        conditions_fit facts ty (types_in args) ≡ true → are_placed 0 args ≡ true → PartsStood i args u →
        Fit around (choice_lines types facts modes args ty how t u)
    choice_fits i NoArg ty how t u keeps listed is h placed all = never h
    choice_fits i (ByPath path rest) ty how t u keeps listed is h placed all = never placed
    choice_fits i (ByValue last NoArg) ty how t u keeps listed is h placed all =
        let s = first_stood i last NoArg u all in
        branch_then last u s (expr_fits last (branch_use types facts modes last) u s) >> fit_handed t u ty (type_of last) how keeps listed is
        (value_is last u s) h
    choice_fits i (ByValue condition (ByPath path rest)) ty how t u keeps listed is h placed all = never placed
    choice_fits i (ByValue condition (ByValue v rest)) ty how t u keeps listed is h placed all =
        let q = and_parts (is_bool (kind_if facts (type_of condition)) && same_value (type_of v) ty) (conditions_fit facts ty (types_in rest)) h in
        let b = and_parts (is_bool (kind_if facts (type_of condition))) (same_value (type_of v) ty) q.0 in
        let s = first_stood i condition (ByValue v rest) u all in
        let behind = rest_stood i condition (ByValue v rest) u all in
        let r = first_stood (suc i) v rest (u + width condition) behind in
        expr_fits condition Owned u s
        >> (fit_ends types (waiting facts modes condition Owned) (all_end condition Owned u s)
        >> (fit_line (L.Unless u (label Arm u)) refl (bool_at u (type_of condition) (value_is condition u s) b.0)
        >> (branch_then v (u + width condition) r (expr_fits v (branch_use types facts modes v) (u + width condition) r)
        >> (fit_handed t (u + width condition) ty (type_of v) how keeps listed is (value_is v (u + width condition) r) b.1
        >> (fit_line (L.Jump (label End t)) refl refl
        >> (fit_line (L.Label (label Arm u)) refl refl
        >> choice_fits (suc (suc i)) rest ty how t (u + width condition + width v) keeps listed is q.1 placed
        (rest_stood (suc i) v rest (u + width condition) behind)))))))

    arms_fit : (enough covered : Bool) (i : ℕ) (labels : List (List Label)) (args : Args) (ty : Option Ty) (how : UseAt) (t u : ℕ) →
        Kept t how.node ty → IfListed types ty → value t ≡ ty → values_fit facts ty enough labels (types_in args) ≡ true → are_placed 0 args ≡ true →
        PartsStood i args u →
        Fit around (arm_lines types facts modes covered labels args ty how t u)
    arms_fit enough covered i labels NoArg ty how t u keeps listed is h placed all =
        fit_line (L.Label (label Next t)) refl refl >> fit_none_fits t ty how keeps listed is
    arms_fit enough covered i labels (ByPath path rest) ty how t u keeps listed is h placed all = never placed
    arms_fit enough covered i [] (ByValue v rest) ty how t u keeps listed is h placed all =
        let s = first_stood i v rest u all in
        fit_line (L.Label (label Next t)) refl refl
        >> (branch_then v u s (expr_fits v (branch_use types facts modes v) u s) >> fit_handed t u ty (type_of v) how keeps listed is (value_is v u s)
        (last_value enough (type_of v) ty rest h))
    arms_fit enough covered i (these ∷ labels) (ByValue v rest) ty how t u keeps listed is h placed all =
        let q = and_parts (same_value (type_of v) ty) (values_fit facts ty enough labels (types_in rest)) h in
        let s = first_stood i v rest u all in
        arm_fits (covered && is_last_value rest) (label Next t) (label Arm u)
        >> (branch_then v u s (expr_fits v (branch_use types facts modes v) u s)
        >> (fit_handed t u ty (type_of v) how keeps listed is (value_is v u s) q.0
        >> fit_if (covered && is_last_value rest) fit_none
        (fit_line (L.Jump (label End t)) refl refl
        >> arms_fit enough covered (suc i) labels rest ty how t (u + width v) keeps listed is q.1 placed (rest_stood i v rest u all))))

  -- what ends behind a value
  pub value_ends_fit : (e : Expr) (how : Use) (t : ℕ) → Stood e t → Fit around (value_ends types facts modes e how)
  value_ends_fit e how t s = fit_ends types (waiting facts modes e how) (all_end e how t s)

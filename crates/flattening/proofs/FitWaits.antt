-- What waits in a typed part does so in its temporaries.
use Rattle.std.proofs.Common.{◌≡◌, ℕ, suc, ◌+◌, Bool, true, false, List, [], Option, Some, None, refl, ap, ◌∙◌, arith}
use Rattle.std.specs.Prelude.{◌&&◌, ◌||◌, not, if◌then◌else◌}
use Rattle.std.proofs.lemmas.Bool.{and_parts, and_from}
use Rattle.nim_types.specs.Types.{Ty, Facts}
use Rattle.nim_types.specs.Table.{type_at as type_at_number}
use Rattle.nim_program.specs.declared.operation.Use.{Use}
use Rattle.nim_program.specs.declared.operation.Use.TheVariants.{Owned, Looked}
use Rattle.nim_program.specs.declared.program.Mode.{Mode}
use Rattle.nim_program.specs.Program.{Act, Doing, Building, Giving, Calling, Literal, ByConditions, ByLabels, Expr, Apply, Read, Early, Choose}
use Rattle.nim_program.specs.Program.{Path, Variable, Fresh, Field, Element, Deref, Args, NoArg, ByValue, ByPath, Proc, type_of, type_at, node_of, node_at}
use Rattle.nim_program.specs.Program.{constant_in}
use Rattle.nim_program.specs.Folds.{by_constant}
use Rattle.nim_program.specs.Scopes.{Placed}
use Rattle.nim_program.specs.Typed.{is_typed_path, is_read as is_read_path}
use Rattle.nim_program.specs.Uses.{use_of}
use Rattle.nim_meaning.specs.Here.{is_hooked, gives_hooked, form_for}
use Rattle.nim_meaning.specs.Shapes.{has_node, is_held, is_read, waits, waits_from}
use Rattle.nim_meaning.specs.Waiting.{Wait, wait_if, held_if, own_wait, reads_kept, waiting, waiting_at, waiting_all, waiting_first, held_from}
use Rattle.flat_code.specs.declared.line.From.{From}
use Rattle.flat_code.specs.declared.line.Owning.TheVariants as W
use Rattle.flat_code.specs.declared.line.UseAt.{UseAt}
use Rattle.flat_code.specs.declared.line.Line.TheVariants as L
use Rattle.flat_code.specs.declared.place.FlatPlace.{FlatPlace}
use Rattle.flat_code.specs.Fits.{Signature}
use Rattle.flat_code.specs.Pieces.{pieces_of}
use Rattle.flat_code.specs.Waits.{constant_waits, waits_in, used_at}
use Rattle.flat_code.specs.Scene.{Known}
use Rattle.flattening.specs.ExprLines.{has_hooks, begin_line, act_line}
use Rattle.flattening.specs.Numbering.{number_or, if_number, width, width_at, arm_count, selector_from}
use Rattle.flattening.proofs.Fit.{Among, waiting_right, Ends, Takes}
use Rattle.flattening.specs.Formed.{IfListed}
use Rattle.flattening.proofs.Acting.{type_is}
use Rattle.flattening.proofs.FitParts as parts
use Rattle.flattening.proofs.Owned as owned
use Rattle.flattening.proofs.Parts.{Each, both}
use Rattle.flattening.proofs.Widths.{read_width}

-- what builds a value or gives a constant has a type
abbrev pub HasType : Act → Option Ty → Type 0
HasType (Building fields) None = ⊥
HasType (Giving literal) None = ⊥
HasType act ty = Unit {0}

module _ (types : List Ty) (facts : Facts) (modes : (proc position : ℕ) → Mode) (procs : List Proc) (globals : List Placed) (sigs : List Signature)
    (start whole : List FlatPlace) (stands_for : ℕ → Bool) where
  abbrev known : Known
  known = parts.known types facts modes procs globals sigs start whole stands_for

  abbrev around : Among
  around = parts.around types facts modes procs globals sigs start whole stands_for

  abbrev AllEnd : List Wait → Type 0
  AllEnd = Each (Ends around types)

  abbrev AllTaken : List ℕ → Type 0
  AllTaken = Each (Takes around)

  -- a value of a type that has hooks waits in a temporary
  abbrev pub Kept : (t node : ℕ) → Option Ty → Type 0
  Kept t node ty = gives_hooked facts ty ≡ true → waits_in known whole t node ≡ true

  pub used_right : (b : Bool) (t : ℕ) (how : UseAt) (ty : Option Ty) → IfListed types ty → Kept t how.node ty →
      used_at known whole b t how (if_number types ty) ≡ true
  used_right b t how ty listed kept =
      ap (λ x. not (gives_hooked facts x && b) || waits_in known whole t how.node) (type_is types ty listed) ∙ by (gives_hooked facts ty) b kept
    where
      by : (hooked b : Bool) → (hooked ≡ true → waits_in known whole t how.node ≡ true) → not (hooked && b) || waits_in known whole t how.node ≡ true
      by false b kept = refl
      by true false kept = refl
      by true true kept = kept refl

  -- what is done with operands, whose value has a place that is there where it has a type
  pub act_waits : (t : ℕ) (act : Act) (how : UseAt) (ty : Option Ty) (of : List (Option Ty)) (from : List From) →
      HasType act ty → IfListed types ty → Kept t how.node ty → waiting_right around (act_line types facts modes t act how ty of from) ≡ true
  act_waits t (Doing operation) how ty of from has listed kept = used_right (waits how.how) t how ty listed kept
  act_waits t (Building fields) how None of from has listed kept = absurd has
  act_waits t (Building fields) how (Some ty) of from has listed kept = used_right (waits how.how) t how (Some ty) listed kept
  act_waits t (Giving literal) how None of from has listed kept = absurd has
  act_waits t (Giving literal) how (Some ty) of from has listed kept =
      used_right (constant_waits (pieces_of literal) how.how) t how (Some ty) listed kept
  act_waits t (Calling proc given) how ty of from has listed kept = refl

  module _ (filled : ℕ) (places : List Placed) (dest : Option ℕ) where
    abbrev Stood : Expr → ℕ → Type 0
    Stood = parts.Stood types facts modes procs globals sigs start whole stands_for filled places dest

    abbrev PathStood : Bool → Path → ℕ → Type 0
    PathStood = parts.PathStood types facts modes procs globals sigs start whole stands_for filled places dest

    abbrev AllStood : Act → (uses : (position : ℕ) → Use) → (position : ℕ) → Args → (t : ℕ) → Type 0
    AllStood = parts.AllStood types facts modes procs globals sigs start whole stands_for filled places dest

    abbrev PartsStood : (position : ℕ) → Args → (t : ℕ) → Type 0
    PartsStood = parts.PartsStood types facts modes procs globals sigs start whole stands_for filled places dest

    abbrev Awaits : (t node : ℕ) → Option Ty → Type 0
    Awaits = owned.Awaits known modes whole

    -- a type with hooks has them by its number
    number_hooked : (ty : Option Ty) → IfListed types ty → gives_hooked facts ty ≡ true → is_hooked facts (type_at_number types (number_or types ty)) ≡ true
    number_hooked None listed hooked = cc
    number_hooked (Some ty) listed hooked = ap (is_hooked facts) listed ∙ hooked

    pub value_waits : (e : Expr) (t : ℕ) → Stood e t → has_hooks facts e ≡ true → Awaits t (node_of e).number (type_of e)
    value_waits (Apply node ty act operands) t e hooked = owned.waits_found known modes whole true node ty t _ (omega arith) refl hooked e.owns
    value_waits (Read path) t e hooked =
        let w = read_width path in
        let h = and_parts (is_read_path facts path)
        (is_typed_path (parts.seen types facts modes procs globals sigs start whole stands_for filled places dest) path)
        e.typed in
        owned.waits_found known modes whole (has_node path) (node_at path) (type_at path) t _ (omega (arith, w))
        (parts.node_read types facts modes procs globals sigs start whole stands_for filled places dest path h.0) hooked e.owns
    value_waits (Early node ty short left right) t e hooked = owned.waits_found known modes whole true node (Some ty) t _ (omega arith) refl hooked e.owns
    value_waits (Choose node ty ByConditions parts) t e hooked = owned.waits_found known modes whole true node ty t _ (omega arith) refl hooked e.owns
    value_waits (Choose node ty (ByLabels labels) parts) t e hooked = owned.waits_found known modes whole true node ty t _ (omega arith) refl hooked e.owns

    pub kept : (e : Expr) (t : ℕ) → Stood e t → Kept t (node_of e).number (type_of e)
    kept e t s hooked = (value_waits e t s hooked).held

    -- where a location leads to a value, which waits where it has hooks
    pub fresh_right : (e : Expr) (to t : ℕ) (b : Bool) → has_hooks facts e ≡ b → Stood e t →
        waiting_right around (L.Fresh to t (if b then Some (node_of e).number else None)) ≡ true
    fresh_right e to t false unhooked s =
        and_from _ _
        (ap not (parts.value_hooked types facts modes procs globals sigs start whole stands_for filled places dest e t s ∙ unhooked)) refl
    fresh_right e to t true hooked s =
        and_from _ _ (parts.value_hooked types facts modes procs globals sigs start whole stands_for filled places dest e t s ∙ hooked)
        (kept e t s hooked)

    pub begun_waits : (read : Bool) (value : Expr) (t : ℕ) → PathStood read (Fresh value) t →
        waiting_right around (begin_line types facts (constant_in value) value t) ≡ true
    begun_waits read value t p = by (constant_in value) refl
      where
        by : (constant : Option Literal) → constant_in value ≡ constant → waiting_right around (begin_line types facts constant value t) ≡ true
        by None e =
            fresh_right value t (suc t) (has_hooks facts value) refl
            (parts.fresh_stood types facts modes procs globals sigs start whole stands_for filled places dest read value t e p)
        by (Some literal) e = refl

    own_ends : (e : Expr) (t : ℕ) (b : Bool) → Stood e t → AllEnd (own_wait facts modes b (node_of e).number (type_of e))
    own_ends e t b s =
        by (has_hooks facts e) b
        (λ hooked. and_from _ _
        (number_hooked (type_of e) (parts.value_listed types facts modes procs globals sigs start whole stands_for e s.listed) hooked)
        (value_waits e t s hooked).ends)
      where
        by : (hooked b : Bool) → (hooked ≡ true → waiting_right around (L.Own (W.TemporaryEnds (node_of e).number (number_or types (type_of e))) []) ≡ true) →
            AllEnd (wait_if (hooked && b) (node_of e).number (type_of e) (form_for facts (type_of e)))
        by false b ends = tt
        by true false ends = tt
        by true true ends = (ends refl, tt)

    mutual
      pub all_end : (e : Expr) (how : Use) (t : ℕ) → Stood e t → AllEnd (waiting facts modes e how)
      all_end (Apply node ty act operands) how t e =
          both (Ends around types) (waiting_all facts modes operands (use_of modes act) 0) _
          (operands_end act (use_of modes act) operands 0 (suc t)
          (parts.operands_stood types facts modes procs globals sigs start whole stands_for filled places dest node ty act operands t e))
          (own_ends (Apply node ty act operands) t (waits_from act how) e)
      all_end (Read path) how t e =
          both (Ends around types) (waiting_at facts modes path) _
          (path_ends true path (suc t) (parts.read_stood types facts modes procs globals sigs start whole stands_for filled places dest path t e))
          (own_ends (Read path) t (is_read (Read path) && reads_kept how) e)
      all_end (Early node ty short left right) how t e =
          both (Ends around types) (waiting facts modes left Owned) _
          (all_end left Owned (suc t) (parts.left_stood types facts modes procs globals sigs start whole stands_for filled places dest node ty short left
          right t e))
          (all_end right Owned (suc t + width left)
          (parts.right_stood types facts modes procs globals sigs start whole stands_for filled places dest node ty short left right t e))
      all_end (Choose node ty ByConditions branches) how t e = own_ends (Choose node ty ByConditions branches) t (waits how) e
      all_end (Choose node ty (ByLabels labels) branches) how t e =
          both (Ends around types) (waiting_first facts modes branches) _
          (first_ends branches 0 (selector_from branches (suc t + arm_count (ByLabels labels)))
          (parts.selected_stood types facts modes procs globals sigs start whole stands_for filled places dest node ty labels branches t e))
          (own_ends (Choose node ty (ByLabels labels) branches) t (waits how) e)

      pub path_ends : (read : Bool) (path : Path) (t : ℕ) → PathStood read path t → AllEnd (waiting_at facts modes path)
      path_ends read (Variable node ty place global) t p = tt
      path_ends read (Fresh value) t p =
          by (constant_in value) refl
          (λ none. all_end value Looked (suc t) (parts.fresh_stood types facts modes procs globals sigs start whole stands_for filled places dest read value t
          none p))
        where
          by : (constant : Option Literal) → constant_in value ≡ constant → (constant_in value ≡ None → AllEnd (waiting facts modes value Looked)) →
              AllEnd (by_constant constant (λ literal. []) (waiting facts modes value Looked))
          by None e ends = ends e
          by (Some literal) e ends = tt
      path_ends read (Field node ty base field) t p =
          path_ends false base (suc t) (parts.base_stood types facts modes procs globals sigs start whole stands_for filled places dest read node ty base
          field t p)
      path_ends read (Element node ty base index constant) t p =
          let b = parts.row_stood types facts modes procs globals sigs start whole stands_for filled places dest read node ty base index constant t p in
          both (Ends around types) (waiting_at facts modes base) _ (path_ends false base (suc t) b.0) (all_end index Owned (suc t + width_at base) b.1)
      path_ends read (Deref ty base) t p =
          path_ends false base (suc t) (parts.object_stood types facts modes procs globals sigs start whole stands_for filled places dest read ty base t p)

      pub operands_end : (act : Act) (uses : ℕ → Use) (args : Args) (i t : ℕ) → AllStood act uses i args t → AllEnd (waiting_all facts modes args uses i)
      operands_end act uses NoArg i t all = tt
      operands_end act uses (ByValue e rest) i t all =
          both (Ends around types) (waiting facts modes e (uses i)) _
          (all_end e (uses i) t (parts.first_stood types facts modes procs globals sigs start whole stands_for filled places dest act uses i e rest t all))
          (operands_end act uses rest (suc i) (t + width e)
          (parts.rest_stood types facts modes procs globals sigs start whole stands_for filled places dest act uses i e rest t all))
      operands_end act uses (ByPath path rest) i t all =
          both (Ends around types) (waiting_at facts modes path) _
          (path_ends false path t (parts.first_path types facts modes procs globals sigs start whole stands_for filled places dest act uses i path rest t all))
          (operands_end act uses rest (suc i) (t + width_at path)
          (parts.behind_path types facts modes procs globals sigs start whole stands_for filled places dest act uses i path rest t all))

      -- of a selector
      pub first_ends : (args : Args) (i t : ℕ) → PartsStood i args t → AllEnd (waiting_first facts modes args)
      first_ends NoArg i t all = tt
      first_ends (ByValue e rest) i t all =
          all_end e Looked t
          (parts.first_stood types facts modes procs globals sigs start whole stands_for filled places dest (Building []) (λ j. Owned) i e rest t all)
      first_ends (ByPath path rest) i t all =
          path_ends false path t
          (parts.first_path types facts modes procs globals sigs start whole stands_for filled places dest (Building []) (λ j. Owned) i path rest t all)

    -- what an operation takes
    one_taken : (e : Expr) (t : ℕ) (b : Bool) (rest : List ℕ) → Stood e t → AllTaken rest → AllTaken (held_if (has_hooks facts e && b) (node_of e).number rest)
    one_taken e t b rest s taken = by (has_hooks facts e) b (λ hooked. (value_waits e t s hooked).some)
      where
        by : (hooked b : Bool) → (hooked ≡ true → waiting_right around (L.Own (W.TakenUp (node_of e).number) []) ≡ true) →
            AllTaken (held_if (hooked && b) (node_of e).number rest)
        by false b some = taken
        by true false some = taken
        by true true some = (some refl, taken)

    pub all_taken : (act : Act) (uses : ℕ → Use) (args : Args) (i t : ℕ) → AllStood act uses i args t → AllTaken (held_from facts modes args uses i)
    all_taken act uses NoArg i t all = tt
    all_taken act uses (ByValue e rest) i t all =
        one_taken e t (is_held (uses i)) (held_from facts modes rest uses (suc i))
        (parts.first_stood types facts modes procs globals sigs start whole stands_for filled places dest act uses i e rest t all)
        (all_taken act uses rest (suc i) (t + width e)
        (parts.rest_stood types facts modes procs globals sigs start whole stands_for filled places dest act uses i e rest t all))
    all_taken act uses (ByPath path rest) i t all =
        all_taken act uses rest (suc i) (t + width_at path)
        (parts.behind_path types facts modes procs globals sigs start whole stands_for filled places dest act uses i path rest t all)

    -- a branch's value is
    pub branch_taken : (e : Expr) (t : ℕ) → Stood e t → AllTaken (held_if (has_hooks facts e) (node_of e).number [])
    branch_taken e t s = by (has_hooks facts e) (λ hooked. (value_waits e t s hooked).some)
      where
        by : (hooked : Bool) → (hooked ≡ true → waiting_right around (L.Own (W.TakenUp (node_of e).number) []) ≡ true) →
            AllTaken (held_if hooked (node_of e).number [])
        by false some = tt
        by true some = (some refl, tt)

-- What the lines of statements stand on: ways out, tests and selectors.
use Rattle.std.proofs.Common.{◌≡◌, ℕ, suc, ◌+◌, Bool, true, false, List, [], ◌∷◌, Option, Some, None, refl, sym, ap, ap₂, ◌∙◌, subst, append-nil}
use Rattle.std.specs.Prelude.{◌&&◌, ◌||◌}
use Rattle.std.proofs.lemmas.Bool.{and_parts, and_from}
use Rattle.nim_types.specs.Types.{Ty, Facts}
use Rattle.nim_types.specs.Table.{type_at as type_at_number}
use Rattle.nim_program.specs.declared.operation.Use.TheVariants.{Owned, Given, Looked}
use Rattle.nim_program.specs.declared.program.Mode.{Mode}
use Rattle.nim_program.specs.declared.stmt.Leaving.{Leaving}
use Rattle.nim_program.specs.declared.stmt.Leaving.TheVariants as K
use Rattle.nim_program.specs.Program.{Building, Label, Expr, Args, NoArg, ByValue, ByPath, Proc, Declared, type_of, type_at}
use Rattle.nim_program.specs.Program.{Stmt}
use Rattle.nim_program.specs.Program.{Stmts, Blocks, Otherwise, Block}
use Rattle.nim_program.specs.Folds.{lists, total, totals, total_in, total_of, own_places}
use Rattle.nim_program.specs.Kinds.{TypeKind, kind_if, is_bool, is_of, is_selected}
use Rattle.nim_program.specs.Fitting.{are_labels, has_label, labels_fit, are_enough}
use Rattle.nim_program.specs.Scopes.{Placed, Here}
use Rattle.nim_program.specs.Typed.{own_types, is_typed, are_typed, Around, are_blocks, has_else, labels_select, selector_kind}
use Rattle.nim_program.specs.Typed.{is_typed_stmt, is_typed_block}
use Rattle.nim_meaning.specs.Here.{is_hooked, gives_hooked}
use Rattle.nim_meaning.specs.Waiting.{waiting_all, waiting_first}
use Rattle.flat_code.specs.declared.line.From.{From}
use Rattle.flat_code.specs.declared.line.From.TheVariants as F
use Rattle.flat_code.specs.declared.line.Owning.TheVariants as W
use Rattle.flat_code.specs.declared.line.Line.{Line}
use Rattle.flat_code.specs.declared.line.Line.TheVariants as L
use Rattle.flat_code.specs.declared.place.FlatPlace.{FlatPlace}
use Rattle.flat_code.specs.Scene.{Known}
use Rattle.flat_code.specs.Fits.{Signature, taken}
use Rattle.flat_code.specs.Leads.{may_fill}
use Rattle.flattening.specs.declared.numbers.Purpose.TheVariants.{End, Next, Arm}
use Rattle.flattening.specs.Formed.{IsListed}
use Rattle.flattening.specs.Numbering.{type_number, width, widths, looked_from, width_in, width_of, label}
use Rattle.flattening.specs.ExprLines.{lines, has_hooks, is_copied}
use Rattle.flattening.specs.Places.{expr_places, part_places}
use Rattle.flattening.specs.Places.{stmt_places, block_places}
use Rattle.flattening.specs.StmtLines.{Exits, leaving_by, ending, in_loop, in_scope, back_lines, place_end, head_ends, selector_ends, gets_line, give_lines}
use Rattle.flattening.specs.StmtLines.{fill_lines, block_tests, selector_lines}
use Rattle.flattening.proofs.Direct.{is_direct, are_direct, is_direct_stmt, is_direct_block}
use Rattle.flattening.proofs.Fit.{Among, Fit, fit_none, fit_line, ◌>>◌, fit_by, fit_ends}
use Rattle.flattening.proofs.FitBlocks as blocks
use Rattle.flattening.proofs.FitExprs as exprs
use Rattle.flattening.proofs.FitWaits as waits
use Rattle.flattening.proofs.FitParts.{turned, never, both_some, of_same}
use Rattle.flattening.proofs.FitParts as parts
use Rattle.flattening.proofs.FitPaths as paths
use Rattle.flattening.proofs.Numbered.{Owns}
use Rattle.flattening.proofs.Owned as owned
use Rattle.flattening.proofs.Parts.{Each}
use Rattle.flattening.proofs.StoodPlaces.{Mark, marks_in, marks_of}

module _ (types : List Ty) (facts : Facts) (modes : (proc position : ℕ) → Mode) (procs : List Proc) (globals : List Placed) (sigs : List Signature)
    (start whole : List FlatPlace) (stands_for : ℕ → Bool)
    (result : Option Declared)
    (grounds : parts.Grounds types facts modes procs globals sigs start whole stands_for) where
  abbrev around : Among
  around = parts.around types facts modes procs globals sigs start whole stands_for

  abbrev known : Known
  known = parts.known types facts modes procs globals sigs start whole stands_for

  abbrev value : ℕ → Option Ty
  value = parts.value types facts modes procs globals sigs start whole stands_for

  abbrev own_place : ℕ → Option Ty
  own_place = blocks.own_place types facts modes procs globals sigs start whole stands_for

  abbrev Held : Declared → Type 0
  Held = blocks.Held types facts modes procs globals sigs start whole stands_for

  abbrev Marked : Mark → Type 0
  Marked = blocks.Marked types facts modes procs globals sigs start whole stands_for

  abbrev Sees : ℕ → List Placed → Type 0
  Sees = parts.Sees types facts modes procs globals sigs start whole stands_for

  abbrev Listed : List Ty → Type 0
  Listed = Each (IsListed types)

  abbrev here : ℕ → List Placed → Option ℕ → Here
  here = parts.seen types facts modes procs globals sigs start whole stands_for

  -- ---- ways out, and the result

  pub record ExitsFit (exits : Exits) : Type 0 where
    pub breaks : Fit around exits.breaks
    pub continues : Fit around exits.continues
    pub returns : Fit around exits.returns

  pub ending_fits : {ends : List Line → List Line} (exits : Exits) → Fit around ends → ExitsFit exits → ExitsFit (ending ends exits)
  ending_fits exits ends fit = record { breaks = ends >> fit.breaks; continues = ends >> fit.continues; returns = ends >> fit.returns }

  pub leaving_fits : (exits : Exits) (leaving : Leaving) → ExitsFit exits → Fit around (leaving_by exits leaving)
  leaving_fits exits K.Break fit = fit.breaks
  leaving_fits exits K.Continue fit = fit.continues
  leaving_fits exits K.Return fit = fit.returns

  pub in_loop_fits : (exits : Exits) (t : ℕ) → ExitsFit exits → ExitsFit (in_loop exits t)
  in_loop_fits exits t fit =
      record { breaks = fit_line (L.Jump (label End t)) refl refl; continues = fit_line (L.Jump (label Next t)) refl refl; returns = fit.returns }

  pub back_fits : (exits : Exits) (back : Bool) → ExitsFit exits → Fit around (back_lines exits back)
  back_fits exits true fit = fit.returns
  back_fits exits false fit = fit_none

  -- a place ends where its scope does
  pub place_end_fits : (place : Declared) → IsListed types place.of →
      parts.named types facts modes procs globals sigs start whole stands_for place.number false ≡ Some place.of → Fit around (place_end types facts place)
  place_end_fits place listed named =
      fit_by (is_hooked facts place.of)
      (λ hooked. fit_line (L.Own (W.PlaceEnds place.number (type_number types place.of)) []) (and_from _ _ (ap (is_hooked facts) listed ∙ hooked) refl)
      (both_some _ _ (Some place.of) refl named (ap Some listed)))
      (λ unhooked. fit_none)

  pub scope_fits : (place : Declared) (exits : Exits) → IsListed types place.of → Held place → ExitsFit exits →
      ExitsFit (in_scope types facts modes result place exits)
  scope_fits place exits listed held fit = ending_fits exits (place_end_fits place listed held.named) fit

  abbrev pub ResultFits : Option Declared → Option Ty → Type 0
  ResultFits None gives = gives ≡ None
  ResultFits (Some place) gives =
      (own_place place.number ≡ Some place.of) × (gives ≡ Some place.of) × IsListed types place.of × (may_fill known whole stands_for place.number ≡ true)

  -- the type of what comes to a place has hooks
  type_hooked : (ty : Ty) (of : Option Ty) → IsListed types ty → of ≡ Some ty → gives_hooked facts of ≡ true →
      is_hooked facts (type_at_number types (type_number types ty)) ≡ true
  type_hooked ty of listed is hooked = ap (is_hooked facts) listed ∙ (sym (ap (gives_hooked facts) is) ∙ hooked)

  abbrev taken_from : From → Option Ty
  taken_from = taken known sigs start whole

  pub gets_fits : (place : Option Declared) (hooked : Bool) (from : From) (gives of : Option Ty) → ResultFits place gives → taken_from from ≡ of →
      is_of of gives ≡ true → (hooked ≡ true → gives_hooked facts of ≡ true) →
      Fit around (gets_line types facts modes result place hooked from)
  gets_fits None hooked from gives of fits e h has = fit_none
  gets_fits (Some place) true from gives of fits e h has =
      fit_line _
      (and_from _ _ (and_from _ _ (type_hooked place.of of fits.2 (of_same of gives h ∙ fits.1) (has refl)) fits.3) refl)
      (and_from _ _ (both_some _ _ (Some place.of) refl fits.0 (ap Some fits.2)) (ap₂ is_of e (ap Some fits.2 ∙ sym fits.1) ∙ h))
  gets_fits (Some place) false (F.Value from) gives of fits e h has =
      fit_line (L.Give place.number from) (and_from _ _ fits.3 refl) (ap₂ is_of (fits.0 ∙ sym fits.1) e ∙ turned of gives h)
  gets_fits (Some place) false (F.Place from) gives of fits e h has = fit_none

  -- nothing behind the one value
  pub owns_nothing : {hi : ℕ} (e : Expr) (t : ℕ) → Owns whole (expr_places types facts modes e t) t t hi →
      Owns whole (part_places types facts modes (ByValue e NoArg) t) t t hi
  owns_nothing {hi} e t owns = subst (λ all. Owns whole all t t hi) (sym (append-nil (expr_places types facts modes e t))) owns

  -- ---- what is known of parts

  module _ (filled : ℕ) (places : List Placed) (dest : Option ℕ) (sees : Sees filled places) where
    abbrev at : Here
    at = here filled places dest

    abbrev Stood : Expr → ℕ → Type 0
    Stood = parts.Stood types facts modes procs globals sigs start whole stands_for filled places dest

    abbrev PartsStood : (position : ℕ) → Args → (t : ℕ) → Type 0
    PartsStood = parts.PartsStood types facts modes procs globals sigs start whole stands_for filled places dest

    abbrev value_is : (e : Expr) (t : ℕ) → Stood e t → value t ≡ type_of e
    value_is = parts.value_is types facts modes procs globals sigs start whole stands_for filled places dest

    abbrev expr_fits : (e : Expr) (how : _) (t : ℕ) → Stood e t → Fit around (lines types facts modes e how t)
    expr_fits = exprs.expr_fits types facts modes procs globals sigs start whole stands_for grounds filled places dest sees

    pub first_stood : (i : ℕ) (e : Expr) (rest : Args) (t : ℕ) → PartsStood i (ByValue e rest) t → Stood e t
    first_stood i = parts.first_stood types facts modes procs globals sigs start whole stands_for filled places dest (Building []) (λ j. Owned) i

    -- temporaries of a head, and of a selector
    pub head_ends_fit : (head : Args) (t : ℕ) → PartsStood 0 head t → Fit around (head_ends types facts modes result head)
    head_ends_fit head t all =
        fit_ends types (waiting_all facts modes head (λ i. Owned) 0)
        (waits.operands_end types facts modes procs globals sigs start whole stands_for filled places dest (Building []) (λ i. Owned) head 0 t all)

    pub selector_ends_fit : (tests : Args) (t : ℕ) → PartsStood 0 tests t → Fit around (selector_ends types facts modes result tests)
    selector_ends_fit tests t all =
        fit_ends types (waiting_first facts modes tests)
        (waits.first_ends types facts modes procs globals sigs start whole stands_for filled places dest tests 0 t all)

    pub value_stood : (e : Expr) (t : ℕ) → is_typed at e ≡ true → is_direct facts e ≡ true → Listed (total lists own_types e) →
        Owns whole (expr_places types facts modes e t) t t (t + width e) → Stood e t
    value_stood e t typed direct listed owns =
        blocks.stood types facts modes procs globals sigs start whole stands_for filled places dest e t typed direct listed owns

    -- parts of which none is lent
    pub parts_stood : (args : Args) (t : ℕ) → are_typed at args ≡ true → are_direct facts args ≡ true → Listed (totals lists own_types args) →
        Owns whole (part_places types facts modes args t) t t (t + widths args) → PartsStood 0 args t
    parts_stood args t typed direct listed owns =
        record { typed = typed; direct = direct; listed = listed; owns = owned.parts_as_operands known modes whole args 0 t owns }

    -- the one value of a head and the like
    pub one_value : (e : Expr) (t : ℕ) → are_typed at (ByValue e NoArg) ≡ true → are_direct facts (ByValue e NoArg) ≡ true →
        Listed (totals lists own_types (ByValue e NoArg)) → Owns whole (part_places types facts modes (ByValue e NoArg) t) t t (t + widths (ByValue e NoArg)) →
        Stood e t
    one_value e t typed direct listed owns = first_stood 0 e NoArg t (parts_stood (ByValue e NoArg) t typed direct listed owns)

    -- the result gets a value, or a copy
    pub give_fits : (e : Expr) (t : ℕ) (gives : Option Ty) → ResultFits result gives → is_of (type_of e) gives ≡ true →
        Stood e t → Fit around (give_lines types facts modes result e t)
    give_fits e t gives fits h s =
        fit_by (is_copied facts Given e)
        (λ copied. exprs.copied_fits types facts modes procs globals sigs start whole stands_for grounds filled places dest sees e t s
        >> gets_fits result true (F.Place (suc t)) gives (type_of e) fits
        (parts.copied_leads types facts modes procs globals sigs start whole stands_for filled places dest Given e t copied s) h
        (λ is. (and_parts (has_hooks facts e) _ copied).0))
        (λ not_copied. expr_fits e Given t s >> gets_fits result (has_hooks facts e) (F.Value t) gives (type_of e) fits (value_is e t s) h (λ is. is))

    -- a declared place is filled with a value, or with a copy
    pub fill_fits : (place : Declared) (e : Expr) (t : ℕ) → IsListed types place.of → Held place → may_fill known whole stands_for place.number ≡ true →
        is_of (type_of e) (Some place.of) ≡ true → Stood e t → Fit around (fill_lines types facts modes result place e t)
    fill_fits place e t listed held fills h s =
        fit_by (is_copied facts Given e)
        (λ copied. exprs.copied_fits types facts modes procs globals sigs start whole stands_for grounds filled places dest sees e t s
        >> fit_line (L.Own (W.PlaceCopies place.number (type_number types place.of)) (F.Place (suc t) ∷ []))
        (and_from _ _
        (and_from _ _ (type_hooked place.of (type_of e) listed (of_same (type_of e) (Some place.of) h) (and_parts (has_hooks facts e) _ copied).0) fills) refl)
        (and_from _ _ (both_some _ _ (Some place.of) refl held.own (ap Some listed))
        (ap₂ is_of (parts.copied_leads types facts modes procs globals sigs start whole stands_for filled places dest Given e t copied s)
        (ap Some listed) ∙ h)))
        (λ not_copied. expr_fits e Given t s
        >> fit_line (L.Fill place.number t) (and_from _ _ fills refl) (ap₂ is_of held.own (value_is e t s) ∙ turned (type_of e) (Some place.of) h))

    -- the tests of all labels
    pub block_tests_fit : (k : TypeKind) (labels : List (List Label)) (bs : Blocks) (s arm : ℕ) → kind_if facts (value s) ≡ k → are_labels k labels ≡ true →
        Fit around (block_tests labels bs s arm)
    block_tests_fit k labels (Otherwise block) s arm e h = fit_none
    block_tests_fit k [] (Block first rest) s arm e h = fit_none
    block_tests_fit k (these ∷ labels) (Block first rest) s arm e h =
        let q = and_parts (has_label these && labels_fit k these) (are_labels k labels) h in
        exprs.tests_fit types facts modes procs globals sigs start whole stands_for grounds filled places dest sees k these s (label Arm arm) e
        (and_parts (has_label these) (labels_fit k these) q.0).1
        >> block_tests_fit k labels rest s (suc arm) e q.1

    pub bool_at : (t : ℕ) (ty : Option Ty) → value t ≡ ty → is_bool (kind_if facts ty) ≡ true → is_bool (kind_if facts (value t)) ≡ true
    bool_at = exprs.bool_at types facts modes procs globals sigs start whole stands_for grounds filled places dest sees

    -- what selects, and its kind
    pub record Selects (labels : List (List Label)) (selector : Args) (u : ℕ) : Type 0 where
      pub fit : Fit around (selector_lines types facts modes result selector u)
      pub kind : kind_if facts (value u) ≡ selector_kind facts selector

    no_kind : {A : Type 0} (labels : List (List Label)) (bs : Blocks) → labels_select TypeKind.other labels bs ≡ true → A
    no_kind labels bs h =
        never (and_parts false (are_labels TypeKind.other labels)
        (and_parts _ (are_blocks labels bs) (and_parts _ (has_else bs || are_enough TypeKind.other None labels) h).0).0).0

    pub selects : (labels : List (List Label)) (selector : Args) (bs : Blocks) (u : ℕ) → labels_select (selector_kind facts selector) labels bs ≡ true →
        are_typed at selector ≡ true → are_direct facts selector ≡ true → Listed (totals lists own_types selector) →
        owned.ChoiceOwned known modes whole selector u → Selects labels selector u
    selects labels NoArg bs u h typed direct listed owns = no_kind labels bs h
    selects labels (ByValue e NoArg) bs u h typed direct listed owns =
        let s = one_value e u typed direct listed owns in record { fit = expr_fits e Looked u s; kind = ap (kind_if facts) (value_is e u s) }
    selects labels (ByValue e (ByValue f rest)) bs u h typed direct listed owns = no_kind labels bs h
    selects labels (ByValue e (ByPath path rest)) bs u h typed direct listed owns = no_kind labels bs h
    selects labels (ByPath path NoArg) bs u h typed direct listed owns =
        let from = looked_from path u in
        let all = parts_stood (ByPath path NoArg) from typed direct listed (owned.parts_owned known modes whole (ByPath path NoArg) u owns) in
        let p = parts.first_path types facts modes procs globals sigs start whole stands_for filled places dest (Building []) (λ j. Owned) 0 path NoArg
        from all in
        let l = parts.leads types facts modes procs globals sigs start whole stands_for filled places dest false path from p in
        let is = parts.selector_is types facts modes procs globals sigs start whole stands_for filled places dest path NoArg u owns all in
        let k = kind_if facts (type_at path) in
        let selected = (and_parts (is_selected k) (are_labels k labels) (and_parts _ (are_blocks labels bs) (and_parts _ _ h).0).0).0 in
        record {
          fit = exprs.aim_fits types facts modes procs globals sigs start whole stands_for grounds filled places dest sees false path from p
              >> (paths.find_fits types facts modes procs globals sigs start whole stands_for grounds filled places dest sees false path from p
              >> fit_line (L.Look u from) refl
              (and_from _ _ (both_some _ _ (type_at path) (parts.path_typed types facts modes procs globals sigs start whole stands_for filled places dest
              false path from p) is l.type) (ap (λ o. is_selected (kind_if facts o)) l.type ∙ selected)));
          kind = ap (kind_if facts) is;
        }
    selects labels (ByPath path (ByValue e rest)) bs u h typed direct listed owns = no_kind labels bs h
    selects labels (ByPath path (ByPath other rest)) bs u h typed direct listed owns = no_kind labels bs h

  -- ---- statements and blocks

  pub record StmtStood (filled : ℕ) (places : List Placed) (dest : Option ℕ) (by : Around) (s : Stmt) (t : ℕ) : Type 0 where
    pub typed : is_typed_stmt (here filled places dest) by s ≡ true
    pub direct : is_direct_stmt facts s ≡ true
    pub listed : Listed (total_in lists own_types s)
    pub held : Each Held (total_in lists own_places s)
    pub marks : Each Marked (marks_in facts s)
    pub owns : Owns whole (stmt_places types facts modes s t) t t (t + width_in s)

  pub record BlockStood (filled : ℕ) (places : List Placed) (dest : Option ℕ) (by : Around) (b : Stmts) (t : ℕ) : Type 0 where
    pub typed : is_typed_block (here filled places dest) by b ≡ true
    pub direct : is_direct_block facts b ≡ true
    pub listed : Listed (total_of lists own_types b)
    pub held : Each Held (total_of lists own_places b)
    pub marks : Each Marked (marks_of facts b)
    pub owns : Owns whole (block_places types facts modes b t) t t (t + width_of b)

-- The lines of declarations and of loops fit.
use Rattle.std.proofs.Common.{◌≡◌, ℕ, suc, ◌+◌, Bool, true, false, List, [], ◌∷◌, ◌++◌, Option, Some, None, refl, ap, ap₂, ◌∙◌, arith}
use Rattle.std.specs.Prelude.{◌&&◌, not}
use Rattle.std.proofs.lemmas.Bool.{and_parts, and_from}
use Rattle.nim_types.specs.Types.{Ty, Facts}
use Rattle.nim_types.specs.Types as type
use Rattle.nim_program.specs.declared.expr.Node.{Node}
use Rattle.nim_program.specs.declared.operation.Use.TheVariants.{Owned, Given}
use Rattle.nim_program.specs.declared.program.Mode.{Mode}
use Rattle.nim_program.specs.Program.{Building, Expr, Path, Args, NoArg, ByValue, ByPath, Proc, Declared, type_of, type_at}
use Rattle.nim_program.specs.Program.{Kind, Count, Each as OfEach, Stmt, Loop}
use Rattle.nim_program.specs.Program.{is_written, Stmts, Declare, Blocks, Otherwise, Block}
use Rattle.nim_program.specs.Folds.{lists, totals, total_of, each_block, own_places}
use Rattle.nim_program.specs.Kinds.{kind_of, kind_if, is_int, has_length, element_of, is_of}
use Rattle.nim_program.specs.Scopes.{Placed, placed, Here}
use Rattle.nim_program.specs.Typed.{own_types, are_typed, Around, looping}
use Rattle.nim_program.specs.Typed.{head_fits, starts, is_empty, is_typed_block, are_typed_blocks}
use Rattle.nim_meaning.specs.Here.{is_hooked, gives_hooked}
use Rattle.nim_meaning.specs.Meaning.{is_fresh}
use Rattle.flat_code.specs.declared.line.Line.TheVariants as L
use Rattle.flat_code.specs.declared.place.FlatPlace.{FlatPlace}
use Rattle.flat_code.specs.Fits.{Signature}
use Rattle.flattening.specs.declared.numbers.Purpose.TheVariants.{End, Next, Arm, Turn}
use Rattle.flattening.specs.Formed.{IsListed}
use Rattle.flattening.specs.Numbering.{type_number, width, widths, width_in, width_of, label}
use Rattle.flattening.specs.Places.{part_places, head_from}
use Rattle.flattening.specs.Places.{stmt_places, block_places}
use Rattle.flattening.specs.StmtLines.{Exits, ending, in_loop, in_scope, head_ends, hooked_element}
use Rattle.flattening.specs.StmtLines.{lines_in, lines_of}
use Rattle.flattening.proofs.Direct.{are_direct, is_direct_block, are_direct_blocks}
use Rattle.flattening.proofs.Fit.{Among, Fit, fitting, waiting_right, fit_line, fit_by, ◌>>◌}
use Rattle.flattening.proofs.FitBlocks.{the_int}
use Rattle.flattening.proofs.FitBlocks as blocks
use Rattle.flattening.proofs.FitExprs as exprs
use Rattle.flattening.proofs.FitParts.{turned, never, both_some}
use Rattle.flattening.proofs.FitParts as parts
use Rattle.flattening.proofs.FitPaths as paths
use Rattle.flattening.proofs.FitPaths.{both_same}
use Rattle.flattening.proofs.Numbered.{Owns, owns_first, owns_second, owns_inner}
use Rattle.flattening.proofs.Owned as owned
use Rattle.flattening.proofs.Parts.{Each, EachIn, apart}
use Rattle.flattening.proofs.PlaceNumbers.{part_numbers, loop_numbers, head_after, head_width, value_numbers}
use Rattle.flattening.proofs.PlaceNumbers.{block_numbers}
use Rattle.flattening.proofs.StoodPlaces.{Mark, mark, marks_of, marks_of_blocks}
use Rattle.flattening.proofs.FitTests as standing

module _ (types : List Ty) (facts : Facts) (modes : (proc position : ℕ) → Mode) (procs : List Proc) (globals : List Placed) (sigs : List Signature)
    (start whole : List FlatPlace) (stands_for : ℕ → Bool)
    (result : Option Declared)
    (grounds : parts.Grounds types facts modes procs globals sigs start whole stands_for) where
  abbrev around : Among
  around = parts.around types facts modes procs globals sigs start whole stands_for

  abbrev value : ℕ → Option Ty
  value = parts.value types facts modes procs globals sigs start whole stands_for

  abbrev own_place : ℕ → Option Ty
  own_place = blocks.own_place types facts modes procs globals sigs start whole stands_for

  abbrev Held : Declared → Type 0
  Held = blocks.Held types facts modes procs globals sigs start whole stands_for

  abbrev Marked : Mark → Type 0
  Marked = blocks.Marked types facts modes procs globals sigs start whole stands_for

  abbrev Sees : ℕ → List Placed → Type 0
  Sees = parts.Sees types facts modes procs globals sigs start whole stands_for

  abbrev Listed : List Ty → Type 0
  Listed = Each (IsListed types)

  abbrev here : ℕ → List Placed → Option ℕ → Here
  here = parts.seen types facts modes procs globals sigs start whole stands_for

  abbrev StmtStood : (filled : ℕ) (places : List Placed) (dest : Option ℕ) (by : Around) (s : Stmt) (t : ℕ) → Type 0
  StmtStood = standing.StmtStood types facts modes procs globals sigs start whole stands_for result grounds

  abbrev BlockStood : (filled : ℕ) (places : List Placed) (dest : Option ℕ) (by : Around) (b : Stmts) (t : ℕ) → Type 0
  BlockStood = standing.BlockStood types facts modes procs globals sigs start whole stands_for result grounds

  -- ---- declarations

  -- what is known of one, and of what follows it
  pub record Declares (filled : ℕ) (places : List Placed) (dest : Option ℕ) (node : Node) (place : Declared) (cursor : Bool) (value : Args) (rest : Stmts)
      (t : ℕ) : Type 0 where
    pub starts_right : starts facts place.of value ≡ true
    pub typed : are_typed (here filled places dest) value ≡ true
    pub direct : are_direct facts value ≡ true
    pub listed : Listed (totals lists own_types value)
    pub place_listed : IsListed types place.of
    pub place_held : Held place
    pub place_marked : Marked (mark place false)
    pub rest_direct : is_direct_block facts rest ≡ true
    pub rest_listed : Listed (total_of lists own_types rest)
    pub rest_held : Each Held (total_of lists own_places rest)
    pub rest_marks : Each Marked (marks_of facts rest)
    pub owns : Owns whole (block_places types facts modes (Declare node place cursor value rest) t) t t (t + width_of (Declare node place cursor value rest))

  pub declared_known : (filled : ℕ) (places : List Placed) (dest : Option ℕ) (node : Node) (place : Declared) (cursor : Bool) (value : Args) (rest : Stmts)
      (t : ℕ) →
      Sees filled places → starts facts place.of value && are_typed (here filled places dest) value ≡ true →
      is_direct_block facts (Declare node place cursor value rest) ≡ true → Listed (total_of lists own_types (Declare node place cursor value rest)) →
      Each Held (total_of lists own_places (Declare node place cursor value rest)) → Each Marked (marks_of facts (Declare node place cursor value rest)) →
      Owns whole (block_places types facts modes (Declare node place cursor value rest) t) t t (t + width_of (Declare node place cursor value rest)) →
      Declares filled places dest node place cursor value rest t
  declared_known filled places dest node place cursor value rest t sees h p l d marks owns =
      let q = and_parts (starts facts place.of value) (are_typed (here filled places dest) value) h in
      let r = and_parts (are_direct facts value) (is_direct_block facts rest) p in
      let m = apart (IsListed types) (totals lists own_types value) (total_of lists own_types rest) l.1 in
      let e = apart Held (totals lists own_places value) (total_of lists own_places rest) d.1 in
      record {
        starts_right = q.0;
        typed = q.1;
        direct = r.0;
        listed = m.0;
        place_listed = l.0;
        place_held = d.0;
        place_marked = marks.0;
        rest_direct = r.1;
        rest_listed = m.1;
        rest_held = e.1;
        rest_marks = marks.1;
        owns = owns;
      }

  module _ (filled : ℕ) (places : List Placed) (dest : Option ℕ) (sees : Sees filled places) (node : Node) (place : Declared) (cursor : Bool) where
    abbrev RestFits : Stmts → Exits → Type 0
    RestFits rest exits = (u : ℕ) → Owns whole (block_places types facts modes rest u) u u (u + width_of rest) →
        Fit around (lines_of types facts modes result rest exits u)

    -- what follows is in the scope of the place
    pub declared_fits : (value : Args) (rest : Stmts) (exits : Exits) (t : ℕ) → Declares filled places dest node place cursor value rest t →
        RestFits rest (in_scope types facts modes result place exits) →
        Fit around (lines_of types facts modes result (Declare node place cursor value rest) exits t)
    declared_fits NoArg rest exits t k rest_fits =
        fit_line (L.Blank place.number (type_number types place.of)) (and_from _ _ (k.place_marked.fills refl) refl)
        (both_some _ _ (Some place.of) refl k.place_held.own (ap Some k.place_listed))
        >> (rest_fits (suc t) (owns_inner (suc t) (suc t + width_of rest) (omega arith) (omega arith) (omega arith) k.owns)
        >> standing.place_end_fits types facts modes procs globals sigs start whole stands_for result grounds place k.place_listed k.place_held.named)
    declared_fits (ByValue e NoArg) rest exits t k rest_fits =
        let value' = ByValue e NoArg in
        let o = owns_inner (suc t) (suc t + widths value' + width_of rest) (omega arith) (omega arith) (omega arith) k.owns in
        let s = standing.one_value types facts modes procs globals sigs start whole stands_for result grounds filled places dest sees e (suc t) k.typed k.direct
        k.listed
        (standing.owns_nothing types facts modes procs globals sigs start whole stands_for result grounds e (suc t)
        (owns_first (suc t + widths value') (suc t + widths value' + width_of rest) (omega arith)
        (block_numbers types facts modes rest (suc t + widths value')) o)) in
        standing.fill_fits types facts modes procs globals sigs start whole stands_for result grounds filled places dest sees place e (suc t) k.place_listed
        k.place_held
        (k.place_marked.fills refl) k.starts_right s
        >> (exprs.value_ends_fit types facts modes procs globals sigs start whole stands_for grounds filled places dest sees e Given (suc t) s
        >> (rest_fits (suc t + widths value')
        (owns_second (suc t) (suc t + widths value') (suc t + widths value' + width_of rest) (omega arith) (omega arith) (omega arith)
        (value_numbers types facts modes value' (suc t)) o)
        >> standing.place_end_fits types facts modes procs globals sigs start whole stands_for result grounds place k.place_listed k.place_held.named))
    declared_fits (ByValue e (ByValue f more)) rest exits t k rest_fits = never k.starts_right
    declared_fits (ByValue e (ByPath path more)) rest exits t k rest_fits = never k.starts_right
    declared_fits (ByPath path more) rest exits t k rest_fits = never k.starts_right

  -- several blocks, wherever their temporaries are
  pub record BlocksKnown (filled : ℕ) (places : List Placed) (dest : Option ℕ) (by : Around) (bs : Blocks) : Type 0 where
    pub typed : are_typed_blocks (here filled places dest) by bs ≡ true
    pub direct : are_direct_blocks facts bs ≡ true
    pub listed : EachIn (IsListed types) (each_block lists own_types bs)
    pub held : EachIn Held (each_block lists own_places bs)
    pub marks : Each Marked (marks_of_blocks facts bs)

  pub rest_known : (filled : ℕ) (places : List Placed) (dest : Option ℕ) (by : Around) (first : Stmts) (rest : Blocks) →
      BlocksKnown filled places dest by (Block first rest) → BlocksKnown filled places dest by rest
  rest_known filled places dest by first rest bs = record {
    typed = (and_parts _ (are_typed_blocks (here filled places dest) by rest) bs.typed).1;
    direct = (and_parts (is_direct_block facts first) (are_direct_blocks facts rest) bs.direct).1;
    listed = bs.listed.1;
    held = bs.held.1;
    marks = (apart Marked (marks_of facts first) (marks_of_blocks facts rest) bs.marks).1;
  }

  pub first_block : (filled : ℕ) (places : List Placed) (dest : Option ℕ) (by : Around) (first : Stmts) (rest : Blocks) (t : ℕ) →
      BlocksKnown filled places dest by (Block first rest) → Owns whole (block_places types facts modes first t) t t (t + width_of first) →
      BlockStood filled places dest by first t
  first_block filled places dest by first rest t bs owns = record {
    typed = (and_parts _ (is_typed_block (here filled places dest) by first) (and_parts _ (are_typed_blocks (here filled places dest) by rest) bs.typed).0).1;
    direct = (and_parts (is_direct_block facts first) (are_direct_blocks facts rest) bs.direct).0;
    listed = bs.listed.0;
    held = bs.held.0;
    marks = (apart Marked (marks_of facts first) (marks_of_blocks facts rest) bs.marks).0;
    owns = owns;
  }

  pub last_block : (filled : ℕ) (places : List Placed) (dest : Option ℕ) (by : Around) (block : Stmts) (t : ℕ) →
      BlocksKnown filled places dest by (Otherwise block) → Owns whole (block_places types facts modes block t) t t (t + width_of block) →
      BlockStood filled places dest by block t
  last_block filled places dest by block t bs owns =
      record { typed = bs.typed; direct = bs.direct; listed = bs.listed.0; held = bs.held.0; marks = bs.marks; owns = owns }

  -- what is known of the parts of a loop
  pub loop_parts : (node : Node) (kind : Kind) (head : Args) (body : Stmts) (t : ℕ) →
      Owns whole (stmt_places types facts modes (Loop node kind head body) t) t t
      (t + width_in (Loop node kind head body)) →
      Owns whole (part_places types facts modes head (head_from kind t)) (head_from kind t) (head_from kind t) (head_from kind t + widths head)
      × Owns whole (block_places types facts modes body (head_from kind t + widths head)) (head_from kind t + widths head) (head_from kind t + widths head)
      (head_from kind t + widths head + width_of body)
  loop_parts node kind head body t owns =
      let h = head_after types facts modes kind t in
      let e = head_width types facts modes node kind head body t in
      let from = head_from kind t in
      let parts = owns_second t from (from + widths head + width_of body) (omega (arith, h)) (omega (arith, h)) (omega (arith, e))
      (loop_numbers types facts modes node kind head t (omega arith) (omega arith)) owns in (
        owns_first (from + widths head) (from + widths head + width_of body) (omega arith) (block_numbers types facts modes body (from + widths head)) parts,
        owns_second from (from + widths head) (from + widths head + width_of body) (omega arith) (omega arith) (omega arith)
            (part_numbers types facts modes head from) parts,
      )

  pub int_at : (t : ℕ) (ty : Option Ty) → value t ≡ ty → is_int (kind_if facts ty) ≡ true → is_int (kind_if facts (value t)) ≡ true
  int_at t ty e h = ap (λ o. is_int (kind_if facts o)) e ∙ h

  -- two types that are ints are one
  pub both_int : (a : Option Ty) (ty : Ty) → is_int (kind_if facts a) ≡ true → is_int (kind_of facts ty) ≡ true → is_of a (Some ty) ≡ true
  both_int None ty h k = never h
  both_int (Some s) ty h k = ap₂ (λ s t. is_of (Some s) (Some t)) (the_int facts s h) (the_int facts ty k)

  module _ (filled : ℕ) (places : List Placed) (dest : Option ℕ) (by : Around) (node : Node) (variable : Declared) (body : Stmts) (exits : Exits) (t : ℕ)
      (sees : Sees filled places) where
    -- what is around the body
    abbrev pub inside : (head : Args) → Exits
    inside head = in_scope types facts modes result variable (in_loop (ending (head_ends types facts modes result head) exits) t)

    pub inside_fits : (head : Args) → Fit around (head_ends types facts modes result head) → IsListed types variable.of → Held variable →
        standing.ExitsFit types facts modes procs globals sigs start whole stands_for result
        grounds exits → standing.ExitsFit types facts modes procs globals sigs start whole stands_for result grounds (inside head)
    inside_fits head ends listed held fit =
        standing.scope_fits types facts modes procs globals sigs start whole stands_for result grounds variable
        (in_loop (ending (head_ends types facts modes result head) exits) t) listed held
        (standing.in_loop_fits types facts modes procs globals sigs start whole stands_for result grounds
        (ending (head_ends types facts modes result head) exits) t
        (standing.ending_fits types facts modes procs globals sigs start whole stands_for result grounds exits ends fit))

    abbrev BodyFits : (head : Args) → ℕ → Type 0
    BodyFits head u = (more : List Placed) → Sees filled more → Fit around (head_ends types facts modes result head) →
        BlockStood filled more dest (looping by) body u → Fit around (lines_of types facts modes result body (inside head) u)

    -- a range
    count_two : (inclusive : Bool) (first last : Expr) →
        StmtStood filled places dest by (Loop node (Count variable inclusive) (ByValue first (ByValue last NoArg)) body) t →
        BodyFits (ByValue first (ByValue last NoArg)) (suc t + widths (ByValue first (ByValue last NoArg))) →
        Fit around (lines_in types facts modes result (Loop node (Count variable inclusive) (ByValue first (ByValue last NoArg)) body) exits t)
    count_two inclusive first last s body_fits =
        let head = ByValue first (ByValue last NoArg) in
        let h = and_parts (head_fits facts (Count variable inclusive) head && are_typed (here filled places dest) head) _ s.typed in
        let q = and_parts (head_fits facts (Count variable inclusive) head) (are_typed (here filled places dest) head) h.0 in
        let i = and_parts (is_int (kind_of facts variable.of) && is_int (kind_if facts (type_of first))) (is_int (kind_if facts (type_of last))) q.0 in
        let j = and_parts (is_int (kind_of facts variable.of)) (is_int (kind_if facts (type_of first))) i.0 in
        let o = loop_parts node (Count variable inclusive) head body t s.owns in
        let p = and_parts (are_direct facts head) (is_direct_block facts body) s.direct in
        let l = apart (IsListed types) (totals lists own_types head) (total_of lists own_types body) s.listed.1 in
        let d = apart Held (totals lists own_places head) (total_of lists own_places body) s.held.1 in
        let all = standing.parts_stood types facts modes procs globals sigs start whole stands_for result grounds filled places dest sees head (suc t) q.1 p.0
        l.0 o.0 in
        let ends = standing.head_ends_fit types facts modes procs globals sigs start whole stands_for result grounds filled places dest sees head (suc t) all in
        let a = standing.first_stood types facts modes procs globals sigs start whole stands_for result grounds filled places dest sees 0 first
        (ByValue last NoArg)
        (suc t) all in
        let b = standing.first_stood types facts modes procs globals sigs start whole stands_for result grounds filled places dest sees 1 last NoArg
        (suc t + width first)
        (parts.rest_stood types facts modes procs globals sigs start whole stands_for filled places dest (Building []) (λ i. Owned) 0 first (ByValue last NoArg)
        (suc t) all) in
        let a_is = parts.value_is types facts modes procs globals sigs start whole stands_for filled places dest first (suc t) a in
        let b_is = parts.value_is types facts modes procs globals sigs start whole stands_for filled places dest last (suc t + width first) b in
        let both = and_from _ _ (int_at (suc t) (type_of first) a_is j.1) (int_at (suc t + width first) (type_of last) b_is i.1) in
        exprs.ready_fits types facts modes procs globals sigs start whole stands_for grounds filled places dest sees (Building []) head (λ i. Owned) 0
        (suc t) all
        >> (fit_line (L.Beyond (suc t) (suc t + width first) inclusive (label End t)) refl both
        >> (fit_line L.Enter refl refl
        >> (fit_line (L.Label (label Turn t)) refl refl
        >> (fit_line (L.Fill variable.number (suc t)) (and_from _ _ (s.marks.0.fills refl) refl) (ap₂ is_of s.held.0.own a_is
        ∙ turned (type_of first) (Some variable.of) (both_int (type_of first) variable.of j.1 j.0))
        >> (body_fits (places ++ placed variable ∷ [])
        (blocks.sees_place types facts modes procs globals sigs start whole stands_for filled places variable sees s.held.0) ends
        (record { typed = (and_parts (not (is_empty body)) _ h.1).1; direct = p.1; listed = l.1; held = d.1; marks = s.marks.1; owns = o.1 })
        >> (standing.place_end_fits types facts modes procs globals sigs start whole stands_for result grounds variable s.listed.0 s.held.0.named
        >> (fit_line (L.Label (label Next t)) refl refl
        >> (fit_line (L.CountTurn (suc t) (suc t + width first) inclusive (label Turn t)) refl both
        >> (fit_line (L.Label (label End t)) refl refl >> ends)))))))))

    pub count_fits : (inclusive : Bool) (head : Args) → StmtStood filled places dest by (Loop node (Count variable inclusive) head body) t →
        BodyFits head (suc t + widths head) → Fit around (lines_in types facts modes result (Loop node (Count variable inclusive) head body) exits t)
    count_fits inclusive (ByValue first (ByValue last NoArg)) s body_fits = count_two inclusive first last s body_fits
    count_fits inclusive NoArg s body_fits = never s.typed
    count_fits inclusive (ByPath path rest) s body_fits = never s.typed
    count_fits inclusive (ByValue first NoArg) s body_fits = never (and_parts _ false (and_parts _ _ (and_parts _ _ s.typed).0).0).1
    count_fits inclusive (ByValue first (ByPath path rest)) s body_fits = never (and_parts _ false (and_parts _ _ (and_parts _ _ s.typed).0).0).1
    count_fits inclusive (ByValue first (ByValue last (ByValue e rest))) s body_fits = never (and_parts _ false (and_parts _ _ (and_parts _ _ s.typed).0).0).1
    count_fits inclusive (ByValue first (ByValue last (ByPath path rest))) s body_fits = never (and_parts _ false (and_parts _ _ (and_parts _ _ s.typed).0).0).1

    -- the place of the loop gets the element, or stands for it
    hooked_right : (borrows : Bool) (at : ℕ) → IsListed types variable.of → Held variable →
        parts.led types facts modes procs globals sigs start whole stands_for at ≡ Some variable.of →
        fitting around (hooked_element types facts modes result borrows variable at) ≡ true
    hooked_right true at listed held is = both_some _ _ (Some variable.of) refl held.named is
    hooked_right false at listed held is =
        and_from _ _ (both_some _ _ (Some variable.of) refl held.own (ap Some listed)) (both_some _ _ (Some variable.of) refl is (ap Some listed))

    hooked_waits : (borrows : Bool) (at : ℕ) → Marked (mark variable (borrows && is_hooked facts variable.of)) → IsListed types variable.of →
        is_hooked facts variable.of ≡ true → waiting_right around (hooked_element types facts modes result borrows variable at) ≡ true
    hooked_waits true at marked listed hooked = and_from _ _ (marked.stands hooked listed) refl
    hooked_waits false at marked listed hooked = and_from _ _ (and_from _ _ (ap (is_hooked facts) listed ∙ hooked) (marked.fills refl)) refl

    none_stands : (borrows : Bool) {hooked : Bool} → hooked ≡ false → borrows && hooked ≡ false
    none_stands true h = h
    none_stands false h = refl

    -- elements
    each_one : (path : Path) → StmtStood filled places dest by (Loop node (OfEach variable) (ByPath path NoArg) body) t →
        BodyFits (ByPath path NoArg) (suc t + 2 + widths (ByPath path NoArg)) →
        Fit around (lines_in types facts modes result (Loop node (OfEach variable) (ByPath path NoArg) body) exits t)
    each_one path s body_fits =
        let head = ByPath path NoArg in
        let h = and_parts (head_fits facts (OfEach variable) head && are_typed (here filled places dest) head) _ s.typed in
        let q = and_parts (head_fits facts (OfEach variable) head) (are_typed (here filled places dest) head) h.0 in
        let i = and_parts (has_length (kind_if facts (type_at path))) (is_of (element_of (kind_if facts (type_at path))) (Some variable.of)) q.0 in
        let o = loop_parts node (OfEach variable) head body t s.owns in
        let p = and_parts (are_direct facts head) (is_direct_block facts body) s.direct in
        let l = apart (IsListed types) (totals lists own_types head) (total_of lists own_types body) s.listed.1 in
        let d = apart Held (totals lists own_places head) (total_of lists own_places body) s.held.1 in
        let u = suc t + 2 in
        let all = standing.parts_stood types facts modes procs globals sigs start whole stands_for result grounds filled places dest sees head u q.1 p.0
        l.0 o.0 in
        let ends = standing.head_ends_fit types facts modes procs globals sigs start whole stands_for result grounds filled places dest sees head u all in
        let a = parts.first_path types facts modes procs globals sigs start whole stands_for filled places dest (Building []) (λ i. Owned) 0 path NoArg u all in
        let led = parts.leads types facts modes procs globals sigs start whole stands_for filled places dest false path u a in
        let found = paths.find_fits types facts modes procs globals sigs start whole stands_for grounds filled places dest sees false path u a in
        let known = parts.known types facts modes procs globals sigs start whole stands_for in
        let n = owned.loop_found known modes whole node variable head t _ _ (omega arith) s.owns in
        let number = int_at (suc t) (Some type.int) n.0 refl in
        let many = int_at (suc (suc t)) (Some type.int) n.1 refl in
        let long = ap (λ o. has_length (kind_if facts o)) led.type ∙ i.0 in
        let of = turned (element_of (kind_if facts (type_at path))) (Some variable.of) i.1 in
        exprs.ready_fits types facts modes procs globals sigs start whole stands_for grounds filled places dest sees (Building []) head (λ i. Owned) 0 u all
        >> (found
        >> (fit_line (L.Length (suc (suc t)) u) refl (and_from _ _ many long)
        >> (fit_line (L.Zero (suc t)) refl number
        >> (fit_line (L.Jump (label Arm t)) refl refl
        >> (fit_line (L.Label (label Turn t)) refl refl
        >> (body_fits (places ++ placed variable ∷ [])
        (blocks.sees_place types facts modes procs globals sigs start whole stands_for filled places variable sees s.held.0) ends
        (record { typed = (and_parts (not (is_empty body)) _ h.1).1; direct = p.1; listed = l.1; held = d.1; marks = s.marks.1; owns = o.1 })
        >> (standing.place_end_fits types facts modes procs globals sigs start whole stands_for result grounds variable s.listed.0 s.held.0.named
        >> (fit_line (L.Label (label Next t)) refl refl
        >> (fit_line (L.Next (suc t) (suc (suc t))) refl (and_from _ _ number many)
        >> (fit_line (L.Label (label Arm t)) refl refl
        >> (fit_line (L.Beyond (suc t) (suc (suc t)) false (label End t)) refl (and_from _ _ number many)
        >> (found
        >> (fit_line (L.Still u (suc (suc t))) refl (and_from _ _ long many)
        >> (fit_by (is_hooked facts variable.of)
        (λ hooked. let e = owned.element_led known modes whole node variable path NoArg t _ _ (omega arith) s.listed.0 s.owns hooked in
        fit_line (L.Item t u (suc t)) refl (and_from _ _ (ap₂ (λ v o. is_of v (element_of (kind_if facts o))) e.0 led.type ∙ of)
        (and_from _ _ number (both_same _ _ (is_written path) e.1 led.writes)))
        >> fit_line (hooked_element types facts modes result (is_fresh head) variable t) (hooked_waits (is_fresh head) t s.marks.0 s.listed.0 hooked)
        (hooked_right (is_fresh head) t s.listed.0 s.held.0 e.0))
        (λ unhooked. let e = owned.element_value known modes whole node variable path NoArg t _ _ (omega arith) s.listed.0 s.owns unhooked in
        fit_line (L.Element t u (suc t)) refl (and_from _ _ (ap₂ (λ v o. is_of v (element_of (kind_if facts o))) e led.type ∙ of)
        (and_from _ _ number (ap (λ v. not (gives_hooked facts v)) e ∙ ap not unhooked)))
        >> fit_line (L.Fill variable.number t) (and_from _ _ (s.marks.0.fills (none_stands (is_fresh head) unhooked)) refl)
        (both_some _ _ (Some variable.of) refl s.held.0.own e))
        >> (fit_line (L.Turn (label Turn t)) refl refl
        >> (fit_line (L.Label (label End t)) refl refl >> ends))))))))))))))))

    pub each_fits : (head : Args) → StmtStood filled places dest by (Loop node (OfEach variable) head body) t →
        BodyFits head (suc t + 2 + widths head) → Fit around (lines_in types facts modes result (Loop node (OfEach variable) head body) exits t)
    each_fits (ByPath path NoArg) s body_fits = each_one path s body_fits
    each_fits NoArg s body_fits = never s.typed
    each_fits (ByValue e rest) s body_fits = never s.typed
    each_fits (ByPath path (ByValue e rest)) s body_fits = never s.typed
    each_fits (ByPath path (ByPath other rest)) s body_fits = never s.typed

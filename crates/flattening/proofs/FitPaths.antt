-- The lines that look paths up fit, and operands are as their types say.
use Rattle.std.proofs.Common.{◌≡◌, ℕ, zero, suc, ◌+◌, Bool, true, false, List, [], ◌∷◌, Option, Some, None, refl, sym, ap, ap₂, ◌∙◌, subst}
use Rattle.std.specs.Prelude.{◌&&◌, ◌||◌, not, if◌then◌else◌, map}
use Rattle.std.proofs.lemmas.Bool.{and_parts, and_from}
use Rattle.nim_meaning.specs.Here.{gives_hooked}
use Rattle.nim_types.specs.Types.{Ty, Facts}
use Rattle.nim_program.specs.declared.operation.Operation.{Operation}
use Rattle.nim_program.specs.declared.operation.Operation.TheVariants as O
use Rattle.nim_program.specs.declared.operation.Use.{Use}
use Rattle.nim_program.specs.declared.program.Mode.{Mode}
use Rattle.nim_program.specs.Program.{Act, Literal, Doing, Building, Giving, Calling, Expr, Apply, Read, Early, Choose, Path, Variable, Fresh, Field, Element}
use Rattle.nim_program.specs.Program.{node_of}
use Rattle.nim_program.specs.Program.{Deref, Args, NoArg, ByValue, ByPath, Proc, type_of, type_at, types_in, constant_in}
use Rattle.nim_program.specs.Kinds.{kind_if, is_int, field_at, element_of, object_of, is_of, is_there, is_constant}
use Rattle.nim_program.specs.Scopes.{Placed, Here, type_in}
use Rattle.nim_program.specs.Program.{is_written}
use Rattle.nim_program.specs.Typed.{is_typed, is_typed_path, is_fresh, is_place, are_placed, may_take, may_take_all}
use Rattle.nim_meaning.specs.Shapes.{is_read, is_lent, is_given, is_text as is_literal_text}
use Rattle.flat_code.specs.declared.line.From.{From}
use Rattle.flat_code.specs.declared.line.From.TheVariants as F
use Rattle.flat_code.specs.declared.line.Line.TheVariants as L
use Rattle.flat_code.specs.declared.place.FlatPlace.{FlatPlace}
use Rattle.flat_code.specs.Fits as fit
use Rattle.flat_code.specs.Fits.{Signature, same_bool, writes, taken, are_of, are_values, may_write_first, is_waiting}
use Rattle.nim_meaning.specs.LeftOut.{is_exception_type}
use Rattle.flat_code.specs.Pieces.{pieces_of}
use Rattle.flat_code.specs.PieceShapes.{has_pieces}
use Rattle.flat_code.specs.Shapes.{shape_of}
use Rattle.flat_code.proofs.ForCallers.{pieces_fit}
use Rattle.flattening.specs.Formed.{IsListed, IfListed}
use Rattle.flattening.specs.Numbering.{type_number, width, width_at}
use Rattle.flattening.specs.ExprLines.{begin_line, from_of, froms, has_hooks, is_copied, is_call, is_lent_at, find_lines, settle_lines}
use Rattle.flattening.proofs.Direct.{has_own_hooks, is_characters, is_direct}
use Rattle.flattening.proofs.Fit.{Among, Fit, fitting, fit_none, fit_line, ◌>>◌}
use Rattle.flattening.proofs.FitParts.{turned, never, of_same, itself, both_some}
use Rattle.flattening.proofs.FitParts as parts
use Rattle.flattening.proofs.FitWaits as waits
use Rattle.flattening.proofs.Literals.{pieces_value}
use Rattle.flattening.proofs.OnePiece.{is_one}

same_itself : (b : Bool) → same_bool b b ≡ true
same_itself true = refl
same_itself false = refl

pub both_same : (a b c : Bool) → a ≡ c → b ≡ c → same_bool a b ≡ true
both_same a b c e f = ap₂ same_bool e f ∙ same_itself c

module _ (types : List Ty) (facts : Facts) (modes : (proc position : ℕ) → Mode) (procs : List Proc) (globals : List Placed) (sigs : List Signature)
    (start whole : List FlatPlace) (stands_for : ℕ → Bool)
    (grounds : parts.Grounds types facts modes procs globals sigs start whole stands_for)
    (filled : ℕ) (places : List Placed) (dest : Option ℕ) (sees : parts.Sees types facts modes procs globals sigs start whole stands_for filled places) where
  abbrev around : Among
  around = parts.around types facts modes procs globals sigs start whole stands_for

  abbrev here : Here
  here = parts.seen types facts modes procs globals sigs start whole stands_for filled places dest

  abbrev value : ℕ → Option Ty
  value = parts.value types facts modes procs globals sigs start whole stands_for

  abbrev led : ℕ → Option Ty
  led = parts.led types facts modes procs globals sigs start whole stands_for

  abbrev may_write : ℕ → Bool
  may_write = parts.may_write types facts modes procs globals sigs start whole stands_for

  abbrev Stood : Expr → ℕ → Type 0
  Stood = parts.Stood types facts modes procs globals sigs start whole stands_for filled places dest

  abbrev PathStood : Bool → Path → ℕ → Type 0
  PathStood = parts.PathStood types facts modes procs globals sigs start whole stands_for filled places dest

  abbrev AllStood : Act → (uses : (position : ℕ) → Use) → (position : ℕ) → Args → (t : ℕ) → Type 0
  AllStood = parts.AllStood types facts modes procs globals sigs start whole stands_for filled places dest

  value_is : (e : Expr) (t : ℕ) → Stood e t → value t ≡ type_of e
  value_is = parts.value_is types facts modes procs globals sigs start whole stands_for filled places dest

  leads : (read : Bool) (path : Path) (t : ℕ) → PathStood read path t →
      parts.Leads types facts modes procs globals sigs start whole stands_for filled places dest path t
  leads = parts.leads types facts modes procs globals sigs start whole stands_for filled places dest

  -- a named place has the type that it has in scope
  named_is : (n : ℕ) (global : Bool) (ty : Ty) → type_in here global n ≡ Some ty →
      parts.named types facts modes procs globals sigs start whole stands_for n global ≡ Some ty
  named_is n true ty e = sees.global n ty e
  named_is n false ty e = sees.local n ty e

  -- ---- constants

  pub constant_right : (ty : Ty) (literal : Literal) → IsListed types ty → is_characters literal || not (has_own_hooks facts (Some ty)) ≡ true →
      is_constant facts ty literal ≡ true →
      fit.is_constant_of (parts.known types facts modes procs globals sigs start whole stands_for) sigs start whole (type_number types ty)
      (pieces_of literal) ≡ true
  constant_right ty literal listed direct is =
      and_from _ _ (is_one literal)
      (ap (λ u. has_pieces (shape_of facts u) (pieces_of literal)) listed
      ∙ pieces_fit literal (shape_of facts ty) (pieces_value literal) (grounds.constants ty literal listed direct is))

  pub standing_right : (value : Expr) (literal : Literal) (t : ℕ) → constant_in value ≡ Some literal → is_typed here value ≡ true →
      is_direct facts value ≡ true → IfListed types (type_of value) → led t ≡ type_of value → may_write t ≡ false →
      fitting around (begin_line types facts (Some literal) value t) ≡ true
  standing_right (Apply node None (Giving l) NoArg) literal t e typed direct listed is writes = never (and_parts false true typed).0
  standing_right (Apply node (Some ty) (Giving l) NoArg) literal t e typed direct listed is writes =
      let same : l ≡ literal = cc in
      and_from _ _
      (subst (λ x. fit.is_constant_of (parts.known types facts modes procs globals sigs start whole stands_for) sigs start whole (type_number types ty)
      (pieces_of x) ≡ true)
      same (constant_right ty l listed direct (and_parts (is_constant facts ty l) true typed).0))
      (and_from _ _ (both_some _ _ (Some ty) refl is (ap Some listed)) (ap not writes))
  standing_right (Apply node ty (Giving l) (ByValue value rest)) literal t e typed direct listed is writes = absurd cc
  standing_right (Apply node ty (Giving l) (ByPath path rest)) literal t e typed direct listed is writes = absurd cc
  standing_right (Apply node ty (Doing operation) operands) literal t e typed direct listed is writes = absurd cc
  standing_right (Apply node ty (Building fields) operands) literal t e typed direct listed is writes = absurd cc
  standing_right (Apply node ty (Calling proc of) operands) literal t e typed direct listed is writes = absurd cc
  standing_right (Read path) literal t e typed direct listed is writes = absurd cc
  standing_right (Early node ty short left right) literal t e typed direct listed is writes = absurd cc
  standing_right (Choose node ty chooser parts) literal t e typed direct listed is writes = absurd cc

  -- ---- paths

  waits_begun : (n : ℕ) (h : Bool) → is_waiting (if h then Some n else None) h ≡ true
  waits_begun n true = refl
  waits_begun n false = refl

  begun_right : (constant : Option Literal) (read : Bool) (value : Expr) (t : ℕ) → constant_in value ≡ constant → PathStood read (Fresh value) t →
      fitting around (begin_line types facts constant value t) ≡ true
  begun_right None read value t e p =
      let l = leads read (Fresh value) t p in
      let h = and_parts (is_fresh value) (is_there (type_of value)) (and_parts (is_fresh value && is_there (type_of value)) (is_typed here value) p.typed).0 in
      let s = parts.fresh_stood types facts modes procs globals sigs start whole stands_for filled places dest read value t e p in
      and_from _ _ (both_some _ _ (type_of value) h.1 l.type (value_is value (suc t) s))
      (and_from _ _ (ap not l.writes)
      (ap (λ o. is_waiting (if has_hooks facts value then Some (node_of value).number else None) (gives_hooked facts o)) (value_is value (suc t) s)
      ∙ waits_begun (node_of value).number (has_hooks facts value)))
  begun_right (Some literal) read value t e p =
      let l = leads read (Fresh value) t p in
      standing_right value literal t e (and_parts (is_fresh value && is_there (type_of value)) (is_typed here value) p.typed).1 p.direct
      (parts.path_listed types facts modes procs globals sigs start whole stands_for read (Fresh value) p.listed) l.type l.writes

  pub find_fits : (read : Bool) (path : Path) (t : ℕ) → PathStood read path t → Fit around (find_lines types facts path t)
  find_fits read (Variable node ty place global) t p =
      let l = leads read (Variable node ty place global) t p in
      fit_line (L.Root t place global) refl
      (and_from _ _ (both_some _ _ (Some ty) refl l.type (named_is place global ty (of_same _ _ p.typed))) l.writes)
  find_fits read (Fresh value) t p =
      fit_line (begin_line types facts (constant_in value) value t)
      (waits.begun_waits types facts modes procs globals sigs start whole stands_for filled places dest read value t p)
      (begun_right (constant_in value) read value t refl p)
  find_fits read (Field node ty base field) t p =
      let l = leads read (Field node ty base field) t p in
      let b = parts.base_stood types facts modes procs globals sigs start whole stands_for filled places dest read node ty base field t p in
      let k = leads false base (suc t) b in
      find_fits false base (suc t) b
      >> fit_line (L.Part t (suc t) field) refl
      (and_from _ _
      (ap₂ (λ q o. is_of q (field_at (kind_if facts o) field)) l.type k.type
      ∙ turned (field_at (kind_if facts (type_at base)) field) (Some ty)
      (and_parts (is_of (field_at (kind_if facts (type_at base)) field) (Some ty)) (is_typed_path here base) p.typed).0)
      (and_from _ _ (both_same _ _ (is_written base) l.writes k.writes)
      (ap (λ o. not (is_exception_type o)) k.type
      ∙ parts.base_has_parts types facts modes procs globals sigs start whole stands_for filled places dest read node ty base field t p)))
  find_fits read (Element node ty base index constant) t p =
      let l = leads read (Element node ty base index constant) t p in
      let b = parts.row_stood types facts modes procs globals sigs start whole stands_for filled places dest read node ty base index constant t p in
      let k = leads false base (suc t) b.0 in
      let h = and_parts (is_of (element_of (kind_if facts (type_at base))) (Some ty)) (is_int (kind_if facts (type_of index))) (and_parts _ _ p.typed).0 in
      find_fits false base (suc t) b.0
      >> fit_line (L.Item t (suc t) (suc t + width_at base)) refl
      (and_from _ _ (ap₂ (λ q o. is_of q (element_of (kind_if facts o))) l.type k.type ∙ turned (element_of (kind_if facts (type_at base))) (Some ty) h.0)
      (and_from _ _ (ap (λ o. is_int (kind_if facts o)) (value_is index (suc t + width_at base) b.1) ∙ h.1)
      (both_same _ _ (is_written base) l.writes k.writes)))
  find_fits read (Deref ty base) t p =
      let l = leads read (Deref ty base) t p in
      let b = parts.object_stood types facts modes procs globals sigs start whole stands_for filled places dest read ty base t p in
      let k = leads false base (suc t) b in
      find_fits false base (suc t) b
      >> fit_line (L.Object t (suc t)) refl
      (and_from _ _
      (ap₂ (λ q o. is_of q (object_of (kind_if facts o))) l.type k.type
      ∙ turned (object_of (kind_if facts (type_at base))) (Some ty)
      (and_parts (is_of (object_of (kind_if facts (type_at base))) (Some ty)) (is_typed_path here base) p.typed).0)
      l.writes)

  -- ---- operands of something, from a position on

  abbrev pub taken_from : From → Option Ty
  taken_from = taken (parts.known types facts modes procs globals sigs start whole stands_for) sigs start whole

  abbrev pub all_of : List (Option Ty) → List From → Bool
  all_of = are_of (parts.known types facts modes procs globals sigs start whole stands_for) sigs start whole

  pub are_of_these : (from : List From) (tys : List (Option Ty)) → map taken_from from ≡ tys → all_of tys from ≡ true
  are_of_these from tys e = subst (λ ts. all_of ts from ≡ true) e (own from)
    where
      own : (from : List From) → all_of (map taken_from from) from ≡ true
      own [] = refl
      own (x ∷ from) = and_from _ _ (itself (taken_from x)) (own from)

  abbrev first_written : ℕ → List From → Bool
  first_written = may_write_first (parts.known types facts modes procs globals sigs start whole stands_for) sigs start whole

  -- the place of a hook is one that may be written
  place_written : (d : Option ℕ) (path : Path) → is_place d path ≡ true → is_written path ≡ true
  place_written None path h = never h
  place_written (Some n) (Variable node ty place true) h = never h
  place_written (Some n) (Variable node ty place false) h = refl
  place_written (Some n) (Fresh value) h = never h
  place_written (Some n) (Field node ty base field) h = never h
  place_written (Some n) (Element node ty base index constant) h = never h
  place_written (Some n) (Deref ty base) h = never h

  take_written : (operation : Operation) (path : Path) → writes operation ≡ true → may_take here operation path ≡ true → is_written path ≡ true
  take_written (O.Measure measure) path w h = never w
  take_written O.Destroy path w h = place_written dest path h
  take_written O.Blank path w h = place_written dest path h
  take_written operation path w h = h

  -- where an operand comes from that is copied, that is lent, or that is neither
  abbrev pub by_ways : (copied lent : Bool) → (t : ℕ) → From
  by_ways copied lent t = if copied then F.Place (suc t) else if lent then F.Place t else F.Value t

  module _ (act : Act) (uses : (position : ℕ) → Use) where
    pub settle_fits : (i : ℕ) (args : Args) (t : ℕ) → AllStood act uses i args t → Fit around (settle_lines types facts args t)
    settle_fits i NoArg t all = fit_none
    settle_fits i (ByValue e rest) t all = settle_fits (suc i) rest (t + width e)
        (parts.rest_stood types facts modes procs globals sigs start whole stands_for filled places dest act uses i e rest t all)
    settle_fits i (ByPath path rest) t all =
        find_fits false path t (parts.first_path types facts modes procs globals sigs start whole stands_for filled places dest act uses i path rest t all)
        >> settle_fits (suc i) rest (t + width_at path)
        (parts.behind_path types facts modes procs globals sigs start whole stands_for filled places dest act uses i path rest t all)

    taken_one : (i : ℕ) (e : Expr) (rest : Args) (t : ℕ) → AllStood act uses i (ByValue e rest) t → taken_from (from_of facts act (uses i) e t) ≡ type_of e
    taken_one i e rest t all = by (is_copied facts (uses i) e) (is_lent_at facts act (uses i) e) refl refl
      where
        stood : Stood e t
        stood = parts.first_stood types facts modes procs globals sigs start whole stands_for filled places dest act uses i e rest t all

        by : (b c : Bool) → is_copied facts (uses i) e ≡ b → is_lent_at facts act (uses i) e ≡ c → taken_from (by_ways b c t) ≡ type_of e
        by true c copied lent = parts.copied_leads types facts modes procs globals sigs start whole stands_for filled places dest (uses i) e t copied stood
        by false true copied lent = (parts.lent_leads types facts modes procs globals sigs start whole stands_for filled places dest act uses i e rest t
            lent all).0
        by false false copied lent = value_is e t stood

    pub taken_are : (i : ℕ) (args : Args) (t : ℕ) → AllStood act uses i args t → map taken_from (froms facts act args uses i t) ≡ types_in args
    taken_are i NoArg t all = refl
    taken_are i (ByValue e rest) t all =
        ap₂ (λ ty tys. ty ∷ tys) (taken_one i e rest t all) (taken_are (suc i) rest (t + width e)
        (parts.rest_stood types facts modes procs globals sigs start whole stands_for filled places dest act uses i e rest t all))
    taken_are i (ByPath path rest) t all =
        ap₂ (λ ty tys. ty ∷ tys) (leads false path t
        (parts.first_path types facts modes procs globals sigs start whole stands_for filled places dest act uses i path rest t all)).type
        (taken_are (suc i) rest (t + width_at path)
        (parts.behind_path types facts modes procs globals sigs start whole stands_for filled places dest act uses i path rest t all))

    module _ (how : Use) (same : (position : ℕ) → uses position ≡ how) where
      -- of a value that stands somewhere
      stands : (e : Expr) (is_way : Use → Bool) (rest : Bool) (i : ℕ) → has_hooks facts e && (is_way (uses i) && rest) ≡ true →
          (has_hooks facts e ≡ true) × (is_way how ≡ true)
      stands e is_way rest i h =
          let q = and_parts (has_hooks facts e) (is_way (uses i) && rest) h in
          (q.0, sym (ap is_way (same i)) ∙ (and_parts (is_way (uses i)) rest q.1).0)

      lent_way : (a b : Bool) → a ≡ true → a || b ≡ true
      lent_way true b e = refl
      lent_way false b e = never e

      given_way : (a b : Bool) → b ≡ true → a || b ≡ true
      given_way true b e = refl
      given_way false b e = e

      pub placed_same : (n i : ℕ) (args : Args) (t : ℕ) → are_placed n args ≡ true →
          fit.are_placed facts how n (types_in args) (froms facts act args uses i t) ≡ true
      placed_same zero i NoArg t h = refl
      placed_same zero i (ByValue e rest) t h =
          by (is_copied facts (uses i) e) (is_lent_at facts act (uses i) e) refl refl (placed_same zero (suc i) rest (t + width e) h)
        where
          by : (b c : Bool) → is_copied facts (uses i) e ≡ b → is_lent_at facts act (uses i) e ≡ c →
              fit.are_placed facts how 0 (types_in rest) (froms facts act rest uses (suc i) (t + width e)) ≡ true →
              fit.are_placed facts how 0 (type_of e ∷ types_in rest) (by_ways b c t ∷ froms facts act rest uses (suc i) (t + width e)) ≡ true
          by true c copied lent k =
              let s = stands e is_given (is_read e) i copied in and_from _ _ (and_from _ _ s.0 (given_way (is_lent how) (is_given how) s.1)) k
          by false true copied lent k =
              let s = stands e is_lent (is_call facts act || not (is_literal_text e)) i lent in
              and_from _ _ (and_from _ _ s.0 (lent_way (is_lent how) (is_given how) s.1)) k
          by false false copied lent k = k
      placed_same zero i (ByPath path rest) t h = never h
      placed_same (suc n) i NoArg t h = never h
      placed_same (suc n) i (ByValue e rest) t h = never h
      placed_same (suc n) i (ByPath path rest) t h = placed_same n (suc i) rest (t + width_at path) h

      -- where nothing is lent or copied, all are values
      pub values_all : (i : ℕ) (args : Args) (t : ℕ) → is_lent how || is_given how ≡ false → are_placed 0 args ≡ true →
          are_values (froms facts act args uses i t) ≡ true
      values_all i NoArg t none h = refl
      values_all i (ByValue e rest) t none h =
          by (is_copied facts (uses i) e) (is_lent_at facts act (uses i) e) refl refl (values_all (suc i) rest (t + width e) none h)
        where
          by : (b c : Bool) → is_copied facts (uses i) e ≡ b → is_lent_at facts act (uses i) e ≡ c →
              are_values (froms facts act rest uses (suc i) (t + width e)) ≡ true →
              are_values (by_ways b c t ∷ froms facts act rest uses (suc i) (t + width e)) ≡ true
          by true c copied lent k =
              never (sym none ∙ given_way (is_lent how) (is_given how) (stands e is_given (is_read e) i copied).1)
          by false true copied lent k =
              never (sym none ∙ lent_way (is_lent how) (is_given how) (stands e is_lent (is_call facts act || not (is_literal_text e)) i lent).1)
          by false false copied lent k = k
      values_all i (ByPath path rest) t none h = never h

    written_first : (operation : Operation) (n i : ℕ) (args : Args) (t : ℕ) → writes operation ≡ true → AllStood act uses i args t → are_placed n args ≡ true →
        may_take_all here operation args ≡ true → first_written n (froms facts act args uses i t) ≡ true
    written_first operation zero i args t w all placed h = refl
    written_first operation (suc n) i NoArg t w all placed h = never placed
    written_first operation (suc n) i (ByValue e rest) t w all placed h = never placed
    written_first operation (suc n) i (ByPath path rest) t w all placed h =
        let q = and_parts (may_take here operation path) (may_take_all here operation rest) h in
        and_from _ _
        ((leads false path t (parts.first_path types facts modes procs globals sigs start whole stands_for filled places dest act uses i path rest t
        all)).writes
        ∙ take_written operation path w q.0)
        (written_first operation n (suc i) rest (t + width_at path) w
        (parts.behind_path types facts modes procs globals sigs start whole stands_for filled places dest act uses i path rest t all) placed q.1)

    pub may_be_written : (operation : Operation) (n : ℕ) (args : Args) (t : ℕ) → AllStood act uses 0 args t → are_placed n args ≡ true →
        may_take_all here operation args ≡ true → not (writes operation) || first_written n (froms facts act args uses 0 t) ≡ true
    may_be_written operation n args t all placed h = by (writes operation) refl
      where
        by : (b : Bool) → writes operation ≡ b → not b || first_written n (froms facts act args uses 0 t) ≡ true
        by true e = written_first operation n 0 args t e all placed h
        by false e = refl

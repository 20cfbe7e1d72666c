-- Where no type of a place or a node has too many levels, the types of a program's places have few; and marks of types say which have.
use Rattle.std.proofs.Common.{◌≡◌, ◌≤◌, ◌<◌, ℕ, zero, suc, Bool, true, false, List, [], ◌∷◌, ◌++◌, length, map, Option, Some, None, Ok}
use Rattle.std.proofs.Common.{refl, ap, ◌∙◌, arith}
use Rattle.std.specs.Prelude.{if◌then◌else◌, slice_get}
use Rattle.std.proofs.lemmas.Bool.{ltb-false}
use Rattle.nim_types.specs.declared.types.TypeDef.{TypeDef}
use Rattle.nim_types.specs.Types.{Ty, Facts}
use Rattle.nim_types.specs.Table.{types_in, facts_in, type_at}
use Rattle.nim_types.specs.Forms.{form_of, levels}
use Rattle.nim_types.proofs.ForCallers.{count as counted}
use Rattle.nim_program.specs.declared.expr.Node.{Node}
use Rattle.nim_program.specs.Program.{Declared, Param, Body, Proc, Program}
use Rattle.nim_program.specs.Folds.{lists, firsts, first_some, total_of, if_declared}
use Rattle.nim_program.specs.Typed.{type_if, place_types, param_declared}
use Rattle.nim_program.proofs.ForCallers.{Relates, related_of}
use Rattle.nim_meaning.specs.LeftOut.{◌or_then◌, out_if, first_of}
use Rattle.flattening.specs.Shallow.{shown_by, shown_types, AreShallow, IsShallowBody, IsShallowIf, AreShallowProcs, IsShallow}
use Rattle.program_limits.specs.Frames.{is_deep, gives_deep, deep_place, node_deep, own_deep, body_fault, proc_fault, procs_fault, start_fault}
use Rattle.program_limits.specs.Limits.{tree_limits}
use Rattle.program_limits.specs.Summaries.{is_shallow}
use Rattle.hook_lifting.specs.Lifted.{AreMarked, mark_or}
use Rattle.core_compiler.proofs.FrameSums.{found, none_first, unmapped, within}

-- ---- one type

few : (facts : Facts) (ty : Ty) → is_deep facts ty ≡ false → levels (form_of facts ty) ≤ 64
few facts ty e = ltb-false 64 (levels (form_of facts ty)) e

none_out : (b : Bool) (node : Node) → out_if b node ≡ None → b ≡ false
none_out true node e = found node e
none_out false node e = refl

both_none : (a b : Option Node) → a or_then b ≡ None → (a ≡ None) × (b ≡ None)
both_none None b e = (refl, e)
both_none (Some node) b e = found node e

some_none : (a b : Option Node) → first_some a b ≡ None → (a ≡ None) × (b ≡ None)
some_none None b e = (refl, e)
some_none (Some node) b e = found node e

shallow_both : (facts : Facts) (xs ys : List Ty) → AreShallow facts xs → AreShallow facts ys → AreShallow facts (xs ++ ys)
shallow_both facts [] ys h k = k
shallow_both facts (x ∷ xs) ys h k = (h.0, shallow_both facts xs ys h.1 k)

-- ---- places and parts

places_few : (facts : Facts) (n : ℕ) (ds : List Declared) → deep_place facts n ds ≡ None → AreShallow facts (place_types ds)
places_few facts n [] e = tt
places_few facts n (d ∷ ds) e =
    let q = both_none (out_if (is_deep facts d.of) (record { number = n; at = d.at })) (deep_place facts n ds) e in
    (few facts d.of (none_out (is_deep facts d.of) _ q.0), places_few facts n ds q.1)

places_apart : (facts : Facts) (n : ℕ) (ds es : List Declared) → deep_place facts n (ds ++ es) ≡ None →
    (deep_place facts n ds ≡ None) × (deep_place facts n es ≡ None)
places_apart facts n [] es e = (refl, e)
places_apart facts n (d ∷ ds) es e =
    let one = out_if (is_deep facts d.of) (record { number = n; at = d.at }) in
    let q = both_none one (deep_place facts n (ds ++ es)) e in
    let r = places_apart facts n ds es q.1 in
    (ap (λ o. o or_then deep_place facts n ds) q.0 ∙ r.0, r.1)

value_few : (facts : Facts) (ty : Option Ty) (node : Node) → out_if (gives_deep facts ty) node ≡ None → AreShallow facts (type_if ty)
value_few facts None node e = tt
value_few facts (Some ty) node e = (few facts ty (none_out (is_deep facts ty) node e), tt)

part_few : (facts : Facts) (ty : Option Ty) (places : List Declared) (node : Option Node) → node_deep facts ty places node ≡ None →
    AreShallow facts (shown_by ty places node)
part_few facts ty places None e = tt
part_few facts ty [] (Some node) e = value_few facts ty node e
part_few facts ty (place ∷ places) (Some node) e = places_few facts node.number (place ∷ places) e

abbrev Few : Facts → Option Node → List Ty → Type 0
Few facts o tys = o ≡ None → AreShallow facts tys

parts_few : (facts : Facts) → Relates firsts lists (own_deep facts) shown_types (Few facts)
parts_few facts = record {
  none = λ e. tt;
  plus = λ a b xs ys h k e. let q = some_none a b e in shallow_both facts xs ys (h q.0) (k q.1);
  own = λ seen e. part_few facts seen.ty seen.places seen.node e;
}

-- ---- bodies

body_few : (facts : Facts) (globals : List Declared) (params : List Param) (whole : Node) (body : Body) →
    body_fault facts globals params whole body ≡ None → IsShallowBody facts params body
body_few facts globals params whole body e = by _ e
  where
    heads : List Declared
    heads = param_declared params ++ if_declared body.result

    by : (b : Bool) → (if b then Some whole
        else (deep_place facts (first_of body.stmts) heads or_then total_of firsts (own_deep facts) body.stmts)) ≡ None → IsShallowBody facts params body
    by true e = found whole e
    by false e =
        let q = both_none (deep_place facts (first_of body.stmts) heads) (total_of firsts (own_deep facts) body.stmts) e in
        let r = places_apart facts (first_of body.stmts) (param_declared params) (if_declared body.result) q.0 in
        record {
          taken = places_few facts (first_of body.stmts) (param_declared params) r.0;
          given = places_few facts (first_of body.stmts) (if_declared body.result) r.1;
          parts = related_of firsts lists (own_deep facts) shown_types (Few facts) (parts_few facts) body.stmts q.1;
        }

module _ (program : Program) where
  proc_few : (p : Proc) → proc_fault program.facts program.globals p.params p.at p.body ≡ None → IsShallowIf program.facts p.params p.body
  proc_few p e = by p.body e
    where
      by : (body : Option Body) → proc_fault program.facts program.globals p.params p.at body ≡ None → IsShallowIf program.facts p.params body
      by None e = tt
      by (Some body) e = body_few program.facts program.globals p.params _ body e

  procs_few : (procs : List Proc) → procs_fault program.facts program.globals procs ≡ None → AreShallowProcs program.facts procs
  procs_few [] e = tt
  procs_few (p ∷ procs) e =
      let q = none_first (proc_fault program.facts program.globals p.params p.at p.body) (procs_fault program.facts program.globals procs) e in
      (proc_few p q.0, procs_few procs q.1)

  pub levels_few : tree_limits program ≡ Ok tt → IsShallow program
  levels_few e =
      let q = none_first (procs_fault program.facts program.globals program.procs) (start_fault program.facts program.globals program.start)
      (unmapped program _ (within program e).0) in
      (procs_few program.procs q.0, body_few program.facts program.globals [] _ program.start q.1)

-- ---- marks

mark_at : (facts : Facts) (tys : List Ty) (i : ℕ) → i < length tys → mark_or (slice_get (map (is_shallow facts) tys) i) ≡ is_shallow facts (type_at tys i)
mark_at facts [] i less = absurd (omega (arith, less))
mark_at facts (ty ∷ tys) zero less = refl
mark_at facts (ty ∷ tys) (suc i) less = mark_at facts tys i (omega (arith, less))

pub are_marked : (table : List TypeDef) (marks : List Bool) → marks ≡ map (is_shallow (facts_in table)) (types_in table) → AreMarked table marks
are_marked table marks e ty less =
    let long = counted table in
    ap (λ all. mark_or (slice_get all ty)) e ∙ mark_at (facts_in table) (types_in table) ty (omega (arith, less, long))

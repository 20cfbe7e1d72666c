-- The code of modules, which declares the globals one after another.
use Rattle.std.proofs.Common.{◌≡◌, refl, ap, ap₂, ℕ, suc, inl, inr, Bool, true, false, List, [], ◌∷◌, ◌++◌, Option}
use Rattle.std.specs.Prelude.{◌&&◌, nat_eq, slice_get, Some, None}
use Rattle.std.proofs.lemmas.Bool.{false≢true, and_parts, eqb-true}
use Rattle.nim_types.specs.Types.{Ty, same}
use Rattle.nim_types.proofs.ForCallers.{same_sound}
use Rattle.nim_program.specs.Program.{Args, NoArg, ByValue, ByPath, Declared, Stmts, Empty, Then, Declare, Defer, type_of, last_after}
use Rattle.nim_program.specs.Folds.{lists, node_numbers, own_places, total, totals, total_in, total_of}
use Rattle.nim_program.specs.Numbering.{numbers_of}
use Rattle.nim_program.specs.Kinds.{is_of}
use Rattle.nim_program.specs.Scopes as scopes
use Rattle.nim_program.specs.Scopes.{Placed, placed, with_place, with_global}
use Rattle.nim_program.specs.Typed.{module_code, is_typed, is_typed_stmt, is_typed_code, is_next, starts, type_of_place}
use Rattle.nim_meaning.specs.ActTree as points
use Rattle.nim_meaning.specs.Values.{default_of}
use Rattle.nim_meaning.specs.State.{World}
use Rattle.nim_meaning.specs.Acts.{costs}
use Rattle.nim_meaning.specs.Here.{Here}
use Rattle.nim_meaning.specs.Steps.{at_node}
use Rattle.nim_meaning.specs.Meaning.{exec, exec_all, fill}
use Rattle.holders.specs.Territory.{Owner}
use Rattle.holders.specs.Asked.{Limits, AskedBlock, FactsOfTheirSort}
use Rattle.holders.specs.Claimed.{known_at}
use Rattle.holders.specs.BodyParts.{own_cell, Sights, PartSo}
use Rattle.holders.specs.Numbered.{Numbered}
use Rattle.holders.proofs.Owning.{in_first, in_second}
use Rattle.holders.proofs.WholeExpressions.{CallsSo}
use Rattle.holders.proofs.NodesRise.{rise_first}
use Rattle.holders.proofs.BodyParts.{nothing_so, part_then}
use Rattle.holders.proofs.BodySights.{global_view, is_global, sights_global}
use Rattle.holders.proofs.BodyNumbers.{numbered_first, numbered_second, numbered_behind, numbered_next, numbers_first, numbers_second}
use Rattle.holders.proofs.BodyGiven.{default_declares, value_declares, declare_then}
use Rattle.holders.proofs.BodyBlocks.{stmt_so, declared_by}

-- the next global
pub next_is : (o : Option Placed) (place : Declared) → is_next o (placed place) ≡ true → o ≡ Some (placed place)
next_is None place e = absurd (false≢true e)
next_is (Some g) place e =
    let q = and_parts (nat_eq g.number place.number) (same g.of place.of) e in
    ap (λ (p : Placed). Some p)
    (ap₂ (λ (n : ℕ) (ty : Ty). record { number = n; of = ty }) (eqb-true g.number place.number q.0) (same_sound g.of place.of q.1))

module _ (here : Here) (first places : ℕ) (sorted : FactsOfTheirSort here.facts) (OfCall : Limits → ℕ → Args → Type 0) (Known : scopes.Here → Type 0)
    (known_more : (scope : scopes.Here) (place : Declared) → Known scope → Known (with_place scope place))
    (known_global : (scope : scopes.Here) → Known scope → Known (with_global scope))
    (calls : (scope : scopes.Here) → Known scope → (limits : Limits) (root : (global : Bool) → ℕ → ℕ) (os : List Owner) →
    CallsSo here scope limits root first places os (OfCall limits))
    (limits : Limits) (sees : (g : Bool) (n : ℕ) → limits.seen g n ≡ true) (level : 0 ≡ here.level)
    (gives : module_code.gives ≡ type_of_place here.result) where
  abbrev known : scopes.Here → scopes.Here
  known scope = known_at here scope

  abbrev Placed_in : scopes.Here → List Declared → List ℕ → Type 0
  Placed_in scope ds ns = Numbered here first places (known scope) limits ds ns

  -- no global has its number
  fresh_in : (scope : scopes.Here) (place : Declared) {ds : List Declared} {ns : List ℕ} → Placed_in scope (place ∷ ds) ns → (ty : Ty) →
      scopes.type_in (known scope) true place.number ≡ Some ty → ⊥
  fresh_in scope place numbers ty e = numbers.none true place.number ty (sees true place.number) e level (inl refl)

  extends : (scope : scopes.Here) (place : Declared) {ds : List Declared} {ns : List ℕ} → is_next (slice_get scope.globals scope.filled) (placed place) ≡ true →
      Placed_in scope (place ∷ ds) ns → (os : List Owner) (world : World) → Sights here (known scope) limits os world →
      Sights here (known (with_global scope)) limits (own_cell here place ∷ os) world
  extends scope place e numbers os world sights =
      sights_global here (known scope) limits place level (next_is (slice_get scope.globals scope.filled) place e) (fresh_in scope place numbers) sights

  goes_on : (scope : scopes.Here) (place : Declared) (ds : List Declared) {ns : List ℕ} → is_next (slice_get scope.globals scope.filled) (placed place) ≡ true →
      Placed_in scope (place ∷ ds) ns → Placed_in (with_global scope) ds ns
  goes_on scope place ds e numbers =
      numbered_next (known (with_global scope)) place true (is_global place)
      (global_view (known scope) place (next_is (slice_get scope.globals scope.filled) place e) (fresh_in scope place numbers)) ds numbers

  pub code_so : (scope : scopes.Here) → Known scope → (x : Stmts) → is_typed_code (known scope) x ≡ true → AskedBlock here.facts OfCall limits x →
      Placed_in scope (total_of lists own_places x) (total_of lists node_numbers x) →
      PartSo here first places (known scope) limits (numbers_of (total_of lists own_places x)) (total_of lists node_numbers x) (exec_all x here)
  code_so scope ok Empty typed asked numbers = nothing_so here first places (known scope) limits [] []
  code_so scope ok (Then x rest) typed asked numbers =
      let t = and_parts (is_typed_stmt (known scope) module_code x) (is_typed_code (known scope) rest) typed in
      let ds = total_in lists own_places x in
      let es = total_of lists own_places rest in
      let ns = total_in lists node_numbers x in
      let ms = total_of lists node_numbers rest in
      let k = numbered_first ds es ns ms numbers in
      part_then here first places (known scope) limits (numbers_of (ds ++ es)) (ns ++ ms) (numbers_of ds) ns (numbers_of es) ms (exec x here)
      (λ u. exec_all rest here) (λ n m. numbers_first n ds es m) (λ n m. in_first n ns ms m) (λ n m. numbers_second n ds es m) (λ n m. in_second n ns ms m)
      k.none (stmt_so here first places sorted OfCall Known known_more calls scope ok limits (λ n. sees false n) module_code gives x t.0 asked.0 k)
      (λ u. code_so scope ok rest t.1 asked.1 (numbered_second ds es ns ms numbers))
  code_so scope ok (Declare node place cursor NoArg rest) typed asked numbers =
      let next = is_next (slice_get scope.globals scope.filled) (placed place) in
      let t = and_parts (next && (starts here.facts place.of NoArg && true)) (is_typed_code (known (with_global scope)) rest) typed in
      let q = (and_parts next (starts here.facts place.of NoArg && true) t.0).0 in
      let rd = total_of lists own_places rest in
      let rn = total_of lists node_numbers rest in
      let at = numbers.bounds place.number (inl refl) in
      declare_then here first places sorted OfCall Known calls scope (with_global scope) limits place [] rd (node.number ∷ []) rn numbers
      (costs 1 (at_node node.number points.Does (fill here place.number (default_of here.facts place.of)))) (exec_all rest here)
      (last_after node.number rest) (extends scope place q numbers)
      (default_declares here first places sorted OfCall Known calls scope limits place (numbers_of (place ∷ rd)) (node.number ∷ rn) node.number asked.0
      (inl refl) at.0 at.1)
      (code_so (with_global scope) (known_global scope ok) rest t.1 asked.1.1 (numbered_behind node.number (goes_on scope place rd q numbers)))
  code_so scope ok (Declare node place cursor (ByValue e NoArg) rest) typed asked numbers =
      let next = is_next (slice_get scope.globals scope.filled) (placed place) in
      let t = and_parts (next && (is_of (type_of e) (Some place.of) && (is_typed (known scope) e && true))) (is_typed_code (known (with_global scope)) rest)
      typed in
      let p = and_parts next (is_of (type_of e) (Some place.of) && (is_typed (known scope) e && true)) t.0 in
      let u = and_parts (is_of (type_of e) (Some place.of)) (is_typed (known scope) e && true) p.1 in
      let rd = total_of lists own_places rest in
      let rn = total_of lists node_numbers rest in
      let vd = totals lists own_places (ByValue e NoArg) in
      let vn = node.number ∷ totals lists node_numbers (ByValue e NoArg) in
      let te = total lists node_numbers e in
      let at = numbers.bounds place.number (inl refl) in
      declare_then here first places sorted OfCall Known calls scope (with_global scope) limits place vd rd vn rn numbers
      (costs 1 (declared_by here first places sorted OfCall Known known_more calls node.number place e)) (exec_all rest here) (last_after node.number rest)
      (extends scope place p.0 numbers)
      (value_declares here first places sorted OfCall Known calls scope ok limits place e (and_parts (is_typed (known scope) e) true u.1).0 asked.1.0.0 u.0
      (suc node.number) (rise_first (suc node.number) te [] (rise_first (suc node.number) (te ++ []) rn numbers.nodes.1))
      (numbers_of (place ∷ (vd ++ rd))) (vn ++ rn) node.number (inl refl) at.0 at.1 (λ n m. inr (in_first n (te ++ []) rn (in_first n te [] m))))
      (code_so (with_global scope) (known_global scope ok) rest t.1 asked.1.1
      (numbered_second vd rd vn rn (goes_on scope place (vd ++ rd) p.0 numbers)))
  code_so scope ok (Declare node place cursor (ByValue e (ByValue f more)) rest) typed asked numbers =
      absurd (false≢true (and_parts (is_next (slice_get scope.globals scope.filled) (placed place)) false
      (and_parts (is_next (slice_get scope.globals scope.filled) (placed place) && false) (is_typed_code (known (with_global scope)) rest) typed).0).1)
  code_so scope ok (Declare node place cursor (ByValue e (ByPath f more)) rest) typed asked numbers =
      absurd (false≢true (and_parts (is_next (slice_get scope.globals scope.filled) (placed place)) false
      (and_parts (is_next (slice_get scope.globals scope.filled) (placed place) && false) (is_typed_code (known (with_global scope)) rest) typed).0).1)
  code_so scope ok (Declare node place cursor (ByPath path more) rest) typed asked numbers =
      absurd (false≢true (and_parts (is_next (slice_get scope.globals scope.filled) (placed place)) false
      (and_parts (is_next (slice_get scope.globals scope.filled) (placed place) && false) (is_typed_code (known (with_global scope)) rest) typed).0).1)
  code_so scope ok (Defer node last rest) typed asked numbers = elim asked [ ]

-- Where nodes and places have numbers of their own, each point and each scope of a body's acts stands there once.
use Rattle.std.proofs.Common.{◌≡◌, refl, sym, ap, subst, arith, ◌≤◌, ℕ, suc, ◌+◌, nat_eq, Bool, true, false, ◌&&◌, if◌then◌else◌, List, [], ◌∷◌, ◌++◌}
use Rattle.std.proofs.Common.{Option, Some, None}
use Rattle.std.proofs.lemmas.Bool.{eqb-true}
use Rattle.nim_types.specs.Types.{Ty}
use Rattle.nim_program.specs.declared.operation.Use.{Use}
use Rattle.nim_program.specs.declared.program.Mode.{Mode}
use Rattle.nim_program.specs.declared.program.Mode.TheVariants as M
use Rattle.nim_program.specs.declared.expr.Node.{Node}
use Rattle.nim_program.specs.Program.{Expr, Declared, Stmts, Param, Body, last_of}
use Rattle.nim_program.specs.Folds.{Seen, number_if, numbers, lists, total}
use Rattle.nim_program.specs.Folds.{total_of}
use Rattle.nim_program.specs.Folds.{node_numbers, nodes, block_nodes, if_declared, own_places, block_places, param_places, body_places}
use Rattle.nim_meaning.specs.ActTree.{Root, Named, Temporary, Literal, Role, Acts, Done, Result}
use Rattle.nim_meaning.specs.ActsOf.{acts_of, stmts_acts, owned, with_result, all_owned, proc_acts}
use Rattle.nim_meaning.specs.Marks.{Distinct, place_numbers, Mark, Spot, Scope, all_marks}
use Rattle.nim_program.proofs.ForCallers.{Relates, related, related_of, declares_none}
use Rattle.nim_meaning.proofs.MarkCounts.{bit, count, count_both, distinct_by, at_most_once, same_mark, self_mark, all_marked_is, marked_within}
use Rattle.nim_meaning.proofs.MarkWeights.{is_outer, node_weight, place_weight, with_places, if_place_weight, weight_if, own}
use Rattle.nim_meaning.proofs.ValueMarks.{Holds, holds_all, holds_at_most, of_value, entire, puts_value}
use Rattle.nim_meaning.proofs.BlockMarks.{scope_holds, block_holds}

-- ---- what is counted of nodes and places

either_role : (b c : Bool) → bit (b && c) + bit (b && (if c then false else true)) ≡ bit b
either_role true true = refl
either_role true false = refl
either_role false c = refl

spot_weight : (n : ℕ) (r : Role) (k : ℕ) → node_weight (Spot n r) k ≤ bit (nat_eq k n)
spot_weight n r k = let e = either_role (nat_eq k n) (is_outer r) in omega (arith, e)

abbrev Within : ℕ → List ℕ → ℕ → Type 0
Within n xs w = w ≤ count nat_eq n xs

within_both : (n : ℕ) (xs ys : List ℕ) (v w : ℕ) → Within n xs v → Within n ys w → Within n (xs ++ ys) (v + w)
within_both n xs ys v w h g = let e = count_both nat_eq n xs ys in omega (arith, e, h, g)

-- a mark that weighs one at most for one number of a node, and nothing for places
module _ (m : Mark) (n : ℕ) (at_node : (k : ℕ) → node_weight m k ≤ bit (nat_eq k n)) (no_place : (place : Declared) → place_weight m place ≡ 0) where
  no_places : (places : List Declared) (w : ℕ) → with_places m places w ≡ w
  no_places [] w = refl
  no_places (place ∷ places) w = let e = no_place place in let f = no_places places w in omega (arith, e, f)

  if_node : (node : Option Node) → Within n (number_if node) (weight_if m node)
  if_node None = omega arith
  if_node (Some node) = let h = at_node node.number in omega (arith, h)

  own_nodes : (seen : Seen) → Within n (node_numbers seen) (own m seen)
  own_nodes seen = let h = if_node seen.node in let e = no_places seen.places (weight_if m seen.node) in omega (arith, h, e)

  by_nodes : Relates lists numbers node_numbers (own m) (Within n)
  by_nodes = record { none = omega arith; plus = λ x y u v h g. within_both n x y u v h g; own = own_nodes }

  sound : (x y : ℕ) → nat_eq x y ≡ true → x ≡ y
  sound = eqb-true

  value_within : (e : Expr) → Distinct (nodes e) → total numbers (own m) e ≤ 1
  value_within e d =
      let h : Within n (nodes e) (total numbers (own m) e) = related lists numbers node_numbers (own m) (Within n) by_nodes e in
      let k = at_most_once nat_eq sound n (nodes e) d in omega (arith, h, k)

  block_within : (b : Stmts) → Distinct (block_nodes b) → total_of numbers (own m) b ≤ 1
  block_within b d =
      let h : Within n (block_nodes b) (total_of numbers (own m) b) = related_of lists numbers node_numbers (own m) (Within n) by_nodes b in
      let k = at_most_once nat_eq sound n (block_nodes b) d in omega (arith, h, k)

-- ---- places

numbers_both : (xs ys : List Declared) → place_numbers (xs ++ ys) ≡ place_numbers xs ++ place_numbers ys
numbers_both [] ys = refl
numbers_both (x ∷ xs) ys = ap (λ ns. x.number ∷ ns) (numbers_both xs ys)

abbrev Placed : ℕ → List Declared → ℕ → Type 0
Placed p xs w = Within p (place_numbers xs) w

placed_both : (p : ℕ) (xs ys : List Declared) (v w : ℕ) → Placed p xs v → Placed p ys w → Placed p (xs ++ ys) (v + w)
placed_both p xs ys v w h g =
    subst (λ ns. Within p ns (v + w)) (sym (numbers_both xs ys)) (within_both p (place_numbers xs) (place_numbers ys) v w h g)

module _ (p : ℕ) where
  abbrev named : Mark
  named = Scope (Named p)

  if_placed : (name : Option Declared) → Placed p (if_declared name) (if_place_weight named name)
  if_placed None = omega arith
  if_placed (Some place) = omega arith

  all_placed : (places : List Declared) (w : ℕ) → w ≡ 0 → Placed p places (with_places named places w)
  all_placed [] w e = omega (arith, e)
  all_placed (place ∷ places) w e = let h = all_placed places w e in omega (arith, h)

  node_unplaced : (node : Option Node) → weight_if named node ≡ 0
  node_unplaced None = refl
  node_unplaced (Some node) = omega arith

  own_placed : (seen : Seen) → Placed p (own_places seen) (own named seen)
  own_placed seen = all_placed seen.places (weight_if named seen.node) (node_unplaced seen.node)

  by_places : Relates lists numbers own_places (own named) (Placed p)
  by_places = record { none = omega arith; plus = λ x y u v h g. placed_both p x y u v h g; own = own_placed }

  block_placed : (b : Stmts) → Placed p (block_places b) (total_of numbers (own named) b)
  block_placed b = related_of lists numbers own_places (own named) (Placed p) by_places b

-- ---- a literal is no scope

own_none : (n : ℕ) (k : ℕ) → node_weight (Scope (Literal n)) k ≤ bit (nat_eq k n)
own_none n k = omega arith

-- ---- what weighs one at most stands there once

value_weighs : (m : Mark) (e : Expr) → Distinct (nodes e) → total numbers (own m) e ≤ 1
value_weighs (Spot n r) e d = value_within (Spot n r) n (spot_weight n r) (λ place. refl) e d
value_weighs (Scope (Temporary n)) e d = value_within (Scope (Temporary n)) n (λ k. omega arith) (λ place. refl) e d
value_weighs (Scope (Literal n)) e d = value_within (Scope (Literal n)) n (own_none n) (λ place. refl) e d
value_weighs (Scope (Named p)) e d =
    let h : Placed p (total lists own_places e) (total numbers (own (named p)) e) =
    related lists numbers own_places (own (named p)) (Placed p) (by_places p) e in
    let k : count nat_eq p (place_numbers (total lists own_places e)) ≡ 0 = ap (λ xs. count nat_eq p (place_numbers xs)) (declares_none e) in
    omega (arith, h, k)

once : (b : Acts) → ((m : Mark) → Holds m 1 b) → Distinct (all_marks b)
once b h =
    distinct_by same_mark self_mark (all_marks b)
    (λ m. let e = all_marked_is m b in let f = marked_within m b in let g = (h m).it in omega (arith, e, f, g))

module _ (hooked : Ty → Bool) (at_call : ℕ → ℕ → Mode) where
  pub value_once : (how : Use) (to : Option Root) (e : Expr) → Distinct (nodes e) → Distinct (all_marks (acts_of hooked at_call how to e Done))
  value_once how to e d =
      once (acts_of hooked at_call how to e Done)
      (λ m. holds_at_most m (of_value m e) 1 (value_weighs m e d) (holds_all m (of_value m e) (entire m e (puts_value m hooked at_call how to e))))

  -- ---- bodies

  abbrev params_weight : Mark → List Param → ℕ
  params_weight m [] = 0
  params_weight m (param ∷ params) = place_weight m param.place + params_weight m params

  owned_holds : (m : Mark) (mode : Mode) (param : Param) (last w : ℕ) {b : Acts} → Holds m w b →
      Holds m (place_weight m param.place + w) (owned hooked at_call mode param last b)
  owned_holds m M.Plain param last w f = holds_at_most m w (place_weight m param.place + w) (omega arith) f
  owned_holds m M.Sink param last w f = scope_holds m hooked at_call param.place last w f
  owned_holds m M.Var param last w f = holds_at_most m w (place_weight m param.place + w) (omega arith) f

  result_holds : (m : Mark) (result : Option Declared) (last w : ℕ) {b : Acts} → Holds m w b →
      Holds m (if_place_weight m result + w) (with_result hooked at_call result last b)
  result_holds m None last w f = holds_at_most m w (0 + w) (omega arith) f
  result_holds m (Some place) last w {b} f = by (hooked place.of)
    where
      by : (c : Bool) → Holds m (place_weight m place + w) (if c then Result (Named place.number) last b else b)
      by true = record { it = let h = f.it in let e = marked_within m b in omega (arith, h, e) }
      by false = holds_at_most m w (place_weight m place + w) (omega arith) f

  abbrev body_weight : Mark → List Param → Body → ℕ
  body_weight m params body = params_weight m params + (if_place_weight m body.result + total_of numbers (own m) body.stmts)

  module _ (in_body : ℕ → ℕ → Mode) where
    params_hold : (m : Mark) (proc i : ℕ) (params : List Param) (last w : ℕ) {b : Acts} → Holds m w b →
        Holds m (params_weight m params + w) (all_owned hooked at_call in_body proc i params last b)
    params_hold m proc i [] last w f = holds_at_most m w (0 + w) (omega arith) f
    params_hold m proc i (param ∷ params) last w f =
        let v = place_weight m param.place in
        let u = params_weight m params in
        holds_at_most m (v + (u + w)) ((v + u) + w) (omega arith)
        (owned_holds m (in_body proc i) param last (u + w) (params_hold m proc (suc i) params last w f))

    body_holds : (m : Mark) (proc : ℕ) (params : List Param) (body : Body) →
        Holds m (body_weight m params body) (proc_acts hooked at_call in_body proc params body)
    body_holds m proc params body =
        let w = total_of numbers (own m) body.stmts in
        params_hold m proc 0 params (last_of body.stmts) (if_place_weight m body.result + w)
        (result_holds m body.result (last_of body.stmts) w (block_holds m hooked at_call body.result body.stmts))

  -- where places weigh nothing, only the block counts
  params_none : (m : Mark) → ((place : Declared) → place_weight m place ≡ 0) → (params : List Param) → params_weight m params ≡ 0
  params_none m h [] = refl
  params_none m h (param ∷ params) = let e = h param.place in let f = params_none m h params in omega (arith, e, f)

  result_none : (m : Mark) → ((place : Declared) → place_weight m place ≡ 0) → (result : Option Declared) → if_place_weight m result ≡ 0
  result_none m h None = refl
  result_none m h (Some place) = h place

  body_within : (m : Mark) (n : ℕ) → ((k : ℕ) → node_weight m k ≤ bit (nat_eq k n)) → ((place : Declared) → place_weight m place ≡ 0) →
      (params : List Param) (body : Body) → Distinct (block_nodes body.stmts) → body_weight m params body ≤ 1
  body_within m n h g params body d =
      let e = params_none m g params in
      let f = result_none m g body.result in
      let k = block_within m n h g body.stmts d in omega (arith, e, f, k)

  params_placed : (p : ℕ) (params : List Param) → Placed p (param_places params) (params_weight (Scope (Named p)) params)
  params_placed p [] = omega arith
  params_placed p (param ∷ params) = let h = params_placed p params in omega (arith, h)

  body_weighs : (m : Mark) (params : List Param) (body : Body) → Distinct (block_nodes body.stmts) → Distinct (place_numbers (body_places params body)) →
      body_weight m params body ≤ 1
  body_weighs (Spot n r) params body d e = body_within (Spot n r) n (spot_weight n r) (λ place. refl) params body d
  body_weighs (Scope (Temporary n)) params body d e = body_within (Scope (Temporary n)) n (λ k. omega arith) (λ place. refl) params body d
  body_weighs (Scope (Literal n)) params body d e = body_within (Scope (Literal n)) n (own_none n) (λ place. refl) params body d
  body_weighs (Scope (Named p)) params body d e =
      let r = if_place_weight (Scope (Named p)) body.result in
      let w = total_of numbers (own (Scope (Named p))) body.stmts in
      let h : Placed p (body_places params body) (body_weight (Scope (Named p)) params body) =
      placed_both p (param_places params) (if_declared body.result ++ block_places body.stmts) (params_weight (Scope (Named p)) params) (r + w)
      (params_placed p params) (placed_both p (if_declared body.result) (block_places body.stmts) r w (if_placed p body.result) (block_placed p body.stmts)) in
      let k = at_most_once nat_eq eqb-true p (place_numbers (body_places params body)) e in omega (arith, h, k)

  pub procedure_once : (in_body : ℕ → ℕ → Mode) (proc : ℕ) (params : List Param) (body : Body) → Distinct (block_nodes body.stmts) →
      Distinct (place_numbers (body_places params body)) → Distinct (all_marks (proc_acts hooked at_call in_body proc params body))
  procedure_once in_body proc params body d e =
      once (proc_acts hooked at_call in_body proc params body)
      (λ m. holds_at_most m (body_weight m params body) 1 (body_weighs m params body d e) (body_holds in_body m proc params body))

  block_weighs : (m : Mark) (b : Stmts) → Distinct (block_nodes b) → Distinct (place_numbers (block_places b)) → total_of numbers (own m) b ≤ 1
  block_weighs (Spot n r) b d e = block_within (Spot n r) n (spot_weight n r) (λ place. refl) b d
  block_weighs (Scope (Temporary n)) b d e = block_within (Scope (Temporary n)) n (λ k. omega arith) (λ place. refl) b d
  block_weighs (Scope (Literal n)) b d e = block_within (Scope (Literal n)) n (own_none n) (λ place. refl) b d
  block_weighs (Scope (Named p)) b d e =
      let h = block_placed p b in let k = at_most_once nat_eq eqb-true p (place_numbers (block_places b)) e in omega (arith, h, k)

  pub block_once : (result : Option Declared) (b : Stmts) → Distinct (block_nodes b) → Distinct (place_numbers (block_places b)) →
      Distinct (all_marks (stmts_acts hooked at_call result b))
  block_once result b d e =
      once (stmts_acts hooked at_call result b)
      (λ m. holds_at_most m (total_of numbers (own m) b) 1 (block_weighs m b d e) (block_holds m hooked at_call result b))

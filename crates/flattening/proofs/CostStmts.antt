-- The lines of statements are paid for by what statements have.
use Rattle.std.proofs.Common.{◌≡◌, ℕ, suc, ◌+◌, ◌≤◌, ◌⊎◌, inl, inr, Bool, true, false, List, [], ◌∷◌, Option, Some, None, refl, arith}
use Rattle.std.specs.Prelude.{not, ◌&&◌, ◌||◌, if◌then◌else◌}
use Rattle.nim_types.specs.Types.{Ty, Facts}
use Rattle.nim_program.specs.declared.operation.Use.{Use}
use Rattle.nim_program.specs.declared.operation.Use.TheVariants.{Owned, Given, Looked}
use Rattle.nim_program.specs.declared.program.Mode.{Mode}
use Rattle.nim_program.specs.declared.stmt.Leaving.{Leaving}
use Rattle.nim_program.specs.declared.stmt.Leaving.TheVariants as K
use Rattle.nim_program.specs.Program.{Label, Building, ByConditions, ByLabels, Expr, Args, NoArg, ByValue, ByPath, Path, Declared, type_at, constant_in}
use Rattle.nim_program.specs.Program.{While, Count, Each, Stmt, Do, Idle, Give, Leave, Select, Loop, Raise, Try}
use Rattle.nim_program.specs.Program.{Stmts, Empty, Then, Declare, Defer, Blocks, Otherwise, Block}
use Rattle.nim_meaning.specs.Here.{is_hooked}
use Rattle.nim_meaning.specs.Meaning.{is_fresh}
use Rattle.nim_meaning.specs.Shapes.{is_covered, selector_type, is_last_block, is_read, is_text}
use Rattle.nim_meaning.specs.Waiting.{Wait, waiting, waiting_at, waiting_all, waiting_first}
use Rattle.flat_code.specs.declared.line.From.{From}
use Rattle.flat_code.specs.declared.line.From.TheVariants as F
use Rattle.flat_code.specs.declared.line.Owning.TheVariants as W
use Rattle.flat_code.specs.declared.line.Line.{Line}
use Rattle.flat_code.specs.declared.line.Line.TheVariants as L
use Rattle.flattening.specs.declared.numbers.Purpose.TheVariants.{Arm, End, Next, Turn}
use Rattle.flattening.specs.ExprLines.{has_hooks, is_copied, is_one_text, waits_at, begin_line, find_lines, lines, copied_lines, ready_lines, value_ends}
use Rattle.flattening.specs.Numbering.{type_number, width, width_at, widths, arm_count, width_in, width_of, label, looked_from, behind_selector}
use Rattle.flattening.specs.StmtLines.{Exits, leaving_by, ending, in_loop, back_lines, block_tests, second, place_end, head_ends, selector_ends, test_ends}
use Rattle.flattening.specs.StmtLines.{selector_lines, test_lines, look_up, gets_line, give_lines, fill_lines, hooked_element, element_lines, in_scope}
use Rattle.flattening.specs.StmtLines.{lines_in, lines_of, branch_lines, arm_blocks}
use Rattle.flat_code.specs.Alike.{name_of}
use Rattle.flattening.proofs.Costs.{Front, all_tests, In, Costs, Kept, ◌>>◌, Rules}
use Rattle.flattening.proofs.CostExprs.{P, none, most, quiet, backward, jump, unless, freed, freed_toward, freed_back, given, led, marked, once, ended, over}
use Rattle.flattening.proofs.CostExprs.{past, find_cost, again_cost, tests, chosen, arm_then, other_there, arm_here, later_arm, starts, ends, ends_both}
use Rattle.flattening.proofs.CostExprs.{end_all}
use Rattle.flattening.proofs.CostExprs.{Told, alone, outer_aim, looked, expr, aim, ready, copies_from}
use Rattle.flattening.specs.Formed.{HasSelector, HeadFits}
use Rattle.flattening.proofs.LineNames.{IsQuiet, is_literal, CountsFrom}

-- A path that is looked up twice.
abbrev pub Twice : (types : List Ty) (facts : Facts) (modes : (proc position : ℕ) → Mode) (x : Costs types facts modes) → Kept types facts modes x → Type 0
Twice types facts modes x k =
    (z : k.ground.World) (path : Path) (t r a : ℕ) (F : Front) →
    ((z' : k.ground.World) → k.ground.Under z z' → (n : ℕ) →
    ((z'' : k.ground.World) → k.ground.Under z' z'' → P types facts modes x k z'' 0 n (find_lines types facts path t)) →
    P types facts modes x k z' r (a + (n + n)) F) →
    P types facts modes x k z r (a + (find_cost types facts modes x k path t + again_cost types facts modes x k path t)) F

-- the arms that labels of blocks lead to
abbrev pub block_arms : List (List Label) → Blocks → (arm : ℕ) → List ℕ
block_arms labels (Otherwise block) a = []
block_arms [] (Block first rest) a = []
block_arms (these ∷ labels) (Block first rest) a = label Arm a ∷ block_arms labels rest (suc a)

module _ (types : List Ty) (facts : Facts) (modes : (proc position : ℕ) → Mode) (x : Costs types facts modes) (k : Kept types facts modes x)
    (rules : Rules k.ground.Stray)
    (twice : Twice types facts modes x k) where
  abbrev M : k.ground.World → (spare most : ℕ) → Front → Type 0
  M z spare most front = P types facts modes x k z spare most front

  abbrev told : (e : Expr) (how : Use) (t : ℕ) → Told types facts modes x k e how t
  told = expr types facts modes x k

  nothing : (z : k.ground.World) → M z 0 0 (λ k. k)
  nothing z = none types facts modes x k z

  at_most : (z : k.ground.World) {r a : ℕ} {F : Front} (r' a' : ℕ) → r' + a ≤ a' + r → M z r a F → M z r' a' F
  at_most z r' a' le p = most types facts modes x k z r' a' le p

  step : (z : k.ground.World) (n : ℕ) → k.Behind z n → M z 0 (x.line (L.Jump n)) (λ k. L.Jump n ∷ k)
  step z n there = jump types facts modes x k z n there

  still : (z : k.ground.World) (l : Line) → name_of l ≡ None → IsQuiet l → M z 0 (x.line l) (λ k. l ∷ k)
  still z l e q = quiet types facts modes x k z l e q

  here : (z : k.ground.World) (n : ℕ) → M z 0 (x.mark n) (λ k. L.Label n ∷ k)
  here z n = marked types facts modes x k z n

  zero : (z : k.ground.World) (t : ℕ) → k.ground.Free z t → M z 0 (x.line (L.Zero t)) (λ k. L.Zero t ∷ k)
  zero z t f = freed types facts modes x k z (L.Zero t) t refl (refl, refl, refl) refl f

  last : (z : k.ground.World) (n : ℕ) {r a : ℕ} {F : Front} → ((z' : k.ground.World) → k.ground.Under z z' → k.Behind z' n → M z' r a F) →
      M z r (a + x.mark n) (λ k. F (L.Label n ∷ k))
  last z n go = ended types facts modes x k z n go

  gone : (z : k.ground.World) (n : ℕ) {r a : ℕ} {F G : Front} → M z r a F → k.There n G → k.There n (λ k. F (G k))
  gone z n p h = past types facts modes x k z n p h

  -- a loop's turns, which go back
  turning : (z : k.ground.World) (n : ℕ) {r a : ℕ} {F : Front} → ((z' : k.ground.World) → k.ground.Under z z' → k.Before z' n → M z' r a F) →
      M z r (a + x.mark n) (λ k. L.Label n ∷ F k)
  turning z n {r} {a} {F} go = record { paid = k.begun z n r a F (λ z' u b. (go z' u b).paid) }

  only : {A : Type 0} → k.ground.Stray ⊎ (⊥ × A) → k.ground.Stray
  only (inl stray) = stray
  only (inr h) = absurd h.0

  -- ---- ways out

  -- Each way out takes what it has.
  abbrev pub ExitsPaid : k.ground.World → Exits → x.Ways → Type 0
  ExitsPaid z exits w = (way : Leaving) (z' : k.ground.World) → k.ground.Under z z' → M z' 0 (x.leaving way w) (leaving_by exits way)

  outer : (z z' : k.ground.World) (exits : Exits) (w : x.Ways) → k.ground.Under z z' → ExitsPaid z exits w → ExitsPaid z' exits w
  outer z z' exits w u out way z'' v = out way z'' (k.ground.further z z' z'' u v)

  -- what ends before
  ending_paid : (z : k.ground.World) (exits : Exits) (w w' : x.Ways) (a : ℕ) (F : Front) → ((z' : k.ground.World) → M z' 0 a F) →
      ((way : Leaving) → a + x.leaving way w ≤ x.leaving way w') → ExitsPaid z exits w → ExitsPaid z (ending F exits) w'
  ending_paid z exits w w' a F go le out K.Break z' u = at_most z' 0 _ (omega (arith, le K.Break)) (go z' >> out K.Break z' u)
  ending_paid z exits w w' a F go le out K.Continue z' u = at_most z' 0 _ (omega (arith, le K.Continue)) (go z' >> out K.Continue z' u)
  ending_paid z exits w w' a F go le out K.Return z' u = at_most z' 0 _ (omega (arith, le K.Return)) (go z' >> out K.Return z' u)

  inside_loop : (z : k.ground.World) (exits : Exits) (w : x.Ways) (t : ℕ) → k.Behind z (label End t) → k.Behind z (label Next t) → ExitsPaid z exits w →
      ExitsPaid z (in_loop exits t) (x.in_loop w)
  inside_loop z exits w t end next out K.Break z' u =
      at_most z' 0 _ (omega (arith, x.breaks w (label End t))) (step z' (label End t) (k.behind z z' (label End t) u end))
  inside_loop z exits w t end next out K.Continue z' u =
      at_most z' 0 _ (omega (arith, x.continues w (label Next t))) (step z' (label Next t) (k.behind z z' (label Next t) u next))
  inside_loop z exits w t end next out K.Return z' u = at_most z' 0 _ (omega (arith, x.returns w)) (out K.Return z' u)

  back : (z : k.ground.World) (exits : Exits) (w : x.Ways) (b : Bool) → ExitsPaid z exits w →
      M z 0 (if b then x.leaving K.Return w else 0) (back_lines exits b)
  back z exits w true out = out K.Return z (k.ground.self z)
  back z exits w false out = nothing z

  -- a place ends, where it has hooks
  place_ended : (z : k.ground.World) (place : Declared) →
      M z 0 (if is_hooked facts place.of then x.ended else 0) (place_end types facts place)
  place_ended z place = at (is_hooked facts place.of)
    where
      line : Line
      line = L.Own (W.PlaceEnds place.number (type_number types place.of)) []

      at : (b : Bool) → M z 0 (if b then x.ended else 0) (λ k. if b then line ∷ k else k)
      at true =
          at_most z 0 _ (omega (arith, x.place_ends place.number (type_number types place.of))) (still z line refl (refl, refl, refl))
      at false = nothing z

  if_least : (b : Bool) (n : ℕ) → (if b then n else 0) ≤ n
  if_least true n = omega arith
  if_least false n = omega arith

  place_once : (z : k.ground.World) (place : Declared) → M z 0 x.ended (place_end types facts place)
  place_once z place = at_most z 0 _ (omega (arith, if_least (is_hooked facts place.of) x.ended)) (place_ended z place)

  inside_place : (z : k.ground.World) (result : Option Declared) (exits : Exits) (w : x.Ways) (place : Declared) → ExitsPaid z exits w →
      ExitsPaid z (in_scope types facts modes result place exits) (x.in_place place w)
  inside_place z result exits w place out =
      ending_paid z exits w (x.in_place place w) (if is_hooked facts place.of then x.ended else 0) (place_end types facts place)
      (λ z'. place_ended z' place) (λ way. x.scoped place w way) out

  inside_group : (z : k.ground.World) (exits : Exits) (w : x.Ways) (F : Front) (ws : List Wait) →
      ((z' : k.ground.World) → M z' 0 (ends types facts modes x k ws) F) → ExitsPaid z exits w → ExitsPaid z (ending F exits) (x.in_group ws w)
  inside_group z exits w F ws go out =
      ending_paid z exits w (x.in_group ws w) (ends types facts modes x k ws) F go (λ way. x.grouped ws w way) out

  -- ---- heads

  blocks_tested : (z : k.ground.World) (labels : List (List Label)) (blocks : Blocks) (s a : ℕ) → ((n : ℕ) → In n (block_arms labels blocks a) → k.Behind z n) →
      M z 0 (all_tests x.tests labels) (block_tests labels blocks s a)
  blocks_tested z labels (Otherwise block) s a know = at_most z 0 _ (omega arith) (nothing z)
  blocks_tested z [] (Block first rest) s a know = nothing z
  blocks_tested z (these ∷ labels) (Block first rest) s a know =
      at_most z 0 _ (omega arith)
      (tests types facts modes x k z these s (label Arm a) (know (label Arm a) (inl refl)) >> blocks_tested z labels rest s (suc a) (λ n i. know n (inr i)))

  -- what is owned is neither copied nor lent
  owned_operand : (first : Expr) (t : ℕ) (b : Bool) (z : k.ground.World) {r a : ℕ} → M z r a (lines types facts modes first Owned t) →
      M z r a (λ k. if b && (false && is_read first) then copied_lines types facts modes first t k
      else if (b && (false && (false || not (is_text first)))) && is_one_text (constant_in first)
      then begin_line types facts (constant_in first) first t ∷ k
      else lines types facts modes first Owned t
      (if b && (false && (false || not (is_text first))) then L.Fresh t t (waits_at facts first) ∷ k else k))
  owned_operand first t true z p = p
  owned_operand first t false z p = p

  abbrev waits_in : Args → List Wait
  waits_in head = waiting_all facts modes head (λ i. Owned) 0

  -- the operands of a loop that counts, whose number is free
  counted : (place : Declared) (inclusive : Bool) (head : Args) (t : ℕ) →
      k.ground.Stray ⊎ (HeadFits (Count place inclusive) head × CountsFrom (Count place inclusive) head) → (z : k.ground.World) → k.ground.Free z t →
      M z (x.held head t + ends types facts modes x k (waits_in head) + x.value t) (x.of_args head t)
      (ready_lines types facts modes (Building []) head (λ i. Owned) 0 t)
  counted place inclusive NoArg t s z f =
      at_most z _ _ (omega (arith, k.ground.no_value (only s) t)) (ready types facts modes x k (Building []) NoArg (λ i. Owned) 0 t z)
  counted place inclusive (ByPath path rest) t s z f =
      at_most z _ _ (omega (arith, k.ground.no_value (only s) t)) (ready types facts modes x k (Building []) (ByPath path rest) (λ i. Owned) 0 t z)
  counted place inclusive (ByValue first rest) t s z f =
      at_most z _ _
      (omega (arith, x.by_value first rest t, ends_both x.ended (waiting facts modes first Owned) (waiting_all facts modes rest (λ i. Owned) 1)))
      (owned_operand first t (has_hooks facts first) z ((told first Owned t).inner z (bare s) f)
      >> ready types facts modes x k (Building []) rest (λ i. Owned) 1 (t + width first) z)
    where
      bare : k.ground.Stray ⊎ (HeadFits (Count place inclusive) (ByValue first rest) × CountsFrom (Count place inclusive) (ByValue first rest)) →
          k.ground.Stray ⊎ (is_literal first ≡ false)
      bare (inl stray) = inl stray
      bare (inr h) = inr h.1

  -- a head whose path is looked up twice
  abbrev two_looks : Args → (t : ℕ) → ℕ
  two_looks (ByPath path rest) t = find_cost types facts modes x k path t + again_cost types facts modes x k path t
  two_looks args t = 0

  two_looked : (head : Args) (t : ℕ) (z : k.ground.World) →
      M z (x.held head t + ends types facts modes x k (waits_in head) + two_looks head t) (x.of_args head t)
      (ready_lines types facts modes (Building []) head (λ i. Owned) 0 t)
  two_looked NoArg t z = at_most z _ _ (omega arith) (ready types facts modes x k (Building []) NoArg (λ i. Owned) 0 t z)
  two_looked (ByValue value rest) t z = at_most z _ _ (omega arith) (ready types facts modes x k (Building []) (ByValue value rest) (λ i. Owned) 0 t z)
  two_looked (ByPath path rest) t z =
      at_most z _ _
      (omega (arith, x.by_path path rest t, ends_both x.ended (waiting_at facts modes path) (waiting_all facts modes rest (λ i. Owned) 1)))
      (outer_aim types facts modes x k path t (λ z f. aim types facts modes x k path t z f) z
      >> ready types facts modes x k (Building []) rest (λ i. Owned) 1 (t + width_at path) z)

  module _ (result : Option Declared) where
    heads_end : (head : Args) (z : k.ground.World) → M z 0 (ends types facts modes x k (waits_in head)) (head_ends types facts modes result head)
    heads_end head z = end_all types facts modes x k z (waits_in head)

    selectors_end : (parts : Args) (z : k.ground.World) →
        M z 0 (ends types facts modes x k (waiting_first facts modes parts)) (selector_ends types facts modes result parts)
    selectors_end parts z = end_all types facts modes x k z (waiting_first facts modes parts)

    looked_twice : (head : Args) (z : k.ground.World) (t r a : ℕ) (F : Front) →
        ((z' : k.ground.World) → k.ground.Under z z' → (n : ℕ) →
        ((z'' : k.ground.World) → k.ground.Under z' z'' → M z'' 0 n (look_up types facts modes result head t)) →
        M z' r (a + (n + n)) F) → M z r (a + two_looks head t) F
    looked_twice NoArg z t r a F go = go z (k.ground.self z) 0 (λ z'' u. nothing z'')
    looked_twice (ByValue value rest) z t r a F go = go z (k.ground.self z) 0 (λ z'' u. nothing z'')
    looked_twice (ByPath path rest) z t r a F go = twice z path t r a F go

    pub selector : (labels : List (List Label)) (args : Args) (t : ℕ) → k.ground.Stray ⊎ HasSelector (ByLabels labels) args → (z : k.ground.World) →
        M z (x.begin t + ends types facts modes x k (waiting_first facts modes args)) (x.of_chosen args t + x.line (L.Zero t))
        (selector_lines types facts modes result args t)
    selector labels NoArg t (inl s) z = at_most z _ _ (omega (arith, x.no_selector t)) (zero z t (k.ground.all_free s z t))
    selector labels NoArg t (inr s) z = absurd s
    selector labels (ByValue e rest) t s z =
        at_most z _ _ (omega (arith, x.selector e rest t, x.some_args rest (t + width e))) ((told e Looked t).outer z)
    selector labels (ByPath path rest) t s z =
        let n = looked_from path t in
        at_most z _ _ (omega (arith, x.looked path rest t, x.some_args rest (n + width_at path)))
        (looked types facts modes x k path (type_at path) t (λ z f. aim types facts modes x k path n z f) z)

    test : (args : Args) (t : ℕ) → k.ground.Stray ⊎ (HeadFits While args × CountsFrom While args) → (z : k.ground.World) →
        M z (x.begin t) (x.of_args args t + x.line (L.Zero t)) (λ k. test_lines types facts modes result args t (test_ends types facts modes result args k))
    test NoArg t s z = at_most z _ _ (omega (arith, x.some_args NoArg t)) (zero z t (k.ground.all_free (only s) z t))
    test (ByPath path rest) t s z = at_most z _ _ (omega (arith, x.some_args (ByPath path rest) t)) (zero z t (k.ground.all_free (only s) z t))
    test (ByValue e rest) t s z =
        at_most z _ _ (omega (arith, x.tested e rest t)) (alone types facts modes x k e Owned t (told e Owned t) z)

    -- ---- places get values

    gets : (place : Option Declared) (hooked : Bool) (from : From) (z : k.ground.World) → M z 0 x.given (gets_line types facts modes result place hooked from)
    gets None hooked from z = at_most z 0 _ (omega arith) (nothing z)
    gets (Some place) true from z =
        let n = type_number types place.of in
        at_most z 0 _ (omega (arith, x.gets_it place.number n (from ∷ []))) (still z (L.Own (W.ResultGets place.number n) (from ∷ [])) refl (refl, refl, refl))
    gets (Some place) false (F.Value t) z =
        at_most z 0 _ (omega (arith, x.given_it place.number t)) (still z (L.Give place.number t) refl (refl, refl, refl))
    gets (Some place) false (F.Place t) z = at_most z 0 _ (omega arith) (nothing z)

    -- a value, or a copy, and then the end of what waits in it
    gives : (e : Expr) (t : ℕ) (z : k.ground.World) →
        M z (x.spare t) (x.of_expr e t + x.given)
        (λ k. give_lines types facts modes result e t (value_ends types facts modes e Given k))
    gives e t z = at (is_copied facts Given e) refl
      where
        at : (b : Bool) → is_copied facts Given e ≡ b → M z (x.spare t) (x.of_expr e t + x.given)
            (λ k. if b then copied_lines types facts modes e t (gets_line types facts modes result result true (F.Place (suc t))
            (value_ends types facts modes e Given k))
            else lines types facts modes e Given t (gets_line types facts modes result result (has_hooks facts e) (F.Value t)
            (value_ends types facts modes e Given k)))
        at true f =
            at_most z _ _ (omega arith)
            (copies_from types facts modes x k e Given t f z
            >> (gets result true (F.Place (suc t)) z >> end_all types facts modes x k z (waiting facts modes e Given)))
        at false f =
            at_most z _ _ (omega arith)
            ((told e Given t).outer z
            >> (gets result (has_hooks facts e) (F.Value t) z >> end_all types facts modes x k z (waiting facts modes e Given)))

    fills : (place : Declared) (e : Expr) (t : ℕ) (z : k.ground.World) →
        M z (x.spare t) (x.of_expr e t + x.filled)
        (λ k. fill_lines types facts modes result place e t (value_ends types facts modes e Given k))
    fills place e t z = at (is_copied facts Given e) refl
      where
        copy : Line
        copy = L.Own (W.PlaceCopies place.number (type_number types place.of)) (F.Place (suc t) ∷ [])

        at : (b : Bool) → is_copied facts Given e ≡ b → M z (x.spare t) (x.of_expr e t + x.filled)
            (λ k. if b then copied_lines types facts modes e t (copy ∷ value_ends types facts modes e Given k)
            else lines types facts modes e Given t (L.Fill place.number t ∷ value_ends types facts modes e Given k))
        at true f =
            at_most z _ _ (omega (arith, x.copied_it place.number (type_number types place.of) (F.Place (suc t) ∷ [])))
            (copies_from types facts modes x k e Given t f z
            >> (still z copy refl (refl, refl, refl) >> end_all types facts modes x k z (waiting facts modes e Given)))
        at false f =
            at_most z _ _ (omega (arith, x.filled_it place.number t))
            ((told e Given t).outer z
            >> (still z (L.Fill place.number t) refl (refl, refl, refl) >> end_all types facts modes x k z (waiting facts modes e Given)))

    -- the element of a turn
    element : (borrows : Bool) (place : Declared) (t at counter : ℕ) (z : k.ground.World) →
        M z 0 (x.element t) (element_lines types facts modes result borrows place t at counter)
    element borrows place t at counter z = by (is_hooked facts place.of)
      where
        hooked : (borrows : Bool) → M z 0 (x.element t) (λ k. L.Item t at counter ∷ hooked_element types facts modes result borrows place t ∷ k)
        hooked true =
            at_most z 0 _ (omega (arith, x.element_stands t at counter place.number (F.Place t ∷ [])))
            (led types facts modes x k z (L.Item t at counter) t refl (refl, refl, refl)
            >> still z (L.Own (W.PlaceStands place.number) (F.Place t ∷ [])) refl (refl, refl, refl))
        hooked false =
            let n = type_number types place.of in
            at_most z 0 _ (omega (arith, x.element_copy t at counter place.number n (F.Place t ∷ [])))
            (led types facts modes x k z (L.Item t at counter) t refl (refl, refl, refl)
            >> still z (L.Own (W.PlaceCopies place.number n) (F.Place t ∷ [])) refl (refl, refl, refl))

        by : (b : Bool) → M z 0 (x.element t)
            (λ k. if b then L.Item t at counter ∷ hooked_element types facts modes result borrows place t ∷ k
            else L.Element t at counter ∷ L.Fill place.number t ∷ k)
        by true = hooked borrows
        by false =
            at_most z 0 _ (omega (arith, x.element_value t at counter place.number))
            (given types facts modes x k z (L.Element t at counter) t refl (refl, refl, refl)
            >> still z (L.Fill place.number t) refl (refl, refl, refl))

    -- ---- loops

    -- a loop's body, by where the next turn begins
    abbrev BodyPaid : k.ground.World → (t r a : ℕ) → Front → Type 0
    BodyPaid z t r a B = (z' : k.ground.World) → k.ground.Under z z' → k.Behind z' (label Next t) → M z' r a B

    -- the label of the next turn stands behind a loop's body, and so does that of the test of elements
    at_next : (t turn : ℕ) (r a : ℕ) (B : Front) → (z : k.ground.World) → BodyPaid z t r a B → (G : Front) (n : ℕ) → In n (label Next t ∷ []) →
        k.There n (λ k. L.Label turn ∷ B (L.Label (label Next t) ∷ G k))
    at_next t turn r a B z go G n (inl e) =
        gone z n (here z turn) (k.within z (label Next t) n _ (λ z' u next.
        gone z' n (go z' u next) (k.first n (λ k. L.Label (label Next t) ∷ k) G (k.here n (label Next t) e))))
    at_next t turn r a B z go G n (inr i) = absurd i

    at_arm : (t counter to : ℕ) (r a : ℕ) (B : Front) → (z : k.ground.World) → k.ground.Free z counter → BodyPaid z t r a B → (G : Front) (n : ℕ) →
        In n (label Arm t ∷ []) →
        k.There n (λ k. L.Label (label Turn t) ∷ B (L.Label (label Next t) ∷ L.Next counter to ∷ L.Label (label Arm t) ∷ G k))
    at_arm t counter to r a B z g go G n (inl e) =
        gone z n (here z (label Turn t)) (k.within z (label Next t) n _ (λ z' u next.
        gone z' n (go z' u next)
        (gone z n (here z (label Next t)) (gone z n (freed types facts modes x k z (L.Next counter to) counter refl (refl, refl, refl) refl g)
        (k.first n (λ k. L.Label (label Arm t) ∷ k) G (k.here n (label Arm t) e))))))
    at_arm t counter to r a B z g go G n (inr i) = absurd i

    abbrev Turns : k.ground.World → Stmts → Exits → x.Ways → (t : ℕ) → Type 0
    Turns z b exits w t = M z (x.begin t) (x.of_block b w t) (lines_of types facts modes result b exits t)

    while_body : (body : Stmts) (exits : Exits) (w : x.Ways) (t first : ℕ) →
        ((z : k.ground.World) → ExitsPaid z (in_loop exits t) (x.in_loop w) → Turns z body (in_loop exits t) (x.in_loop w) first) →
        (z : k.ground.World) → k.Behind z (label End t) → ExitsPaid z exits w →
        BodyPaid z t (x.begin first) (x.of_block body (x.in_loop w) first) (lines_of types facts modes result body (in_loop exits t) first)
    while_body body exits w t first go z end out z' u next =
        go z' (inside_loop z' exits w t (k.behind z z' (label End t) u end) next (outer z z' exits w u out))

    -- what is around the body of a loop over what a place gets in turn
    abbrev turn_exits : Declared → Args → Exits → (t : ℕ) → Exits
    turn_exits place head exits t = in_scope types facts modes result place (in_loop (ending (head_ends types facts modes result head) exits) t)

    abbrev turn_ways : Declared → Args → x.Ways → x.Ways
    turn_ways place head w = x.in_place place (x.in_loop (x.in_group (waits_in head) w))

    abbrev placed_body : Declared → Args → Stmts → Exits → (t first : ℕ) → Front
    placed_body place head body exits t first k =
        lines_of types facts modes result body (turn_exits place head exits t) first (place_end types facts place k)

    placed : (place : Declared) (head : Args) (body : Stmts) (exits : Exits) (w : x.Ways) (t first : ℕ) →
        ((z : k.ground.World) → ExitsPaid z (turn_exits place head exits t) (turn_ways place head w) →
        Turns z body (turn_exits place head exits t) (turn_ways place head w) first) →
        (z : k.ground.World) → k.Behind z (label End t) → ExitsPaid z exits w →
        BodyPaid z t (x.begin first) (x.of_block body (turn_ways place head w) first + x.ended) (placed_body place head body exits t first)
    placed place head body exits w t first go z end out z' u next =
        let around = inside_group z' exits w (head_ends types facts modes result head) (waits_in head) (λ z''. heads_end head z'') (outer z z' exits w u out) in
        let inner = inside_loop z' (ending (head_ends types facts modes result head) exits) (x.in_group (waits_in head) w) t
        (k.behind z z' (label End t) u end) next around in
        at_most z' _ _ (omega arith)
        (go z' (inside_place z' result (in_loop (ending (head_ends types facts modes result head) exits) t) (x.in_loop (x.in_group (waits_in head) w)) place
        inner)
        >> place_once z' place)

    mutual
      pub stmt : (s : Stmt) (exits : Exits) (w : x.Ways) (t : ℕ) → rules.Right s → (z : k.ground.World) → ExitsPaid z exits w →
          M z (x.begin t) (x.of_stmt s w t) (lines_in types facts modes result s exits t)
      stmt (Do e) exits w t s z out = at_most z _ _ (omega (arith, x.done e w t)) (alone types facts modes x k e Owned t (told e Owned t) z)
      stmt (Idle node parts) exits w t s z out = at_most z _ _ (omega (arith, x.some_stmt (Idle node parts) w t)) (nothing z)
      stmt (Give node b e) exits w t s z out =
          at_most z _ _ (omega (arith, x.gives node b e w t)) (gives e (suc t) z >> back z exits w b out)
      stmt (Leave node way parts) exits w t s z out =
          at_most z _ _ (omega (arith, x.leaves node way parts w t)) (out way z (k.ground.self z))
      stmt (Select node ByConditions conditions blocks) exits w t s z out =
          at_most z _ _ (omega (arith, x.selects node conditions blocks w t))
          (last z (label End t) (λ z' u end.
          branches conditions blocks exits w t (suc t) (rules.select node ByConditions conditions blocks s).1 z' end (outer z z' exits w u out)))
      stmt (Select node (ByLabels labels) parts blocks) exits w t s z out =
          let u = suc t + arm_count (ByLabels labels) in
          let v = behind_selector parts u in
          let c = is_covered (selector_type parts) in
          let q = rules.select node (ByLabels labels) parts blocks s in
          let ws = waiting_first facts modes parts in
          let inner = ending (selector_ends types facts modes result parts) exits in
          let v_ways = x.in_group ws w in
          at_most z _ _ (omega (arith, x.cases node labels parts blocks w t))
          (last z (label End t) (λ z' y end.
          let o = inside_group z' exits w (selector_ends types facts modes result parts) ws (λ z''. selectors_end parts z'') (outer z z' exits w y out) in
          selector labels parts u q.0 z'
          >> chosen types facts modes x k z' (block_arms labels blocks (suc t)) (label Next t)
          (λ z'' know. blocks_tested z'' labels blocks u (suc t) know)
          (arms c labels blocks inner v_ways t (suc t) v q.1 z' end o) (next_there c labels blocks inner v_ways t (suc t) v q.1 z' end o)
          (λ n i. arm_there c labels blocks inner v_ways t (suc t) v n q.1 z' end o i))
          >> selectors_end parts z)
      stmt (Loop node While head body) exits w t s z out =
          let q = rules.loop node While head body s in
          let first = suc t + widths head in
          at_most z _ _ (omega (arith, x.whiles node head body w t))
          (last z (label End t) (λ z1 u1 end.
          let o = outer z z1 exits w u1 out in
          over types facts modes x k z1 (label Next t ∷ []) (λ z2 u2 know. step z2 (label Next t) (know (label Next t) (inl refl)))
          (turning z1 (label Turn t) (λ z2 u2 turn.
          last z2 (label Next t) (λ z3 u3 next.
          while_body body exits w t first (λ z o. block body (in_loop exits t) (x.in_loop w) first q.1 z o) z1 end o z3 (k.ground.further z1 z2 z3 u2 u3) next)
          >> (test head (suc t) q.0 z2 >> backward types facts modes x k z2 (L.TurnIf (suc t) (label Turn t)) (label Turn t) refl refl refl refl turn)))
          (λ n i. at_next t (label Turn t) _ _ (lines_of types facts modes result body (in_loop exits t) first) z1
          (while_body body exits w t first (λ z o. block body (in_loop exits t) (x.in_loop w) first q.1 z o) z1 end o) _ n i)))
      stmt (Loop node (Count place inclusive) head body) exits w t s z out =
          let q = rules.loop node (Count place inclusive) head body s in
          let to = second head (suc t) in
          let first = suc t + widths head in
          once types facts modes x k z (suc t) (x.begin t) (λ z0 u0 f.
          at_most z0 _ _ (omega (arith, x.counts node place inclusive head body w t))
          (last z0 (label End t) (λ z1 u1 end.
          let o = outer z z1 exits w (k.ground.further z z0 z1 u0 u1) out in
          let g = k.ground.free z0 z1 (suc t) u1 f in
          counted place inclusive head (suc t) q.0 z1 g
          >> (freed_toward types facts modes x k z1 (L.Beyond (suc t) to inclusive (label End t)) (suc t) (label End t) refl refl refl refl refl g end
          >> (still z1 L.Enter refl (refl, refl, refl)
          >> turning z1 (label Turn t) (λ z2 u2 turn.
          still z2 (L.Fill place.number (suc t)) refl (refl, refl, refl)
          >> (last z2 (label Next t) (λ z3 u3 next.
          placed place head body exits w t first
          (λ z o. block body (turn_exits place head exits t) (turn_ways place head w) first q.1 z o) z1 end o z3 (k.ground.further z1 z2 z3 u2 u3) next)
          >> freed_back types facts modes x k z2 (L.CountTurn (suc t) to inclusive (label Turn t)) (suc t) (label Turn t) refl refl refl refl refl
          (k.ground.free z1 z2 (suc t) u2 g) turn)))))
          >> heads_end head z0))
      stmt (Loop node (Each place) head body) exits w t s z out =
          let q = rules.loop node (Each place) head body s in
          let at = suc t + 2 in
          let first = at + widths head in
          let to = suc (suc t) in
          let r = x.begin t + x.value (suc t) in
          let c = two_looks head at in
          once types facts modes x k z (suc t) (x.begin t) (λ za ua f.
          at_most za r _ (omega arith)
          (looked_twice head za at (r + c) (x.of_stmt (Loop node (Each place) head body) w t)
          (lines_in types facts modes result (Loop node (Each place) head body) exits t)
          (λ z0 u0 n looked.
          at_most z0 _ _ (omega (arith, x.goes_over node place head body w t))
          (last z0 (label End t) (λ z1 u1 end.
          let o = outer z z1 exits w (k.ground.further z za z1 ua (k.ground.further za z0 z1 u0 u1)) out in
          let g = k.ground.free za z1 (suc t) (k.ground.further za z0 z1 u0 u1) f in
          two_looked head at z1
          >> (looked z1 u1
          >> (given types facts modes x k z1 (L.Length to at) to refl (refl, refl, refl)
          >> (zero z1 (suc t) g
          >> over types facts modes x k z1 (label Arm t ∷ []) (λ z2 u2 know. step z2 (label Arm t) (know (label Arm t) (inl refl)))
          (turning z1 (label Turn t) (λ z2 u2 turn.
          let h = k.ground.free z1 z2 (suc t) u2 g in
          last z2 (label Next t) (λ z3 u3 next.
          placed place head body exits w t first
          (λ z o. block body (turn_exits place head exits t) (turn_ways place head w) first q.1 z o) z1 end o z3 (k.ground.further z1 z2 z3 u2 u3) next)
          >> (freed types facts modes x k z2 (L.Next (suc t) to) (suc t) refl (refl, refl, refl) refl h
          >> (here z2 (label Arm t)
          >> (freed_toward types facts modes x k z2 (L.Beyond (suc t) to false (label End t)) (suc t) (label End t) refl refl refl refl refl h
          (k.behind z1 z2 (label End t) u2 end)
          >> (looked z2 (k.ground.further z0 z1 z2 u1 u2)
          >> (still z2 (L.Still at to) refl (refl, refl, refl)
          >> (element (is_fresh head) place t at (suc t) z2
          >> backward types facts modes x k z2 (L.Turn (label Turn t)) (label Turn t) refl refl refl refl turn))))))))
          (λ m i. at_arm t (suc t) to _ _ (placed_body place head body exits t first) z1 g
          (placed place head body exits w t first
          (λ z o. block body (turn_exits place head exits t) (turn_ways place head w) first q.1 z o) z1 end o) _ m i)))))
          >> heads_end head z0))))
      stmt (Raise node exception message) exits w t s z out = at_most z _ _ (omega (arith, x.some_stmt (Raise node exception message) w t)) (nothing z)
      stmt (Try node body handlers handler) exits w t s z out = at_most z _ _ (omega (arith, x.some_stmt (Try node body handlers handler) w t)) (nothing z)

      pub block : (b : Stmts) (exits : Exits) (w : x.Ways) (t : ℕ) → rules.AllRight b → (z : k.ground.World) → ExitsPaid z exits w → Turns z b exits w t
      block Empty exits w t s z out = at_most z _ _ (omega (arith, x.some_block Empty w t)) (nothing z)
      block (Then first rest) exits w t s z out =
          let q = rules.follows first rest s in
          at_most z _ _ (omega (arith, x.follows first rest w t)) (stmt first exits w t q.0 z out >> block rest exits w (t + width_in first) q.1 z out)
      block (Declare node place cursor NoArg rest) exits w t s z out =
          at_most z _ _ (omega (arith, x.blanks node place cursor rest w t))
          (still z (L.Blank place.number (type_number types place.of)) refl (refl, refl, refl)
          >> (block rest (in_scope types facts modes result place exits) (x.in_place place w) (suc t) (rules.declare node place cursor NoArg rest s) z
          (inside_place z result exits w place out)
          >> place_once z place))
      block (Declare node place cursor (ByValue e more) rest) exits w t s z out =
          at_most z _ _ (omega (arith, x.fills node place cursor e more rest w t))
          (fills place e (suc t) z
          >> (block rest (in_scope types facts modes result place exits) (x.in_place place w) (suc t + widths (ByValue e more))
          (rules.declare node place cursor (ByValue e more) rest s) z (inside_place z result exits w place out)
          >> place_once z place))
      block (Declare node place cursor (ByPath path more) rest) exits w t s z out =
          at_most z _ _ (omega (arith, x.some_block (Declare node place cursor (ByPath path more) rest) w t)) (nothing z)
      block (Defer node handler rest) exits w t s z out = at_most z _ _ (omega (arith, x.some_block (Defer node handler rest) w t)) (nothing z)

      pub branches : (conditions : Args) (blocks : Blocks) (exits : Exits) (w : x.Ways) (t u : ℕ) → rules.EachRight blocks → (z : k.ground.World) →
          k.Behind z (label End t) →
          ExitsPaid z exits w → M z (x.begin u) (x.of_turns conditions blocks w u) (branch_lines types facts modes result conditions blocks exits t u)
      branches NoArg (Otherwise b) exits w t u s z end out =
          at_most z _ _ (omega (arith, x.otherwise b w u, x.last_turn (Otherwise b) w u)) (block b exits w u (rules.otherwise b s) z out)
      branches NoArg (Block first rest) exits w t u s z end out =
          at_most z _ _ (omega (arith, x.one_block first rest w u, x.last_turn (Block first rest) w u, x.some_blocks rest w (u + width_of first)))
          (block first exits w u (rules.block first rest s).0 z out)
      branches (ByPath path conditions) blocks exits w t u s z end out =
          at_most z _ _ (omega (arith, x.some_turns (ByPath path conditions) blocks w u)) (nothing z)
      branches (ByValue condition conditions) (Otherwise b) exits w t u s z end out =
          at_most z _ _ (omega (arith, x.some_turns (ByValue condition conditions) (Otherwise b) w u)) (nothing z)
      branches (ByValue condition conditions) (Block first rest) exits w t u s z end out =
          let q = rules.block first rest s in
          at_most z _ _ (omega (arith, x.one_turn condition conditions first rest w t u))
          (alone types facts modes x k condition Owned u (told condition Owned u) z
          >> (last z (label Arm u) (λ z' v arm.
          unless types facts modes x k z' u (label Arm u) arm
          >> (block first exits w (u + width condition) q.0 z' (outer z z' exits w v out) >> step z' (label End t) (k.behind z z' (label End t) v end)))
          >> branches conditions rest exits w t (u + width condition + width_of first) q.1 z end out))

      pub arms : (covered : Bool) (labels : List (List Label)) (blocks : Blocks) (exits : Exits) (w : x.Ways) (t a u : ℕ) → rules.EachRight blocks →
          (z : k.ground.World) → k.Behind z (label End t) → ExitsPaid z exits w →
          M z (x.begin u + x.begin a) (x.of_blocks blocks w u + x.arms labels a + x.mark (label Next t))
          (arm_blocks types facts modes result covered labels blocks exits t a u)
      arms covered labels (Otherwise b) exits w t a u s z end out =
          at_most z _ _ (omega (arith, x.otherwise b w u, x.no_arm labels a)) (here z (label Next t) >> block b exits w u (rules.otherwise b s) z out)
      arms covered [] (Block first rest) exits w t a u s z end out =
          at_most z _ _ (omega (arith, x.one_block first rest w u, x.no_arm [] a, x.some_blocks rest w (u + width_of first)))
          (here z (label Next t) >> block first exits w u (rules.block first rest s).0 z out)
      arms covered (these ∷ labels) (Block first rest) exits w t a u s z end out =
          let q = rules.block first rest s in
          let v = u + width_of first in
          at_most z _ _ (omega (arith, x.one_block first rest w u, x.one_arm these labels t a))
          (arm_then types facts modes x k z (covered && is_last_block rest) (label Next t) (label Arm a) (x.begin v + x.begin (suc a))
          (x.line (L.Jump (label End t)) + x.of_blocks rest w v + x.arms labels (suc a) + x.mark (label Next t))
          (omega (arith, x.some_blocks rest w v, x.no_arm labels (suc a))) (block first exits w u q.0 z out)
          (at_most z _ _ (omega arith) (step z (label End t) end >> arms covered labels rest exits w t (suc a) v q.1 z end out)))

      next_there : (covered : Bool) (labels : List (List Label)) (blocks : Blocks) (exits : Exits) (w : x.Ways) (t a u : ℕ) → rules.EachRight blocks →
          (z : k.ground.World) →
          k.Behind z (label End t) → ExitsPaid z exits w → k.There (label Next t) (arm_blocks types facts modes result covered labels blocks exits t a u)
      next_there covered labels (Otherwise b) exits w t a u s z end out =
          starts types facts modes x k (label Next t) (λ k. lines_of types facts modes result b exits u k)
      next_there covered [] (Block first rest) exits w t a u s z end out =
          starts types facts modes x k (label Next t) (λ k. lines_of types facts modes result first exits u k)
      next_there covered (these ∷ labels) (Block first rest) exits w t a u s z end out =
          let q = rules.block first rest s in
          other_there types facts modes x k z (covered && is_last_block rest) (label Next t) (label Arm a) (block first exits w u q.0 z out)
          (gone z (label Next t) (step z (label End t) end) (next_there covered labels rest exits w t (suc a) (u + width_of first) q.1 z end out))

      arm_there : (covered : Bool) (labels : List (List Label)) (blocks : Blocks) (exits : Exits) (w : x.Ways) (t a u n : ℕ) → rules.EachRight blocks →
          (z : k.ground.World) →
          k.Behind z (label End t) → ExitsPaid z exits w → In n (block_arms labels blocks a) →
          k.There n (arm_blocks types facts modes result covered labels blocks exits t a u)
      arm_there covered labels (Otherwise b) exits w t a u n s z end out i = absurd i
      arm_there covered [] (Block first rest) exits w t a u n s z end out i = absurd i
      arm_there covered (these ∷ labels) (Block first rest) exits w t a u n s z end out (inl e) =
          arm_here types facts modes x k z (covered && is_last_block rest) (label Next t) (label Arm a) n
          (λ l. lines_of types facts modes result first exits u l)
          (λ l. L.Jump (label End t) ∷ arm_blocks types facts modes result covered labels rest exits t (suc a) (u + width_of first) l) e
      arm_there covered (these ∷ labels) (Block first (Otherwise b)) exits w t a u n s z end out (inr i) = absurd i
      arm_there covered (these ∷ labels) (Block first (Block other rest)) exits w t a u n s z end out (inr i) =
          let q = rules.block first (Block other rest) s in
          later_arm types facts modes x k z covered (label Next t) (label Arm a) n (block first exits w u q.0 z out)
          (gone z n (step z (label End t) end) (arm_there covered labels (Block other rest) exits w t (suc a) (u + width_of first) n q.1 z end out i))

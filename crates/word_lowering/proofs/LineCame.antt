-- The deed that reads a line: where it answers, where it ends for want of heap, and how much it works, by what the routine counts.
use Rattle.std.proofs.Common.{◌≡◌, ℕ, zero, suc, ◌+◌, ◌*◌, ◌≤◌, List, [], ◌∷◌, ◌++◌, length, Bool, true, false}
use Rattle.std.proofs.Common.{refl, sym, ap, ap₂, subst, ◌∙◌, arith}
use Rattle.std.specs.Prelude.{◌||◌, if◌then◌else◌}
use Rattle.nim_meaning.specs.Values.{Value, block_of, length_of}
use Rattle.nim_meaning.specs.Heap.{Characters, Heap, class_for, has_room}
use Rattle.nim_meaning.specs.State.{World, load, text_of}
use Rattle.nim_meaning.specs.Deeds.{Done, Answers, Finishes, Fails, behind, perform}
use Rattle.nim_meaning.specs.Lifted.{has_place, resized}
use Rattle.nim_meaning.specs.OwnedRows.{appended, each_appended}
use Rattle.heap_memory.specs.declared.numbers.TheConstants.{CHAR_LINES, FURTHER_LINES, GROW_LINES, KEPT_LINES, MOVE_BYTE}
use Rattle.heap_memory.specs.HeapRoutines.{class_of}
use Rattle.heap_memory.specs.LineRoutine.{UnderWay, all_fit, has_capacity, line_work, may_get, one_longer}
use Rattle.heap_memory.proofs.ForCallers.{class_few}
use Rattle.word_lowering.proofs.HeapWanted.{came_less, came_works, followed, least_of, perform_then, resized_came, room_in}
use Rattle.word_lowering.proofs.LineUnderWay.{IsLinked, has_same, linked_next, room_same}
use Rattle.word_lowering.proofs.LinesRead.{IsIn, Line, has_in, in_it, line_world, next, next_alike, next_in, place_in, value_is}
use Rattle.word_lowering.proofs.ResizedWorlds.{AreAlike, answered}
use Rattle.word_lowering.proofs.RowRuns.{Came}

-- what so many characters more work at least
abbrev pub least_work : (room count : ℕ) → UnderWay → ℕ
least_work room zero u = 0
least_work room (suc n) u = 1 + least_of (has_capacity u) (suc u.length) + (if may_get room u then least_work room n (one_longer u) else 0)

-- the routine's lines
pub lines_few : (room count : ℕ) (u : UnderWay) → line_work room count u ≤ 160 * least_work room count u
lines_few room zero u = omega arith
lines_few room (suc n) u = by (has_capacity u) (may_get room u) (lines_few room n (one_longer u))
  where
    by : (p q : Bool) → line_work room n (one_longer u) ≤ 160 * least_work room n (one_longer u)
        → CHAR_LINES + (if p then KEPT_LINES else GROW_LINES + (FURTHER_LINES * class_of (suc u.length) + MOVE_BYTE * u.length))
        + (if q then line_work room n (one_longer u) else 0)
        ≤ 160 * (1 + least_of p (suc u.length) + (if q then least_work room n (one_longer u) else 0))
    by true true h = omega (arith, h)
    by true false h = omega arith
    by false true h = let c = class_few (suc u.length) in omega (arith, c, h)
    by false false h = let c = class_few (suc u.length) in omega (arith, c)

module _ (heap0 : Heap) (w0 : World) (hand : List Value) where
  -- one character more
  module _ (g : Line) (u : UnderWay) (x : IsLinked heap0 g u) (is : IsIn g.heap g.block g.text) (w : World) (same : AreAlike w (line_world w0 hand g))
      (c : ℕ) where
    abbrev bytes : ℕ
    bytes = suc (length g.text)

    has_is : has_place w g.block bytes ≡ has_capacity u
    has_is = place_in w g.block bytes ∙ ap (λ h. has_in h g.block bytes) same.heap ∙ has_same heap0 g u x

    room_is : room_in w g.block bytes ≡ may_get heap0.room u
    room_is =
        ap₂ (λ a b. a || b) (place_in w g.block bytes ∙ ap (λ h. has_in h g.block bytes) same.heap)
        (ap (λ h. has_room h (class_for bytes h.classes)) same.heap)
        ∙ room_same heap0 g u x

    pub one_came : Came (1 + least_of (has_capacity u) (suc u.length)) (may_get heap0.room u) w.input (perform (appended (c ∷ []) (in_it w0 hand)) w)
    one_came =
        let sum : suc (length g.text) ≡ length g.text + 1 = omega arith in
        let n : length g.text ≡ length_of (load w (in_it w0 hand)) = sym (ap length_of (value_is w0 hand g is w same)) in
        came_works (least_of (has_capacity u) (suc u.length)) 1 (may_get heap0.room u) w.input
        (perform (resized (length_of (load w (in_it w0 hand)) + 1) (length_of (load w (in_it w0 hand)) + 1)
        (Characters (text_of w (load w (in_it w0 hand)) ++ c ∷ [])) (in_it w0 hand)) w)
        (subst (λ i. Came (least_of (has_capacity u) (suc u.length)) (may_get heap0.room u) w.input
        (perform (resized i i (Characters (text_of w (load w (in_it w0 hand)) ++ c ∷ [])) (in_it w0 hand)) w)) (sum ∙ ap (λ i. i + 1) n)
        (subst (λ r. Came (least_of (has_capacity u) (suc u.length)) r w.input
        (perform (resized bytes bytes (Characters (text_of w (load w (in_it w0 hand)) ++ c ∷ [])) (in_it w0 hand)) w)) room_is
        (subst (λ i. Came (least_of (has_capacity u) i) (room_in w g.block bytes) w.input
        (perform (resized bytes bytes (Characters (text_of w (load w (in_it w0 hand)) ++ c ∷ [])) (in_it w0 hand)) w)) (ap suc x.long)
        (subst (λ p. Came (least_of p bytes) (room_in w g.block bytes) w.input
        (perform (resized bytes bytes (Characters (text_of w (load w (in_it w0 hand)) ++ c ∷ [])) (in_it w0 hand)) w)) has_is
        (resized_came w bytes bytes (Characters (text_of w (load w (in_it w0 hand)) ++ c ∷ [])) (λ e. e) (in_it w0 hand) g.block
        (ap block_of (value_is w0 hand g is w same)))))))

  -- all of them
  pub each_came : (cs : List ℕ) (g : Line) (u : UnderWay) → IsLinked heap0 g u → IsIn g.heap g.block g.text → (w : World) → AreAlike w (line_world w0 hand g)
      → Came (least_work heap0.room (length cs) u) (all_fit heap0.room (length cs) u) w.input (perform (each_appended cs (in_it w0 hand)) w)
  each_came [] g u x is w same = (refl, omega arith, refl, refl)
  each_came (c ∷ cs) g u x is w same =
      subst (λ d. Came (least_work heap0.room (suc (length cs)) u) (all_fit heap0.room (suc (length cs)) u) w.input d)
      (sym (perform_then (λ _. each_appended cs (in_it w0 hand)) (appended (c ∷ []) (in_it w0 hand)) w))
      (by (λ fits v alike. each_came cs (next g c) (one_longer u) (linked_next heap0 g u x c fits) (next_in g c is) v alike)
      (perform (appended (c ∷ []) (in_it w0 hand)) w) refl (one_came g u x is w same c))
    where
      by : (go : may_get heap0.room u ≡ true → (v : World) → AreAlike v (line_world w0 hand (next g c))
          → Came {A = Unit {0}} (least_work heap0.room (length cs) (one_longer u)) (all_fit heap0.room (length cs) (one_longer u)) v.input
          (perform (each_appended cs (in_it w0 hand)) v))
          → (done : Done (Unit {0})) → perform (appended (c ∷ []) (in_it w0 hand)) w ≡ done
          → Came (1 + least_of (has_capacity u) (suc u.length)) (may_get heap0.room u) w.input done
          → Came (least_work heap0.room (suc (length cs)) u) (all_fit heap0.room (suc (length cs)) u) w.input
          (followed (λ _. each_appended cs (in_it w0 hand)) done)
      by go (Answers es n a v) e (none, some, fits, input) =
          let rest : Done (Unit {0}) = perform (each_appended cs (in_it w0 hand)) v in
          let later = go fits v (next_alike w0 hand g is w same c v (ap answered e)) in
          let more : ℕ = least_work heap0.room (length cs) (one_longer u) in
          subst (λ fs. Came (least_work heap0.room (suc (length cs)) u) (all_fit heap0.room (suc (length cs)) u) w.input (behind fs n rest)) (sym none)
          (subst (λ p. Came (1 + least_of (has_capacity u) (suc u.length) + (if p then more else 0))
          (if p then all_fit heap0.room (length cs) (one_longer u) else false) w.input (behind [] n rest)) (sym fits)
          (subst (λ i. Came (1 + least_of (has_capacity u) (suc u.length) + more) (all_fit heap0.room (length cs) (one_longer u)) i (behind [] n rest)) input
          (came_less (1 + least_of (has_capacity u) (suc u.length) + more) (n + more) (all_fit heap0.room (length cs) (one_longer u)) v.input (behind [] n rest)
          (omega (arith, some))
          (came_works more n (all_fit heap0.room (length cs) (one_longer u)) v.input rest later))))
      by go (Finishes es n status v) e (line, some, full, one) =
          subst (λ p. Came {A = Unit {0}} (1 + least_of (has_capacity u) (suc u.length) + (if p then least_work heap0.room (length cs) (one_longer u) else 0))
          (if p then all_fit heap0.room (length cs) (one_longer u) else false) w.input (Finishes es n status v)) (sym full)
          (line, omega (arith, some), refl, one)
      by go (Fails es n v) e came = tt

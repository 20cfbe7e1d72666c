-- What becomes of a value that a line made: it is handed on as it is, or waits where it is used.
use Rattle.std.proofs.Common.{◌≡◌, ℕ, ◌+◌, List, Some, Bool, true, false, refl, sym, ap, ap₂, subst, ◌∙◌, arith, append-nil}
use Rattle.std.specs.Prelude.{nat_eq, ◌&&◌}
use Rattle.std.proofs.lemmas.Bool.{cond-true, eq-eqb}
use Rattle.arc_base.specs.Event.{Event}
use Rattle.nim_program.specs.declared.operation.Use.{Use}
use Rattle.nim_program.specs.declared.operation.Use.TheVariants.{Owned, Given}
use Rattle.nim_meaning.specs.Deeds.{Answers, Deed, Done, Fails, Finishes, behind, give, perform, ◌>>=◌}
use Rattle.nim_meaning.specs.Places as places
use Rattle.nim_meaning.specs.Places.{Destination, kept, kept_for}
use Rattle.nim_meaning.specs.Shapes.{waits}
use Rattle.nim_meaning.specs.State.{World, with_one_waiting}
use Rattle.nim_meaning.specs.Values.{Value, bytes, Holds}
use Rattle.flat_code.specs.declared.block.BlockLine.{BlockLine}
use Rattle.flat_code.specs.declared.line.UseAt.{UseAt}
use Rattle.flat_code.specs.Codes.{block_plain}
use Rattle.flat_code.specs.Scene.{Passes, Temps, with_value}
use Rattle.word_code.specs.declared.word.WordInstr.{WordInstr}
use Rattle.word_lowering.specs.declared.homes.Waiter.{Waiter}
use Rattle.word_lowering.specs.LineCode.{behind_line, value}
use Rattle.word_lowering.specs.WaitingCode.{kept_if}
use Rattle.word_lowering.proofs.HeapWanted.{perform_then, followed}
use Rattle.word_lowering.proofs.KeptCode.{is_kept, value_waits}
use Rattle.word_lowering.proofs.KeptLines.{WaitsAt, kept_completes, kept_done, waiting_then}
use Rattle.word_lowering.proofs.Lines.{Basis, Completes, IsGood, Settles, bound_for, completes_quiet, starts}
use Rattle.word_lowering.proofs.Related.{Both}
use Rattle.word_lowering.proofs.RowSettles.{mapped, perform_mapped, perform_on}
use Rattle.word_lowering.proofs.ShapeFacts.{never}
use Rattle.word_lowering.proofs.Sites.{Body, around}

module _ (temps : Temps) (to : ℕ) where
  abbrev gets : Value → Deed Temps
  gets v = give (with_value to temps v)

  got : (v : Value) → (with_value to temps v).values to ≡ Some v
  got v = cond-true (nat_eq to to) (Some v) (temps.values to) (eq-eqb to to refl)

  module _ (how : Use) (level node : ℕ) where
    abbrev there : Destination
    there = record { how = how; level = level; node = node }

    owned_is : (u : Use) → waits u ≡ false → (v : Value) → kept_for u level node v ≡ give v
    owned_is Owned h v = refl
    owned_is Given h v = refl
    owned_is u h v = never (sym h)

    -- one that waits
    one_waits : (u : Use) → waits u ≡ true → (es : List Event) (n : ℕ) (v : Value) (w : World)
        → behind es n (perform (kept_for u level node v >>= gets) w) ≡ kept_done to level node (Answers es n (with_value to temps v) w)
    one_waits Owned h es n v w = never h
    one_waits Given h es n v w = never h
    one_waits u h es n v w =
        let e : n + (bytes v + 0) ≡ n + bytes v = omega arith in
        ap₂ (λ fs k. Answers fs k (with_value to temps v) (with_one_waiting w level node (Holds v))) (append-nil es) e
        ∙ sym (ap (λ o. waiting_then level node es n (with_value to temps v) w o) (got v))

    kept_so : waits how ≡ true → (d : Deed Value) (w : World)
        → perform ((d >>= kept there) >>= gets) w ≡ kept_done to level node (perform (d >>= gets) w)
    kept_so h d w =
        perform_on d (kept there) gets w ∙ perform_then (λ v. kept there v >>= gets) d w ∙ by (perform d w)
        ∙ sym (ap (kept_done to level node) (perform_mapped (λ v. with_value to temps v) d w))
      where
        by : (done : Done Value) → followed (λ v. kept there v >>= gets) done ≡ kept_done to level node (mapped (λ v. with_value to temps v) done)
        by (Answers es n v after) = one_waits how h es n v after
        by (Finishes es n status after) = refl
        by (Fails es n after) = refl

    owned_so : waits how ≡ false → (d : Deed Value) (w : World) → perform ((d >>= kept there) >>= gets) w ≡ perform (d >>= gets) w
    owned_so h d w =
        perform_on d (kept there) gets w ∙ perform_then (λ v. kept there v >>= gets) d w ∙ by (perform d w) ∙ sym (perform_then gets d w)
      where
        by : (done : Done Value) → followed (λ v. kept there v >>= gets) done ≡ followed gets done
        by (Answers es n v after) = ap (λ k. behind es n (perform (k >>= gets) after)) (owned_is how h v)
        by (Finishes es n status after) = refl
        by (Fails es n after) = refl

    none_made : (d : Deed Value) (w : World) → perform ((d >>= places.kept_if false there) >>= gets) w ≡ perform (d >>= gets) w
    none_made d w =
        perform_on d (places.kept_if false there) gets w ∙ perform_then (λ v. places.kept_if false there v >>= gets) d w ∙ by (perform d w)
        ∙ sym (perform_then gets d w)
      where
        by : (done : Done Value) → followed (λ v. places.kept_if false there v >>= gets) done ≡ followed gets done
        by (Answers es n v after) = refl
        by (Finishes es n status after) = refl
        by (Fails es n after) = refl

-- ---- all of a line

module _ (x : Basis) (g : Both) (line : BlockLine) (rest : List BlockLine) (y : IsGood x (starts g line rest)) (temps : Temps) (to : ℕ) (how : UseAt)
    (hooked : Bool) (waiting : value_waits x.table (block_plain line) ≡ (hooked && waits how.how))
    (code_is : (b : Body) (k : List WordInstr) → behind_line (around x.table x.blocks b) (block_plain line) k
    ≡ kept_if x.table b.own.waiters (value (around x.table x.blocks b)) (hooked && waits how.how) how.node to k)
    (waits_at : hooked ≡ true → waits how.how ≡ true → (w : Waiter) × WaitsAt x g.call.site to how.node w)
    (d : Deed Value) where
  abbrev here : Both
  here = starts g line rest

  gets_value : (es : List Event) (n : ℕ) (after : Temps) (world : World) (done : Done Value)
      → mapped (λ v. with_value to temps v) done ≡ Answers es n after world → (v : Value) × (after.values to ≡ Some v)
  gets_value es n after world (Answers fs m v w) e = (
    v,
    subst (λ (t : Temps). t.values to ≡ Some v) (temps_of fs es m n (with_value to temps v) after w world e)
        (got temps to v),
  )
    where
      temps_of : (fs es : List Event) (m n : ℕ) (a b : Temps) (w v : World) → Answers fs m a w ≡ Answers es n b v → a ≡ b
      temps_of fs es m n a b w v e = cc
  gets_value es n after world (Finishes fs m status w) e = absurd (no_answer fs es m n status after w world e)
    where
      no_answer : (fs es : List Event) (m n status : ℕ) (b : Temps) (w v : World) → Finishes fs m status w ≡ Answers es n b v → ⊥
      no_answer fs es m n status b w v e = cc
  gets_value es n after world (Fails fs m w) e = absurd (no_answer fs es m n after w world e)
    where
      no_answer : (fs es : List Event) (m n : ℕ) (b : Temps) (w v : World) → Fails fs m w ≡ Answers es n b v → ⊥
      no_answer fs es m n b w v e = cc

  -- From what a line does that hands its value to a temporary, to one whose value goes where it is used.
  pub made_completes : Settles x here rest (Passes (perform (d >>= gets temps to) g.world))
      → Completes x here rest (Passes (perform ((d >>= places.kept_if hooked (bound_for g how)) >>= gets temps to) g.world))
  made_completes follows = by hooked refl (waits how.how) refl
    where
      Done_by : Bool → Type 0
      Done_by h = Completes x here rest (Passes (perform ((d >>= places.kept_if h (bound_for g how)) >>= gets temps to) g.world))

      quiet : (hooked && waits how.how) ≡ false → Completes x here rest (Passes (perform (d >>= gets temps to) g.world))
      quiet e = completes_quiet x g line rest (Passes (perform (d >>= gets temps to) g.world)) (waiting ∙ e) follows

      by : (h : Bool) → hooked ≡ h → (u : Bool) → waits how.how ≡ u → Done_by hooked
      by false e u f =
          subst Done_by (sym e) (subst (λ done. Completes x here rest (Passes done)) (sym (none_made temps to how.how g.call.site.level how.node d g.world))
          (quiet (ap (λ b. b && waits how.how) e)))
      by true e false f =
          subst Done_by (sym e) (subst (λ done. Completes x here rest (Passes done))
          (sym (owned_so temps to how.how g.call.site.level how.node f d g.world))
          (quiet (ap₂ (λ a b. a && b) e f)))
      by true e true f =
          let m = waits_at e f in
          let both : (hooked && waits how.how) ≡ true = ap₂ (λ a b. a && b) e f in
          subst Done_by (sym e) (subst (λ done. Completes x here rest (Passes done))
          (sym (kept_so temps to how.how g.call.site.level how.node f d g.world))
          (kept_completes x g line rest y to how.node m.0 m.1 (waiting ∙ both)
          (λ b k. code_is b k ∙ is_kept x.table b.own.waiters (value (around x.table x.blocks b)) (hooked && waits how.how) how.node to k both)
          (perform (d >>= gets temps to) g.world)
          (λ es n after world e. gets_value es n after world (perform d g.world)
          (sym (perform_mapped (λ v. with_value to temps v) d g.world) ∙ e)) follows))

-- What passes no point: deeds, look-ups, and what is put together of such.
use Rattle.std.proofs.Common.{◌≡◌, refl, ◌∙◌, inl, inr, ◌⊎◌, ℕ, zero, suc, length, Bool, true, false, List, [], ◌∷◌, Option}
use Rattle.arc_base.specs.Event.{Event}
use Rattle.arc_base.specs.BigStep.{Res, Got, Over, Going, Errs, then_do, spend}
use Rattle.nim_types.specs.Types.{Ty}
use Rattle.nim_program.specs.Program.{Act, Doing, Building, Giving, Calling, Args, types_in}
use Rattle.nim_program.specs.Uses.{use_of}
use Rattle.nim_program.specs.declared.operation.Use.{Use}
use Rattle.nim_program.specs.Traps.{Trap, OutOfMemory}
use Rattle.nim_meaning.specs.Ways.{Point}
use Rattle.nim_meaning.specs.Heap.{has_room}
use Rattle.nim_meaning.specs.Values.{Operand, slots_for}
use Rattle.nim_meaning.specs.State.{World, State}
use Rattle.nim_meaning.specs.Acts.{Outcome, On, Out as LeftBy, Does, give, onward, ◌>>=◌, ◌>>◌, at_exit, branch, costs, spending, left_with, worked, say, end}
use Rattle.nim_meaning.specs.Acts.{wrong, stop, looks, change}
use Rattle.nim_meaning.specs.Deeds.{Deed, Gives, Ends, Errs as Wrong, Works, Says, Looks, Changes, Takes, carry, changed, with_block}
use Rattle.nim_meaning.specs.Here.{Here, gives_hooked}
use Rattle.nim_meaning.specs.Places.{rooted, made, to_part, to_item, to_object, kept_if}
use Rattle.nim_meaning.specs.Meaning.{destination, row, left_at, carried}
use Rattle.nim_meaning.specs.Aims.{Aim, Root, Value_of, Waits_at, PartOf, ItemOf, ObjectOf, find, Ready, Evaluated, Aimed, settle, handed_over}
use Rattle.nim_meaning.proofs.RunLemmas.{PassesNone, AreElsewhere, Still}

module _ (elsewhere : List Point → Type 0) where
  abbrev S : {A : Type 0} → Does A → Type 0
  S act = Still elsewhere act

  after : (t u v : List Point) → (v ≡ u) ⊎ elsewhere v → u ≡ t → (v ≡ t) ⊎ elsewhere v
  after t u v (inl h) g = inl (h ∙ g)
  after t u v (inr h) g = inr h

  passes_after : {A : Type 0} (t u : List Point) (r : Res State (Outcome A)) → PassesNone elsewhere u r → u ≡ t → PassesNone elsewhere t r
  passes_after t u (Got (On x) s) h g = h ∙ g
  passes_after t u (Got (LeftBy way) s) h g = h
  passes_after t u (Over status live s) h g = after t u s.trail h g
  passes_after t u (Going s) h g = after t u s.trail h g
  passes_after t u (Errs s) h g = after t u s.trail h g

  then_passes : {A B : Type 0} (t : List Point) (r : Res State (Outcome A)) (go : A → Does B) → PassesNone elsewhere t r → ((x : A) → S (go x)) →
      PassesNone elsewhere t (then_do r (onward go))
  then_passes t (Got (On x) s) go h g = passes_after t s.trail (go x s) ((g x).at s) h
  then_passes t (Got (LeftBy way) s) go h g = absurd h
  then_passes t (Over status live s) go h g = h
  then_passes t (Going s) go h g = h
  then_passes t (Errs s) go h g = h

  pub still_then : {A B : Type 0} (act : Does A) (go : A → Does B) → S act → ((x : A) → S (go x)) → S (act >>= go)
  still_then act go h g = record { at = λ s. then_passes s.trail (act s) go (h.at s) g }

  pub still_both : {A B : Type 0} (act : Does A) (rest : Does B) → S act → S rest → S (act >> rest)
  still_both act rest h g = still_then act (λ x. rest) h (λ x. g)

  pub still_give : {A : Type 0} (x : A) → S (give x)
  still_give x = record { at = λ s. refl }

  pub still_end : {A : Type 0} (status : ℕ) → S (end {A = A} status)
  still_end status = record { at = λ s. inl refl }

  pub still_costs : {A : Type 0} (n : ℕ) (act : Does A) → S act → S (costs n act)
  still_costs n act h = record { at = λ s. h.at (worked n s) }

  pub still_says : (es : List Event) → S (say es)
  still_says es = record { at = λ s. refl }

  pub still_wrong : {A : Type 0} → S (wrong {A = A})
  still_wrong = record { at = λ s. inl refl }

  pub still_looks : {A : Type 0} (act : World → Does A) → ((world : World) → S (act world)) → S (looks act)
  still_looks act h = record { at = λ s. (h s.world).at s }

  pub still_change : (f : World → World) → S (change f)
  still_change f = record { at = λ s. refl }

  pub still_branch : {A : Type 0} (b : Bool) (holds fails : Does A) → S holds → S fails → S (branch b holds fails)
  still_branch true holds fails h g = h
  still_branch false holds fails h g = g

  pub still_stop : {A : Type 0} (trap : Trap) → S (stop {A = A} trap)
  still_stop {A} trap = still_both _ (end {A = A} 1) (still_costs _ _ (still_says _)) (still_end 1)

  -- what a deed does
  pub still_carry : {A : Type 0} (deed : Deed A) → S (carry deed)
  still_carry (Gives x) = still_give x
  still_carry (Ends status) = still_end status
  still_carry Wrong = still_wrong
  still_carry (Works n rest) = still_costs n (carry rest) (still_carry rest)
  still_carry (Says es rest) = still_both (say es) (carry rest) (still_says es) (still_carry rest)
  still_carry (Looks rest) = still_looks (λ world. carry (rest world)) (λ world. still_carry (rest world))
  still_carry (Changes change rest) = still_both _ (carry rest) (still_change (changed change)) (still_carry rest)
  still_carry (Takes class contents rest) =
      still_looks _ (λ world. still_branch (has_room world.heap class) _ (stop OutOfMemory)
      (still_both _ (carry (rest (length world.heap.blocks))) (still_change (with_block class contents)) (still_carry (rest (length world.heap.blocks))))
      (still_stop OutOfMemory))

  pub still_find : (aim : Aim) → S (find aim)
  still_find (Root base) = still_carry (rooted base)
  still_find (Value_of v) = still_carry (made v)
  still_find (Waits_at level node) = still_give _
  still_find (PartOf aim i) = still_then (find aim) _ (still_find aim) (λ location. still_carry (to_part location i))
  still_find (ItemOf aim z) = still_then (find aim) _ (still_find aim) (λ location. still_carry (to_item location z))
  still_find (ObjectOf aim) = still_then (find aim) _ (still_find aim) (λ location. still_carry (to_object location))

  pub still_settle : (ready : List Ready) → S (settle ready)
  still_settle [] = still_give []
  still_settle (Evaluated x ∷ rest) = still_then (settle rest) _ (still_settle rest) (λ xs. still_give (x ∷ xs))
  still_settle (Aimed aim ∷ rest) =
      still_then (find aim) _ (still_find aim) (λ location. still_then (settle rest) _ (still_settle rest) (λ xs. still_give _))

  exit_passes : {A B : Type 0} (t : List Point) (r : Res State (Outcome A)) (go : Outcome A → Does B) → PassesNone elsewhere t r →
      ((x : A) → S (go (On x))) → PassesNone elsewhere t (then_do r go)
  exit_passes t (Got (On x) s) go h g = passes_after t s.trail (go (On x) s) ((g x).at s) h
  exit_passes t (Got (LeftBy way) s) go h g = absurd h
  exit_passes t (Over status live s) go h g = h
  exit_passes t (Going s) go h g = h
  exit_passes t (Errs s) go h g = h

  -- it goes on, whatever looks at a way out
  pub still_exit : {A B : Type 0} (act : Does A) (go : Outcome A → Does B) → S act → ((x : A) → S (go (On x))) → S (at_exit act go)
  still_exit act go h g = record { at = λ s. exit_passes s.trail (act s) go (h.at s) g }

  pub still_carried : (here : Here) (node : ℕ) (act : Act) (how : Use) (ty : Option Ty) (operands : Args) (xs : List Operand) →
      AreElsewhere elsewhere here.calls → S (carried here node act how ty operands xs)
  still_carried here node (Doing operation) how ty operands xs calls =
      still_carry (row here.facts (Doing operation) (destination here how node) ty (types_in operands) xs)
  still_carried here node (Building fields) how ty operands xs calls =
      still_carry (row here.facts (Building fields) (destination here how node) ty (types_in operands) xs)
  still_carried here node (Giving literal) how ty operands xs calls =
      still_carry (row here.facts (Giving literal) (destination here how node) ty (types_in operands) xs)
  still_carried here node (Calling proc types) how ty operands xs calls =
      let handed = handed_over here.facts operands (use_of here.modes (Calling proc types)) 0 xs in
      still_then _ _ (still_costs _ _ (still_exit (here.calls proc (slots_for handed)) (left_at node) (record { at = calls proc (slots_for handed) })
      (λ v. still_give v))) (λ v. still_carry (kept_if (gives_hooked here.facts ty) (destination here how node) v))

  spend_passes : {A : Type 0} (act : Does A) → S act → (n : ℕ) (s : State) → PassesNone elsewhere s.trail (spend n s (λ n. act (left_with n s)))
  spend_passes act h zero s = inl refl
  spend_passes act h (suc n) s = h.at (left_with n s)

  pub still_spending : {A : Type 0} (act : Does A) → S act → S (spending act)
  still_spending act h = record { at = λ s. spend_passes act h s.meter.units s }

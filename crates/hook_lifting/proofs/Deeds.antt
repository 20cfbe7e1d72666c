-- What deeds come to: one behind another, and that they don't end the run but for want of heap.
use Rattle.std.proofs.Common.{◌≡◌, ℕ, ◌+◌, Bool, true, false, List, [], ◌++◌, length, refl, sym, ap, ap₂, ◌∙◌, append_assoc, append-nil, add_assoc, arith}
use Rattle.arc_base.specs.Event.{Event}
use Rattle.nim_meaning.specs.Heap.{has_room}
use Rattle.nim_meaning.specs.Values.{Value, Location}
use Rattle.nim_meaning.specs.State.{World, load, is_seen}
use Rattle.nim_meaning.specs.Deeds.{changed, with_block, Deed, Gives, Ends, Errs, Works, Says, Looks, Changes, Takes, give}
use Rattle.nim_meaning.specs.Deeds.{Done, Answers, Finishes, Fails, behind, took, perform, ◌>>=◌, ◌>>◌, unless_gone, sees}

-- ---- one behind another

abbrev pub done_then : {A B : Type 0} → Done A → (A → World → Done B) → Done B
done_then (Answers es n x world) go = behind es n (go x world)
done_then (Finishes es n status world) go = Finishes es n status world
done_then (Fails es n world) go = Fails es n world

pub behind_none : {A : Type 0} (d : Done A) → behind [] 0 d ≡ d
behind_none (Answers es n x world) = let e : 0 + n ≡ n = omega arith in ap (λ n. Answers es n x world) e
behind_none (Finishes es n status world) = let e : 0 + n ≡ n = omega arith in ap (λ n. Finishes es n status world) e
behind_none (Fails es n world) = let e : 0 + n ≡ n = omega arith in ap (λ n. Fails es n world) e

pub behind_twice : {A : Type 0} (es fs : List Event) (n m : ℕ) (d : Done A) → behind es n (behind fs m d) ≡ behind (es ++ fs) (n + m) d
behind_twice es fs n m (Answers gs k x w) = ap₂ (λ o j. Answers o j x w) (sym (append_assoc es fs gs)) (sym (add_assoc n m k))
behind_twice es fs n m (Finishes gs k status w) = ap₂ (λ o j. Finishes o j status w) (sym (append_assoc es fs gs)) (sym (add_assoc n m k))
behind_twice es fs n m (Fails gs k w) = ap₂ (λ o j. Fails o j w) (sym (append_assoc es fs gs)) (sym (add_assoc n m k))

behind_then : {A B : Type 0} (es : List Event) (n : ℕ) (d : Done A) (go : A → World → Done B) → behind es n (done_then d go) ≡ done_then (behind es n d) go
behind_then es n (Answers fs m x world) go = behind_twice es fs n m (go x world)
behind_then es n (Finishes fs m status world) go = refl
behind_then es n (Fails fs m world) go = refl

took_then : {A B : Type 0} (b : Bool) (d : Done A) (go : A → World → Done B) (world : World) → took b (done_then d go) world ≡ done_then (took b d world) go
took_then true d go world = refl
took_then false d go world = refl

pub performs_then : {A B : Type 0} (deed : Deed A) (rest : A → Deed B) (world : World) →
    perform (deed >>= rest) world ≡ done_then (perform deed world) (λ x new. perform (rest x) new)
performs_then (Gives x) rest world = sym (behind_none (perform (rest x) world))
performs_then (Ends status) rest world = refl
performs_then Errs rest world = refl
performs_then (Works n deed) rest world =
    ap (λ d. behind [] n d) (performs_then deed rest world) ∙ behind_then [] n (perform deed world) (λ x new. perform (rest x) new)
performs_then (Says es deed) rest world =
    ap (λ d. behind es 0 d) (performs_then deed rest world) ∙ behind_then es 0 (perform deed world) (λ x new. perform (rest x) new)
performs_then (Looks deed) rest world = performs_then (deed world) rest world
performs_then (Changes change deed) rest world = performs_then deed rest (changed change world)
performs_then (Takes class contents deed) rest world =
    let k = length world.heap.blocks in
    let new = with_block class contents world in
    ap (λ d. took (has_room world.heap class) d world) (performs_then (deed k) rest new)
    ∙ took_then (has_room world.heap class) (perform (deed k) new) (λ x new. perform (rest x) new) world

-- ---- deeds that come to the same

abbrev pub Same : {A : Type 0} → Deed A → Deed A → Type 0
Same a b = (world : World) → perform a world ≡ perform b world

done_same : {A B : Type 0} (d : Done A) (go other : A → World → Done B) → ((x : A) (new : World) → go x new ≡ other x new) → done_then d go ≡ done_then d other
done_same (Answers es n x world) go other h = ap (λ d. behind es n d) (h x world)
done_same (Finishes es n status world) go other h = refl
done_same (Fails es n world) go other h = refl

done_twice : {A B C : Type 0} (d : Done A) (go : A → World → Done B) (then : B → World → Done C) →
    done_then (done_then d go) then ≡ done_then d (λ x new. done_then (go x new) then)
done_twice (Answers es n x world) go then = sym (behind_then es n (go x world) then)
done_twice (Finishes es n status world) go then = refl
done_twice (Fails es n world) go then = refl

pub same_later : {A B : Type 0} (deed : Deed A) (rest other : A → Deed B) → ((x : A) → Same (rest x) (other x)) → Same (deed >>= rest) (deed >>= other)
same_later deed rest other h world =
    performs_then deed rest world
    ∙ (done_same (perform deed world) (λ x new. perform (rest x) new) (λ x new. perform (other x) new) (λ x new. h x new)
    ∙ sym (performs_then deed other world))

pub regrouped : {A B C : Type 0} (deed : Deed A) (rest : A → Deed B) (last : B → Deed C) → Same ((deed >>= rest) >>= last) (deed >>= (λ x. rest x >>= last))
regrouped {A} {B} deed rest last world =
    let go = λ (x : A) (new : World). perform (rest x) new in
    let then = λ (x : B) (new : World). perform (last x) new in
    performs_then (deed >>= rest) last world
    ∙ (ap (λ d. done_then d then) (performs_then deed rest world)
    ∙ (done_twice (perform deed world) go then
    ∙ (done_same (perform deed world) (λ x new. done_then (go x new) then) (λ x new. perform (rest x >>= last) new)
    (λ x new. sym (performs_then (rest x) last new))
    ∙ sym (performs_then deed (λ x. rest x >>= last) world))))

ended_done : (d : Done (Unit {0})) → done_then d (λ u new. Answers [] 0 tt new) ≡ d
ended_done (Answers es n x world) = let e : n + 0 ≡ n = omega arith in ap₂ (λ o k. Answers o k tt world) (append-nil es) e
ended_done (Finishes es n status world) = refl
ended_done (Fails es n world) = refl

pub nothing_later : (deed : Deed (Unit {0})) → Same (deed >> give tt) deed
nothing_later deed world = performs_then deed (λ u. give tt) world ∙ ended_done (perform deed world)

-- ---- what looks at a location, behind which comes something more

gone_then : {A B : Type 0} (there : Bool) (deed : Deed A) (rest : A → Deed B) → Same (unless_gone there deed >>= rest) (unless_gone there (deed >>= rest))
gone_then true deed rest world = refl
gone_then false deed rest world = refl

gone_same : {A : Type 0} (there : Bool) (a b : Deed A) → Same a b → Same (unless_gone there a) (unless_gone there b)
gone_same true a b same = same
gone_same false a b same = λ world. refl

pub sees_then : {A B : Type 0} (location : Location) (go : World → Value → Deed A) (rest : A → Deed B) →
    Same (sees location go >>= rest) (sees location (λ world v. go world v >>= rest))
sees_then location go rest world = gone_then (is_seen world location) (go world (load world location)) rest world

pub sees_same : {A : Type 0} (location : Location) (go other : World → Value → Deed A) → ((world : World) (v : Value) → Same (go world v) (other world v)) →
    Same (sees location go) (sees location other)
sees_same location go other same world =
    gone_same (is_seen world location) (go world (load world location)) (other world (load world location)) (same world (load world location)) world

-- ---- no end of the run, but for want of heap where a block is taken; something holds of answers

abbrev pub Tame : {A : Type 0} → (takes : Bool) → (A → Type 0) → Deed A → Type 0
Tame takes Q (Gives x) = Q x
Tame takes Q (Ends status) = ⊥
Tame takes Q Errs = Unit {0}
Tame takes Q (Works n rest) = Tame takes Q rest
Tame takes Q (Says es rest) = Tame takes Q rest
Tame takes Q (Looks rest) = (world : World) → Tame takes Q (rest world)
Tame takes Q (Changes change rest) = Tame takes Q rest
Tame takes Q (Takes class contents rest) = (takes ≡ true) × ((k : ℕ) → Tame takes Q (rest k))

abbrev pub Any : {A : Type 0} → A → Type 0
Any x = Unit {0}

pub tame_then : {A B : Type 0} (takes : Bool) (P : A → Type 0) (Q : B → Type 0) (deed : Deed A) (rest : A → Deed B) → Tame takes P deed →
    ((x : A) → P x → Tame takes Q (rest x)) → Tame takes Q (deed >>= rest)
tame_then takes P Q (Gives x) rest h g = g x h
tame_then takes P Q (Ends status) rest h g = absurd h
tame_then takes P Q Errs rest h g = tt
tame_then takes P Q (Works n deed) rest h g = tame_then takes P Q deed rest h g
tame_then takes P Q (Says es deed) rest h g = tame_then takes P Q deed rest h g
tame_then takes P Q (Looks deed) rest h g = λ world. tame_then takes P Q (deed world) rest (h world) g
tame_then takes P Q (Changes change deed) rest h g = tame_then takes P Q deed rest h g
tame_then takes P Q (Takes class contents deed) rest h g = (h.0, λ k. tame_then takes P Q (deed k) rest (h.1 k) g)

abbrev pub TameDone : {A : Type 0} → Bool → (A → Type 0) → Done A → Type 0
TameDone takes Q (Answers es n x world) = Q x
TameDone takes Q (Finishes es n status world) = (takes ≡ true) × (status ≡ 1)
TameDone takes Q (Fails es n world) = Unit {0}

module _ {A : Type 0} (takes : Bool) (Q : A → Type 0) where
  tame_behind : (es : List Event) (n : ℕ) (d : Done A) → TameDone takes Q d → TameDone takes Q (behind es n d)
  tame_behind es n (Answers fs m x world) h = h
  tame_behind es n (Finishes fs m status world) h = h
  tame_behind es n (Fails fs m world) h = h

  tame_took : (b : Bool) (d : Done A) (world : World) → takes ≡ true → TameDone takes Q d → TameDone takes Q (took b d world)
  tame_took true d world e h = h
  tame_took false d world e h = (e, refl)

  pub tame_done : (deed : Deed A) → Tame takes Q deed → (world : World) → TameDone takes Q (perform deed world)
  tame_done (Gives x) h world = h
  tame_done (Ends status) h world = absurd h
  tame_done Errs h world = tt
  tame_done (Works n rest) h world = tame_behind [] n (perform rest world) (tame_done rest h world)
  tame_done (Says es rest) h world = tame_behind es 0 (perform rest world) (tame_done rest h world)
  tame_done (Looks rest) h world = tame_done (rest world) (h world) world
  tame_done (Changes change rest) h world = tame_done rest h (changed change world)
  tame_done (Takes class contents rest) h world =
      let k = length world.heap.blocks in
      let new = with_block class contents world in
      tame_took (has_room world.heap class) (perform (rest k) new) world h.0 (tame_done (rest k) (h.1 k) new)

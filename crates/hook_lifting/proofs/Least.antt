-- A walk over what has hooks works eight times at least, and one that moves what has none four times.
use Rattle.std.proofs.Common.{◌≡◌, ◌⊎◌, inl, inr, ℕ, zero, suc, ◌+◌, ◌*◌, ◌≤◌, Bool, true, false, List, [], length, refl, sym, subst, ◌∙◌, arith, le_refl}
use Rattle.std.specs.Prelude.{◌-◌, ◌||◌}
use Rattle.std.proofs.lemmas.Bool.{false≢true, and_parts}
use Rattle.arc_base.specs.Event.{Event}
use Rattle.nim_types.specs.Forms.{Form, plain, reference, block, elements, row, parts, resource, wrapped, Forms, no_forms, forms, of_some, or_word}
use Rattle.nim_types.specs.Forms.{hooked, hooked_any, size}
use Rattle.nim_meaning.specs.Values.{Value, Values, Number, Parts, Handle, Fixed, Ref, Resource, Gone, Vacant, Nil, More, Location, bytes, bytes_all}
use Rattle.nim_meaning.specs.Values.{is_full, all_full, length_of, block_of, is_handle, deeper}
use Rattle.nim_meaning.specs.State.{World, load, text_of, is_full_at, is_seen}
use Rattle.nim_meaning.specs.Deeds.{Deed, Gives, Ends as Is_end, Errs, Works, Says, Looks, Changes, Takes, Done, Answers, Finishes, Fails, behind, took}
use Rattle.nim_meaning.specs.Deeds.{perform}
use Rattle.nim_meaning.specs.Deeds.{changed, with_block, give, costs, unless_gone, branch, sees, takes, sets, frees, Pops, does, ◌>>=◌, ◌>>◌}
use Rattle.nim_meaning.specs.Lifted.{walk, walk_all, each_part, each_element, left_vacant, bits, in_hand, copying, copied, copied_elements, fresh_text}
use Rattle.nim_meaning.specs.Lifted.{replaced, sunk, ends_at}
use Rattle.nim_meaning.specs.Heap.{has_room}
use Rattle.hook_lifting.specs.declared.lifted.Hook.{Hook}
use Rattle.hook_lifting.specs.declared.lifted.Hook.TheVariants.{Copies, Assigns, Sinks, Ends}
use Rattle.hook_lifting.specs.Lifted.{is_needed}
use Rattle.hook_lifting.specs.Lifting.{walk_of}
use Rattle.hook_lifting.specs.Weights.{is_built, all_built}
use Rattle.hook_lifting.proofs.Deeds.{Tame}
use Rattle.hook_lifting.proofs.Follows.{LeastDone}
use Rattle.hook_lifting.proofs.Walks.{ok_hook, ok_ends, ok_elements}

-- ---- deeds

-- its answer comes behind so many works at least
abbrev AtLeast : {A : Type 0} → ℕ → Deed A → Type 0
AtLeast l (Gives x) = l ≤ 0
AtLeast l (Is_end status) = l ≤ 0
AtLeast l Errs = Unit {0}
AtLeast l (Works n rest) = AtLeast (l - n) rest
AtLeast l (Says es rest) = AtLeast l rest
AtLeast l (Looks rest) = (world : World) → AtLeast l (rest world)
AtLeast l (Changes change rest) = AtLeast l rest
AtLeast l (Takes class contents rest) = (k : ℕ) → AtLeast l (rest k)

zero_least : {A : Type 0} (deed : Deed A) (l : ℕ) → l ≡ 0 → AtLeast l deed
zero_least (Gives x) l e = omega (arith, e)
zero_least (Is_end status) l e = omega (arith, e)
zero_least Errs l e = tt
zero_least (Works n rest) l e = zero_least rest (l - n) (omega (arith, e))
zero_least (Says es rest) l e = zero_least rest l e
zero_least (Looks rest) l e = λ world. zero_least (rest world) l e
zero_least (Changes change rest) l e = zero_least rest l e
zero_least (Takes class contents rest) l e = λ k. zero_least (rest k) l e

costs_least : {A : Type 0} (l n : ℕ) (deed : Deed A) → l ≤ n → AtLeast l (costs n deed)
costs_least l n deed le = zero_least deed (l - n) (omega (arith, le))

-- what comes first works so much
first_least : {A B : Type 0} (l : ℕ) (deed : Deed A) (rest : A → Deed B) → AtLeast l deed → AtLeast l (deed >>= rest)
first_least l (Gives x) rest h = zero_least (rest x) l (omega (arith, h))
first_least l (Is_end status) rest h = h
first_least l Errs rest h = tt
first_least l (Works n deed) rest h = first_least (l - n) deed rest h
first_least l (Says es deed) rest h = first_least l deed rest h
first_least l (Looks deed) rest h = λ world. first_least l (deed world) rest (h world)
first_least l (Changes change deed) rest h = first_least l deed rest h
first_least l (Takes class contents deed) rest h = λ k. first_least l (deed k) rest (h k)

less_least : {A : Type 0} (l m : ℕ) (deed : Deed A) → m ≤ l → AtLeast l deed → AtLeast m deed
less_least l m (Gives x) le h = omega (arith, le, h)
less_least l m (Is_end status) le h = omega (arith, le, h)
less_least l m Errs le h = tt
less_least l m (Works n rest) le h = less_least (l - n) (m - n) rest (omega (arith, le)) h
less_least l m (Says es rest) le h = less_least l m rest le h
less_least l m (Looks rest) le h = λ world. less_least l m (rest world) le (h world)
less_least l m (Changes change rest) le h = less_least l m rest le h
less_least l m (Takes class contents rest) le h = λ k. less_least l m (rest k) le (h k)

-- what comes then does, unless the run ends before
then_least : {A B : Type 0} (takes : Bool) (Q : A → Type 0) (l : ℕ) (deed : Deed A) (rest : A → Deed B) → Tame takes Q deed → ((x : A) → AtLeast l (rest x))
    → AtLeast l (deed >>= rest)
then_least takes Q l (Gives x) rest tame h = h x
then_least takes Q l (Is_end status) rest tame h = absurd tame
then_least takes Q l Errs rest tame h = tt
then_least takes Q l (Works n deed) rest tame h =
    then_least takes Q (l - n) deed rest tame (λ x. less_least l (l - n) (rest x) (omega arith) (h x))
then_least takes Q l (Says es deed) rest tame h = then_least takes Q l deed rest tame h
then_least takes Q l (Looks deed) rest tame h = λ world. then_least takes Q l (deed world) rest (tame world) h
then_least takes Q l (Changes change deed) rest tame h = then_least takes Q l deed rest tame h
then_least takes Q l (Takes class contents deed) rest tame h = λ k. then_least takes Q l (deed k) rest (tame.1 k) h

gone_least : {A : Type 0} (l : ℕ) (there : Bool) (deed : Deed A) → (there ≡ true → AtLeast l deed) → AtLeast l (unless_gone there deed)
gone_least l true deed h = h refl
gone_least l false deed h = tt

behind_least : {A : Type 0} (l n : ℕ) (es : List Event) (d : Done A) → LeastDone (l - n) d → LeastDone l (behind es n d)
behind_least l n es (Answers fs m x world) h = omega (arith, h)
behind_least l n es (Finishes fs m status world) h = omega (arith, h)
behind_least l n es (Fails fs m world) h = tt

-- the trap's line alone works more
took_least : {A : Type 0} (l : ℕ) (b : Bool) (d : Done A) (world : World) → l ≤ 8 → LeastDone l d → LeastDone l (took b d world)
took_least l true d world few h = h
took_least l false d world few h = omega (arith, few)

least_done : {A : Type 0} (l : ℕ) (deed : Deed A) (world : World) → l ≤ 8 → AtLeast l deed → LeastDone l (perform deed world)
least_done l (Gives x) world few h = h
least_done l (Is_end status) world few h = h
least_done l Errs world few h = tt
least_done l (Works n rest) world few h = behind_least l n [] (perform rest world) (least_done (l - n) rest world (omega (arith, few)) h)
least_done l (Says es rest) world few h =
    behind_least l 0 es (perform rest world)
    (subst (λ i. LeastDone i (perform rest world)) (let e : l ≡ l - 0 = omega arith in e) (least_done l rest world few h))
least_done l (Looks rest) world few h = least_done l (rest world) world few (h world)
least_done l (Changes change rest) world few h = least_done l rest (changed change world) few h
least_done l (Takes class contents rest) world few h =
    let k = length world.heap.blocks in
    took_least l (has_room world.heap class) (perform (rest k) (with_block class contents world)) world few
    (least_done l (rest k) (with_block class contents world) few (h k))

-- ---- what is full has bytes

word_least : (n : ℕ) → 4 ≤ n → 4 ≤ or_word n
word_least zero h = absurd (omega (arith, h))
word_least (suc n) h = h

mutual
  full_bytes : (v : Value) → is_full v ≡ true → 4 ≤ bytes v
  full_bytes (Number n) e = omega arith
  full_bytes (Parts all) e = parts_bytes all e
  full_bytes (Handle n k) e = omega arith
  full_bytes (Fixed text) e = omega arith
  full_bytes (Ref object) e = omega arith
  full_bytes (Resource all identity) e = parts_bytes all e
  full_bytes (Gone v final) e = absurd (false≢true e)
  full_bytes Vacant e = absurd (false≢true e)

  parts_bytes : (all : Values) → all_full all ≡ true → 4 ≤ or_word (bytes_all all)
  parts_bytes Nil e = omega arith
  parts_bytes (More first rest) e =
      let a = and_parts (is_full first) (all_full rest) e in
      let h = full_bytes first a.0 in word_least (bytes first + bytes_all rest) (omega (arith, h))

bits_least : (to from : Location) → AtLeast 4 (bits to from)
bits_least to from = λ world.
    gone_least 4 (is_full_at world from) (costs (bytes (load world from)) (sets to (load world from)))
    (λ there. costs_least 4 (bytes (load world from)) (sets to (load world from))
    (full_bytes (load world from) (and_parts (is_seen world from) (is_full (load world from)) there).1))

-- ---- walks

abbrev bare : Hook → ℕ
bare Ends = 0
bare hook = 4

abbrev least_of : Hook → (hooks : Bool) → ℕ
least_of hook true = 8
least_of hook false = bare hook

plainly_least : (hook : Hook) (to from : Location) → AtLeast (bare hook) ((walk_of hook).plainly to from)
plainly_least Copies to from = bits_least to from
plainly_least Assigns to from = bits_least to from
plainly_least Sinks to from = bits_least to from
plainly_least Ends to from = omega arith

seen_least : {A : Type 0} (l : ℕ) (location : Location) (go : World → Value → Deed A) → ((world : World) (v : Value) → AtLeast l (go world v))
    → AtLeast l (sees location go)
seen_least l location go h = λ world. gone_least l (is_seen world location) (go world (load world location)) (λ there. h world (load world location))

-- copies
text_copies : (to from : Location) → AtLeast 8 (walk copying block to from)
text_copies to from =
    seen_least 8 from (λ world v. costs 8 (fresh_text (text_of world v)) >>= sets to) (λ world v. zero_least (fresh_text (text_of world v) >>= sets to) 0 refl)

sequence_copies : (of : Form) (element : (to from : Location) → Deed (Unit {0})) (to from : Location) → AtLeast 8 (copying.sequence of element to from)
sequence_copies of element to from =
    seen_least 8 from (λ world v. costs 8 (copied_elements of element to v from)) (λ world v. zero_least (copied_elements of element to v from) 0 refl)

copied_least : (f : Form) (from : Location) → ((to : Location) → AtLeast 8 (walk copying f to from)) → AtLeast 8 (copied f from)
copied_least f from h = λ world.
    first_least 8 (walk copying f (in_hand world) from) (λ u. takes (in_hand world) (λ after new. does Pops >> give new)) (h (in_hand world))

sunk_least : (f : Form) (to from : Location) → AtLeast 8 (sunk f to from)
sunk_least f to from =
    costs_least 8 8 (sees to (λ world old. sees from (λ world new. sets to new >> (sets from old >> ends_at f from)))) (le_refl 8)

ended_least : (bytes : ℕ) → 8 ≤ bytes → (at : Location) (v : Value) → AtLeast 8 (left_vacant bytes at v)
ended_least bytes le at v =
    gone_least 8 (is_handle v) (costs bytes (sets at Vacant >> frees (block_of v))) (λ own. costs_least 8 bytes (sets at Vacant >> frees (block_of v)) le)

text_least : (hook : Hook) (to from : Location) → AtLeast 8 ((walk_of hook).text to from)
text_least Copies to from = text_copies to from
text_least Assigns to from = first_least 8 (copied block from) (replaced block to) (copied_least block from (λ at. text_copies at from))
text_least Sinks to from = sunk_least block to from
text_least Ends to from = seen_least 8 to (λ world v. left_vacant (8 + length_of v) to v) (λ world v. ended_least (8 + length_of v) (omega arith) to v)

sequence_least : (hook : Hook) (of : Form) (element : (to from : Location) → Deed (Unit {0})) →
    ((to from : Location) → Tame true (λ u. Unit {0}) (element to from))
    → (to from : Location) → AtLeast 8 ((walk_of hook).sequence of element to from)
sequence_least Copies of element tame to from = sequence_copies of element to from
sequence_least Assigns of element tame to from =
    first_least 8 (copied (elements of) from) (replaced (elements of) to)
    (copied_least (elements of) from (λ at. sequence_copies of (walk copying of) at from))
sequence_least Sinks of element tame to from = sunk_least (elements of) to from
sequence_least Ends of element tame to from =
    seen_least 8 to (λ world v. each_element (length_of v) element 0 v to v to >> left_vacant (8 + length_of v * size of) to v)
    (λ world v.
    then_least true (λ u. Unit {0}) 8 (each_element (length_of v) element 0 v to v to) (λ u. left_vacant (8 + length_of v * size of) to v)
    (ok_elements true (length_of v) element tame 0 v to v to) (λ u. ended_least (8 + length_of v * size of) (omega arith) to v))

or_cases : (a b : Bool) → (a || b) ≡ true → (a ≡ true) ⊎ ((a ≡ false) × (b ≡ true))
or_cases true b e = inl refl
or_cases false b e = inr (refl, e)

module _ (hook : Hook) where
  tame_walk : (f : Form) (to from : Location) → Tame true (λ u. Unit {0}) (walk (walk_of hook) f to from)
  tame_walk f to from = by hook
    where
      by : (hook : Hook) → Tame true (λ u. Unit {0}) (walk (walk_of hook) f to from)
      by Copies = ok_hook Copies f to from
      by Assigns = ok_hook Assigns f to from
      by Sinks = ok_hook Sinks f to from
      by Ends = ok_ends true f to from

  row_least : (n : ℕ) (f : Form) → ((hooks : Bool) → hooked f ≡ hooks → (to from : Location) → AtLeast (least_of hook hooks) (walk (walk_of hook) f to from))
      → (hooks : Bool) → of_some n (hooked f) ≡ hooks → (to from : Location) → AtLeast (least_of hook hooks) (walk (walk_of hook) (row n f) to from)
  row_least n f h false e to from =
      subst (λ b. AtLeast (bare hook) (branch b (each_part n (walk (walk_of hook) f) 0 to from) ((walk_of hook).plainly to from))) (sym e)
      (plainly_least hook to from)
  row_least zero f h true e to from = absurd (false≢true e)
  row_least (suc n) f h true e to from =
      subst (λ b. AtLeast 8 (branch b (each_part (suc n) (walk (walk_of hook) f) 0 to from) ((walk_of hook).plainly to from))) (sym e)
      (first_least 8 (walk (walk_of hook) f (deeper to 0) (deeper from 0)) (λ u. each_part n (walk (walk_of hook) f) 1 to from)
      (h true e (deeper to 0) (deeper from 0)))

  first_or_later : (f : Form) (fs : Forms) → is_built f ≡ true → (hooked f ≡ true) ⊎ ((hooked f ≡ false) × (hooked_any fs ≡ true)) → (i : ℕ)
      (to from : Location) → (hooked f ≡ true → AtLeast 8 (walk (walk_of hook) f (deeper to i) (deeper from i)))
      → (hooked_any fs ≡ true → AtLeast 8 (walk_all (walk_of hook) fs (suc i) to from)) → AtLeast 8 (walk_all (walk_of hook) (forms f fs) i to from)
  first_or_later f fs built (inl e) i to from first later =
      first_least 8 (walk (walk_of hook) f (deeper to i) (deeper from i)) (λ u. walk_all (walk_of hook) fs (suc i) to from) (first e)
  first_or_later f fs built (inr e) i to from first later =
      then_least true (λ u. Unit {0}) 8 (walk (walk_of hook) f (deeper to i) (deeper from i)) (λ u. walk_all (walk_of hook) fs (suc i) to from)
      (tame_walk f (deeper to i) (deeper from i)) (λ u. later e.1)

  mutual
    walk_least : (f : Form) → is_built f ≡ true → (hooks : Bool) → hooked f ≡ hooks → (to from : Location)
        → AtLeast (least_of hook hooks) (walk (walk_of hook) f to from)
    walk_least plain built false e to from = plainly_least hook to from
    walk_least plain built true e to from = absurd (false≢true e)
    walk_least reference built hooks e to from = absurd (false≢true built)
    walk_least block built true e to from = text_least hook to from
    walk_least block built false e to from = absurd (false≢true (sym e))
    walk_least (elements f) built true e to from = sequence_least hook f (walk (walk_of hook) f) (tame_walk f) to from
    walk_least (elements f) built false e to from = absurd (false≢true (sym e))
    walk_least (row n f) built hooks e to from = row_least n f (walk_least f built) hooks e to from
    walk_least (parts fs) built true e to from =
        subst (λ b. AtLeast 8 (branch b (walk_all (walk_of hook) fs 0 to from) ((walk_of hook).plainly to from))) (sym e)
        (all_least fs built e 0 to from)
    walk_least (parts fs) built false e to from =
        subst (λ b. AtLeast (bare hook) (branch b (walk_all (walk_of hook) fs 0 to from) ((walk_of hook).plainly to from))) (sym e)
        (plainly_least hook to from)
    walk_least (resource fs) built hooks e to from = absurd (false≢true built)
    walk_least (wrapped f) built hooks e to from = walk_least f built hooks e to from

    all_least : (fs : Forms) → all_built fs ≡ true → hooked_any fs ≡ true → (i : ℕ) (to from : Location) → AtLeast 8 (walk_all (walk_of hook) fs i to from)
    all_least no_forms built some i to from = absurd (false≢true some)
    all_least (forms f fs) built some i to from =
        first_or_later f fs (and_parts (is_built f) (all_built fs) built).0 (or_cases (hooked f) (hooked_any fs) some) i to from
        (λ e. walk_least f (and_parts (is_built f) (all_built fs) built).0 true e (deeper to i) (deeper from i))
        (λ e. all_least fs (and_parts (is_built f) (all_built fs) built).1 e (suc i) to from)

-- what has hooks
pub least_walk : (hook : Hook) (f : Form) → is_built f ≡ true → hooked f ≡ true → (to from : Location) (world : World)
    → LeastDone 8 (perform (walk (walk_of hook) f to from) world)
least_walk hook f built e to from world = least_done 8 (walk (walk_of hook) f to from) world (le_refl 8) (walk_least hook f built true e to from)

-- what is moved, if it has none
pub least_needed : (hook : Hook) (f : Form) → is_built f ≡ true → is_needed hook (hooked f) ≡ true → (to from : Location) (world : World)
    → LeastDone 4 (perform (walk (walk_of hook) f to from) world)
least_needed hook f built needed to from world = by (hooked f) refl hook needed
  where
    four : (hook : Hook) (l : ℕ) → 4 ≤ l → AtLeast l (walk (walk_of hook) f to from) → LeastDone 4 (perform (walk (walk_of hook) f to from) world)
    four hook l le h = least_done 4 (walk (walk_of hook) f to from) world (omega arith) (less_least l 4 (walk (walk_of hook) f to from) le h)

    by : (hooks : Bool) → hooked f ≡ hooks → (hook : Hook) → is_needed hook (hooked f) ≡ true → LeastDone 4 (perform (walk (walk_of hook) f to from) world)
    by true e hook needed = four hook 8 (omega arith) (walk_least hook f built true e to from)
    by false e Copies needed = four Copies 4 (omega arith) (walk_least Copies f built false e to from)
    by false e Assigns needed = four Assigns 4 (omega arith) (walk_least Assigns f built false e to from)
    by false e Sinks needed = four Sinks 4 (omega arith) (walk_least Sinks f built false e to from)
    by false e Ends needed = absurd (false≢true (sym e ∙ needed))

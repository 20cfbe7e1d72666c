-- Copies and ends of sequences.
use Rattle.std.proofs.Common.{◌≡◌, ℕ, zero, suc, ◌+◌, ◌*◌, ◌≤◌, ◌⊎◌, inl, inr, Bool, true, false, List, [], ◌∷◌, Some, None, refl, sym, ap, ◌∙◌, arith}
use Rattle.std.proofs.Common.{mul-le-mul, le_refl}
use Rattle.std.specs.Prelude.{pos, if◌then◌else◌, ◌-◌}
use Rattle.nim_types.specs.Forms.{Form, plain, reference, block, elements, row, parts, resource, wrapped, Forms, no_forms, forms, size, size_all, or_word}
use Rattle.nim_types.specs.Forms.{hooked}
use Rattle.nim_types.specs.declared.types.TypeDef.{TypeDef}
use Rattle.nim_meaning.specs.Heap.{Elements, class_for}
use Rattle.nim_meaning.specs.Values.{Value, Number, Handle, Vacant, length_of, item_of, Location, vacant, repeated, block_of, is_handle}
use Rattle.nim_meaning.specs.State.{World, load}
use Rattle.nim_meaning.specs.Deeds.{Deed, Works, Takes, perform, ◌>>◌, ◌>>=◌, give, costs, looks, unless_gone, sets, frees}
use Rattle.nim_meaning.specs.Lifted.{walk, each_element, fresh, left_vacant, copying, copied_elements, ending}
use Rattle.nim_meaning.specs.OwnedRows.{element_of}
use Rattle.flat_code.specs.declared.line.Line.TheVariants as L
use Rattle.flat_code.specs.Scene.{Known, Scene, Did, Passes, Located, location_at, Temps, with_value}
use Rattle.flat_code.specs.Lines.{form_in, using, gives, acts}
use Rattle.hook_lifting.specs.declared.lifted.Hook.{Hook}
use Rattle.hook_lifting.specs.declared.lifted.Hook.TheVariants.{Copies, Ends}
use Rattle.hook_lifting.specs.declared.lifted.LiftedLine.{LiftedLine}
use Rattle.hook_lifting.specs.declared.lifted.LiftedLine.TheVariants as O
use Rattle.hook_lifting.specs.Lifted.{loop_lines, sequence_lines, has_hooks}
use Rattle.hook_lifting.specs.Lifting.{walk_of, hook_deed, does_by, taken_for, both_places}
use Rattle.hook_lifting.proofs.Deeds.{behind_twice, nothing_later, regrouped, same_later, tame_done}
use Rattle.hook_lifting.proofs.Follows.{Setting, credit, at, scene, least_none, Follows, weaker, earns, shifted, pays_back, alike, goes, does, looks_first}
use Rattle.hook_lifting.proofs.Follows.{does_last, returns}
use Rattle.hook_lifting.proofs.Loops.{keeps_none, each_of, loop_follows}
use Rattle.hook_lifting.proofs.Steps.{element_leads}
use Rattle.hook_lifting.proofs.Walks.{ok_hook, ok_put, ok_vacated, no_ends}

-- ---- what a value takes is four bytes at least

word_or : (n : ℕ) → (n ≡ 0) ⊎ (4 ≤ n) → 4 ≤ or_word n
word_or zero h = omega arith
word_or (suc n) (inl e) = absurd (omega (arith, e))
word_or (suc n) (inr le) = le

times : (n s : ℕ) → 4 ≤ s → (n * s ≡ 0) ⊎ (4 ≤ n * s)
times zero s le = inl (omega arith)
times (suc n) s le = let h : suc n * 4 ≤ suc n * s = mul-le-mul (le_refl (suc n)) le in inr (omega (arith, h))

mutual
  four : (f : Form) → 4 ≤ size f
  four plain = omega arith
  four reference = omega arith
  four block = omega arith
  four (elements f) = omega arith
  four (row n f) = word_or (n * size f) (times n (size f) (four f))
  four (parts fs) = word_or (size_all fs) (all_four fs)
  four (resource fs) = word_or (size_all fs) (all_four fs)
  four (wrapped f) = four f

  all_four : (fs : Forms) → (size_all fs ≡ 0) ⊎ (4 ≤ size_all fs)
  all_four no_forms = inl refl
  all_four (forms f fs) = inr (omega (arith, four f))

words : (n : ℕ) (f : Form) → n * 4 ≤ n * size f
words n f = mul-le-mul (le_refl n) (four f)

module _ (g : Setting) (table : List TypeDef) (level ty of : ℕ) (to from : Location) where
  abbrev known : Known
  known = g.known

  abbrev form : Form
  form = form_in known of

  abbrev places : Temps
  places = both_places to from

  abbrev last : List LiftedLine
  last = O.Plain (L.Return None) ∷ []

  -- what is done with each element, as the meaning says it
  abbrev elements_of : Hook → (n i : ℕ) → (v : Value) → (at : Location) → (w : Value) → (other : Location) → Deed (Unit {0})
  elements_of hook n i v a w b = each_element n (walk (walk_of hook) form) i v a w b

  each_is : (hook : Hook) (v : Value) (a : Location) (w : Value) (b : Location) (n i : ℕ) →
      each_of (λ i. hook_deed known hook of (item_of v a i) (item_of w b i)) n i ≡ elements_of hook n i v a w b
  each_is hook v a w b zero i = refl
  each_is hook v a w b (suc n) i =
      ap (λ (rest : Deed (Unit {0})). hook_deed known hook of (item_of v a i) (item_of w b i) >> rest) (each_is hook v a w b n (suc i))

  -- ---- copies

  abbrev copies : List LiftedLine
  copies = sequence_lines table Copies ty of last

  abbrev copying_each : List LiftedLine
  copying_each = O.Count 5 7 ∷ loop_lines Copies of (O.Element 2 6 0 4) (O.Element 3 7 1 4) last

  -- the elements, behind the new block
  copied_each : (w : Value) (n : ℕ) → length_of w ≡ n → (v : Value) → length_of v ≡ n → (world : World) →
      Follows g (5 + 13 * n) 0 (perform (elements_of Copies n 0 v to w from) world)
      (at copies level copying_each (with_value 6 (with_value 7 places w) v) world)
  copied_each w n long v same world =
      let temps = with_value 5 (with_value 6 (with_value 7 places w) v) (Number (pos (length_of w))) in
      let left : ℕ → Location = λ i. item_of v to i in
      let right : ℕ → Location = λ i. item_of w from i in
      let each : Deed (Unit {0}) = each_of (λ i. hook_deed known Copies of (left i) (right i)) (length_of w) 0 in
      let same_deed : each ≡ elements_of Copies n 0 v to w from =
      ap (λ n. each_of (λ i. hook_deed known Copies of (left i) (right i)) n 0) long ∙ each_is Copies v to w from n 0 in
      weaker {p = 1 + (2 + (13 * length_of w + 2))} {q = 0} (omega (arith, long)) (omega arith)
      (goes 1 (at copies level (loop_lines Copies of (O.Element 2 6 0 4) (O.Element 3 7 1 4) last) temps world) refl
      (alike (elements_of Copies n 0 v to w from) (each >> give tt) world
      (λ world. ap (λ d. perform d world) (sym same_deed) ∙ sym (nothing_later each world))
      (loop_follows g copies level Copies of (O.Element 2 6 0 4) (O.Element 3 7 1 4) last temps (length_of w) left right true
      (λ i. ok_hook Copies form (left i) (right i)) 13 0 (omega arith)
      (λ i world b. least_none (perform (hook_deed known Copies of (left i) (right i)) world)) refl refl refl
      (λ now world i keeps counted less.
      element_leads known level 2 6 0 i now world v to (keeps.values 6 (omega arith)) (keeps.places 0 (omega arith)) counted (omega (arith, less, long, same)))
      (λ now world i keeps counted less.
      element_leads known level 3 7 1 i now world w from (keeps.values 7 (omega arith)) (keeps.places 1 (omega arith)) counted less)
      refl refl 2 0 (give tt)
      (λ now keeps new. goes 1 (at copies level last now new) refl (returns g copies level [] now new))
      temps world (keeps_none temps))))

  -- with a new block
  taken_copies : form_in known ty ≡ elements form → (w : Value) (n : ℕ) → length_of w ≡ n → (world : World) →
      Follows g 250 0
      (perform (fresh n (n * size form) (Elements (repeated n (vacant form))) >>= (λ v. sets to v >> elements_of Copies n 0 v to w from)) world)
      (at copies level (O.Take ty 6 0 7 ∷ copying_each) (with_value 7 places w) world)
  taken_copies is w n long world = on n long
    where
      temps : Temps
      temps = with_value 7 places w

      takes : Form → ℕ → Did
      takes element n = gives (scene level temps world) 6 (costs 1 (taken_for element n to))

      on : (n : ℕ) → length_of w ≡ n →
          Follows g 250 0
          (perform (fresh n (n * size form) (Elements (repeated n (vacant form))) >>= (λ v. sets to v >> elements_of Copies n 0 v to w from)) world)
          (at copies level (O.Take ty 6 0 7 ∷ copying_each) temps world)
      on zero long =
          let v = Handle 0 None in
          weaker {p = 240 + 4 * (1 - 1) + (5 + 13 * 0)} {q = 0} (omega arith) (omega arith)
          (alike (sets to v >> elements_of Copies 0 0 v to w from) ((sets to v >> give v) >>= (λ v. elements_of Copies 0 0 v to w from)) world
          (λ world. sym (regrouped (sets to v) (λ u. give v) (λ v. elements_of Copies 0 0 v to w from) world))
          (does g copies level true (λ v. length_of v ≡ 0) 1 (omega arith) (O.Take ty 6 0 7) refl copying_each temps world (sets to v >> give v)
          (λ v. with_value 6 temps v)
          (λ v. elements_of Copies 0 0 v to w from) (ap (takes (element_of (form_in known ty))) long)
          (ok_put true (λ v. length_of v ≡ 0) to v v refl)
          (λ v same new. copied_each w 0 long v same new)))
      on (suc n) long =
          let b : ℕ = suc n * size form in
          let h : suc n * 4 ≤ b = words (suc n) form in
          let contents = Elements (repeated (suc n) (vacant form)) in
          let takes_it : Deed Value = looks (λ world. Takes (class_for b world.heap.classes) contents (λ k. give (Handle (suc n) (Some k)))) in
          let puts : Deed Value = takes_it >>= (λ v. sets to v >> give v) in
          let each : Value → Deed (Unit {0}) = λ v. elements_of Copies (suc n) 0 v to w from in
          let is_it : takes (element_of (form_in known ty)) (length_of w) ≡ Passes (perform (Works (1 + b) puts >>= (λ v. give (with_value 6 temps v))) world) =
          ap (λ f. takes (element_of f) (length_of w)) is
          ∙ (ap (λ n. takes form n) long ∙ ap (λ d. Passes d) (behind_twice [] [] 1 b (perform (puts >>= (λ v. give (with_value 6 temps v))) world))) in
          let many : 32 * b ≤ credit g * b = mul-le-mul (let s = g.steep in let e : 32 ≤ g.pace + g.extra = omega (arith, s) in e) (le_refl b) in
          earns {p = 250} {q = 0} b
          (weaker {p = 240 + 4 * (1 + b - 1) + (5 + 13 * suc n)} {q = 0} (omega (arith, h, many)) (omega arith)
          (alike (takes_it >>= (λ v. sets to v >> each v)) (puts >>= each) world
          (λ world.
          sym (regrouped takes_it (λ v. sets to v >> give v) each world
          ∙ same_later takes_it (λ v. (sets to v >> give v) >>= each) (λ v. sets to v >> each v) (λ v. regrouped (sets to v) (λ u. give v) each) world))
          (does g copies level true (λ v. length_of v ≡ suc n) (1 + b) (omega arith) (O.Take ty 6 0 7) refl copying_each temps world puts
          (λ v. with_value 6 temps v)
          each is_it
          (λ world. (refl, λ k. ok_put true (λ v. length_of v ≡ suc n) to (Handle (suc n) (Some k)) (Handle (suc n) (Some k)) refl))
          (λ v same new. copied_each w (suc n) long v same new))))

  pub copies_follow : form_in known ty ≡ elements form → (world : World) →
      Follows g 8 0 (perform (walk copying (elements form) to from) world) (at copies level copies places world)
  copies_follow is world =
      let w = load world from in
      weaker {p = 3 + 0} {q = 0} (omega arith) (omega arith)
      (looks_first g copies level (O.Load 7 1) (O.Take ty 6 0 7 ∷ copying_each) places world from (λ w. with_value 7 places w)
      (λ w. costs 8 (copied_elements form (walk copying form) to w from)) refl
      (earns {p = 0} {q = 0} 8 (weaker {p = 250} {q = 0} (let s = g.steep in omega (arith, s)) (omega arith) (taken_copies is w (length_of w) refl world))))

  -- ---- ends

  abbrev giving : List LiftedLine
  giving = O.GiveBack ty 0 6 ∷ last

  abbrev ending_by : Bool → List LiftedLine
  ending_by hooks = if hooks then O.Count 5 6 ∷ loop_lines Ends of (O.Element 2 6 0 4) (O.Element 3 6 0 4) giving else giving

  abbrev ends_by : Bool → List LiftedLine
  ends_by hooks = O.Load 6 0 ∷ ending_by hooks

  abbrev bytes_of : Value → ℕ
  bytes_of v = 8 + length_of v * size form

  -- its block is given back
  gives_back : form_in known ty ≡ elements form → (whole : List LiftedLine) (v : Value) (temps : Temps) (world : World) → temps.values 6 ≡ Some v →
      temps.places 0 ≡ Some (Located to) →
      Follows g 41 (28 * bytes_of v) (perform (left_vacant (bytes_of v) to v) world) (at whole level giving temps world)
  gives_back is whole v temps world has leads_to = by (is_handle v) refl
    where
      b : ℕ
      b = bytes_of v

      x : Scene
      x = scene level temps world

      frees_it : Deed (Unit {0})
      frees_it = sets to Vacant >> frees (block_of v)

      act : Form → Value → Location → Did
      act f v a = acts x (costs 1 (left_vacant (8 + length_of v * size (element_of f)) a v))

      is_it : is_handle v ≡ true → does_by known x (O.GiveBack ty 0 6) ≡ Passes (perform (Works (1 + b) frees_it >>= (λ u. give temps)) world)
      is_it own =
          ap (λ o. using o (λ v. using (temps.places 0) (λ place. act (form_in known ty) v (location_at temps place)))) has
          ∙ (ap (λ o. using o (λ place. act (form_in known ty) v (location_at temps place))) leads_to
          ∙ (ap (λ f. act f v to) is
          ∙ (ap (λ own. acts x (costs 1 (unless_gone own (costs b frees_it)))) own
          ∙ ap (λ d. Passes d) (behind_twice [] [] 1 b (perform (frees_it >>= (λ u. give temps)) world)))))

      many : 32 * b ≤ credit g * b
      many = mul-le-mul (let s = g.steep in let e : 32 ≤ g.pace + g.extra = omega (arith, s) in e) (le_refl b)

      by : (own : Bool) → is_handle v ≡ own
          → Follows g 41 (28 * b) (perform (unless_gone own (costs b frees_it)) world) (at whole level giving temps world)
      by false e = record { count = 0; near = tt }
      by true own =
          earns {p = 41} {q = 28 * b} b
          (weaker {p = 28 * b + (40 + 4 * (1 + b - 1) + 1)} {q = 28 * b + 0} (omega (arith, many)) (omega arith)
          (shifted (28 * b)
          (does_last g whole level false (1 + b) (omega arith) (O.GiveBack ty 0 6) refl last temps world frees_it (is_it own) (ok_vacated false to v)
          (λ new. returns g whole level [] temps new))))

  -- the last lines pay for those before them
  ended : form_in known ty ≡ elements form → (hooks : Bool) → hooked form ≡ hooks → (world : World) →
      Follows g 8 0 (perform (walk ending (elements form) to from) world) (at (ends_by hooks) level (ends_by hooks) places world)
  ended is true e world =
      let v = load world to in
      let temps = with_value 6 places v in
      let now = with_value 5 temps (Number (pos (length_of v))) in
      let whole = ends_by true in
      let left : ℕ → Location = λ i. item_of v to i in
      let each : Deed (Unit {0}) = each_of (λ i. hook_deed known Ends of (left i) (left i)) (length_of v) 0 in
      let rest : Deed (Unit {0}) = left_vacant (bytes_of v) to v in
      let h : length_of v * 4 ≤ length_of v * size form = words (length_of v) form in
      pays_back {p = 8} {q = 0} (13 * length_of v + 40)
      (tame_done false (λ u. Unit {0}) (walk ending (elements form) to from) (ok_hook Ends (elements form) to from) world)
      (weaker {p = 3 + (1 + (2 + (13 * length_of v + (1 + 41))))} {q = 28 * bytes_of v} (omega arith) (omega (arith, h))
      (looks_first g whole level (O.Load 6 0) (ending_by true) places world to (λ v. with_value 6 places v)
      (λ v. elements_of Ends (length_of v) 0 v to v to >> left_vacant (bytes_of v) to v) refl
      (goes 1 (at whole level (loop_lines Ends of (O.Element 2 6 0 4) (O.Element 3 6 0 4) giving) now world) refl
      (alike (elements_of Ends (length_of v) 0 v to v to >> rest) (each >> rest) world
      (λ world. ap (λ (d : Deed (Unit {0})). perform (d >> rest) world) (sym (each_is Ends v to v to (length_of v) 0)))
      (loop_follows g whole level Ends of (O.Element 2 6 0 4) (O.Element 3 6 0 4) giving now (length_of v) left left false
      (λ i. ok_hook Ends form (left i) (left i)) 13 0 (omega arith)
      (λ i world b. least_none (perform (hook_deed known Ends of (left i) (left i)) world)) refl refl refl
      (λ now world i keeps counted less.
      element_leads known level 2 6 0 i now world v to (keeps.values 6 (omega arith)) (keeps.places 0 (omega arith)) counted less)
      (λ now world i keeps counted less.
      element_leads known level 3 6 0 i now world v to (keeps.values 6 (omega arith)) (keeps.places 0 (omega arith)) counted less)
      refl refl (1 + 41) (28 * bytes_of v) rest
      (λ now keeps new. goes 1 (at whole level giving now new) refl
      (gives_back is whole v now new (keeps.values 6 (omega arith)) (keeps.places 0 (omega arith))))
      now world (keeps_none now))))))
  ended is false e world =
      let v = load world to in
      let rest : Deed (Unit {0}) = left_vacant (bytes_of v) to v in
      pays_back {p = 8} {q = 0} 40
      (tame_done false (λ u. Unit {0}) (walk ending (elements form) to from) (ok_hook Ends (elements form) to from) world)
      (weaker {p = 3 + 41} {q = 28 * bytes_of v} (omega arith) (omega arith)
      (looks_first g (ends_by false) level (O.Load 6 0) giving places world to (λ v. with_value 6 places v)
      (λ v. elements_of Ends (length_of v) 0 v to v to >> left_vacant (bytes_of v) to v) refl
      (alike (elements_of Ends (length_of v) 0 v to v to >> rest) rest world
      (λ world. ap (λ (d : Deed (Unit {0})). perform (d >> rest) world) (no_ends (length_of v) form e 0 v to v to))
      (gives_back is (ends_by false) v (with_value 6 places v) world refl refl))))

  pub ends_follow : form_in known ty ≡ elements form → hooked form ≡ has_hooks table of → (world : World) →
      Follows g 8 0 (perform (walk ending (elements form) to from) world)
      (at (sequence_lines table Ends ty of last) level (sequence_lines table Ends ty of last) places world)
  ends_follow is e world = ended is (has_hooks table of) e world

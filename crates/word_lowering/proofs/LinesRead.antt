-- A text under way gets characters one by one: the world behind that.
use Rattle.std.proofs.Common.{◌≡◌, ℕ, zero, suc, ◌+◌, List, [], ◌∷◌, ◌++◌, length, Option, Some, None, Bool, true, false, refl, sym, ap, subst, ◌∙◌, arith}
use Rattle.std.proofs.Common.{length-append}
use Rattle.std.specs.Prelude.{slice_get, slice_set}
use Rattle.std.proofs.lemmas.Option.{none-some, same_Some}
use Rattle.nim_meaning.specs.Values.{Value, Handle, InHand, at_base, Location, block_of, length_of, text_in}
use Rattle.nim_meaning.specs.Heap.{Characters, Block, Heap, block_at, class_for, has_room}
use Rattle.nim_meaning.specs.State.{World, hand_value, load, store, text_of, object_in, contents_value}
use Rattle.nim_meaning.specs.Deeds.{Deed, Gives, Ends, Errs, Works, Says, Looks, Changes, Takes, behind, perform, took, changed}
use Rattle.nim_meaning.specs.Deeds.{with_block, ◌>>=◌, ◌>>◌}
use Rattle.nim_meaning.specs.Lifted.{holds_class, has_place, resized}
use Rattle.nim_meaning.specs.OwnedRows.{appended, each_appended}
use Rattle.word_lowering.proofs.BlockLists.{get_here}
use Rattle.word_lowering.proofs.BlocksMade.{heap_resized, block_resized}
use Rattle.word_lowering.proofs.ResizedWorlds.{AreAlike, answered, behind_answers, IsResized, resized_world}
use Rattle.word_lowering.proofs.AddedRows.{made_there, set_end}

-- ---- two deeds, one behind the other

module _ {A B : Type 0} (rest : A → Deed B) where
  pub record Between (a : Deed A) (w after : World) : Type 0 where
    pub given : A
    pub middle : World
    pub first : answered (perform a w) ≡ Some middle
    pub then : answered (perform (rest given) middle) ≡ Some after

  nothing : {C : Type 0} (after : World) → None ≡ Some after → C
  nothing after e = absurd (none-some after e)

  pub between : (a : Deed A) (w after : World) → answered (perform (a >>= rest) w) ≡ Some after → Between a w after
  between (Gives x) w after h = record { given = x; middle = w; first = refl; then = h }
  between (Ends status) w after h = nothing after h
  between Errs w after h = nothing after h
  between (Works n a) w after h =
      let x = between a w after (sym (behind_answers [] n (perform (a >>= rest) w)) ∙ h) in
      record { given = x.given; middle = x.middle; first = behind_answers [] n (perform a w) ∙ x.first; then = x.then }
  between (Says es a) w after h =
      let x = between a w after (sym (behind_answers es 0 (perform (a >>= rest) w)) ∙ h) in
      record { given = x.given; middle = x.middle; first = behind_answers es 0 (perform a w) ∙ x.first; then = x.then }
  between (Looks f) w after h =
      let x = between (f w) w after h in record { given = x.given; middle = x.middle; first = x.first; then = x.then }
  between (Changes change a) w after h =
      let x = between a (changed change w) after h in record { given = x.given; middle = x.middle; first = x.first; then = x.then }
  between (Takes class c f) w after h =
      by (λ e. between (f (length w.heap.blocks)) (with_block class c w) after e) (has_room w.heap class) refl h
    where
      by : (answered (perform (f (length w.heap.blocks) >>= rest) (with_block class c w)) ≡ Some after
          → Between (f (length w.heap.blocks)) (with_block class c w) after) → (b : Bool) → has_room w.heap class ≡ b
          → answered (took b (perform (f (length w.heap.blocks) >>= rest) (with_block class c w)) w) ≡ Some after → Between (Takes class c f) w after
      by go true room h =
          let x = go h in
          record {
            given = x.given;
            middle = x.middle;
            first = ap (λ b. answered (took b (perform (f (length w.heap.blocks)) (with_block class c w)) w)) room ∙ x.first;
            then = x.then;
          }
      by go false room h = nothing after h

-- ---- the text under way

-- the heap, the block of the text, if it has one, and its characters
pub record Line : Type 0 where
  pub heap : Heap
  pub block : Option ℕ
  pub text : List ℕ

-- whether so many bytes fit into its block
abbrev pub has_in : Heap → Option ℕ → (bytes : ℕ) → Bool
has_in heap k zero = true
has_in heap None (suc n) = false
has_in heap (Some k) (suc n) = holds_class (block_at heap k) (class_for (suc n) heap.classes)

pub place_in : (w : World) (k : Option ℕ) (bytes : ℕ) → has_place w k bytes ≡ has_in w.heap k bytes
place_in w k zero = refl
place_in w None (suc n) = refl
place_in w (Some k) (suc n) = refl

-- with one more character
abbrev pub more_text : Line → ℕ → List ℕ
more_text g c = g.text ++ c ∷ []

abbrev pub next : Line → ℕ → Line
next g c = record {
  heap = heap_resized (has_in g.heap g.block (suc (length g.text))) g.heap g.block (suc (length g.text)) (Characters (more_text g c));
  block = block_resized (has_in g.heap g.block (suc (length g.text))) g.heap g.block;
  text = more_text g c;
}

abbrev pub all_next : Line → List ℕ → Line
all_next g [] = g
all_next g (c ∷ cs) = all_next (next g c) cs

-- its characters are in its block; without one it has none
abbrev pub IsIn : Heap → Option ℕ → List ℕ → Type 0
IsIn heap None text = text ≡ []
IsIn heap (Some k) text = (b : Block) × (block_at heap k ≡ Some b) × (b.contents ≡ Characters text)

pub one_more : (xs : List ℕ) (c : ℕ) → length (xs ++ c ∷ []) ≡ suc (length xs)
one_more xs c = length-append xs (c ∷ []) ∙ omega arith

pub next_in : (g : Line) (c : ℕ) → IsIn g.heap g.block g.text → IsIn (next g c).heap (next g c).block (next g c).text
next_in g c is = by g.block (has_in g.heap g.block (suc (length g.text))) refl is
  where
    there : (k : Option ℕ) → IsIn g.heap k g.text → (i : ℕ) → k ≡ Some i → (b : Block) × (block_at g.heap i ≡ Some b)
    there None is i e = absurd (none-some i e)
    there (Some k) is i e = (is.0, ap (block_at g.heap) (sym (same_Some k i e)) ∙ is.1)

    by : (k : Option ℕ) (p : Bool) → has_in g.heap k (suc (length g.text)) ≡ p → IsIn g.heap k g.text
        → IsIn (heap_resized p g.heap k (suc (length g.text)) (Characters (more_text g c))) (block_resized p g.heap k) (more_text g c)
    by None true e is = absurd (false_true e)
      where
        false_true : false ≡ true → ⊥
        false_true e = cc
    by None false e is = made_there false g.heap None (suc (length g.text)) (Characters (more_text g c)) (there None is) (length g.heap.blocks) refl
    by (Some k) true e is = made_there true g.heap (Some k) (suc (length g.text)) (Characters (more_text g c)) (there (Some k) is) k refl
    by (Some k) false e is =
        made_there false g.heap (Some k) (suc (length g.text)) (Characters (more_text g c)) (there (Some k) is) (length g.heap.blocks) refl

module _ (w0 : World) (hand : List Value) where
  abbrev pub line_world : Line → World
  line_world g = record w0 { heap = g.heap; hand = hand ++ Handle (length g.text) g.block ∷ [] }

  abbrev pub in_it : Location
  in_it = at_base (InHand (length hand))

  module _ (g : Line) (is : IsIn g.heap g.block g.text) (w : World) (same : AreAlike w (line_world g)) where
    pub value_is : load w in_it ≡ Handle (length g.text) g.block
    value_is = ap (λ h. hand_value (slice_get h (length hand))) same.hand ∙ ap hand_value (get_here hand (Handle (length g.text) g.block))

    pub text_is : text_of w (load w in_it) ≡ g.text
    text_is = ap (text_of w) value_is ∙ by g.block is
      where
        by : (k : Option ℕ) → IsIn g.heap k g.text → text_of w (Handle (length g.text) k) ≡ g.text
        by None is = sym is
        by (Some k) is =
            ap (λ h. text_in (contents_value (block_at h k))) same.heap ∙ ap (λ o. text_in (contents_value o)) is.1 ∙ ap (λ c. text_in (object_in c)) is.2

    -- one more character
    module _ (c : ℕ) (after : World) (h : answered (perform (appended (c ∷ []) in_it) w) ≡ Some after) where
      abbrev long : ℕ
      long = suc (length g.text)

      resized_so : answered (perform (resized (suc (length g.text)) (suc (length g.text)) (Characters (more_text g c)) in_it) w) ≡ Some after
      resized_so =
          let sum : length g.text + 1 ≡ suc (length g.text) = omega arith in
          subst (λ n. answered (perform (resized n n (Characters (more_text g c)) in_it) w) ≡ Some after) sum
          (subst (λ t. answered (perform (resized (length g.text + 1) (length g.text + 1) (Characters (t ++ c ∷ [])) in_it) w) ≡ Some after) text_is
          (subst (λ v. answered (perform (resized (length_of v + 1) (length_of v + 1) (Characters (text_of w (load w in_it) ++ c ∷ [])) in_it) w) ≡ Some after)
          value_is
          (sym (behind_answers [] 1 (perform (resized (length_of (load w in_it) + 1) (length_of (load w in_it) + 1)
          (Characters (text_of w (load w in_it) ++ c ∷ [])) in_it) w)) ∙ h)))

      block_is : block_of (load w in_it) ≡ g.block
      block_is = ap block_of value_is

      done : IsResized w (suc (length g.text)) (suc (length g.text)) (Characters (more_text g c)) in_it after
      done =
          resized_world w (suc (length g.text)) (suc (length g.text)) (Characters (more_text g c)) in_it after (λ e. absurd (omega (arith, e)))
          (λ k e p. tt) (λ k e. there g.block is k (sym block_is ∙ e)) resized_so
        where
          there : (q : Option ℕ) → IsIn g.heap q g.text → (k : ℕ) → q ≡ Some k → (b : Block) × (block_at w.heap k ≡ Some b)
          there None is k e = absurd (none-some k e)
          there (Some j) is k e = (is.0, ap (λ h. block_at h k) same.heap ∙ ap (block_at g.heap) (sym (same_Some j k e)) ∙ is.1)

      abbrev Then : Option ℕ → (p : Bool) → Heap → World
      Then k p heap =
          store (record w { heap = heap_resized p heap k (suc (length g.text)) (Characters (more_text g c)) }) in_it
          (Handle (suc (length g.text)) (block_resized p heap k))

      pub next_alike : AreAlike after (line_world (next g c))
      next_alike =
          let one : AreAlike after (Then g.block (has_place w g.block (suc (length g.text))) w.heap)
          = subst (λ k. AreAlike after (Then k (has_place w k (suc (length g.text))) w.heap)) block_is done.is in
          let two : AreAlike after (Then g.block (has_in w.heap g.block (suc (length g.text))) w.heap)
          = subst (λ p. AreAlike after (Then g.block p w.heap)) (place_in w g.block (suc (length g.text))) one in
          let three : AreAlike after (Then g.block (has_in g.heap g.block (suc (length g.text))) g.heap)
          = subst (λ h. AreAlike after (Then g.block (has_in h g.block (suc (length g.text))) h)) same.heap two in
          record {
            heap = three.heap;
            frames = three.frames ∙ same.frames;
            hand = three.hand ∙ ap (λ h. slice_set h (length hand) (Handle (suc (length g.text)) (next g c).block)) same.hand
                ∙ set_end hand (Handle (length g.text) g.block) (Handle (suc (length g.text)) (next g c).block)
                ∙ ap (λ n. hand ++ Handle n (next g c).block ∷ []) (sym (one_more g.text c));
          }

  -- all of them
  pub all_alike : (cs : List ℕ) (g : Line) → IsIn g.heap g.block g.text → (w : World) → AreAlike w (line_world g) → (after : World)
      → answered (perform (each_appended cs in_it) w) ≡ Some after
      → AreAlike after (line_world (all_next g cs)) × IsIn (all_next g cs).heap (all_next g cs).block (all_next g cs).text
  all_alike [] g is w same after h = (subst (λ a. AreAlike a (line_world g)) (same_Some w after h) same, is)
  all_alike (c ∷ cs) g is w same after h =
      let x = between (λ _. each_appended cs in_it) (appended (c ∷ []) in_it) w after h in
      all_alike cs (next g c) (next_in g c is) x.middle (next_alike g is w same c x.middle x.first) after x.then

-- A sequence is made shorter.
use Rattle.std.proofs.Common.{◌≡◌, ℕ, zero, suc, ◌+◌, ◌*◌, Bool, true, false, List, [], ◌∷◌, Some, None, refl, sym, ap, ◌∙◌, arith}
use Rattle.std.specs.Prelude.{◌-◌, ℤ, pos, unsigned_abs, nat_le}
use Rattle.std.proofs.lemmas.Bool.{false≢true}
use Rattle.nim_types.specs.Forms.{Form, hooked}
use Rattle.nim_meaning.specs.Heap.{Elements}
use Rattle.nim_meaning.specs.Values.{Value, Number, Handle, number_of, block_of, first_of, length_of, item_of, Location}
use Rattle.nim_meaning.specs.State.{World, load, elements_of}
use Rattle.nim_meaning.specs.Deeds.{Deed, Works, perform, ◌>>◌, ◌>>=◌, give, costs, looks, sees, sets, refills}
use Rattle.nim_meaning.specs.Lifted.{ends_at, each_element}
use Rattle.nim_meaning.specs.OwnedRows.{cut}
use Rattle.flat_code.specs.declared.line.Line.TheVariants as L
use Rattle.nim_meaning.specs.Acts.{branch}
use Rattle.flat_code.specs.Scene.{Known, Did, Passes, Temps, with_value}
use Rattle.flat_code.specs.Scene as scenes
use Rattle.flat_code.specs.Lines.{form_in, using, using_number, acts}
use Rattle.hook_lifting.specs.declared.lifted.Hook.TheVariants.{Ends}
use Rattle.hook_lifting.specs.declared.lifted.LiftedLine.{LiftedLine}
use Rattle.hook_lifting.specs.declared.lifted.LiftedLine.TheVariants as O
use Rattle.hook_lifting.specs.Lifted.{turn_lines, cut_lines}
use Rattle.hook_lifting.specs.Lifting.{hook_deed, does_by, place_and_count, comes_to, begun_with}
use Rattle.hook_lifting.specs.Weights.{price, Weighs, is_built}
use Rattle.hook_lifting.specs.Doing.{Alike, Does_cut}
use Rattle.hook_lifting.proofs.Follows.{M, Setting, near_alike, at, scene, Follows, weaker, alike, goes, does, looks_first, does_last, returns}
use Rattle.hook_lifting.proofs.Least.{least_walk}
use Rattle.hook_lifting.proofs.Loops.{keeps_none, keeps_number, each_of, test_follows}
use Rattle.hook_lifting.proofs.Steps.{element_leads}
use Rattle.hook_lifting.proofs.Walks.{ok_hook, ok_sets, ok_refills}

module _ (g : Setting) (level of : ℕ) (place : Location) (n : ℕ) (world : World) (less : nat_le n (length_of (load world place)) ≡ true) where
  abbrev known : Known
  known = g.known

  abbrev form : Form
  form = form_in known of

  abbrev v : Value
  v = load world place

  abbrev lines : List LiftedLine
  lines = cut_lines of

  abbrev last : List LiftedLine
  last = O.Plain (L.Return None) ∷ []

  abbrev forgets : Deed (Unit {0})
  forgets = looks (λ world. refills (block_of v) (Elements (first_of n (elements_of world v))))

  abbrev element : ℕ → Location
  element i = item_of v place i

  abbrev ends_one : ℕ → Deed (Unit {0})
  ends_one i = hook_deed known Ends of (element i) (element i)

  each_is : (l i : ℕ) → each_of ends_one l i ≡ each_element l (λ to from. ends_at form to) i v place v place
  each_is zero i = refl
  each_is (suc l) i = ap (λ (rest : Deed (Unit {0})). ends_one i >> rest) (each_is l (suc i))

  -- what its block holds behind them is nothing any more
  forgotten : (now : Temps) (new : World) → now.values 6 ≡ Some v → now.values 8 ≡ Some (Number (pos n)) →
      Follows g 2 0 (perform forgets new) (at lines level (O.Forget 6 8 ∷ last) now new)
  forgotten now new has counted =
      let x = scene level now new in
      let act : Value → ℤ → Did =
      λ v z. acts x (costs 1 (looks (λ world. refills (block_of v) (Elements (first_of (unsigned_abs z) (elements_of world v)))))) in
      let is_it : does_by known x (O.Forget 6 8) ≡ Passes (perform (Works 1 forgets >>= (λ u. give now)) new) =
      ap (λ o. using o (λ v. using_number now 8 (λ z. act v z))) has ∙ ap (λ o. using o (λ u. act v (number_of u))) counted in
      does_last g lines level false 1 (omega arith) (O.Forget 6 8) refl last now new forgets is_it
      (λ world. ok_refills false (block_of v) (Elements (first_of n (elements_of world v)))) (λ new. returns g lines level [] now new)

  -- where elements are built and have hooks, their ends pay for the turns
  pub cut_follows : g.extra ≡ 2 → (g.built ≡ true → (hooked form ≡ true) × (is_built form ≡ true)) →
      Follows g 13 0 (perform (sees place (λ world v. cut form n place v)) world)
      (at lines level lines (place_and_count place n) world)
  cut_follows more both =
      let temps1 = with_value 6 (place_and_count place n) v in
      let temps2 = with_value 5 temps1 (Number (pos (length_of v))) in
      let temps3 = with_value 4 temps2 (Number (pos n)) in
      let turns = turn_lines Ends of (O.Element 2 6 0 4) (O.Element 3 6 0 4) (O.Forget 6 8 ∷ last) in
      let behind1 = O.Plain (L.Beyond 4 5 false 0) ∷ turns in
      let l : ℕ = length_of v - n in
      let x = scene level temps1 world in
      let shortens : does_by known x (O.Shorten 0 6 8) ≡ Passes (perform (Works 1 (sets place (Handle n (block_of v))) >>= (λ u. give temps1)) world)
      = ap (λ enough. branch enough (acts x (costs 1 (sets place (Handle n (block_of v))))) scenes.Fails) less in
      weaker {p = 3 + (3 + 4 * (1 - 1) + (1 + (1 + (1 + (0 * l + 3)))))} {q = 0} (omega arith) (omega arith)
      (looks_first g lines level (O.Load 6 0) (O.Shorten 0 6 8 ∷ O.Count 5 6 ∷ O.Copy 4 8 ∷ behind1) (place_and_count place n) world place
      (λ v. with_value 6 (place_and_count place n) v) (λ v. cut form n place v) refl
      (does g lines level false (λ u. Unit {0}) 1 (omega arith) (O.Shorten 0 6 8) refl (O.Count 5 6 ∷ O.Copy 4 8 ∷ behind1) temps1 world
      (sets place (Handle n (block_of v))) (λ u. temps1) (λ u. each_element l (λ to from. ends_at form to) n v place v place >> forgets) shortens
      (ok_sets false place (Handle n (block_of v)))
      (λ u ok world1.
      goes 1 (at lines level (O.Copy 4 8 ∷ behind1) temps2 world1) refl
      (goes 1 (at lines level behind1 temps3 world1) refl
      (alike (each_element l (λ to from. ends_at form to) n v place v place >> forgets) (each_of ends_one l n >> forgets) world1
      (λ world. ap (λ (d : Deed (Unit {0})). perform (d >> forgets) world) (sym (each_is l n)))
      (test_follows g lines level Ends of (O.Element 2 6 0 4) (O.Element 3 6 0 4) (O.Forget 6 8 ∷ last) temps2 (length_of v) element element false
      (λ i. ok_hook Ends form (element i) (element i)) 0 8 (omega (arith, more))
      (λ i world b. let h = both b in least_walk Ends form h.1 h.0 (element i) (element i) world) refl refl refl
      (λ now world i keeps counted less.
      element_leads known level 2 6 0 i now world v place (keeps.values 6 (omega arith)) (keeps.places 0 (omega arith)) counted less)
      (λ now world i keeps counted less.
      element_leads known level 3 6 0 i now world v place (keeps.values 6 (omega arith)) (keeps.places 0 (omega arith)) counted less)
      refl refl 3 0 forgets
      (λ now keeps new.
      goes 1 (at lines level (O.Forget 6 8 ∷ last) now new) refl
      (forgotten now new (keeps.values 6 (omega arith)) (keeps.values 8 (omega arith))))
      n l refl temps3 world1 (keeps_number (Number (pos n)) (keeps_none temps2)) refl))))))

pub does_cut : (known : Known) (of : ℕ) → Does_cut known of (cut_lines of)
does_cut known of pace steep level at n world less = by (hooked (form_in known of)) refl
  where
    deed : Deed (Unit {0})
    deed = sees at (λ world v. cut (form_in known of) n at v)

    begins : M
    begins = begun_with (place_and_count at n) (cut_lines of) level world

    -- where they have none, nothing is said of weights
    by : (hooks : Bool) → hooked (form_in known of) ≡ hooks → (count : ℕ) × Alike (perform deed world) (comes_to known count begins)
        × (is_built (form_in known of) ≡ true → hooked (form_in known of) ≡ true → Weighs (pace + 2) 13 (perform deed world) (price known pace count begins))
    by true some =
        let g : Setting = record { known = known; pace = pace; steep = steep; extra = 2; built = is_built (form_in known of) } in
        let f = cut_follows g level of at n world less refl (λ b. (some, b)) in
        let a = near_alike g 13 (perform deed world) (comes_to known f.count begins) (price known pace f.count begins) f.near in
        (f.count, a.0, λ built hooks. a.1 built)
    by false none =
        let g : Setting = record { known = known; pace = pace; steep = steep; extra = 2; built = false } in
        let f = cut_follows g level of at n world less refl (λ b. absurd (false≢true b)) in
        let a = near_alike g 13 (perform deed world) (comes_to known f.count begins) (price known pace f.count begins) f.near in
        (f.count, a.0, λ built hooks. absurd (false≢true (sym none ∙ hooks)))

-- Lines that lead to parts, and the hooks that are a few lines one after another.
use Rattle.std.proofs.Common.{◌≡◌, ℕ, ◌<◌, ◌+◌, ◌*◌, true, false, List, [], ◌∷◌, Some, None, refl, sym, ap, ◌∙◌, arith}
use Rattle.std.specs.Prelude.{ℤ, pos, ◌-◌, unsigned_abs, nat_lt, ◌&&◌}
use Rattle.std.proofs.lemmas.Bool.{le-leb, lt-ltb}
use Rattle.nim_types.specs.Forms.{Form}
use Rattle.nim_program.specs.Ints.{inside}
use Rattle.nim_meaning.specs.Acts.{branch}
use Rattle.nim_meaning.specs.Values.{Value, Number, number_of, length_of, item_of, deeper, Location, vacant}
use Rattle.nim_meaning.specs.State.{World, load, is_full_at}
use Rattle.nim_meaning.specs.Deeds.{Deed, Pushes, Pops, changed, Answers, perform, ◌>>◌, ◌>>=◌, give, costs, sees, takes, sets}
use Rattle.nim_meaning.specs.Deeds.{does as changes}
use Rattle.nim_meaning.specs.Places.{to_part}
use Rattle.nim_meaning.specs.Lifted.{walk, copying, ends_at, in_hand, copied, given_up, replaced, sunk}
use Rattle.flat_code.specs.declared.line.Line.TheVariants as L
use Rattle.flat_code.specs.Scene.{Known, Did, Passes, Fails, Located, location_at, Temps, with_value, with_place}
use Rattle.flat_code.specs.Lines.{form_in, using, using_number, leads}
use Rattle.hook_lifting.specs.declared.lifted.Hook.TheVariants.{Copies, Ends}
use Rattle.hook_lifting.specs.declared.lifted.LiftedLine.{LiftedLine}
use Rattle.hook_lifting.specs.declared.lifted.LiftedLine.TheVariants as O
use Rattle.hook_lifting.specs.Lifted.{assigning_lines, sinking_lines}
use Rattle.hook_lifting.specs.Lifting.{does_by, both_places}
use Rattle.hook_lifting.proofs.Deeds.{Same, Tame, regrouped, sees_then, sees_same}
use Rattle.hook_lifting.proofs.Follows.{Setting, at, scene, least_none, nothing_owed, Follows, weaker, earns, alike, goes, does, calls, calls_last}
use Rattle.hook_lifting.proofs.Follows.{unless_wrong, returns}
use Rattle.hook_lifting.proofs.Walks.{both, ok_sees, ok_sets, ok_put, ok_hook}

module _ (known : Known) (level : ℕ) where
  -- ---- to parts

  -- a place of both goes on to a part
  pub part_leads : (t from i : ℕ) (temps : Temps) (world : World) (location : Location) → temps.places from ≡ Some (Located location) →
      does_by known (scene level temps world) (O.Plain (L.Part t from i)) ≡ Passes (Answers [] 1 (with_place t temps (Located (deeper location i))) world)
  part_leads t from i temps world location e =
      ap (λ o. using o (λ place. leads (scene level temps world) t place (to_part (location_at temps place) i))) e

  is_inside : (i n : ℕ) → i < n → inside (pos i) n ≡ true
  is_inside i n less = ap (λ b. b && nat_lt i n) (le-leb 0 i (omega arith)) ∙ lt-ltb i n less

  pub member_leads : (t from n i : ℕ) (temps : Temps) (world : World) (location : Location) → temps.places from ≡ Some (Located location) →
      temps.values 4 ≡ Some (Number (pos i)) → i < n →
      does_by known (scene level temps world) (O.Member t from 4 n) ≡ Passes (Answers [] 1 (with_place t temps (Located (deeper location i))) world)
  member_leads t from n i temps world location e counted less =
      let x = scene level temps world in
      let go : Location → ℤ → Did = λ a z. branch (inside z n) (leads x t (Located a) (costs 1 (give (deeper a (unsigned_abs z))))) Fails in
      ap (λ o. using o (λ place. using_number temps 4 (λ z. go (location_at temps place) z))) e
      ∙ (ap (λ o. using o (λ v. go location (number_of v))) counted
      ∙ ap (λ b. branch b (leads x t (Located location) (costs 1 (give (deeper location i)))) Fails) (is_inside i n less))

  pub element_leads : (t of from i : ℕ) (temps : Temps) (world : World) (v : Value) (location : Location) → temps.values of ≡ Some v →
      temps.places from ≡ Some (Located location) → temps.values 4 ≡ Some (Number (pos i)) → i < length_of v →
      does_by known (scene level temps world) (O.Element t of from 4) ≡ Passes (Answers [] 1 (with_place t temps (Located (item_of v location i))) world)
  element_leads t of from i temps world v location has e counted less =
      let x = scene level temps world in
      let go : Value → Location → ℤ → Did =
      λ v a z. branch (inside z (length_of v)) (leads x t (Located a) (costs 1 (give (item_of v a (unsigned_abs z))))) Fails in
      ap (λ o. using o (λ v. using (temps.places from) (λ place. using_number temps 4 (λ z. go v (location_at temps place) z)))) has
      ∙ (ap (λ o. using o (λ place. using_number temps 4 (λ z. go v (location_at temps place) z))) e
      ∙ (ap (λ o. using o (λ u. go v location (number_of u))) counted
      ∙ ap (λ b. branch b (leads x t (Located location) (costs 1 (give (item_of v location i)))) Fails) (is_inside i (length_of v) less)))

-- ---- a value comes to a place in place of another one

exchanged : (to : Location) (v : Value) (rest : Value → Deed (Unit {0})) →
    Same (sees to (λ world old. sets to v >> rest old)) (sees to (λ world old. sets to v >> give old) >>= rest)
exchanged to v rest world =
    sym (sees_then to (λ world old. sets to v >> give old) rest world
    ∙ sees_same to (λ world old. (sets to v >> give old) >>= rest) (λ world old. sets to v >> rest old)
    (λ world old. regrouped (sets to v) (λ u. give old) rest) world)

-- the values at two locations trade places
abbrev traded : (to from : Location) → Deed (Unit {0})
traded to from = sees to (λ world old. sees from (λ world new. sets to new >> sets from old))

traded_then : (to from : Location) (rest : Deed (Unit {0})) →
    Same (sees to (λ world old. sees from (λ world new. sets to new >> (sets from old >> rest)))) (traded to from >> rest)
traded_then to from rest world =
    sym (sees_then to (λ world old. sees from (λ world new. sets to new >> sets from old)) (λ u. rest) world
    ∙ sees_same to (λ world old. sees from (λ world new. sets to new >> sets from old) >> rest)
    (λ world old. sees from (λ world new. sets to new >> (sets from old >> rest)))
    (λ world old now.
    sees_then from (λ world new. sets to new >> sets from old) (λ u. rest) now
    ∙ sees_same from (λ world new. (sets to new >> sets from old) >> rest) (λ world new. sets to new >> (sets from old >> rest))
    (λ world new. regrouped (sets to new) (λ u. sets from old) (λ u. rest)) now)
    world)

ok_traded : (to from : Location) → Tame false (λ u. Unit {0}) (traded to from)
ok_traded to from =
    ok_sees false (λ u. Unit {0}) to (λ world old. sees from (λ world new. sets to new >> sets from old))
    (λ world old. ok_sees false (λ u. Unit {0}) from (λ world new. sets to new >> sets from old)
    (λ world new. both false (sets to new) (sets from old) (ok_sets false to new) (ok_sets false from old)))

module _ (g : Setting) (whole : List LiftedLine) (level ty : ℕ) (to from : Location) where
  abbrev known : Known
  known = g.known

  abbrev form : Form
  form = form_in known ty

  abbrev last : List LiftedLine
  last = O.Plain (L.Return None) ∷ []

  pub assigning_follows : (world : World) → Follows g 8 0 (perform (copied form from >>= replaced form to) world)
      (at whole level (assigning_lines ty last) (both_places to from) world)
  assigning_follows world =
      let h = in_hand world in
      let temps1 = with_place 2 (both_places to from) (Located h) in
      let world1 = changed (Pushes (vacant form)) world in
      let popped : Deed Value = takes h (λ after new. changes Pops >> give new) in
      let lines3 = O.Push 2 6 ∷ O.Hook Ends ty 2 2 ∷ O.Pop 6 2 ∷ last in
      weaker {p = 1 + (4 + (3 + 0))} {q = 0} (omega arith) (omega arith)
      (goes 1 (at whole level (O.Hook Copies ty 2 1 ∷ O.Pop 7 2 ∷ O.Exchange 6 0 7 ∷ lines3) temps1 world1) refl
      (alike ((walk copying form h from >> popped) >>= replaced form to) (walk copying form h from >> (popped >>= replaced form to)) world1
      (regrouped (walk copying form h from) (λ u. popped) (replaced form to))
      (nothing_owed (calls g whole level true 0 Copies ty 2 1 (O.Pop 7 2 ∷ O.Exchange 6 0 7 ∷ lines3)
      temps1 world1 (walk copying form h from) (popped >>= replaced form to) (λ b. least_none (perform (walk copying form h from) world1)) refl
      (ok_hook Copies form h from)
      (λ world2.
      let v = load world2 h in
      let world3 = changed Pops world2 in
      let temps2 = with_value 7 temps1 v in
      let exchange : Deed Value = sees to (λ world old. sets to v >> give old) in
      unless_wrong g whole level world2 (is_full_at world2 h) (changes Pops >> give v) (replaced form to)
      (goes 1 (at whole level (O.Exchange 6 0 7 ∷ lines3) temps2 world3) refl
      (earns {p = 0} {q = 0} 8
      (weaker {p = 6 + 4 * (1 - 1) + (4 + (4 + (3 + 1)))} {q = 0} (let s = g.steep in omega (arith, s)) (omega arith)
      (alike (sees to (λ world old. sets to v >> given_up form old)) (exchange >>= given_up form) world3
      (exchanged to v (given_up form))
      (does g whole level false (λ u. Unit {0}) 1 (omega arith) (O.Exchange 6 0 7) refl lines3 temps2 world3 exchange (λ old. with_value 6 temps2 old)
      (given_up form) refl
      (ok_sees false (λ u. Unit {0}) to (λ world old. sets to v >> give old) (λ world old. ok_put false (λ u. Unit {0}) to v old tt))
      (λ old ok world4.
      let temps3 = with_value 6 temps2 old in
      let h2 = in_hand world4 in
      let temps4 = with_place 2 temps3 (Located h2) in
      let world5 = changed (Pushes old) world4 in
      goes 1 (at whole level (O.Hook Ends ty 2 2 ∷ O.Pop 6 2 ∷ last) temps4 world5) refl
      (nothing_owed (calls g whole level false 0 Ends ty 2 2 (O.Pop 6 2 ∷ last) temps4 world5 (ends_at form h2) (changes Pops)
      (λ b. least_none (perform (ends_at form h2) world5)) refl (ok_hook Ends form h2 h2)
      (λ world6.
      goes 1 (at whole level last (with_value 6 temps4 (load world6 h2)) (changed Pops world6)) refl
      (returns g whole level [] (with_value 6 temps4 (load world6 h2)) (changed Pops world6))))))))))))))))

  pub sinking_follows : (world : World) → Follows g 8 0 (perform (sunk form to from) world)
      (at whole level (sinking_lines ty last) (both_places to from) world)
  sinking_follows world =
      earns {p = 8} {q = 0} 8
      (weaker {p = 12 + 4 * (1 - 1) + (4 + 1)} {q = 0} (let s = g.steep in omega (arith, s)) (omega arith)
      (alike (sees to (λ world old. sees from (λ world new. sets to new >> (sets from old >> ends_at form from)))) (traded to from >> ends_at form from) world
      (traded_then to from (ends_at form from))
      (does g whole level false (λ u. Unit {0}) 1 (omega arith) (O.Trade 0 1) refl (O.Hook Ends ty 1 1 ∷ last) (both_places to from) world (traded to from)
      (λ u. both_places to from) (λ u. ends_at form from) refl (ok_traded to from)
      (λ u ok world1.
      calls_last g whole level false Ends ty 1 1 last (both_places to from) world1 (ends_at form from) refl (ok_hook Ends form from from)
      (λ new. returns g whole level [] (both_places to from) new)))))

-- The elements over which a loop goes: their numbers, and how the place of the loop gets one.
use Rattle.std.proofs.Common.{◌≡◌, ℕ, suc, ◌+◌, Bool, true, false, List, [], ◌∷◌, Option, Some, refl, ap, ◌∙◌, arith}
use Rattle.std.specs.Prelude.{if◌then◌else◌, option_map, pos, ◌+ℤ◌, nat_eq, nat_lt}
use Rattle.std.specs.Ordering.{int_eq}
use Rattle.std.proofs.lemmas.Int.{ints}
use Rattle.nim_types.specs.Types.{Ty, Facts}
use Rattle.nim_program.specs.declared.program.Mode.{Mode}
use Rattle.nim_program.specs.Ints.{inside as is_inside}
use Rattle.nim_program.specs.Traps.{LengthChanged, IndexOutOfBounds}
use Rattle.nim_program.specs.Program.{Declared}
use Rattle.nim_meaning.specs.Values.{Value, Number, nothing, number_of, length_of, Location, Operand, At as AtPlace}
use Rattle.nim_meaning.specs.State.{World, State, load, is_seen}
use Rattle.nim_meaning.specs.Deeds.{Deed, behind as later_done, perform, Answers, ◌>>=◌}
use Rattle.nim_meaning.specs.Deeds as deeds
use Rattle.nim_meaning.specs.Here.{is_hooked}
use Rattle.nim_meaning.specs.Places.{has_items, item_of, to_item, to_one}
use Rattle.nim_meaning.specs.Meaning.{element_for}
use Rattle.flat_code.specs.declared.line.From.TheVariants as F
use Rattle.flat_code.specs.declared.line.Line.{Line}
use Rattle.flat_code.specs.declared.line.Line.TheVariants as L
use Rattle.flat_code.specs.Scene.{Temps, with_place, led, location_at, Did, Passes}
use Rattle.flat_code.specs.Lines.{using, using_all, using_number}
use Rattle.flat_code.specs.Lines as does
use Rattle.flattening.specs.StmtLines.{hooked_element, element_lines}
use Rattle.flattening.specs.Flattened.{modes_of}
use Rattle.flattening.specs.Formed.{IsListed}
use Rattle.flattening.proofs.Runs.{Runs}
use Rattle.flattening.proofs.Temps.{put_same}
use Rattle.flattening.proofs.Puts.{Puts, puts_line, ◌>>◌}
use Rattle.flattening.proofs.Spots.{Spot, here_of, there, scene, does_at}
use Rattle.flattening.proofs.Paths.{Leads, leads_now, led_item}
use Rattle.flattening.proofs.Filling.{Filled, HasRoom, copies_follow, stands_follow}

-- ---- numbers

same_numbers : (a b : ℕ) → int_eq (pos a) (pos b) ≡ nat_eq a b
same_numbers a b = grind (arith, ints)

pub all_inside : (i n : ℕ) → is_inside (pos i) n ≡ nat_lt i n
all_inside i n = grind (arith, ints)

pub next_number : (i : ℕ) → pos i +ℤ pos 1 ≡ pos (suc i)
next_number i = let e : i + 1 ≡ suc i = omega arith in ap (λ n. pos n) e

-- ---- that there are still as many

-- where the elements are there
abbrev pub as_long_by : Bool → Deed (Unit {0})
as_long_by b = deeds.branch b (deeds.give tt) (deeds.stop LengthChanged)

abbrev same_length : Bool → Deed Value
same_length b = deeds.branch b (deeds.give nothing) (deeds.stop LengthChanged)

pub still_line_is : (location : Location) (len : ℕ) (temps : Temps) (world : World) → is_seen world location ≡ true →
    perform (does.still location (pos len) >>= (λ v. deeds.give temps)) world
    ≡ perform (as_long_by (nat_eq (length_of (load world location)) len) >>= (λ u. deeds.give temps)) world
still_line_is location len temps world there =
    ap (λ b. perform (deeds.unless_gone b (same_length (int_eq (pos (length_of (load world location))) (pos len))) >>= (λ v. deeds.give temps)) world) there
    ∙ (ap (λ b. perform (same_length b >>= (λ v. deeds.give temps)) world) (same_numbers (length_of (load world location)) len)
    ∙ on (nat_eq (length_of (load world location)) len))
  where
    on : (b : Bool) → perform (same_length b >>= (λ v. deeds.give temps)) world ≡ perform (as_long_by b >>= (λ u. deeds.give temps)) world
    on true = refl
    on false = refl

-- ---- one with hooks goes by its place

pub puts_element : {lo hi : ℕ} (types : List Ty) (facts : Facts) (modes : (proc position : ℕ) → Mode) (result : Option Declared) (borrows : Bool)
    (place : Declared) (t at counter : ℕ) → Puts lo hi (element_lines types facts modes result borrows place t at counter)
puts_element {lo} {hi} types facts modes result borrows place t at counter = on (is_hooked facts place.of) borrows
  where
    stands_or_copies : (b : Bool) → Puts lo hi (λ k. hooked_element types facts modes result b place t ∷ k)
    stands_or_copies true = puts_line _ refl
    stands_or_copies false = puts_line _ refl

    on : (h b : Bool) → Puts lo hi (λ k. if h then L.Item t at counter ∷ hooked_element types facts modes result b place t ∷ k
        else L.Element t at counter ∷ L.Fill place.number t ∷ k)
    on true b = puts_line (L.Item t at counter) refl >> stands_or_copies b
    on false b = puts_line (L.Element t at counter) refl >> puts_line (L.Fill place.number t) refl

module _ (c : Spot) where
  abbrev facts : Facts
  facts = c.fixed.program.facts

  abbrev types : List Ty
  types = c.fixed.program.types

  abbrev modes : (proc position : ℕ) → Mode
  modes = modes_of c.fixed.program c.fixed.plan

  -- the place of the loop is filled with a copy, or stands for it
  pub opens_element : (place : Declared) → IsListed types place.of → (borrows : Bool) (t : ℕ) (location : Location) (k : List Line) (now : Temps) (d : State) →
      HasRoom c d.world place.number → ((go : List Operand → Did) → using_all now (F.Place t ∷ []) go ≡ go (AtPlace location ∷ [])) →
      Runs c.fixed (Filled c k now d.world place.number) 1 0 (there c (hooked_element types facts modes c.result borrows place t ∷ k) now d.world) d.meter
      (element_for (here_of c) place borrows location d)
  opens_element place listed true t location k now d room fetched = stands_follow c place (F.Place t) location k now d room fetched
  opens_element place listed false t location k now d room fetched = copies_follow c place listed (F.Place t) location k now d room fetched

  module _ {lo hi at : ℕ} (t counter i len : ℕ) (location : Location) (last : Temps) (world : World) (is : nat_lt i len ≡ true)
      (there : is_seen world location ≡ true) (same : length_of (load world location) ≡ len) (leads : Leads lo hi at location last)
      (has : has_items (load world location) location.base ≡ true) where
    abbrev item : Location
    item = item_of (load world location) location i

    there_is : is_inside (pos i) (length_of (load world location)) ≡ true
    there_is = ap (λ n. is_inside (pos i) n) same ∙ (all_inside i len ∙ is)

    -- where it stands is known, since it is one of those that are there
    pub item_line : last.values counter ≡ Some (Number (pos i)) →
        does_at c last world (L.Item t at counter) ≡ Passes (Answers [] 1 (with_place t last (led leads.place item)) world)
    item_line counts =
        let x = scene c last world in
        ap (λ o. using o (λ place. using_number last counter (λ z. does.leads x t place (to_item (location_at last place) z)))) leads.is
        ∙ (ap (λ l. using_number last counter (λ z. does.leads x t leads.place (to_item l z))) (leads_now leads)
        ∙ (ap (λ o. using o (λ v. does.leads x t leads.place (to_item location (number_of v)))) counts
        ∙ (ap (λ b. Passes (later_done [] 1 (perform (deeds.unless_gone b
        (deeds.branch (is_inside (pos i) (length_of (load world location))) (to_one (load world location) location i) (deeds.stop IndexOutOfBounds))
        >>= (λ l. deeds.give (with_place t last (led leads.place l)))) world))) there
        ∙ (ap (λ b. Passes (later_done [] 1 (perform (deeds.branch b (to_one (load world location) location i) (deeds.stop IndexOutOfBounds)
        >>= (λ l. deeds.give (with_place t last (led leads.place l)))) world))) there_is
        ∙ ap (λ b. Passes (later_done [] 1 (perform (deeds.unless_gone b (deeds.give item)
        >>= (λ l. deeds.give (with_place t last (led leads.place l)))) world))) has))))

  pub item_fetched : {lo hi at : ℕ} (t i : ℕ) (location : Location) (last : Temps) (world : World) (leads : Leads lo hi at location last) →
      let item = item_of (load world location) location i in
      (go : List Operand → Did) → using_all (with_place t last (led leads.place item)) (F.Place t ∷ []) go ≡ go (AtPlace item ∷ [])
  item_fetched t i location last world leads go =
      let v = load world location in
      let item = item_of v location i in
      let now = with_place t last (led leads.place item) in
      ap (λ o. using o (λ x. go (x ∷ [])))
      (ap (option_map (λ place. AtPlace (location_at now place))) (put_same last.places t (led leads.place item))
      ∙ ap (λ l. Some (AtPlace l)) (led_item now leads.place location i (leads.at now (λ j le less. refl)) v))

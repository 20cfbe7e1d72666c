-- A path that is looked up leads to what is there.
use Rattle.std.proofs.Common.{◌≡◌, refl, sym, ap, subst, ◌∙◌, arith, ℕ, zero, suc, ◌+◌, ◌<◌, ◌≤◌, inl, inr, ◌⊎◌, Bool, true, false, ◌&&◌, List, [], ◌∷◌, ◌++◌}
use Rattle.std.proofs.Common.{length, Option}
use Rattle.std.specs.Prelude.{ℤ, pos, negsuc, unsigned_abs, int_le, int_lt}
use Rattle.std.proofs.lemmas.Bool.{false≢true, ltb-true}
use Rattle.nim_types.specs.Forms.{Form, plain, block, parts, Forms}
use Rattle.nim_program.specs.Ints.{inside}
use Rattle.nim_program.specs.Traps.{IndexOutOfBounds}
use Rattle.nim_meaning.specs.Values.{Value, Fixed, characters, Values, nth, count, part, Standing, Made, Location, at_base}
use Rattle.nim_meaning.specs.Values.{length_of, item_of, deeper}
use Rattle.nim_meaning.specs.Values.{nth_part}
use Rattle.nim_meaning.specs.State.{Frame, World, State, load, frame_in, joined, slot_of}
use Rattle.nim_meaning.specs.Acts.{branch}
use Rattle.nim_meaning.specs.Deeds.{carry, stop, unless_gone}
use Rattle.nim_meaning.specs.Deeds as deeds
use Rattle.nim_meaning.specs.Places.{has_items, root_of, rooted, made, through_slot, to_one, to_part, to_item}
use Rattle.nim_meaning.specs.Aims.{Aim, find}
use Rattle.holders.specs.Owned.{IsBase, at_place, in_program, From, Reaches, here, in_part, a_character as reaches_character, Extent, Full}
use Rattle.holders.specs.Owned.{Constant, Has, no_text, a_text, constant_text, no_sequence, a_sequence, constant_sequence, a_row, some_parts, HasEach}
use Rattle.holders.specs.Owned.{none_more}
use Rattle.holders.specs.Owned.{one_more, HasAll, no_parts, a_part, IsName, a_name, PartForm, first_part, next_part}
use Rattle.holders.specs.Sure.{Sure, Answered}
use Rattle.holders.specs.Territory.{Owner, Territory, Among, first_owner, Owns}
use Rattle.holders.specs.Finding.{Found, in_cell, to_be_read, ItemForm, of_sequence, of_array, of_text, PlaceOf, own_place, a_name_of}
use Rattle.holders.specs.Finding.{of_constant, AimsAt, at_root, at_constant, at_value, at_waiting, at_field, at_element, steps_of}
use Rattle.holders.specs.Working.{number, Works}
use Rattle.holders.specs.Ways.{Step, to_field, to_element, copies, Opens, an_object, an_array, a_block, letters, Way, arrived, a_step, Chain, Goes}
use Rattle.holders.specs.Ways.{goes_nowhere, goes_field, goes_element}
use Rattle.holders.proofs.Owning.{same_or_later, first_empty, second_empty}
use Rattle.holders.proofs.Guards.{sure_reads, full_items, made_items, read_there, IsWhole as HasNoGaps}
use Rattle.holders.proofs.Ending.{part_is}
use Rattle.holders.proofs.Copying.{reaches_deeper}
use Rattle.holders.proofs.SureRuns.{sure_runs, answered_then}
use Rattle.holders.proofs.PathLemmas.{part_deeper}
use Rattle.holders.proofs.Moving.{owns}
use Rattle.holders.proofs.Separating.{separated}
use Rattle.holders.proofs.Bases.{loaded}
use Rattle.holders.proofs.Letters.{character_has}

-- ---- numbers

and_second : (a b : Bool) → (a && b) ≡ true → b ≡ true
and_second true b e = e
and_second false b e = absurd (false≢true e)

inside_less : (z : ℤ) (n : ℕ) → inside z n ≡ true → unsigned_abs z < n
inside_less (pos m) n e = ltb-true m n (and_second (int_le (pos 0) (pos m)) (int_lt (pos m) (pos n)) e)
inside_less (negsuc m) n e = absurd (false≢true e)

-- ---- parts of what is read

-- of what has no blocks
each_nth : {world : World} {x : Extent} {f : Form} {n j : ℕ} {all : Values} {bs : List ℕ} (i : ℕ) → HasEach world x f n j all bs → bs ≡ [] → j ≤ i → i < j + n →
    Has world x f (nth all i) []
each_nth i none_more none le less = absurd (omega (arith, le, less))
each_nth {world} {x} {f} i (one_more {n = n} {i = j} {all = all} {bs = bs} {cs = cs} at h more) none le less =
    by (λ q. each_nth i more (second_empty bs cs none) q (omega (arith, less))) (same_or_later j i le)
  where
    by : (suc j ≤ i → Has world x f (nth all i) []) → (i ≡ j) ⊎ (suc j ≤ i) → Has world x f (nth all i) []
    by further (inl e) = subst (λ m. Has world x f (nth all m) []) (sym e) (subst (λ ds. Has world x f (nth all j) ds) (first_empty bs cs none) h)
    by further (inr q) = further q

record OneThere (world : World) (x : Extent) (f : Form) (all : Values) (i : ℕ) : Type 0 where
  there : i < count all
  has : Has world x f (nth all i) []

all_nth : {world : World} {x : Extent} {fs : Forms} {j d : ℕ} {f : Form} {all : Values} {bs : List ℕ} → HasAll world x fs j all bs → bs ≡ [] →
    PartForm fs d f → (i : ℕ) → i ≡ j + d → OneThere world x f all i
all_nth (no_parts q) none p i e = elim p [ ]
all_nth {world} {x} (a_part {f = f} {i = j} {all = all} {bs = bs} {cs = cs} at h more) none first_part i e =
    subst (λ m. OneThere world x f all m) (omega (arith, e))
    (record { there = at; has = subst (λ ds. Has world x f (nth all j) ds) (first_empty bs cs none) h })
all_nth (a_part {bs = bs} {cs = cs} at h more) none (next_part p) i e = all_nth more (second_empty bs cs none) p i (omega (arith, e))

not_none : {k : ℕ} {ks : List ℕ} → k ∷ ks ≡ [] → ⊥
not_none e = subst some e tt
  where
    some : List ℕ → Type 0
    some [] = ⊥
    some (k ∷ ks) = Unit {0}

-- ---- characters

character_of : {u : Value} {path : List ℕ} (t : List ℕ) (i : ℕ) → i < length t → Reaches u path → part u path ≡ Fixed t → Reaches u (path ++ i ∷ [])
character_of t i le here e = subst (λ v. Reaches v (i ∷ [])) (sym e) (reaches_character le)
character_of t i le (in_part less h) e = in_part less (character_of t i le h e)
character_of t i le (reaches_character {t = s} {i = j} less) e = absurd (no_text_there s j e)
  where
    is_no_text : Value → Type 0
    is_no_text (Fixed t) = ⊥
    is_no_text v = Unit {0}

    number_there : (s : List ℕ) (j : ℕ) → is_no_text (nth (characters s) j)
    number_there [] j = tt
    number_there (c ∷ s) zero = tt
    number_there (c ∷ s) (suc j) = number_there s j

    no_text_there : (s : List ℕ) (j : ℕ) → nth (characters s) j ≡ Fixed t → ⊥
    no_text_there s j e = subst is_no_text e (number_there s j)

-- ---- further on a way

way_further : {world : World} {o m : Owner} {path : List ℕ} {fs : Forms} {from : Location} {i : ℕ} {f : Form} → Way world o m path → Opens world m fs from →
    PartForm fs i f → Way world o (record { form = f; at = deeper from i }) (path ++ i ∷ [])
way_further arrived opens p = a_step opens p arrived
way_further (a_step op q w) opens p = a_step op q (way_further w opens p)

goes_to_field : {steps : List Step} {path : List ℕ} (i : ℕ) → Goes steps path → Goes (steps ++ to_field i ∷ []) (path ++ i ∷ [])
goes_to_field i goes_nowhere = goes_field goes_nowhere
goes_to_field i (goes_field g) = goes_field (goes_to_field i g)
goes_to_field i (goes_element g) = goes_element (goes_to_field i g)

goes_to_element : {steps : List Step} {path : List ℕ} (i : ℕ) → Goes steps path → Goes (steps ++ to_element ∷ []) (path ++ i ∷ [])
goes_to_element i goes_nowhere = goes_element goes_nowhere
goes_to_element i (goes_field g) = goes_field (goes_to_element i g)
goes_to_element i (goes_element g) = goes_element (goes_to_element i g)

copies_part : (n i : ℕ) (f : Form) → i < n → PartForm (copies n f) i f
copies_part zero i f le = absurd (omega (arith, le))
copies_part (suc n) zero f le = first_part
copies_part (suc n) (suc i) f le = next_part (copies_part n i f (omega (arith, le)))

-- ---- the cell of a chain

pub chain_owns : {os : List Owner} {o : Owner} {world : World} (t : Territory os world) → Chain os world o → Owns os t.blocks o world
chain_owns {os} {o} {world} t c = by (separated 1 t (λ j a. c) (λ j l a b d. absurd (only j l a b d)))
  where
    only : (j l : ℕ) → j < 1 → l < 1 → (j ≡ l → ⊥) → ⊥
    only j l a b d = d (omega (arith, a, b))

    by : Works os (o ∷ []) t.blocks world → Owns os t.blocks o world
    by w =
        let own = owns w.territory first_owner in
        record {
          stands_in = own.stands_in;
          value = own.value;
          mine = own.mine;
          cell = own.cell;
          within = λ k m. w.within k (own.within k m);
          moves = λ given after far clear b. (w.back given after far clear
              (own.moves given after (λ k m n. far k m (w.within k n)) (w.clear given far clear) b)).moves;
          without = λ given after far clear b k m n. own.without given after (λ k m n. far k m (w.within k n)) (w.clear given far clear) b k
              ((w.back given after far clear (own.moves given after (λ k m n. far k m (w.within k n)) (w.clear given far clear) b)).without k m
              (own.within k n)) n;
        }

-- ---- a step

module _ {os : List Owner} {world : World} where
  field_found : {may : Bool} {root : ℕ} {steps : List Step} {fs : Forms} {f : Form} {i : ℕ} (m : Location) → PartForm fs i f →
      Found os world may root steps (parts fs) m →
      Found os world may root (steps ++ to_field i ∷ []) f (deeper m i)
  field_found {i = i} m p (in_cell c g) =
      in_cell (record { from = c.from; at = c.at; path = c.path ++ i ∷ []; way = way_further c.way an_object p }) (goes_to_field i g)
  field_found {root = root} {steps = steps} {fs = fs} {f = f} {i = i} m p (to_be_read {u = u} made from h) = by h refl from
    where
      by : {v : Value} {bs : List ℕ} → Has world Constant (parts fs) v bs → bs ≡ [] → From world m u v →
          Found os world false root (steps ++ to_field i ∷ []) f (deeper m i)
      by (some_parts {all = all} h) none from =
          let one = all_nth h none p i (omega arith) in
          to_be_read made (record { base = from.base; there = reaches_deeper i all from.there from.is one.there; is = part_is i m u all from.is }) one.has

  item_inside : {may : Bool} {root : ℕ} {steps : List Step} {g : Form} (m : Location) (z : ℤ) (v : Value) → has_items v m.base ≡ true →
      ((i : ℕ) → i < length_of v → Found os world may root steps g (item_of v m i)) →
      Sure (branch (inside z (length_of v)) (to_one v m (unsigned_abs z)) (stop IndexOutOfBounds))
      (λ l after. (after ≡ world) × Found os world may root steps g l) world
  item_inside {may} {root} {steps} {g} m z v has found = by (inside z (length_of v)) refl
    where
      by : (b : Bool) → inside z (length_of v) ≡ b → Sure (branch b (to_one v m (unsigned_abs z)) (stop IndexOutOfBounds))
          (λ l after. (after ≡ world) × Found os world may root steps g l) world
      by true e =
          subst (λ b. Sure (unless_gone b (deeds.give (item_of v m (unsigned_abs z)))) (λ l after. (after ≡ world) × Found os world may root steps g l) world)
          (sym has) (refl, found (unsigned_abs z) (inside_less z (length_of v) e))
      by false e = tt

  -- in a cell
  items_of : {may : Bool} {steps : List Step} {f g : Form} (t : Territory os world) (m : Location) → ItemForm f g →
      (c : Chain os world (record { form = f; at = m })) → Goes steps c.path → (i : ℕ) → i < length_of (chain_owns t c).value →
      Found os world may (number c.at) (steps ++ to_element ∷ []) g (item_of (chain_owns t c).value m i)
  items_of {may} {steps} {f} {g} t m item c goes i le = by own.value item c goes own.cell.has (loaded world m own.stands_in own.cell.at.base ∙ own.cell.is) le
    where
      own : Owns os t.blocks (record { form = f; at = m }) world
      own = chain_owns t c

      by : {f g : Form} (v : Value) {bs : List ℕ} → ItemForm f g → (c : Chain os world (record { form = f; at = m })) → Goes steps c.path →
          Has world Full f v bs → load world m ≡ v → i < length_of v → Found os world may (number c.at) (steps ++ to_element ∷ []) g (item_of v m i)
      by _ (of_sequence {f = f}) c goes no_sequence e le = absurd (omega (arith, le))
      by _ (of_sequence {f = f}) c goes (a_sequence {k = k} {all = all} there each) e le =
          in_cell (record { from = c.from; at = c.at; path = c.path ++ i ∷ []; way = way_further c.way (a_block e) (copies_part (count all) i f le) })
          (goes_to_element i goes)
      by _ (of_array {n = n} {f = f}) c goes (a_row same each) e le =
          in_cell (record { from = c.from; at = c.at; path = c.path ++ i ∷ []; way = way_further c.way an_array (copies_part n i f (omega (arith, same, le))) })
          (goes_to_element i goes)
      by _ of_text c goes no_text e le = absurd (omega (arith, le))
      by _ of_text c goes (a_text {n = n} same there) e le =
          in_cell (record { from = c.from; at = c.at; path = c.path ++ i ∷ []; way = way_further c.way (letters e) (copies_part n i plain le) })
          (goes_to_element i goes)

  -- a character of a text
  character_read : {root : ℕ} {steps : List Step} {v u constant : Value} {bs : List ℕ} (m : Location) → m.base ≡ Made constant → From world m u v →
      Has world Constant block v bs → bs ≡ [] → (i : ℕ) → i < length_of v → Found os world false root steps plain (item_of v m i)
  character_read m made from no_text none i le = absurd (omega (arith, le))
  character_read m made from (a_text same b) none i le = absurd (not_none none)
  character_read {u = u} m made from (constant_text {t = t}) none i le =
      to_be_read made (record {
        base = from.base;
        there = character_of t i le from.there from.is;
        is = part_deeper u m.path i ∙ ap (λ v. nth_part v i) from.is;
      }) (character_has t i le)

  items_read : {root : ℕ} {steps : List Step} {f g : Form} {v u constant : Value} {bs : List ℕ} (m : Location) → ItemForm f g → m.base ≡ Made constant →
      From world m u v →
      Has world Constant f v bs → bs ≡ [] → (i : ℕ) → i < length_of v → Found os world false root steps g (item_of v m i)
  items_read m of_sequence made from no_sequence none i le = absurd (omega (arith, le))
  items_read m of_sequence made from (a_sequence b each) none i le = absurd (not_none none)
  items_read {u = u} m of_sequence made from (constant_sequence {all = all} each) none i le =
      to_be_read made (record { base = from.base; there = reaches_deeper i all from.there from.is le; is = part_is i m u all from.is })
      (each_nth i each none (omega arith) (omega (arith, le)))
  items_read {u = u} m of_array made from (a_row {all = all} same each) none i le =
      to_be_read made (record { base = from.base; there = reaches_deeper i all from.there from.is le; is = part_is i m u all from.is })
      (each_nth i each none (omega arith) (omega (arith, same, le)))
  items_read m of_text made from h none i le = character_read m made from h none i le

  pub item_found : {may : Bool} {root : ℕ} {steps : List Step} {f g : Form} (t : Territory os world) (m : Location) (z : ℤ) → ItemForm f g →
      Found os world may root steps f m → Sure (to_item m z) (λ l after. (after ≡ world) × Found os world may root (steps ++ to_element ∷ []) g l) world
  item_found {may} {steps = steps} {f = f} {g = g} t m z item (in_cell c goes) =
      let own = chain_owns t c in
      sure_reads (λ world v. branch (inside z (length_of v)) (to_one v m (unsigned_abs z)) (stop IndexOutOfBounds))
      (λ l after. (after ≡ world) × Found os world may (number c.at) (steps ++ to_element ∷ []) g l) (read_there own.cell.at own.cell.is) tt own.cell.has
      (item_inside m z own.value (full_items m.base own.cell.has) (items_of t m item c goes))
  item_found {root = root} {steps = steps} {f = f} {g = g} t m z item (to_be_read {v = v} made from h) =
      sure_reads (λ world v. branch (inside z (length_of v)) (to_one v m (unsigned_abs z)) (stop IndexOutOfBounds))
      (λ l after. (after ≡ world) × Found os world false root (steps ++ to_element ∷ []) g l) from tt h
      (item_inside m z v (ap (has_items v) made ∙ made_items v _) (items_read m item made from h refl))

-- ---- all elements of what was found

pub record ItemsThere (os : List Owner) (world : World) (may : Bool) (root : ℕ) (steps : List Step) (f g : Form) (l : Location) : Type 0 where
  pub stands_in : Value
  pub value : Value
  pub extent : Extent
  pub blocks : List ℕ
  pub whole : HasNoGaps extent
  pub places : has_items value l.base ≡ true
  pub from : From world l stands_in value
  pub has : Has world extent f value blocks
  pub items : (i : ℕ) → i < length_of value → Found os world may root (steps ++ to_element ∷ []) g (item_of value l i)

pub items_there : {os : List Owner} {world : World} {may : Bool} {root : ℕ} {steps : List Step} {f g : Form} {l : Location} → Territory os world →
    ItemForm f g → Found os world may root steps f l → ItemsThere os world may root steps f g l
items_there {l = l} t item (in_cell c goes) =
    let own = chain_owns t c in
    record {
      stands_in = own.stands_in;
      value = own.value;
      extent = Full;
      blocks = own.mine;
      whole = tt;
      places = full_items l.base own.cell.has;
      from = read_there own.cell.at own.cell.is;
      has = own.cell.has;
      items = λ i less. items_of t l item c goes i less;
    }
items_there {l = l} t item (to_be_read {u = u} {v = v} made from h) = record {
  stands_in = u;
  value = v;
  extent = Constant;
  blocks = [];
  whole = tt;
  places = ap (has_items v) made ∙ made_items v _;
  from = from;
  has = h;
  items = λ i less. items_read l item made from h refl i less;
}

-- ---- roots

itself : {os : List Owner} {may : Bool} {world : World} {o : Owner} (i : Among os o) → Found os world may (number i) [] o.form o.at
itself {o = o} i = in_cell (record { from = o; at = i; path = []; way = arrived }) goes_nowhere

own_root : {world : World} {level n : ℕ} {w : Value} → IsBase world (Standing level n) w → root_of (Standing level n) world ≡ at_base (Standing level n)
own_root {level = level} {n = n} (at_place frame e le f) =
    ap (λ (x : Option Frame). through_slot (Standing level n) (slot_of (frame_in x) n)) e ∙ ap (λ x. through_slot (Standing level n) (joined x)) f

name_root : (world : World) {level n : ℕ} {l : Location} → IsName world.frames level n l → root_of (Standing level n) world ≡ l
name_root world {level = level} {n = n} (a_name frame e le f) =
    ap (λ (x : Option Frame). through_slot (Standing level n) (slot_of (frame_in x) n)) e ∙ ap (λ x. through_slot (Standing level n) (joined x)) f

pub root_found : {os : List Owner} {may : Bool} {world : World} {level n : ℕ} {f : Form} {root : ℕ} → Territory os world → PlaceOf os world level n f may root →
    Found os world may root [] f (root_of (Standing level n) world)
root_found {os} {may} {world} {f = f} t (own_place i) =
    subst (λ l. Found os world may (number i) [] f l) (sym (own_root (owns t i).cell.at.base)) (itself i)
root_found {os} {may} {world} {f = f} t (a_name_of name i) =
    subst (λ l. Found os world may (number i) [] f l) (sym (name_root world name)) (itself i)
root_found {os} {world = world} {f = f} {root = root} t (of_constant name made from h) =
    subst (λ l. Found os world false root [] f l) (sym (name_root world name)) (to_be_read made from h)

-- ---- paths

-- the place that is looked up is there; nothing is changed by that
pub finds : {os : List Owner} (s : State) (t : Territory os s.world) {may : Bool} {aim : Aim} {f : Form} {root : ℕ} → AimsAt os s.world may root aim f →
    Answered (λ m after. (after ≡ s.world) × Found os s.world may root (steps_of aim) f m) (find aim s)
finds {os} s t (at_root {b = may} {root = root} {level = level} {n = n} {f = f} place) =
    sure_runs (rooted (Standing level n)) (λ m after. (after ≡ s.world) × Found os s.world may root [] f m) s (refl, root_found t place)
finds {os} s t (at_constant {root = root} {v = v} {f = f} h) =
    sure_runs (rooted (Made v)) (λ m after. (after ≡ s.world) × Found os s.world false root [] f m) s
    (refl, to_be_read refl (record { base = in_program; there = here; is = refl }) h)
finds {os} s t (at_value {root = root} {v = v} {f = f} h) =
    sure_runs (made v) (λ m after. (after ≡ s.world) × Found os s.world false root [] f m) s
    (refl, to_be_read refl (record { base = in_program; there = here; is = refl }) h)
finds s t (at_waiting i) = (refl, itself i)
finds {os} s t (at_field {b = may} {root = root} {aim = aim} {i = i} {fs = fs} {f = f} from p) =
    answered_then (find aim) (λ m. carry (to_part m i)) (λ m after. (after ≡ s.world) × Found os s.world may root (steps_of aim) (parts fs) m)
    (λ m after. (after ≡ s.world) × Found os s.world may root (steps_of aim ++ to_field i ∷ []) f m) s (finds s t from)
    (λ m now h. sure_runs (to_part m i) (λ m after. (after ≡ s.world) × Found os s.world may root (steps_of aim ++ to_field i ∷ []) f m) now
    (h.0, field_found m p h.1))
finds {os} s t (at_element {b = may} {root = root} {aim = aim} {z = z} {f = g} {g = f} from item) =
    answered_then (find aim) (λ m. carry (to_item m z)) (λ m after. (after ≡ s.world) × Found os s.world may root (steps_of aim) g m)
    (λ m after. (after ≡ s.world) × Found os s.world may root (steps_of aim ++ to_element ∷ []) f m) s (finds s t from)
    (λ m now h. sure_runs (to_item m z) (λ m after. (after ≡ s.world) × Found os s.world may root (steps_of aim ++ to_element ∷ []) f m) now
    (subst (λ w. Sure (to_item m z) (λ m after. (after ≡ s.world) × Found os s.world may root (steps_of aim ++ to_element ∷ []) f m) w) (sym h.0)
    (item_found t m z item h.1)))

-- What has one holder is there: no guard is met where values have their forms.
use Rattle.std.proofs.Common.{◌≡◌, refl, sym, ap, ap₂, subst, ◌∙◌, arith, ℕ, suc, ◌+◌, ◌<◌, ◌≤◌, Bool, true, ◌&&◌, List, [], ◌∷◌, length, Some, inl, inr}
use Rattle.std.proofs.Common.{◌⊎◌}
use Rattle.std.specs.Prelude.{slice_get}
use Rattle.std.proofs.lemmas.Bool.{eq-eqb, lt-ltb}
use Rattle.nim_types.specs.Forms.{Form, Forms}
use Rattle.nim_meaning.specs.Heap.{Contents, Block, block_at}
use Rattle.nim_meaning.specs.Values.{Value, Number, Parts, Handle, Fixed, Ref, Resource, Gone, Vacant, Values, Nil, More}
use Rattle.nim_meaning.specs.Values.{Base, InBlock, Made, Location, count, nth, part, is_full, all_full}
use Rattle.nim_meaning.specs.State.{World, load, is_so_in, has_as_many, has_item, is_live, is_whole, leads_from, is_there, is_seen, is_full_at}
use Rattle.nim_meaning.specs.Deeds.{Stores, Frees, Refills, Deed, changed, does, sees, takes, sets, frees, refills, unless_gone}
use Rattle.nim_meaning.specs.Places.{has_items, may_change, changes}
use Rattle.holders.specs.Owned.{IsBase, at_place, at_node, in_hand, in_row, in_text, in_program, HasPart, whole, row_part, Reaches, here, in_part, a_character}
use Rattle.holders.specs.Owned.{At, From, Extent, Full, Gaps, Has, HasEach, none_more, one_more, HasAll, no_parts, a_part}
use Rattle.holders.specs.Owned.{a_number, no_number, no_text, a_text, gone_text, constant_text, no_sequence, a_sequence, gone_sequence, constant_sequence}
use Rattle.holders.specs.Owned.{a_row, gone_row, some_parts, gone_parts, of_wrapped, MayStore, place_may, node_may, hand_may, block_may}
use Rattle.holders.specs.Owned.{MayBecome, in_rows, a_letter, Lies}
use Rattle.holders.specs.Sure.{Sure}
use Rattle.holders.proofs.Bases.{block_position, loaded, same_or_not}

-- a block that is there, with contents of which this is so
so_there : (world : World) (k : ℕ) (block : Block) (asked : Contents → Bool) → block_at world.heap k ≡ Some block → asked block.contents ≡ true →
    is_so_in asked (slice_get world.heap.blocks k) ≡ true
so_there world k block asked e h = ap (is_so_in asked) (block_position world.heap.blocks k block e) ∙ h

pub base_live : {world : World} {k : ℕ} {x : Value} → IsBase world (InBlock k) x → is_live world k ≡ true
base_live {world} {k} (in_row block e f) = so_there world k block (λ contents. true) e refl
base_live {world} {k} (in_text block e f) = so_there world k block (λ contents. true) e refl

pub reached : {w : Value} {path : List ℕ} → HasPart w path → Reaches w path
reached whole = here
reached (row_part le h) = in_part le (reached h)

pub part_is_there : {world : World} (l : Location) {w : Value} → IsBase world l.base w → Reaches w l.path → is_there world l ≡ true
part_is_there {world} l {w} base there = by l.base w l.path base there
  where
    by : (base : Base) (w : Value) (path : List ℕ) → IsBase world base w → Reaches w path → leads_from world base path ≡ true
    by _ _ path (at_place frame e le f) h = refl
    by _ _ path (at_node frame e f) h = refl
    by _ _ path (in_hand e) h = refl
    by _ _ path in_program h = refl
    by _ _ _ (in_row {k = k} block e f) here = so_there world k block (has_item []) e refl
    by _ _ _ (in_text {k = k} block e f) here = so_there world k block (has_item []) e refl
    by _ _ _ (in_row {k = k} {all = all} block e f) (in_part {i = i} {path = path} le h) =
        so_there world k block (has_item (i ∷ path)) e (ap (has_item (i ∷ path)) f ∙ lt-ltb i (count all) le)
    by _ _ _ (in_text {k = k} {t = t} block e f) (a_character {i = i} le) =
        so_there world k block (has_item (i ∷ [])) e (ap (has_item (i ∷ [])) f ∙ lt-ltb i (length t) le)

-- what stands in a cell, and what may become another value besides
pub lies_at : {world : World} {l : Location} {w : Value} → At world l w → Lies world l w
lies_at at = record { base = at.base; part = in_rows at.part; may = at.may }

pub reached_so : {w : Value} {path : List ℕ} → MayBecome w path → Reaches w path
reached_so (in_rows h) = reached h
reached_so (a_letter le) = a_character le

-- it has no gaps
abbrev pub IsWhole : Extent → Type 0
IsWhole Gaps = ⊥
IsWhole x = Unit {0}

-- a value of a form without gaps has its blocks
pub has_whole : {world : World} {x : Extent} {f : Form} {v : Value} {bs : List ℕ} → IsWhole x → Has world x f v bs → is_whole world v ≡ true
has_whole i a_number = refl
has_whole i no_number = absurd i
has_whole i no_text = refl
has_whole {world} i (a_text {n = n} {k = k} {t = t} same (in_text block e f)) =
    so_there world k block (has_as_many n) e (ap (has_as_many n) f ∙ eq-eqb (length t) n same)
has_whole i gone_text = absurd i
has_whole i constant_text = refl
has_whole i no_sequence = refl
has_whole {world} i (a_sequence {k = k} {all = all} (in_row block e f) each) =
    so_there world k block (has_as_many (count all)) e (ap (has_as_many (count all)) f ∙ eq-eqb (count all) (count all) refl)
has_whole i gone_sequence = absurd i
has_whole i (constant_sequence each) = refl
has_whole i (a_row n each) = refl
has_whole i (gone_row e) = absurd i
has_whole i (some_parts all) = refl
has_whole i (gone_parts e) = absurd i
has_whole i (of_wrapped h) = has_whole i h

-- where each part is full, all are
parts_full : (all : Values) → ((j : ℕ) → j < count all → is_full (nth all j) ≡ true) → all_full all ≡ true
parts_full Nil h = refl
parts_full (More v all) h = ap₂ (λ a b. a && b) (h 0 (omega arith)) (parts_full all (λ j less. h (suc j) (omega (arith, less))))

-- from one part on
later_full : (all : Values) (i j : ℕ) → is_full (nth all i) ≡ true → i ≤ j → (suc i ≤ j → is_full (nth all j) ≡ true) → is_full (nth all j) ≡ true
later_full all i j first le rest = by (same_or_not j i)
  where
    by : (j ≡ i) ⊎ (j ≡ i → ⊥) → is_full (nth all j) ≡ true
    by (inl same) = ap (λ n. is_full (nth all n)) same ∙ first
    by (inr other) = rest (omega (arith, le, other))

mutual
  -- and nothing of it is vacant
  pub has_full : {world : World} {x : Extent} {f : Form} {v : Value} {bs : List ℕ} → IsWhole x → Has world x f v bs → is_full v ≡ true
  has_full i a_number = refl
  has_full i no_number = absurd i
  has_full i no_text = refl
  has_full i (a_text same b) = refl
  has_full i gone_text = absurd i
  has_full i constant_text = refl
  has_full i no_sequence = refl
  has_full i (a_sequence b each) = refl
  has_full i gone_sequence = absurd i
  has_full i (constant_sequence {all = all} each) = parts_full all (λ j less. each_full i each j (omega arith) (omega (arith, less)))
  has_full i (a_row {all = all} same each) = parts_full all (λ j less. each_full i each j (omega arith) (omega (arith, less, same)))
  has_full i (gone_row e) = absurd i
  has_full i (some_parts {all = all} parts) = parts_full all (λ j less. every_full i parts j (omega arith) less)
  has_full i (gone_parts e) = absurd i
  has_full i (of_wrapped h) = has_full i h

  each_full : {world : World} {x : Extent} {f : Form} {n k : ℕ} {all : Values} {bs : List ℕ} → IsWhole x → HasEach world x f n k all bs → (j : ℕ) → k ≤ j →
      j < k + n → is_full (nth all j) ≡ true
  each_full i none_more j le less = absurd (omega (arith, le, less))
  each_full i (one_more {i = k} {all = all} there h more) j le less =
      later_full all k j (has_full i h) le (λ later. each_full i more j later (omega (arith, less)))

  every_full : {world : World} {x : Extent} {fs : Forms} {k : ℕ} {all : Values} {bs : List ℕ} → IsWhole x → HasAll world x fs k all bs → (j : ℕ) → k ≤ j →
      j < count all → is_full (nth all j) ≡ true
  every_full i (no_parts same) j le less = absurd (omega (arith, le, less, same))
  every_full i (a_part {i = k} {all = all} there h more) j le less =
      later_full all k j (has_full i h) le (λ later. every_full i more j later less)

-- ---- deeds

pub seen_from : {world : World} {l : Location} {u v : Value} {x : Extent} {f : Form} {bs : List ℕ} → From world l u v → IsWhole x → Has world x f v bs →
    is_seen world l ≡ true
seen_from {world} {l} {u} from fine has =
    ap₂ (λ a b. a && b) (part_is_there l from.base from.there) (ap (is_whole world) (loaded world l u from.base ∙ from.is) ∙ has_whole fine has)

-- a value that is all there, or is the program's own, has places for its elements
pub full_items : {world : World} {f : Form} {v : Value} {bs : List ℕ} (b : Base) → Has world Full f v bs → has_items v b ≡ true
full_items b a_number = refl
full_items b no_text = refl
full_items b (a_text same there) = refl
full_items b no_sequence = refl
full_items b (a_sequence there each) = refl
full_items b (a_row same each) = refl
full_items b (some_parts all) = refl
full_items b (of_wrapped h) = full_items b h

pub made_items : (v constant : Value) → has_items v (Made constant) ≡ true
made_items (Number z) constant = refl
made_items (Parts all) constant = refl
made_items (Handle n k) constant = refl
made_items (Fixed text) constant = refl
made_items (Ref object) constant = refl
made_items (Resource all identity) constant = refl
made_items (Gone v final) constant = refl
made_items Vacant constant = refl

-- what is read is there
pub sure_reads : {A : Type 0} {world : World} {l : Location} {u v : Value} {x : Extent} {f : Form} {bs : List ℕ} (go : World → Value → Deed A)
    (P : A → World → Type 0) → From world l u v → IsWhole x → Has world x f v bs → Sure (go world v) P world → Sure (sees l go) P world
sure_reads {A} {world} {l} {u} go P from fine has h =
    subst (λ b. Sure (unless_gone b (go world (load world l))) P world) (sym (seen_from from fine has))
    (subst (λ v. Sure (go world v) P world) (sym (loaded world l u from.base ∙ from.is)) h)

pub full_from : {world : World} {l : Location} {u v : Value} {x : Extent} {f : Form} {bs : List ℕ} → From world l u v → IsWhole x → Has world x f v bs →
    is_full_at world l ≡ true
full_from {world} {l} {u} from fine has =
    ap₂ (λ a b. a && b) (seen_from from fine has) (ap is_full (loaded world l u from.base ∙ from.is) ∙ has_full fine has)

-- and so is what is taken, all of it
pub sure_takes : {A : Type 0} {world : World} {l : Location} {u v : Value} {x : Extent} {f : Form} {bs : List ℕ} (go : World → Value → Deed A)
    (P : A → World → Type 0) → From world l u v → IsWhole x → Has world x f v bs → Sure (go world v) P world → Sure (takes l go) P world
sure_takes {A} {world} {l} {u} go P from fine has h =
    subst (λ b. Sure (unless_gone b (go world (load world l))) P world) (sym (full_from from fine has))
    (subst (λ v. Sure (go world v) P world) (sym (loaded world l u from.base ∙ from.is)) h)

pub read_there : {world : World} {l : Location} {w v : Value} → Lies world l w → part w l.path ≡ v → From world l w v
read_there at e = record { base = at.base; there = reached_so at.part; is = e }

pub read_at : {world : World} {l : Location} {w v : Value} → At world l w → part w l.path ≡ v → From world l w v
read_at at e = read_there (lies_at at) e

pub sure_sees : {A : Type 0} {world : World} {l : Location} {w v : Value} {x : Extent} {f : Form} {bs : List ℕ} (go : World → Value → Deed A)
    (P : A → World → Type 0) → At world l w → part w l.path ≡ v → IsWhole x → Has world x f v bs → Sure (go world v) P world → Sure (sees l go) P world
sure_sees go P at e fine has h = sure_reads go P (read_at at e) fine has h

pub sure_puts : {world : World} {l : Location} {w : Value} (v : Value) (P : Unit {0} → World → Type 0) → Lies world l w →
    P tt (changed (Stores l v) world) → Sure (sets l v) P world
sure_puts {world} {l} v P at h =
    subst (λ b. Sure (unless_gone b (does (Stores l v))) P world) (sym (part_is_there l at.base (reached_so at.part))) h

pub sure_sets : {world : World} {l : Location} {w : Value} (v : Value) (P : Unit {0} → World → Type 0) → At world l w →
    P tt (changed (Stores l v) world) → Sure (sets l v) P world
sure_sets v P at h = sure_puts v P (lies_at at) h

-- what is no constant may be changed
may_changed : {b : Base} {path : List ℕ} → MayStore b path → may_change b ≡ true
may_changed place_may = refl
may_changed node_may = refl
may_changed hand_may = refl
may_changed block_may = refl

pub sure_changing : {A : Type 0} {world : World} {l : Location} {w : Value} (deed : Deed A) (P : A → World → Type 0) → Lies world l w →
    Sure deed P world → Sure (unless_gone (may_change l.base) deed) P world
sure_changing {world = world} deed P at h = subst (λ b. Sure (unless_gone b deed) P world) (sym (may_changed at.may)) h

pub sure_changes : {world : World} {l : Location} {w : Value} (v : Value) (P : Unit {0} → World → Type 0) → Lies world l w →
    P tt (changed (Stores l v) world) → Sure (changes l v) P world
sure_changes {l = l} v P at h = sure_changing (sets l v) P at (sure_puts v P at h)

pub sure_frees : {world : World} {k : ℕ} {x : Value} (P : Unit {0} → World → Type 0) → IsBase world (InBlock k) x → P tt (changed (Frees k) world) →
    Sure (frees (Some k)) P world
sure_frees {world} {k} P b h = subst (λ s. Sure (unless_gone s (does (Frees k))) P world) (sym (base_live b)) h

pub sure_refills : {world : World} {k : ℕ} {x : Value} (contents : Contents) (P : Unit {0} → World → Type 0) → IsBase world (InBlock k) x →
    P tt (changed (Refills k contents) world) → Sure (refills (Some k) contents) P world
sure_refills {world} {k} contents P b h = subst (λ s. Sure (unless_gone s (does (Refills k contents))) P world) (sym (base_live b)) h

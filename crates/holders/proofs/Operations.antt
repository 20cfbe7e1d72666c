-- The rows of operations on values with blocks, by the forms of their operands.
use Rattle.std.proofs.Common.{◌≡◌, refl, sym, ap, ap₂, subst, ◌∙◌, ℕ, zero, suc, List, [], ◌∷◌, Bool, true, false, ◌&&◌}
use Rattle.std.specs.Prelude.{ℤ, pos, int_lt, unsigned_abs, ◌*◌, ◌-◌}
use Rattle.nim_types.specs.Forms.{Form, plain, block, elements, hooked, size}
use Rattle.nim_program.specs.Traps.{Trap, OutOfRange}
use Rattle.nim_program.specs.declared.operation.Comparison.{Comparison}
use Rattle.nim_meaning.specs.Values.{Value, nothing, Values, count, repeated, blank, length_of, Location, location_of}
use Rattle.nim_meaning.specs.Values.{Operand, Given, At as Place, Made, at_base}
use Rattle.nim_meaning.specs.Heap.{Characters, Elements}
use Rattle.nim_meaning.specs.Marks.{Distinct}
use Rattle.nim_meaning.specs.State.{World, load, text_of, is_seen, is_whole}
use Rattle.nim_meaning.specs.Texts.{are_seen}
use Rattle.nim_meaning.specs.Deeds.{Deed, give, stop, costs, branch, unless_gone, ◌>>◌}
use Rattle.nim_meaning.specs.Lifted.{assigned, assigns, fresh, fresh_sequence, resized}
use Rattle.nim_meaning.specs.OwnedRows.{appended, added, shortened, counted, length_to, text_to, sequence_to, compared_texts}
use Rattle.nim_meaning.specs.Places.{length_at, may_change}
use Rattle.holders.specs.Owned.{Full, Has, a_number, HasEach, HasBlocksAlone}
use Rattle.holders.specs.Sure.{Sure}
use Rattle.holders.specs.Becoming.{Strange}
use Rattle.holders.specs.Territory.{Owner, ClearOf, Territory, Moves}
use Rattle.holders.specs.Ways.{Step, Chain}
use Rattle.holders.specs.Finding.{Found, in_cell, to_be_read, Read}
use Rattle.holders.specs.Handing.{UnderWay, HandsOut}
use Rattle.holders.proofs.Sure.{sure_then}
use Rattle.holders.proofs.Bases.{loaded}
use Rattle.holders.proofs.Guards.{sure_reads, sure_changing, has_whole, part_is_there}
use Rattle.holders.proofs.ElementLists.{each_repeated, count_repeated, blank_has}
use Rattle.holders.proofs.TextRows.{text_gets_length}
use Rattle.holders.proofs.Moving.{moves_same}
use Rattle.holders.proofs.Letters.{hooked_cell}
use Rattle.holders.proofs.Finding.{chain_owns}
use Rattle.holders.proofs.PlainRows.{none_clear}
use Rattle.holders.proofs.Pairs.{copies_over, constant_over}
use Rattle.holders.proofs.Rows.{turns_in_place, appends_to, sets_length, adds_to, takes_value, sequence_comes, pops_from}

-- a trap ends the run
trap_sure : {A : Type 0} (trap : Trap) (P : A → World → Type 0) (world : World) → Sure (stop {A = A} trap) P world
trap_sure trap P world = tt

-- a length that is one
pub counted_sure : (z : ℤ) (act : ℕ → Deed Value) (P : Value → World → Type 0) (world : World) → ((n : ℕ) → Sure (act n) P world) → Sure (counted z act) P world
counted_sure z act P world h = by (int_lt z (pos 0))
  where
    by : (b : Bool) → Sure (branch b (stop OutOfRange) (act (unsigned_abs z))) P world
    by true = tt
    by false = h (unsigned_abs z)

-- ---- guards

-- what is looked at is there
pub seen_read : {f : Form} {l : Location} {world : World} → Read f l world → is_seen world l ≡ true
seen_read {l = l} {world = world} r =
    ap₂ (λ a b. a && b) (part_is_there l r.from.base r.from.there)
    (ap (is_whole world) (loaded world l r.stands_in r.from.base ∙ r.from.is) ∙ has_whole tt r.has)

-- a value that is handed over has its blocks
pub seen_given : {f : Form} {v : Value} {bs : List ℕ} {world : World} → Has world Full f v bs → is_seen world (at_base (Made v)) ≡ true
seen_given h = has_whole tt h

pub all_seen_none : (world : World) → are_seen world [] ≡ true
all_seen_none world = refl

pub all_seen : (world : World) (x : Operand) (xs : List Operand) → is_seen world (location_of x) ≡ true → are_seen world xs ≡ true →
    are_seen world (x ∷ xs) ≡ true
all_seen world x xs a b = ap₂ (λ m n. m && n) a b

pub guarded : {A : Type 0} (there : Bool) (deed : Deed A) (P : A → World → Type 0) (world : World) → there ≡ true → Sure deed P world →
    Sure (unless_gone there deed) P world
guarded there deed P world e h = subst (λ b. Sure (unless_gone b deed) P world) (sym e) h

module _ {os : List Owner} {world : World} (t : Territory os world) where
  -- nothing is given, and the territory is as after the deed
  abbrev Done : List ℕ → Value → World → Type 0
  Done given x after = Moves os given t.blocks world after

  abbrev Number_given : Value → World → Type 0
  Number_given x after = Moves os [] t.blocks world after × Has after Full plain x []

  -- texts are compared
  pub compares_texts : (comparison : Comparison) (a b : List ℕ) → Sure (compared_texts comparison a b) Number_given world
  compares_texts comparison a b = (moves_same t, a_number)

  -- how long it is
  pub measures : {f : Form} {l : Location} → Read f l world → (P : ℕ → World → Type 0) → ((n : ℕ) → P n world) → Sure (length_at l) P world
  measures r P h = sure_reads (λ world v. give (length_of v)) P r.from tt r.has (h (length_of r.value))

  -- ---- sequences

  -- of values that were under way
  pub makes_sequence : (f : Form) (vs : Values) (ds : List ℕ) → HasEach world Full f (count vs) 0 vs ds → Distinct ds → Strange ds t.blocks → ClearOf ds os →
      Sure (fresh_sequence f vs) (HandsOut (elements f) os ds t.blocks world) world
  makes_sequence f vs ds each d far clear = sequence_comes t f vs ds (count vs * size f) each d far clear

  -- of so many blank elements
  pub makes_blanks : (f : Form) → HasBlocksAlone f → (n : ℕ) →
      Sure (fresh n (n * size f) (Elements (repeated n (blank f)))) (HandsOut (elements f) os [] t.blocks world) world
  makes_blanks f simple n =
      subst (λ m. Sure (fresh m (n * size f) (Elements (repeated n (blank f)))) (HandsOut (elements f) os [] t.blocks world) world)
      (count_repeated world Full n (blank f))
      (sequence_comes t f (repeated n (blank f)) [] (n * size f)
      (subst (λ m. HasEach world Full f m 0 (repeated n (blank f)) []) (sym (count_repeated world Full n (blank f)))
      (each_repeated world Full n (blank f) (blank_has world Full f simple)))
      tt (λ k m q. elim m [ ]) (none_clear os))

  pub new_sequence : (f : Form) → HasBlocksAlone f → (z : ℤ) →
      Sure (counted z (λ n. fresh n (n * size f) (Elements (repeated n (blank f))))) (HandsOut (elements f) os [] t.blocks world) world
  new_sequence f simple z =
      counted_sure z (λ n. fresh n (n * size f) (Elements (repeated n (blank f)))) (HandsOut (elements f) os [] t.blocks world) world
      (makes_blanks f simple)

  -- an element comes
  pub adds_element : {f : Form} {x : Value} {l : Location} → Chain os world (record { form = elements f; at = l }) → (under : UnderWay f x os t.blocks world) →
      Sure (added f x l >> give nothing) (Done under.given) world
  adds_element {f} {x} {l} c under =
      sure_then (added f x l) (λ u. give nothing) (λ u after. Moves os under.given t.blocks world after) (Done under.given) world (adds_to t c under)
      (λ u after m. m)

  -- the last one goes, where there is one
  pub pops_element : {f : Form} {l : Location} → Chain os world (record { form = elements f; at = l }) →
      Sure (shortened f (length_of (load world l)) l world) (HandsOut f os [] t.blocks world) world
  pops_element {f} {l} c =
      let own = chain_owns t c in
      by (length_of (load world l)) (ap length_of (sym own.cell.is ∙ sym (loaded world l own.stands_in own.cell.at.base)))
    where
      by : (n : ℕ) → length_of (chain_owns t c).value ≡ n → Sure (shortened f n l world) (HandsOut f os [] t.blocks world) world
      by zero e = tt
      by (suc n) e = pops_from t n c e

  -- ---- texts

  pub appends_text : (more : List ℕ) {l : Location} → Chain os world (record { form = block; at = l }) → Sure (appended more l >> give nothing) (Done []) world
  appends_text more {l} c =
      sure_then (appended more l) (λ u. give nothing) (λ u after. Moves os [] t.blocks world after) (Done []) world (appends_to t more c) (λ u after m. m)

  -- ---- lengths

  pub text_length : (n : ℕ) {l : Location} → Chain os world (record { form = block; at = l }) → Sure (length_to block n l) (Done []) world
  text_length n {l} c =
      let own = chain_owns t c in
      let d = hooked_cell refl own.cell in
      let deed = costs (n - length_of (load world l)) (resized n n (Characters (text_to n (text_of world (load world l)))) l) in
      sure_then deed (λ u. give nothing) (λ u after. Moves os [] t.blocks world after) (Done []) world
      (turns_in_place t c deed (text_gets_length n l own.stands_in own.value own.mine world d.at d.is d.has d.apart))
      (λ u after m. m)

  pub sequence_length : {f : Form} → HasBlocksAlone f → (n : ℕ) {l : Location} → Chain os world (record { form = elements f; at = l }) →
      Sure (length_to (elements f) n l) (Done []) world
  sequence_length {f} simple n {l} c =
      sure_then (sequence_to f n l world) (λ u. give nothing) (λ u after. Moves os [] t.blocks world after) (Done []) world (sets_length t simple n c)
      (λ u after m. m)

  -- ---- assignment

  -- what is led to is no constant
  pub sure_assigns : {f : Form} {l : Location} → Chain os world (record { form = f; at = l }) → (deed : Deed Value) (P : Value → World → Type 0) →
      Sure deed P world → Sure (unless_gone (may_change l.base) deed) P world
  sure_assigns c deed P h = sure_changing deed P (chain_owns t c).cell.at h

  pub assigns_value : {f : Form} {x : Value} {l : Location} → Chain os world (record { form = f; at = l }) → (under : UnderWay f x os t.blocks world) →
      Sure (assigns f l (Given x)) (Done under.given) world
  assigns_value {f} {x} {l} c under =
      sure_then (assigned f l (Given x)) (λ u. give nothing) (λ u after. Moves os under.given t.blocks world after) (Done under.given) world
      (takes_value t c under) (λ u after m. m)

  -- a copy of what was found elsewhere, or of itself
  pub copied_to : {may : Bool} {root : ℕ} {steps : List Step} {f : Form} {to from : Location} → hooked f ≡ true →
      Chain os world (record { form = f; at = to }) → Found os world may root steps f from →
      Sure (assigned f to (Place from)) (λ u after. Moves os [] t.blocks world after) world
  copied_to is_hooked c (in_cell b goes) = copies_over t c b
  copied_to is_hooked c (to_be_read made source h) = constant_over t c is_hooked made source h

  pub assigns_copy : {may : Bool} {root : ℕ} {steps : List Step} {f : Form} {to from : Location} → hooked f ≡ true →
      Chain os world (record { form = f; at = to }) →
      Found os world may root steps f from → Sure (assigns f to (Place from)) (Done []) world
  assigns_copy {f = f} {to = to} {from = from} is_hooked c found =
      sure_then (assigned f to (Place from)) (λ u. give nothing) (λ u after. Moves os [] t.blocks world after) (Done []) world (copied_to is_hooked c found)
      (λ u after m. m)

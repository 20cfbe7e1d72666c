-- What the table keeps stays right with one more entry.
use Rattle.std.proofs.Common.{◌≡◌, ℕ, zero, suc, ◌<◌, ◌≤◌, ◌^◌, ◌-◌, List, [], ◌∷◌, ◌++◌, length, refl, sym, ap, ◌∙◌, Some, None, subst, arith, ⊎_elim, ◌⊎◌}
use Rattle.std.proofs.Common.{inl, inr, length-append}
use Rattle.std.specs.Prelude.{Bool, true, false, Option, slice_get, slice_set, nat_eq, cond}
use Rattle.std.specs.Option.{option_flatten}
use Rattle.std.proofs.lemmas.Option.{none-some, same_Some, slice_get_within}
use Rattle.std.proofs.lemmas.Bool.{both_ways, cases_eq}
use Rattle.arc_base.specs.declared.place.Place.{Place}
use Rattle.nim_types.specs.declared.types.TypeDef.{TypeDef}
use Rattle.nim_types.specs.declared.types.TypeDef.TheVariants as D
use Rattle.nim_types.specs.declared.slot.TheConstants.{SLOTS}
use Rattle.nim_types.specs.declared.storage.Storage.{Storage}
use Rattle.nim_types.specs.Types.{Ty}
use Rattle.nim_types.specs.Forms.{Form, IsForm}
use Rattle.nim_types.proofs.Forming.{by_all_said}
use Rattle.nim_types.specs.Table.{facts_in, type_at, types_in, meant, AllBelow, IsWithin, parts_of, IsTable, MayAdd, Adds, Grows}
use Rattle.nim_types.specs.Kept.{at_number, same_def, is_one, is_at, slot, mixed, mixed_all, mixed_texts, mixed_place, Reach, here, before, Chained}
use Rattle.nim_types.specs.Kept.{then_storage, plus, times, closed, stored_as, sum_in, parts_in, storage_in, is_due, Settled, Waits, WaitsWith, IsKept}
use Rattle.nim_types.proofs.Slots.{from_none, is_at_some}
use Rattle.nim_types.proofs.Settling.{set_same, set_other}
use Rattle.nim_types.proofs.Numbering.{count, at_entry, entry_within, entry_inside, an_entry, get_either, within_more, all_more, equal_entry, equal_meant}
use Rattle.nim_types.proofs.Numbering.{table_append, grows_append}

-- ---- slots are below their number

mixed_below : (n k : ℕ) → mixed n k < SLOTS
mixed_below n k = omega arith

mixed_all_below : (n : ℕ) (ks : List ℕ) → n < SLOTS → mixed_all n ks < SLOTS
mixed_all_below n [] h = h
mixed_all_below n (k ∷ ks) h = mixed_all_below (mixed n k) ks (mixed_below n k)

mixed_texts_below : (n : ℕ) (ts : List (List ℕ)) → n < SLOTS → mixed_texts n ts < SLOTS
mixed_texts_below n [] h = h
mixed_texts_below n (t ∷ ts) h = mixed_texts_below (mixed_all n t) ts (mixed_all_below n t h)

mixed_place_below : (n : ℕ) (at : Place) → mixed_place n at < SLOTS
mixed_place_below n at = mixed_below (mixed (mixed n at.module) at.line) at.column

pub slot_below : (d : TypeDef) → slot d < SLOTS
slot_below D.Int = omega arith
slot_below D.Bool = omega arith
slot_below D.Char = omega arith
slot_below D.Text = omega arith
slot_below (D.Seq i) = mixed_below 4 i
slot_below (D.Param n) = mixed_below 5 n
slot_below (D.Enum name at all) = mixed_place_below 6 at
slot_below (D.Array n i) = mixed_below (mixed 7 n) i
slot_below (D.Tuple names is) = mixed_all_below (mixed_texts 8 names) is (mixed_texts_below 8 names (omega arith))
slot_below (D.Object name at is all b parts) = mixed_all_below (mixed_place 9 at) is (mixed_place_below 9 at)
slot_below (D.Distinct name at i) = mixed_place_below 10 at
slot_below (D.Ref name i) = mixed_below 11 i
slot_below (D.Exception name at parent) = mixed_place_below 12 at

-- ---- lists of what may be missing, with one more

pub at_front : {X : Type 0} (xs ys : List (Option X)) (i : ℕ) (x : X) → at_number xs i ≡ Some x → at_number (xs ++ ys) i ≡ Some x
at_front [] ys i x h = absurd (none-some x h)
at_front (z ∷ xs) ys zero x h = h
at_front (z ∷ xs) ys (suc i) x h = at_front xs ys i x h

pub at_inside : {X : Type 0} (xs ys : List (Option X)) (i : ℕ) → i < length xs → at_number (xs ++ ys) i ≡ at_number xs i
at_inside [] ys i h = absurd (omega (arith, h))
at_inside (z ∷ xs) ys zero h = refl
at_inside (z ∷ xs) ys (suc i) h = at_inside xs ys i (omega (arith, h))

pub at_last : {X : Type 0} (xs : List (Option X)) (x : Option X) → at_number (xs ++ x ∷ []) (length xs) ≡ x
at_last [] x = refl
at_last (z ∷ xs) x = at_last xs x

at_either : {X : Type 0} (xs : List (Option X)) (x : Option X) (y : X) (i : ℕ) → at_number (xs ++ x ∷ []) i ≡ Some y →
    (at_number xs i ≡ Some y) ⊎ ((i ≡ length xs) × (x ≡ Some y))
at_either [] x y zero h = inr (refl, h)
at_either [] x y (suc i) h = absurd (none-some y h)
at_either (z ∷ xs) x y zero h = inl h
at_either (z ∷ xs) x y (suc i) h = ⊎_elim (λ l. inl l) (λ r. inr (ap suc r.0, r.1)) (at_either xs x y i h)

-- ---- slots

reach_on : (nexts more : List (Option ℕ)) {i j : ℕ} (o : Option ℕ) → at_number nexts i ≡ o → Reach (nexts ++ more) o j → Reach (nexts ++ more) (Some i) j
reach_on nexts more None e r = absurd (from_none r)
reach_on nexts more {i} {j} (Some k) e r = before (subst (λ (z : Option ℕ). Reach (nexts ++ more) z j) (sym (at_front nexts more i k e)) r)

reach_more : {nexts : List (Option ℕ)} {o : Option ℕ} {j : ℕ} (more : List (Option ℕ)) → Reach nexts o j → Reach (nexts ++ more) o j
reach_more more here = here
reach_more {nexts} more (before {i} r) = reach_on nexts more (at_number nexts i) refl (reach_more more r)

-- other slots, or more of them, with the same heads
pub chained_heads : (ds : List TypeDef) (heads wide nexts : List (Option ℕ)) → ((h : ℕ) → at_number wide h ≡ at_number heads h) → Chained ds heads nexts →
    Chained ds wide nexts
chained_heads ds heads wide nexts same c = record {
  beside = c.beside;
  heads_within = λ h i e. c.heads_within h i (sym (same h) ∙ e);
  falls = c.falls;
  all = λ j d e. subst (λ (z : Option ℕ). Reach nexts z j) (sym (same (slot d))) (c.all j d e);
}

head_set : (heads : List (Option ℕ)) (h n : ℕ) → h < length heads → at_number (slice_set heads h (Some n)) h ≡ Some n
head_set heads h n lt = ap option_flatten (set_same heads h (Some n) lt)

head_kept : (heads : List (Option ℕ)) (h g n : ℕ) → (h ≡ g → ⊥) → at_number (slice_set heads h (Some n)) g ≡ at_number heads g
head_kept heads h g n ne = ap option_flatten (set_other heads h g (Some n) ne)

chained_append : (ds : List TypeDef) (heads nexts : List (Option ℕ)) (d : TypeDef) → Chained ds heads nexts → slot d < length heads
    → Chained (ds ++ d ∷ []) (slice_set heads (slot d) (Some (length nexts))) (nexts ++ at_number heads (slot d) ∷ [])
chained_append ds heads nexts d c lt =
    let h = slot d in
    let n = length nexts in
    let heads' = slice_set heads h (Some n) in
    let nexts' = nexts ++ at_number heads h ∷ [] in
    let longer : length (ds ++ d ∷ []) ≡ suc (length ds) = omega (arith, length-append ds (d ∷ [])) in
    record {
      beside = omega (arith, longer, length-append nexts (at_number heads h ∷ []), c.beside);
      heads_within = λ g i e. ⊎_elim
          (λ eq. let is : n ≡ i = same_Some n i (sym (head_set heads h n lt) ∙ ap (at_number heads') eq ∙ e) in omega (arith, is, c.beside, longer))
          (λ ne. omega (arith, longer, c.heads_within g i (sym (head_kept heads h g n ne) ∙ e)))
          (cases_eq h g);
      falls = λ j i e. ⊎_elim
          (λ l. c.falls j i l)
          (λ r. omega (arith, r.0, c.beside, c.heads_within h i r.1))
          (at_either nexts (at_number heads h) i j e);
      all = λ j x e. ⊎_elim
          (λ l. let old = reach_more (at_number heads h ∷ []) (c.all j x l) in
          ⊎_elim
          (λ eq. let first : at_number nexts' n ≡ at_number heads (slot x) = at_last nexts (at_number heads h) ∙ ap (at_number heads) eq in
          let on : Reach nexts' (Some n) j = before (subst (λ (z : Option ℕ). Reach nexts' z j) (sym first) old) in
          subst (λ (z : Option ℕ). Reach nexts' z j) (sym (ap (at_number heads') (sym eq) ∙ head_set heads h n lt)) on)
          (λ ne. subst (λ (z : Option ℕ). Reach nexts' z j) (sym (head_kept heads h (slot x) n ne)) old)
          (cases_eq h (slot x)))
          (λ r. let is : at_number heads' (slot x) ≡ Some j = ap (λ z. at_number heads' (slot z)) (sym r.1) ∙ head_set heads h n lt ∙
          ap Some (c.beside ∙ sym r.0) in
          subst (λ (z : Option ℕ). Reach nexts' z j) (sym is) here)
          (get_either ds d x j e);
    }

-- ---- storage

then_each : (o : Option Storage) (f g : Storage → Option Storage) → ((s : Storage) → f s ≡ g s) → then_storage o f ≡ then_storage o g
then_each None f g h = refl
then_each (Some s) f g h = h s

sum_front : (known more : List (Option Storage)) (is : List ℕ) (sum : Storage) → AllBelow (length known) is →
    sum_in (known ++ more) sum is ≡ sum_in known sum is
sum_front known more [] sum h = refl
sum_front known more (i ∷ is) sum h =
    ap (λ z. then_storage z (λ s. sum_in (known ++ more) (plus sum s) is)) (at_inside known more i h.0)
    ∙ then_each (at_number known i) (λ s. sum_in (known ++ more) (plus sum s) is) (λ s. sum_in known (plus sum s) is)
    (λ s. sum_front known more is (plus sum s) h.1)

parts_front : (known more : List (Option Storage)) (b : Bool) (is : List ℕ) → AllBelow (length known) is → parts_in (known ++ more) b is ≡ parts_in known b is
parts_front known more b is h = ap (λ z. then_storage z (λ s. Some (closed b s))) (sum_front known more is (stored_as 0 false) h)

pub storage_front : (known more : List (Option Storage)) (d : TypeDef) → IsWithin (length known) d → AllBelow (length known) (parts_of d)
    → storage_in (known ++ more) d ≡ storage_in known d
storage_front known more D.Int w p = refl
storage_front known more D.Bool w p = refl
storage_front known more D.Char w p = refl
storage_front known more D.Text w p = refl
storage_front known more (D.Seq i) w p = refl
storage_front known more (D.Param n) w p = refl
storage_front known more (D.Enum name at all) w p = refl
storage_front known more (D.Array n i) w p = ap (λ z. then_storage z (λ s. Some (times n s))) (at_inside known more i w)
storage_front known more (D.Tuple names is) w p = parts_front known more false is w
storage_front known more (D.Object name at is all b parts) w p = ap (λ z. cond (nat_eq (length all) (length parts)) z None) (parts_front known more b parts p)
storage_front known more (D.Distinct name at i) w p = at_inside known more i w
storage_front known more (D.Ref name i) w p = refl
storage_front known more (D.Exception name at parent) w p = refl

settled_append : (ds : List TypeDef) (known : List (Option Storage)) (d : TypeDef) → IsTable ds → Settled ds known → MayAdd ds d
    → Settled (ds ++ d ∷ []) (known ++ storage_in known d ∷ [])
settled_append ds known d t s m =
    let new = storage_in known d in
    let n : length known ≡ length ds = s.beside in
    record {
      beside = omega (arith, n, length-append ds (d ∷ []), length-append known (new ∷ []));
      right = λ i x e. ⊎_elim
          (λ l. let lt : i < length known = omega (arith, n, slice_get_within ds i x l) in
          let w : IsWithin (length known) x = within_more i (length known) x (omega (arith, lt)) (entry_within ds i x t l) in
          let p : AllBelow (length known) (parts_of x) = all_more (length ds) (length known) (parts_of x) (omega (arith, n)) (t.parts i x l) in
          at_inside known (new ∷ []) i lt ∙ s.right i x l ∙ sym (storage_front known (new ∷ []) x w p))
          (λ r. let w : IsWithin (length known) d = within_more (length ds) (length known) d (omega (arith, n)) m.0 in
          let p : AllBelow (length known) (parts_of d) = subst (λ (is : List ℕ). AllBelow (length known) is) (sym m.1) tt in
          ap (at_number (known ++ new ∷ [])) (r.0 ∙ sym n) ∙ at_last known new ∙ sym (storage_front known (new ∷ []) d w p) ∙
          ap (storage_in (known ++ new ∷ [])) r.1)
          (get_either ds d x i e);
    }

waits_append : (ds : List TypeDef) (known : List (Option Storage)) (d : TypeDef) (s : Option Storage) (was now : Bool) → length known ≡ length ds →
    Waits was ds known
    → WaitsWith was s d now → Waits now (ds ++ d ∷ []) (known ++ s ∷ [])
waits_append ds known d s was now n w u off i x e none =
    let v = u off in
    ⊎_elim
    (λ l. w v.0 i x l (sym (at_inside known (s ∷ []) i (omega (arith, n, slice_get_within ds i x l))) ∙ none))
    (λ r. sym (ap is_due r.1) ∙ v.1 (sym (at_last known s) ∙ ap (at_number (known ++ s ∷ [])) (n ∙ sym r.0) ∙ none))
    (get_either ds d x i e)

-- ---- all of it

found_nowhere : (ds : List TypeDef) (d : TypeDef) → IsTable ds → IsWithin (length ds) d → ((id : ℕ) → is_at ds id d ≡ false)
    → (j : ℕ) → j < length ds → type_at (types_in ds) j ≡ meant (types_in ds) d → ⊥
found_nowhere ds d t w none j lt h =
    let r = an_entry ds j lt in
    let same : same_def r.0 d ≡ true = equal_entry (types_in ds) r.0 d t.one (entry_inside ds j r.0 t r.1)
    (within_more (length ds) (length (types_in ds)) d (omega (arith, count ds)) w) (sym (at_entry ds j r.0 t r.1) ∙ h) in
    both_ways (is_at ds j d) (none j) (ap (λ z. is_one z d) r.1 ∙ same)

pub kept_append : (ds : List TypeDef) (heads wide nexts : List (Option ℕ)) (known : List (Option Storage)) (was now : Bool) (d : TypeDef)
    → IsKept ds heads nexts known was → MayAdd ds d → ((id : ℕ) → is_at ds id d ≡ false) → length ds < 2 ^ 32 - 1
    → ((h : ℕ) → at_number wide h ≡ at_number heads h) → SLOTS ≤ length wide → WaitsWith was (storage_in known d) d now
    → IsKept (ds ++ d ∷ []) (slice_set wide (slot d) (Some (length nexts))) (nexts ++ at_number wide (slot d) ∷ []) (known ++ storage_in known d ∷ []) now
kept_append ds heads wide nexts known was now d k m none small same slots w = record {
  table = table_append ds d k.table m.0 m.1 (found_nowhere ds d k.table m.0 none) small;
  chained = chained_append ds wide nexts d (chained_heads ds heads wide nexts same k.chained) (omega (arith, slots, slot_below d));
  settled = settled_append ds known d k.table k.settled m;
  waits = waits_append ds known d (storage_in known d) was now k.settled.beside k.waits w;
}

-- ---- what is said of adding

pub keeps : (ds : List TypeDef) (d : TypeDef) (id : ℕ) → IsTable ds → is_at ds id d ≡ true → Adds ds d id ds
keeps ds d id t h =
    let r = is_at_some (slice_get ds id) d h in
    inl (record {
      same = refl;
      within = slice_get_within ds id r.0 r.1;
      equal = at_entry ds id r.0 t r.1 ∙ equal_meant (types_in ds) r.0 d r.2;
    })

pub appends : (ds : List TypeDef) (d : TypeDef) → IsTable ds → IsWithin (length ds) d → ((id : ℕ) → is_at ds id d ≡ false) →
    Adds ds d (length ds) (ds ++ d ∷ [])
appends ds d t w none = inr (record { more = refl; next = refl; other = found_nowhere ds d t w none })

-- the same where the parts were computed apart
pub kept_by : (ds heads wide : _) (nexts : List (Option ℕ)) (known : List (Option Storage)) (was now : Bool) (d : TypeDef) (storage : Option Storage)
    (number : ℕ)
    (ds' : List TypeDef) (heads' nexts' : List (Option ℕ)) (known' : List (Option Storage))
    → IsKept ds heads nexts known was → MayAdd ds d → ((id : ℕ) → is_at ds id d ≡ false) → length ds < 2 ^ 32 - 1
    → ((h : ℕ) → at_number wide h ≡ at_number heads h) → SLOTS ≤ length wide → WaitsWith was storage d now
    → storage ≡ storage_in known d → number ≡ slot d → ds' ≡ ds ++ d ∷ [] → heads' ≡ slice_set wide number (Some (length nexts))
    → nexts' ≡ nexts ++ at_number wide number ∷ [] → known' ≡ known ++ storage ∷ [] → IsKept ds' heads' nexts' known' now
kept_by ds heads wide nexts known was now d storage number ds' heads' nexts' known' k m none small same slots w es en e1 e2 e3 e4 =
    let all = kept_append ds heads wide nexts known was now d k m none small same slots (subst (λ (s : Option Storage). WaitsWith was s d now) es w) in
    let a : ds ++ d ∷ [] ≡ ds' = sym e1 in
    let b : slice_set wide (slot d) (Some (length nexts)) ≡ heads' = sym (e2 ∙ ap (λ z. slice_set wide z (Some (length nexts))) en) in
    let x : nexts ++ at_number wide (slot d) ∷ [] ≡ nexts' = sym (e3 ∙ ap (λ z. nexts ++ at_number wide z ∷ []) en) in
    let y : known ++ storage_in known d ∷ [] ≡ known' = sym (e4 ∙ ap (λ z. known ++ z ∷ []) es) in
    subst (λ (z : List TypeDef). IsKept z heads' nexts' known' now) a
    (subst (λ (z : List (Option ℕ)). IsKept (ds ++ d ∷ []) z nexts' known' now) b
    (subst (λ (z : List (Option ℕ)). IsKept (ds ++ d ∷ []) (slice_set wide (slot d) (Some (length nexts))) z known' now) x
    (subst (λ (z : List (Option Storage)).
    IsKept (ds ++ d ∷ []) (slice_set wide (slot d) (Some (length nexts))) (nexts ++ at_number wide (slot d) ∷ []) z now) y all)))

pub adds_by : (ds old new : List TypeDef) (d : TypeDef) (n : ℕ) → ds ≡ old → n ≡ length ds → new ≡ ds ++ d ∷ [] → Adds ds d (length ds) (ds ++ d ∷ []) →
    Adds old d n new
adds_by ds old new d n a b e h =
    subst (λ (z : List TypeDef). Adds z d n new) a
    (subst (λ (m : ℕ). Adds ds d m new) (sym b) (subst (λ (z : List TypeDef). Adds ds d (length ds) z) (sym e) h))

pub grows_more : (ds old new : List TypeDef) (d : TypeDef) → ds ≡ old → new ≡ ds ++ d ∷ [] → IsTable ds → MayAdd ds d → ((id : ℕ) → is_at ds id d ≡ false)
    → length ds < 2 ^ 32 - 1 → Grows old new
grows_more ds old new d a e t m none small =
    let all = grows_append ds d t (table_append ds d t m.0 m.1 (found_nowhere ds d t m.0 none) small) in
    subst (λ (z : List TypeDef). Grows z new) a (subst (λ (z : List TypeDef). Grows ds z) (sym e) all)

pub form_grown : {w : Bool} {ty : Ty} {f : Form} (old new : List TypeDef) → Grows old new → IsForm w (facts_in old) ty f → IsForm w (facts_in new) ty f
form_grown old new g h = by_all_said (facts_in old) (facts_in new) g.facts h

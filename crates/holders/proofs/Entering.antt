-- A call begins with cells for what was handed over to it.
use Rattle.std.proofs.Common.{◌≡◌, sym, ap, subst, arith, ℕ, suc, ◌-◌, ◌≤◌, inl, inr, ◌⊎◌, List, [], ◌∷◌, ◌++◌, length, Some}
use Rattle.std.specs.Prelude.{slice_get}
use Rattle.nim_types.specs.Forms.{Form}
use Rattle.nim_meaning.specs.Values.{Value, Slot, Holds, Stands, Lends, Base, Standing, InBlock, at_base}
use Rattle.nim_meaning.specs.Marks.{Member}
use Rattle.nim_meaning.specs.State.{Frame, World, with_frame}
use Rattle.holders.specs.Owned.{IsBase, at_place, place_may, Apart}
use Rattle.holders.specs.Territory.{Owner, AllOwners, Territory, NoBaseOf}
use Rattle.holders.specs.Handing.{UnderWay}
use Rattle.holders.specs.Running.{IsBelow}
use Rattle.holders.specs.Entering.{Handed, nothing_more, a_value, a_name, own_cells, StandThere}
use Rattle.holders.proofs.BaseChanges.{get_last}
use Rattle.holders.proofs.Owning.{in_first, in_second, has_stays}
use Rattle.holders.proofs.Working.{all_both, all_so}
use Rattle.holders.proofs.Running.{HasCell, with_cell}
use Rattle.holders.proofs.Calling.{territory_kept}
use Rattle.holders.proofs.Ledger.{times_both}

-- what the cells of the call aren't: those of places before, and blocks
own_all : (P : Owner → Type 0) (level n : ℕ) (fs : List Form) (slots : List Slot) →
    ((f : Form) (m : ℕ) → n ≤ m → P (record { form = f; at = at_base (Standing level m) })) → AllOwners P (own_cells level n fs slots)
own_all P level n [] [] h = tt
own_all P level n [] (slot ∷ slots) h = tt
own_all P level n (f ∷ fs) [] h = tt
own_all P level n (f ∷ fs) (Holds x ∷ slots) h = (h f n (omega arith), own_all P level (suc n) fs slots (λ g m le. h g m (omega (arith, le))))
own_all P level n (f ∷ fs) (Stands l ∷ slots) h = own_all P level (suc n) fs slots (λ g m le. h g m (omega (arith, le)))
own_all P level n (f ∷ fs) (Lends v from seen ∷ slots) h = own_all P level (suc n) fs slots (λ g m le. h g m (omega (arith, le)))

no_block : (level n k : ℕ) → Standing level n ≡ InBlock k → ⊥
no_block level n k e = subst is_place e tt
  where
    is_place : Base → Type 0
    is_place (Standing l m) = Unit {0}
    is_place b = ⊥

place_number : (level m n : ℕ) → Standing level n ≡ Standing level m → n ≡ m
place_number level m n e = ap number_of_place e
  where
    number_of_place : Base → ℕ
    number_of_place (Standing l m) = m
    number_of_place b = 0

module _ {os : List Owner} {world after : World} (t : Territory os world) (kept : (b : Base) (x : Value) → IsBase world b x → IsBase after b x) (level : ℕ)
    (below : AllOwners (λ o. IsBelow level o.at.base) os) where
  pub enters : {fs : List Form} {slots : List Slot} {given : List ℕ} (n : ℕ) → Handed os t.blocks world fs slots given → StandThere after level n slots →
      HasCell (own_cells level n fs slots ++ os) given t.blocks after
  enters n nothing_more there = record { territory = territory_kept kept t; from = λ k m. inr m; sum = λ k. omega arith }
  enters n (a_name h) there = enters (suc n) h there
  enters n (a_value {f = f} {fs = fs} {x = x} {slots = slots} {given = given} u h apart) there =
      more (enters (suc n) h there.1)
    where
      off : NoBaseOf (Standing level n) (own_cells level (suc n) fs slots ++ os)
      off = all_both (λ o. Standing level n ≡ o.at.base → ⊥) (own_cells level (suc n) fs slots) os
          (own_all (λ o. Standing level n ≡ o.at.base → ⊥) level (suc n) fs slots (λ g m le e. later m le (place_number level m n e)))
          (all_so (λ o. IsBelow level o.at.base) (λ o. Standing level n ≡ o.at.base → ⊥) os
          (λ o less e. not_below (subst (λ b. IsBelow level b) (sym e) less)) below)
        where
          later : (m : ℕ) → suc n ≤ m → n ≡ m → ⊥
          later m le e = omega (arith, le, e)

          not_below : IsBelow level (Standing level n) → ⊥
          not_below less = omega (arith, less)

      more : HasCell (own_cells level (suc n) fs slots ++ os) given t.blocks after →
          HasCell (record { form = f; at = at_base (Standing level n) } ∷ (own_cells level (suc n) fs slots ++ os)) (u.given ++ given) t.blocks after
      more r =
          let under : UnderWay f x (own_cells level (suc n) fs slots ++ os) r.territory.blocks after = record {
            given = u.given;
            has = has_stays world after (λ k y m is. kept (InBlock k) y is) u.has;
            distinct = u.distinct;
            strange = λ k m q. strange k m (r.from k q);
            clear = all_both (λ o. Apart o.at.base u.given) (own_cells level (suc n) fs slots) os
                (own_all (λ o. Apart o.at.base u.given) level (suc n) fs slots (λ g m le k e q. no_block level m k e)) u.clear;
          } in
          let c = with_cell r.territory (Standing level n) under there.0 place_may off (λ k e. no_block level n k e) in
          record {
            territory = c.territory;
            from = λ k m. where_from k (c.from k m) (λ q. r.from k q);
            sum = λ k. omega (arith, c.sum k, r.sum k, times_both k u.given given);
          }
        where
          strange : (k : ℕ) → Member k u.given → Member k given ⊎ Member k t.blocks → ⊥
          strange k m (inl q) = apart k m q
          strange k m (inr q) = u.strange k m q

          where_from : (k : ℕ) → Member k u.given ⊎ Member k r.territory.blocks → (Member k r.territory.blocks → Member k given ⊎ Member k t.blocks) →
              Member k (u.given ++ given) ⊎ Member k t.blocks
          where_from k (inl m) rest = inl (in_first k u.given given m)
          where_from k (inr m) rest = wide (rest m)
            where
              wide : Member k given ⊎ Member k t.blocks → Member k (u.given ++ given) ⊎ Member k t.blocks
              wide (inl q) = inl (in_second k u.given given q)
              wide (inr q) = inr q

-- ---- the frame

-- what a frame has at a place
pub frame_holds : (world : World) (frame : Frame) (n : ℕ) (x : Value) → frame.first ≤ n → slice_get frame.slots (n - frame.first) ≡ Some (Some (Holds x)) →
    IsBase (with_frame world frame) (Standing (length world.frames) n) x
frame_holds world frame n x le e = at_place frame (get_last world.frames frame) le e

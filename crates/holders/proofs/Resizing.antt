-- A text or a sequence gets other contents: in its block, or in another one, and then the present one is given back.
use Rattle.std.proofs.Common.{◌≡◌, refl, sym, ap, subst, ◌∙◌, arith, ℕ, zero, suc, ◌+◌, ◌<◌, ◌≤◌, inl, inr, ◌⊎◌, Bool, true, false, List, [], ◌∷◌}
use Rattle.std.proofs.Common.{Some, None}
use Rattle.nim_types.specs.Forms.{Form}
use Rattle.nim_meaning.specs.Values.{Value, Handle, part, put_part, Base, InBlock, Location}
use Rattle.nim_meaning.specs.Heap.{Contents, Block, flat, block_at}
use Rattle.nim_meaning.specs.Marks.{Member, Distinct}
use Rattle.nim_meaning.specs.State.{World, whole_at, store, object_in}
use Rattle.nim_meaning.specs.Acts.{branch}
use Rattle.nim_meaning.specs.Deeds.{Refills, with_block, changed, freed, sets, frees, refills, ◌>>◌, ◌>>=◌}
use Rattle.nim_meaning.specs.Lifted.{fresh, has_place}
use Rattle.holders.specs.Holders.{held_by, held_in_contents}
use Rattle.holders.specs.Owned.{IsBase, at_place, at_node, in_hand, in_row, in_text, in_program, At, Full, Has, Apart}
use Rattle.holders.specs.Sure.{Sure}
use Rattle.holders.specs.Becoming.{taken_in}
use Rattle.holders.specs.Becoming.{Turns, times}
use Rattle.holders.proofs.Staying.{stays_then, stored_stays, freed_stays, taken_stays, frames_same}
use Rattle.holders.proofs.HolderCounts.{taken_counts, freed_counts}
use Rattle.holders.proofs.Bases.{block_filled, block_elsewhere}
use Rattle.holders.proofs.BaseChanges.{get_last, taken_elsewhere, freed_elsewhere}
use Rattle.holders.proofs.Sure.{sure_then}
use Rattle.holders.proofs.Ledger.{same_there, filled_counts, stored_counts, stored_live, freed_live, taken_live}
use Rattle.holders.proofs.Owning.{Stay}
use Rattle.holders.proofs.Guards.{sure_sets, sure_frees, sure_refills}
use Rattle.holders.proofs.Ending.{Found, found_block, same_number}
use Rattle.holders.proofs.Copying.{base_below, fresh_then, stored_length}
use Rattle.holders.proofs.Sinking.{is_put, put_elsewhere}
use Rattle.holders.proofs.Growing.{changed_length, one_more_length, freed_length}
use Rattle.nim_meaning.specs.Kept.{one_if_same}

-- ---- a block gets other contents

module _ (world : World) (k : ℕ) (contents : Contents) where
  abbrev pub refilled_world : World
  refilled_world = changed (Refills k contents) world

  pub refilled_elsewhere : {other : Base} {x : Value} → IsBase world other x → (other ≡ InBlock k → ⊥) → IsBase refilled_world other x
  refilled_elsewhere (at_place frame e le f) d = at_place frame e le f
  refilled_elsewhere (at_node frame e f) d = at_node frame e f
  refilled_elsewhere (in_hand e) d = in_hand e
  refilled_elsewhere in_program d = in_program
  refilled_elsewhere (in_row {k = j} block e f) d = in_row block (block_elsewhere world k j contents (λ q. d (ap InBlock q)) ∙ e) f
  refilled_elsewhere (in_text {k = j} block e f) d = in_text block (block_elsewhere world k j contents (λ q. d (ap InBlock q)) ∙ e) f

one_or_more : (j k : ℕ) (cs : List ℕ) (P : Type 0) → Member j (k ∷ cs) → (j ≡ k → P) → (Member j cs → P) → P
one_or_more j k cs P (inl e) first more = first e
one_or_more j k cs P (inr m) first more = more m

-- what the new contents have, and where it comes from
pub record Filling (f : Form) (n : ℕ) (contents : Contents) (cs given old : List ℕ) (base : Base) (world : World) : Type 0 where
  pub stands : (after : World) (k : ℕ) (block : Block) → block_at after.heap k ≡ Some block → block.contents ≡ contents →
      IsBase after (InBlock k) (object_in contents)
  pub has : (after : World) (k : ℕ) → IsBase after (InBlock k) (object_in contents) → Stay world after cs → Has after Full f (Handle n (Some k)) (k ∷ cs)
  pub empty : n ≡ 0 → (after : World) → Has after Full f (Handle 0 None) []
  pub nothing_in : n ≡ 0 → (j : ℕ) → held_in_contents j contents ≡ 0
  pub none_in : n ≡ 0 → (j : ℕ) → times j cs ≡ 0
  pub from : (j : ℕ) → Member j cs → Member j old ⊎ Member j given
  pub distinct : Distinct cs
  pub below : (j : ℕ) → Member j cs → j < taken_in world
  pub apart : Apart base cs

module _ (f : Form) (l : Location) (w : Value) (n bytes : ℕ) (contents : Contents) (cs given old : List ℕ) (comes goes : ℕ → ℕ) (world : World)
    (at : At world l w) (c : Filling f n contents cs given old l.base world) (if_none : bytes ≡ 0 → n ≡ 0) (some : n ≡ 0 → bytes ≡ 0) where
  abbrev Q : Unit {0} → World → Type 0
  Q u after = Turns comes goes f l w given old world after

  came_from : (j : ℕ) → Member j cs → Member j old ⊎ (Member j given ⊎ (taken_in world ≤ j))
  came_from j m = by (c.from j m)
    where
      by : Member j old ⊎ Member j given → Member j old ⊎ (Member j given ⊎ (taken_in world ≤ j))
      by (inl q) = inl q
      by (inr q) = inr (inl q)

  -- ---- in a block that is taken

  module _ (class : ℕ) where
    abbrev taken_world : World
    taken_world = with_block class contents world

    abbrev new : ℕ
    new = taken_in world

    at_taken : At taken_world l w
    at_taken = record { base = taken_elsewhere world class contents at.base; part = at.part; may = at.may }

    abbrev held_world : World
    held_world = store taken_world l (Handle n (Some new))

    new_not_there : {b : Base} {y : Value} → IsBase world b y → b ≡ InBlock new → ⊥
    new_not_there {b} {y} h e = too_far (subst (λ b. IsBase world b y) e h)
      where
        too_far : IsBase world (InBlock (taken_in world)) y → ⊥
        too_far h = omega (arith, base_below h)

    new_stands : IsBase held_world (InBlock new) (object_in contents)
    new_stands =
        put_elsewhere l w taken_world at_taken (Handle n (Some new)) (InBlock new) (object_in contents)
        (c.stands taken_world new (record { class = class; contents = contents }) (ap flat (get_last world.heap.blocks _)) refl)
        (λ e. new_not_there at.base (sym e))

    held_elsewhere : (b : Base) (y : Value) → IsBase world b y → (b ≡ l.base → ⊥) → IsBase held_world b y
    held_elsewhere b y h d =
        put_elsewhere l w taken_world at_taken (Handle n (Some new)) b y (taken_elsewhere world class contents h) d

    new_came : (j : ℕ) → Member j (new ∷ cs) → Member j old ⊎ (Member j given ⊎ (taken_in world ≤ j))
    new_came j m = one_or_more j new cs (Member j old ⊎ (Member j given ⊎ (taken_in world ≤ j))) m (λ e. inr (inr (omega (arith, e)))) (came_from j)

    new_distinct : Distinct (new ∷ cs)
    new_distinct = (λ m. too_far (c.below new m), c.distinct)
      where
        too_far : taken_in world < taken_in world → ⊥
        too_far less = omega (arith, less)

  -- ---- of what has no block yet

  module _ (e : part w l.path ≡ Handle 0 None) (balance : (j : ℕ) → held_in_contents j contents + goes j ≡ comes j)
      (in_all : (j : ℕ) → times j cs ≡ times j given + times j old) where
    still_empty : n ≡ 0 → Sure (sets l (Handle n None)) Q world
    still_empty zero_is =
        sure_sets (Handle n None) Q at (
          record {
            now = Handle n None;
            blocks = [];
            has = subst (λ m. Has (store world l (Handle n None)) Full f (Handle m None) []) (sym zero_is) (c.empty zero_is (store world l (Handle n None)));
            distinct = tt;
            came = λ k m. elim m [ ];
            grows = omega (arith, stored_length world l.base (put_part (whole_at world l.base) l.path (Handle n None)));
            loses = λ j. omega (
              arith,
              in_all j,
              c.none_in zero_is j,
              stored_live world j l.base (put_part (whole_at world l.base) l.path (Handle n None)),
            );
            is = is_put l w world at (Handle n None);
            elsewhere = λ b y h d far. put_elsewhere l w world at (Handle n None) b y h d;
            stays = stored_stays world (put_part (whole_at world l.base) l.path (Handle n None)) at.base;
          },
          λ others h j. omega (
            arith,
            h j,
            balance j,
            c.nothing_in zero_is j,
            ap (held_by j) e,
            stored_counts world j l (Handle n None) at.base at.part at.may,
            stored_live world j l.base (put_part (whole_at world l.base) l.path (Handle n None)),
          ),
        )

    taken_turns : (class : ℕ) → Turns comes goes f l w given old world (held_world class)
    taken_turns class = (
      record {
        now = Handle n (Some (new class));
        blocks = new class ∷ cs;
        has = c.has (held_world class) (new class) (new_stands class)
            (λ j y m h. held_elsewhere class (InBlock j) y h (λ q. c.apart j (sym q) m));
        distinct = new_distinct class;
        came = new_came class;
        grows = omega (
          arith,
          stored_length (taken_world class) l.base (put_part (whole_at (taken_world class) l.base) l.path (Handle n (Some (new class)))),
          one_more_length world.heap.blocks (Some (record { class = class; contents = contents })),
        );
        loses = λ j. omega (
          arith,
          in_all j,
          stored_live (taken_world class) j l.base (put_part (whole_at (taken_world class) l.base) l.path (Handle n (Some (new class)))),
          taken_live world j class contents,
        );
        is = is_put l w (taken_world class) (at_taken class) (Handle n (Some (new class)));
        elsewhere = λ b y h d far. held_elsewhere class b y h d;
        stays = stays_then (taken_stays world class contents)
            (stored_stays (taken_world class) (put_part (whole_at (taken_world class) l.base) l.path (Handle n (Some (new class)))) (at_taken class).base);
      },
      λ others h j. omega (
        arith,
        h j,
        balance j,
        ap (held_by j) e,
        taken_counts j class contents world,
        stored_counts (taken_world class) j l (Handle n (Some (new class))) (at_taken class).base (at_taken class).part (at_taken class).may,
        stored_live (taken_world class) j l.base (put_part (whole_at (taken_world class) l.base) l.path (Handle n (Some (new class)))),
        taken_live world j class contents,
      ),
    )

    fresh_resized : (bytes ≡ 0 → ⊥) → Sure (fresh n bytes contents >>= (λ x. sets l x >> frees None)) Q world
    fresh_resized more =
        fresh_then n bytes contents (λ x. sets l x >> frees None) Q world (λ z. absurd (more (some z)))
        (λ class.
        sure_then (sets l (Handle n (Some (new class)))) (λ u. frees None) Q Q (taken_world class)
        (sure_sets (Handle n (Some (new class))) Q (at_taken class) (taken_turns class)) (λ u after h. h))

    pub resizes_empty : Sure (branch (has_place world None bytes) (refills None contents >> sets l (Handle n None))
        (fresh n bytes contents >>= (λ x. sets l x >> frees None))) Q world
    resizes_empty = by bytes refl
      where
        not_zero : (m : ℕ) → bytes ≡ suc m → bytes ≡ 0 → ⊥
        not_zero m e z = omega (arith, e, z)

        by : (m : ℕ) → bytes ≡ m → Sure (branch (has_place world None m) (refills None contents >> sets l (Handle n None))
            (fresh n bytes contents >>= (λ x. sets l x >> frees None))) Q world
        by zero z = still_empty (if_none z)
        by (suc m) z = fresh_resized (not_zero m z)

  -- ---- of what has one

  module _ (m k : ℕ) (e : part w l.path ≡ Handle m (Some k)) (y0 : Value) (there : IsBase world (InBlock k) y0) (in_old : Member k old)
      (not_in : Member k cs → ⊥) (apart : l.base ≡ InBlock k → ⊥)
      (balance : (j : ℕ) → held_in_contents j contents + goes j ≡ held_by j y0 + comes j)
      (in_all : (j : ℕ) → one_if_same k j + times j cs ≡ times j given + times j old) where
    abbrev it : Found world k y0
    it = found_block there

    at_refilled : At (refilled_world world k contents) l w
    at_refilled = record { base = refilled_elsewhere world k contents at.base apart; part = at.part; may = at.may }

    abbrev kept_world : World
    kept_world = store (refilled_world world k contents) l (Handle n (Some k))

    kept_elsewhere : (b : Base) (y : Value) → IsBase world b y → (b ≡ l.base → ⊥) → (b ≡ InBlock k → ⊥) → IsBase kept_world b y
    kept_elsewhere b y h d q =
        put_elsewhere l w (refilled_world world k contents) at_refilled (Handle n (Some k)) b y (refilled_elsewhere world k contents h q) d

    k_came : (j : ℕ) → Member j (k ∷ cs) → Member j old ⊎ (Member j given ⊎ (taken_in world ≤ j))
    k_came j q = one_or_more j k cs (Member j old ⊎ (Member j given ⊎ (taken_in world ≤ j))) q (λ z. inl (subst (λ i. Member i old) (sym z) in_old))
        (came_from j)

    kept_turns : Turns comes goes f l w given old world kept_world
    kept_turns = (
      record {
        now = Handle n (Some k);
        blocks = k ∷ cs;
        has = c.has kept_world k
            (put_elsewhere l w (refilled_world world k contents) at_refilled (Handle n (Some k)) (InBlock k) (object_in contents)
            (c.stands (refilled_world world k contents) k (record it.found { contents = contents }) (block_filled world k it.found contents it.there) refl)
            (λ q. apart (sym q)))
            (λ j y q h. kept_elsewhere (InBlock j) y h (λ z. c.apart j (sym z) q) (λ z. not_in (subst (λ i. Member i cs) (same_number j k z) q)));
        distinct = (not_in, c.distinct);
        came = k_came;
        grows = omega (
          arith,
          stored_length (refilled_world world k contents) l.base (put_part (whole_at (refilled_world world k contents) l.base) l.path (Handle n (Some k))),
          changed_length (Refills k contents) world,
        );
        loses = λ j. omega (
          arith,
          in_all j,
          same_there j k world.heap.blocks contents,
          stored_live (refilled_world world k contents) j l.base (put_part (whole_at (refilled_world world k contents) l.base) l.path (Handle n (Some k))),
        );
        is = is_put l w (refilled_world world k contents) at_refilled (Handle n (Some k));
        elsewhere = λ b y h d far. kept_elsewhere b y h d (λ q. far k q in_old);
        stays = stays_then (record { hand = refl; frames = frames_same world.frames })
            (stored_stays (refilled_world world k contents) (put_part (whole_at (refilled_world world k contents) l.base) l.path (Handle n (Some k)))
            at_refilled.base);
      },
      λ others h j. omega (
        arith,
        h j,
        balance j,
        ap (held_by j) e,
        it.holds j,
        filled_counts world j k it.found contents it.there,
        same_there j k world.heap.blocks contents,
        stored_counts (refilled_world world k contents) j l (Handle n (Some k)) at_refilled.base at_refilled.part at_refilled.may,
        stored_live (refilled_world world k contents) j l.base (put_part (whole_at (refilled_world world k contents) l.base) l.path (Handle n (Some k))),
      ),
    )

    pub in_place : Sure (refills (Some k) contents >> sets l (Handle n (Some k))) Q world
    in_place =
        sure_then (refills (Some k) contents) (λ u. sets l (Handle n (Some k))) (λ u after. after ≡ refilled_world world k contents) Q world
        (sure_refills {x = y0} contents (λ u after. after ≡ refilled_world world k contents) there refl)
        (λ u after is. subst (λ y. Sure (sets l (Handle n (Some k))) Q y) (sym is) (sure_sets (Handle n (Some k)) Q at_refilled kept_turns))

    module _ (class : ℕ) where
      k_not_new : k ≡ new class → ⊥
      k_not_new q = omega (arith, q, base_below there)

      there_then : IsBase (held_world class) (InBlock k) y0
      there_then = held_elsewhere class (InBlock k) y0 there (λ q. apart (sym q))

      abbrev moved_world : World
      moved_world = freed (held_world class) k (block_at (held_world class).heap k)

      moved_stays : {b : Base} {y : Value} → IsBase (held_world class) b y → (b ≡ InBlock k → ⊥) → IsBase moved_world b y
      moved_stays h d = freed_elsewhere (held_world class) k h d (block_at (held_world class).heap k)

      moved_turns : Turns comes goes f l w given old world moved_world
      moved_turns =
          let found = found_block there_then in (
            record {
              now = Handle n (Some (new class));
              blocks = new class ∷ cs;
              has = c.has moved_world (new class) (moved_stays (new_stands class) (λ q. k_not_new (sym (same_number (new class) k q))))
                  (λ j y q h. moved_stays (held_elsewhere class (InBlock j) y h (λ z. c.apart j (sym z) q))
                  (λ z. not_in (subst (λ i. Member i cs) (same_number j k z) q)));
              distinct = new_distinct class;
              came = new_came class;
              grows = omega (
                arith,
                stored_length (taken_world class) l.base (put_part (whole_at (taken_world class) l.base) l.path (Handle n (Some (new class)))),
                one_more_length world.heap.blocks (Some (record { class = class; contents = contents })),
                freed_length (held_world class) k (block_at (held_world class).heap k),
              );
              loses = λ j. omega (
                arith,
                in_all j,
                stored_live (taken_world class) j l.base (put_part (whole_at (taken_world class) l.base) l.path (Handle n (Some (new class)))),
                taken_live world j class contents,
                freed_live (held_world class) j k found.found found.there,
              );
              is = moved_stays (is_put l w (taken_world class) (at_taken class) (Handle n (Some (new class)))) apart;
              elsewhere = λ b y h d far. moved_stays (held_elsewhere class b y h d) (λ q. far k q in_old);
              stays = stays_then (stays_then (taken_stays world class contents)
                  (stored_stays (taken_world class) (put_part (whole_at (taken_world class) l.base) l.path (Handle n (Some (new class))))
                  (at_taken class).base))
                  (freed_stays (held_world class) k (block_at (held_world class).heap k));
            },
            λ others h j. omega (
              arith,
              h j,
              balance j,
              ap (held_by j) e,
              found.holds j,
              taken_counts j class contents world,
              stored_counts (taken_world class) j l (Handle n (Some (new class))) (at_taken class).base (at_taken class).part (at_taken class).may,
              stored_live (taken_world class) j l.base (put_part (whole_at (taken_world class) l.base) l.path (Handle n (Some (new class)))),
              taken_live world j class contents,
              freed_counts j k (held_world class) found.found found.there,
              freed_live (held_world class) j k found.found found.there,
            ),
          )

    elsewhere_resized : (bytes ≡ 0 → ⊥) → Sure (fresh n bytes contents >>= (λ x. sets l x >> frees (Some k))) Q world
    elsewhere_resized more =
        fresh_then n bytes contents (λ x. sets l x >> frees (Some k)) Q world (λ z. absurd (more (some z)))
        (λ class.
        sure_then (sets l (Handle n (Some (new class)))) (λ u. frees (Some k)) (λ u after. after ≡ held_world class) Q (taken_world class)
        (sure_sets (Handle n (Some (new class))) (λ u after. after ≡ held_world class) (at_taken class) refl)
        (λ u after is. subst (λ y. Sure (frees (Some k)) Q y) (sym is) (sure_frees {x = y0} Q (there_then class) (moved_turns class))))

    pub resizes_full : Sure (branch (has_place world (Some k) bytes) (refills (Some k) contents >> sets l (Handle n (Some k)))
        (fresh n bytes contents >>= (λ x. sets l x >> frees (Some k)))) Q world
    resizes_full = by bytes refl
      where
        not_zero : (m : ℕ) → bytes ≡ suc m → bytes ≡ 0 → ⊥
        not_zero m e z = omega (arith, e, z)

        either : (b : Bool) → (bytes ≡ 0 → ⊥) → Sure (branch b (refills (Some k) contents >> sets l (Handle n (Some k)))
            (fresh n bytes contents >>= (λ x. sets l x >> frees (Some k)))) Q world
        either true more = in_place
        either false more = elsewhere_resized more

        by : (m : ℕ) → bytes ≡ m → Sure (branch (has_place world (Some k) m) (refills (Some k) contents >> sets l (Handle n (Some k)))
            (fresh n bytes contents >>= (λ x. sets l x >> frees (Some k)))) Q world
        by zero z = in_place
        by (suc m) z = either (has_place world (Some k) (suc m)) (not_zero m z)

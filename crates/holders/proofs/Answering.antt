-- Values that come to be: texts and sequences that are made; and those that trade places.
use Rattle.std.proofs.Common.{◌≡◌, refl, sym, subst, arith, ℕ, zero, suc, ◌<◌, ◌≤◌, inl, inr, ◌⊎◌, List, [], ◌∷◌, length, Some, None, true}
use Rattle.nim_types.specs.Forms.{Form, plain, block, elements}
use Rattle.nim_meaning.specs.Values.{Value, Handle, Number, Values, count, part, is_handle, Location, put_part}
use Rattle.nim_meaning.specs.Heap.{Contents, Characters, Elements, class_for}
use Rattle.nim_meaning.specs.Marks.{Member, Distinct}
use Rattle.nim_meaning.specs.State.{World, pushed, reading_on}
use Rattle.nim_meaning.specs.Deeds.{with_block, give, unless_gone, ◌>>◌}
use Rattle.nim_meaning.specs.Lifted.{fresh, fresh_text, in_hand, replaced, under_way}
use Rattle.nim_meaning.specs.OwnedRows.{each_appended, line_read, line_or_none, line_into, next_line, up_to_feed, appended}
use Rattle.nim_meaning.specs.Places.{exchanged, changes}
use Rattle.holders.specs.Holders.{held_by, held_in}
use Rattle.holders.specs.Owned.{IsBase, at_place, at_node, in_hand as under_way_is, in_row, in_text, in_program, At, Full, Has, a_number, no_text, a_text}
use Rattle.holders.specs.Owned.{no_sequence}
use Rattle.holders.specs.Owned.{a_sequence, HasEach, Apart}
use Rattle.holders.specs.Sure.{Sure}
use Rattle.holders.specs.Becoming.{taken_in, Gives, KeepsHolders, none}
use Rattle.holders.specs.Becoming.{Turns, times}
use Rattle.holders.proofs.Staying.{stays_same, taken_stays}
use Rattle.holders.proofs.HolderCounts.{taken_counts}
use Rattle.holders.proofs.BaseChanges.{taken_elsewhere, taken_text, taken_row}
use Rattle.holders.proofs.Sure.{sure_then, sure_weaker}
use Rattle.holders.proofs.Ledger.{taken_live, none_in_none}
use Rattle.holders.proofs.Owning.{each_stays}
use Rattle.holders.proofs.Guards.{sure_takes, sure_sees, sure_changes, read_at, lies_at}
use Rattle.holders.proofs.Copying.{each_below}
use Rattle.holders.proofs.Growing.{one_more_length}
use Rattle.holders.proofs.UnderWay.{at_hand, under_way_gives}
use Rattle.holders.proofs.PathLemmas.{part_of_put}
use Rattle.holders.proofs.Outward.{at_next}
use Rattle.holders.proofs.Assigning.{nothing_turns, turns_then, new_apart, after_made}
use Rattle.holders.proofs.TextRows.{appends}
use Rattle.holders.proofs.SequenceRows.{set_turns}
use Rattle.holders.proofs.ElementLists.{none_in}
use Rattle.nim_program.specs.Ints.{truth}

fresh_sure : (n m : ℕ) (contents : Contents) (P : Value → World → Type 0) (world : World) → (n ≡ 0 → P (Handle 0 None) world) →
    ((class : ℕ) → P (Handle n (Some (taken_in world))) (with_block class contents world)) → Sure (fresh n m contents) P world
fresh_sure zero m contents P world empty some = empty refl
fresh_sure (suc n) m contents P world empty some = some (class_for m world.heap.classes)

nothing_given : (f : Form) (x : Value) (given : List ℕ) (world : World) → Has world Full f x [] → ((k : ℕ) → times k given ≡ 0) →
    Gives f x given world world
nothing_given f x given world h none_in = record {
  blocks = [];
  has = h;
  distinct = tt;
  came = λ k m. elim m [ ];
  grows = omega arith;
  loses = λ k. omega (arith, none_in k);
  elsewhere = λ b y is. is;
  stays = stays_same world;
}

pub text_made : (t : List ℕ) (world : World) →
    Sure (fresh_text t) (λ x after. Gives block x [] world after × KeepsHolders none (λ k. held_by k x) world after) world
text_made t world =
    fresh_sure (length t) (length t) (Characters t) (λ x after. Gives block x [] world after × KeepsHolders none (λ k. held_by k x) world after) world
    (λ z. (nothing_given block (Handle 0 None) [] world no_text (λ k. refl), λ others is. is))
    (λ class. (
      record {
        blocks = taken_in world ∷ [];
        has = a_text refl (taken_text world class t);
        distinct = (λ m. elim m [ ], tt);
        came = λ k m. only k m;
        grows = omega (arith, one_more_length world.heap.blocks (Some (record { class = class; contents = Characters t })));
        loses = λ k. omega (arith, taken_live world k class (Characters t));
        elsewhere = λ b y is. taken_elsewhere world class (Characters t) is;
        stays = taken_stays world class (Characters t);
      },
      λ others is k. omega (arith, is k, taken_counts k class (Characters t) world, taken_live world k class (Characters t)),
    ))
  where
    only : (k : ℕ) → Member k (taken_in world ∷ []) → Member k [] ⊎ (taken_in world ≤ k)
    only k (inl e) = inr (omega (arith, e))
    only k (inr m) = elim m [ ]

pub sequence_made : (f : Form) (vs : Values) (ds : List ℕ) (n : ℕ) (world : World) → HasEach world Full f (count vs) 0 vs ds → Distinct ds →
    Sure (fresh (count vs) n (Elements vs))
    (λ x after. Gives (elements f) x ds world after × KeepsHolders (λ k. held_in k vs) (λ k. held_by k x) world after) world
sequence_made f vs ds n world each d =
    fresh_sure (count vs) n (Elements vs)
    (λ x after. Gives (elements f) x ds world after × KeepsHolders (λ k. held_in k vs) (λ k. held_by k x) world after) world
    (λ z. (nothing_given (elements f) (Handle 0 None) ds world no_sequence (none_in_none each z), λ others is k. omega (arith, is k, none_in k vs z)))
    (λ class.
    let after = with_block class (Elements vs) world in (
      record {
        blocks = taken_in world ∷ ds;
        has = a_sequence (taken_row world class vs) (each_stays world after (λ k y m is. taken_elsewhere world class (Elements vs) is) each);
        distinct = (λ m. too_far (each_below each (taken_in world) m), d);
        came = λ k m. of_new k m;
        grows = omega (arith, one_more_length world.heap.blocks (Some (record { class = class; contents = Elements vs })));
        loses = λ k. omega (arith, taken_live world k class (Elements vs));
        elsewhere = λ b y is. taken_elsewhere world class (Elements vs) is;
        stays = taken_stays world class (Elements vs);
      },
      λ others is k. omega (arith, is k, taken_counts k class (Elements vs) world, taken_live world k class (Elements vs)),
    ))
  where
    too_far : taken_in world < taken_in world → ⊥
    too_far less = omega (arith, less)

    of_new : (k : ℕ) → Member k (taken_in world ∷ ds) → Member k ds ⊎ (taken_in world ≤ k)
    of_new k (inl e) = inr (omega (arith, e))
    of_new k (inr m) = inl m

-- ---- a line of the input

reading_stays : {world : World} {b : _} {y : Value} (n : ℕ) → IsBase world b y → IsBase (reading_on world n) b y
reading_stays n (at_place frame e le f) = at_place frame e le f
reading_stays n (at_node frame e f) = at_node frame e f
reading_stays n (under_way_is e) = under_way_is e
reading_stays n (in_row there e f) = in_row there e f
reading_stays n (in_text there e f) = in_text there e f
reading_stays n in_program = in_program

appends_each : (cs : List ℕ) (l : Location) (w v : Value) (old : List ℕ) (world : World) → At world l w → part w l.path ≡ v → Has world Full block v old →
    Distinct old → Apart l.base old → Sure (each_appended cs l) (λ u after. Turns none none block l w [] old world after) world
appends_each [] l w v old world at e h d apart = nothing_turns block l w v old world at e h d
appends_each (c ∷ cs) l w v old world at e h d apart =
    sure_then (appended (c ∷ []) l) (λ u. each_appended cs l) (λ u after. Turns none none block l w [] old world after)
    (λ u after. Turns none none block l w [] old world after) world (appends (c ∷ []) l w v old world at e h apart)
    (λ u middle t.
    sure_weaker (each_appended cs l) (λ u last. Turns none none block l (put_part w l.path t.0.now) [] t.0.blocks middle last)
    (λ u last. Turns none none block l w [] old world last) middle
    (appends_each cs l (put_part w l.path t.0.now) t.0.now t.0.blocks middle (at_next at t.0)
    (part_of_put t.0.now at.part) t.0.has
    t.0.distinct (new_apart at t.0 apart))
    (λ u last z. turns_then at t.0 t.1 z))

pub line_made : (input : List ℕ) (world : World) →
    Sure (line_read input) (λ x after. Gives block x [] world after × KeepsHolders none (λ k. held_by k x) world after) world
line_made input world =
    let read = reading_on world (up_to_feed input) in
    sure_weaker (under_way (Handle 0 None) (each_appended (next_line input)))
    (λ x after. Gives block x [] read after × KeepsHolders (λ k. held_by k (Handle 0 None)) (λ k. held_by k x) read after)
    (λ x after. Gives block x [] world after × KeepsHolders none (λ k. held_by k x) world after) read
    (under_way_gives block (Handle 0 None) (each_appended (next_line input)) read
    (appends_each (next_line input) (in_hand read) (Handle 0 None) (Handle 0 None) [] (pushed read (Handle 0 None)) (at_hand read (Handle 0 None)) refl
    no_text tt
    (λ k q m. elim m [ ])))
    (λ x after t. (
      record {
        blocks = t.0.blocks;
        has = t.0.has;
        distinct = t.0.distinct;
        came = t.0.came;
        grows = t.0.grows;
        loses = λ k. omega (arith, t.0.loses k);
        elsewhere = λ b y is. t.0.elsewhere b y (reading_stays (up_to_feed input) is);
        stays = record { hand = t.0.stays.hand; frames = t.0.stays.frames };
      },
      λ others is. t.1 others is,
    ))

line_or_none_goes : (input : List ℕ) (l : Location) (w v : Value) (old : List ℕ) (world : World) → At world l w → part w l.path ≡ v →
    Has world Full block v old → Distinct old → Apart l.base old →
    Sure (line_or_none l input) (λ x after. Has after Full plain x [] × Turns none none block l w [] old world after) world
line_or_none_goes [] l w v old world at e h d apart = (a_number, nothing_turns block l w v old world at e h d)
line_or_none_goes (c ∷ cs) l w v old world at e h d apart =
    sure_then (line_read (c ∷ cs)) (λ x. replaced block l x >> give (Number (truth true)))
    (λ x after. Gives block x [] world after × KeepsHolders none (λ k. held_by k x) world after)
    (λ x after. Has after Full plain x [] × Turns none none block l w [] old world after) world (line_made (c ∷ cs) world)
    (λ x middle m.
    sure_then (replaced block l x) (λ u. give (Number (truth true)))
    (λ u after. Turns none none block l w [] old world after) (λ x after. Has after Full plain x [] × Turns none none block l w [] old world after) middle
    (after_made block x l w v old world middle at e h d apart m)
    (λ u after t. (a_number, t)))

text_handle : {world : World} {v : Value} {bs : List ℕ} → Has world Full block v bs → is_handle v ≡ true
text_handle no_text = refl
text_handle (a_text same b) = refl

pub line_goes_into : (input : List ℕ) (l : Location) (w v : Value) (old : List ℕ) (world : World) → At world l w → part w l.path ≡ v →
    Has world Full block v old → Distinct old → Apart l.base old →
    Sure (line_into l input) (λ x after. Has after Full plain x [] × Turns none none block l w [] old world after) world
line_goes_into input l w v old world at e h d apart =
    let Q : Value → World → Type 0 = λ x after. Has after Full plain x [] × Turns none none block l w [] old world after in
    sure_sees (λ world x. unless_gone (is_handle x) (line_or_none l input)) Q at e tt h
    (subst (λ b. Sure (unless_gone b (line_or_none l input)) Q world) (sym (text_handle h)) (line_or_none_goes input l w v old world at e h d apart))

-- ---- a value is taken, and another one put in its place

pub exchanges : (f : Form) (l : Location) (w v x : Value) (old new : List ℕ) (world : World) → At world l w → part w l.path ≡ v → Has world Full f v old →
    Has world Full f x new → Distinct new → Apart l.base new →
    Sure (exchanged l x) (λ y after. (y ≡ v) × Turns (λ k. held_by k x) (λ k. held_by k v) f l w new [] world after) world
exchanges f l w v x old new world at e h0 h d apart =
    let Q : Value → World → Type 0 = λ y after. (y ≡ v) × Turns (λ k. held_by k x) (λ k. held_by k v) f l w new [] world after in
    sure_takes (λ world old. changes l x >> give old) Q (read_at at e) tt h0
    (sure_then (changes l x) (λ u. give v) (λ u after. Turns (λ k. held_by k x) (λ k. held_by k v) f l w new [] world after) Q world
    (sure_changes x (λ u after. Turns (λ k. held_by k x) (λ k. held_by k v) f l w new [] world after) (lies_at at)
    (set_turns f l w v x new world at e h d apart))
    (λ u after t. (refl, t)))

-- A character is written at its address as a byte, whatever the address leads to: a word of a place, of what waits or of an element in a block, whose
-- other bytes are 0, or a byte of a text. All that is known of both codes is so then, with that character at the location.
--
-- A line that reads a character through an address (the spot `Letter home`) takes its byte from `letter_led` of LetterReads.antt. One that writes there has
-- `letter_stored` below, from the memory behind the store (`byte_put` of ByteWords.antt): it asks that the location is owned and its character seen, which
-- each line that writes one asks as well. `letter_reached` says that locations have their addresses still, for the second write of a swap.
use Rattle.std.proofs.Common.{◌≡◌, inl, inr, ℕ, ◌+◌, ◌%◌, ◌≤◌, pos, List, length, Ok, true, refl, sym, ap, subst, ◌∙◌, arith}
use Rattle.std.specs.Prelude.{◌==◌, slice_get}
use Rattle.std.proofs.lemmas.Bool.{and_from, and_parts, eq-eqb, eqb-true}
use Rattle.rv32_isa.specs.Image.{heap_at}
use Rattle.rv32_isa.specs.State.{writable}
use Rattle.rv32_isa.specs.declared.micro_op.Size.TheVariants.{Byte}
use Rattle.nim_meaning.specs.Values.{Value, Number, Parts, Handle, Fixed, Ref, Resource, Gone, Vacant, Location, put_part}
use Rattle.nim_meaning.specs.State.{is_full_at, is_seen, is_there, is_whole, load, store, stored, whole_at, slot_of, frame_in, temporary_in}
use Rattle.flat_code.specs.declared.block.BlockLine.{BlockLine}
use Rattle.flat_code.specs.Scene.{Temps}
use Rattle.flat_code.specs.Shapes.{Shape, has_shape}
use Rattle.word_code.specs.Memory.{Memory, as_state, may_put}
use Rattle.word_code.specs.RoutineTable.{Beside, Cell}
use Rattle.word_code.specs.Words.{Vars}
use Rattle.word_code.proofs.ForCallers.{Changed}
use Rattle.heap_memory.proofs.ForCallers.{heap_open}
use Rattle.word_lowering.proofs.BlockPaths.{leads_later}
use Rattle.word_lowering.proofs.BlockWrites.{Put}
use Rattle.word_lowering.proofs.ByteWords.{BytePut, byte_may, word_changed, word_now}
use Rattle.word_lowering.proofs.Gets.{SameTemps}
use Rattle.word_lowering.proofs.GoodHomes.{HomeOf, good_homes, homes_apart}
use Rattle.word_lowering.proofs.GoodLeads.{owned_seen}
use Rattle.word_lowering.proofs.GoodRows.{IsLeftBeside, good_aside, later_ground_of}
use Rattle.word_lowering.proofs.HeapWanted.{stored_input}
use Rattle.word_lowering.proofs.InMemory.{IsAt}
use Rattle.word_lowering.proofs.LetterReads.{letter_of, letter_shaped, letter_there, letter_word}
use Rattle.word_lowering.proofs.Lines.{Basis, IsGood, all_sites, changed_later, starts}
use Rattle.word_lowering.proofs.Located.{owned_located, owned_readable}
use Rattle.word_lowering.proofs.OrdinalRuns.{AllSame}
use Rattle.word_lowering.proofs.Related.{Both, StandAt, body_of}
use Rattle.word_lowering.proofs.ResizedWorlds.{frames_of, stack_of}
use Rattle.word_lowering.proofs.Scenes.{FromOwned, FromText, Ground, IsLater, IsOwned, LeadsHere, ReachesHere, is_fixed, owned_leads, letter_later}
use Rattle.word_lowering.proofs.ShapeFacts.{letter, never}
use Rattle.word_lowering.proofs.Sites.{Site}
use Rattle.word_lowering.proofs.Stores.{good_written, ground_then, leads_still, put_there}
use Rattle.word_lowering.proofs.TextPuts.{letter_put, letter_range}

module _ (x : Basis) (g : Both) (line : BlockLine) (rest : List BlockLine) (y : IsGood x (starts g line rest)) (l : Location) (a : ℕ)
    (owned : IsOwned l.base) (leads : ReachesHere x.table x.blocks (all_sites x g line rest y) g.ground g.world l a letter)
    (seen : is_seen g.world l ≡ true) where
  abbrev here : Both
  here = starts g line rest

  abbrev sites : List Site
  sites = all_sites x g line rest y

  abbrev Owns : Type 0
  Owns = FromOwned x.table sites g.ground g.world l a letter

  there : (is_there g.world l ≡ true) × (is_whole g.world (load g.world l) ≡ true)
  there = and_parts (is_there g.world l) (is_whole g.world (load g.world l)) seen

  full : is_full_at g.world l ≡ true
  full = letter_there x here y l a owned leads seen

  owns : LeadsHere x.table x.blocks sites g.ground g.world l a letter → Owns
  owns f = owned_seen x here y l a letter owned f there.1

  -- as a word
  cell : Owns → Cell g.memory a
  cell f = ((owned_readable x here y l a letter f there.0).area 1 (omega arith)).0

  -- it may be written
  pub letter_open : may_put g.memory a Byte ≡ true
  letter_open = by leads
    where
      by : ReachesHere x.table x.blocks sites g.ground g.world l a letter → may_put g.memory a Byte ≡ true
      by (inl f) = byte_may g.memory y.memory.sized a (cell (owns f)).may
      by (inr (inl f)) =
          let r = letter_range (is_fixed g.ground) (HomeOf x here) (homes_apart x here y) g.ground.blocks g.world g.memory (good_homes x here y) l a f.block
          letter f.base f.leads there.0 in
          and_from (a % 1 == 0) (writable (as_state g.memory) a 1) (eq-eqb (a % 1) 0 (omega arith))
          (heap_open g.memory y.memory.sized a 1 r.0 r.1)
      by (inr (inr f)) = absurd (subst IsOwned f.base owned)

  module _ (m : Memory) (c : ℕ) (p : BytePut g.memory m a c) where
    abbrev v : Value
    v = Number (pos c)

    -- what is true behind it: for any lines that are left, whatever became of temporaries and variables
    pub record LetterStored : Type 0 where
      pub ground : Ground
      pub later : IsLater g.ground ground
      pub good : (lines : List BlockLine) → StandAt x.table x.blocks (body_of g) lines → (temps : Temps) → SameTemps x g line rest y temps
          → (vars words : Vars) (awaits : ℕ) → AllSame g.call.vars vars
          → IsGood x (changed_later g lines temps vars m words awaits (store g.world l (Number (pos c))) ground g.input)
      pub reached : (k : Location) (b : ℕ) (u : Shape) → FromOwned x.table (all_sites x g line rest y) g.ground g.world k b u
          → FromOwned x.table (all_sites x g line rest y) ground (store g.world l (Number (pos c))) k b u

    -- ---- in a word

    module _ (f : Owns) where
      word_whole : a % 4 ≡ 0
      word_whole = eqb-true (a % 4) 0 (and_parts (a % 4 == 0) (writable (as_state g.memory) a 4) (cell f).may).0

      changed_word : Changed g.memory m a 4
      changed_word = word_changed x.law g.memory m a c y.memory.sized word_whole (cell f).may p

      -- the word was that of a character
      word_there : IsAt m a (Number (pos c))
      word_there =
          let r = owned_located x here y l a letter f refl full in
          by (load g.world l) r.shaped r.is_at
        where
          by : (u : Value) → has_shape u letter ≡ true → IsAt g.memory a u → IsAt m a (Number (pos c))
          by (Number z) shaped at =
              let q = letter_of z shaped in
              word_now x.law g.memory m a c y.memory.sized word_whole (cell f).may p q.code (at ∙ ap Ok q.word_is) q.small
              ∙ ap Ok (sym (letter_word c p.small))
          by (Parts vs) shaped at = never shaped
          by (Handle n k) shaped at = never shaped
          by (Fixed t) shaped at = never shaped
          by (Ref o) shaped at = never shaped
          by (Resource vs i) shaped at = never shaped
          by (Gone u final) shaped at = never shaped
          by Vacant shaped at = never shaped

      in_word : LetterStored
      in_word = record {
        ground = ground_then x g line rest y l a letter refl there.0 (Number (pos c)) (letter_shaped c p.small) m changed_word word_there f;
        later = record {
          blocks = (put_there x g line rest y l a letter refl there.0 (Number (pos c)) (letter_shaped c p.small) m changed_word word_there f).ahead;
          fixed = refl;
        };
        good = good_written x g line rest y l a letter refl there.0 (Number (pos c)) (letter_shaped c p.small) m changed_word word_there f;
        reached = leads_still x g line rest y l a letter refl there.0 (Number (pos c)) (letter_shaped c p.small) m changed_word word_there f;
      }

    -- ---- in a text

    module _ (f : FromText g.ground l a letter) where
      put_it : Put (is_fixed g.ground) (HomeOf x here) (homes_apart x here y) g.ground.blocks g.world g.memory (good_homes x here y) l (Number (pos c)) m
      put_it = letter_put (is_fixed g.ground) (HomeOf x here) (homes_apart x here y) g.ground.blocks g.world g.memory (good_homes x here y) l a f.block
          letter f.base f.leads there.0 m c p

      frames_stay : stack_of (store g.world l (Number (pos c))) ≡ stack_of g.world
      frames_stay = ap (λ b. stack_of (stored g.world b (put_part (whole_at g.world b) l.path (Number (pos c))))) f.base

      beside_none : IsLeftBeside x g line rest y m 0 0
      beside_none =
          let r = letter_range (is_fixed g.ground) (HomeOf x here) (homes_apart x here y) g.ground.blocks g.world g.memory (good_homes x here y) l a f.block
          letter f.base f.leads there.0 in
          record {
            sized = p.sized;
            sizes = p.rewritten.sizes;
            beside = λ b k own heap put. p.rewritten.beside b k (away b k heap r.0 r.1);
          }
        where
          away : (b k : ℕ) → Beside b k heap_at (length g.memory.heap) → heap_at ≤ a → a + 1 ≤ heap_at + length g.memory.heap → Beside b k a 1
          away b k (inl h) low high = inl (omega (arith, h, low))
          away b k (inr h) low high = inr (omega (arith, h, high))

      in_text : LetterStored
      in_text = record {
        ground = later_ground_of x g line rest y put_it.after;
        later = record { blocks = put_it.ahead; fixed = refl };
        good = λ lines stand temps same vars words awaits kept.
            subst (λ input. IsGood x (changed_later g lines temps vars m words awaits (store g.world l (Number (pos c)))
            (later_ground_of x g line rest y put_it.after) input))
            (stored_input g.world l.base (put_part (whole_at g.world l.base) l.path (Number (pos c))) ∙ y.input)
            (good_aside x g line rest y lines stand put_it.after put_it.ahead m beside_none (store g.world l (Number (pos c))) frames_stay put_it.holds.heap
            temps same vars words awaits kept);
        reached = λ k b u h. still k b u h;
      }
        where
          still : (k : Location) (b : ℕ) (u : Shape) → FromOwned x.table sites g.ground g.world k b u
              → FromOwned x.table sites (later_ground_of x g line rest y put_it.after) (store g.world l (Number (pos c))) k b u
          still k b u (inl h) = inl (record {
            site = h.site;
            among = h.among;
            number = h.number;
            base = h.base;
            filled = (
              h.filled.0,
              ap (λ frames. slot_of (frame_in (slice_get frames h.site.level)) h.number)
                  (frames_of (store g.world l (Number (pos c))) g.world frames_stay) ∙ h.filled.1,
            );
            there = h.there;
            home = h.home;
            offset = h.offset;
            path = h.path;
            address = h.address;
          })
          still k b u (inr (inl h)) = inr (inl (record {
            block = h.block;
            base = h.base;
            leads = leads_later g.ground.blocks put_it.after put_it.ahead h.block k.path b u h.leads;
            near = h.near;
          }))
          still k b u (inr (inr h)) = inr (inr (record {
            from = h.from;
            value = h.value;
            has = ap (λ frames. temporary_in (frame_in (slice_get frames h.from.site.level)).temporaries h.from.node)
                (frames_of (store g.world l (Number (pos c))) g.world frames_stay) ∙ h.has;
          }))

    pub letter_stored : LetterStored
    letter_stored = by leads
      where
        by : ReachesHere x.table x.blocks sites g.ground g.world l a letter → LetterStored
        by (inl f) = in_word (owns f)
        by (inr (inl f)) = in_text f
        by (inr (inr f)) = absurd (subst IsOwned f.base owned)

    -- what is owned has its address still
    pub letter_reached : (s : LetterStored) (k : Location) (b : ℕ) (u : Shape) → IsOwned k.base
        → ReachesHere x.table x.blocks (all_sites x g line rest y) g.ground g.world k b u → is_whole g.world (load g.world k) ≡ true
        → ReachesHere x.table x.blocks (all_sites x g line rest y) s.ground (store g.world l (Number (pos c))) k b u
    letter_reached s k b u is (inl f) whole = inl (owned_leads x.table x.blocks (s.reached k b u (owned_seen x here y k b u is f whole)))
    letter_reached s k b u is (inr f) whole = inr (letter_later x.table x.blocks g.ground s.ground s.later k b u f)

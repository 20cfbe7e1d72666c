-- The two words of a handle where hooks are: what they read, and what is true where they put others.
use Rattle.std.proofs.Common.{◌≡◌, ◌⊎◌, inl, inr, ℕ, ◌+◌, ◌%◌, ◌^◌, ◌<◌, ◌≤◌, Bool, true, List, [], ◌∷◌, ◌++◌, length, Option, Ok}
use Rattle.std.proofs.Common.{refl, sym, ap, subst, ◌∙◌, arith}
use Rattle.std.specs.Prelude.{◌==◌, ◌&&◌}
use Rattle.std.proofs.lemmas.Bool.{true≢false}
use Rattle.nim_types.specs.declared.types.TheConstants.{LIST_BYTES}
use Rattle.nim_meaning.specs.Values.{Value, Parts, Handle, Fixed, Vacant, count, part, Base, Standing, Waiting, InBlock, InHand, InException, Made, Location}
use Rattle.nim_meaning.specs.State.{World, load, stored, store, whole_at, is_there, pushed}
use Rattle.flat_code.specs.Pieces.{words_bytes}
use Rattle.flat_code.specs.Shapes.{Shape, block, elements}
use Rattle.rv32_isa.specs.declared.micro_op.Size.TheVariants.{Word}
use Rattle.word_code.specs.Memory.{Memory, as_state, number_at, may_put, with_number}
use Rattle.word_code.specs.RoutineTable.{Beside, IsRewritten}
use Rattle.word_code.proofs.ForCallers.{Sized, sizes_same, sizes_more, store_rewritten, store_sized, put_here}
use Rattle.hook_code.specs.Surroundings.{behind, IsRead, IsPut, Stays}
use Rattle.word_lowering.proofs.RoutineMemory.{same_word}
use Rattle.word_lowering.proofs.ShapeFacts.{shape_bytes, of_numbers, values_of_numbers}
use Rattle.word_lowering.proofs.Blocks.{Blocks, AreLater, IsHandle as StoresHandle, IsPlace, IsEmptyIf, Stored}
use Rattle.word_lowering.proofs.BlockHomes.{IsOutside}
use Rattle.word_lowering.proofs.CallPlaces.{place_cell}
use Rattle.word_lowering.proofs.FixedParts.{fixed_sequence, fixed_text, fixed_words, number_words}
use Rattle.word_lowering.proofs.FixedValues.{FixedAt}
use Rattle.word_lowering.proofs.FixedWords.{words_shaped}
use Rattle.word_lowering.proofs.Frames.{length_set}
use Rattle.word_lowering.proofs.HandHomes.{Hand, AllHomes, in_range, written_behind}
use Rattle.word_lowering.proofs.HookHere.{Here, pushes, whole_more}
use Rattle.word_lowering.proofs.HookHomes.{HookHomes, IsOpen, IsHere, Led, sized, start_here, led_open, led_beside, data_there}
use Rattle.word_lowering.proofs.HookLeads.{IsHandle, AreHandle, IsSomeHandle, Held, InFixed, stored_there, put_there}
use Rattle.word_lowering.proofs.HookWorlds.{MayChange, home_changes, like_beside, like_stored, memory_written}
use Rattle.word_lowering.proofs.NumbersStored.{at_numbers}
use Rattle.word_lowering.proofs.OpenCells.{cell_by}
use Rattle.word_lowering.proofs.PieceWords.{WordsAt, by_words}

-- ---- shapes of handles

abbrev pub IsBlocky : Shape → Type 0
IsBlocky block = Unit {0}
IsBlocky (elements s) = Unit {0}
IsBlocky s = ⊥

pub blocky_bytes : (s : Shape) → IsBlocky s → shape_bytes s ≡ LIST_BYTES
blocky_bytes block is = refl
blocky_bytes (elements s) is = refl
blocky_bytes s is = absurd is

-- ---- a handle is read

pub behind_is : (a : ℕ) → a + 8 < 2 ^ 32 → a + 4 ≡ behind a
behind_is a small = omega (arith, small)

small_rest : (n : ℕ) → n < 2 ^ 32 → n % 2 ^ 32 ≡ n
small_rest n small = omega (arith, small)

module _ (Fixed_stands : (place : ℕ) → List ℕ → Type 0) (d : Blocks) (m : Memory) (sized_m : Sized m) where
  abbrev Reads : Shape → Value → (a : ℕ) → Type 0
  Reads s v a = IsRead (λ n p. IsHandle Fixed_stands d s v n p) m a

  -- two words that are the handle
  read_by : (s : Shape) (v : Value) (a n p : ℕ) → a + 8 < 2 ^ 32 → n < 2 ^ 32 → p < 2 ^ 32 → number_at m a Word ≡ Ok n → number_at m (a + 4) Word ≡ Ok p
      → IsHandle Fixed_stands d s v n p → Reads s v a
  read_by s v a n p small few near long there are = record {
    length = n;
    place = p;
    first = long;
    second = subst (λ b. number_at m b Word ≡ Ok p) (behind_is a small) there;
    are = subst (λ k. IsHandle Fixed_stands d s v k (p % 2 ^ 32)) (sym (small_rest n few))
        (subst (λ k. IsHandle Fixed_stands d s v n k) (sym (small_rest p near)) are);
  }

  read_handle : (s : Shape) (a n : ℕ) (k : Option ℕ) → a + 8 < 2 ^ 32 → StoresHandle d m a s n k → Reads s (Handle n k) a
  read_handle s a n k small h = read_by s (Handle n k) a n h.place small h.few h.near h.long h.there
      (record { few = h.few; near = h.near; are = record { length = refl; empty = h.empty; place = h.is } })

  read_nothing : (s : Shape) (a : ℕ) → IsOpen m a 8 → Reads s Vacant a
  read_nothing s a o =
      let one = cell_by m sized_m a (ap (λ b. may_put m b Word) (let e : a ≡ a + 0 = omega arith in e) ∙ o.may 0 (omega arith) refl) in
      let two = cell_by m sized_m (a + 4) (o.may 4 (omega arith) refl) in
      record {
        length = one.word;
        place = two.word;
        first = one.reads;
        second = subst (λ b. number_at m b Word ≡ Ok two.word) (behind_is a o.small) two.reads;
        are = record { few = omega arith; near = omega arith; are = tt };
      }

  pub handle_read : (s : Shape) (v : Value) (a : ℕ) → IsBlocky s → IsOpen m a 8 → Stored Fixed_stands d m a s v → Reads s v a
  handle_read block Vacant a is o st = read_nothing block a o
  handle_read block (Handle n k) a is o st = read_handle block a n k o.small st
  handle_read block (Fixed text) a is o st = read_by block (Fixed text) a (length text) st.place o.small st.few st.near st.long st.there
      (record { few = st.few; near = st.near; are = (refl, st.stands) })
  handle_read block v a is o st = absurd st
  handle_read (elements s) Vacant a is o st = read_nothing (elements s) a o
  handle_read (elements s) (Handle n k) a is o st = read_handle (elements s) a n k o.small st
  handle_read (elements s) v a is o st = absurd st
  handle_read s v a is o st = absurd is

  -- and stands there where its words do
  pub handle_stands : (s : Shape) (v : Value) (a n p : ℕ) → IsBlocky s → IsHandle Fixed_stands d s v n p → number_at m a Word ≡ Ok n
      → number_at m (a + 4) Word ≡ Ok p → Stored Fixed_stands d m a s v
  handle_stands s v a n p is h long there = by s v is h.are
    where
      as_handle : (s : Shape) (k : ℕ) (b : Option ℕ) → n ≡ k → IsEmptyIf b k → IsPlace d s b p → StoresHandle d m a s k b
      as_handle s k b e empty place = record {
        place = p;
        long = long ∙ ap (λ j. Ok j) e;
        few = subst (λ j. j < 2 ^ 32) e h.few;
        empty = empty;
        there = there;
        near = h.near;
        is = place;
      }

      by : (s : Shape) (v : Value) → IsBlocky s → AreHandle Fixed_stands d s v n p → Stored Fixed_stands d m a s v
      by block Vacant is are = tt
      by block (Handle k b) is are = as_handle block k b are.length are.empty are.place
      by block (Fixed text) is are = record {
        place = p;
        long = long ∙ ap (λ j. Ok j) are.0;
        few = subst (λ j. j < 2 ^ 32) are.0 h.few;
        there = there;
        near = h.near;
        stands = are.1;
      }
      by block v is are = absurd are
      by (elements s) Vacant is are = tt
      by (elements s) (Handle k b) is are = as_handle (elements s) k b are.length are.empty are.place
      by (elements s) v is are = absurd are
      by s v is are = absurd is

-- ---- a handle is put

hand_stays : (w : World) (b : Base) (v : Value) → length (stored w b v).hand ≡ length w.hand
hand_stays w (Standing level n) v = refl
hand_stays w (Waiting level node) v = refl
hand_stays w (InBlock k) v = refl
hand_stays w (InHand i) v = length_set w.hand i v
hand_stays w (InException i) v = refl
hand_stays w (Made u) v = refl

module _ (z : HookHomes) (m : Memory) (sized_m : Sized m) (a n p : ℕ) (o : IsOpen m a 8) (few : n < 2 ^ 32) (near : p < 2 ^ 32) where
  abbrev first_put : Memory
  first_put = with_number m a Word n

  abbrev pub both_put : Memory
  both_put = with_number first_put (a + 4) Word p

  pub may_first : may_put m a Word ≡ true
  may_first = ap (λ b. may_put m b Word) (let e : a ≡ a + 0 = omega arith in e) ∙ o.may 0 (omega arith) refl

  first_sized : Sized first_put
  first_sized = store_sized z.law m a Word n sized_m may_first

  first_written : IsRewritten m first_put a 4
  first_written = store_rewritten z.law m a Word n sized_m may_first

  pub may_second : may_put first_put (a + 4) Word ≡ true
  may_second = may_kept m first_put first_written (a + 4) ∙ o.may 4 (omega arith) refl
    where
      may_kept : (m other : Memory) → IsRewritten m other a 4 → (b : ℕ) → may_put other b Word ≡ may_put m b Word
      may_kept m other r b = ap (λ c. (b % 4 == 0) && c) (z.law.stores (as_state m) (as_state other) b 4 r.sizes)

  second_written : IsRewritten first_put both_put (a + 4) 4
  second_written = store_rewritten z.law first_put (a + 4) Word p first_sized may_second

  pub both_sized : Sized both_put
  both_sized = store_sized z.law first_put (a + 4) Word p first_sized may_second

  pub both_written : IsRewritten m both_put a 8
  both_written = record {
    sizes = sizes_more m first_put both_put first_written.sizes second_written.sizes;
    beside = λ b k away. second_written.beside b k (late b k away) ∙ first_written.beside b k (early b k away);
  }
    where
      early : (b k : ℕ) → Beside b k a 8 → Beside b k a 4
      early b k (inl h) = inl h
      early b k (inr h) = inr (omega (arith, h))

      late : (b k : ℕ) → Beside b k a 8 → Beside b k (a + 4) 4
      late b k (inl h) = inl (omega (arith, h))
      late b k (inr h) = inr (omega (arith, h))

  pub first_reads : number_at both_put a Word ≡ Ok n
  first_reads =
      same_word first_put both_put a (second_written.beside a 4 (inl (omega arith))) ∙ put_here z.law m a n sized_m may_first few

  pub second_reads : number_at both_put (a + 4) Word ≡ Ok p
  second_reads = put_here z.law first_put (a + 4) p first_sized may_second near

module _ (z : HookHomes) (low top : ℕ) (hand : Hand) (d : Blocks) (w : World) (m : Memory) (x : IsHere z low top hand d w m) where
  may_change : (l : Location) (at : ℕ) (t : Shape) → Led z low top hand d w m x true l at t → MayChange z.Homes w l.base
  may_change l at t (inr (inl f)) = subst (MayChange z.Homes w) (sym f.base) tt
  may_change l at t (inr (inr f)) = absurd (true≢false f.lent)
  may_change l at t (inl f) = subst (MayChange z.Homes w) (sym f.base) (by f.among)
    where
      by : AllHomes z.StandsFixed z.Homes z.apart z.start z.under z.first z.others hand f.home → MayChange z.Homes w f.home.base
      by (inl i) = let h = x.here.holds.homes f.home (inl i) in home_changes z.Homes w f.home i h.value h.holds
      by (inr i) = let r = in_range z.first z.start hand low f.home x.here.up i in subst (MayChange z.Homes w) (sym r.base) tt

  -- world and memory where a value was put that memory stores
  pub record IsThen (l : Location) (v : Value) (other : Memory) : Type 0 where
    pub after : Blocks
    pub ahead : AreLater d after
    pub then : IsHere z low top hand after (store w l v) other

  pub is_put : (l : Location) (at : ℕ) (t : Shape) → (f : Led z low top hand d w m x true l at t) → is_there w l ≡ true
      → (other : Memory) → Sized other → (v : Value) → IsRewritten m other at (shape_bytes t) → Stored z.StandsFixed d other at t v → IsThen l v other
  is_put l at t f live other sized_other v written there =
      let p = put_there z.StandsFixed z.Homes z.apart z.start z.under z.first z.others hand low x.here.up d w m x.here.holds l at t f live other sized_other v
      written there in
      record {
        after = p.after;
        ahead = p.ahead;
        then = record {
          here = record {
            up = x.here.up;
            holds = p.holds;
            long = hand_stays w l.base _ ∙ x.here.long;
            fits = x.here.fits;
          };
          low_whole = x.low_whole;
          top_whole = x.top_whole;
          hand_whole = x.hand_whole;
          ends = (let e = x.ends in let k = written.sizes.stack in omega (arith, e, k));
          like = like_stored z.Homes z.world w _ x.like l.base (may_change l at t f);
          same = memory_written z.Homes z.start z.memory m other at (shape_bytes t) x.same written
              (λ b n o. led_beside z low top hand d w m x l at t f live b n o);
          bytes = written.sizes.bytes x.bytes;
        };
      }

  -- ---- at a location

  abbrev ReadAt : (own : Bool) → Shape → Value → (at : ℕ) → Type 0
  ReadAt own t v at = IsRead (λ n p. IsSomeHandle z.StandsFixed own d t v n p) m at

  abbrev IsHeld : (own : Bool) → Location → (at : ℕ) → Shape → Type 0
  IsHeld own l at t = Held z.StandsFixed z.Homes z.apart z.start z.under z.first z.others hand low x.here.up d w m x.here.holds own l at t

  -- what stands in a home or in a block
  module _ (own : Bool) (l : Location) (at : ℕ) (t : Shape) (is : IsBlocky t) (is_open : IsOpen m at 8) (live : is_there w l ≡ true) (f : IsHeld own l at t)
    where
      stands_held : Stored z.StandsFixed d m at t (load w l)
      stands_held = stored_there z.StandsFixed z.Homes z.apart z.start z.under z.first z.others hand low x.here.up d w m x.here.holds own l at t f live

      held_read : ReadAt own t (load w l) at
      held_read =
          let r = handle_read z.StandsFixed d m (sized z low top hand d w m x) t (load w l) at is is_open stands_held in
          record { length = r.length; place = r.place; first = r.first; second = r.second; are = inl r.are }

      held_stays : Stays l (load w l)
      held_stays = by t (load w l) is stands_held
        where
          by : (t : Shape) (v : Value) → IsBlocky t → Stored z.StandsFixed d m at t v → Stays l v
          by block (Parts all) is st = absurd st
          by block v is st = tt
          by (elements s) (Parts all) is st = absurd st
          by (elements s) v is st = tt
          by t v is st = absurd is

  -- what stands in a constant
  module _ (own : Bool) (l : Location) (at : ℕ) (t : Shape) (f : InFixed z.StandsFixed z.Homes z.first own l at t) where
    load_fixed : load w l ≡ part f.root l.path
    load_fixed = ap (λ b. part (whole_at w b) l.path) f.base

    fixed_at : FixedAt z.StandsFixed at t (load w l)
    fixed_at = subst (FixedAt z.StandsFixed at t) (sym load_fixed) f.fixed

    fixed_numbers : of_numbers t ≡ true → Stored z.StandsFixed d m at t (load w l)
    fixed_numbers numbers =
        let shaped = words_shaped z.StandsFixed fixed_at.words t (load w l) fixed_at.are in
        at_numbers z.StandsFixed d m at t (load w l) numbers shaped
        (by_words m at (load w l) (values_of_numbers (load w l) t numbers shaped)
        (subst (WordsAt m at) (number_words z.StandsFixed fixed_at.words t (load w l) numbers fixed_at.are)
        (fixed_words z.StandsFixed m (sized z low top hand d w m x) (data_there z low top hand d w m x) at t (load w l) fixed_at)))

    fixed_block : t ≡ block → Stored z.StandsFixed d m at t (load w l)
    fixed_block is =
        let q = fixed_text z.StandsFixed m (sized z low top hand d w m x) (data_there z low top hand d w m x) at (load w l)
        (subst (λ s. FixedAt z.StandsFixed at s (load w l)) is fixed_at) in
        subst (λ s. Stored z.StandsFixed d m at s (load w l)) (sym is) (subst (Stored z.StandsFixed d m at block) (sym q.1) q.2)

    fixed_read : IsOpen m at 8 → IsBlocky t → ReadAt own t (load w l) at
    fixed_read is_open is = by t is fixed_at
      where
        by : (t : Shape) → IsBlocky t → FixedAt z.StandsFixed at t (load w l) → ReadAt own t (load w l) at
        by block is fixed =
            let q = fixed_text z.StandsFixed m (sized z low top hand d w m x) (data_there z low top hand d w m x) at (load w l) fixed in
            let r = handle_read z.StandsFixed d m (sized z low top hand d w m x) block (Fixed q.0) at tt is_open q.2 in
            subst (λ v. ReadAt own block v at) (sym q.1)
            (record { length = r.length; place = r.place; first = r.first; second = r.second; are = inl r.are })
        by (elements s) is fixed =
            let q = fixed_sequence z.StandsFixed m (sized z low top hand d w m x) (data_there z low top hand d w m x) at s (load w l) fixed in
            let h = q.2 in
            record {
              length = count q.0;
              place = h.place;
              first = h.long;
              second = subst (λ b. number_at m b Word ≡ Ok h.place) (behind_is at is_open.small) h.there;
              are = inr (record {
                of = s;
                all = q.0;
                shape = refl;
                value = q.1;
                lent = f.lent;
                few = (let e = h.few in omega (arith, e));
                near = (let e = h.near in omega (arith, e));
                length = (let e = h.few in omega (arith, e));
                words = h.words;
                whole = (let e = h.near in let o = h.whole in omega (arith, e, o));
                stands = subst (λ p. z.StandsFixed p (words_bytes h.words)) (sym (small_rest h.place h.near)) h.stands;
                are = h.are;
              });
            }
        by t is fixed = absurd is

    fixed_stays : Stays l (load w l)
    fixed_stays = by (load w l) (sym load_fixed)
      where
        by : (v : Value) → part f.root l.path ≡ v → Stays l v
        by (Parts all) e = (f.root, f.base, e)
        by v e = tt

  abbrev open_words : (own : Bool) (l : Location) (at : ℕ) (t : Shape) → IsBlocky t → Led z low top hand d w m x own l at t → is_there w l ≡ true → IsOpen
      m at 8
  open_words own l at t is f live = subst (λ n. IsOpen m at n) (blocky_bytes t is) (led_open z low top hand d w m x own l at t f live)

  pub reads_there : (own : Bool) (l : Location) (at : ℕ) (t : Shape) → IsBlocky t → Led z low top hand d w m x own l at t → is_there w l ≡ true
      → ReadAt own t (load w l) at
  reads_there own l at t is (inl f) live = held_read own l at t is (open_words own l at t is (inl f) live) live (inl f)
  reads_there own l at t is (inr (inl f)) live = held_read own l at t is (open_words own l at t is (inr (inl f)) live) live (inr f)
  reads_there own l at t is (inr (inr f)) live = fixed_read own l at t f (open_words own l at t is (inr (inr f)) live) is

  pub stays_there : (own : Bool) (l : Location) (at : ℕ) (t : Shape) → IsBlocky t → Led z low top hand d w m x own l at t → is_there w l ≡ true
      → Stays l (load w l)
  stays_there own l at t is (inl f) live = held_stays own l at t is (open_words own l at t is (inl f) live) live (inl f)
  stays_there own l at t is (inr (inl f)) live = held_stays own l at t is (open_words own l at t is (inr (inl f)) live) live (inr f)
  stays_there own l at t is (inr (inr f)) live = fixed_stays own l at t f

  -- what has no elements is stored wherever it is
  pub stands_there : (own : Bool) (l : Location) (at : ℕ) (t : Shape) → (of_numbers t ≡ true) ⊎ (t ≡ block) → Led z low top hand d w m x own l at t
      → is_there w l ≡ true → Stored z.StandsFixed d m at t (load w l)
  stands_there own l at t simple (inl f) live =
      stored_there z.StandsFixed z.Homes z.apart z.start z.under z.first z.others hand low x.here.up d w m x.here.holds own l at t (inl f) live
  stands_there own l at t simple (inr (inl f)) live =
      stored_there z.StandsFixed z.Homes z.apart z.start z.under z.first z.others hand low x.here.up d w m x.here.holds own l at t (inr f) live
  stands_there own l at t (inl numbers) (inr (inr f)) live = fixed_numbers own l at t f numbers
  stands_there own l at t (inr is) (inr (inr f)) live = fixed_block own l at t f is

  pub puts_there : (l : Location) (at : ℕ) (t : Shape) → IsBlocky t → (f : Led z low top hand d w m x true l at t) → is_there w l ≡ true → (v : Value)
      → (n p : ℕ) → IsHandle z.StandsFixed d t v n p → IsPut (λ other. IsThen l v other) m at n p
  puts_there l at t is f live v n p h =
      let sized_m = sized z low top hand d w m x in
      let o : IsOpen m at 8 = subst (λ k. IsOpen m at k) (blocky_bytes t is) (led_open z low top hand d w m x true l at t f live) in
      let next : at + 4 ≡ behind at = behind_is at o.small in
      record {
        first = may_first z m sized_m at n p o h.few h.near;
        second = subst (λ b. may_put (with_number m at Word n) b Word ≡ true) next (may_second z m sized_m at n p o h.few h.near);
        then = subst (λ b. IsThen l v (with_number (with_number m at Word n) b Word p)) next
            (is_put l at t f live (both_put z m sized_m at n p o h.few h.near) (both_sized z m sized_m at n p o h.few h.near) v
            (subst (λ k. IsRewritten m (both_put z m sized_m at n p o h.few h.near) at k) (sym (blocky_bytes t is))
            (both_written z m sized_m at n p o h.few h.near))
            (handle_stands z.StandsFixed d (both_put z m sized_m at n p o h.few h.near) (both_sized z m sized_m at n p o h.few h.near) t v at n p is h
            (first_reads z m sized_m at n p o h.few h.near) (second_reads z m sized_m at n p o h.few h.near)));
      }

  pub empties_there : (l : Location) (at : ℕ) (t : Shape) → IsBlocky t → (f : Led z low top hand d w m x true l at t) → is_there w l ≡ true
      → IsThen l Vacant m
  empties_there l at t is f live =
      is_put l at t f live m (sized z low top hand d w m x) Vacant
      (record { sizes = sizes_same m; beside = λ b k away. refl }) (nothing t is)
    where
      nothing : (t : Shape) → IsBlocky t → Stored z.StandsFixed d m at t Vacant
      nothing block is = tt
      nothing (elements s) is = tt
      nothing t is = absurd is

  -- ---- under way

  -- a free place is open, beside the heap and all homes
  pub free_open : low + LIST_BYTES ≤ top → IsOpen m low 8
  free_open room =
      let e = x.ends in let most = (sized z low top hand d w m x).stack_most in let f = z.start_low in let s = start_here z low top hand d w m x in
      let even = x.low_whole in
      record {
        whole = even;
        small = omega (arith, room, e, most);
        may = λ k within whole. (place_cell m (sized z low top hand d w m x) (low + k) (omega (arith, even, whole)) (omega (arith, f, s))
            (omega (arith, within, room, e))).may;
      }

  free_outside : IsOutside m low 8
  free_outside =
      let f = z.start_low in let s = start_here z low top hand d w m x in let most = (sized z low top hand d w m x).heap_most in
      record { heap = inl (omega (arith, f, s, most)); own = inl (omega (arith, f, s)); room = inl (omega (arith, f, s)) }

  pub comes_under_way : (t : Shape) → IsBlocky t → (v : Value) → low + LIST_BYTES ≤ top → Stored z.StandsFixed d m low t v
      → IsHere z (low + LIST_BYTES) top (hand ++ (low, t) ∷ []) d (pushed w v) m
  comes_under_way t is v room st =
      let bytes = blocky_bytes t is in
      record {
        here = subst (λ n. Here z.StandsFixed z.Homes z.apart z.start z.under z.first z.others (low + n) top (hand ++ (low, t) ∷ []) d (pushed w v) m) bytes
            (pushes z.StandsFixed z.Homes z.apart z.start z.under z.first z.others low top hand d w m x.here t v (omega (arith, bytes, room)) st
            (subst (λ n. IsOutside m low n) (sym bytes) free_outside));
        low_whole = (let e = x.low_whole in omega (arith, e));
        top_whole = x.top_whole;
        hand_whole = whole_more hand (low, t) x.hand_whole x.low_whole;
        ends = x.ends;
        like = like_beside z.Homes z.world w (pushed w v) refl refl x.like;
        same = x.same;
        bytes = x.bytes;
      }

  -- memory is written there
  pub free_written : (other : Memory) → Sized other → low + LIST_BYTES ≤ top → IsRewritten m other low 8 → IsHere z low top hand d w other
  free_written other sized_other room written = record {
    here = record {
      up = x.here.up;
      holds = written_behind z.StandsFixed z.Homes z.apart z.start z.under z.first z.others hand low x.here.up d w m x.here.holds other sized_other low 8
          (omega arith) (start_here z low top hand d w m x) written free_outside;
      long = x.here.long;
      fits = x.here.fits;
    };
    low_whole = x.low_whole;
    top_whole = x.top_whole;
    hand_whole = x.hand_whole;
    ends = (let e = x.ends in let k = written.sizes.stack in omega (arith, e, k));
    like = x.like;
    same = memory_written z.Homes z.start z.memory m other low 8 x.same written
        (λ b n o. inl (let e = o.before in let s = start_here z low top hand d w m x in omega (arith, e, s)));
    bytes = written.sizes.bytes x.bytes;
  }

-- What has no hooks is moved where hooks are: as one word, or by a routine, from where one location leads to where another one does.
use Rattle.std.proofs.Common.{◌≡◌, ◌≢◌, ◌⊎◌, inl, inr, ℕ, zero, suc, ◌+◌, ◌-◌, ◌*◌, ◌%◌, ◌^◌, ◌≤◌, Bool, true, false, List, [], ◌∷◌, length, Some}
use Rattle.std.proofs.Common.{refl, sym, ap, subst, ◌∙◌, arith}
use Rattle.std.proofs.lemmas.Bool.{and_parts, true≢false}
use Rattle.std.proofs.lemmas.Option.{same_Some}
use Rattle.nim_types.specs.Forms.{Form, plain, reference, block, elements, row, parts, resource, wrapped, hooked}
use Rattle.nim_types.specs.declared.types.TheConstants.{WORD_BYTES}
use Rattle.nim_meaning.specs.Values.{Value, Location, bytes, is_full, part}
use Rattle.nim_meaning.specs.State.{World, load, store, is_there, is_seen, is_full_at}
use Rattle.nim_meaning.specs.Deeds.{Stores, perform, unless_gone, branch, costs, does, sets}
use Rattle.nim_meaning.specs.Lifted.{Walk, walk, walk_all, each_part, bits}
use Rattle.flat_code.specs.Scene.{known_in}
use Rattle.flat_code.specs.Lines.{form_in}
use Rattle.flat_code.specs.Shapes.{Shape, row as shape_row}
use Rattle.rv32_isa.specs.Machine.{Lives}
use Rattle.rv32_isa.specs.declared.micro_op.Size.TheVariants.{Word}
use Rattle.rv32_isa.specs.Image.{heap_at}
use Rattle.word_code.specs.declared.routine.TheConstants.{COPY}
use Rattle.word_code.specs.declared.word.WordInstr.{WordInstr}
use Rattle.word_code.specs.declared.word.WordProc.{WordProc}
use Rattle.word_code.specs.Memory.{Memory, number_at, may_put, with_number, own_data_at}
use Rattle.word_code.specs.RoutineTable.{Cell, low as low_of, Beside, Separate, IsRewritten, LowWords, IsCopied, copies, Moving}
use Rattle.word_code.specs.Routines.{IsCalling, HasData, ComesBack, IsKept as IsKeptAt}
use Rattle.word_code.specs.Words.{WordState, Fresh}
use Rattle.word_code.proofs.ForCallers.{Sized, store_rewritten, store_sized, put_here}
use Rattle.heap_memory.specs.HeapState.{Standing as BlockStanding}
use Rattle.heap_memory.specs.HeapUse.{AreDistant}
use Rattle.heap_memory.proofs.ForCallers.{distant}
use Rattle.heap_memory.specs.TextRoutines.{AreBytes}
use Rattle.hook_lifting.specs.declared.lifted.Hook.{Hook}
use Rattle.hook_lifting.specs.declared.lifted.Hook.TheVariants.{Copies, Assigns, Sinks, Ends}
use Rattle.hook_lifting.specs.Lifted.{has_hooks}
use Rattle.hook_lifting.specs.Lifting.{walk_of, hook_deed}
use Rattle.hook_code.specs.HookCode.{bytes_at}
use Rattle.hook_code.specs.Surroundings.{Hand as HookHand}
use Rattle.hook_code.specs.Promises.{IsBack, Comes, AnyWord, IsMade, IsMoved, Moves, MovesWord, CopiesBits, bits_pace}
use Rattle.word_lowering.proofs.BaseValues.{IsOwn}
use Rattle.word_lowering.proofs.BitMoves.{low_carried}
use Rattle.word_lowering.proofs.Blocks.{Blocks, Stored, Each}
use Rattle.word_lowering.proofs.BlocksBorn.{later_same}
use Rattle.word_lowering.proofs.BlockHomes.{Home, home_bytes, SameOrApart, FromBlock}
use Rattle.word_lowering.proofs.FullValues.{full_shape}
use Rattle.word_lowering.proofs.FixedParts.{fixed_within}
use Rattle.word_lowering.proofs.FixedValues.{data_bytes}
use Rattle.word_lowering.proofs.HandHomes.{Hand, AllHomes, all_apart, in_range}
use Rattle.word_lowering.proofs.HookHomes.{HookHomes, IsOpen, IsHere, Led, sized, led_open, data_there, InPayload, in_payload, standing, is_here}
use Rattle.word_lowering.proofs.HookLeads.{InBlocks, InFixed, InHome}
use Rattle.word_lowering.proofs.HookSurroundings.{shape, shaped, IsLed, at_word, surroundings}
use Rattle.word_lowering.proofs.HookWords.{IsThen, is_put, stands_there}
use Rattle.word_lowering.proofs.HookWorlds.{IsMemoryLike}
use Rattle.word_lowering.proofs.Keeping.{number_cases}
use Rattle.word_lowering.proofs.Moves.{words_of}
use Rattle.word_lowering.proofs.OpenCells.{cell_by}
use Rattle.word_lowering.proofs.ShapeFacts.{never, shape_bytes, of_numbers, bytes_is}
use Rattle.word_lowering.proofs.ShapePaths.{PathTo, path_within, shape_some}
use Rattle.word_lowering.proofs.ShapesApart.{paths_apart}
use Rattle.word_lowering.proofs.Sources.{area_by}
use Rattle.word_lowering.proofs.StoredLater.{shape_whole, stored_small}
use Rattle.word_lowering.proofs.TypeShapes.{type_bytes}

-- ---- what a walk does with what has no hooks

plain_walk : (w : Walk) (f : Form) → hooked f ≡ false → (to from : Location) → walk w f to from ≡ w.plainly to from
plain_walk w plain e to from = refl
plain_walk w reference e to from = never (sym e)
plain_walk w block e to from = never (sym e)
plain_walk w (elements f) e to from = never (sym e)
plain_walk w (row n f) e to from = ap (λ b. branch b (each_part n (walk w f) 0 to from) (w.plainly to from)) e
plain_walk w (parts fs) e to from = ap (λ b. branch b (walk_all w fs 0 to from) (w.plainly to from)) e
plain_walk w (resource fs) e to from = never (sym e)
plain_walk w (wrapped f) e to from = plain_walk w f e to from

-- ---- where two locations lead that lead to what looks the same

module _ (z : HookHomes) (low top : ℕ) (hand : Hand) (d : Blocks) (w : World) (m : Memory) (x : IsHere z low top hand d w m) where
  abbrev All : Home → Type 0
  All = AllHomes z.StandsFixed z.Homes z.apart z.start z.under z.first z.others hand

  abbrev away : (g h : Home) → All g → All h → SameOrApart g h
  away = all_apart z.StandsFixed z.Homes z.apart z.start z.under z.first z.others hand low x.here.up

  abbrev as_block : (l : Location) (at : ℕ) (t : Shape) → InBlocks z.StandsFixed z.Homes z.first d l at t → FromBlock z.StandsFixed All away d l at t
  as_block l at t f = record { block = f.block; base = f.base; leads = f.leads }

  home_and_block : (p q : Bool) (l from : Location) (a b : ℕ) (t : Shape) (f : InHome z.StandsFixed z.Homes z.first p hand l a t)
      (g : InBlocks z.StandsFixed z.Homes z.first d from b t) → is_there w from ≡ true → Separate a b (shape_bytes t)
  home_and_block p q l from a b t f g live = by (x.here.holds.homes f.home f.among).elsewhere.heap
    where
      there : InPayload z low top hand d w m x from b t (as_block from b t g) live
      there = in_payload z low top hand d w m x from b t (as_block from b t g) live

      by : Beside heap_at (length m.heap) f.home.at (home_bytes f.home) → Separate a b (shape_bytes t)
      by (inl e) =
          let is = f.address in let at = there.at_is in let within = there.within in let high = there.there.high in
          inr (inr (omega (arith, e, is, at, within, high)))
      by (inr e) =
          let is = f.address in let at = there.at_is in let low = there.there.low in
          let i = path_within f.home.shape l.path f.offset t f.way in
          inr (inl (omega (arith, e, is, at, low, i)))

  turned : (a b n : ℕ) → Separate a b n → Separate b a n
  turned a b n (inl e) = inl (sym e)
  turned a b n (inr (inl e)) = inr (inr e)
  turned a b n (inr (inr e)) = inr (inl e)

  two_homes : (p q : Bool) (l from : Location) (a b : ℕ) (t : Shape) (f : InHome z.StandsFixed z.Homes z.first p hand l a t)
      (g : InHome z.StandsFixed z.Homes z.first q hand from b t) → Separate a b (shape_bytes t)
  two_homes p q l from a b t f g = by (away f.home g.home f.among g.among)
    where
      by : SameOrApart f.home g.home → Separate a b (shape_bytes t)
      by (inl e) =
          let is = f.address in let at = g.address in let same : f.home.at ≡ g.home.at = ap (λ (h : Home). h.at) e in
          one (paths_apart f.home.shape l.path from.path f.offset g.offset t f.way
          (subst (λ (h : Home). PathTo h.shape from.path g.offset t) (sym e) g.way)) is at same
        where
          one : (f.offset ≡ g.offset) ⊎ ((f.offset + shape_bytes t ≤ g.offset) ⊎ (g.offset + shape_bytes t ≤ f.offset)) → a ≡ f.home.at + f.offset
              → b ≡ g.home.at + g.offset → f.home.at ≡ g.home.at → Separate a b (shape_bytes t)
          one (inl h) is at same = inl (omega (arith, h, is, at, same))
          one (inr (inl h)) is at same = inr (inl (omega (arith, h, is, at, same)))
          one (inr (inr h)) is at same = inr (inr (omega (arith, h, is, at, same)))
      by (inr apart) = two apart.ranges
        where
          two : Beside f.home.at (home_bytes f.home) g.home.at (home_bytes g.home) → Separate a b (shape_bytes t)
          two (inl h) =
              let is = f.address in let at = g.address in let i = path_within f.home.shape l.path f.offset t f.way in
              inr (inl (omega (arith, h, is, at, i)))
          two (inr h) =
              let is = f.address in let at = g.address in let i = path_within g.home.shape from.path g.offset t g.way in
              inr (inr (omega (arith, h, is, at, i)))

  two_blocks : (l from : Location) (a b : ℕ) (t : Shape) (f : InBlocks z.StandsFixed z.Homes z.first d l a t)
      (g : InBlocks z.StandsFixed z.Homes z.first d from b t)
      → is_there w l ≡ true → is_there w from ≡ true → Separate a b (shape_bytes t)
  two_blocks l from a b t f g live other = by (number_cases f.block g.block)
    where
      one : InPayload z low top hand d w m x l a t (as_block l a t f) live
      one = in_payload z low top hand d w m x l a t (as_block l a t f) live

      two : InPayload z low top hand d w m x from b t (as_block from b t g) other
      two = in_payload z low top hand d w m x from b t (as_block from b t g) other

      first : BlockStanding
      first = standing z low top hand d w m x l a t (as_block l a t f) live

      second : BlockStanding
      second = standing z low top hand d w m x from b t (as_block from b t g) other

      first_stands : d.stands f.block ≡ Some first
      first_stands = (is_here z low top hand d w m x l a t (as_block l a t f) live).stands

      second_stands : d.stands g.block ≡ Some second
      second_stands = (is_here z low top hand d w m x from b t (as_block from b t g) other).stands

      each_same : (s u : Shape) → Each s ≡ Each u → s ≡ u
      each_same s u e = cc

      by : (f.block ≡ g.block) ⊎ (f.block ≢ g.block) → Separate a b (shape_bytes t)
      by (inr ne) = apart (distant own_data_at w.heap.classes d.stands m x.here.holds.heap.kept f.block g.block first second first_stands second_stands ne)
        where
          apart : AreDistant first second → Separate a b (shape_bytes t)
          apart (inl h) =
              let p = one.at_is in let q = two.at_is in let i = one.within in inr (inl (omega (arith, h, p, q, i)))
          apart (inr h) =
              let p = one.at_is in let q = two.at_is in let i = two.within in inr (inr (omega (arith, h, p, q, i)))
      by (inl e) =
          let same : first.place ≡ second.place =
          ap (λ (y : BlockStanding). y.place) (same_Some first second (sym first_stands ∙ (ap d.stands e ∙ second_stands))) in
          let of : g.leads.of ≡ f.leads.of = sym (each_same f.leads.of g.leads.of (sym f.leads.inside ∙ (ap d.inside e ∙ g.leads.inside))) in
          let p = one.at_is in let q = two.at_is in
          let n : ℕ = suc (f.leads.element + g.leads.element) in
          both (paths_apart (shape_row n f.leads.of) (f.leads.element ∷ f.leads.rest) (g.leads.element ∷ g.leads.rest)
          (f.leads.element * shape_bytes f.leads.of + f.leads.offset) (g.leads.element * shape_bytes f.leads.of + g.leads.offset) t
          (f.leads.of, f.leads.element * shape_bytes f.leads.of, f.leads.offset, (omega arith, refl, refl), f.leads.way, refl) (
            f.leads.of,
            g.leads.element * shape_bytes f.leads.of,
            g.leads.offset,
            (omega arith, refl, refl),
            subst (λ s. PathTo s g.leads.rest g.leads.offset t) of g.leads.way,
            refl,
          ))
          same p (q ∙ ap (λ s. second.place + (g.leads.element * shape_bytes s + g.leads.offset)) of)
        where
          both : (f.leads.element * shape_bytes f.leads.of + f.leads.offset ≡ g.leads.element * shape_bytes f.leads.of + g.leads.offset)
              ⊎ ((f.leads.element * shape_bytes f.leads.of + f.leads.offset + shape_bytes t ≤ g.leads.element * shape_bytes f.leads.of + g.leads.offset)
              ⊎ (g.leads.element * shape_bytes f.leads.of + g.leads.offset + shape_bytes t ≤ f.leads.element * shape_bytes f.leads.of + f.leads.offset))
              → first.place ≡ second.place
              → a ≡ first.place + (f.leads.element * shape_bytes f.leads.of + f.leads.offset)
              → b ≡ second.place + (g.leads.element * shape_bytes f.leads.of + g.leads.offset) → Separate a b (shape_bytes t)
          both (inl h) same p q = inl (omega (arith, h, same, p, q))
          both (inr (inl h)) same p q = inr (inl (omega (arith, h, same, p, q)))
          both (inr (inr h)) same p q = inr (inr (omega (arith, h, same, p, q)))

  -- a part of a constant, beside where something is put
  module _ (q : Bool) (from : Location) (b : ℕ) (t : Shape) (g : InFixed z.StandsFixed z.Homes z.first q from b t) where
    abbrev place : ℕ
    place = g.fixed.place

    abbrev all_bytes : List ℕ
    all_bytes = data_bytes g.fixed

    inside : (place ≤ b) × (b + shape_bytes t ≤ place + length all_bytes)
    inside = fixed_within z.StandsFixed m (sized z low top hand d w m x) (data_there z low top hand d w m x) b t (part g.root from.path) g.fixed

    home_and_fixed : (l : Location) (a : ℕ) (f : InHome z.StandsFixed z.Homes z.first true hand l a t) → Separate a b (shape_bytes t)
    home_and_fixed l a f = by f.among
      where
        apart : Beside place (length all_bytes) f.home.at (home_bytes f.home) → Separate a b (shape_bytes t)
        apart (inl h) = let is = f.address in let i = inside in inr (inr (omega (arith, h, is, i)))
        apart (inr h) =
            let is = f.address in let i = inside in let k = path_within f.home.shape l.path f.offset t f.way in inr (inl (omega (arith, h, is, i, k)))

        by : All f.home → Separate a b (shape_bytes t)
        by (inl i) = apart (z.fixed_beside place all_bytes g.fixed.stands f.home i (subst IsOwn f.base (f.owned refl)))
        by (inr i) =
            let r = in_range z.first z.start hand low f.home x.here.up i in
            let begins = r.begins in let under = z.fixed_under place all_bytes g.fixed.stands in
            apart (inl (omega (arith, begins, under)))

    block_and_fixed : (l : Location) (a : ℕ) (f : InBlocks z.StandsFixed z.Homes z.first d l a t) → is_there w l ≡ true → Separate a b (shape_bytes t)
    block_and_fixed l a f live = by (data_there z low top hand d w m x place all_bytes g.fixed.stands).4.heap
      where
        there : InPayload z low top hand d w m x l a t (as_block l a t f) live
        there = in_payload z low top hand d w m x l a t (as_block l a t f) live

        by : Beside heap_at (length m.heap) place (length all_bytes) → Separate a b (shape_bytes t)
        by (inl e) =
            let i = inside in let at = there.at_is in let within = there.within in let high = there.there.high in
            inr (inl (omega (arith, e, i, at, within, high)))
        by (inr e) = let i = inside in let at = there.at_is in let least = there.there.low in inr (inr (omega (arith, e, i, at, least)))

  pub led_separate : (q : Bool) (l from : Location) (a b : ℕ) (t : Shape) → Led z low top hand d w m x true l a t → Led z low top hand d w m x q from b t
      → is_there w l ≡ true → is_there w from ≡ true → Separate a b (shape_bytes t)
  led_separate q l from a b t (inl f) (inl g) live other = two_homes true q l from a b t f g
  led_separate q l from a b t (inl f) (inr (inl g)) live other = home_and_block true q l from a b t f g other
  led_separate q l from a b t (inl f) (inr (inr g)) live other = home_and_fixed q from b t g l a f
  led_separate q l from a b t (inr (inl f)) (inl g) live other = turned b a (shape_bytes t) (home_and_block q true from l b a t g f live)
  led_separate q l from a b t (inr (inl f)) (inr (inl g)) live other = two_blocks l from a b t f g live other
  led_separate q l from a b t (inr (inl f)) (inr (inr g)) live other = block_and_fixed q from b t g l a f live
  led_separate q l from a b t (inr (inr f)) g live other = absurd (true≢false f.lent)

-- ---- moves

module _ (z : HookHomes) (plain_shapes : (ty : ℕ) → has_hooks z.table ty ≡ false → of_numbers (shape z ty) ≡ true) (live : Lives) (procs : List WordProc)
    (fresh : Fresh) where
  -- of what is moved
  module _ (low top : ℕ) (h : HookHand) (d : Blocks) (w : World) (m : Memory) (l from : Location) (a b ty : ℕ)
      (x : IsHere z low top (shaped z h) d w m) (to : IsLed z true h d l a ty) (of : IsLed z false h d from b ty) (bare : has_hooks z.table ty ≡ false)
      (full : is_full_at w from ≡ true) (there : is_there w l ≡ true) where
    abbrev hand : Hand
    hand = shaped z h

    abbrev t : Shape
    t = shape z ty

    abbrev v : Value
    v = load w from

    seen : is_there w from ≡ true
    seen = (and_parts (is_there w from) _ (and_parts (is_seen w from) (is_full v) full).0).0

    is_full_value : is_full v ≡ true
    is_full_value = (and_parts (is_seen w from) (is_full v) full).1

    to_is : a ≡ to.at
    to_is = at_word z low top h d w m l a ty true x to there

    from_is : b ≡ of.at
    from_is = at_word z low top h d w m from b ty false x of seen

    to_open : IsOpen m a (shape_bytes t)
    to_open = subst (λ k. IsOpen m k (shape_bytes t)) (sym to_is) (led_open z low top hand d w m x true l to.at t to.led there)

    from_open : IsOpen m b (shape_bytes t)
    from_open = subst (λ k. IsOpen m k (shape_bytes t)) (sym from_is) (led_open z low top hand d w m x false from of.at t of.led seen)

    stands : Stored z.StandsFixed d m b t v
    stands = subst (λ k. Stored z.StandsFixed d m k t v) (sym from_is)
        (stands_there z low top hand d w m x false from of.at t (inl (plain_shapes ty bare)) of.led seen)

    size : bytes v ≡ shape_bytes t
    size = bytes_is v t (plain_shapes ty bare) (full_shape z.StandsFixed d m b t v stands is_full_value)

    -- memory in which the words of it were put
    moved_then : (other : Memory) → Sized other → IsRewritten m other a (shape_bytes t) → LowWords m b other a (shape_bytes t)
        → IsThen z low top hand d w m x l v other
    moved_then other sized_other written same =
        is_put z low top hand d w m x l to.at t to.led there other sized_other v (subst (λ k. IsRewritten m other k (shape_bytes t)) to_is written)
        (subst (λ k. Stored z.StandsFixed d other k t v) to_is
        (stored_small z.StandsFixed d d (later_same d) m other b a t v (low_carried m other b a (shape_bytes t) same) stands))

    -- ---- one word

    module _ (one : bytes_at z.table ty ≡ WORD_BYTES) where
      long : shape_bytes t ≡ 4
      long = sym (type_bytes z.table z.is_table z.have ty) ∙ one

      may_there : may_put m a Word ≡ true
      may_there = ap (λ k. may_put m k Word) (let e : a ≡ a + 0 = omega arith in e) ∙ to_open.may 0 (omega (arith, long)) refl

      read_there : Cell m b
      read_there = cell_by m (sized z low top hand d w m x) b
          (ap (λ k. may_put m k Word) (let e : b ≡ b + 0 = omega arith in e) ∙ from_open.may 0 (omega (arith, long)) refl)

      abbrev word_put : Memory
      word_put = with_number m a Word (read_there.word % 2 ^ 32)

      word_same : LowWords m b word_put a 4
      word_same zero within whole =
          ap (λ k. number_at word_put k Word) (let e : a + 0 ≡ a = omega arith in e)
          ∙ put_here z.law m a (read_there.word % 2 ^ 32) (sized z low top hand d w m x) may_there (omega arith)
          ∙ sym (ap low_of (ap (λ k. number_at m k Word) (let e : b + 0 ≡ b = omega arith in e) ∙ read_there.reads))
      word_same (suc o) within whole = absurd (omega (arith, within))

      pub word_moved : IsMoved z.table (surroundings z) live procs fresh low top h d m a b (store w l v)
      word_moved =
          let then = moved_then word_put (store_sized z.law m a Word (read_there.word % 2 ^ 32) (sized z low top hand d w m x) may_there)
          (subst (IsRewritten m word_put a) (sym long) (store_rewritten z.law m a Word (read_there.word % 2 ^ 32) (sized z low top hand d w m x) may_there))
          (subst (LowWords m b word_put a) (sym long) word_same) in
          record {
            word = read_there.word;
            reads = read_there.reads;
            may = may_there;
            after = then.after;
            ahead = then.ahead;
            here = then.then;
          }

    -- ---- by the routine

    module _ (at : ℕ) (statics : List ℕ) (kept : IsKeptAt live procs at statics copies) (has : HasData at statics m) (s : ℕ × WordState)
        (is_memory : s.1.memory ≡ m)
        (to_var : ℕ) (rest : List WordInstr)
        (calling : IsCalling COPY (a ∷ b ∷ bytes_at z.table ty % 2 ^ 32 ∷ []) to_var rest s.1) where
      pub bits_copied : IsBack z.table (surroundings z) live procs fresh low top h d (λ e word. Unit {0}) s to_var rest (store w l v) (bits_pace * bytes v)
      bits_copied = by (words_of (shape_bytes t) (shape_whole t) (shape_some t))
        where
          by : (j : ℕ) × (shape_bytes t ≡ 4 * suc j)
              → IsBack z.table (surroundings z) live procs fresh low top h d (λ e word. Unit {0}) s to_var rest (store w l v) (bits_pace * bytes v)
          by (j, is) =
              let near = to_open.small in
              let u : Moving = record { to = a; from = b; behind = j } in
              let args : bytes_at z.table ty % 2 ^ 32 ≡ 4 * suc j
              = (let e = type_bytes z.table z.is_table z.have ty in omega (arith, e, is, near)) in
              let cells_to : (k : ℕ) → a ≤ k → k + 4 ≤ a + 4 * suc j → k % 4 ≡ 0 → Cell m k
              = λ k lo hi even. cell_in a to_open is k lo hi even in
              let cells_from : (k : ℕ) → b ≤ k → k + 4 ≤ b + 4 * suc j → k % 4 ≡ 0 → Cell m k
              = λ k lo hi even. cell_in b from_open is k lo hi even in
              let back : ComesBack live procs copies u s.1 to_var rest
              = kept u s.1 to_var rest (subst (λ n. IsCalling COPY (a ∷ b ∷ n ∷ []) to_var rest s.1) args calling)
              (subst Sized (sym is_memory) (sized z low top hand d w m x)) (subst (HasData at statics) (sym is_memory) has)
              (subst (λ mem. copies.may u mem) (sym is_memory) (
                area_by m (suc j) a to_open.whole cells_to,
                area_by m (suc j) b from_open.whole cells_from,
                subst (Separate a b) is (subst (λ k. Separate k b (shape_bytes t)) (sym to_is) (subst (λ k. Separate to.at k (shape_bytes t)) (sym from_is)
                    (led_separate z low top hand d w m x false l from to.at of.at t to.led of.led there seen))),
              )) in
              let copied : IsCopied u m back.memory = subst (λ mem. IsCopied u mem back.memory) is_memory back.leaves in
              let then = moved_then back.memory (z.law.regions _ _ (sized z low top hand d w m x) copied.rewritten.sizes)
              (subst (IsRewritten m back.memory a) (sym is) copied.rewritten) (subst (LowWords m b back.memory a) (sym is) copied.same) in
              record {
                memory = back.memory;
                word = back.word;
                after = then.after;
                ahead = then.ahead;
                here = then.then;
                gives = tt;
                lines = back.lines;
                few = (let f = back.few in let e = size in omega (arith, f, e, is));
                behind = (back.steps fresh s.0).0;
                runs = (back.steps fresh s.0).1;
              }
            where
              cell_in : (c : ℕ) → IsOpen m c (shape_bytes t) → shape_bytes t ≡ 4 * suc j → (k : ℕ) → c ≤ k → k + 4 ≤ c + 4 * suc j → k % 4 ≡ 0 → Cell m k
              cell_in c o is k lo hi even =
                  let whole = o.whole in
                  cell_by m (sized z low top hand d w m x) k
                  (ap (λ i. may_put m i Word) (let e : k ≡ c + (k - c) = omega (arith, lo) in e)
                  ∙ o.may (k - c) (omega (arith, lo, hi, is)) (omega (arith, lo, even, whole)))

  -- ---- the deeds

  plain_deed : (hook : Hook) → IsMade z.table (surroundings z) live procs fresh hook → (ty : ℕ) → has_hooks z.table ty ≡ false → (l from : Location)
      → hook_deed (known_in z.table) hook ty l from ≡ bits l from
  plain_deed hook made ty bare l from = plain_walk (walk_of hook) (form_in (known_in z.table) ty) bare l from ∙ plainly hook made
    where
      plainly : (hook : Hook) → IsMade z.table (surroundings z) live procs fresh hook → (walk_of hook).plainly l from ≡ bits l from
      plainly Copies made = refl
      plainly Assigns made = refl
      plainly Sinks made = refl
      plainly Ends made = absurd made

  pub moves_it : MovesWord z.table (surroundings z) live procs fresh
  moves_it low top h d w m l from a b ty x to of bare one hook made =
      subst (λ deed. Moves z.table (surroundings z) live procs fresh low top h d m a b (perform deed w)) (sym (plain_deed hook made ty bare l from))
      (by (is_full_at w from) refl)
    where
      by : (f : Bool) → is_full_at w from ≡ f
          → Moves z.table (surroundings z) live procs fresh low top h d m a b (perform (unless_gone f (costs (bytes (load w from)) (sets l (load w from)))) w)
      by false e = tt
      by true e = by_there (is_there w l) refl
        where
          by_there : (f : Bool) → is_there w l ≡ f → Moves z.table (surroundings z) live procs fresh low top h d m a b
              (perform (costs (bytes (load w from)) (unless_gone f (does (Stores l (load w from))))) w)
          by_there false g = tt
          by_there true g = (refl, word_moved low top h d w m l from a b ty x to of bare e g one)

  module _ (at : ℕ) (statics : List ℕ) (kept : IsKeptAt live procs at statics copies)
      (has_data : (m : Memory) → IsMemoryLike z.Homes z.start z.memory m → AreBytes m.heap → HasData at statics m) where
    pub copies_bits_it : CopiesBits z.table (surroundings z) live procs fresh
    copies_bits_it low top h d w s to_var rest l from a b ty called to of bare hook made =
        subst (λ deed. Comes z.table (surroundings z) live procs fresh low top h d (AnyWord z.table (surroundings z) live procs fresh) s to_var rest
        (λ n. bits_pace * n) (perform deed w)) (sym (plain_deed hook made ty bare l from))
        (by (is_full_at w from) refl)
      where
        by : (f : Bool) → is_full_at w from ≡ f
            → Comes z.table (surroundings z) live procs fresh low top h d (AnyWord z.table (surroundings z) live procs fresh) s to_var rest
            (λ n. bits_pace * n) (perform (unless_gone f (costs (bytes (load w from)) (sets l (load w from)))) w)
        by false e = tt
        by true e = by_there (is_there w l) refl
          where
            by_there : (f : Bool) → is_there w l ≡ f
                → Comes z.table (surroundings z) live procs fresh low top h d (AnyWord z.table (surroundings z) live procs fresh) s to_var rest
                (λ n. bits_pace * n) (perform (costs (bytes (load w from)) (unless_gone f (does (Stores l (load w from))))) w)
            by_there false g = tt
            by_there true g =
                let b' = bits_copied low top h d w s.1.memory l from a b ty called.here to of bare e g at statics kept
                (has_data s.1.memory called.here.same called.here.bytes) s refl to_var rest called.calling in (
                  refl,
                  record {
                    memory = b'.memory;
                    word = b'.word;
                    after = b'.after;
                    ahead = b'.ahead;
                    here = b'.here;
                    gives = tt;
                    lines = b'.lines;
                    few = (let f = b'.few in omega (arith, f));
                    behind = b'.behind;
                    runs = b'.runs;
                  },
                )

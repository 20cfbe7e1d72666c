-- What stands at a location is taken by its bits, whatever it has, and what its type starts at comes there; and a temporary gets what its type starts at.
use Rattle.nim_meaning.specs.Values.{Value, Location, bytes, default_of}
use Rattle.nim_meaning.specs.Places.{exchanged, changes, may_change}
use Rattle.nim_meaning.specs.Deeds.{Answers, Stores, costs, does, give, sets, unless_gone, ◌>>=◌, ◌>>◌}
use Rattle.word_lowering.specs.declared.homes.Home.{Home}
use Rattle.word_lowering.proofs.BitStores.{IsPutThere, bits_put}
use Rattle.word_lowering.proofs.SwapBits.{PointsAt}
use Rattle.word_lowering.specs.Spots.{starts as starts_code, address, cleared, clears, moved, moves, spot_of, zeros}
use Rattle.word_lowering.proofs.Lines.{changed as with_changes, starts, Basis, IsGood, Settles, all_procs, all_sites, changed_later, data_there, goes_on}
use Rattle.word_lowering.proofs.Lines.{known, reaches, stands_next, where_there}
use Rattle.word_lowering.proofs.RoutineCalls.{awaiting, clear_called}
use Rattle.word_lowering.proofs.ValuesRead.{words_behind, IsRead, value_read}
use Rattle.word_lowering.proofs.HookedMoves.{BitsTo, blank_arrived}
use Rattle.word_lowering.proofs.Located.{IsStoredAt, full_there, owned_readable, owned_stored}
use Rattle.word_lowering.proofs.Scenes.{Points, house, is_fixed, of_value, StoredIn, looked}
use Rattle.word_lowering.proofs.StoredLater.{shape_some, shape_whole}
use Rattle.word_lowering.proofs.ValuesMoved.{awaits_behind}
use Rattle.word_lowering.proofs.BlankShapes.{blank_in, of_handles, zeros_stored}
use Rattle.word_lowering.proofs.OrdinalRuns.{AllSame}
use Rattle.flat_code.specs.declared.block.BlockLine.{BlockLine}
use Rattle.word_lowering.proofs.Related.{Both, MemoryGood, body_of, high, routines, store_of, within}
use Rattle.word_code.proofs.ForCallers.{Changed, Runs, Within, at, got, then_runs}
use Rattle.word_lowering.specs.declared.homes.TheConstants.{FIRST, SECOND}
use Rattle.heap_memory.specs.declared.numbers.TheConstants.{HEAP_DATA}
use Rattle.word_lowering.specs.declared.homes.Housed.{Housed}
use Rattle.word_lowering.proofs.Moves.{IsArea, address_runs, high_behind, points_same, same_first, same_more, same_second, starts_there, words_of}
use Rattle.word_lowering.specs.declared.spots.Spot.TheVariants.{Lies}
use Rattle.word_lowering.proofs.Sites.{Linked, Site, is_one_word}
use Rattle.std.proofs.Common.{List, [], ap, ap₂, arith, false, refl, subst, suc, sym, true, ℕ, ◌%◌, ◌*◌, ◌+◌, ◌<◌, ◌^◌, ◌∙◌, ◌∷◌, ◌≡◌, ◌≤◌}
use Rattle.word_code.specs.Memory.{Memory}
use Rattle.flat_code.specs.Scene.{Passes, with_value}
use Rattle.word_lowering.proofs.Sources.{Readable}
use Rattle.flat_code.specs.Shapes.{Shape, has_shape, shape_of}
use Rattle.word_lowering.proofs.Blocks.{Stored}
use Rattle.word_code.specs.Words.{Vars, no_words, put}
use Rattle.word_code.specs.declared.word.WordInstr.{WordInstr}
use Rattle.word_code.specs.RoutineTable.{ZeroWords}
use Rattle.word_lowering.proofs.Settling.{code_here, code_next}
use Rattle.nim_types.specs.Table.{facts_in, type_at}
use Rattle.flat_code.specs.Lines.{gives}
use Rattle.word_lowering.proofs.Gets.{good_item, same_temps}
use Rattle.word_lowering.proofs.SitesApart.{houses}
use Rattle.nim_meaning.specs.State.{is_full_at, is_there, load, store}
use Rattle.flat_code.specs.Running.{scene_of}
use Rattle.word_lowering.proofs.ShapeFacts.{shape_bytes}
use Rattle.word_lowering.proofs.FullValues.{stored_bytes}

-- ---- zeros come to an address to which a home points

module _ (x : Basis) (sites : List Site) (linked : Linked x.table x.blocks sites) (c : Within) (from_first : c.proc.data_from ≡ HEAP_DATA) (words : Vars)
    (m : Memory) (good : MemoryGood x.table x.blocks sites x.first m) (k : List WordInstr) (v : Vars) where
  pub record BytesCleared (lines : List WordInstr) (a n : ℕ) : Type 0 where
    pub vars : Vars
    pub memory : Memory
    pub kept : AllSame v vars
    pub changed : Changed m memory a n
    pub zeros_there : ZeroWords memory a n
    pub steps : ℕ
    pub some : 0 < steps
    pub few : steps ≤ 9 + n
    pub runs : Runs x.live (all_procs x) steps (at c m lines v words) (at (awaiting c FIRST) memory k vars no_words)

  pub bytes_cleared : (home : Home) (a n : ℕ) → Points c.base v home a → n % 4 ≡ 0 → 4 ≤ n → IsArea m a n → a + n < 2 ^ 32
      → BytesCleared (cleared false n (Lies home) k) a n
  bytes_cleared home a n points whole some area near = by (words_of n whole some)
    where
      by : (j : ℕ) × (n ≡ 4 * suc j) → BytesCleared (cleared false n (Lies home) k) a n
      by (j, is) =
          let v1 : Vars = put v FIRST a in
          let k2 : List WordInstr = zeros false n k in
          let r1 : Runs x.live (all_procs x) 1 (at c m (address FIRST home ∷ k2) v words) (at c m k2 v1 words)
          = address_runs x.law x.live (all_procs x) c from_first words m k2 v FIRST home a points in
          let r2 = clear_called x.law x.live (all_procs x) (routines x.table x.blocks) x.runtimes.others.statics (reaches x) c k j m a v1 words
          (got a (omega (arith, near))) (omega (arith, near, is)) good.sized (data_there x sites m good) (area (suc j) (omega (arith, is))) in
          let clear = r2.is in
          let few = r2.few in
          let w : Vars = put (put v1 SECOND (4 * suc j)) FIRST r2.word in
          record {
            vars = w;
            memory = r2.memory;
            kept = same_more v v1 w (same_first v a) (same_more v1 (put v1 SECOND (4 * suc j)) w (same_second v1 (4 * suc j))
                (same_first (put v1 SECOND (4 * suc j)) r2.word));
            changed = subst (Changed m r2.memory a) (sym is) clear.changed;
            zeros_there = subst (ZeroWords r2.memory a) (sym is) clear.zeros;
            steps = 1 + (3 + r2.steps);
            some = omega arith;
            few = omega (arith, is, few);
            runs = then_runs x.live (all_procs x) r1
                (subst (λ i. Runs x.live (all_procs x) (3 + r2.steps) (at c m (zeros false i k) v1 words)
                (at (awaiting c FIRST) r2.memory k w no_words)) (sym is) r2.runs);
          }

-- ---- the lines

module _ (x : Basis) (g : Both) (line : BlockLine) (rest : List BlockLine) (y : IsGood x (starts g line rest)) (to ty : ℕ)
    (into : BitsTo x g line rest y (of_value to) (shape_of (facts_in x.table) (type_at (known x).types ty)))
    (handles : of_handles (shape_of (facts_in x.table) (type_at (known x).types ty)) ≡ true)
    (many : is_one_word (shape_of (facts_in x.table) (type_at (known x).types ty)) ≡ false) where
  abbrev t : Shape
  t = shape_of (facts_in x.table) (type_at (known x).types ty)

  abbrev start_value : Value
  start_value = default_of (facts_in x.table) (type_at (known x).types ty)

  abbrev next : List WordInstr
  next = code_next x g line rest y

  abbrev into_house : Housed
  into_house = house g.call.site (of_value to)

  size_is : shape_bytes t ≡ (house g.call.site (of_value to)).bytes
  size_is = ap shape_bytes (sym into.look) ∙ (houses x.table x.blocks g.call.site (of_value to) y.linked.0 into.there).bytes

  start_shaped : has_shape (blank_in t) t ≡ true
  start_shaped = subst (λ u. has_shape u t ≡ true) (x.blanks ty) (x.defaults ty)

  -- what its type starts at
  pub default_settles : code_here x g line rest y ≡ starts_code (house g.call.site (of_value to)).bytes (house g.call.site (of_value to))
      (code_next x g line rest y)
      → Settles x (starts g line rest) rest (gives (scene_of (high x.table x.blocks (starts g line rest))) to
      (costs 1 (costs (bytes (default_of (facts_in x.table) (type_at (known x).types ty)))
      (give (default_of (facts_in x.table) (type_at (known x).types ty)))) >>= (λ v. give v)))
  default_settles code =
      let a = blank_arrived x g line rest y (of_value to) ty into handles many next in
      let some : 4 ≤ into_house.bytes = subst (λ i. 4 ≤ i) size_is (shape_some t) in
      let c = a.changes in
      let few = c.few in
      goes_on x (starts g line rest)
      (with_changes g rest (with_value to g.call.temps start_value) c.vars c.memory c.words c.awaits g.world) rest
      (good_item x g line rest y rest (stands_next x.table x.blocks (body_of g) line rest y.stands) (clears into_house next) next to start_value
      (9 + bytes start_value) into.there c (a.item (with_value to g.call.temps start_value)))
      c.steps (1 + (bytes start_value + 0)) (with_value to g.call.temps start_value) g.world
      (subst (λ l. Runs x.live (all_procs x) c.steps (at (within x.table x.blocks g) g.memory l g.call.vars g.words)
      (at (awaiting (within x.table x.blocks g) c.awaits) c.memory next c.vars c.words)) (sym (code ∙ starts_there into_house.bytes into_house next some))
      c.runs) c.some (omega (arith, few)) refl

  -- ---- what stands at a location is taken

  module _ (l : Location) (from : Housed) (home : Home) (lies : spot_of from ≡ Lies home) (no_word : from.is_word ≡ false)
      (from_size : from.bytes ≡ shape_bytes (shape_of (facts_in x.table) (type_at (known x).types ty)))
      (e : PointsAt x g line rest y l (shape_of (facts_in x.table) (type_at (known x).types ty)) home)
      (code : code_here x g line rest y ≡ moves (house g.call.site (of_value to)) from (clears from (code_next x g line rest y)))
      (full : is_full_at g.world l ≡ true) where
    abbrev here : Both
    here = starts g line rest

    abbrev v : Value
    v = load g.world l

    abbrev clearing : List WordInstr
    clearing = cleared false (shape_bytes t) (Lies home) next

    read : IsStoredAt x here y v e.address t
    read = owned_stored x here y l e.address t e.owned full

    live : is_there g.world l ≡ true
    live = (full_there x here y l full).0

    size : bytes v ≡ shape_bytes t
    size = stored_bytes (is_fixed g.ground) g.ground.blocks g.memory e.address t v read.stored read.shaped

    code_is : code_here x g line rest y ≡ moved into_house.is_word into_house.bytes (spot_of into_house) (Lies home) clearing
    code_is =
        let h = houses x.table x.blocks g.call.site (of_value to) y.linked.0 into.there in
        code ∙ ap₂ (λ b n. moved b n (spot_of into_house) (spot_of from) (clears from next)) (no_word ∙ sym (sym h.word ∙ (ap is_one_word into.look ∙ many)))
        (from_size ∙ size_is)
        ∙ ap₂ (λ p q. moved into_house.is_word into_house.bytes (spot_of into_house) p q) lies
        (ap₂ (λ b n. cleared b n (spot_of from) next) no_word from_size ∙ ap (λ p. cleared false (shape_bytes t) p next) lies)

    abbrev Read : Type 0
    Read = IsRead x g line rest y to into.there v home (high_behind home e.high) e.address e.points
        (subst (λ s. StoredIn (store_of g) e.address s v) (sym into.look) read.stored)
        (subst (λ s. has_shape v s ≡ true) (sym into.look) read.shaped)
        (subst (λ s. Readable x (all_sites x g line rest y) y.linked g.memory e.address (shape_bytes s)) (sym into.look) read.readable)
        (line ∷ rest) y.stands clearing
        (awaits_behind (is_one_word (looked x.table g.call.site (of_value to))) g.awaits)
        (words_behind (is_one_word (looked x.table g.call.site (of_value to))) g.words)

    taken : Read
    taken = value_read x g line rest y to into.there v home (high_behind home e.high) e.address e.points
        (subst (λ s. StoredIn (store_of g) e.address s v) (sym into.look) read.stored)
        (subst (λ s. has_shape v s ≡ true) (sym into.look) read.shaped)
        (subst (λ s. Readable x (all_sites x g line rest y) y.linked g.memory e.address (shape_bytes s)) (sym into.look) read.readable)
        (line ∷ rest) y.stands clearing

    many_here : is_one_word (looked x.table g.call.site (of_value to)) ≡ false
    many_here = ap is_one_word into.look ∙ many

    abbrev then : Both
    then = with_changes g (line ∷ rest) (with_value to g.call.temps v) taken.vars taken.memory
        (words_behind (is_one_word (looked x.table g.call.site (of_value to))) g.words)
        (awaits_behind (is_one_word (looked x.table g.call.site (of_value to))) g.awaits) g.world

    good : IsGood x (starts then line rest)
    good = taken.good

    stay : AllSame g.call.vars taken.vars
    stay = taken.stay many_here

    range : Readable x (all_sites x then line rest good) good.linked taken.memory e.address (shape_bytes t)
    range = owned_readable x (starts then line rest) good l e.address t e.owned live

    blank : BytesCleared x (all_sites x then line rest good) good.linked (within x.table x.blocks then) refl then.words taken.memory good.memory next taken.vars
        clearing e.address (shape_bytes t)
    blank =
        bytes_cleared x (all_sites x then line rest good) good.linked (within x.table x.blocks then) refl then.words taken.memory good.memory next taken.vars
        home e.address (shape_bytes t)
        (points_same x.law x.live (all_procs x) (within x.table x.blocks g) refl g.words g.call.vars taken.vars home e.address e.high stay e.points)
        (shape_whole t) (shape_some t) range.area range.near

    blank_stands : Stored (is_fixed then.ground) then.ground.blocks blank.memory e.address t start_value
    blank_stands =
        subst (λ u. Stored (is_fixed then.ground) then.ground.blocks blank.memory e.address t u) (sym (x.blanks ty))
        (zeros_stored (is_fixed then.ground) then.ground.blocks blank.memory e.address t handles start_shaped blank.zeros_there)

    start_size : bytes start_value ≡ shape_bytes t
    start_size = stored_bytes (is_fixed then.ground) then.ground.blocks blank.memory e.address t start_value blank_stands (x.defaults ty)

    put_back : IsPutThere x then line rest good l e.address t live start_value (x.defaults ty) blank.memory blank.changed blank_stands e.owned
    put_back = bits_put x then line rest good l e.address t live start_value (x.defaults ty) blank.memory blank.changed blank_stands e.owned

    moved_out : is_there g.world l ≡ true → Settles x (starts g line rest) rest (Passes (Answers [] (1 + (bytes start_value + 0))
        (with_value to g.call.temps v) (store g.world l start_value)))
    moved_out there =
        let few = taken.few in
        let more = blank.few in
        let long = ap shape_bytes into.look in
        let full_size = start_size in
        goes_on x (starts g line rest)
        (changed_later then rest (with_value to g.call.temps v) blank.vars blank.memory no_words FIRST (store g.world l start_value) put_back.ground g.input)
        rest
        (put_back.good rest (stands_next x.table x.blocks (body_of g) line rest y.stands) (with_value to g.call.temps v) (same_temps x then line rest good)
        blank.vars no_words FIRST blank.kept)
        (taken.steps + blank.steps) (1 + (bytes start_value + 0)) (with_value to g.call.temps v) (store g.world l start_value)
        (subst (λ c. Runs x.live (all_procs x) (taken.steps + blank.steps) (at (within x.table x.blocks g) g.memory c g.call.vars g.words)
        (at (awaiting (within x.table x.blocks g) FIRST) blank.memory next blank.vars no_words)) (sym code_is)
        (then_runs x.live (all_procs x) taken.runs blank.runs))
        (let s = taken.some in omega (arith, s)) (omega (arith, few, more, long, full_size)) refl

  pub move_settles : (l : Location) (from : Housed) (home : Home) → spot_of from ≡ Lies home → from.is_word ≡ false
      → from.bytes ≡ shape_bytes (shape_of (facts_in x.table) (type_at (known x).types ty))
      → (may_change l.base ≡ true → PointsAt x g line rest y l (shape_of (facts_in x.table) (type_at (known x).types ty)) home)
      → code_here x g line rest y ≡ moves (house g.call.site (of_value to)) from (clears from (code_next x g line rest y))
      → Settles x (starts g line rest) rest (gives (scene_of (high x.table x.blocks (starts g line rest))) to
      (costs 1 (exchanged l (default_of (facts_in x.table) (type_at (known x).types ty))) >>= (λ v. give v)))
  move_settles l from home lies no_word from_size e code =
      where_there x (starts g line rest) rest (is_full_at g.world l)
      (λ b. gives (scene_of (high x.table x.blocks (starts g line rest))) to (costs 1 (costs (bytes start_value)
      (unless_gone b (changes l start_value >> give (load g.world l)))) >>= (λ v. give v))) (λ before. tt)
      (λ full. where_there x (starts g line rest) rest (may_change l.base)
      (λ b. gives (scene_of (high x.table x.blocks (starts g line rest))) to (costs 1 (costs (bytes start_value)
      (unless_gone b (sets l start_value) >> give (load g.world l))) >>= (λ v. give v))) (λ before. tt)
      (λ may. where_there x (starts g line rest) rest (is_there g.world l)
      (λ b. gives (scene_of (high x.table x.blocks (starts g line rest))) to (costs 1 (costs (bytes start_value)
      (unless_gone b (does (Stores l start_value)) >> give (load g.world l))) >>= (λ v. give v))) (λ before. tt)
      (λ there. moved_out l from home lies no_word from_size (e may) code full there)))

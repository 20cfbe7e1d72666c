-- What stands at two locations trades places, by its bits, whatever it has.
use Rattle.nim_meaning.specs.Values.{Value, Location, bytes}
use Rattle.nim_meaning.specs.Deeds.{Answers}
use Rattle.word_lowering.specs.declared.homes.Home.{Home}
use Rattle.word_lowering.proofs.BitStores.{IsPutThere, bits_put}
use Rattle.word_lowering.proofs.Located.{IsStoredAt, full_there, owned_readable, owned_stored}
use Rattle.word_lowering.proofs.Scenes.{FromOwned, Points, is_fixed}
use Rattle.word_lowering.proofs.StoredLater.{shape_some, shape_whole, stored_small}
use Rattle.word_lowering.proofs.SwapLocations.{locations_apart, owned_open}
use Rattle.word_lowering.proofs.Lines.{Basis, IsGood, Settles, all_procs, all_sites, changed_later, data_there, goes_on, reaches, stands_next, starts}
use Rattle.flat_code.specs.declared.block.BlockLine.{BlockLine}
use Rattle.word_lowering.proofs.Related.{Both, body_of, routines, within}
use Rattle.word_code.proofs.ForCallers.{Changed, Runs, at}
use Rattle.word_lowering.specs.declared.homes.TheConstants.{FIRST}
use Rattle.word_lowering.proofs.Moves.{IsHigh, all_same, words_of}
use Rattle.std.proofs.Common.{List, [], ap, arith, false, refl, subst, suc, sym, true, ℕ, ◌*◌, ◌+◌, ◌∙◌, ◌∷◌, ◌≡◌}
use Rattle.word_code.specs.RoutineTable.{LowWords, Separate}
use Rattle.word_code.specs.Memory.{Memory, as_state}
use Rattle.flat_code.specs.Scene.{Passes, Temps}
use Rattle.word_lowering.proofs.Sources.{Readable}
use Rattle.word_lowering.proofs.Gets.{SameTemps, same_temps}
use Rattle.flat_code.specs.Shapes.{Shape}
use Rattle.word_lowering.proofs.Sites.{Site}
use Rattle.word_lowering.proofs.Blocks.{Stored}
use Rattle.word_lowering.proofs.SwapRuns.{Swapped, swap_called}
use Rattle.word_lowering.proofs.TradedWords.{TwoWrites, two_writes}
use Rattle.word_code.specs.declared.word.WordInstr.{WordInstr}
use Rattle.nim_meaning.specs.State.{World, is_full_at, is_there, load, store}
use Rattle.word_lowering.proofs.RoutineCalls.{awaiting}
use Rattle.word_lowering.proofs.Settling.{code_here, code_next}
use Rattle.word_lowering.proofs.BlocksBorn.{later_same}
use Rattle.word_lowering.proofs.BitMoves.{low_carried}
use Rattle.word_code.specs.Words.{no_words}
use Rattle.word_lowering.proofs.ShapeFacts.{shape_bytes}
use Rattle.word_lowering.proofs.FullValues.{stored_bytes}
use Rattle.word_lowering.specs.LineCode.{swap_code}
use Rattle.rv32_isa.specs.State.{writable}

-- a home points to the address of a location that may be written
pub record PointsAt (x : Basis) (g : Both) (line : BlockLine) (rest : List BlockLine) (y : IsGood x (starts g line rest)) (l : Location) (t : Shape)
    (home : Home) : Type 0 where
  pub high : IsHigh home
  pub address : ℕ
  pub points : Points g.call.site.base g.call.vars home address
  pub owned : FromOwned x.table (all_sites x g line rest y) g.ground g.world l address t

module _ (x : Basis) (g : Both) (line : BlockLine) (rest : List BlockLine) (y : IsGood x (starts g line rest)) (l m : Location) (t : Shape)
    (left right : Home) (e : PointsAt x g line rest y l t left) (f : PointsAt x g line rest y m t right) (temps : Temps)
    (same_at : SameTemps x g line rest y temps) (full_left : is_full_at g.world l ≡ true) (full_right : is_full_at g.world m ≡ true) where
  abbrev here : Both
  here = starts g line rest

  abbrev sites : List Site
  sites = all_sites x g line rest y

  abbrev v : Value
  v = load g.world l

  abbrev w : Value
  w = load g.world m

  read_left : IsStoredAt x here y v e.address t
  read_left = owned_stored x here y l e.address t e.owned full_left

  read_right : IsStoredAt x here y w f.address t
  read_right = owned_stored x here y m f.address t f.owned full_right

  live_left : is_there g.world l ≡ true
  live_left = (full_there x here y l full_left).0

  live_right : is_there g.world m ≡ true
  live_right = (full_there x here y m full_right).0

  size_left : bytes v ≡ shape_bytes t
  size_left = stored_bytes (is_fixed g.ground) g.ground.blocks g.memory e.address t v read_left.stored read_left.shaped

  size_right : bytes w ≡ shape_bytes t
  size_right = stored_bytes (is_fixed g.ground) g.ground.blocks g.memory f.address t w read_right.stored read_right.shaped

  -- the world in between
  abbrev world : World
  world = store g.world m v

  module _ (live_then : is_there world l ≡ true) (j : ℕ) (words : shape_bytes t ≡ 4 * suc j) where
    range_left : Readable x sites y.linked g.memory e.address (shape_bytes t)
    range_left = owned_readable x here y l e.address t e.owned live_left

    range_right : Readable x sites y.linked g.memory f.address (shape_bytes t)
    range_right = owned_readable x here y m f.address t f.owned live_right

    apart : Separate e.address f.address (4 * suc j)
    apart = subst (Separate e.address f.address) words (locations_apart x here y l m e.address f.address t e.owned f.owned live_left live_right)

    called : Swapped x.law x.live (all_procs x) (within x.table x.blocks g) refl g.memory (code_next x g line rest y) j left right e.address f.address
        g.call.vars g.words
    called =
        let near_left = range_left.near in
        let near_right = range_right.near in
        swap_called x.law x.live (all_procs x) (within x.table x.blocks g) refl g.memory (routines x.table x.blocks) x.runtimes.others.statics (reaches x)
        (code_next x g line rest y) j left right e.address f.address g.call.vars g.words e.points f.high f.points
        (omega (arith, near_left, words)) (omega (arith, near_right, words)) y.memory.sized (data_there x sites g.memory y.memory)
        (range_left.area (suc j) (omega (arith, words))) (range_right.area (suc j) (omega (arith, words))) apart

    abbrev memory : Memory
    memory = called.memory

    writes : TwoWrites g.memory memory e.address f.address (4 * suc j)
    writes = two_writes x.law g.memory memory y.memory.sized y.memory.bytes e.address f.address (4 * suc j) (omega arith)
        (subst (λ n. writable (as_state g.memory) e.address n ≡ true) words (owned_open x here y l e.address t e.owned live_left)) called.is apart

    -- with the first value at the second location alone
    abbrev middle : Memory
    middle = writes.middle

    first_write : Changed g.memory middle f.address (shape_bytes t)
    first_write = subst (Changed g.memory middle f.address) (sym words) writes.first

    second_write : Changed middle memory e.address (shape_bytes t)
    second_write = subst (Changed middle memory e.address) (sym words) writes.second

    v_there : Stored (is_fixed g.ground) g.ground.blocks middle f.address t v
    v_there =
        stored_small (is_fixed g.ground) g.ground.blocks g.ground.blocks (later_same g.ground.blocks) g.memory middle e.address f.address t v
        (low_carried g.memory middle e.address f.address (shape_bytes t) (subst (LowWords g.memory e.address middle f.address) (sym words) writes.there))
        read_left.stored

    first_put : IsPutThere x g line rest y m f.address t live_right v read_left.shaped middle first_write v_there f.owned
    first_put = bits_put x g line rest y m f.address t live_right v read_left.shaped middle first_write v_there f.owned

    abbrev between : Both
    between = changed_later g (line ∷ rest) temps called.vars middle no_words FIRST world first_put.ground g.input

    good_between : IsGood x (starts between line rest)
    good_between = first_put.good (line ∷ rest) y.stands temps same_at called.vars no_words FIRST called.same

    -- what stood at the second one is carried to the first, as the blocks are then
    w_there : Stored (is_fixed between.ground) between.ground.blocks memory e.address t w
    w_there =
        first_put.kept memory f.address e.address t w
        (low_carried g.memory memory f.address e.address (shape_bytes t)
        (subst (LowWords g.memory f.address memory e.address) (sym words) called.is.to_left)) read_right.stored

    second_put : IsPutThere x between line rest good_between l e.address t live_then w read_right.shaped memory second_write w_there
        (first_put.leads l e.address t e.owned)
    second_put =
        bits_put x between line rest good_between l e.address t live_then w read_right.shaped memory second_write w_there
        (first_put.leads l e.address t e.owned)

    trade_settles : code_here x g line rest y ≡ swap_code false left right (shape_bytes t) (code_next x g line rest y)
        → Settles x (starts g line rest) rest (Passes (Answers [] (1 + (bytes v + (bytes w + 0))) temps (store world l w)))
    trade_settles code =
        let long_left = size_left in
        let long_right = size_right in
        let few = called.few in
        let next : List WordInstr = code_next x g line rest y in
        goes_on x (starts g line rest) (changed_later between rest temps called.vars memory no_words FIRST (store world l w) second_put.ground g.input) rest
        (second_put.good rest (stands_next x.table x.blocks (body_of g) line rest y.stands) temps (same_temps x between line rest good_between) called.vars
        no_words FIRST (all_same called.vars)) called.steps (1 + (bytes v + (bytes w + 0))) temps (store world l w)
        (subst (λ c. Runs x.live (all_procs x) called.steps (at (within x.table x.blocks g) g.memory c g.call.vars g.words)
        (at (awaiting (within x.table x.blocks g) FIRST) memory next called.vars no_words))
        (sym (code ∙ ap (λ n. swap_code false left right n next) words)) called.runs)
        called.some (omega (arith, long_left, long_right, words, few)) refl

  pub swap_settles : is_there (store g.world m (load g.world l)) l ≡ true
      → code_here x g line rest y ≡ swap_code false left right (shape_bytes t) (code_next x g line rest y)
      → Settles x (starts g line rest) rest (Passes (Answers []
      (1 + (bytes (load g.world l) + (bytes (load g.world m) + 0))) temps (store (store g.world m (load g.world l)) l (load g.world m))))
  swap_settles live_then code = let n = words_of (shape_bytes t) (shape_whole t) (shape_some t) in trade_settles live_then n.0 n.1 code

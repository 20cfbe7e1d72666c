-- The value of a temporary comes to an address: a word from its variable, or all of its bits from its home.
use Rattle.rv32_isa.specs.declared.micro_op.Size.TheVariants.{Word as whole}
use Rattle.nim_meaning.specs.Values.{number_of, Value, Number, Parts, Handle, Fixed, Ref, Resource, Gone, Vacant}
use Rattle.flat_code.specs.Shapes.{is_ordinal, Shape, number, has_shape, block, elements, parts, reference, resource, row}
use Rattle.word_code.specs.Words.{Vars, no_words, put}
use Rattle.word_lowering.proofs.Blocks.{AreLater, Blocks, Stored}
use Rattle.word_lowering.proofs.Scenes.{AtHome, IsThere, Points, address_of, house, is_fixed, looked, of_value}
use Rattle.word_lowering.proofs.Lines.{Basis, IsGood, all_procs, all_sites, starts}
use Rattle.flat_code.specs.declared.block.BlockLine.{BlockLine}
use Rattle.std.proofs.Common.{Bool, List, Ok, Option, Some, ap, ap₂, arith, inl, refl, subst, sym, ℕ, ℤ, ◌*◌, ◌+◌, ◌<◌, ◌^◌, ◌∙◌, ◌∷◌, ◌≡◌, ◌≤◌, false, true}
use Rattle.std.proofs.Common.{inr}
use Rattle.word_lowering.proofs.Related.{Both, MemoryGood, store_of}
use Rattle.word_lowering.proofs.InMemory.{Carries}
use Rattle.word_code.specs.RoutineTable.{Cell, Separate}
use Rattle.word_lowering.proofs.AddressFacts.{high_in_memory, in_memory}
use Rattle.word_code.proofs.ForCallers.{put_here, Changed, Runs, Within, at, changed_word, got, run_store, then_runs}
use Rattle.word_lowering.specs.declared.homes.TheConstants.{FIRST, FIFTH}
use Rattle.heap_memory.specs.declared.numbers.TheConstants.{HEAP_DATA}
use Rattle.word_lowering.specs.declared.homes.Home.{Home}
use Rattle.word_lowering.specs.declared.homes.Housed.{Housed}
use Rattle.word_lowering.proofs.Sites.{InMemory, Site, is_one_word}
use Rattle.word_lowering.proofs.Moves.{IsArea, address_runs, high_behind, same_first}
use Rattle.word_lowering.specs.declared.spots.Spot.TheVariants.{Lies}
use Rattle.word_lowering.proofs.Sources.{Lying, lying_all, lying_range, lying_readable}
use Rattle.word_code.specs.Memory.{Memory, number_at, with_number}
use Rattle.word_code.specs.declared.word.WordInstr.TheVariants.{Store}
use Rattle.word_code.specs.declared.word.WordInstr.{WordInstr}
use Rattle.word_lowering.specs.Spots.{address, moved, spot_of}
use Rattle.word_lowering.proofs.RoutineCalls.{awaiting}
use Rattle.word_lowering.proofs.BitMoves.{bytes_moved, low_carried}
use Rattle.word_lowering.proofs.Keeping.{from_home, points_there, spot_memory}
use Rattle.word_lowering.proofs.SitesApart.{houses, InRange, site_at}
use Rattle.word_lowering.proofs.ValueFacts.{in_word, value_plain}
use Rattle.word_lowering.proofs.BlocksBorn.{later_same}
use Rattle.word_lowering.proofs.ShapeFacts.{never, shape_bytes}
use Rattle.word_lowering.proofs.StoredLater.{shape_some, shape_whole, stored_kept, stored_small, word_below}
use Rattle.word_lowering.specs.Operations.{word}
use Rattle.word_lowering.proofs.OrdinalRuns.{AllSame, put_low, put_other}

-- the call whose result is awaited behind a value that came: bits come by a routine
abbrev pub awaits_behind : (one_word : Bool) → (before : ℕ) → ℕ
awaits_behind true before = before
awaits_behind false before = FIRST

module _ (x : Basis) (g : Both) (line : BlockLine) (rest : List BlockLine) (y : IsGood x (starts g line rest)) (t : ℕ) (v : Value)
    (there : IsThere g.call.site (of_value t)) (has : g.call.temps.values t ≡ Some v) where
  abbrev sites : List Site
  sites = all_sites x g line rest y

  abbrev pub from : Housed
  from = house g.call.site (of_value t)

  abbrev pub shape : Shape
  shape = looked x.table g.call.site (of_value t)

  abbrev at_home : ℕ
  at_home = address_of g.call.site.base (house g.call.site (of_value t)).home

  pub size_is : shape_bytes (looked x.table g.call.site (of_value t)) ≡ (house g.call.site (of_value t)).bytes
  size_is = (houses x.table x.blocks g.call.site (of_value t) y.linked.0 there).bytes

  pub value_shaped : has_shape v (looked x.table g.call.site (of_value t)) ≡ true
  value_shaped = (y.hold.0.items (of_value t) v there has).shaped refl

  -- what is no word has a home in memory
  pub in_places : is_one_word (looked x.table g.call.site (of_value t)) ≡ false → InMemory (house g.call.site (of_value t)).home
  in_places many = in_memory x g line rest y (of_value t) there (value_plain (house g.call.site (of_value t)) there.kind) many

  -- no value is as large as the machine's stack
  pub size_small : shape_bytes (looked x.table g.call.site (of_value t)) < 2 ^ 31
  size_small = by (looked x.table g.call.site (of_value t)) refl
    where
      far : is_one_word (looked x.table g.call.site (of_value t)) ≡ false → shape_bytes (looked x.table g.call.site (of_value t)) < 2 ^ 31
      far many = range (lying_range x sites y.linked at_home (shape_bytes shape)
          (lying_all x sites y.linked g.call.site (of_value t) (shape_bytes shape) (inl refl) there (in_places many) (sym size_is)))
        where
          range : InRange x.table x.blocks g.call.site at_home (shape_bytes shape) → shape_bytes shape < 2 ^ 31
          range (inl r) = let d = x.small in omega (arith, r.2, d)
          range (inr r) =
              let s = site_at x.table x.blocks sites g.call.site y.linked (inl refl) in
              let most = s.most in
              let e = x.within sites y.linked in
              omega (arith, r.1, most, e)

      by : (s : Shape) → looked x.table g.call.site (of_value t) ≡ s → shape_bytes (looked x.table g.call.site (of_value t)) < 2 ^ 31
      by (number values) look = let e = ap shape_bytes look in omega (arith, e)
      by reference look = far (ap is_one_word look)
      by block look = far (ap is_one_word look)
      by (elements s) look = far (ap is_one_word look)
      by (row n s) look = far (ap is_one_word look)
      by (parts ss) look = far (ap is_one_word look)
      by (resource ss) look = far (ap is_one_word look)

  -- ---- to an address to which a home points, in a memory in which the value's home holds what it did

  module _ (c : Within) (from_first : c.proc.data_from ≡ HEAP_DATA) (based : c.base ≡ g.call.site.base) (m : Memory)
      (good : MemoryGood x.table x.blocks (all_sites x g line rest y) x.first m)
      (still : InMemory (house g.call.site (of_value t)).home
      → Carries g.memory m (address_of g.call.site.base (house g.call.site (of_value t)).home)
      (address_of g.call.site.base (house g.call.site (of_value t)).home) (house g.call.site (of_value t)).bytes)
      (vars : Vars) (same : AllSame g.call.vars vars) (to : Home) (a : ℕ) (points : Points c.base vars to a)
      (area : IsArea m a (shape_bytes (looked x.table g.call.site (of_value t)))) (near : a + shape_bytes (looked x.table g.call.site (of_value t)) < 2 ^ 32)
      (apart : InMemory (house g.call.site (of_value t)).home
      → Separate a (address_of g.call.site.base (house g.call.site (of_value t)).home) (house g.call.site (of_value t)).bytes)
      (k : List WordInstr) where
    pub record ComesTo (awaits : ℕ) : Type 0 where
      pub memory : Memory
      pub vars_then : Vars
      pub stay : AllSame vars vars_then
      pub fifth : vars_then FIFTH ≡ vars FIFTH
      pub changed : Changed m memory a (shape_bytes (looked x.table g.call.site (of_value t)))
      pub stored : (later : Blocks) → AreLater g.ground.blocks later
          → Stored (is_fixed g.ground) later memory a (looked x.table g.call.site (of_value t)) v
      pub steps : ℕ
      pub few : steps ≤ 10 + 2 * shape_bytes (looked x.table g.call.site (of_value t))
      pub runs : Runs x.live (all_procs x) steps
          (at c m (moved (house g.call.site (of_value t)).is_word (house g.call.site (of_value t)).bytes (Lies to) (spot_of (house g.call.site (of_value t))) k)
          vars no_words)
          (at (awaiting c awaits) memory k vars_then no_words)

    -- a word
    word_comes : (values : Option ℕ) (z : ℤ) → looked x.table g.call.site (of_value t) ≡ number values → v ≡ Number z → ComesTo c.awaits
    word_comes values z look is =
        let w = in_word x g.call.site t y.linked.0 there (ap is_one_word look) in
        let item = y.hold.0.items (of_value t) v there has in
        let shaped : is_ordinal values (Number z) ≡ true
        = subst (λ u. has_shape u (number values) ≡ true) is (subst (λ s. has_shape v s ≡ true) look value_shaped) in
        let in_place : g.call.vars w.variable ≡ Some (word z)
        = subst (λ u. g.call.vars w.variable ≡ Some (word (number_of u))) is
        (subst (λ p. AtHome (store_of g) g.call.site.base g.call.vars shape p v) w.spot item.at) in
        let reads : vars w.variable ≡ Some (word z) = same.others w.variable w.high ∙ in_place in
        let four : shape_bytes shape ≡ 4 = ap shape_bytes look in
        let small : word z < 2 ^ 32 = word_below values z shaped in
        let cell : Cell m a = (area 1 (omega (arith, four))).0 in
        let v1 : Vars = put vars FIRST a in
        let e1 : v1 w.variable ≡ Some (word z) = put_low vars FIRST a w.variable (omega arith) w.high ∙ reads in
        let last : Memory = with_number m a whole (word z) in
        let r1 : Runs x.live (all_procs x) 1 (at c m (address FIRST to ∷ Store FIRST w.variable whole ∷ k) vars no_words)
        (at c m (Store FIRST w.variable whole ∷ k) v1 no_words)
        = address_runs x.law x.live (all_procs x) c from_first no_words m (Store FIRST w.variable whole ∷ k) vars FIRST to a points in
        let r2 : Runs x.live (all_procs x) 1 (at c m (Store FIRST w.variable whole ∷ k) v1 no_words) (at c last k v1 no_words)
        = run_store x.live (all_procs x) c m k v1 no_words FIRST w.variable whole (got a (omega (arith, near))) e1 cell.may in
        let read_there : number_at last a whole ≡ Ok (word z) = put_here x.law m a (word z) good.sized cell.may small in
        record {
          memory = last;
          vars_then = v1;
          stay = same_first vars a;
          fifth = put_other vars FIRST a FIFTH (λ e. absurd (omega (arith, e)));
          changed = subst (Changed m last a) (sym four) (changed_word x.law m a (word z) good.sized cell small);
          stored = λ later ahead.
              subst (λ s. Stored (is_fixed g.ground) later last a s v) (sym look)
              (subst (λ u. Stored (is_fixed g.ground) later last a (number values) u) (sym is) (read_there, shaped));
          steps = 2;
          few = omega arith;
          runs = subst (λ p. Runs x.live (all_procs x) 2 (at c m (moved from.is_word from.bytes (Lies to) p k) vars no_words)
              (at (awaiting c c.awaits) last k v1 no_words)) (sym w.spot) (then_runs x.live (all_procs x) r1 r2);
        }

    -- all of its bits
    bits_come : is_one_word (looked x.table g.call.site (of_value t)) ≡ false → ComesTo FIRST
    bits_come many =
        let inside = in_places many in
        let item = y.hold.0.items (of_value t) v there has in
        let h = houses x.table x.blocks g.call.site (of_value t) y.linked.0 there in
        let n : ℕ = shape_bytes shape in
        let home : Home = from.home in
        let no_word : from.is_word ≡ false = sym h.word ∙ many in
        let lying : Lying x sites y.linked at_home n = lying_all x sites y.linked g.call.site (of_value t) n (inl refl) there inside (sym size_is) in
        let points_from : Points c.base vars home at_home
        = subst (λ b. Points b vars home at_home) (sym based) (points_there g.call.site.base vars home inside) in
        let r = bytes_moved x sites y.linked c from_first no_words m good k vars to home a at_home n
        (high_behind home (high_in_memory home inside)) points points_from (shape_whole shape) (shape_some shape) area near
        (lying_readable x sites y.linked m at_home n good lying) (subst (Separate a at_home) (sym size_is) (apart inside)) in
        let last : Memory = r.memory in
        let there_now : Stored (is_fixed g.ground) g.ground.blocks g.memory at_home shape v
        = from_home (store_of g) g.call.site.base g.call.vars shape from v item.plain inside item.at in
        let behind : Stored (is_fixed g.ground) g.ground.blocks m at_home shape v
        = stored_kept (is_fixed g.ground) g.ground.blocks g.ground.blocks (later_same g.ground.blocks) g.memory m at_home at_home shape v
        (subst (Carries g.memory m at_home at_home) (sym size_is) (still inside)) there_now in
        let code : moved from.is_word from.bytes (Lies to) (spot_of from) k ≡ moved false n (Lies to) (Lies home) k
        = ap₂ (λ b i. moved b i (Lies to) (spot_of from) k) no_word (sym size_is)
        ∙ ap (λ p. moved false n (Lies to) p k) (spot_memory from item.plain inside) in
        record {
          memory = last;
          vars_then = r.vars_then;
          stay = r.kept;
          fifth = r.fifth;
          changed = r.changed;
          stored = λ later ahead.
              stored_small (is_fixed g.ground) g.ground.blocks later ahead m last at_home a shape v (low_carried m last at_home a n r.same) behind;
          steps = r.steps;
          few = r.few;
          runs = subst (λ lines. Runs x.live (all_procs x) r.steps (at c m lines vars no_words) (at (awaiting c FIRST) last k r.vars_then no_words)) (sym code)
              r.runs;
        }

    pub value_comes : ComesTo (awaits_behind (is_one_word (looked x.table g.call.site (of_value t))) c.awaits)
    value_comes = by (looked x.table g.call.site (of_value t)) refl
      where
        numbers : (values : Option ℕ) → looked x.table g.call.site (of_value t) ≡ number values → (u : Value) → v ≡ u → has_shape u (number values) ≡ true
            → ComesTo c.awaits
        numbers values look (Number z) is shaped = word_comes values z look is
        numbers values look (Parts vs) is shaped = never shaped
        numbers values look (Handle n k) is shaped = never shaped
        numbers values look (Fixed text) is shaped = never shaped
        numbers values look (Ref object) is shaped = never shaped
        numbers values look (Resource vs i) is shaped = never shaped
        numbers values look (Gone u final) is shaped = never shaped
        numbers values look Vacant is shaped = never shaped

        by : (s : Shape) → looked x.table g.call.site (of_value t) ≡ s → ComesTo (awaits_behind (is_one_word s) c.awaits)
        by (number values) look = numbers values look v refl (subst (λ s. has_shape v s ≡ true) look value_shaped)
        by reference look = bits_come (ap is_one_word look)
        by block look = bits_come (ap is_one_word look)
        by (elements s) look = bits_come (ap is_one_word look)
        by (row n s) look = bits_come (ap is_one_word look)
        by (parts ss) look = bits_come (ap is_one_word look)
        by (resource ss) look = bits_come (ap is_one_word look)

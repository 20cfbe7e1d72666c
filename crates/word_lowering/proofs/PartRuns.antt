-- Parts that are moved into the place of a temporary, one after another: no other place changes.
use Rattle.std.proofs.Common.{◌≡◌, ◌≢◌, ◌⊎◌, inl, inr, ℕ, ◌+◌, ◌*◌, ◌%◌, ◌<◌, ◌≤◌, List, []}
use Rattle.std.proofs.Common.{◌∷◌, Some, true, refl, sym, subst}
use Rattle.std.proofs.Common.{◌∙◌, arith}
use Rattle.nim_meaning.specs.Values.{Value, Values, Nil, More, bytes, bytes_all}
use Rattle.flat_code.specs.declared.block.BlockLine.{BlockLine}
use Rattle.flat_code.specs.declared.line.From.{From}
use Rattle.flat_code.specs.declared.line.From.TheVariants as F
use Rattle.flat_code.specs.Shapes.{Shape, has_shape}
use Rattle.word_code.specs.declared.word.WordInstr.{WordInstr}
use Rattle.word_code.specs.Memory.{Memory}
use Rattle.word_code.specs.Words.{Vars}
use Rattle.word_code.proofs.ForCallers.{Sized, sizes_same, sizes_more, Apart, Changed, Runs, then_runs, at as run_at}
use Rattle.word_lowering.specs.declared.homes.Home.{Home}
use Rattle.word_lowering.specs.declared.homes.Home.TheVariants.{Variable, Placed, Static}
use Rattle.word_lowering.specs.declared.homes.Housed.{Housed}
use Rattle.word_lowering.specs.declared.spots.Spot.TheVariants.{Lies}
use Rattle.word_lowering.specs.Spots.{spot_of, shifted, moved}
use Rattle.word_lowering.specs.LineCode.{parts_code, operands}
use Rattle.word_lowering.proofs.SitesApart.{IsPlace}
use Rattle.word_lowering.proofs.InMemory.{IsAt, AreAt, bytes_some, bytes_whole}
use Rattle.word_lowering.proofs.RoutineCalls.{awaiting}
use Rattle.word_lowering.proofs.OrdinalRuns.{AllSame}
use Rattle.word_lowering.proofs.Moves.{same_more}
use Rattle.word_lowering.proofs.ShapeFacts.{of_numbers, values_of_numbers}
use Rattle.word_lowering.proofs.Sites.{InMemory, around, next_base}
use Rattle.word_lowering.proofs.Scenes.{IsItem, address_of, Points, of_value, house, IsThere, IsNumbers, looked}
use Rattle.word_lowering.proofs.Keeping.{call, somewhere, worlds_same, Kept, item_kept, at_beside, same_numbers, spot_memory, points_there, outside_still}
use Rattle.word_lowering.proofs.Keeping.{later_ground}
use Rattle.word_lowering.proofs.Related.{Both, body_of, within, MemoryGood, sites_of, store_of, store_with}
use Rattle.word_lowering.proofs.Lines.{Basis, all_procs, starts, IsGood, all_sites}
use Rattle.word_lowering.proofs.ValueFacts.{value_plain}
use Rattle.word_lowering.proofs.Sources.{Lying, item_source, size_is, word_is, small_word, to_bytes_by}
use Rattle.word_lowering.proofs.Gets.{memory_kept, high_variable}
use Rattle.word_lowering.proofs.ReadFacts.{item_read}
use Rattle.word_lowering.proofs.Items.{numbers_of}

-- ---- changes of memory within a range

pub changed_same : (m : Memory) (a n : ℕ) → Sized m → Changed m m a n
changed_same m a n sized =
    record { sized = sized; sizes = sizes_same m; cells = λ b c. c; outside = λ b apart. refl; beside = λ b k apart. refl }

pub changed_both : (m middle other : Memory) (a n b k lo size : ℕ) → Changed m middle a n → Changed middle other b k
    → lo ≤ a → a + n ≤ lo + size → lo ≤ b → b + k ≤ lo + size → Changed m other lo size
changed_both m middle other a n b k lo size x y low high low' high' = record {
  sized = y.sized;
  sizes = sizes_more m middle other x.sizes y.sizes;
  cells = λ c z. y.cells c (x.cells c z);
  outside = λ c apart. y.outside c (narrow c b k low' high' apart) ∙ x.outside c (narrow c a n low high apart);
  beside = λ c j apart. y.beside c j (less c j b k low' high' apart) ∙ x.beside c j (less c j a n low high apart);
}
  where
    narrow : (c a n : ℕ) → lo ≤ a → a + n ≤ lo + size → Apart c lo size → Apart c a n
    narrow c a n low high (inl h) = inl (omega (arith, h, low))
    narrow c a n low high (inr h) = inr (omega (arith, h, high))

    less : (c j a n : ℕ) → lo ≤ a → a + n ≤ lo + size → (c + j ≤ lo) ⊎ (lo + size ≤ c) → (c + j ≤ a) ⊎ (a + n ≤ c)
    less c j a n low high (inl h) = inl (omega (arith, h, low))
    less c j a n low high (inr h) = inr (omega (arith, h, high))

-- ---- homes

pub shifted_inside : (n : ℕ) (home : Home) → InMemory home → InMemory (shifted n home)
shifted_inside n (Variable v) i = absurd i
shifted_inside n (Placed at) i = tt
shifted_inside n (Static at) i = tt

pub shifted_address : (base n : ℕ) (home : Home) → InMemory home → address_of base (shifted n home) ≡ address_of base home + n
shifted_address base n (Variable v) i = absurd i
shifted_address base n (Placed at) i = omega arith
shifted_address base n (Static at) i = omega arith

module _ (x : Basis) (g : Both) (line : BlockLine) (rest : List BlockLine) (y : IsGood x (starts g line rest)) (to : ℕ) where
  -- another temporary has a value of a shape
  pub record PartOf (t : ℕ) (v : Value) (s : Shape) : Type 0 where
    pub has : g.call.temps.values t ≡ Some v
    pub there : IsThere g.call.site (of_value t)
    pub here : of_numbers (looked x.table g.call.site (of_value t)) ≡ true
    pub shaped : has_shape v s ≡ true
    pub numbers : of_numbers s ≡ true
    pub other : t ≢ to

  -- such parts, one for each operand
  abbrev pub Come : List From → Values → Type 0
  Come [] Nil = Unit {0}
  Come (F.Value t ∷ from) (More v vs) = ((s : Shape) × PartOf t v s) × Come from vs
  Come from vs = ⊥

module _ (x : Basis) (g : Both) (line : BlockLine) (rest : List BlockLine) (y : IsGood x (starts g line rest)) (to : ℕ)
    (there : IsThere g.call.site (of_value to)) (inside : InMemory (house g.call.site (of_value to)).home) where
  abbrev pub target : Housed
  target = house g.call.site (of_value to)

  abbrev pub start : ℕ
  start = address_of g.call.site.base target.home

  -- what is true behind some of the code of the line, while only that place has changed
  pub record Sofar (lines k : List WordInstr) (most : ℕ) : Type 0 where
    pub memory : Memory
    pub vars : Vars
    pub words : Vars
    pub awaits : ℕ
    pub good : MemoryGood x.table x.blocks (sites_of g) x.first memory
    pub changed : Changed g.memory memory start target.bytes
    pub same : AllSame g.call.vars vars
    pub steps : ℕ
    pub few : steps ≤ most
    pub runs : Runs x.live (all_procs x) steps (run_at (within x.table x.blocks g) g.memory lines g.call.vars g.words)
        (run_at (awaiting (within x.table x.blocks g) awaits) memory k vars words)

  abbrev pub more_most : (lines k : List WordInstr) (most most' : ℕ) → most ≤ most' → Sofar lines k most → Sofar lines k most'
  more_most lines k most most' le s = record {
    memory = s.memory;
    vars = s.vars;
    words = s.words;
    awaits = s.awaits;
    good = s.good;
    changed = s.changed;
    same = s.same;
    steps = s.steps;
    few = (let h = s.few in omega (arith, h, le));
    runs = s.runs;
  }

  -- other temporaries have their values
  pub item_there : (m : Memory) (vars : Vars) → Changed g.memory m start target.bytes → AllSame g.call.vars vars → (t : ℕ) (v : Value)
      → g.call.temps.values t ≡ Some v → IsThere g.call.site (of_value t) → t ≢ to
      → IsItem x.table (store_with g m) (call g.call.site g.call.temps vars) (of_value t) v
  item_there m vars ch same t v e is_there ne =
      item_kept x.table x.blocks x.small (all_sites x g line rest y) y.linked g.call.site (of_value to) (store_of g) (store_with g m)
      (somewhere start target.bytes (outside_still (IsPlace x.table x.blocks) (next_base (sites_of g)) g.memory m start target.bytes ch.outside) (inl refl)
      there inside (omega arith)
      (omega arith)) (later_ground g.ground) g.world g.world
      (worlds_same x.table x.blocks x.small (all_sites x g line rest y) y.linked g.call.site (of_value to) g.world)
      g.call.site g.call.temps g.call.temps g.call.vars vars (of_value t) v (inl refl) kept
      (inr (λ is. ne (same_numbers (of_value t) (of_value to) is))) (y.hold.0.items (of_value t) v is_there e)
    where
      kept : Kept x.table x.blocks x.small (all_sites x g line rest y) y.linked g.call.site (of_value to) g.call.site g.call.temps g.call.temps
          g.call.vars vars
      kept = record {
        values = λ u i away. refl;
        places = λ u away. refl;
        texts = λ u n k i text away. refl;
        still = λ u w l h. (w, h);
        variables = λ h u other away home. same.others u (high_variable x g line rest y h u other home);
        left = same.left;
      }

  item_stays : (m : Memory) (vars : Vars) → Changed g.memory m start target.bytes → AllSame g.call.vars vars → (t : ℕ) (v : Value)
      → g.call.temps.values t ≡ Some v → IsThere g.call.site (of_value t) → of_numbers (looked x.table g.call.site (of_value t)) ≡ true → t ≢ to
      → IsNumbers x.table m (call g.call.site g.call.temps vars) (of_value t) v
  item_stays m vars ch same t v e is_there numbers ne =
      numbers_of x.table (store_with g m) (call g.call.site g.call.temps vars) (of_value t) v numbers (item_there m vars ch same t v e is_there ne)

  -- ---- one part

  pub record After (m : Memory) (before : ℕ) (lines k : List WordInstr) (a : ℕ) (v : Value) (most : ℕ) : Type 0 where
    pub sofar : Sofar lines k most
    pub changed : Changed m sofar.memory a (bytes v)
    pub is_at : IsAt sofar.memory a v
    pub some : before < sofar.steps

  pub part_moved : (t : ℕ) (v : Value) (p : Shape) → PartOf x g line rest y to t v p → (home : Home) → InMemory home → (a : ℕ)
      → a ≡ address_of g.call.site.base home → start ≤ a → a + bytes v ≤ start + target.bytes → a % 4 ≡ 0
      → (lines k : List WordInstr) (most : ℕ)
      → (s : Sofar lines
      (moved (house g.call.site (of_value t)).is_word (house g.call.site (of_value t)).bytes (Lies home) (spot_of (house g.call.site (of_value t))) k) most)
      → After s.memory s.steps lines k a v (most + (10 + 2 * bytes v))
  part_moved t v p part home in_memory a is low high whole lines k most s =
      let from : Housed = house g.call.site (of_value t) in
      let item = item_stays s.memory s.vars s.changed s.same t v part.has part.there part.here part.other in
      let into : Housed = record target { home = home } in
      let spot : spot_of into ≡ Lies home = spot_memory into (value_plain target there.kind) in_memory in
      let lying : Lying x (all_sites x g line rest y) y.linked a (bytes v) = record {
        site = g.call.site;
        name = of_value to;
        among = inl refl;
        there = there;
        home = inside;
        low = low;
        high = high;
        whole = whole;
      } in
      let points : Points g.call.site.base s.vars home a = subst (Points g.call.site.base s.vars home) (sym is)
      (points_there g.call.site.base s.vars home in_memory) in
      let r = to_bytes_by x (all_sites x g line rest y) y.linked (awaiting
      (within x.table x.blocks g) s.awaits) refl s.words s.memory s.good k s.vars into from v
      (word_is x (all_sites x g line rest y) y.linked g.call (inl refl) (of_value t) item.there item.plain v item.numbers item.shaped)
      (size_is x (all_sites x g line rest y) y.linked g.call (inl refl) (of_value t) item.there item.plain v item.numbers item.shaped)
      (small_word x (all_sites x g line rest y) y.linked g.call (inl refl) (of_value t) item.there item.plain v item.numbers item.shaped)
      home spot a points lying true
      (item_source x (all_sites x g line rest y) y.linked s.memory s.good (call g.call.site g.call.temps s.vars) (of_value t) v (inl refl) item) (inr refl) in
      record {
        sofar = record {
          memory = r.memory;
          vars = r.vars;
          words = r.words;
          awaits = r.awaits;
          good = memory_kept x (all_sites x g line rest y) y.linked s.memory r.memory a (bytes v) s.good r.changed lying;
          changed = changed_both g.memory s.memory r.memory start target.bytes a (bytes v) start target.bytes s.changed r.changed (omega arith) (omega arith)
              low high;
          same = same_more g.call.vars s.vars r.vars s.same r.same;
          steps = s.steps + r.steps;
          few = (let p = s.few in let q = r.few in omega (arith, p, q));
          runs = then_runs x.live (all_procs x) s.runs
              (subst (λ p. Runs x.live (all_procs x) r.steps
              (run_at (awaiting (within x.table x.blocks g) s.awaits) s.memory (moved from.is_word from.bytes p (spot_of from) k) s.vars s.words)
              (run_at (awaiting (within x.table x.blocks g) r.awaits) r.memory k r.vars r.words)) spot r.runs);
        };
        changed = r.changed;
        is_at = r.there;
        some = (let h = r.some in omega (arith, h));
      }

  -- ---- all parts of a value

  pub record AllAfter (m : Memory) (before : ℕ) (lines k : List WordInstr) (a : ℕ) (vs : Values) (most : ℕ) : Type 0 where
    pub sofar : Sofar lines k most
    pub changed : Changed m sofar.memory a (bytes_all vs)
    pub are_at : AreAt sofar.memory a vs
    pub more : before ≤ sofar.steps
    pub some : 0 < bytes_all vs → before < sofar.steps

  abbrev parts_here : Home → List From → List WordInstr → List WordInstr
  parts_here home from k = parts_code home (operands (around x.table x.blocks (body_of g)) from) k

  pub parts_moved : (from : List From) (vs : Values) → Come x g line rest y to from vs → (home : Home) → InMemory home → (a : ℕ)
      → a ≡ address_of g.call.site.base home → start ≤ a → a + bytes_all vs ≤ start + target.bytes → a % 4 ≡ 0
      → (lines k : List WordInstr) (most : ℕ) → (s : Sofar lines (parts_here home from k) most)
      → AllAfter s.memory s.steps lines k a vs (most + 5 * bytes_all vs)
  parts_moved [] Nil come home in_memory a is low high whole lines k most s = record {
    sofar = more_most lines k most (most + 5 * 0) (omega arith) s;
    changed = changed_same s.memory a 0 s.good.sized;
    are_at = tt;
    more = omega arith;
    some = λ h. absurd (omega (arith, h));
  }
  parts_moved [] (More v vs) come home in_memory a is low high whole lines k most s = absurd come
  parts_moved (F.Value t ∷ from) Nil come home in_memory a is low high whole lines k most s = absurd come
  parts_moved (F.Place t ∷ from) vs come home in_memory a is low high whole lines k most s = absurd come
  parts_moved (F.Value t ∷ from) (More v vs) come home in_memory a is low high whole lines k most s =
      let h : Housed = house g.call.site (of_value t) in
      let part = come.0.1 in
      let item = item_read x g line rest y (of_value t) v part.there part.here part.has in
      let size : h.bytes ≡ bytes v
      = size_is x (all_sites x g line rest y) y.linked g.call (inl refl) (of_value t) item.there item.plain v item.numbers item.shaped in
      let n : ℕ = bytes v in
      let w : n % 4 ≡ 0 = bytes_whole v in
      let some : 4 ≤ n = bytes_some v (values_of_numbers v come.0.0 part.numbers part.shaped) in
      let p = part_moved t v come.0.0 part home in_memory a is low (omega (arith, high)) whole lines (parts_here (shifted h.bytes home) from k) most s in
      let address = shifted_address g.call.site.base h.bytes home in_memory in
      let q = parts_moved from vs come.1 (shifted h.bytes home) (shifted_inside h.bytes home in_memory) (a + n)
      (omega (arith, is, address, size)) (omega (arith, low)) (omega (arith, high)) (omega (arith, whole, w)) lines k (most + (10 + 2 * n)) p.sofar in
      record {
        sofar = more_most lines k (most + (10 + 2 * n) + 5 * bytes_all vs) (most + 5 * (n + bytes_all vs)) (omega (arith, some)) q.sofar;
        changed = changed_both s.memory p.sofar.memory q.sofar.memory a n (a + n) (bytes_all vs) a (n + bytes_all vs) p.changed q.changed
            (omega arith) (omega arith) (omega arith) (omega arith);
        are_at = (at_beside p.sofar.memory q.sofar.memory (a + n) (bytes_all vs) a v q.changed.outside (inl (omega arith)) p.is_at, q.are_at);
        more = (let a = p.some in let b = q.more in omega (arith, a, b));
        some = λ h. (let a = p.some in let b = q.more in omega (arith, a, b));
      }

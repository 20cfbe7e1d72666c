-- What the code does that moves a value from one place to another.
use Rattle.std.proofs.Common.{◌≡◌, ℕ, zero, suc, ◌+◌, ◌*◌, ◌%◌, ◌^◌, ◌<◌, ◌≤◌, List, ◌∷◌, Some, Ok, ℤ, pos, Bool, true}
use Rattle.std.proofs.Common.{false, refl, sym, subst, ◌∙◌, arith}
use Rattle.rv32_isa.specs.declared.micro_op.Size.{Size}
use Rattle.rv32_isa.specs.declared.micro_op.Size.TheVariants.{Byte, Word as whole}
use Rattle.rv32_isa.specs.Machine.{Lives}
use Rattle.nim_meaning.specs.Values.{Value, Number, Parts, Values, bytes, number_of}
use Rattle.word_code.specs.declared.word.WordInstr.{WordInstr}
use Rattle.word_code.specs.declared.word.WordInstr.TheVariants.{Constant, Place, Datum, Load, Store}
use Rattle.word_code.specs.declared.word.WordProc.{WordProc}
use Rattle.word_code.specs.Memory.{Memory, may_put, number_at, with_number}
use Rattle.word_code.specs.Words.{Vars, no_words, put}
use Rattle.word_code.specs.RoutineTable.{Cell, Area, Separate}
use Rattle.word_code.proofs.ForCallers.{MemoryLaw, Sized, put_here, Changed, changed_word}
use Rattle.word_code.proofs.ForCallers.{Runs, then_runs, Within, at, run_constant, run_copy, run_place, run_datum, run_load, run_store, got}
use Rattle.heap_memory.specs.declared.numbers.TheConstants.{HEAP_DATA}
use Rattle.word_lowering.specs.declared.homes.TheConstants.{OWN_FROM, FIRST, SECOND, THIRD, FOURTH}
use Rattle.word_lowering.specs.declared.homes.Home.{Home}
use Rattle.word_lowering.specs.declared.homes.Home.TheVariants.{Variable, Placed, Static}
use Rattle.word_lowering.specs.declared.spots.Spot.{Spot}
use Rattle.word_lowering.specs.declared.spots.Spot.TheVariants.{Held, Lies, Letter}
use Rattle.word_code.specs.Routines.{HasData}
use Rattle.word_lowering.specs.declared.homes.Housed.{Housed}
use Rattle.word_lowering.specs.Spots.{address, copied, moved, moves, passes, zeros, cleared, clears, starts}
use Rattle.word_lowering.specs.Operations.{word}
use Rattle.word_lowering.proofs.InMemory.{IsAt, IsByteAt, AllZero, bytes_whole, parts_some, zero_at, copied_there, HasWords, HaveWords}
use Rattle.word_lowering.proofs.RoutineCalls.{awaiting, Reaches, copy_called, clear_called}
use Rattle.word_lowering.proofs.OrdinalRuns.{put_here as var_here, put_low, put_other, AllBut, AllSame, but_one}
use Rattle.word_lowering.proofs.Scenes.{Points}

-- ---- variables

pub all_same : (v : Vars) → AllSame v v
all_same v = record { others = λ u h. refl; left = refl }

pub same_more : (u v w : Vars) → AllSame u v → AllSame v w → AllSame u w
same_more u v w x y = record {
  others = λ n h. y.others n h ∙ x.others n h;
  left = y.left ∙ x.left;
}

pub same_first : (v : Vars) (n : ℕ) → AllSame v (put v FIRST n)
same_first v n = record { others = λ u h. put_low v FIRST n u (omega arith) h; left = refl }

pub same_second : (v : Vars) (n : ℕ) → AllSame v (put v SECOND n)
same_second v n = record { others = λ u h. put_low v SECOND n u (omega arith) h; left = refl }

pub same_third : (v : Vars) (n : ℕ) → AllSame v (put v THIRD n)
same_third v n = record { others = λ u h. put_low v THIRD n u (omega arith) h; left = refl }

pub same_fourth : (v : Vars) (n : ℕ) → AllSame v (put v FOURTH n)
same_fourth v n = record { others = λ u h. put_low v FOURTH n u (omega arith) h; left = refl }

-- ---- values

-- one word
abbrev pub is_single : Value → Bool
is_single (Number z) = true
is_single x = false

abbrev pub single_word : Value → ℕ
single_word x = word (number_of x)

pub single_small : (v : Value) → HasWords v → single_word v < 2 ^ 32
single_small (Number z) small = small
single_small v small = omega arith

-- the variables that spots name are those of places, and a variable holds one word
abbrev pub IsHigh : Home → Type 0
IsHigh (Variable v) = OWN_FROM ≤ v
IsHigh (Placed a) = Unit {0}
IsHigh (Static a) = Unit {0}

-- what a word in FIRST doesn't change
abbrev pub IsBehind : Home → Type 0
IsBehind (Variable v) = FIRST < v
IsBehind (Placed a) = Unit {0}
IsBehind (Static a) = Unit {0}

pub high_behind : (home : Home) → IsHigh home → IsBehind home
high_behind (Variable v) high = omega (arith, high)
high_behind (Placed a) high = tt
high_behind (Static a) high = tt

abbrev pub MaySpot : Spot → Value → Type 0
MaySpot (Held v) (Number z) = OWN_FROM ≤ v
MaySpot (Held v) x = ⊥
MaySpot (Lies home) x = IsHigh home
MaySpot (Letter home) x = IsHigh home

-- words that may be read and written
abbrev pub IsArea : Memory → (at bytes : ℕ) → Type 0
IsArea m a bytes = (n : ℕ) → 4 * n ≤ bytes → Area m a n

-- a value that is where a spot says, at an address that is known
abbrev pub From : Memory → (base : ℕ) → Vars → Spot → Value → Type 0
From m base v (Held u) x = v u ≡ Some (single_word x)
From m base v (Lies home) x = (a : ℕ) × Points base v home a × IsAt m a x × (a + bytes x < 2 ^ 32) × IsArea m a (bytes x)
From m base v (Letter home) x = (a : ℕ) × Points base v home a × IsByteAt m a x × (a < 2 ^ 32)

-- what is there has bytes
pub passes_there : (n : ℕ) (to from : Housed) (k : List WordInstr) → 4 ≤ n → passes n to from k ≡ moves to from k
passes_there zero to from k h = absurd (omega (arith, h))
passes_there (suc n) to from k h = refl

pub starts_there : (n : ℕ) (to : Housed) (k : List WordInstr) → 4 ≤ n → starts n to k ≡ clears to k
starts_there zero to k h = absurd (omega (arith, h))
starts_there (suc n) to k h = refl

-- whole words, of which there are some
pub words_of : (n : ℕ) → n % 4 ≡ 0 → 4 ≤ n → (k : ℕ) × (n ≡ 4 * suc k)
words_of (suc (suc (suc (suc n)))) e h = by n e
  where
    by : (n : ℕ) → suc (suc (suc (suc n))) % 4 ≡ 0 → (k : ℕ) × (suc (suc (suc (suc n))) ≡ 4 * suc k)
    by zero e = (0, refl)
    by (suc zero) e = absurd (omega (arith, e))
    by (suc (suc zero)) e = absurd (omega (arith, e))
    by (suc (suc (suc zero))) e = absurd (omega (arith, e))
    by (suc (suc (suc (suc n)))) e = let r = by n (omega (arith, e)) in (suc r.0, omega (arith, r.1))
words_of zero e h = absurd (omega (arith, h))
words_of (suc zero) e h = absurd (omega (arith, h))
words_of (suc (suc zero)) e h = absurd (omega (arith, h))
words_of (suc (suc (suc zero))) e h = absurd (omega (arith, h))

module _ (law : MemoryLaw) (live : Lives) (procs : List WordProc) (c : Within) (from_first : c.proc.data_from ≡ HEAP_DATA) (g : Vars) where
  -- a variable gets the address of a home
  pub address_runs : (m : Memory) (k : List WordInstr) (v : Vars) (to : ℕ) (home : Home) (a : ℕ) → Points c.base v home a
      → Runs live procs 1 (at c m (address to home ∷ k) v g) (at c m k (put v to a) g)
  address_runs m k v to (Variable u) a p = run_copy live procs c m k v g to u p
  address_runs m k v to (Placed n) a p =
      subst (λ x. Runs live procs 1 (at c m (Place to n ∷ k) v g) (at c m k (put v to x) g)) (sym p) (run_place live procs c m k v g to n)
  address_runs m k v to (Static n) a p =
      subst (λ x. Runs live procs 1 (at c m (Datum to n ∷ k) v g) (at c m k (put v to x) g)) (omega (arith, p, from_first))
      (run_datum live procs c m k v g to n)

  -- where variables of places are as before, homes point where they did
  pub points_same : (v w : Vars) (home : Home) (a : ℕ) → IsHigh home → AllSame v w → Points c.base v home a → Points c.base w home a
  points_same v w (Variable u) a high same p = same.others u high ∙ p
  points_same v w (Placed n) a high same p = p
  points_same v w (Static n) a high same p = p

  pub points_behind : (v : Vars) (n : ℕ) (home : Home) (a : ℕ) → IsBehind home → Points c.base v home a → Points c.base (put v FIRST n) home a
  points_behind v n (Variable u) a less p = put_other v FIRST n u (λ e. absurd (omega (arith, less, e))) ∙ p
  points_behind v n (Placed m) a less p = p
  points_behind v n (Static m) a less p = p

  -- ---- to a variable

  pub record ToVariable (m : Memory) (lines : List WordInstr) (v : Vars) (t : ℕ) (x : Value) (k : List WordInstr) : Type 0 where
    pub vars : Vars
    pub given : vars t ≡ Some (single_word x)
    pub but : AllBut v t vars
    pub steps : ℕ
    pub some : 0 < steps
    pub few : steps ≤ 2
    pub runs : Runs live procs steps (at c m lines v g) (at c m k vars g)

  -- from an address
  loaded_to : (m : Memory) (k : List WordInstr) (v : Vars) (t : ℕ) → OWN_FROM ≤ t → (z : ℤ) → word z < 2 ^ 32 → (size : Size) (home : Home) (b : ℕ)
      → Points c.base v home b → b < 2 ^ 32 → number_at m b size ≡ Ok (word z)
      → ToVariable m (address SECOND home ∷ Load t SECOND size ∷ k) v t (Number z) k
  loaded_to m k v t high z small size home b points near reads =
      let v1 : Vars = put v SECOND b in
      let r1 : Runs live procs 1 (at c m (address SECOND home ∷ Load t SECOND size ∷ k) v g) (at c m (Load t SECOND size ∷ k) v1 g)
      = address_runs m (Load t SECOND size ∷ k) v SECOND home b points in
      let r2 : Runs live procs 1 (at c m (Load t SECOND size ∷ k) v1 g) (at c m k (put v1 t (word z)) g)
      = run_load live procs c m k v1 g t SECOND size (got b near) reads in
      record {
        vars = put v1 t (word z);
        given = var_here v1 t (word z) small;
        but = but_one v v1 t (word z) high (same_second v b);
        steps = 2;
        some = omega arith;
        few = omega arith;
        runs = then_runs live procs r1 r2;
      }

  pub number_to_variable : (m : Memory) (k : List WordInstr) (v : Vars) (t : ℕ) → OWN_FROM ≤ t → (z : ℤ) → word z < 2 ^ 32
      → (is_word : Bool) (n : ℕ) (from : Spot) → From m c.base v from (Number z)
      → ToVariable m (moved is_word n (Held t) from k) v t (Number z) k
  number_to_variable m k v t high z small is_word n (Held u) e = record {
    vars = put v t (word z);
    given = var_here v t (word z) small;
    but = but_one v v t (word z) high (all_same v);
    steps = 1;
    some = omega arith;
    few = omega arith;
    runs = run_copy live procs c m k v g t u e;
  }
  number_to_variable m k v t high z small is_word n (Lies home) e = loaded_to m k v t high z small whole home e.0 e.1 (omega (arith, e.3)) e.2
  number_to_variable m k v t high z small is_word n (Letter home) e = loaded_to m k v t high z small Byte home e.0 e.1 e.3 e.2

  -- ---- a number to an address: of that size

  pub record NumberPut (m : Memory) (lines : List WordInstr) (v : Vars) (after : Memory) (most : ℕ) (k : List WordInstr) : Type 0 where
    pub vars : Vars
    pub same : AllSame v vars
    pub steps : ℕ
    pub some : 0 < steps
    pub few : steps ≤ most
    pub runs : Runs live procs steps (at c m lines v g) (at c after k vars g)

  module _ (m : Memory) (k : List WordInstr) (v : Vars) (home : Home) (a : ℕ) (points : Points c.base v home a) (near : a < 2 ^ 32) (size : Size)
      (may : may_put m a size ≡ true) where
    held_put : (w u : ℕ) → OWN_FROM ≤ u → v u ≡ Some w
        → NumberPut m (address FIRST home ∷ Store FIRST u size ∷ k) v (with_number m a size w) 4 k
    held_put w u high e =
        let v1 : Vars = put v FIRST a in
        let r1 : Runs live procs 1 (at c m (address FIRST home ∷ Store FIRST u size ∷ k) v g) (at c m (Store FIRST u size ∷ k) v1 g)
        = address_runs m (Store FIRST u size ∷ k) v FIRST home a points in
        let e1 : v1 u ≡ Some w = put_low v FIRST a u (omega arith) high ∙ e in
        let r2 : Runs live procs 1 (at c m (Store FIRST u size ∷ k) v1 g) (at c (with_number m a size w) k v1 g)
        = run_store live procs c m k v1 g FIRST u size (got a near) e1 may in
        record { vars = v1; same = same_first v a; steps = 2; some = omega arith; few = omega arith; runs = then_runs live procs r1 r2 }

    -- from another address
    carried_put : (w : ℕ) → w < 2 ^ 32 → (read : Size) (other : Home) → IsHigh other → (b : ℕ) → Points c.base v other b → b < 2 ^ 32
        → number_at m b read ≡ Ok w
        → NumberPut m (address FIRST home ∷ address SECOND other ∷ Load THIRD SECOND read ∷ Store FIRST THIRD size ∷ k) v (with_number m a size w) 4 k
    carried_put w small read other high b points_b near_b reads =
        let v1 : Vars = put v FIRST a in
        let v2 : Vars = put v1 SECOND b in
        let v3 : Vars = put v2 THIRD w in
        let k3 : List WordInstr = Store FIRST THIRD size ∷ k in
        let k2 : List WordInstr = Load THIRD SECOND read ∷ k3 in
        let r1 : Runs live procs 1 (at c m (address FIRST home ∷ address SECOND other ∷ k2) v g) (at c m (address SECOND other ∷ k2) v1 g)
        = address_runs m (address SECOND other ∷ k2) v FIRST home a points in
        let r2 : Runs live procs 1 (at c m (address SECOND other ∷ k2) v1 g) (at c m k2 v2 g)
        = address_runs m k2 v1 SECOND other b (points_same v v1 other b high (same_first v a) points_b) in
        let r3 : Runs live procs 1 (at c m k2 v2 g) (at c m k3 v3 g) = run_load live procs c m k3 v2 g THIRD SECOND read (got b near_b) reads in
        let r4 : Runs live procs 1 (at c m k3 v3 g) (at c (with_number m a size w) k v3 g)
        = run_store live procs c m k v3 g FIRST THIRD size (got a near) (got w small) may in
        record {
          vars = v3;
          same = same_more v v1 v3 (same_first v a) (same_more v1 v2 v3 (same_second v1 b) (same_third v2 w));
          steps = 4;
          some = omega arith;
          few = omega arith;
          runs = then_runs live procs (then_runs live procs r1 r2) (then_runs live procs r3 r4);
        }

    zero_put : NumberPut m (address FIRST home ∷ Constant SECOND 0 ∷ Store FIRST SECOND size ∷ k) v (with_number m a size 0) 4 k
    zero_put =
        let v1 : Vars = put v FIRST a in
        let v2 : Vars = put v1 SECOND 0 in
        let k2 : List WordInstr = Store FIRST SECOND size ∷ k in
        let r1 : Runs live procs 1 (at c m (address FIRST home ∷ Constant SECOND 0 ∷ k2) v g) (at c m (Constant SECOND 0 ∷ k2) v1 g)
        = address_runs m (Constant SECOND 0 ∷ k2) v FIRST home a points in
        let r2 : Runs live procs 1 (at c m (Constant SECOND 0 ∷ k2) v1 g) (at c m k2 v2 g) = run_constant live procs c m k2 v1 g SECOND 0 in
        let r3 : Runs live procs 1 (at c m k2 v2 g) (at c (with_number m a size 0) k v2 g)
        = run_store live procs c m k v2 g FIRST SECOND size (got a near) refl may in
        record {
          vars = v2;
          same = same_more v v1 v2 (same_first v a) (same_second v1 0);
          steps = 3;
          some = omega arith;
          few = omega arith;
          runs = then_runs live procs (then_runs live procs r1 r2) r3;
        }

  -- a character at an address
  module _ (m : Memory) (k : List WordInstr) (v : Vars) (home : Home) (a : ℕ) (points : Points c.base v home a) (near : a < 2 ^ 32)
      (may : may_put m a Byte ≡ true) where
    pub number_to_letter : (z : ℤ) → word z < 2 ^ 32 → (is_word : Bool) (n : ℕ) (from : Spot) → MaySpot from (Number z) → From m c.base v from (Number z)
        → NumberPut m (moved is_word n (Letter home) from k) v (with_number m a Byte (word z)) 4 k
    number_to_letter z small is_word n (Held u) high e = held_put m k v home a points near Byte may (word z) u high e
    number_to_letter z small is_word n (Lies other) high e =
        carried_put m k v home a points near Byte may (word z) small whole other high e.0 e.1 (omega (arith, e.3)) e.2
    number_to_letter z small is_word n (Letter other) high e =
        carried_put m k v home a points near Byte may (word z) small Byte other high e.0 e.1 e.3 e.2

    pub zero_to_letter : (is_word : Bool) (n : ℕ) → NumberPut m (cleared is_word n (Letter home) k) v (with_number m a Byte 0) 4 k
    zero_to_letter is_word n = zero_put m k v home a points near Byte may

  -- ---- to memory

  pub record ToMemory (m : Memory) (lines : List WordInstr) (v : Vars) (a : ℕ) (x : Value) (most : ℕ) (k : List WordInstr) : Type 0 where
    pub memory : Memory
    pub vars : Vars
    pub words : Vars
    pub awaits : ℕ
    pub same : AllSame v vars
    pub changed : Changed m memory a (bytes x)
    pub there : IsAt memory a x
    pub steps : ℕ
    pub some : 0 < steps
    pub few : steps ≤ most
    pub runs : Runs live procs steps (at c m lines v g) (at (awaiting c awaits) memory k vars words)

  module _ (m : Memory) (sized : Sized m) (k : List WordInstr) (v : Vars) (home : Home) (a : ℕ) (points : Points c.base v home a) where
    word_put : (z : ℤ) → word z < 2 ^ 32 → Cell m a → (lines : List WordInstr) (most : ℕ) → NumberPut m lines v (with_number m a whole (word z)) most k
        → ToMemory m lines v a (Number z) most k
    word_put z small cell lines most r = record {
      memory = with_number m a whole (word z);
      vars = r.vars;
      words = g;
      awaits = c.awaits;
      same = r.same;
      changed = changed_word law m a (word z) sized cell small;
      there = put_here law m a (word z) sized cell.may small;
      steps = r.steps;
      some = r.some;
      few = r.few;
      runs = r.runs;
    }

    pub number_to_memory : (z : ℤ) → word z < 2 ^ 32 → Cell m a → a < 2 ^ 32 → (n : ℕ) (from : Spot) → MaySpot from (Number z)
        → From m c.base v from (Number z) → ToMemory m (moved true n (Lies home) from k) v a (Number z) 4 k
    number_to_memory z small cell near n (Held u) may e =
        word_put z small cell (moved true n (Lies home) (Held u) k) 4 (held_put m k v home a points near whole cell.may (word z) u may e)
    number_to_memory z small cell near n (Lies other) may e =
        word_put z small cell (moved true n (Lies home) (Lies other) k) 4
        (carried_put m k v home a points near whole cell.may (word z) small whole other may e.0 e.1 (omega (arith, e.3)) e.2)
    number_to_memory z small cell near n (Letter other) may e =
        word_put z small cell (moved true n (Lies home) (Letter other) k) 4
        (carried_put m k v home a points near whole cell.may (word z) small Byte other may e.0 e.1 e.3 e.2)

    pub parts_to_memory : (own : ℕ) (statics : List ℕ) → Reaches live procs own statics → HasData own statics m → (vs : Values) → HaveWords vs
        → IsArea m a (bytes (Parts vs)) → a + bytes (Parts vs) < 2 ^ 32 → (other : Home) → IsBehind other
        → (source : From m c.base v (Lies other) (Parts vs)) → Separate a source.0 (bytes (Parts vs))
        → ToMemory m (moved false (bytes (Parts vs)) (Lies home) (Lies other) k) v a (Parts vs) (10 + 2 * bytes (Parts vs)) k
    parts_to_memory own statics reaches data_there vs small area near other less source apart = by (bytes (Parts vs)) refl
        (words_of (bytes (Parts vs)) (bytes_whole (Parts vs)) (parts_some vs))
      where
        b : ℕ
        b = source.0

        by : (n : ℕ) → bytes (Parts vs) ≡ n → (j : ℕ) × (n ≡ 4 * suc j)
            → ToMemory m (moved false n (Lies home) (Lies other) k) v a (Parts vs) (10 + 2 * bytes (Parts vs)) k
        by n size (j, is) =
            let there : Area m a (suc j) = area (suc j) (omega (arith, size, is)) in
            let here : Area m b (suc j) = source.4 (suc j) (omega (arith, size, is)) in
            let all : 4 * suc j ≡ bytes (Parts vs) = sym is ∙ sym size in
            let v1 : Vars = put v FIRST a in
            let v2 : Vars = put v1 SECOND b in
            let k2 : List WordInstr = copied false n k in
            let r1 : Runs live procs 1 (at c m (address FIRST home ∷ address SECOND other ∷ k2) v g) (at c m (address SECOND other ∷ k2) v1 g)
            = address_runs m (address SECOND other ∷ k2) v FIRST home a points in
            let r2 : Runs live procs 1 (at c m (address SECOND other ∷ k2) v1 g) (at c m k2 v2 g)
            = address_runs m k2 v1 SECOND other b (points_behind v a other b less source.1) in
            let r3 = copy_called law live procs own statics reaches c k j m a b v2 g (got a (omega (arith, near))) (got b (omega (arith, source.3)))
            (omega (arith, near, size, is)) (omega (arith, source.3, size, is)) sized data_there there here (subst (Separate a b) (sym all) apart) in
            let copy = r3.is in
            let few = r3.few in
            let w : Vars = put (put v2 THIRD (4 * suc j)) FIRST r3.word in
            record {
              memory = r3.memory;
              vars = w;
              words = no_words;
              awaits = FIRST;
              same = same_more v v1 w (same_first v a) (same_more v1 v2 w (same_second v1 b)
                  (same_more v2 (put v2 THIRD (4 * suc j)) w (same_third v2 (4 * suc j)) (same_first (put v2 THIRD (4 * suc j)) r3.word)));
              changed = subst (Changed m r3.memory a) all copy.changed;
              there = copied_there m r3.memory b a (Parts vs) small (λ o within is_whole. copy.same o (omega (arith, within, all)) is_whole) source.2;
              steps = 2 + (4 + r3.steps);
              some = omega arith;
              few = omega (arith, size, is, few);
              runs = then_runs live procs (then_runs live procs r1 r2)
                  (subst (λ i. Runs live procs (4 + r3.steps) (at c m (copied false i k) v2 g) (at (awaiting c FIRST) r3.memory k w no_words)) (sym is)
                  r3.runs);
            }

    -- ---- zeros

    pub zero_to_memory : (n : ℕ) → Cell m a → a < 2 ^ 32 → ToMemory m (cleared true n (Lies home) k) v a (Number (pos 0)) 4 k
    zero_to_memory n cell near =
        word_put (pos 0) (omega arith) cell (cleared true n (Lies home) k) 4 (zero_put m k v home a points near whole cell.may)

    pub zeros_to_memory : (own : ℕ) (statics : List ℕ) → Reaches live procs own statics → HasData own statics m → (vs : Values)
        → AllZero (Parts vs) → IsArea m a (bytes (Parts vs)) → a + bytes (Parts vs) < 2 ^ 32
        → ToMemory m (cleared false (bytes (Parts vs)) (Lies home) k) v a (Parts vs) (9 + bytes (Parts vs)) k
    zeros_to_memory own statics reaches data_there vs blank area near =
        by (bytes (Parts vs)) refl (words_of (bytes (Parts vs)) (bytes_whole (Parts vs)) (parts_some vs))
      where
        by : (n : ℕ) → bytes (Parts vs) ≡ n → (j : ℕ) × (n ≡ 4 * suc j)
            → ToMemory m (cleared false n (Lies home) k) v a (Parts vs) (9 + bytes (Parts vs)) k
        by n size (j, is) =
            let there : Area m a (suc j) = area (suc j) (omega (arith, size, is)) in
            let all : 4 * suc j ≡ bytes (Parts vs) = sym is ∙ sym size in
            let v1 : Vars = put v FIRST a in
            let k2 : List WordInstr = zeros false n k in
            let r1 : Runs live procs 1 (at c m (address FIRST home ∷ k2) v g) (at c m k2 v1 g) = address_runs m k2 v FIRST home a points in
            let r2 = clear_called law live procs own statics reaches c k j m a v1 g (got a (omega (arith, near))) (omega (arith, near, size, is)) sized
            data_there there in
            let clear = r2.is in
            let few = r2.few in
            let w : Vars = put (put v1 SECOND (4 * suc j)) FIRST r2.word in
            record {
              memory = r2.memory;
              vars = w;
              words = no_words;
              awaits = FIRST;
              same = same_more v v1 w (same_first v a)
                  (same_more v1 (put v1 SECOND (4 * suc j)) w (same_second v1 (4 * suc j)) (same_first (put v1 SECOND (4 * suc j)) r2.word));
              changed = subst (Changed m r2.memory a) all clear.changed;
              there = zero_at r2.memory a (Parts vs) blank (λ o within is_whole. clear.zeros o (omega (arith, within, all)) is_whole);
              steps = 1 + (3 + r2.steps);
              some = omega arith;
              few = omega (arith, size, is, few);
              runs = then_runs live procs r1
                  (subst (λ i. Runs live procs (3 + r2.steps) (at c m (zeros false i k) v1 g) (at (awaiting c FIRST) r2.memory k w no_words)) (sym is)
                  r2.runs);
            }

-- A tuple or an array that is made of values whatever they have: one behind the other, each by its bits or as a number.
use Rattle.std.proofs.Common.{◌≡◌, inl, ℕ, zero, suc, ◌+◌, ◌*◌, ◌%◌, ◌<◌, ◌≤◌, List, [], ◌∷◌, true, refl, sym, ap, subst, ◌∙◌, arith}
use Rattle.nim_meaning.specs.Deeds.{Answers}
use Rattle.nim_meaning.specs.Values.{Parts, Values, Nil, More, bytes, bytes_all, count}
use Rattle.flat_code.specs.Scene.{Passes, with_value}
use Rattle.flat_code.specs.Shapes.{Shape, row, parts, Shapes, no_shapes, shapes, has_shape}
use Rattle.flat_code.specs.declared.block.BlockLine.{BlockLine}
use Rattle.flat_code.specs.declared.line.From.{From}
use Rattle.flat_code.specs.declared.line.From.TheVariants as F
use Rattle.word_code.specs.Memory.{Memory}
use Rattle.word_code.specs.declared.word.WordInstr.{WordInstr}
use Rattle.word_code.proofs.ForCallers.{Changed, Runs, at as run_at, none as no_run}
use Rattle.word_lowering.specs.LineCode.{operands, parts_code}
use Rattle.word_lowering.specs.Spots.{shifted}
use Rattle.word_lowering.specs.declared.homes.Home.{Home}
use Rattle.word_lowering.specs.declared.homes.Housed.{Housed}
use Rattle.word_lowering.proofs.Blocks.{AreStored, PartsStored, Stored}
use Rattle.word_lowering.proofs.BlocksBorn.{later_same}
use Rattle.word_lowering.proofs.Gets.{heap_kept, high_variable, item_settles}
use Rattle.word_lowering.proofs.HookedConstruct.{BitsOf, any_part, bits_long}
use Rattle.word_lowering.proofs.InMemory.{or_word_least}
use Rattle.word_lowering.proofs.Keeping.{outside_still, somewhere, to_home}
use Rattle.word_lowering.proofs.Lines.{Basis, IsGood, Settles, all_procs, all_sites, lower, starts}
use Rattle.word_lowering.proofs.Moves.{all_same}
use Rattle.word_lowering.proofs.PartRuns.{Sofar, changed_both, changed_same, more_most, shifted_address, shifted_inside}
use Rattle.word_lowering.proofs.Related.{Both, body_of, store_with, within}
use Rattle.word_lowering.proofs.RoutineCalls.{awaiting}
use Rattle.word_lowering.proofs.Scenes.{IsThere, address_of, house, is_fixed, looked, of_value}
use Rattle.word_lowering.proofs.Settling.{code_here, code_next}
use Rattle.word_lowering.proofs.ShapeFacts.{shape_bytes, shapes_bytes}
use Rattle.word_lowering.proofs.Sites.{InMemory, around, next_base}
use Rattle.word_lowering.proofs.SitesApart.{IsPlace, houses}
use Rattle.word_lowering.proofs.Sources.{Lying, address_whole, lying_all}
use Rattle.word_lowering.proofs.StoredLater.{shape_some, shape_whole, stored_small}
use Rattle.word_lowering.proofs.ValueFacts.{value_plain}

-- so many of one shape
abbrev pub each : ℕ → Shape → Shapes
each zero s = no_shapes
each (suc n) s = shapes s (each n s)

each_bytes : (n : ℕ) (s : Shape) → shapes_bytes (each n s) ≡ n * shape_bytes s
each_bytes zero s = omega arith
each_bytes (suc n) s = let e = each_bytes n s in omega (arith, e)

module _ (x : Basis) (g : Both) (line : BlockLine) (rest : List BlockLine) (y : IsGood x (starts g line rest)) (to : ℕ)
    (there : IsThere g.call.site (of_value to)) (inside : InMemory (house g.call.site (of_value to)).home) where
  abbrev place : Housed
  place = house g.call.site (of_value to)

  abbrev first : ℕ
  first = address_of g.call.site.base place.home

  abbrev So : (lines k : List WordInstr) → ℕ → Type 0
  So lines k most = Sofar x g line rest y to there inside lines k most

  abbrev pub AllBits : List From → Values → Shapes → Type 0
  AllBits [] Nil no_shapes = Unit {0}
  AllBits (F.Value t ∷ from) (More v vs) (shapes s ss) = BitsOf x g line rest y to there inside t v s × AllBits from vs ss
  AllBits from vs ss = ⊥

  all_long : (from : List From) (vs : Values) (ss : Shapes) → AllBits from vs ss → bytes_all vs ≡ shapes_bytes ss
  all_long [] Nil no_shapes come = refl
  all_long [] Nil (shapes s ss) come = absurd come
  all_long [] (More v vs) ss come = absurd come
  all_long (F.Value t ∷ from) Nil ss come = absurd come
  all_long (F.Value t ∷ from) (More v vs) no_shapes come = absurd come
  all_long (F.Place t ∷ from) vs ss come = absurd come
  all_long (F.Value t ∷ from) (More v vs) (shapes s ss) come =
      let a = bits_long x g line rest y to there inside t v s come.0 in let b = all_long from vs ss come.1 in omega (arith, a, b)

  abbrev code_of : Home → List From → List WordInstr → List WordInstr
  code_of home from k = parts_code home (operands (around x.table x.blocks (body_of g)) from) k

  pub record AllStored (m : Memory) (before : ℕ) (lines k : List WordInstr) (a : ℕ) (ss : Shapes) (vs : Values) (most : ℕ) : Type 0 where
    pub sofar : So lines k most
    pub changed : Changed m sofar.memory a (shapes_bytes ss)
    pub stored : PartsStored (is_fixed g.ground) g.ground.blocks sofar.memory a ss vs
    pub more : before ≤ sofar.steps
    pub some : 0 < shapes_bytes ss → before < sofar.steps

  all_stored : (from : List From) (vs : Values) (ss : Shapes) → AllBits from vs ss → (home : Home) → InMemory home → (a : ℕ)
      → a ≡ address_of g.call.site.base home → first ≤ a → a + shapes_bytes ss ≤ first + place.bytes → a % 4 ≡ 0
      → (lines k : List WordInstr) (most : ℕ) → (o : So lines (code_of home from k) most)
      → AllStored o.memory o.steps lines k a ss vs (most + 5 * shapes_bytes ss)
  all_stored [] Nil no_shapes come home in_place a is low high whole lines k most o = record {
    sofar = more_most x g line rest y to there inside lines k most (most + 5 * 0) (omega arith) o;
    changed = changed_same o.memory a 0 o.good.sized;
    stored = tt;
    more = omega arith;
    some = λ h. absurd (omega (arith, h));
  }
  all_stored [] Nil (shapes s ss) come home in_place a is low high whole lines k most o = absurd come
  all_stored [] (More v vs) ss come home in_place a is low high whole lines k most o = absurd come
  all_stored (F.Value t ∷ from) Nil ss come home in_place a is low high whole lines k most o = absurd come
  all_stored (F.Value t ∷ from) (More v vs) no_shapes come home in_place a is low high whole lines k most o = absurd come
  all_stored (F.Place t ∷ from) vs ss come home in_place a is low high whole lines k most o = absurd come
  all_stored (F.Value t ∷ from) (More v vs) (shapes s ss) come home in_place a is low high whole lines k most o =
      let h : Housed = house g.call.site (of_value t) in
      let n : ℕ = shape_bytes s in
      let b = come.0 in
      let size : h.bytes ≡ shape_bytes s = sym (houses x.table x.blocks g.call.site (of_value t) y.linked.0 b.is_there).bytes ∙ ap shape_bytes b.look in
      let w : shape_bytes s % 4 ≡ 0 = shape_whole s in
      let least : 4 ≤ shape_bytes s = shape_some s in
      let p = any_part x g line rest y to there inside t v s b home in_place a is low (omega (arith, high)) whole lines
      (code_of (shifted h.bytes home) from k) most o in
      let address = shifted_address g.call.site.base h.bytes home in_place in
      let q = all_stored from vs ss come.1 (shifted h.bytes home) (shifted_inside h.bytes home in_place) (a + shape_bytes s)
      (omega (arith, is, address, size)) (omega (arith, low)) (omega (arith, high)) (omega (arith, whole, w)) lines k (most + (10 + 2 * shape_bytes s))
      p.sofar in
      record {
        sofar = more_most x g line rest y to there inside lines k (most + (10 + 2 * shape_bytes s) + 5 * shapes_bytes ss)
            (most + 5 * (shape_bytes s + shapes_bytes ss)) (omega (arith, least)) q.sofar;
        changed = changed_both o.memory p.sofar.memory q.sofar.memory a n (a + n) (shapes_bytes ss) a (n + shapes_bytes ss) p.changed q.changed
            (omega arith) (omega arith) (omega arith) (omega arith);
        stored = (
          stored_small (is_fixed g.ground) g.ground.blocks g.ground.blocks (later_same g.ground.blocks) p.sofar.memory q.sofar.memory a a s v
              (λ i u inner is_whole small read. q.changed.outside (a + i) (inl (omega (arith, inner))) ∙ read) p.stored,
          q.stored,
        );
        more = (let c = p.some in let d = q.more in omega (arith, c, d));
        some = λ any. (let c = p.some in let d = q.more in omega (arith, c, d));
      }

  -- ---- the value

  rows_stored : (m : Memory) (a n : ℕ) (s : Shape) (vs : Values) → PartsStored (is_fixed g.ground) g.ground.blocks m a (each n s) vs
      → (count vs ≡ n) × AreStored (is_fixed g.ground) g.ground.blocks m a s vs
  rows_stored m a zero s Nil at = (refl, tt)
  rows_stored m a zero s (More v vs) at = absurd at
  rows_stored m a (suc n) s Nil at = absurd at
  rows_stored m a (suc n) s (More v vs) at = let r = rows_stored m (a + shape_bytes s) n s vs at.1 in (ap suc r.0, (at.0, r.1))

  -- what parts of these shapes are together
  pub data Together (ss : Shapes) (whole : Shape) : Type 0 where
    a_tuple : whole ≡ parts ss → Together ss whole
    an_array : (n : ℕ) (s : Shape) → ss ≡ each n s → whole ≡ row n s → Together ss whole

  pub made_bits : (from : List From) (vs : Values) (ss : Shapes) (whole : Shape) → Together ss whole → AllBits from vs ss
      → looked x.table g.call.site (of_value to) ≡ whole → has_shape (Parts vs) whole ≡ true → 0 < shapes_bytes ss
      → code_here x g line rest y ≡ code_of place.home from (code_next x g line rest y)
      → Settles x (starts g line rest) rest (Passes (Answers [] (1 + (bytes (Parts vs) + 0)) (with_value to g.call.temps (Parts vs)) g.world))
  made_bits from vs ss whole together come look shaped some code =
      let here : List WordInstr = code_here x g line rest y in
      let next : List WordInstr = code_next x g line rest y in
      let sites = all_sites x g line rest y in
      let plain_is = value_plain place there.kind in
      let size : place.bytes ≡ shape_bytes whole = sym (houses x.table x.blocks g.call.site (of_value to) y.linked.0 there).bytes ∙ ap shape_bytes look in
      let least = together_bytes ss whole together in
      let long = all_long from vs ss come in
      let full = or_word_least (bytes_all vs) in
      let lying : Lying x (all_sites x g line rest y) y.linked first place.bytes
      = lying_all x (all_sites x g line rest y) y.linked g.call.site (of_value to) place.bytes (inl refl) there inside refl in
      let s0 : So (code_of place.home from next) (code_of place.home from next) 0 = record {
        memory = g.memory;
        vars = g.call.vars;
        words = g.words;
        awaits = g.awaits;
        good = y.memory;
        changed = changed_same g.memory first place.bytes y.memory.sized;
        same = all_same g.call.vars;
        steps = 0;
        few = omega arith;
        runs = (no_run (lower x) (run_at (within x.table x.blocks g) g.memory
            (code_of place.home from next) g.call.vars g.words));
      } in
      let d = all_stored from vs ss come place.home inside first refl (omega arith) (omega (arith, size, least))
      (address_whole x sites y.linked g.call.site (of_value to) (inl refl) there inside) (code_of place.home from next) next 0 s0 in
      let f = d.sofar in
      item_settles x g line rest y to (Parts vs) (5 * shapes_bytes ss) (1 + (bytes (Parts vs) + 0)) there (record {
        vars = f.vars;
        memory = f.memory;
        words = f.words;
        awaits = f.awaits;
        good = f.good;
        heap = heap_kept x sites y.linked g.memory f.memory first place.bytes y.memory f.changed lying;
        edit = somewhere first place.bytes
            (outside_still (IsPlace x.table x.blocks) (next_base (all_sites x g line rest y)) g.memory f.memory first place.bytes f.changed.outside)
            (inl refl) there inside (omega arith) (omega arith);
        variables = λ i u is_there ne at_home. f.same.others u (high_variable x g line rest y i u is_there at_home);
        left = f.same.left;
        steps = f.steps;
        some = (let h = d.some some in omega (arith, h));
        few = (let h = f.few in omega (arith, h));
        runs = subst (λ l. Runs x.live (all_procs x) f.steps (run_at (within x.table x.blocks g) g.memory l g.call.vars g.words)
            (run_at (awaiting (within x.table x.blocks g) f.awaits) f.memory next f.vars f.words)) (sym code) f.runs;
      }) (record {
        there = there;
        plain = plain_is;
        shaped = λ asked. subst (λ s. has_shape (Parts vs) s ≡ true) (sym look) shaped;
        at = to_home (store_with g f.memory) g.call.site.base f.vars (looked x.table g.call.site (of_value to)) place (Parts vs) plain_is inside
            (subst (λ s. Stored (is_fixed g.ground) g.ground.blocks f.memory first s (Parts vs)) (sym look)
            (as_whole f.memory whole together d.stored));
      }) (omega (arith, long, full))
    where
      together_bytes : (ss : Shapes) (whole : Shape) → Together ss whole → shapes_bytes ss ≤ shape_bytes whole
      together_bytes ss whole (a_tuple is) =
          let b : shape_bytes whole ≡ shape_bytes (parts ss) = ap shape_bytes is in
          let l = or_word_least (shapes_bytes ss) in omega (arith, b, l)
      together_bytes ss whole (an_array n s are is) =
          let e = each_bytes n s in
          let b : shapes_bytes ss ≡ shapes_bytes (each n s) = ap shapes_bytes are in
          let c : shape_bytes whole ≡ shape_bytes (row n s) = ap shape_bytes is in
          let l = or_word_least (n * shape_bytes s) in omega (arith, e, b, c, l)

      as_whole : (m : Memory) (whole : Shape) → Together ss whole → PartsStored (is_fixed g.ground) g.ground.blocks m first ss vs
          → Stored (is_fixed g.ground) g.ground.blocks m first whole (Parts vs)
      as_whole m whole (a_tuple is) at = subst (λ z. Stored (is_fixed g.ground) g.ground.blocks m first z (Parts vs)) (sym is) at
      as_whole m whole (an_array n s are is) at =
          subst (λ z. Stored (is_fixed g.ground) g.ground.blocks m first z (Parts vs)) (sym is)
          (rows_stored m first n s vs (subst (λ z. PartsStored (is_fixed g.ground) g.ground.blocks m first z vs) are at))

-- A temporary gets the value that stands at an address to which a home points: a word, or all of its bits.
use Rattle.nim_meaning.specs.Values.{Value, Number, Parts, Handle, Fixed, Ref, Resource, Gone, Vacant}
use Rattle.flat_code.specs.Shapes.{Shape, number, has_shape, is_ordinal, block, elements, parts, reference, resource, row}
use Rattle.word_code.specs.Words.{Vars, no_words}
use Rattle.word_lowering.specs.declared.homes.Home.{Home}
use Rattle.word_lowering.proofs.ValuesMoved.{awaits_behind}
use Rattle.word_lowering.proofs.StoredLater.{shape_some, shape_whole, word_below}
use Rattle.word_lowering.proofs.Moves.{number_to_variable, single_word, IsArea, IsBehind}
use Rattle.word_lowering.proofs.Gets.{Changes, good_item, heap_kept, high_variable, memory_kept}
use Rattle.word_lowering.proofs.OrdinalRuns.{AllBut, AllSame}
use Rattle.word_lowering.proofs.Lines.{Basis, IsGood, all_procs, all_sites, changed, starts}
use Rattle.flat_code.specs.declared.block.BlockLine.{BlockLine}
use Rattle.std.proofs.Common.{Bool, List, Option, Some, ap, ap₂, arith, false, inl, refl, subst, sym, true, ℕ, ℤ, ◌%◌, ◌*◌, ◌+◌, ◌<◌, ◌∙◌, ◌≡◌, ◌≤◌}
use Rattle.word_lowering.proofs.Related.{Both, StandAt, body_of, store_of, within}
use Rattle.word_lowering.specs.declared.homes.TheConstants.{FIRST}
use Rattle.word_lowering.specs.declared.homes.Housed.{Housed}
use Rattle.word_lowering.proofs.Blocks.{Stored}
use Rattle.word_lowering.proofs.Scenes.{IsThere, StoredIn, address_of, house, is_fixed, looked, of_value, Points}
use Rattle.word_lowering.specs.declared.spots.Spot.TheVariants.{Lies}
use Rattle.word_lowering.proofs.Sources.{Lying, Readable, lying_all, lying_area, lying_near}
use Rattle.word_code.specs.Memory.{Memory}
use Rattle.word_code.proofs.ForCallers.{Runs, at}
use Rattle.word_lowering.proofs.Sites.{Site, is_one_word, next_base}
use Rattle.word_code.specs.declared.word.WordInstr.{WordInstr}
use Rattle.word_lowering.proofs.RoutineCalls.{awaiting}
use Rattle.word_lowering.proofs.BitMoves.{bytes_moved, item_moved}
use Rattle.word_lowering.proofs.ValueFacts.{good_word, in_word, value_plain}
use Rattle.word_lowering.specs.Layouts.{holds_address}
use Rattle.word_lowering.proofs.SitesApart.{IsPlace, houses}
use Rattle.word_lowering.proofs.AddressFacts.{in_memory}
use Rattle.word_lowering.specs.Spots.{moved, spot_of}
use Rattle.word_lowering.proofs.ShapeFacts.{never, of_numbers, shape_bytes}
use Rattle.word_lowering.proofs.Keeping.{outside_still, points_there, somewhere, spot_memory}
use Rattle.flat_code.specs.Scene.{with_value}

-- arguments that were given are gone behind a call
abbrev pub words_behind : (one_word : Bool) → Vars → Vars
words_behind true words = words
words_behind false words = no_words

pub none_behind : (one_word : Bool) → words_behind one_word no_words ≡ no_words
none_behind true = refl
none_behind false = refl

module _ (x : Basis) (g : Both) (line : BlockLine) (rest : List BlockLine) (y : IsGood x (starts g line rest)) (t : ℕ)
    (there : IsThere g.call.site (of_value t)) (v : Value) (from : Home) (behind : IsBehind from) (a : ℕ)
    (points : Points g.call.site.base g.call.vars from a) (stored : StoredIn (store_of g) a (looked x.table g.call.site (of_value t)) v)
    (shaped : has_shape v (looked x.table g.call.site (of_value t)) ≡ true)
    (readable : Readable x (all_sites x g line rest y) y.linked g.memory a (shape_bytes (looked x.table g.call.site (of_value t))))
    (after : List BlockLine) (stand : StandAt x.table x.blocks (body_of g) after) (k : List WordInstr) where
  abbrev sites : List Site
  sites = all_sites x g line rest y

  abbrev into : Housed
  into = house g.call.site (of_value t)

  abbrev shape : Shape
  shape = looked x.table g.call.site (of_value t)

  abbrev pub reading : List WordInstr
  reading = moved (house g.call.site (of_value t)).is_word (house g.call.site (of_value t)).bytes (spot_of (house g.call.site (of_value t)))
      (Lies from) k

  pub record IsRead (awaits : ℕ) (words : Vars) : Type 0 where
    pub vars : Vars
    pub memory : Memory
    pub steps : ℕ
    pub some : 0 < steps
    pub few : steps ≤ 10 + 2 * shape_bytes (looked x.table g.call.site (of_value t))
    pub runs : Runs x.live (all_procs x) steps (at (within x.table x.blocks g) g.memory reading g.call.vars g.words)
        (at (awaiting (within x.table x.blocks g) awaits) memory k vars words)
    -- bits don't come by way of variables of places
    pub stay : is_one_word (looked x.table g.call.site (of_value t)) ≡ false → AllSame g.call.vars vars
    pub good : IsGood x (changed g after (with_value t g.call.temps v) vars memory words awaits g.world)

  plain_is : holds_address (house g.call.site (of_value t)) ≡ false
  plain_is = value_plain (house g.call.site (of_value t)) there.kind

  word_read : (values : Option ℕ) (z : ℤ) → looked x.table g.call.site (of_value t) ≡ number values → v ≡ Number z → IsRead g.awaits g.words
  word_read values z look is =
      let w = in_word x g.call.site t y.linked.0 there (ap is_one_word look) in
      let ordinal : is_ordinal values (Number z) ≡ true
      = subst (λ u. has_shape u (number values) ≡ true) is (subst (λ s. has_shape v s ≡ true) look shaped) in
      let four : shape_bytes shape ≡ 4 = ap shape_bytes look in
      let stands : Stored (is_fixed g.ground) g.ground.blocks g.memory a (number values) (Number z)
      = subst (λ u. Stored (is_fixed g.ground) g.ground.blocks g.memory a (number values) u) is
      (subst (λ s. Stored (is_fixed g.ground) g.ground.blocks g.memory a s v) look stored) in
      let near = readable.near in
      let r = number_to_variable x.law x.live (all_procs x) (within x.table x.blocks g) refl g.words g.memory k g.call.vars w.variable w.high z
      (word_below values z ordinal) into.is_word into.bytes (Lies from)
      (a, points, stands.0, omega (arith, near, four), subst (IsArea g.memory a) four readable.area) in
      record {
        vars = r.vars;
        memory = g.memory;
        steps = r.steps;
        some = r.some;
        few = (let f = r.few in omega (arith, f));
        runs = subst (λ p. Runs x.live (all_procs x) r.steps
            (at (within x.table x.blocks g) g.memory (moved into.is_word into.bytes p (Lies from) k) g.call.vars g.words)
            (at (within x.table x.blocks g) g.memory k r.vars g.words)) (sym w.spot) r.runs;
        stay = λ many. never (sym many ∙ ap is_one_word look);
        good = good_word x g line rest y after t v r.vars there (ap of_numbers look) shaped (ap is_one_word look)
            (subst (λ u. AllBut g.call.vars u r.vars) (sym w.is) r.but) (ap r.vars w.is ∙ r.given ∙ ap (λ u. Some (single_word u)) (sym is)) stand g.awaits;
      }

  bits_read : is_one_word (looked x.table g.call.site (of_value t)) ≡ false → IsRead FIRST no_words
  bits_read many =
      let inside = in_memory x g line rest y (of_value t) there plain_is many in
      let h = houses x.table x.blocks g.call.site (of_value t) y.linked.0 there in
      let n : ℕ = into.bytes in
      let home : Home = into.home in
      let start : ℕ = address_of g.call.site.base into.home in
      let size : shape_bytes shape ≡ n = h.bytes in
      let no_word : into.is_word ≡ false = sym h.word ∙ many in
      let lying : Lying x (all_sites x g line rest y) y.linked start n
      = lying_all x (all_sites x g line rest y) y.linked g.call.site (of_value t) n (inl refl) there inside refl in
      let there_read : Readable x (all_sites x g line rest y) y.linked g.memory a n
      = subst (Readable x (all_sites x g line rest y) y.linked g.memory a) size readable in
      let r = bytes_moved x (all_sites x g line rest y) y.linked (within x.table x.blocks g) refl g.words g.memory y.memory k g.call.vars home
      from start a n behind (points_there g.call.site.base g.call.vars home inside) points (subst (λ i. i % 4 ≡ 0) size (shape_whole shape))
      (subst (λ i. 4 ≤ i) size (shape_some shape)) (lying_area x (all_sites x g line rest y) y.linked g.memory start n y.memory lying)
      (lying_near x (all_sites x g line rest y) y.linked start n lying) there_read (there_read.separate start lying refl) in
      let code : reading ≡ moved false n (Lies home) (Lies from) k
      = ap₂ (λ b p. moved b into.bytes p (Lies from) k) no_word (spot_memory into plain_is inside) in
      let runs : Runs x.live (all_procs x) r.steps (at (within x.table x.blocks g) g.memory reading g.call.vars g.words)
      (at (awaiting (within x.table x.blocks g) FIRST) r.memory k r.vars_then no_words)
      = subst (λ l. Runs x.live (all_procs x) r.steps (at (within x.table x.blocks g) g.memory l g.call.vars g.words)
      (at (awaiting (within x.table x.blocks g) FIRST) r.memory k r.vars_then no_words)) (sym code) r.runs in
      let changes : Changes x g line rest y reading k (of_value t) (10 + 2 * n) = record {
        vars = r.vars_then;
        memory = r.memory;
        words = no_words;
        awaits = FIRST;
        good = memory_kept x (all_sites x g line rest y) y.linked g.memory r.memory start n y.memory r.changed lying;
        heap = heap_kept x (all_sites x g line rest y) y.linked g.memory r.memory start n y.memory r.changed lying;
        edit = somewhere start n
            (outside_still (IsPlace x.table x.blocks) (next_base (all_sites x g line rest y)) g.memory r.memory start n r.changed.outside) (inl refl) there
            inside (omega arith) (omega arith);
        variables = λ f u is_there ne at_home. r.kept.others u (high_variable x g line rest y f u is_there at_home);
        left = r.kept.left;
        steps = r.steps;
        some = r.some;
        few = r.few;
        runs = runs;
      } in
      record {
        vars = r.vars_then;
        memory = r.memory;
        steps = r.steps;
        some = r.some;
        few = (let f = r.few in omega (arith, f, size));
        runs = runs;
        stay = λ no_word. r.kept;
        good = good_item x g line rest y after stand reading k t v (10 + 2 * n) there changes
            (item_moved x g line rest y (of_value t) v (with_value t g.call.temps v) there inside plain_is (λ asked. shaped) stored
            (record { changes = changes; same = r.same }));
      }

  pub value_read : IsRead (awaits_behind (is_one_word (looked x.table g.call.site (of_value t))) g.awaits)
      (words_behind (is_one_word (looked x.table g.call.site (of_value t))) g.words)
  value_read = by (looked x.table g.call.site (of_value t)) refl
    where
      numbers : (values : Option ℕ) → looked x.table g.call.site (of_value t) ≡ number values → (u : Value) → v ≡ u → has_shape u (number values) ≡ true
          → IsRead g.awaits g.words
      numbers values look (Number z) is fits = word_read values z look is
      numbers values look (Parts vs) is fits = never fits
      numbers values look (Handle n k) is fits = never fits
      numbers values look (Fixed text) is fits = never fits
      numbers values look (Ref object) is fits = never fits
      numbers values look (Resource vs i) is fits = never fits
      numbers values look (Gone u final) is fits = never fits
      numbers values look Vacant is fits = never fits

      by : (s : Shape) → looked x.table g.call.site (of_value t) ≡ s → IsRead (awaits_behind (is_one_word s) g.awaits) (words_behind (is_one_word s) g.words)
      by (number values) look = numbers values look v refl (subst (λ s. has_shape v s ≡ true) look shaped)
      by reference look = bits_read (ap is_one_word look)
      by block look = bits_read (ap is_one_word look)
      by (elements s) look = bits_read (ap is_one_word look)
      by (row n s) look = bits_read (ap is_one_word look)
      by (parts ss) look = bits_read (ap is_one_word look)
      by (resource ss) look = bits_read (ap is_one_word look)
